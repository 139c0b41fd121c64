use Rattle.std.proofs.Common.{◌≡◌, sym, ◌∙◌, arith, get_or, ℕ, ap, subst, None}
use Rattle.smallvec.specs.SmallVec.{SmallVec}
use Rattle.fields.specs.declared.numbers.spans.Interval.{Interval}
use Rattle.fields.specs.numbers.Spans.{SpanSet, AreSpansFrom}
use Rattle.fields.proofs.laws.numbers.MeetLaws.{AreGapsFrom, GapAppended, StartsBehind, excepting_next, excepting_ended, gap_appended, no_room, no_start, begins_within, last_gap_appended, no_last}
use Rattle.fields.proofs.numbers.spans.Spans.except.Goals as goal
use Rattle.fields.proofs.numbers.spans.Spans.except.Goals.{in-Some+then-first-taken+in_ok-push, in_default, in_default-via-in-None-1, in_default-via-in-Some+else-first-taken, then-taken-self, else-taken-self, in-Some-start+in_ok-push-2, in_default2}

pub loop-taken-preserved : goal.loop-taken-preserved
loop-taken-preserved c =
    let top : c.self.inside.top ≡ c.args.self.now.top = ap (λ (s : SpanSet). s.top) c.self.view_is in
    let items = λ (v : SmallVec Interval). v.items in
    let zeros : Interval = record { first = 0; last = 0 } in
    let taken : Interval = get_or c.as_slice-taken-items.result.now c.loop-taken.taken-index zeros in
    let appended : GapAppended c.args.self.now.top taken c.loop-taken.start c.loop-taken.gaps.items c.match-start.gaps.items = elim c.match-start.branch [
      | in-Some+then-first-taken+in_ok-push w ↦ gap_appended _ _ _ _ _ _ w.in-Some.is w.if-first-taken.true (ap items w.gaps-is ∙ w.in_ok-push.ensures.ok)
      | in_default w ↦ elim w.in_default.branch [
        | in_default-via-in-None-1 w' ↦ (
            let none : c.loop-taken.start ≡ None = cc in
            no_start _ _ _ _ _ none (begins_within _ _ _ _ _ _ zeros c.loop-taken-test.true c.loop-taken.invariant) (ap items w.gaps-is))
        | in_default-via-in-Some+else-first-taken w' ↦ no_room _ _ _ _ _ _ w'.in-Some.is w'.if-first-taken.false (ap items w.gaps-is)
      ]
    ] in
    let behind : StartsBehind c.args.self.now.top taken c.if-taken-self.start = elim c.if-taken-self.branch [
      | then-taken-self w ↦ (let is = w.start-is in record { some = λ _. is; none = λ le. absurd (omega arith) })
      | else-taken-self w ↦ (let is = w.start-is in record { some = λ lt. absurd (omega arith); none = λ _. is })
    ] in
    excepting_next _ _ _ _ _ _ _ _ zeros c.loop-taken-test.true c.loop-taken.invariant appended behind

all_gaps : (c : goal.Joined-start-2) → AreGapsFrom c.args.self.now.top 0 c.args.self.now.intervals c.match-start-2.gaps.items
all_gaps c =
    let top : c.self.inside.top ≡ c.args.self.now.top = ap (λ (s : SpanSet). s.top) c.self.view_is in
    let items = λ (v : SmallVec Interval). v.items in
    excepting_ended _ _ _ _ _ _ _ c.loop-taken-test.false c.loop-taken.invariant (elim c.match-start-2.branch [
      | in-Some-start+in_ok-push-2 w ↦ last_gap_appended _ _ _ _ _ _ w.in-Some-start.is c.loop-taken.invariant.within top (ap items w.gaps-is ∙ w.in_ok-push-2.ensures.ok)
      | in_default2 w ↦ (let none : c.loop-taken.start ≡ None = cc in no_last _ _ _ _ none (ap items w.gaps-is))
    ])

pub invariant_of-result : goal.invariant_of-result
invariant_of-result c =
    let top : c.self.inside.top ≡ c.args.self.now.top = ap (λ (s : SpanSet). s.top) c.self.view_is in
    subst (λ (n : ℕ). AreSpansFrom n 0 c.match-start-2.gaps.items) (sym top) (all_gaps c).rise

pub returns-clause-members : goal.returns-clause-members
returns-clause-members c x le = (all_gaps c).members x (omega arith) le
