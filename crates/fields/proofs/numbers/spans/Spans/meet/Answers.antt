use Rattle.std.proofs.Common.{◌≡◌, sym, ◌∙◌, arith, ℕ, List, ap, subst, inl, inr, Bor}
use Rattle.smallvec.specs.SmallVec.{SmallVec}
use Rattle.fields.specs.declared.numbers.spans.Interval.{Interval}
use Rattle.fields.specs.numbers.Spans.{SpanSet, AreSpansFrom}
use Rattle.fields.proofs.laws.numbers.MeetLaws.{Appended, appended_shared, appended_none, Advanced, meeting_next, meeting_ended, IsMeet}
use Rattle.fields.proofs.numbers.spans.Spans.meet.Goals as goal
use Rattle.fields.proofs.numbers.spans.Spans.meet.Goals.{then-first-last+in_ok-push, else-first-last, then-a-b, else-a-b, in_default, in_default-2}

pub loop-a-preserved : goal.loop-a-preserved
loop-a-preserved c =
    let items = λ (v : SmallVec Interval). v.items in
    let left = λ (r : Bor (List Interval) × Bor (List Interval)). r.0.now in
    let right = λ (r : Bor (List Interval) × Bor (List Interval)). r.1.now in
    let appended : Appended c.in-Some-Some.a.now c.in-Some-Some.b.now c.loop-a.shared.items c.if-first-last.shared.items = elim c.if-first-last.branch [
      | then-first-last+in_ok-push w ↦ appended_shared _ _ _ _ _ _ c.max-first.ensures c.min-last.ensures w.if-first-last.true (ap items w.shared-is ∙ w.in_ok-push.ensures.ok)
      | else-first-last w ↦ appended_none _ _ _ _ _ _ c.max-first.ensures c.min-last.ensures w.if-first-last.false (ap items w.shared-is)
    ] in
    let advanced : Advanced c.loop-a.left.now c.loop-a.right.now c.in-Some-Some.after_a.now c.in-Some-Some.after_b.now c.in-Some-Some.a.now c.in-Some-Some.b.now c.if-a-b.rests.0.now c.if-a-b.rests.1.now
    = elim c.if-a-b.branch [
      | then-a-b w ↦ (let is = w.rests-is in record { in_left = λ _. (ap left is, ap right is); in_right = λ lt. absurd (omega arith) })
      | else-a-b w ↦ (let is = w.rests-is in record { in_left = λ le. absurd (omega arith); in_right = λ _. (ap left is, ap right is) })
    ] in
    meeting_next _ _ _ _ _ _ _ _ _ _ _ _ _ c.loop-a.invariant c.in-Some-Some.ensures.cases.0 c.in-Some-Some.ensures'.cases.0 appended advanced

shared : (c : goal.Joined-split_first) → IsMeet c.args.self.now.top c.args.self.now.intervals c.args.other.now.intervals c.loop-a.shared.items
shared c = meeting_ended _ _ _ _ _ _ c.loop-a.invariant (elim c.match-split_first.branch [ in_default w ↦ inr w.in_default.ensures'.cases | in_default-2 w ↦ inl w.in_default.ensures.cases ])

pub invariant_of-result : goal.invariant_of-result
invariant_of-result c =
    let top : c.self.inside.top ≡ c.args.self.now.top = ap (λ (s : SpanSet). s.top) c.self.view_is in
    subst (λ (n : ℕ). AreSpansFrom n 0 c.loop-a.shared.items) (sym top) (shared c).rise

pub returns-clause-members : goal.returns-clause-members
returns-clause-members c = (shared c).members
