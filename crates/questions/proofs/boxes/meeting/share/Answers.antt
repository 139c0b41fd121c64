use Rattle.std.proofs.Common.{[], refl, sym, arith, List, ap, inl, inr, Bor, subst, true≢false}
use Rattle.fields.specs.declared.numbers.spans.Interval.{Interval}
use Rattle.fields.proofs.laws.numbers.MeetLaws.{Appended, appended_none, Advanced, meeting_next, meeting_ended}
use Rattle.questions.proofs.laws.PartLaws.{AreOf, common_of, of_behind}
use Rattle.questions.proofs.boxes.meeting.share.Goals as goal
use Rattle.questions.proofs.boxes.meeting.share.Goals.{then-a-b, else-a-b}

pub loop-a-preserved : goal.loop-a-preserved
loop-a-preserved c =
    let left = λ (r : Bor (List Interval) × Bor (List Interval)). r.0.now in
    let right = λ (r : Bor (List Interval) × Bor (List Interval)). r.1.now in
    let appended : Appended c.in-Some-Some.a.now c.in-Some-Some.b.now [] [] = appended_none _ _ _ _ _ _ c.max-first.ensures c.min-last.ensures c.if-first-last.false refl in
    let advanced : Advanced c.loop-a.left.now c.loop-a.right.now c.in-Some-Some.after_a.now c.in-Some-Some.after_b.now c.in-Some-Some.a.now c.in-Some-Some.b.now c.if-a-b.rests.0.now c.if-a-b.rests.1.now
    = elim c.if-a-b.branch [
      | then-a-b w ↦ (let is = w.rests-is in record { in_left = λ _. (ap left is, ap right is); in_right = λ lt. absurd (omega arith) })
      | else-a-b w ↦ (let is = w.rests-is in record { in_left = λ le. absurd (omega arith); in_right = λ _. (ap left is, ap right is) })
    ] in
    let Own : List Interval → Type 0 = λ is. AreOf is c.args.own.now.intervals in
    let Other : List Interval → Type 0 = λ is. AreOf is c.args.other.now.intervals in
    let own : Own c.if-a-b.rests.0.now = elim c.if-a-b.branch [
      | then-a-b w ↦ subst Own (sym (ap left w.rests-is)) (of_behind _ _ _ _ c.in-Some-Some.ensures.cases.0 c.loop-a.invariant.in_own)
      | else-a-b w ↦ subst Own (sym (ap left w.rests-is)) c.loop-a.invariant.in_own
    ] in
    let other : Other c.if-a-b.rests.1.now = elim c.if-a-b.branch [
      | then-a-b w ↦ subst Other (sym (ap right w.rests-is)) c.loop-a.invariant.in_other
      | else-a-b w ↦ subst Other (sym (ap right w.rests-is)) (of_behind _ _ _ _ c.in-Some-Some.ensures'.cases.0 c.loop-a.invariant.in_other)
    ] in
    record {
      meeting = meeting_next _ _ _ _ _ _ _ _ _ _ _ _ _ c.loop-a.invariant.meeting c.in-Some-Some.ensures.cases.0 c.in-Some-Some.ensures'.cases.0 appended advanced;
      in_own = own;
      in_other = other;
    }

pub returns-then-first-last-clause-some : goal.returns-then-first-last-clause-some
returns-then-first-last-clause-some c =
    λ _. common_of c.args.own.now c.args.other.now c.loop-a.left.now c.loop-a.right.now c.in-Some-Some.after_a.now c.in-Some-Some.after_b.now c.in-Some-Some.a.now c.in-Some-Some.b.now c.max-first.result c.min-last.result
    c.loop-a.invariant.meeting.left_rises c.in-Some-Some.ensures.cases.0 c.in-Some-Some.ensures'.cases.0 c.loop-a.invariant.in_own c.loop-a.invariant.in_other c.max-first.ensures c.min-last.ensures c.if-first-last.true

pub returns-then-first-last-clause-none : goal.returns-then-first-last-clause-none
returns-then-first-last-clause-none c = λ e. absurd (true≢false e)

pub returns-in_default-clause-none : goal.returns-in_default-clause-none
returns-in_default-clause-none c = λ _ x. sym ((meeting_ended _ _ _ _ _ _ c.loop-a.invariant.meeting (inr c.in_default.ensures'.cases)).members x)

pub returns-in_default-2-clause-none : goal.returns-in_default-2-clause-none
returns-in_default-2-clause-none c = λ _ x. sym ((meeting_ended _ _ _ _ _ _ c.loop-a.invariant.meeting (inl c.in_default.ensures.cases)).members x)
