use Rattle.std.proofs.Common.{inl, inr, arith}
use Rattle.questions.proofs.laws.AreaLaws.{parts_next, leaves_somewhere, none_in}
use Rattle.questions.proofs.laws.PartLaws.{left_next, none_left}
use Rattle.questions.proofs.boxes.cut.outside.Goals as goal

pub loop-done-init : goal.loop-done-init
loop-done-init c = record {
  all = λ numbers k lt le point has leaves. absurd (omega (arith, lt, le));
  only = λ numbers point some. absurd (none_in c.new-parts.result.items numbers c.new-parts.ensures.items some);
  left = none_left c.args.other.now c.new-parts.result.items c.new-parts.ensures.items;
}

pub loop-done-preserved : goal.loop-done-preserved
loop-done-preserved c = record {
  all = parts_next c.args.other.now c.args.own.now c.loop-done.parts.items c.put_part.new.parts.items c.loop-done.done (omega (arith, c.loop-done-test.true)) c.in_ok-put_part.ensures.kept c.in_ok-put_part.ensures.added c.loop-done.invariant.all;
  only = λ numbers point some. elim (c.in_ok-put_part.ensures.only numbers point some) [
    | inl before ↦ c.loop-done.invariant.only numbers point before
    | inr part ↦ part
  ];
  left = left_next c.loop-done.done c.args.other.now c.loop-done.parts.items c.put_part.new.parts.items (omega (arith, c.loop-done-test.true)) c.in_ok-put_part.ensures.leaves c.loop-done.invariant.left;
}

pub returns-clause-all : goal.returns-clause-all
returns-clause-all c = λ numbers point has lacks. (let w = leaves_somewhere c.args.other.now numbers lacks in c.loop-done.invariant.all numbers w.0 w.1 (omega (arith, w.1)) point has w.2)

pub returns-clause-only : goal.returns-clause-only
returns-clause-only c = c.loop-done.invariant.only

pub returns-clause-disjoint : goal.returns-clause-disjoint
returns-clause-disjoint c = c.loop-done.invariant.left.disjoint

pub returns-clause-few : goal.returns-clause-few
returns-clause-few c = omega (arith, c.loop-done.invariant.left.few, c.loop-done-test.false, c.loop-done.auto)
