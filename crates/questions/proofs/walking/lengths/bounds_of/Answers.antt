use Rattle.std.proofs.Common.{arith, ◌∙◌}
use Rattle.questions.proofs.laws.LengthLaws.{noughts_below}
use Rattle.questions.proofs.walking.lengths.bounds_of.Goals as goal

pub loop-init : goal.loop-init
loop-init c = record {
  long = omega (arith, c.in_ok-numbers.ensures.len, c.chain_count-count.ensures);
  least = λ bounds are. noughts_below c.chain_count-count.result c.in_ok-numbers.numbers.items bounds (c.in_ok-numbers.ensures.items_if_clones_equal (λ y e. e));
}

pub loop-preserved : goal.loop-preserved
loop-preserved c = record {
  long = c.raise.ensures.raised.long ∙ c.loop.invariant.long;
  least = λ bounds are. c.raise.ensures.raised.below bounds are (c.loop.invariant.least bounds are);
}

pub returns : goal.returns
returns c = record {
  bounds = c.raise.ensures.bounds c.loop-test.false;
  long = c.raise.ensures.raised.long ∙ c.loop.invariant.long;
  least = λ bounds are. c.raise.ensures.raised.below bounds are (c.loop.invariant.least bounds are);
}
