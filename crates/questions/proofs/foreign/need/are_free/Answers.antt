use Rattle.std.proofs.Common.{arith, sym, subst, Vec, Global}
use Rattle.questions.specs.declared.foreign.need.Need.{Need}
use Rattle.questions.proofs.laws.PlainLaws.{IsFree}
use Rattle.questions.proofs.laws.TrailLaws.{items_next}
use Rattle.questions.proofs.foreign.need.are_free.Goals as goal

pub loop-chain-preserved : goal.loop-chain-preserved
loop-chain-preserved c =
    items_next IsFree c.args.chains.now c.loop-chain.chain-index c.chain-item.result (omega arith) c.chain-item.is c.loop-chain.invariant (rw c.as_slice.ensures.value at (c.are_empty.ensures.none c.if-not-are_empty.false))

pub returns-clause-none : goal.returns-clause-none
returns-clause-none c = λ t k d lt. c.loop-chain.invariant k d (omega (arith, lt))

pub returns-then-not-are_empty-clause-some : goal.returns-then-not-are_empty-clause-some
returns-then-not-are_empty-clause-some c = λ _ all.
    let Free : Vec (Vec Need Global) Global → Type 0 = λ chain. IsFree chain in
    let here : IsFree c.chain-item.result = subst Free (sym c.chain-item.is) (all c.loop-chain.chain-index c.chain-item.result (omega arith)) in
    c.are_empty.ensures.some c.if-not-are_empty.true (rw c.as_slice.ensures.value here)
