use Rattle.std.proofs.Common.{Vec, Global, sym, arith, take_all}
use Rattle.std.proofs.lemmas.List.{take_more}
use Rattle.std.proofs.lemmas.List.Elements.{All-push}
use Rattle.questions.specs.declared.foreign.need.Need.{Need}
use Rattle.questions.specs.steps.Answered.{AreAlikeInChain, AreFreeInChain}
use Rattle.questions.proofs.laws.RemainLaws.{left_alike, left_free, one_more}
use Rattle.questions.proofs.foreign.left.needs_left.Goals as goal

pub returns-clause-same : goal.returns-clause-same
returns-clause-same c = λ a t agrees.
    let all = rw (take_all c.loop-chain.chain-index c.listed-chain-items.result.now (omega (arith, c.loop-chain-test.false))) at c.loop-chain.invariant.alike in
    rw (← c.listed-chain-items.ensures) (rw c.of.ensures (left_alike c.args.answers.now a agrees c.listed-chain-items.result.now c.loop-chain.left.items all t))

pub returns-clause-free : goal.returns-clause-free
returns-clause-free c = λ a b t agree. rw c.of.ensures (left_free c.args.answers.now a b agree c.loop-chain.left.items c.loop-chain.invariant.free t)

pub loop-chain-preserved : goal.loop-chain-preserved
loop-chain-preserved c =
    let own = c.in_ok-left_in.field-0 in
    rw (c.in_ok-push.ensures.items, take_more c.listed-chain-items.result.now c.loop-chain.chain-index c.chain-item.result c.loop-chain-test.true, sym c.chain-item.is) (record {
      free = All-push (λ (chain : Vec (Vec Need Global) Global). AreFreeInChain c.args.answers.now chain.items) c.loop-chain.left.items own c.loop-chain.invariant.free c.in_ok-left_in.ensures.free;
      alike = one_more (λ (chain other : Vec (Vec Need Global) Global). AreAlikeInChain c.args.answers.now chain.items other.items) _ c.loop-chain.left.items c.chain-item.result own c.loop-chain.invariant.alike (rw c.as_slice.ensures.value at c.in_ok-left_in.ensures.alike);
    })
