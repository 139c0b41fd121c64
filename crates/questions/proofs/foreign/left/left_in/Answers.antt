use Rattle.std.proofs.Common.{Vec, Global, sym, arith, take_all}
use Rattle.std.proofs.lemmas.List.{take_more}
use Rattle.std.proofs.lemmas.List.Elements.{All-push}
use Rattle.questions.specs.declared.foreign.need.Need.{Need}
use Rattle.questions.specs.steps.Answered.{AreAlike, AreFree}
use Rattle.questions.proofs.laws.RemainLaws.{one_more}
use Rattle.questions.proofs.foreign.left.left_in.Goals as goal

pub returns-clause-alike : goal.returns-clause-alike
returns-clause-alike c =
    rw (take_all c.loop-needs.needs-index c.args.chain.now (omega (arith, c.loop-needs-test.false))) at c.loop-needs.invariant.alike

pub returns-clause-free : goal.returns-clause-free
returns-clause-free c = c.loop-needs.invariant.free

pub loop-needs-preserved : goal.loop-needs-preserved
loop-needs-preserved c =
    let own = c.in_ok-left_of.field-0 in
    rw (c.in_ok-push.ensures.items, take_more c.args.chain.now c.loop-needs.needs-index c.needs-item.result c.loop-needs-test.true, sym c.needs-item.is) (record {
      free = All-push (λ (needs : Vec Need Global). AreFree c.args.answers.now needs.items) c.loop-needs.lists.items own c.loop-needs.invariant.free c.in_ok-left_of.ensures.free;
      alike = one_more (λ (needs other : Vec Need Global). AreAlike c.args.answers.now needs.items other.items) _ c.loop-needs.lists.items c.needs-item.result own c.loop-needs.invariant.alike (rw c.as_slice.ensures.value at c.in_ok-left_of.ensures.alike);
    })
