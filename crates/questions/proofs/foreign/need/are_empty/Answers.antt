use Rattle.std.proofs.Common.{◌≡◌, [], arith, length, Vec, Global}
use Rattle.std.proofs.lemmas.List.{nil_from_length}
use Rattle.questions.specs.declared.foreign.need.Need.{Need}
use Rattle.questions.proofs.laws.TrailLaws.{items_next}
use Rattle.questions.proofs.foreign.need.are_empty.Goals as goal

pub loop-needs-preserved : goal.loop-needs-preserved
loop-needs-preserved c =
    let none : length c.needs-item.result.items ≡ 0 = grind (arith, c.is_empty.ensures, c.if-not-is_empty.false, c.needs-item.result.ok.0) in
    items_next (λ (needs : Vec Need Global). needs.items ≡ []) c.args.chain.now c.loop-needs.needs-index c.needs-item.result (omega arith) c.needs-item.is c.loop-needs.invariant (nil_from_length c.needs-item.result.items none)

pub returns-clause-none : goal.returns-clause-none
returns-clause-none c = λ t k d lt. c.loop-needs.invariant k d (omega (arith, lt))
