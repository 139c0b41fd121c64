use Rattle.std.proofs.Common.{ap}
use Rattle.std.proofs.lemmas.List.{take_rest}
use Rattle.fields.specs.text.Words.{Bare}
use Rattle.fields.specs.steps.Cutting.{placed, view_cutting}
use Rattle.fields.proofs.laws.text.CuttingLaws.{advanced}
use Rattle.fields.proofs.text.cutting.Cutting.take_run.Goals as goal

pub returns-clause-advances : goal.returns-clause-advances
returns-clause-advances c =
    let bytes = c.args.bytes.now in
    let n = c.args.run in
    advanced n bytes _ (view_cutting c.args.self.now) _ c.requires.some c.requires.within c.requires.unquoted c.requires.run
    (ap (placed Bare) (c.in_ok-join_all.ensures.joined)) (take_rest bytes n)
