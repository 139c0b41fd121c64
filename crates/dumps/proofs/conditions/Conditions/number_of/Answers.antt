use Rattle.std.proofs.Common.{ap, ◌∙◌, Some}
use Rattle.dumps.specs.Numbers.{Identity}
use Rattle.dumps.specs.Views.{asked_with}
use Rattle.dumps.proofs.laws.NumberLaws.{added_there}
use Rattle.dumps.proofs.conditions.Conditions.number_of.Goals as goal

pub returns-in-Some-clause-after : goal.returns-in-Some-clause-after
returns-in-Some-clause-after c =
    added_there c.args.self.now (asked_with c.args.need.now c.args.place) c.in-Some.number (c.in-Some.ensures ∙ ap (λ (x : Identity). Some x) c.in_ok-key.ensures)
