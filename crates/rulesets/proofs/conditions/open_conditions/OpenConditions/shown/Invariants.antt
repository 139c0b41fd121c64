use Rattle.std.proofs.Common.{◌≡◌, take}
use Rattle.rulesets.specs.OpenConditions.{open_among}
use Rattle.rulesets.proofs.conditions.open_conditions.OpenConditions.shown.Given as goal

abbrev pub invariant-loop-answer : goal.invariant-loop-answer
invariant-loop-answer l = l.shown.items ≡ open_among l.self.given.items (take l.answer-index l.answer-items)
