use Rattle.std.proofs.Common.{◌≡◌, drop}
use Rattle.rules.specs.rule.Actions.{reject_in}
use Rattle.rules.proofs.rule.reject_in.Given as goal

abbrev pub invariant-loop-option_value : goal.invariant-loop-option_value
invariant-loop-option_value l = reject_in (drop l.option_value-index l.target_options) ≡ reject_in l.target_options
