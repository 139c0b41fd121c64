use Rattle.std.proofs.Common.{◌≡◌, take}
use Rattle.rules.proofs.rule.copy.copy_option_values.Given as goal

abbrev pub invariant-loop-option_value : goal.invariant-loop-option_value
invariant-loop-option_value l = l.copies.items ≡ take l.option_value-index l.option_values
