use Rattle.std.proofs.Common.{take, flat_map}
use Rattle.fields.specs.text.Tap.{Wrote}
use Rattle.rules.specs.steps.Writing.{option_value_text}
use Rattle.rules.proofs.printing.put_option_values.Given as goal

abbrev pub invariant-loop-option_value : goal.invariant-loop-option_value
invariant-loop-option_value g l = Wrote g.W.Write.contents l.initial.output l.output (flat_map option_value_text (take l.option_value-index l.option_values))
