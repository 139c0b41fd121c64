use Rattle.std.proofs.Common.{arith}
use Rattle.fields.proofs.laws.text.PutLaws.{puts-stopped, stopped-item}
use Rattle.rules.specs.steps.Writing.{option_value_text}
use Rattle.rules.proofs.printing.put_option_values.Goals as goal

pub returns-in_err-put_option_value : goal.returns-in_err-put_option_value
returns-in_err-put_option_value g c =
    puts-stopped _ _ _ _ _ c.from_residual.ensures.0 (stopped-item option_value_text c.args.option_values.now c.loop-option_value.option_value-index c.option_value-item.result (omega arith) c.option_value-item.is c.loop-option_value.invariant c.in_err-put_option_value.ensures)
