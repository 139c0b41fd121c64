use Rattle.std.proofs.Common.{arith}
use Rattle.fields.specs.values.FreeText.{escaped}
use Rattle.fields.proofs.laws.text.PutLaws.{puts-stopped, stopped-at}
use Rattle.fields.proofs.values.free_text.put_escaped.Goals as goal

pub returns-in_err-put_escaped_byte : goal.returns-in_err-put_escaped_byte
returns-in_err-put_escaped_byte g c =
    puts-stopped _ _ _ _ _ c.from_residual.ensures.0 (stopped-at escaped c.args.text.now c.loop-byte.byte-index 0 (omega arith) c.loop-byte.invariant c.in_err-put_escaped_byte.ensures)
