use Rattle.std.proofs.Common.{take, flat_map}
use Rattle.fields.specs.text.Tap.{Wrote}
use Rattle.fields.specs.values.FreeText.{escaped}
use Rattle.fields.proofs.values.free_text.put_escaped.Given as goal

abbrev pub invariant-loop-byte : goal.invariant-loop-byte
invariant-loop-byte g l = Wrote g.W.Write.contents l.initial.output l.output (flat_map escaped (take l.byte-index l.text))
