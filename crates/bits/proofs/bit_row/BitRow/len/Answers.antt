use Rattle.std.proofs.Common.{sym, ◌∙◌, ap, length}
use Rattle.bits.specs.BitRow.{BitsAndRoom}
use Rattle.bits.proofs.laws.RowLaws.{front_len}
use Rattle.bits.proofs.bit_row.BitRow.len.Goals as goal

pub returns : goal.returns
returns c = sym (front_len c.self.inside.words.items c.self.inside.len c.self.invariant) ∙ ap (λ (r : BitsAndRoom). length r.bits) c.self.view_is
