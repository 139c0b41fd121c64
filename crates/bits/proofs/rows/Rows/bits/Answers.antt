use Rattle.std.proofs.Common.{sym}
use Rattle.bits.proofs.laws.RowsLaws.{row_len}
use Rattle.bits.proofs.rows.Rows.bits.Goals as goal

pub returns : goal.returns
returns c = sym (row_len _ _ _ _ c.args.self.now c.args.row c.self.invariant.0 c.self.view_is c.requires)
