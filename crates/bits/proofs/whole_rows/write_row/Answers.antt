use Rattle.bits.proofs.laws.RowsLaws.{bit_written_in}
use Rattle.bits.proofs.whole_rows.write_row.Goals as goal

pub returns-clause-row : goal.returns-clause-row
returns-clause-row c = λ count size lt.
    bit_written_in c.args.width count c.args.i c.args.at c.set_bit.result c.index.result.now c.args.bit c.args.wholes.now.items size lt c.requires.place c.index.ensures c.set_bit.ensures
