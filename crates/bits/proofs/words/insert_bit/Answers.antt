use Rattle.bits.proofs.laws.BitLaws.{inserted_bit}
use Rattle.bits.proofs.words.insert_bit.Goals as goal

pub returns : goal.returns
returns c = inserted_bit c.args.offset c.args.word c.from.result c.args.bit c.from.ensures c.requires c.ranges.word.fits
