use Rattle.bits.proofs.laws.BitLaws.{removed_bit}
use Rattle.bits.proofs.words.remove_bit.Goals as goal

pub returns : goal.returns
returns c = removed_bit c.args.offset c.args.word c.from.result c.args.top c.from.ensures c.requires c.ranges.word.fits
