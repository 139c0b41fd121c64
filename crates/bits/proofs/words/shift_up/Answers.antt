use Rattle.bits.proofs.laws.BitLaws.{moved_up}
use Rattle.bits.proofs.words.shift_up.Goals as goal

pub returns : goal.returns
returns c = moved_up c.args.word c.args.below c.ranges.word.fits c.ranges.below.fits
