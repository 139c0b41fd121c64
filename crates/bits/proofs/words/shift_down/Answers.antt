use Rattle.bits.proofs.laws.BitLaws.{moved_down}
use Rattle.bits.proofs.words.shift_down.Goals as goal

pub returns : goal.returns
returns c = moved_down c.args.word c.args.above c.ranges.word.fits
