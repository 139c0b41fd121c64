use Rattle.std.proofs.Common.{length}
use Rattle.questions.proofs.seeking.straying.+part_by.Given as goal

abbrev pub decreases-part_by : goal.decreases-part_by
decreases-part_by l = length l.path.now
