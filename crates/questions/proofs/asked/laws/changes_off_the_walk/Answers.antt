use Rattle.questions.proofs.laws.ElsewhereLaws.{off_the_walk}
use Rattle.questions.proofs.asked.laws.changes_off_the_walk.Goals as goal

pub returns : goal.returns
returns c = off_the_walk
