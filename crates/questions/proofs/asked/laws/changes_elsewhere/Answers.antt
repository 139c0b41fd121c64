use Rattle.questions.proofs.laws.ElsewhereLaws.{elsewhere}
use Rattle.questions.proofs.asked.laws.changes_elsewhere.Goals as goal

pub returns : goal.returns
returns c = elsewhere
