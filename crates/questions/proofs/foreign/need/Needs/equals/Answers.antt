use Rattle.questions.proofs.laws.EqualLaws.{same_needs}
use Rattle.questions.proofs.foreign.need.Needs.equals.Goals as goal

pub returns : goal.returns
returns c = rw (← c.listed.ensures, ← c.listed-2.ensures) (same_needs c.listed.result.now c.listed-2.result.now c.eq.result c.eq.ensures)
