use Rattle.fields.proofs.laws.text.LineLaws.{goes_on, ends}
use Rattle.fields.proofs.text.tap.Tap.read_part.Goals as goal

pub returns-in-Ok-More-clause-reads : goal.returns-in-Ok-More-clause-reads
returns-in-Ok-More-clause-reads g c first turns part =
    goes_on _ _ _ _ _ _ _ _ _ _ _ c.in-Ok-More.ensures.turns part (rw c.in-Ok-More.field-0-is at c.in-Ok-More.ensures.takes)

pub returns-in-Ok-Newline-clause-reads : goal.returns-in-Ok-Newline-clause-reads
returns-in-Ok-Newline-clause-reads g c first turns part =
    ends _ _ _ _ _ _ _ _ _ _ _ c.in-Ok-Newline.ensures.turns part (rw c.in-Ok-Newline.field-0-is at c.in-Ok-Newline.ensures.takes)
