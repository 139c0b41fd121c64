use Rattle.restore.proofs.laws.sections.ByteLaws.{quiet_by}
use Rattle.std.proofs.Common.{Some, None}
use Rattle.restore.proofs.section.quiet.is_quiet.Goals as goal

pub returns-in-None : goal.returns-in-None
returns-in-None c = quiet_by c.args.line.now c.after_blanks.result.now c.first.result None c.in-None.is c.first.ensures.value c.after_blanks.ensures

pub returns-in-Some : goal.returns-in-Some
returns-in-Some c =
    quiet_by c.args.line.now c.after_blanks.result.now c.first.result (Some c.in-Some.byte) c.in-Some.is c.first.ensures.value c.after_blanks.ensures
