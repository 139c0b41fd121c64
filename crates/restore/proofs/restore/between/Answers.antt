use Rattle.std.proofs.Common.{◌∙◌, sym}
use Rattle.restore.proofs.laws.sections.ByteLaws.{not_allowed}
use Rattle.restore.proofs.restore.between.Goals as goal

pub returns-then-is_commit-clause-step : goal.returns-then-is_commit-clause-step
returns-then-is_commit-clause-step c =
    not_allowed c.args.noflush c.args.table.now.table c.args.line.now (sym c.is_quiet.ensures ∙ c.if-is_quiet.false) (sym c.is_commit.ensures ∙ c.if-is_commit.true)
