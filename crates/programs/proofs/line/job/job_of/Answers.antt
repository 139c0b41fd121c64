use Rattle.std.proofs.Common.{rules, codes, ◌∙◌}
use Rattle.clap.specs.Words.{found_of}
use Rattle.clap.proofs.WalkLemmas.{first_value-rows}
use Rattle.programs.proofs.line.job.job_of.Goals.{in-session, in-restore}
use Rattle.programs.proofs.line.job.job_of.Goals as goal

pub returns : goal.returns
returns c = (
  elim c.match-subcommand.branch [
    | in-session w ↦ rw w.task-is (search rules)
    | in-restore w ↦ rw w.task-is (search rules, w.is_set.ensures, w.is_set-in-restore.ensures)
  ],
  c.get_str.ensures ∙ first_value-rows (found_of c.args.matches.now) (codes "load"),
)
