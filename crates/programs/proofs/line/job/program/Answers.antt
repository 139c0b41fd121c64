use Rattle.std.proofs.Common.{ap₂, ◌∙◌}
use Rattle.clap.specs.Words.{App, with_subcommand}
use Rattle.programs.proofs.line.job.program.Goals as goal

pub returns : goal.returns
returns c =
    let add : App → App → App = λ program subcommand. with_subcommand program subcommand.top in
    c.in_ok-program-3.ensures ∙ ap₂ add (c.in_ok-program-2.ensures
    ∙ ap₂ add c.in_ok-program.ensures c.in_ok-session.ensures.app) c.in_ok-restore.ensures.app
