use Rattle.std.proofs.Common.{ap₂, ◌∙◌}
use Rattle.clap.specs.Words.{App, with_subcommand}
use Rattle.programs.proofs.line.audit.program.Goals as goal

pub returns : goal.returns
returns c =
    let add : App → App → App = λ program subcommand. with_subcommand program subcommand.top in
    c.in_ok-program-8.ensures ∙ ap₂ add (c.in_ok-program-7.ensures
    ∙ ap₂ add (c.in_ok-program-6.ensures
    ∙ ap₂ add (c.in_ok-program-5.ensures
    ∙ ap₂ add (c.in_ok-program-4.ensures
    ∙ ap₂ add (c.in_ok-program-3.ensures
    ∙ ap₂ add (c.in_ok-program-2.ensures
    ∙ ap₂ add c.in_ok-program.ensures c.in_ok-dead.ensures.app) c.in_ok-compare.ensures.app) c.in_ok-tests.ensures.app) c.in_ok-cover.ensures.app) c.in_ok-reach.ensures.app) c.in_ok-walk.ensures.app) c.in_ok-assert.ensures.app
