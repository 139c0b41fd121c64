use Rattle.std.proofs.Common.{length, drop, Some, None}
use Rattle.std.proofs.lemmas.Bool.{false≢true}
use Rattle.restore.specs.steps.Reading.{row_of}
use Rattle.restore.proofs.laws.commands.NextLaws.{followed_by}
use Rattle.restore.proofs.laws.commands.LineLaws.{along}
use Rattle.restore.proofs.command.line.command_named.Goals as goal

pub returns-in-Some : goal.returns-in-Some
returns-in-Some c =
    let end = length c.args.words.now in
    let rest = drop c.args.place c.args.words.now in
    along c.parse_args.result _ ((row_of c.in-Some.name).follows end rest)
    (followed_by c.args.command_names.now c.args.name.now (Some c.in-Some.name) end rest c.in-Some.ensures) c.parse_args.ensures

pub returns-in-None : goal.returns-in-None
returns-in-None c =
    (followed_by c.args.command_names.now c.args.name.now None (length c.args.words.now) (drop c.args.place c.args.words.now) c.in-None.ensures, λ ran_out. absurd (false≢true ran_out))
