use Rattle.sessions.proofs.laws.run.ReachedLaws.{gives_nothing}
use Rattle.sessions.specs.run.Console.{writer}
use Rattle.sessions.proofs.run.session.hand_on_in_time.Goals as goal

pub returns-in-Err-clause-given : goal.returns-in-Err-clause-given
returns-in-Err-clause-given g c = gives_nothing g.W.Write.contents (writer c.args.console.now) c.hand_on.new.output c.hand_on.result (c.hand_on.ensures.puts c.requires)
