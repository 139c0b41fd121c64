use Rattle.std.proofs.Common.{◌≡◌, ◌+◌, ◌≤◌, [], false}
use Rattle.fields.specs.text.Tap.{has_failed, is_late, turns_left}
use Rattle.sessions.specs.line.Outcome.{has_ended}
use Rattle.sessions.specs.run.Views.{moment_on}
use Rattle.sessions.specs.run.Console.{HasSameTaps, reader, writer}
use Rattle.sessions.specs.steps.Lines.{state_of}
use Rattle.sessions.proofs.laws.run.ReachedLaws.{Reached}
use Rattle.sessions.proofs.run.session.Session.execute_lines.Given as goal

abbrev pub invariant-lines : goal.invariant-lines
invariant-lines g l = record {
  reached : Reached (state_of l.initial.self.table.table l.initial.progress []) (moment_on g.R.Read.remaining g.W.Write.contents l.initial.self l.initial.console)
      (moment_on g.R.Read.remaining g.W.Write.contents l.self l.console) l.progress;
  same : HasSameTaps l.initial.console l.console;
  prompt : is_late (reader l.console) ≡ is_late (reader l.initial.console);
  fresh : has_failed (reader l.console) ≡ false;
  open_out : has_failed (writer l.console) ≡ false;
  going : has_ended l.progress.mode ≡ false;
  counted : l.progress.number + turns_left (reader l.console) ≤ l._limit;
}

abbrev pub decreases-lines : goal.decreases-lines
decreases-lines g l = turns_left (reader l.console)
