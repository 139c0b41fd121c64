use Rattle.std.proofs.Common.{◌≡◌, ◌≤◌, [], false, vec_len, vec_capacity}
use Rattle.std.specs.Io.KnownBytes.{Appends}
use Rattle.fields.specs.text.Tap.{has_failed, is_late, known, turns_left}
use Rattle.fields.specs.text.Line.{ReadsPart}
use Rattle.sessions.specs.run.Console.{HasSameTaps, reader, writer}
use Rattle.sessions.proofs.run.session.next_line.Given as goal

-- a part of the line was read, and the writer was given nothing
abbrev pub invariant-parts : goal.invariant-parts
invariant-parts g l = record {
  same : HasSameTaps l.initial.console l.console;
  prompt : is_late (reader l.console) ≡ is_late (reader l.initial.console);
  reads : ReadsPart (known g.R.Read.remaining (reader l.initial.console)) (known g.R.Read.remaining (reader l.console)) (turns_left (reader l.initial.console)) (turns_left (reader l.console)) 10240 l.line.items l.too_long;
  given : Appends (known g.W.Write.contents (writer l.initial.console)) (known g.W.Write.contents (writer l.console)) [];
  still : turns_left (reader l.console) ≡ turns_left (reader l.initial.console) → (reader l.console ≡ reader l.initial.console) × (writer l.console ≡ writer l.initial.console);
  fresh : has_failed (reader l.console) ≡ false;
  open_out : has_failed (writer l.console) ≡ false;
  within : vec_len l.line ≤ 10240;
  room : 10240 ≤ vec_capacity l.line;
  capacity : vec_capacity l.fn.line ≤ vec_capacity l.line;
  turns : turns_left (reader l.console) ≤ turns_left (reader l.initial.console);
}

abbrev pub decreases-parts : goal.decreases-parts
decreases-parts g l = turns_left (reader l.console)
