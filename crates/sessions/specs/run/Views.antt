-- What contracts say of a session: its table, the boxes that it made, and its devices.
use Rattle.std.specs.Prelude.{ℕ, List, Option}
use Rattle.fields.specs.declared.text.tap.Tap.{Tap}
use Rattle.fields.specs.text.Tap.{known}
use Rattle.table.specs.chains.Table.{TableView}
use Rattle.sessions.specs.declared.run.console.Console.{Console}
use Rattle.sessions.specs.run.Console.{reader, writer}
use Rattle.sessions.specs.run.Run.{Moment}
use Rattle.sessions.specs.declared.run.session.Session.{Session}

-- the table that a session shows
abbrev pub table_of : Session → TableView
table_of s = s.table

-- how many boxes the lines of a session made
abbrev pub boxes_of : Session → ℕ
boxes_of s = s.work

-- a session and its devices, by what is known of them
abbrev pub moment : {R W : Type 0} → (R → Option (List ℕ)) → (W → Option (List ℕ)) → Session → Tap R → Tap W → Moment
moment remaining contents s input output = record { left = known remaining input; given = known contents output; table = table_of s; boxes = boxes_of s }

-- a session and its console
abbrev pub moment_on : {R W : Type 0} → (R → Option (List ℕ)) → (W → Option (List ℕ)) → Session → Console R W → Moment
moment_on remaining contents s c = moment remaining contents s (reader c) (writer c)
