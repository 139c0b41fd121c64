-- Which lines ask for a box of a rule, and which have it made.
use Rattle.std.specs.Prelude.{ℕ, ◌&&◌, Bool, true, false, List, Result, Ok, Err, if◌then◌else◌}
use Rattle.table.specs.chains.Table.{Table}
use Rattle.restore.specs.commands.Command.{command_puts}
use Rattle.restore.specs.sections.Lines.{line_puts}
use Rattle.sessions.specs.line.Fault.{Fault}
use Rattle.sessions.specs.line.Request.{Request, Nothing, Run, Save, Open, Ask, Show, request_on}
use Rattle.sessions.specs.line.Outcome.{Line, Mode, Outside, InRestore, AfterFault, Reply, Says, Fails, is_end, outcome}

-- what is asked for puts a rule into a chain
abbrev pub asks_put : Result Request Fault → Bool
asks_put (Err fault) = false
asks_put (Ok Nothing) = false
asks_put (Ok (Run c)) = command_puts c
asks_put (Ok Save) = false
asks_put (Ok (Open o)) = false
asks_put (Ok (Ask packet)) = false
asks_put (Ok (Show name)) = false

-- the line may make a box: it asks for a rule to be put into a chain, outside of restores or in a section of one; none that is an
-- end line or is passed over does
abbrev pub may_box : Mode → List ℕ → Bool
may_box Outside line = asks_put (request_on line)
may_box (InRestore word r) line = if is_end word line then false else line_puts r.state line
may_box (AfterFault word) line = false

-- the reply isn't a fault
abbrev pub is_said : Reply → Bool
is_said (Says text) = true
is_said (Fails fault) = false

-- the line makes a box: it may, and isn't refused
abbrev pub makes_box : Table → Mode → Line → Bool
makes_box t mode line = may_box mode line.text && is_said (outcome t mode line).reply
