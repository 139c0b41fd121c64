-- Why a line is refused: each fault's code and text, and the exit status of a session whose first fault it is.
use Rattle.std.specs.Prelude.{ℕ, Bool, true, false, List, ◌++◌, codes, decimal}
use Rattle.std.specs.Prelude.{if◌then◌else◌}
use Rattle.fields.specs.declared.packet.PacketFault.{PacketFault}
use Rattle.fields.specs.declared.packet.PacketFault.TheVariants as packet
use Rattle.rules.specs.declared.reading.fault.Refusal.{Refusal}
use Rattle.rules.specs.declared.reading.fault.Refusal.TheVariants as refusal
use Rattle.rules.specs.declared.reading.fault.RuleFault.{RuleFault}
use Rattle.rules.specs.declared.reading.fault.RuleFault.TheVariants as rule
use Rattle.table.specs.declared.fault.TableFault.{TableFault}
use Rattle.table.specs.declared.fault.TableFault.TheVariants as table
use Rattle.restore.specs.declared.fault.CommandFault.{CommandFault}
use Rattle.restore.specs.declared.fault.CommandFault.TheVariants as command
use Rattle.restore.specs.declared.fault.RestoreFault.{RestoreFault}
use Rattle.restore.specs.declared.fault.RestoreFault.TheVariants as restore
use Rattle.restore.specs.sections.Section as section
pub use Rattle.sessions.specs.declared.line.fault.Fault.{Fault}
pub use Rattle.sessions.specs.declared.line.fault.Fault.TheVariants.{Line, Packet, UnknownLine, BadRestoreLine, EndWordMissing, NoMemory}

-- the code and the text of a refusal of a rule's words: P1 to P12
abbrev pub refusal_text : Refusal → List ℕ
refusal_text (refusal.UnknownOption place) = codes "P1 unknown option"
refusal_text refusal.ValueMissing = codes "P2 value missing"
refusal_text refusal.BadValue = codes "P3 bad value"
refusal_text refusal.RepeatedOption = codes "P4 repeated option"
refusal_text refusal.InversionNotAllowed = codes "P5 inversion not allowed"
refusal_text refusal.ProtocolNeeded = codes "P6 protocol needed"
refusal_text refusal.UnknownMatch = codes "P7 unknown match"
refusal_text refusal.TooManyMatches = codes "P8 too many matches"
refusal_text refusal.JumpAndGoto = codes "P9 both jump and goto"
refusal_text refusal.TextTooLong = codes "P10 text too long"
refusal_text refusal.OtherTarget = codes "P11 option of another target"
refusal_text refusal.MatchOptionMissing = codes "P12 match option missing"

-- those of a rule's fault
abbrev pub rule_text : RuleFault → List ℕ
rule_text (rule.Refused fault) = refusal_text fault
rule_text rule.NoMemory = codes "M0 no memory"

-- those of a command's fault: C1 to C4, or its rule's
abbrev pub command_text : CommandFault → List ℕ
command_text command.NoCommand = codes "C1 no command"
command_text command.TwoCommands = codes "C2 two commands"
command_text command.WordCount = codes "C3 wrong number of words"
command_text command.OtherTable = codes "C4 other table"
command_text (command.Rule fault) = rule_text fault

-- those of a table's fault: T1 to T16
abbrev pub table_text : TableFault → List ℕ
table_text table.NoSuchChain = codes "T1 no such chain"
table_text table.ChainExists = codes "T2 chain exists"
table_text table.BadChainName = codes "T3 bad chain name"
table_text table.NumberOutOfRange = codes "T4 number out of range"
table_text table.NoSuchRule = codes "T5 no such rule"
table_text table.ChainNotEmpty = codes "T6 chain not empty"
table_text table.ChainReferenced = codes "T7 chain referenced"
table_text table.BuiltInChain = codes "T8 built-in chain"
table_text table.NotBuiltInChain = codes "T9 not a built-in chain"
table_text table.Loop = codes "T10 loop"
table_text table.TargetMissing = codes "T11 target chain missing"
table_text table.TargetBuiltIn = codes "T12 target is built-in"
table_text table.InterfaceNotAllowed = codes "T13 interface not allowed in this chain"
table_text table.ChainFull = codes "T14 chain full"
table_text table.TooManyChains = codes "T15 too many chains"
table_text table.BadPolicy = codes "T16 bad policy"
table_text table.NoMemory = codes "M0 no memory"

-- those of a restore line's fault: R1 to R6, or its command's or the table's
abbrev pub line_text : RestoreFault → List ℕ
line_text (restore.Command fault) = command_text fault
line_text (restore.Table fault) = table_text fault
line_text restore.NotAllowed = codes "R1 line not allowed here"
line_text restore.BadChainLine = codes "R2 bad chain line"
line_text restore.DuplicateChainLine = codes "R3 duplicate chain line"
line_text restore.EndBeforeCommit = codes "R4 end before COMMIT"
line_text restore.Quoting = codes "R5 bad quoting"
line_text restore.LineTooLong = codes "R6 line too long"
line_text restore.NoMemory = codes "M0 no memory"

-- those of a packet line's fault: F1 to F4
abbrev pub packet_text : PacketFault → List ℕ
packet_text packet.UnknownKey = codes "F1 unknown key"
packet_text packet.KeyMissing = codes "F2 key missing"
packet_text packet.BadValue = codes "F3 bad packet value"
packet_text packet.NotCarried = codes "F4 field not carried"

-- the code and the text of any fault
abbrev pub fault_text : Fault → List ℕ
fault_text (Line fault) = line_text fault
fault_text (Packet fault) = packet_text fault
fault_text UnknownLine = codes "S1 unknown line"
fault_text BadRestoreLine = codes "S2 bad restore line"
fault_text EndWordMissing = codes "S3 end word missing"
fault_text NoMemory = codes "M0 no memory"

-- memory ran out
abbrev pub is_out_of_memory : Fault → Bool
is_out_of_memory (Line fault) = false
is_out_of_memory (Packet fault) = false
is_out_of_memory UnknownLine = false
is_out_of_memory BadRestoreLine = false
is_out_of_memory EndWordMissing = false
is_out_of_memory NoMemory = true

-- the fault of a line of a restore; out of memory is one fault, whatever asked for the memory
abbrev pub of_line : RestoreFault → Fault
of_line fault = if section.is_out_of_memory fault then NoMemory else Line fault

-- the status of it, where memory didn't run out: 2 for words that can't be read, 1 for what the table or the restore refuses
abbrev pub line_status : RestoreFault → ℕ
line_status (restore.Command fault) = 2
line_status (restore.Table fault) = 1
line_status restore.NotAllowed = 1
line_status restore.BadChainLine = 1
line_status restore.DuplicateChainLine = 1
line_status restore.EndBeforeCommit = 1
line_status restore.Quoting = 1
line_status restore.LineTooLong = 1
line_status restore.NoMemory = 1

-- the status of a fault: 2 for words that can't be read, 1 for what the table or a restore refuses, 4 for out of memory
abbrev pub fault_status : Fault → ℕ
fault_status (Line fault) = if section.is_out_of_memory fault then 4 else line_status fault
fault_status (Packet fault) = 2
fault_status UnknownLine = 2
fault_status BadRestoreLine = 2
fault_status EndWordMissing = 2
fault_status NoMemory = 4

-- the line that reports a fault: `line N: CODE text`
abbrev pub fault_line : ℕ → Fault → List ℕ
fault_line n fault = codes "line " ++ (decimal n ++ (codes ": " ++ (fault_text fault ++ codes "\n")))
