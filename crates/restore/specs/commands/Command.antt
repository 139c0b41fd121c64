-- Commands, and what it means that a call reads or applies one (iptables(8), COMMANDS).
use Rattle.std.specs.Prelude.{ℕ, Bool, true, false, IsTrue, List, Option, is_none, option_map, Result, Ok, Err}
use Rattle.rules.specs.Sequence.{refusal_of}
use Rattle.table.specs.chains.Table.{TableView}
use Rattle.table.specs.edits.Edits.{puts_rule, Edit, IsStepOf}
use Rattle.table.specs.declared.fault.TableFault.{TableFault}
use Rattle.table.specs.edits.Edits as edit
use Rattle.restore.specs.Sequence.{Gives}
pub use Rattle.restore.specs.declared.fault.CommandFault.{CommandFault}
pub use Rattle.restore.specs.declared.fault.CommandFault.TheVariants.{NoCommand, TwoCommands, WordCount, OtherTable, Rule}
use Rattle.restore.specs.declared.command.Command as code
use Rattle.restore.specs.declared.command.Command.TheVariants as command

-- a command: an edit of the table, or `-S`, which lists the rules of one chain or of all chains
pub data Command : Type 0 where
  Change : Edit → Command
  ListRules : Option (List ℕ) → Command

-- memory ran out
abbrev pub is_out_of_memory : CommandFault → Bool
is_out_of_memory NoCommand = false
is_out_of_memory TwoCommands = false
is_out_of_memory WordCount = false
is_out_of_memory OtherTable = false
is_out_of_memory (Rule fault) = is_none (refusal_of fault)

-- the edit contains a rule
abbrev pub has_rule : Edit → Bool
has_rule (edit.Append chain r) = true
has_rule (edit.Insert chain n r) = true
has_rule (edit.Replace chain n r) = true
has_rule (edit.DeleteAt chain n) = false
has_rule (edit.DeleteRule chain r) = true
has_rule (edit.Has chain r) = true
has_rule (edit.Flush chain) = false
has_rule edit.FlushAll = false
has_rule (edit.NewChain name) = false
has_rule (edit.DeleteChain chain) = false
has_rule edit.DeleteChains = false
has_rule (edit.SetPolicy chain policy) = false
has_rule (edit.Rename old new) = false

-- this refusal may come from the words of a rule
abbrev pub may_be_of_rule : CommandFault → Bool
may_be_of_rule NoCommand = false
may_be_of_rule TwoCommands = true
may_be_of_rule WordCount = false
may_be_of_rule OtherTable = false
may_be_of_rule (Rule fault) = true

-- reading may take memory: the words write a command with a rule, or what refuses them may come from the words of a rule
abbrev pub may_take_memory : Result Command CommandFault → Bool
may_take_memory (Ok (Change edit)) = has_rule edit
may_take_memory (Ok (ListRules chain)) = false
may_take_memory (Err fault) = may_be_of_rule fault

-- the command that a command of the code stands for
abbrev pub meaning : code.Command → Command
meaning (command.Append chain r) = Change (edit.Append chain.now r)
meaning (command.Insert chain number r) = Change (edit.Insert chain.now number r)
meaning (command.Replace chain number r) = Change (edit.Replace chain.now number r)
meaning (command.DeleteAt chain number) = Change (edit.DeleteAt chain.now number)
meaning (command.DeleteRule chain r) = Change (edit.DeleteRule chain.now r)
meaning (command.Check chain r) = Change (edit.Has chain.now r)
meaning (command.Flush chain) = Change (edit.Flush chain.now)
meaning command.FlushAll = Change edit.FlushAll
meaning (command.NewChain name) = Change (edit.NewChain name.now)
meaning (command.DeleteChain chain) = Change (edit.DeleteChain chain.now)
meaning command.DeleteChains = Change edit.DeleteChains
meaning (command.SetPolicy chain policy) = Change (edit.SetPolicy chain.now policy.now)
meaning (command.Rename old new) = Change (edit.Rename old.now new.now)
meaning (command.ListRules chain) = ListRules (option_map (λ c. c.now) chain)

-- memory runs out only where reading may take some
abbrev pub TakesMemoryForRules : Result code.Command CommandFault → Result Command CommandFault → Type 0
TakesMemoryForRules (Ok c) given = Unit {0}
TakesMemoryForRules (Err fault) given = IsTrue (is_out_of_memory fault) → IsTrue (may_take_memory given)

-- the call gives the command that the words write, or what refuses them, unless memory ran out; that happens only where the command
-- has a rule, or where what refuses the words may come from those of a rule
abbrev pub IsRead : Result code.Command CommandFault → Result Command CommandFault → Type 0
IsRead result given = Gives is_out_of_memory meaning result given × TakesMemoryForRules result given

-- the command edits the table
abbrev pub IsChange : Command → Type 0
IsChange (Change edit) = Unit {0}
IsChange (ListRules chain) = ⊥

-- the command puts a rule into a chain
abbrev pub command_puts : Command → Bool
command_puts (Change e) = puts_rule e
command_puts (ListRules chain) = false

-- the call does the command's edit, and answers as the table does
abbrev pub IsApplied : Command → TableView → TableView → Result (Unit {0}) TableFault → Type 0
IsApplied (Change edit) old new result = IsStepOf edit old new result
IsApplied (ListRules chain) old new result = Unit {0}
