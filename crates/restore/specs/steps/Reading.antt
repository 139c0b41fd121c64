-- How the code reads a command: the command names that it tells apart, and its steps from word to word.
use Rattle.std.specs.Prelude.{ℕ, List, [], ◌∷◌, Option, Some, None, Result, Ok, Err, if◌then◌else◌}
use Rattle.std.specs.List.{slice_index_or}
use Rattle.fields.specs.text.Number.{number_of}
use Rattle.rules.specs.declared.reading.fault.Refusal.TheVariants as refusal
use Rattle.restore.specs.Sequence.{made_into, or_refused}
use Rattle.restore.specs.commands.Command.{Command, CommandFault, NoCommand, WordCount}
use Rattle.restore.specs.commands.CommandForms.{CommandForm, commands, form, is_digits, refused}
use Rattle.restore.specs.declared.command.name.CommandName as code
use Rattle.restore.specs.declared.command.name.CommandName.TheVariants as command_names

-- the next word and those after it, or this refusal
abbrev pub next_or : CommandFault → List (List ℕ) → Result (List ℕ × List (List ℕ)) CommandFault
next_or fault [] = Err fault
next_or fault (w ∷ ws) = Ok (w, ws)

-- the next word as a number, and the words after it
abbrev pub next_number : List (List ℕ) → Result (ℕ × List (List ℕ)) CommandFault
next_number [] = Err WordCount
next_number (w ∷ ws) = made_into (λ n. (n, ws)) (or_refused (refused refusal.BadValue) (number_of w))

-- the same, where the word is made of digits alone
abbrev pub next_number_if_digits : List (List ℕ) → Result (Option (ℕ × List (List ℕ))) CommandFault
next_number_if_digits [] = Ok None
next_number_if_digits (w ∷ ws) = if is_digits w then made_into (λ p. Some p) (next_number (w ∷ ws)) else Ok None

-- where a head of the code stands among the commands
abbrev pub index_of : code.CommandName → ℕ
index_of command_names.Append = 0
index_of command_names.Check = 1
index_of command_names.Delete = 2
index_of command_names.Insert = 3
index_of command_names.Replace = 4
index_of command_names.Flush = 5
index_of command_names.DeleteChain = 6
index_of command_names.NewChain = 7
index_of command_names.Policy = 8
index_of command_names.Rename = 9
index_of command_names.ListRules = 10

-- the row of a head of the code
abbrev pub row_of : code.CommandName → CommandForm Command
row_of h = slice_index_or commands (index_of h) (form [] [] (λ end words. Err NoCommand))
