use Rattle.std.proofs.Common.{◌≡◌, drop}
use Rattle.fields.specs.values.NameList.{number_named}
use Rattle.fields.specs.steps.Tables.{named_numbers}
use Rattle.fields.proofs.values.connection_state.number_in.Given as goal

-- the answer is among the rows that are left
abbrev pub invariant-loop-name : goal.invariant-loop-name
invariant-loop-name l = number_named (named_numbers l.rows) l.text ≡ number_named (named_numbers (drop l.name-index l.rows)) l.text
