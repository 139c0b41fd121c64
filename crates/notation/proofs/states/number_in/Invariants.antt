use Rattle.std.proofs.Common.{◌≡◌, drop}
use Rattle.fields.specs.values.NameList.{number_named}
use Rattle.notation.specs.Rows.{rows_of}
use Rattle.notation.proofs.states.number_in.Given as goal

-- the answer is among the rows that are left
abbrev pub invariant-loop-name : goal.invariant-loop-name
invariant-loop-name l = number_named (rows_of l.rows) l.text ≡ number_named (rows_of (drop l.name-index l.rows)) l.text
