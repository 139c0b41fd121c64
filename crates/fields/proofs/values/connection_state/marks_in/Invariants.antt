use Rattle.std.proofs.Common.{◌≡◌, drop}
use Rattle.fields.specs.steps.Tables.{marks_in}
use Rattle.fields.proofs.values.connection_state.marks_in.Given as goal

-- the answer is among the rows that are left
abbrev pub invariant-loop-number : goal.invariant-loop-number
invariant-loop-number l = marks_in l.value l.rows ≡ marks_in l.value (drop l.number-index l.rows)
