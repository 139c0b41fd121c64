use Rattle.std.proofs.Common.{◌≡◌, drop}
use Rattle.notation.specs.Range.{range_named}
use Rattle.notation.specs.Rows.{ranges_of}
use Rattle.notation.proofs.states.range_of.Given as goal

-- the answer is among the rows that are left
abbrev pub invariant-loop-name : goal.invariant-loop-name
invariant-loop-name l = range_named (ranges_of l.rows) l.text ≡ range_named (ranges_of (drop l.name-index l.rows)) l.text
