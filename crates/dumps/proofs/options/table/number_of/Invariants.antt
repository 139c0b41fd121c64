use Rattle.std.proofs.Common.{◌≡◌, drop}
use Rattle.dumps.specs.Options.{number_of}
use Rattle.dumps.specs.Views.{names_in}
use Rattle.dumps.proofs.options.table.number_of.Given as goal

-- the answer is among the rows that are left
abbrev pub invariant-loop-row : goal.invariant-loop-row
invariant-loop-row l = number_of (names_in (drop l.row-index l.rows)) l.name ≡ number_of (names_in l.rows) l.name
