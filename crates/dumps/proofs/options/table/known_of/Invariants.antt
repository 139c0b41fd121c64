use Rattle.std.proofs.Common.{◌≡◌, drop}
use Rattle.dumps.specs.Options.{known_of}
use Rattle.dumps.specs.Views.{all_known_in}
use Rattle.dumps.proofs.options.table.known_of.Given as goal

-- the answer is among the rows that are left
abbrev pub invariant-loop-row : goal.invariant-loop-row
invariant-loop-row l = known_of (all_known_in (drop l.row-index l.rows)) l.text ≡ known_of (all_known_in l.rows) l.text
