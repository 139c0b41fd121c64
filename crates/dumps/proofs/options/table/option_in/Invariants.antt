use Rattle.std.proofs.Common.{◌≡◌, drop}
use Rattle.dumps.specs.Options.{option_of}
use Rattle.dumps.specs.Views.{rows_in}
use Rattle.dumps.proofs.options.table.option_in.Given as goal

-- the answer is among the rows that are left
abbrev pub invariant-loop-row : goal.invariant-loop-row
invariant-loop-row l = option_of (rows_in (drop l.row-index l.options)) l.owner l.spelling ≡ option_of (rows_in l.options) l.owner l.spelling
