use Rattle.std.proofs.Common.{◌≡◌, drop}
use Rattle.dumps.specs.Options.{extension_of}
use Rattle.dumps.specs.Views.{extensions_in}
use Rattle.dumps.proofs.options.table.extension_in.Given as goal

-- the answer is among the rows that are left
abbrev pub invariant-loop-row : goal.invariant-loop-row
invariant-loop-row l = extension_of (extensions_in (drop l.row-index l.extensions)) l.name ≡ extension_of (extensions_in l.extensions) l.name
