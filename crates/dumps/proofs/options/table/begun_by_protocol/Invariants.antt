use Rattle.std.proofs.Common.{◌≡◌, drop}
use Rattle.dumps.specs.Options.{begun_by_protocol}
use Rattle.dumps.specs.Views.{extensions_in}
use Rattle.dumps.proofs.options.table.begun_by_protocol.Given as goal

-- the answer is among the rows that are left
abbrev pub invariant-loop-row : goal.invariant-loop-row
invariant-loop-row l = begun_by_protocol (extensions_in (drop l.row-index l.extensions)) l.protocol ≡ begun_by_protocol (extensions_in l.extensions) l.protocol
