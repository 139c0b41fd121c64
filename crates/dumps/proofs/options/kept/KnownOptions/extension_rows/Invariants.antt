use Rattle.std.proofs.Common.{◌≡◌, ◌++◌, drop, map}
use Rattle.dumps.specs.Known.{kept_extension}
use Rattle.dumps.specs.Views.{extensions_in}
use Rattle.dumps.proofs.options.kept.KnownOptions.extension_rows.Given as goal

abbrev pub invariant-loop-kept : goal.invariant-loop-kept
invariant-loop-kept l =
    extensions_in l.rows.items ++ map (kept_extension l.self.words.items) (drop l.kept-index l.kept-items)
    ≡ map (kept_extension l.self.words.items) l.kept-items
