use Rattle.std.proofs.Common.{◌≡◌, drop}
use Rattle.std.specs.List.{list_any}
use Rattle.std.specs.Str.{bytes_eq}
use Rattle.dumps.specs.Views.{texts_in}
use Rattle.dumps.proofs.options.table.is_among.Given as goal

abbrev pub invariant-loop-one : goal.invariant-loop-one
invariant-loop-one l = list_any (bytes_eq l.text) (texts_in (drop l.one-index l.texts)) ≡ list_any (bytes_eq l.text) (texts_in l.texts)
