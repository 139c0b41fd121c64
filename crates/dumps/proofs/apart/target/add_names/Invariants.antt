use Rattle.std.proofs.Common.{◌≡◌, ◌++◌, drop}
use Rattle.dumps.specs.Foreign.{kept_names}
use Rattle.dumps.specs.Views.{texts_in}
use Rattle.dumps.proofs.apart.target.add_names.Given as goal

abbrev pub invariant-loop-name : goal.invariant-loop-name
invariant-loop-name l = kept_names l.set.items ++ texts_in (drop l.name-index l.names) ≡ kept_names l.initial.set.items ++ texts_in l.names
