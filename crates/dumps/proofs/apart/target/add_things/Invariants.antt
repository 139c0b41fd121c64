use Rattle.std.proofs.Common.{◌≡◌, ◌++◌, drop}
use Rattle.dumps.specs.Foreign.{kept_names, set_things}
use Rattle.dumps.specs.Views.{parts_of}
use Rattle.dumps.proofs.apart.target.add_things.Given as goal

abbrev pub invariant-loop-part : goal.invariant-loop-part
invariant-loop-part l =
    kept_names l.set.items ++ set_things (parts_of (drop l.part-index l.parts)) ≡ kept_names l.initial.set.items ++ set_things (parts_of l.parts)
