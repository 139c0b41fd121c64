use Rattle.std.proofs.Common.{◌≡◌, drop}
use Rattle.std.specs.List.{list_any}
use Rattle.dumps.specs.Views.{parts_of, passes}
use Rattle.dumps.proofs.apart.condition.one_passes.Given as goal

abbrev pub invariant-loop-part : goal.invariant-loop-part
invariant-loop-part l = list_any (passes l.test) (parts_of (drop l.part-index l.parts)) ≡ list_any (passes l.test) (parts_of l.parts)
