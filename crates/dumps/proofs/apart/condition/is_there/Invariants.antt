use Rattle.std.proofs.Common.{◌≡◌, drop}
use Rattle.dumps.specs.Conditions.{is_there}
use Rattle.dumps.specs.Views.{parts_of}
use Rattle.dumps.proofs.apart.condition.is_there.Given as goal

abbrev pub invariant-loop-part : goal.invariant-loop-part
invariant-loop-part l = is_there l.name (parts_of (drop l.part-index l.parts)) ≡ is_there l.name (parts_of l.parts)
