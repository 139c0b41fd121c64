use Rattle.std.proofs.Common.{◌≡◌, drop}
use Rattle.dumps.specs.Conditions.{is_single}
use Rattle.dumps.specs.Views.{parts_of}
use Rattle.dumps.proofs.apart.condition.is_single.Given as goal

-- the answer is that of the parts that are left
abbrev pub invariant-loop-i : goal.invariant-loop-i
invariant-loop-i l = is_single (parts_of (drop l.i l.parts)) ≡ is_single (parts_of l.parts)
