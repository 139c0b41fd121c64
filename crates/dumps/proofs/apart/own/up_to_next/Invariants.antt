use Rattle.std.proofs.Common.{◌≡◌, ◌++◌, drop, take}
use Rattle.dumps.specs.Own.{up_to_next}
use Rattle.dumps.specs.Views.{parts_of}
use Rattle.dumps.proofs.apart.own.up_to_next.Given as goal

abbrev pub invariant-loop-i : goal.invariant-loop-i
invariant-loop-i l = parts_of (take l.i l.parts) ++ up_to_next l.name (parts_of (drop l.i l.parts)) ≡ up_to_next l.name (parts_of l.parts)
