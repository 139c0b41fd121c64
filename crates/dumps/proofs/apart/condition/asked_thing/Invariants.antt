use Rattle.std.proofs.Common.{◌≡◌, ℕ, List, drop}
use Rattle.dumps.specs.Conditions.{asked_thing}
use Rattle.dumps.specs.Views.{parts_of}
use Rattle.dumps.proofs.apart.condition.asked_thing.Given as goal

abbrev pub invariant-loop-part : goal.invariant-loop-part
invariant-loop-part l = (name : List ℕ) → asked_thing name (parts_of (drop l.part-index l.parts)) ≡ asked_thing name (parts_of l.parts)
