use Rattle.std.proofs.Common.{◌≡◌, ◌++◌, drop, map}
use Rattle.dumps.specs.Foreign.{needed, needs_in}
use Rattle.dumps.specs.Views.{conditions_in}
use Rattle.dumps.proofs.reading.foreign.all_needed.Given as goal

-- the needs so far, with what is left
abbrev pub invariant-loop-condition : goal.invariant-loop-condition
invariant-loop-condition l = needs_in l.needs.items ++ map needed (conditions_in (drop l.condition-index l.conditions)) ≡ map needed (conditions_in l.conditions)
