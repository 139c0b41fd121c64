use Rattle.std.proofs.Common.{◌≡◌, [], ◌++◌, drop, take}
use Rattle.dumps.specs.Conditions.{conditions_after}
use Rattle.dumps.specs.Views.{table_in, parts_of, conditions_in}
use Rattle.dumps.proofs.apart.condition.conditions_of.Given as goal

-- the conditions so far, with those of what is left
abbrev pub invariant-loop-place : goal.invariant-loop-place
invariant-loop-place l =
    conditions_in l.conditions.items ++ conditions_after (table_in l.table) (parts_of (take l.place l.parts)) (parts_of (drop l.place l.parts))
    ≡ conditions_after (table_in l.table) [] (parts_of l.parts)
