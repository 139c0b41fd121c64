use Rattle.std.proofs.Common.{◌≡◌, ◌+◌, drop}
use Rattle.rules.specs.steps.OptionRows.{rank}
use Rattle.rules.proofs.reading.steps.rank.Given as goal

abbrev pub invariant-loop-i : goal.invariant-loop-i
invariant-loop-i l = rank l.slot l.option_values ≡ l.i + rank l.slot (drop l.i l.option_values)
