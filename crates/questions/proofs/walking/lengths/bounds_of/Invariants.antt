use Rattle.std.proofs.Common.{◌≡◌, length}
use Rattle.questions.specs.steps.Lengths.{AreLeast, room_left}
use Rattle.questions.proofs.walking.lengths.bounds_of.Given as goal

abbrev pub invariant-loop : goal.invariant-loop
invariant-loop l = record {
  long : length l.numbers.items ≡ length l.table.table.chains;
  least : AreLeast l.table.table l.numbers.items;
}

abbrev pub decreases-loop : goal.decreases-loop
decreases-loop l = room_left l.numbers.items
