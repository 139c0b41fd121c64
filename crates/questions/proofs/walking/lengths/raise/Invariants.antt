use Rattle.std.proofs.Common.{◌≡◌, ◌<◌, ◌≤◌, false, true}
use Rattle.questions.specs.steps.Lengths.{AreBounds, Raises, room_left}
use Rattle.questions.proofs.walking.lengths.raise.Given as goal

abbrev pub invariant-loop-place : goal.invariant-loop-place
invariant-loop-place l = record {
  raised : Raises l.table.table l.initial.numbers.items l.numbers.items;
  least : room_left l.numbers.items ≤ room_left l.initial.numbers.items;
  less : l.is_more ≡ true → room_left l.numbers.items < room_left l.initial.numbers.items;
  bounds : l.is_more ≡ false → AreBounds l.table.table l.numbers.items l.place;
}
