use Rattle.std.proofs.Common.{◌≡◌, take, drop, []}
use Rattle.fields.specs.Packet.{leftmost_fault}
use Rattle.fields.specs.steps.GivenNumbers.{IsGiven}
use Rattle.fields.proofs.packet.given.given_by.Given as goal

abbrev pub invariant-loop-place : goal.invariant-loop-place
invariant-loop-place l = record {
  fault : leftmost_fault [] (drop l.first l.words) ≡ leftmost_fault (drop l.first (take l.place l.words)) (drop l.place l.words);
  given : IsGiven l.given (drop l.first (take l.place l.words));
}
