use Rattle.std.proofs.Common.{ℕ, ◌+◌, ◌<◌, ◌≤◌, List}
use Rattle.fields.specs.declared.numbers.field.TheConstants.{FIELDS}
use Rattle.classify.specs.Classifier.{IsPoint}
use Rattle.questions.specs.boxes.Boxes.{Has}
use Rattle.questions.specs.boxes.Cut.{IsInSome}
use Rattle.questions.specs.steps.Sides.{LeavesAt}
use Rattle.questions.proofs.laws.PartLaws.{AreLeft}
use Rattle.questions.proofs.boxes.cut.outside.Given as goal

abbrev pub invariant-loop-done : goal.invariant-loop-done
invariant-loop-done l = record {
  all : (numbers : List ℕ) (k : ℕ) → k < FIELDS → FIELDS ≤ k + l.done → IsPoint numbers → Has l.own numbers → LeavesAt k l.other numbers → IsInSome l.parts.items numbers;
  only : (numbers : List ℕ) → IsPoint numbers → IsInSome l.parts.items numbers → Has l.own numbers × (Has l.other numbers → ⊥);
  left : AreLeft l.done l.other l.parts.items;
}
