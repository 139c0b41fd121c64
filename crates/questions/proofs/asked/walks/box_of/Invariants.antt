use Rattle.std.proofs.Common.{◌≡◌, ℕ, ◌<◌, List, get_or}
use Rattle.fields.specs.declared.numbers.field.Field.{Field}
use Rattle.fields.specs.numbers.Field.{all_fields, number_on}
use Rattle.fields.specs.Packet.{point}
use Rattle.classify.specs.Classifier.{IsPoint}
use Rattle.questions.specs.boxes.Boxes.{Has, IsIn}
use Rattle.questions.proofs.asked.walks.box_of.Given as goal

abbrev pub invariant-loop-field : goal.invariant-loop-field
invariant-loop-field l = record {
  inside : IsIn l.own l.packet;
  only : (numbers : List ℕ) → IsPoint numbers → Has l.own numbers → (k : ℕ) (d : Field) → k < l.field-index → number_on numbers (get_or all_fields k d) ≡ point l.packet (get_or all_fields k d);
}
