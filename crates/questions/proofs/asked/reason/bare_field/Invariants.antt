use Rattle.std.proofs.Common.{ℕ, ◌<◌, get_or}
use Rattle.fields.specs.declared.numbers.field.Field.{Field}
use Rattle.fields.specs.numbers.Field.{all_fields}
use Rattle.questions.proofs.laws.PacketLaws.{HasNumberOn}
use Rattle.questions.proofs.asked.reason.bare_field.Given as goal

abbrev pub invariant-loop-field : goal.invariant-loop-field
invariant-loop-field l = (k : ℕ) (d : Field) → k < l.field-index → HasNumberOn l.boxed (get_or all_fields k d)
