use Rattle.std.proofs.Common.{◌<◌, ℕ, Bool, List, get_or}
use Rattle.fields.specs.declared.numbers.field.Field.{Field}
use Rattle.fields.specs.numbers.Field.{all_fields}
use Rattle.notation.specs.Words.{IsWritten}
use Rattle.notation.proofs.words.parts.Given as goal

-- the word is written with the key of no field so far
abbrev pub invariant-loop-field : goal.invariant-loop-field
invariant-loop-field l = (k : ℕ) (d : Field) → k < l.field-index → (denies : Bool) (list : List ℕ) → ¬ (IsWritten l.word (get_or all_fields k d) denies list)
