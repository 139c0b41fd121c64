-- Every field is among all of them, at its place.
use Rattle.std.proofs.Common.{◌≡◌, ℕ, ◌<◌, refl, lit<, length, get_or}
use Rattle.fields.specs.declared.numbers.field.Field.{Field}
use Rattle.fields.specs.declared.numbers.field.Field.TheVariants.{Source}
use Rattle.fields.specs.numbers.Field.{all_fields, index}

pub index-lt : (field : Field) → index field < length all_fields
index-lt Source = lit< tt
index-lt _ = lit< tt

pub here_is : (field : Field) (d : Field) → get_or all_fields (index field) d ≡ field
here_is Source d = refl
here_is _ d = refl
