-- How the code reads a packet line: word after word, with the numbers that the words so far give.
use Rattle.std.specs.Prelude.{ℕ, ◌≡◌, ◌≤◌, Bool, not, ◌&&◌, ◌||◌, List, length, map, slice_index_or, slice_set, Option, Some, None, is_some, is_none, unwrap_or, Result, Ok, Err, if◌then◌else◌}
use Rattle.std.specs.List.{list_any}
use Rattle.fields.specs.Sequence.{◌>>=◌}
use Rattle.fields.specs.numbers.Field.{all_fields, index, top}
use Rattle.fields.specs.Packet.{key_of, carries, PacketView, text_of, number_of_text}
use Rattle.fields.specs.declared.numbers.field.Field.{Field}
use Rattle.fields.specs.declared.numbers.field.Field.TheVariants as fields
use Rattle.fields.specs.declared.packet.keys.Shape.{Shape}
use Rattle.fields.specs.declared.packet.hook.Hook.{Hook}
use Rattle.fields.specs.declared.packet.PacketFault.{PacketFault}
use Rattle.fields.specs.declared.packet.PacketFault.TheVariants.{UnknownKey, KeyMissing, BadValue, NotCarried}

-- the number at a field's place
abbrev pub number_in : List (Option ℕ) → Field → Option ℕ
number_in given field = slice_index_or given (index field) None

-- the numbers are those of the words: a field has one where its key is given, the number of the text there
pub record IsGiven (given : List (Option ℕ)) (words : List (List ℕ)) : Type 0 where
  pub whole : length given ≡ length all_fields
  pub number : (field : Field) → number_in given field ≡ (text_of field words >>= λ text. number_of_text field text)
  pub filled : (field : Field) → is_some (number_in given field) ≡ is_some (text_of field words)

-- the fault of a word with this part, after words that gave these numbers
abbrev pub fault_in : List (Option ℕ) → Option (Field × List ℕ) → Option PacketFault
fault_in given None = Some UnknownKey
fault_in given (Some part) = if is_some (number_in given part.0) || is_none (number_of_text part.0 part.1) then Some BadValue else None

-- the numbers, with that of such a word
abbrev pub with_part : List (Option ℕ) → Option (Field × List ℕ) → List (Option ℕ)
with_part given None = given
with_part given (Some part) = slice_set given (index part.0) (number_of_text part.0 part.1)

-- the fault, where there is one
abbrev pub fault_of : {A : Type 0} → Result A PacketFault → Option PacketFault
fault_of (Ok x) = None
fault_of (Err fault) = Some fault

-- each number is within its field's top
abbrev pub AllFit : List (Option ℕ) → Type 0
AllFit given = (field : Field) (n : ℕ) → number_in given field ≡ Some n → n ≤ top field

-- the packet's value on a field
abbrev pub value_in : List (Option ℕ) → Field → ℕ
value_in given field = unwrap_or (number_in given field) (key_of field).absent

-- the packet's shape
abbrev pub shape_in : Hook → List (Option ℕ) → Shape
shape_in hook given = record { hook = hook; protocol = number_in given fields.Protocol; fragment = value_in given fields.Fragment }

-- a field that such a packet doesn't carry has a number
abbrev pub strays_in : Shape → List (Option ℕ) → Field → Bool
strays_in shape given field = is_some (number_in given field) && not (carries shape (key_of field).carrier)

-- a field that such a packet needs has no number
abbrev pub lacks_in : Shape → List (Option ℕ) → Field → Bool
lacks_in shape given field = (key_of field).is_required && carries shape (key_of field).carrier && is_none (number_in given field)

-- the packet of a hook and the numbers, or its fault
abbrev pub checked_in : Hook → List (Option ℕ) → Result PacketView PacketFault
checked_in hook given =
    if list_any (strays_in (shape_in hook given) given) all_fields then Err NotCarried
    else if list_any (lacks_in (shape_in hook given) given) all_fields then Err KeyMissing
    else Ok (record { hook = hook; values = map (value_in given) all_fields })
