-- Lists of names, separated by commas, each of which stands for a set of bits.
use Rattle.std.specs.Prelude.{ℕ, Bool, false, ◌==◌, List, [], ◌∷◌, map, filter, find, Option, Some, None, option_map}
use Rattle.std.specs.Int.RustNames.{bit_and, bit_or}
use Rattle.std.specs.List.{slice_split, join_with_byte}
use Rattle.std.specs.Str.{str_eq_ignore_ascii_case}
use Rattle.fields.specs.Sequence.{◌>>=◌}

-- the first row with this name, in upper or lower case
abbrev pub row_named : List (List ℕ × ℕ) → List ℕ → Option (List ℕ × ℕ)
row_named rows text = find (λ row. str_eq_ignore_ascii_case row.0 text) rows

-- the number that a table has for a name
abbrev pub number_named : List (List ℕ × ℕ) → List ℕ → Option ℕ
number_named rows text = option_map (λ row. row.1) (row_named rows text)

-- there is a number, and it is this one
abbrev pub is_just : Option ℕ → ℕ → Bool
is_just None n = false
is_just (Some m) n = m == n

-- the union of sets of bits, if all are there
abbrev pub union : List (Option ℕ) → Option ℕ
union [] = Some 0
union (set ∷ sets) = set >>= λ bits. union sets >>= λ others. Some (bit_or bits others)

-- the union of the sets that the names between the commas (44) stand for; nothing if a name is unknown
unfoldable pub set_listed : List (List ℕ × ℕ) → List ℕ → Option ℕ
set_listed rows text = union (map (number_named rows) (slice_split (λ byte. byte == 44) text))

-- the names of the rows whose bits a set has, in the order of the rows
abbrev pub names_in : List (List ℕ × ℕ) → ℕ → List (List ℕ)
names_in rows set = map (λ row. row.0) (filter (λ row. bit_and set row.1 == row.1) rows)

-- these names, with a comma between two
unfoldable pub names_listed : List (List ℕ × ℕ) → ℕ → List ℕ
names_listed rows set = join_with_byte 44 (names_in rows set)
