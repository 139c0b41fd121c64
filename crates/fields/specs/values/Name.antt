-- Names of user chains (iptables(8), COMMANDS, -N).
use Rattle.std.specs.Prelude.{ℕ, Bool, ◌&&◌, not, ◌==◌, nat_lt, nat_le, List, [], ◌∷◌, length, slice_index, Option, Some, None, codes}
use Rattle.std.specs.Prelude.{if◌then◌else◌}
use Rattle.std.specs.List.{list_all, list_any}
use Rattle.std.specs.Str.{bytes_eq}

-- a byte from 33 to 126, but not `"` (34)
abbrev pub is_name_byte : ℕ → Bool
is_name_byte byte = nat_le 33 byte && nat_le byte 126 && not (byte == 34)

-- the names of targets, which no chain may have
abbrev pub target_words : List (List ℕ)
target_words = codes "ACCEPT" ∷ codes "DROP" ∷ codes "RETURN" ∷ codes "QUEUE" ∷ codes "REJECT" ∷ codes "LOG" ∷ []

-- the text is one of them
abbrev pub is_target_word : List ℕ → Bool
is_target_word text = list_any (bytes_eq text) target_words

-- 1 to 28 such bytes, the first of which isn't `-` (45) or `!` (33)
abbrev pub has_name_form : List ℕ → Bool
has_name_form text =
    nat_lt 0 (length text) && nat_le (length text) 28 && not (slice_index text 0 == 45) && not (slice_index text 0 == 33)
    && list_all is_name_byte text

-- a text of that form that isn't the name of a target
abbrev pub is_name : List ℕ → Bool
is_name text = has_name_form text && not (is_target_word text)

-- the name that a text stands for: the text itself, if it is 1 to 28 bytes from 33 to 126 without `"`, doesn't begin with `-` or
-- `!`, and isn't the name of a target
unfoldable pub name_of : List ℕ → Option (List ℕ)
name_of text = if is_name text then Some text else None
