-- Free texts, as `--comment` and `--log-prefix` take them (iptables-extensions(8), comment and LOG), and how a listing quotes them
-- (iptables-save(8)).
use Rattle.std.specs.Prelude.{ℕ, Bool, ◌&&◌, ◌||◌, ◌==◌, nat_lt, nat_le, List, [], ◌∷◌, ◌++◌, length, flat_map, Option, Some, None, if◌then◌else◌}
use Rattle.std.specs.List.{list_all}
use Rattle.std.specs.Char.{is_ascii_alphanumeric}
use Rattle.fields.specs.text.Line.{is_one_line}

-- a text of at most so many bytes, none of them a newline; it may be empty
unfoldable pub text_of : ℕ → List ℕ → Option (List ℕ)
text_of most bytes = if nat_le (length bytes) most && is_one_line bytes then Some bytes else None

-- an ASCII letter or digit, `_` (95) or `-` (45)
abbrev pub is_plain_byte : ℕ → Bool
is_plain_byte byte = is_ascii_alphanumeric byte || byte == 95 || byte == 45

-- one or more such bytes: a text that is printed without quotes
abbrev pub is_plain : List ℕ → Bool
is_plain text = nat_lt 0 (length text) && list_all is_plain_byte text

-- between quotes a backslash (92) stands before each `"` (34), backslash and `'` (39)
abbrev pub escaped : ℕ → List ℕ
escaped byte = if byte == 34 || byte == 92 || byte == 39 then 92 ∷ byte ∷ [] else byte ∷ []

-- the text in quotes
abbrev pub in_quotes : List ℕ → List ℕ
in_quotes text = 34 ∷ (flat_map escaped text ++ 34 ∷ [])

-- the text as it is printed: bare if it is only letters, digits, `_` and `-`, else in quotes
abbrev pub quoted : List ℕ → List ℕ
quoted text = if is_plain text then text else in_quotes text
