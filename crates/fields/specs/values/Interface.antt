-- Interface patterns, as `-i` and `-o` take them, and the numbers of interfaces (iptables(8), PARAMETERS, -i and -o).
use Rattle.std.specs.Prelude.{◌≡◌, ◌⊎◌, ℕ, ◌+◌, ◌-◌, ◌*◌, ◌==◌, nat_eq, nat_lt, nat_le, Bool, not, ◌&&◌, List, [], ◌++◌, length, take}
use Rattle.std.specs.Prelude.{slice_index, replicate, fold, Option, Some, None, if◌then◌else◌}
use Rattle.std.specs.List.{list_all, starts_with}
use Rattle.std.specs.Str.{bytes_eq}
use Rattle.std.specs.Int.{w128, to_be_bytes}

-- a byte from 33 to 126, but not `/` (47) or `"` (34)
abbrev pub is_interface_byte : ℕ → Bool
is_interface_byte byte = nat_le 33 byte && nat_le byte 126 && not (byte == 47) && not (byte == 34)

-- 1 to 15 such bytes
abbrev pub is_interface : List ℕ → Bool
is_interface text = nat_lt 0 (length text) && nat_le (length text) 15 && list_all is_interface_byte text

-- the pattern that a text stands for: the text itself, if it is 1 to 15 bytes from 33 to 126 without `/` and `"`
unfoldable pub interface_of : List ℕ → Option (List ℕ)
interface_of text = if is_interface text then Some text else None

-- the bytes, filled up to 16 with this byte
abbrev pub filled : ℕ → List ℕ → List ℕ
filled fill bytes = bytes ++ replicate (16 - length bytes) fill

-- the number whose bytes these are, the highest first
abbrev pub bytes_value : List ℕ → ℕ
bytes_value bytes = fold (λ value byte. value * 256 + byte) 0 bytes

-- the number of an interface: its name, filled up to 16 bytes with zeros. That of a missing interface, the empty name, is 0
unfoldable pub interface_value : List ℕ → ℕ
interface_value name = bytes_value (filled 0 name)

-- the pattern ends in `+` (43), and so stands for every name that begins with the bytes before it
abbrev pub is_open : List ℕ → Bool
is_open pattern = slice_index pattern (length pattern - 1) == 43

-- the pattern matches a name: it is the name or, where it ends in `+`, the name begins with the bytes before that
abbrev pub interface_matches : List ℕ → List ℕ → Bool
interface_matches pattern name =
    if is_open pattern then starts_with nat_eq name (take (length pattern - 1) pattern) else bytes_eq pattern name

-- the name of an interface, or the empty name of a missing one
abbrev pub IsInterfaceName : List ℕ → Type 0
IsInterfaceName name = (name ≡ []) ⊎ (interface_of name ≡ Some name)

-- the bytes with which a number must begin: those before a final `+`, else the whole name with its zero bytes
abbrev pub asked_bytes : List ℕ → List ℕ
asked_bytes pattern = if is_open pattern then take (length pattern - 1) pattern else filled 0 pattern

-- the pattern matches the interface with this number
unfoldable pub interface_holds : List ℕ → ℕ → Bool
interface_holds pattern value = starts_with nat_eq (to_be_bytes w128 value) (asked_bytes pattern)

-- the first and the last number that the pattern matches
unfoldable pub interface_interval : List ℕ → ℕ × ℕ
interface_interval pattern = (bytes_value (filled 0 (asked_bytes pattern)), bytes_value (filled 255 (asked_bytes pattern)))
