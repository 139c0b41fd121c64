-- Tables of names as the code has them: ICMP types, flags, states of a packet and protocols.
use Rattle.std.specs.Prelude.{ℕ, List, map, Bool, not, ◌==◌, length, find, Option, option_map}
use Rattle.std.specs.Borrow.{Bor}
use Rattle.std.specs.List.{list_all}
use Rattle.bitflags.specs.declared.traits.Flag.{Flag}
use Rattle.fields.specs.declared.values.icmp.Asked.{Asked}
use Rattle.fields.specs.values.ConnectionState.{states}
use Rattle.fields.specs.values.NameList.{is_just, set_listed}
use Rattle.fields.specs.declared.values.connection_state.StateBits.{StateBits}

-- ---- The table of ICMP names as the code has it.

-- the names and meanings of its rows
abbrev pub icmp_rows : List (Bor (List ℕ) × Asked) → List (List ℕ × Asked)
icmp_rows rows = map (λ row. (row.0.now, row.1)) rows

-- ---- A table of flags as the code has it.

-- the names and bits of some flags
abbrev pub rows_of : {F : Type 0} → (F → ℕ) → List (Flag F) → List (List ℕ × ℕ)
rows_of set_of flags = map (λ flag. (flag.name.now, set_of flag.value)) flags

-- every row has a name
abbrev pub all_have_names : List (List ℕ × ℕ) → Bool
all_have_names rows = list_all (λ row. not (length row.0 == 0)) rows

-- ---- The table of a packet's states as the code has it.

-- a name, a number and a set
abbrev pub StateRow : Type 0
StateRow = Bor (List ℕ) × ℕ × StateBits

-- the names and numbers of its rows
abbrev pub named_numbers : List StateRow → List (List ℕ × ℕ)
named_numbers rows = map (λ row. (row.0.now, row.1)) rows

-- the set of the first row of this number
abbrev pub marks_in : ℕ → List StateRow → Option ℕ
marks_in number rows = option_map (λ row. row.2.0) (find (λ row. row.1 == number) rows)

-- each row's set is the one that its name lists
abbrev pub all_marked : List StateRow → Bool
all_marked rows = list_all (λ row. is_just (set_listed states row.0.now) row.2.0) rows

-- ---- The table of protocols as the code has it.

-- the names and numbers of its entries
abbrev pub entries_of : List (Bor (List ℕ) × ℕ) → List (List ℕ × ℕ)
entries_of entries = map (λ entry. (entry.0.now, entry.1)) entries
