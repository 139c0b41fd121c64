-- Connection states, as `--ctstate` and `--state` take them, and the state of a packet (iptables-extensions(8), conntrack and
-- state).
use Rattle.std.specs.Prelude.{ℕ, ◌==◌, ◌<◌, Bool, false, not, List, [], ◌∷◌, find, Option, Some, None, if◌then◌else◌, codes}
use Rattle.std.specs.Int.RustNames.{bit_and}
use Rattle.fields.specs.Sequence.{◌>>=◌}
use Rattle.fields.specs.values.NameList.{number_named, set_listed, names_listed}

-- the five states, and the two translations that a packet may have besides its state, with their bits in a set
abbrev pub states : List (List ℕ × ℕ)
states =
    (codes "INVALID", 1) ∷ (codes "NEW", 2) ∷ (codes "RELATED", 4) ∷ (codes "ESTABLISHED", 8) ∷ (codes "UNTRACKED", 16)
    ∷ (codes "SNAT", 32) ∷ (codes "DNAT", 64) ∷ []

-- the set that a list of `--ctstate` stands for: the union of what its names stand for
abbrev pub ctstate_of : List ℕ → Option ℕ
ctstate_of text = set_listed states text

-- the set, if it has neither SNAT nor DNAT
abbrev pub untranslated : ℕ → Option ℕ
untranslated set = if bit_and set 96 == 0 then Some set else None

-- the set that a list of `--state` stands for, which takes no translations
abbrev pub state_of : List ℕ → Option ℕ
state_of text = ctstate_of text >>= untranslated

-- a set of one or more of the seven
pub record IsStates (set : ℕ) : Type 0 where
  pub some : 0 < set
  pub known : set < 128

-- the names of a set, with commas
abbrev pub states_text : ℕ → List ℕ
states_text set = names_listed states set

-- the states of a packet, with its translations, and their numbers on the field `ct`
abbrev pub packet_states : List (List ℕ × ℕ)
packet_states =
    (codes "INVALID", 0) ∷ (codes "UNTRACKED", 1)
    ∷ (codes "NEW", 2) ∷ (codes "NEW,SNAT", 3) ∷ (codes "NEW,DNAT", 4) ∷ (codes "NEW,SNAT,DNAT", 5)
    ∷ (codes "RELATED", 6) ∷ (codes "RELATED,SNAT", 7) ∷ (codes "RELATED,DNAT", 8) ∷ (codes "RELATED,SNAT,DNAT", 9)
    ∷ (codes "ESTABLISHED", 10) ∷ (codes "ESTABLISHED,SNAT", 11) ∷ (codes "ESTABLISHED,DNAT", 12) ∷ (codes "ESTABLISHED,SNAT,DNAT", 13) ∷ []

-- the number of a packet's state, in upper or lower case
abbrev pub packet_state_of : List ℕ → Option ℕ
packet_state_of text = number_named packet_states text

-- the state and the translations of a packet with this number, as a set
unfoldable pub marks_of : ℕ → Option ℕ
marks_of number = find (λ row. row.1 == number) packet_states >>= λ row. set_listed states row.0

-- two sets have something in common
abbrev pub meets : ℕ → Option ℕ → Bool
meets set None = false
meets set (Some marks) = not (bit_and set marks == 0)

-- the state of a packet with this number is in the set, or one of its translations is
abbrev pub states_pass : ℕ → ℕ → Bool
states_pass set number = meets set (marks_of number)
