-- Sets of TCP flags, and the condition `--tcp-flags mask comp` on them (iptables-extensions(8), tcp).
use Rattle.std.specs.Prelude.{ℕ, ◌==◌, List, [], ◌∷◌, ◌++◌, Option, if◌then◌else◌, codes, ◌<◌, ◌&&◌, Bool, Some}
use Rattle.std.specs.Int.RustNames.{bit_and}
use Rattle.fields.specs.values.NameList.{set_listed, names_listed}
use Rattle.fields.specs.Sequence.{◌>>=◌}
use Rattle.fields.specs.declared.values.flag_test.FlagTest.{FlagTest}

-- ---- Sets of TCP flags, as `--tcp-flags` takes them (iptables-extensions(8), tcp).

-- the flags, in the order in which they are printed, with their bits
abbrev pub flags : List (List ℕ × ℕ)
flags = (codes "FIN", 1) ∷ (codes "SYN", 2) ∷ (codes "RST", 4) ∷ (codes "PSH", 8) ∷ (codes "ACK", 16) ∷ (codes "URG", 32) ∷ []

-- the names in a list of flags: those of the flags, `ALL` and `NONE`
abbrev pub flag_names : List (List ℕ × ℕ)
flag_names = flags ++ (codes "ALL", 63) ∷ (codes "NONE", 0) ∷ []

-- the set that a list of flags stands for: the union of what its names stand for
abbrev pub tcp_flags_of : List ℕ → Option ℕ
tcp_flags_of text = set_listed flag_names text

-- the names of a set's flags in the order FIN, SYN, RST, PSH, ACK, URG, or `NONE`
unfoldable pub tcp_flags_text : ℕ → List ℕ
tcp_flags_text set = if set == 0 then codes "NONE" else names_listed flags set

-- ---- The condition `--tcp-flags mask comp` (iptables-extensions(8), tcp).

-- both sets are sums of the six flags
pub record IsFlagTest (test : FlagTest) : Type 0 where
  pub mask_known : test.mask < 64
  pub comp_known : test.comp < 64

-- of the flags in the mask, exactly those of the second set are set
abbrev pub flags_pass : FlagTest → ℕ → Bool
flags_pass test value = bit_and value test.mask == test.comp

-- the test that two words stand for
abbrev pub flag_test_of : List ℕ → List ℕ → Option FlagTest
flag_test_of mask comp = tcp_flags_of mask >>= λ m. tcp_flags_of comp >>= λ c. Some (record { mask = m; comp = c })

-- the mask is empty and so is the second set: every packet passes
abbrev pub asks_nothing : FlagTest → Bool
asks_nothing test = (test.mask == 0) && (test.comp == 0)

-- the mask and the second set, with a blank (32) between them
abbrev pub flag_test_text : FlagTest → List ℕ
flag_test_text test = tcp_flags_text test.mask ++ 32 ∷ tcp_flags_text test.comp
