-- The text of a set of flags gives it back.
use Rattle.std.proofs.Common.{◌≡◌, ℕ, ◌<◌, Bool, true, List, Some, refl, ap, ◌∙◌}
use Rattle.fields.specs.Sequence.{◌>>=◌}
use Rattle.fields.specs.values.NameList.{is_just, set_listed, names_listed}
use Rattle.fields.specs.values.TcpFlags.{flag_names, tcp_flags_of, tcp_flags_text, IsFlagTest, flag_test_of}
use Rattle.fields.specs.declared.values.flag_test.FlagTest.{FlagTest}
use Rattle.fields.proofs.laws.values.NameListLaws.{all_below, all_below-at, is_just-same, set_listed-lt}

-- what is read is a sum of flags
pub known : (text : List ℕ) (n : ℕ) → tcp_flags_of text ≡ Some n → n < 64
known text n e = set_listed-lt 6 flag_names text n refl e

abbrev reads : ℕ → Bool
reads n = is_just (tcp_flags_of (tcp_flags_text n)) n

each_reads : all_below reads 64 ≡ true
unfolding set_listed names_listed tcp_flags_text
each_reads = refl

pub reads_back : (n : ℕ) → n < 64 → tcp_flags_of (tcp_flags_text n) ≡ Some n
reads_back n small = is_just-same (tcp_flags_of (tcp_flags_text n)) n (all_below-at reads 64 n each_reads small)

-- and both words of a test
pub test_reads_back : (mask comp : List ℕ) (test : FlagTest) → IsFlagTest test → mask ≡ tcp_flags_text test.mask → comp ≡ tcp_flags_text test.comp → flag_test_of mask comp ≡ Some test
test_reads_back mask comp test is mask-is comp-is =
    ap (λ text. tcp_flags_of text >>= λ m. tcp_flags_of comp >>= λ c. Some (record { mask = m; comp = c })) mask-is
    ∙ ap (λ o. o >>= λ m. tcp_flags_of comp >>= λ c. Some (record { mask = m; comp = c })) (reads_back test.mask is.mask_known)
    ∙ ap (λ text. tcp_flags_of text >>= λ c. Some (record { mask = test.mask; comp = c })) comp-is
    ∙ ap (λ o. o >>= λ c. Some (record { mask = test.mask; comp = c })) (reads_back test.comp is.comp_known)
