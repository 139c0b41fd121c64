-- The text of an ICMP type gives it back.
use Rattle.std.proofs.Common.{◌≡◌, ◌==◌, ℕ, ◌<◌, ◌≤◌, Bool, true, false, cond, not, ◌&&◌, List, ◌∷◌, ◌++◌, Option, None, Some, refl, ap, subst, ◌∙◌, arith, ne_eqb}
use Rattle.std.proofs.lemmas.Bool.{eqb-false, and_parts, ltb-true}
use Rattle.std.specs.Prelude.{decimal, find, option_map, nat_lt}
use Rattle.std.specs.Option.{option_or}
use Rattle.std.specs.List.{list_all}
use Rattle.std.specs.Str.{bytes_eq}
use Rattle.fields.specs.Sequence.{◌>>=◌}
use Rattle.fields.specs.text.Cut.{cut_at}
use Rattle.fields.specs.text.Number.{number_of, number_to}
use Rattle.fields.specs.values.Icmp.{icmp_names, asked_by_name, asked_type, numbers_parted, asked_by_numbers, icmp_of, IsAsked, icmp_text}
use Rattle.fields.specs.declared.values.icmp.Asked.{Asked}
use Rattle.fields.specs.declared.values.icmp.Asked.TheVariants.{Any, OfType, OfCode}
use Rattle.fields.proofs.laws.text.CutLaws.{cut_at-at, cut_at-none, step_before, same_some}
use Rattle.fields.proofs.laws.text.NumberLaws.{decimal-differs, number_to-decimal, number_to_sound}
use Rattle.fields.proofs.laws.ListLaws.{find-among}

-- what is read is a legal type
type_is_asked : (n : ℕ) → n ≤ 255 → IsAsked (asked_type n)
type_is_asked n within = go (n == 255) refl
  where
    go : (t : Bool) → (n == 255) ≡ t → IsAsked (cond t Any (OfType n))
    go true e = tt
    go false e = let other = eqb-false n 255 e in omega arith

numbers_are_asked : (text : List ℕ) (asked : Asked) → asked_by_numbers text ≡ Some asked → IsAsked asked
unfolding asked_by_numbers
numbers_are_asked text asked e = go (cut_at 47 text) e
  where
    go : (cut : Option (List ℕ × List ℕ)) → numbers_parted text cut ≡ Some asked → IsAsked asked
    go None h =
        let (n, read, is) = step_before (number_to 255 text) (λ m. Some (asked_type m)) asked h in
        subst IsAsked (same_some (asked_type n) asked is) (type_is_asked n (number_to_sound 255 text n read).1)
    go (Some p) h =
        let (t, read_type, rest) = step_before (number_to 254 p.0) (λ t. number_to 255 p.1 >>= λ c. Some (OfCode t c)) asked h in
        let (c, read_code, is) = step_before (number_to 255 p.1) (λ c. Some (OfCode t c)) asked rest in
        let low = (number_to_sound 254 p.0 t read_type).1 in
        let small = (number_to_sound 255 p.1 c read_code).1 in
        subst IsAsked (same_some (OfCode t c) asked is) (omega arith, omega arith)

-- whether a type is legal
abbrev is_legal : Asked → Bool
is_legal Any = true
is_legal (OfType t) = nat_lt t 255
is_legal (OfCode t c) = nat_lt t 255 && nat_lt c 256

legal_is_asked : (asked : Asked) → is_legal asked ≡ true → IsAsked asked
legal_is_asked Any e = tt
legal_is_asked (OfType t) e = ltb-true t 255 e
legal_is_asked (OfCode t c) e = let (first, second) = and_parts (nat_lt t 255) (nat_lt c 256) e in (ltb-true t 255 first, ltb-true c 256 second)

name_is_asked : (text : List ℕ) (asked : Asked) → asked_by_name text icmp_names ≡ Some asked → IsAsked asked
name_is_asked text asked e = go (find (λ (row : List ℕ × Asked). bytes_eq row.0 text) icmp_names) refl e
  where
    go : (o : Option (List ℕ × Asked)) → find (λ (row : List ℕ × Asked). bytes_eq row.0 text) icmp_names ≡ o → option_map (λ (row : List ℕ × Asked). row.1) o ≡ Some asked → IsAsked asked
    go None found h = absurd (cc)
    go (Some row) found h =
        subst IsAsked (same_some row.1 asked h) (legal_is_asked row.1 (find-among (λ (r : List ℕ × Asked). bytes_eq r.0 text) (λ (r : List ℕ × Asked). is_legal r.1) icmp_names row refl found))

pub is_asked : (text : List ℕ) (asked : Asked) → icmp_of text ≡ Some asked → IsAsked asked
unfolding icmp_of
is_asked text asked e = go (asked_by_numbers text) refl e
  where
    go : (o : Option Asked) → asked_by_numbers text ≡ o → option_or o (asked_by_name text icmp_names) ≡ Some asked → IsAsked asked
    go None is h = name_is_asked text asked h
    go (Some other) is h = numbers_are_asked text asked (is ∙ h)

-- numbers are read before names
by_numbers : (text : List ℕ) (asked : Asked) → asked_by_numbers text ≡ Some asked → icmp_of text ≡ Some asked
unfolding icmp_of
by_numbers text asked is = ap (λ o. option_or o (asked_by_name text icmp_names)) is

any_reads : icmp_of (icmp_text Any) ≡ Some Any
unfolding icmp_of asked_by_numbers number_to number_of
any_reads = refl

no_slash : (n : ℕ) → n < 256 → list_all (λ b. not (b == 47)) (decimal n) ≡ true
no_slash n small = decimal-differs 47 n refl (omega arith)

-- a type from its text
pub reads_back : (asked : Asked) → IsAsked asked → icmp_of (icmp_text asked) ≡ Some asked
unfolding asked_by_numbers
reads_back Any is = any_reads
reads_back (OfType t) is =
    by_numbers (decimal t) (OfType t) (ap (numbers_parted (decimal t)) (cut_at-none 47 (decimal t) (no_slash t (omega arith)))
    ∙ ap (λ o. o >>= λ n. Some (asked_type n)) (number_to-decimal 255 t (omega arith) (omega arith))
    ∙ ap (λ t'. Some (cond t' Any (OfType t))) (ne_eqb t 255 (λ e. omega arith)))
reads_back (OfCode t c) is =
    let low = is.0 in
    let small = is.1 in
    by_numbers (decimal t ++ 47 ∷ decimal c) (OfCode t c) (ap (numbers_parted (decimal t ++ 47 ∷ decimal c)) (cut_at-at 47 (decimal t) (decimal c) (no_slash t (omega arith)))
    ∙ ap (λ o. o >>= λ t'. number_to 255 (decimal c) >>= λ c'. Some (OfCode t' c')) (number_to-decimal 254 t (omega arith) (omega arith))
    ∙ ap (λ o. o >>= λ c'. Some (OfCode t c')) (number_to-decimal 255 c (omega arith) (omega arith)))
