-- The text of a protocol is read as the protocol.
use Rattle.std.proofs.Common.{◌≡◌, ◌==◌, ℕ, ◌<◌, Bool, true, false, cond, not, List, Option, None, Some, refl, ap, subst, ◌∙◌, arith}
use Rattle.std.specs.Prelude.{decimal, codes, option_map, find}
use Rattle.std.specs.List.{list_all}
use Rattle.std.specs.Str.{bytes_eq, all_ascii_digits}
use Rattle.std.specs.Option.{option_or}
use Rattle.std.proofs.lemmas.Bool.{eqb-true}
use Rattle.std.proofs.lemmas.Fmt.{digits_decimal}
use Rattle.std.proofs.lemmas.Slice.Eq.{bytes_eq-Decides}
use Rattle.fields.specs.text.Number.{number_to}
use Rattle.fields.specs.values.Protocol.{protocols, number_in, protocol_number, protocol_name, one_protocol_of, protocol_of, named_or_decimal, protocol_text}
use Rattle.fields.proofs.laws.ListLaws.{find-passes, find-none, all-weaker}
use Rattle.fields.proofs.laws.text.NumberLaws.{numeral, number_to-decimal}

-- a text of digits is no name
no-digits : (text : List ℕ) → all_ascii_digits text ≡ true → (name : List ℕ) → not (all_ascii_digits name) ≡ true → not (bytes_eq name text) ≡ true
no-digits text digits name off = go (bytes_eq name text) refl
  where
    go : (t : Bool) → bytes_eq name text ≡ t → not t ≡ true
    go false differs = refl
    go true same = let e = (bytes_eq-Decides name text).0 same in let on = subst (λ (l : List ℕ). not (all_ascii_digits l) ≡ true) e off in cc

pub names-are-words : list_all (λ (entry : List ℕ × ℕ). not (all_ascii_digits entry.0)) protocols ≡ true
names-are-words = refl

-- a number's text is read as the number
decimal-read : (n : ℕ) → n < 256 → protocol_of (decimal n) ≡ Some n
unfolding protocol_of one_protocol_of protocol_number
decimal-read n small =
    let digits = digits_decimal numeral n (omega arith) in
    let no_all = no-digits (decimal n) digits (codes "all") refl in
    let none = find-none (λ (entry : List ℕ × ℕ). bytes_eq entry.0 (decimal n)) protocols
    (all-weaker (λ (entry : List ℕ × ℕ). not (all_ascii_digits entry.0)) (λ (entry : List ℕ × ℕ). not (bytes_eq entry.0 (decimal n))) protocols (λ entry off. no-digits (decimal n) digits entry.0 off) names-are-words) in
    ap (λ t. cond t (Some 0) (option_or (number_in (decimal n) protocols) (number_to 255 (decimal n)))) (turned (decimal n) digits)
    ∙ ap (λ (o : Option (List ℕ × ℕ)). option_or (option_map (λ entry. entry.1) o) (number_to 255 (decimal n))) none ∙ number_to-decimal 255 n (omega arith) (omega arith)
  where
    turned : (text : List ℕ) → all_ascii_digits text ≡ true → bytes_eq text (codes "all") ≡ false
    turned text digits = go (bytes_eq text (codes "all")) refl
      where
        go : (t : Bool) → bytes_eq text (codes "all") ≡ t → t ≡ false
        go false differs = refl
        go true same = let e = (bytes_eq-Decides text (codes "all")).0 same in let on = subst (λ (l : List ℕ). all_ascii_digits l ≡ true) e digits in cc

-- a name of the table is read as the number beside it
abbrev is_number : Option ℕ → ℕ → Bool
is_number None n = false
is_number (Some m) n = m == n

is_number-same : (o : Option ℕ) (n : ℕ) → is_number o n ≡ true → o ≡ Some n
is_number-same None n e = absurd (cc)
is_number-same (Some m) n e = ap Some (eqb-true m n e)

names-read : list_all (λ (entry : List ℕ × ℕ). is_number (protocol_of entry.0) entry.1) protocols ≡ true
unfolding protocol_of one_protocol_of protocol_number
names-read = refl

pub protocol_of-protocol_text : (n : ℕ) → n < 256 → protocol_of (protocol_text n) ≡ Some n
unfolding protocol_text protocol_name
protocol_of-protocol_text n small = go (find (λ (entry : List ℕ × ℕ). entry.1 == n) protocols) refl
  where
    go : (o : Option (List ℕ × ℕ)) → find (λ (entry : List ℕ × ℕ). entry.1 == n) protocols ≡ o → protocol_of (named_or_decimal n (option_map (λ entry. entry.0) o)) ≡ Some n
    go None found = decimal-read n small
    go (Some entry) found =
        let (number, reads) = find-passes (λ (e : List ℕ × ℕ). e.1 == n) (λ (e : List ℕ × ℕ). is_number (protocol_of e.0) e.1) protocols entry found names-read in
        is_number-same (protocol_of entry.0) entry.1 reads ∙ ap Some (eqb-true entry.1 n number)

pub reads_back : (n : ℕ) → n < 256 → protocol_of (protocol_text n) ≡ Some n
reads_back n small = protocol_of-protocol_text n small
