-- A number's 32 digits of base 16 are read as the number.
use Rattle.std.proofs.Common.{◌≡◌, ◌==◌, ℕ, zero, suc, ◌+◌, ◌*◌, ◌/◌, ◌%◌, ◌^◌, ◌<◌, ◌≤◌, Bool, true, false, cond, not, nat_lt, List, [], ◌∷◌, ◌++◌, flat_map, length, None, Some, refl, ap, sym, ◌∙◌, arith, ne_eqb}
use Rattle.std.specs.Int.{byte_at, bytes_high_first}
use Rattle.std.specs.List.{list_all}
use Rattle.std.proofs.lemmas.Bool.{and_from, lt-ltb}
use Rattle.std.proofs.Math.Nat.{div-div-eq-div-mul, div-le_self, pow-suc}
use Rattle.fields.specs.Sequence.{◌>>=◌}
use Rattle.fields.specs.values.NameList.{is_just}
use Rattle.fields.proofs.laws.values.NameListLaws.{all_below, all_below-at, is_just-same}
use Rattle.notation.specs.IntervalText.{digit_byte, digits_of, hexadecimal_text}
use Rattle.notation.specs.Range.{digit_of, digits_from, hexadecimal_of}
use Rattle.notation.proofs.ValueTextLaws.{length-bytes}

-- a digit
digits-read : all_below (λ d. is_just (digit_of (digit_byte d)) d) 16 ≡ true
digits-read = refl

digit_of-digit_byte : (d : ℕ) → d < 16 → digit_of (digit_byte d) ≡ Some d
digit_of-digit_byte d small = is_just-same _ d (all_below-at (λ d. is_just (digit_of (digit_byte d)) d) 16 d digits-read small)

one-digit : (n d : ℕ) (rest : List ℕ) → n < 21267647932558653966460912964485513216 → d < 16 → digits_from n (digit_byte d ∷ rest) ≡ digits_from (n * 16 + d) rest
one-digit n d rest room small =
    ap (λ t. cond t (digit_of (digit_byte d) >>= λ e. digits_from (n * 16 + e) rest) None) (lt-ltb n 21267647932558653966460912964485513216 room)
    ∙ ap (λ o. o >>= λ e. digits_from (n * 16 + e) rest) (digit_of-digit_byte d small)

-- the two of a byte after the number before it
one-byte : (q : ℕ) (rest : List ℕ) → q < 2 ^ 128 → digits_from (q / 256) (digits_of (q % 256) ++ rest) ≡ digits_from q rest
one-byte q rest small =
    let high = q % 256 / 16 in
    let low = q % 256 % 16 in
    let whole : (q / 256 * 16 + high) * 16 + low ≡ q = omega arith in
    one-digit (q / 256) high (digit_byte low ∷ rest) (omega arith) (omega arith)
    ∙ one-digit (q / 256 * 16 + high) low rest (omega arith) (omega arith) ∙ ap (λ n. digits_from n rest) whole

byte-is : (k n : ℕ) → byte_at k n ≡ n / 256 ^ k % 256
byte-is zero n = let same : n / 1 ≡ n = omega arith in ap (λ m. m % 256) (sym same)
byte-is (suc k) n = refl

bytes-read : (k n : ℕ) → n < 2 ^ 128 → digits_from (n / 256 ^ k) (flat_map digits_of (bytes_high_first k n)) ≡ Some n
bytes-read zero n small = let same : n / 1 ≡ n = omega arith in ap Some same
bytes-read (suc k) n small =
    let q = n / 256 ^ k in
    let less : n / 256 ^ suc k ≡ q / 256 = ap (λ p. n / p) (pow-suc 256 k) ∙ sym (div-div-eq-div-mul n (256 ^ k) 256) in
    let rest = flat_map digits_of (bytes_high_first k n) in
    let within : q < 2 ^ 128 = let less = div-le_self n (256 ^ k) in omega arith in
    ap (λ m. digits_from m (digits_of (byte_at k n) ++ rest)) less ∙ ap (λ b. digits_from (q / 256) (digits_of b ++ rest)) (byte-is k n) ∙ one-byte q rest within ∙ bytes-read k n small

length-digits : (bytes : List ℕ) → length (flat_map digits_of bytes) ≡ length bytes * 2
length-digits [] = refl
length-digits (b ∷ bytes) = let more = length-digits bytes in omega arith

pub length-hexadecimal : (n : ℕ) → length (hexadecimal_text n) ≡ 32
unfolding hexadecimal_text
length-hexadecimal n = let two = length-digits (bytes_high_first 16 n) in let all = length-bytes 16 n in omega arith

pub hexadecimal_of-hexadecimal_text : (n : ℕ) → n < 2 ^ 128 → hexadecimal_of (hexadecimal_text n) ≡ Some n
unfolding hexadecimal_of hexadecimal_text
hexadecimal_of-hexadecimal_text n small =
    let none : n / 256 ^ 16 ≡ 0 = omega arith in
    ap (λ l. cond (l == 32) (digits_from 0 (hexadecimal_text n)) None) (length-hexadecimal n)
    ∙ ap (λ m. digits_from m (hexadecimal_text n)) (sym none) ∙ bytes-read 16 n small

-- no byte of them is below `0` (48)
digit-high : (d : ℕ) → 48 ≤ digit_byte d
digit-high d = go (nat_lt d 10)
  where
    go : (t : Bool) → 48 ≤ cond t (48 + d) (87 + d)
    go true = omega arith
    go false = omega arith

high : (mark d : ℕ) → mark < 48 → not (digit_byte d == mark) ≡ true
high mark d low = ap not (ne_eqb (digit_byte d) mark (λ e. let above = digit-high d in omega (arith, above, e)))

digits-differ : (mark : ℕ) (bytes : List ℕ) → mark < 48 → list_all (λ x. not (x == mark)) (flat_map digits_of bytes) ≡ true
digits-differ mark [] low = refl
digits-differ mark (b ∷ bytes) low = and_from _ _ (high mark (b / 16) low) (and_from _ _ (high mark (b % 16) low) (digits-differ mark bytes low))

pub hexadecimal-differs : (mark n : ℕ) → mark < 48 → list_all (λ x. not (x == mark)) (hexadecimal_text n) ≡ true
unfolding hexadecimal_text
hexadecimal-differs mark n low = digits-differ mark (bytes_high_first 16 n) low
