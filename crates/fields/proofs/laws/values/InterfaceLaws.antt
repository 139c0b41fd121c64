-- The numbers of which an interface pattern holds are those of one interval, and those of exactly the names that it stands for.
use Rattle.std.proofs.Common.{◌≡◌, ◌==◌, ℕ, zero, suc, ◌+◌, ◌-◌, ◌*◌, ◌/◌, ◌%◌, ◌^◌, ◌<◌, ◌≤◌, Bool, true, false, cond, not, ◌&&◌, List, [], ◌∷◌, ◌++◌, length, get_or, take, fold, Some, None, refl, sym, ap, ◌∙◌, arith, inl, inr, eqb, leb, ne_eqb, eq-eqb, length-append, append-nil, add-one, length-take, subst}
use Rattle.std.specs.Prelude.{replicate, nat_le, nat_eq, codes}
use Rattle.std.proofs.lemmas.List.{length-replicate, take_more, take_all}
use Rattle.std.proofs.lemmas.List.Folds.{list_all-append}
use Rattle.std.proofs.lemmas.List.Sums.{fold-append}
use Rattle.std.proofs.lemmas.Bool.{and_parts, and_from, and_left, and_right, cases_order, cases_lt, le-leb, lt-leb, leb-true, ltb-true}
use Rattle.std.proofs.lemmas.Nat.{mod-mul-add, mul-add-lt, div-add-mod', mod_below}
use Rattle.std.proofs.Math.Nat.{pow-suc, pow-le-pow_right, mul-le-mul_right}
use Rattle.std.specs.List.{list_all, starts_with}
use Rattle.std.specs.Int.{byte_at, bytes_high_first, w128, to_be_bytes}
use Rattle.std.specs.Str.{bytes_eq}
use Rattle.std.specs.Cmp.Lexicographic.{pointwise}
use Rattle.fields.specs.values.Interface.{is_interface_byte, is_interface, interface_of, filled, bytes_value, is_open, asked_bytes, interface_holds, interface_interval, interface_value, interface_matches, IsInterfaceName}
use Rattle.fields.proofs.laws.ListLaws.{all-weaker, all-take}

-- ---- The numbers of which an interface pattern holds are those of one interval.

-- a byte
abbrev pub is_byte : ℕ → Bool
is_byte b = nat_le b 255

-- the number of k bytes, of which the first are these and the others a filling
abbrev pub bound : ℕ → ℕ → List ℕ → ℕ
bound fill zero xs = 0
bound fill (suc k) [] = fill * 256 ^ k + bound fill k []
bound fill (suc k) (x ∷ xs) = x * 256 ^ k + bound fill k xs

abbrev pub more : ℕ → ℕ → ℕ
more value byte = value * 256 + byte

-- a number before bytes
fold-more : (n : ℕ) (bytes : List ℕ) → fold more n bytes ≡ n * 256 ^ length bytes + fold more 0 bytes
fold-more n [] = omega arith
fold-more n (b ∷ bytes) = joined n b (256 ^ length bytes) (256 ^ suc (length bytes)) _ _ _ (fold-more (n * 256 + b) bytes) (fold-more (0 * 256 + b) bytes) (pow-suc 256 (length bytes))
  where
    joined : (n b P Q front whole rest : ℕ) → whole ≡ (n * 256 + b) * P + front → rest ≡ (0 * 256 + b) * P + front → Q ≡ P * 256 → whole ≡ n * Q + rest
    joined n b P Q front whole rest first second power = rw power (omega arith)

bound-none : (fill k : ℕ) → bound fill k [] ≡ bytes_value (replicate k fill)
bound-none fill zero = refl
bound-none fill (suc k) =
    let same = bound-none fill k in
    let whole = fold-more fill (replicate k fill) in
    let len : length (replicate k fill) ≡ k = length-replicate k fill in
    let front : 0 * 256 + fill ≡ fill = omega arith in
    ap (λ n. fill * 256 ^ k + n) same ∙ ap (λ n. fill * 256 ^ n + bytes_value (replicate k fill)) (sym len) ∙ sym whole ∙ ap (λ n. fold more n (replicate k fill)) (sym front)

pub bound-is : (fill k : ℕ) (xs : List ℕ) → length xs ≤ k → bound fill k xs ≡ bytes_value (xs ++ replicate (k - length xs) fill)
bound-is fill k [] fits = bound-none fill k ∙ ap (λ n. bytes_value (replicate n fill)) (let same : k ≡ k - 0 = omega arith in same)
bound-is fill zero (x ∷ xs) fits = absurd (omega arith)
bound-is fill (suc k) (x ∷ xs) fits =
    let rest = xs ++ replicate (k - length xs) fill in
    let same = bound-is fill k xs (omega arith) in
    let len : length rest ≡ k = omega (arith, length-append xs (replicate (k - length xs) fill), length-replicate (k - length xs) fill) in
    let front : 0 * 256 + x ≡ x = omega arith in
    let less : suc k - suc (length xs) ≡ k - length xs = omega arith in
    ap (λ n. x * 256 ^ k + n) same ∙ ap (λ n. x * 256 ^ n + bytes_value rest) (sym len) ∙ sym (fold-more x rest)
    ∙ ap (λ n. fold more n rest) (sym front) ∙ ap (λ n. bytes_value (x ∷ (xs ++ replicate n fill))) (sym less)

pub bound-low : (k : ℕ) → bound 0 k [] ≡ 0
bound-low zero = refl
bound-low (suc k) = let same = bound-low k in omega arith

pub bound-high : (k : ℕ) → bound 255 k [] + 1 ≡ 256 ^ k
bound-high zero = refl
bound-high (suc k) = let same = bound-high k in let power = pow-suc 256 k in omega arith

pub bound-fits : (fill k : ℕ) (xs : List ℕ) → fill ≤ 255 → list_all is_byte xs ≡ true → bound fill k xs < 256 ^ k
bound-fits fill zero xs small all = omega arith
bound-fits fill (suc k) [] small all =
    let rest = bound-fits fill k [] small refl in
    let power = pow-suc 256 k in
    let top : fill * 256 ^ k ≤ 255 * 256 ^ k = mul-le-mul_right (256 ^ k) small in
    omega arith
bound-fits fill (suc k) (x ∷ xs) small all =
    let (first, others) = and_parts (is_byte x) (list_all is_byte xs) all in
    let rest = bound-fits fill k xs small others in
    let power = pow-suc 256 k in
    let within : x ≤ 255 = leb-true x 255 first in
    let top : x * 256 ^ k ≤ 255 * 256 ^ k = mul-le-mul_right (256 ^ k) within in
    omega arith

digit-more : (v P : ℕ) → 0 < P → v % (P * 256) ≡ v / P % 256 * P + v % P
digit-more v P some =
    let q = v / P in
    let w = q % 256 * P + v % P in
    let parts : q * P + v % P ≡ v = div-add-mod' v P in
    let high : q / 256 * 256 + q % 256 ≡ q = omega arith in
    let low : v % P < P = mod_below v P some in
    let fits : w < P * 256 = let h = mul-add-lt (q % 256) P (v % P) 256 (omega arith) low in omega arith in
    let split : (q / 256 * 256 + q % 256) * P + v % P ≡ q / 256 * (P * 256) + w = omega arith in
    ap (λ n. n % (P * 256)) (sym parts ∙ ap (λ n. n * P + v % P) (sym high) ∙ split) ∙ mod-mul-add (q / 256) (P * 256) w fits

power-some : (k : ℕ) → 0 < 256 ^ k
power-some k = let whole = bound-high k in omega arith

-- one byte more of a number
next-byte : (k v : ℕ) → v % 256 ^ suc k ≡ byte_at k v * 256 ^ k + v % 256 ^ k
next-byte zero v = let one : v % 1 ≡ 0 = omega arith in omega arith
next-byte (suc k) v = ap (λ n. v % n) (pow-suc 256 (suc k)) ∙ digit-more v (256 ^ suc k) (power-some (suc k))

same-leb : (a b c d : ℕ) → (a ≤ b → c ≤ d) → (c ≤ d → a ≤ b) → leb a b ≡ leb c d
same-leb a b c d to from = elim (cases_lt b a) [
  | inl above ↦ lt-leb a b above ∙ sym (lt-leb c d (elim (cases_lt d c) [ inl h ↦ h | inr h ↦ absurd (let low = from h in omega arith) ]))
  | inr low ↦ le-leb a b low ∙ sym (le-leb c d (to low))
]

-- a first byte and the rest, against two bounds that share their first byte
pub step : (x b P r lo hi : ℕ) → r < P → hi < P → (eqb x b && (leb lo r && leb r hi)) ≡ (leb (x * P + lo) (b * P + r) && leb (b * P + r) (x * P + hi))
step x b P r lo hi small fits = elim (cases_order x b) [
  | inl same ↦
      ap (λ t. t && (leb lo r && leb r hi)) (eq-eqb x b same)
      ∙ ap (λ t. t && leb r hi) (same-leb lo r (x * P + lo) (b * P + r) (λ h. rw same (omega arith)) (λ h. let k = rw same at h in omega arith))
      ∙ ap (λ t. leb (x * P + lo) (b * P + r) && t) (same-leb r hi (b * P + r) (x * P + hi) (λ h. rw same (omega arith)) (λ h. let k = rw same at h in omega arith))
  | inr (inl below) ↦
      let far : (x + 1) * P ≤ b * P = mul-le-mul_right P (let h : x + 1 ≤ b = omega arith in h) in
      ap (λ t. t && (leb lo r && leb r hi)) (ne_eqb x b (λ e. omega arith)) ∙ sym (and_right _ _ (lt-leb (b * P + r) (x * P + hi) (omega arith)))
  | inr (inr above) ↦
      let far : (b + 1) * P ≤ x * P = mul-le-mul_right P (let h : b + 1 ≤ x = omega arith in h) in
      ap (λ t. t && (leb lo r && leb r hi)) (ne_eqb x b (λ e. omega arith)) ∙ sym (and_left _ _ (lt-leb (x * P + lo) (b * P + r) (omega arith)))
]

abbrev pub IsWithin : ℕ → ℕ → List ℕ → Type 0
IsWithin k v xs = starts_with nat_eq (bytes_high_first k v) xs ≡ (leb (bound 0 k xs) (v % 256 ^ k) && leb (v % 256 ^ k) (bound 255 k xs))

pub within : (k v : ℕ) (xs : List ℕ) → length xs ≤ k → list_all is_byte xs ≡ true → IsWithin k v xs
within k v [] fits all =
    let least = bound-low k in
    let most = bound-high k in
    let small = mod_below v (256 ^ k) (power-some k) in
    let low : bound 0 k [] ≤ v % 256 ^ k = omega arith in
    let high : v % 256 ^ k ≤ bound 255 k [] = omega arith in
    sym (and_from _ _ (le-leb _ _ low) (le-leb _ _ high))
within zero v (x ∷ xs) fits all = absurd (omega arith)
within (suc k) v (x ∷ xs) fits all =
    let (first, others) = and_parts (is_byte x) (list_all is_byte xs) all in
    let P = 256 ^ k in
    let lo = bound 0 k xs in
    let hi = bound 255 k xs in
    ap (λ t. eqb x (byte_at k v) && t) (within k v xs (omega arith) others)
    ∙ step x (byte_at k v) P (v % P) lo hi (mod_below v P (power-some k)) (bound-fits 255 k xs (omega arith) others)
    ∙ ap (λ n. leb (x * P + lo) n && leb n (x * P + hi)) (sym (next-byte k v))

-- a byte of an interface's name is neither 0 nor above 255
pub interface-byte : (x : ℕ) → is_interface_byte x ≡ true → (33 ≤ x) × (x ≤ 126)
interface-byte x is =
    let unquoted = (and_parts (nat_le 33 x && nat_le x 126 && not (x == 47)) (not (x == 34)) is).0 in
    let sized = (and_parts (nat_le 33 x && nat_le x 126) (not (x == 47)) unquoted).0 in
    let (low, high) = and_parts (nat_le 33 x) (nat_le x 126) sized in
    (leb-true 33 x low, leb-true x 126 high)

interface-bytes : (xs : List ℕ) → list_all is_interface_byte xs ≡ true → list_all is_byte xs ≡ true
interface-bytes xs all = all-weaker is_interface_byte is_byte xs (λ x is. let (low, high) = interface-byte x is in le-leb x 255 (omega arith)) all

fill-bytes : (fill n : ℕ) → fill ≤ 255 → list_all is_byte (replicate n fill) ≡ true
fill-bytes fill zero small = refl
fill-bytes fill (suc n) small = and_from _ _ (le-leb fill 255 small) (fill-bytes fill n small)

-- what a text of an interface is
pub record IsInterface (pattern : List ℕ) : Type 0 where
  pub some : 0 < length pattern
  pub few : length pattern ≤ 15
  pub named : list_all is_interface_byte pattern ≡ true
  pub bytes : list_all is_byte pattern ≡ true

pub interface_of-form : (pattern : List ℕ) → interface_of pattern ≡ Some pattern → IsInterface pattern
unfolding interface_of
interface_of-form pattern reads = go (is_interface pattern) refl reads
  where
    go : (t : Bool) → is_interface pattern ≡ t → cond t (Some pattern) None ≡ Some pattern → IsInterface pattern
    go false form h = absurd (cc)
    go true form h =
        let (sized, all) = and_parts _ _ form in
        let (some, few) = and_parts _ _ sized in
        record { some = ltb-true 0 (length pattern) some; few = leb-true (length pattern) 15 few; named = all; bytes = interface-bytes pattern all }

pub record IsAsked (xs : List ℕ) : Type 0 where
  pub fits : length xs ≤ 16
  pub bytes : list_all is_byte xs ≡ true

pub length-filled : (fill : ℕ) (xs : List ℕ) → length xs ≤ 16 → length (filled fill xs) ≡ 16
length-filled fill xs fits = omega (arith, length-append xs (replicate (16 - length xs) fill), length-replicate (16 - length xs) fill)

-- a name with its zero bytes
pub filled-bytes : (name : List ℕ) → list_all is_byte name ≡ true → list_all is_byte (filled 0 name) ≡ true
filled-bytes name bytes = list_all-append is_byte name (replicate (16 - length name) 0) ∙ and_from _ _ bytes (fill-bytes 0 (16 - length name) (omega arith))

pub asked : (pattern : List ℕ) → IsInterface pattern → IsAsked (asked_bytes pattern)
asked pattern is = go (is_open pattern)
  where
    few : length pattern ≤ 15
    few = is.few

    go : (t : Bool) → IsAsked (cond t (take (length pattern - 1) pattern) (filled 0 pattern))
    go true = record { fits = omega (arith, few, length-take (length pattern - 1) pattern); bytes = all-take is_byte (length pattern - 1) pattern is.bytes }
    go false = record {
      fits = omega (arith, length-filled 0 pattern (omega (arith, few)));
      bytes = filled-bytes pattern is.bytes;
    }

-- the pattern holds of exactly the numbers of its interval
pub interface_holds-interval : (pattern : List ℕ) → interface_of pattern ≡ Some pattern → (value : ℕ) → value < 2 ^ 128
    → interface_holds pattern value ≡ (nat_le (interface_interval pattern).0 value && nat_le value (interface_interval pattern).1)
unfolding interface_holds interface_interval
interface_holds-interval pattern reads value small =
    let xs = asked_bytes pattern in
    let is = asked pattern (interface_of-form pattern reads) in
    let same : value % 256 ^ 16 ≡ value = omega arith in
    within 16 value xs is.fits is.bytes
    ∙ ap (λ n. leb n (value % 256 ^ 16) && leb (value % 256 ^ 16) (bound 255 16 xs)) (bound-is 0 16 xs is.fits)
    ∙ ap (λ n. leb (bytes_value (filled 0 xs)) (value % 256 ^ 16) && leb (value % 256 ^ 16) n) (bound-is 255 16 xs is.fits)
    ∙ ap (λ n. leb (bytes_value (filled 0 xs)) n && leb n (bytes_value (filled 255 xs))) same

-- the same of the pair that is answered
pub interval-holds : (pattern : List ℕ) (found : ℕ × ℕ) → interface_of pattern ≡ Some pattern → found ≡ interface_interval pattern
    → (value : ℕ) → value < 2 ^ 128 → interface_holds pattern value ≡ (nat_le found.0 value && nat_le value found.1)
interval-holds pattern found reads same value small =
    interface_holds-interval pattern reads value small ∙ ap (λ (p : ℕ × ℕ). nat_le p.0 value && nat_le value p.1) (sym same)

-- the interval is never empty
low-high : (k : ℕ) (xs : List ℕ) → bound 0 k xs ≤ bound 255 k xs
low-high zero xs = omega arith
low-high (suc k) [] = let rest = low-high k [] in omega arith
low-high (suc k) (x ∷ xs) = let rest = low-high k xs in omega arith

pub interval-ordered : (pattern : List ℕ) (found : ℕ × ℕ) → interface_of pattern ≡ Some pattern → found ≡ interface_interval pattern → found.0 ≤ found.1
unfolding interface_interval
interval-ordered pattern found reads same =
    let is = asked pattern (interface_of-form pattern reads) in
    let xs = asked_bytes pattern in
    let low = bound-is 0 16 xs is.fits in
    let high = bound-is 255 16 xs is.fits in
    let order = low-high 16 xs in
    let first : found.0 ≡ bytes_value (filled 0 xs) = ap (λ (p : ℕ × ℕ). p.0) same in
    let last : found.1 ≡ bytes_value (filled 255 xs) = ap (λ (p : ℕ × ℕ). p.1) same in
    omega arith

-- `+` asks for no byte
pub any-holds : (pattern : List ℕ) → pattern ≡ codes "+" → (value : ℕ) → interface_holds pattern value ≡ true
unfolding interface_holds
any-holds pattern is value = ap (λ p. starts_with nat_eq (to_be_bytes w128 value) (asked_bytes p)) is

-- 16 bytes are filled no further
pub filled-filled : (fill : ℕ) (xs : List ℕ) → length xs ≤ 16 → filled fill (filled 0 xs) ≡ filled 0 xs
filled-filled fill xs fits =
    ap (λ n. filled 0 xs ++ replicate n fill) (let none : 16 - length (filled 0 xs) ≡ 0 = omega (arith, length-filled 0 xs fits) in none) ∙ append-nil (filled 0 xs)

-- the number of one byte more
pub bytes_value-more : (xs : List ℕ) (i b : ℕ) → i < length xs → b ≡ get_or xs i 0 → bytes_value (take (i + 1) xs) ≡ bytes_value (take i xs) * 256 + b
bytes_value-more xs i b inside is =
    ap bytes_value (take_more xs i 0 inside) ∙ fold-append more 0 (take i xs) (get_or xs i 0 ∷ []) ∙ ap (λ n. bytes_value (take i xs) * 256 + n) (sym is)

power-up : (i : ℕ) → i < 16 → 256 ^ i ≤ 256 ^ 15
power-up i low = pow-le-pow_right (let some : 0 < 256 = omega arith in some) (let most : i ≤ 15 = omega arith in most)

-- up to 16 bytes have a number of 128 bits
pub record HasRoom (i v b : ℕ) : Type 0 where
  pub product : v * 256 < 2 ^ 128
  pub sum : v * 256 + b < 2 ^ 128
  pub below : v * 256 + b < 256 ^ (i + 1)

pub room : (i v b : ℕ) → i < 16 → v < 256 ^ i → b < 256 → HasRoom i v b
room i v b low small byte =
    let top : 256 ^ i ≤ 256 ^ 15 = power-up i low in
    let power : 256 ^ (i + 1) ≡ 256 ^ i * 256 = ap (λ n. 256 ^ n) (add-one i) ∙ pow-suc 256 i in
    record { product = omega arith; sum = omega arith; below = omega arith }

-- a pattern without a last `+` holds of one number
pub interval-closed : (pattern : List ℕ) → interface_of pattern ≡ Some pattern → is_open pattern ≡ false → (bytes_value (filled 0 pattern), bytes_value (filled 0 pattern)) ≡ interface_interval pattern
unfolding interface_interval
interval-closed pattern reads closed =
    let is = interface_of-form pattern reads in
    let few : length pattern ≤ 15 = is.few in
    let fits : length pattern ≤ 16 = omega arith in
    sym (ap (λ t. let xs = cond t (take (length pattern - 1) pattern) (filled 0 pattern) in (bytes_value (filled 0 xs), bytes_value (filled 255 xs))) closed
    ∙ ap (λ xs. (bytes_value xs, bytes_value (filled 255 (filled 0 pattern)))) (filled-filled 0 pattern fits) ∙ ap (λ xs. (bytes_value (filled 0 pattern), bytes_value xs)) (filled-filled 255 pattern fits))

-- ---- A pattern holds of the numbers of exactly the names that it stands for.

-- the bytes of a number against others, by the two bounds of those
compare-bytes : (k : ℕ) (xs ys : List ℕ) → length xs ≤ k → length ys ≡ k → list_all is_byte xs ≡ true → list_all is_byte ys ≡ true
    → starts_with nat_eq ys xs ≡ (leb (bound 0 k xs) (bound 0 k ys) && leb (bound 0 k ys) (bound 255 k xs))
compare-bytes k [] ys fits len small bytes =
    let least = bound-low k in
    let most = bound-high k in
    let below = bound-fits 0 k ys (omega arith) bytes in
    let low : bound 0 k [] ≤ bound 0 k ys = omega arith in
    let high : bound 0 k ys ≤ bound 255 k [] = omega arith in
    sym (and_from _ _ (le-leb _ _ low) (le-leb _ _ high))
compare-bytes zero (x ∷ xs) ys fits len small bytes = absurd (omega arith)
compare-bytes (suc k) (x ∷ xs) [] fits len small bytes = absurd (omega arith)
compare-bytes (suc k) (x ∷ xs) (y ∷ ys) fits len small bytes =
    let (first, others) = and_parts (is_byte x) (list_all is_byte xs) small in
    let (front, rest) = and_parts (is_byte y) (list_all is_byte ys) bytes in
    ap (λ t. eqb x y && t) (compare-bytes k xs ys (omega arith) (omega arith) others rest)
    ∙ step x y (256 ^ k) (bound 0 k ys) (bound 0 k xs) (bound 255 k xs) (bound-fits 0 k ys (omega arith) rest) (bound-fits 255 k xs (omega arith) others)

-- a name's number begins with the bytes with which the name and its zero bytes begin
holds-of-name : (pattern name : List ℕ) → IsAsked (asked_bytes pattern) → length name ≤ 16 → list_all is_byte name ≡ true
    → interface_holds pattern (interface_value name) ≡ starts_with nat_eq (filled 0 name) (asked_bytes pattern)
unfolding interface_holds interface_value
holds-of-name pattern name is fits bytes =
    let xs = asked_bytes pattern in
    let ys = filled 0 name in
    let len = length-filled 0 name fits in
    let all = filled-bytes name bytes in
    let number : bound 0 16 ys ≡ bytes_value ys = bound-is 0 16 ys (omega arith) ∙ ap bytes_value (filled-filled 0 name fits) in
    let below = bound-fits 0 16 ys (omega arith) all in
    let same : bytes_value ys % 256 ^ 16 ≡ bound 0 16 ys = omega arith in
    within 16 (bytes_value ys) xs is.fits is.bytes
    ∙ ap (λ n. leb (bound 0 16 xs) n && leb n (bound 255 16 xs)) same ∙ sym (compare-bytes 16 xs ys is.fits len is.bytes all)

-- no byte of a name is 0
abbrev is_some_byte : ℕ → Bool
is_some_byte byte = not (byte == 0)

some-bytes : (xs : List ℕ) → list_all is_interface_byte xs ≡ true → list_all is_some_byte xs ≡ true
some-bytes xs all = all-weaker is_interface_byte is_some_byte xs (λ x is. let (low, high) = interface-byte x is in ap not (ne_eqb x 0 (λ e. omega arith))) all

differ : (x y : ℕ) (rest : Bool) → (x ≡ y → ⊥) → (eqb x y && rest) ≡ false
differ x y rest apart = ap (λ t. t && rest) (ne_eqb x y apart)

some-byte : (x : ℕ) → is_some_byte x ≡ true → x ≡ 0 → ⊥
some-byte x some e = let on = ap (λ n. is_some_byte n) e in cc

-- zero bytes behind a name are no part of it
begins : (stem name : List ℕ) (n : ℕ) → list_all is_some_byte stem ≡ true
    → pointwise eqb stem (take (length stem) (name ++ replicate n 0)) ≡ pointwise eqb stem (take (length stem) name)
begins [] name n some = refl
begins (s ∷ stem) [] zero some = refl
begins (s ∷ stem) [] (suc n) some = differ s 0 _ (some-byte s (and_parts (is_some_byte s) (list_all is_some_byte stem) some).0)
begins (s ∷ stem) (c ∷ name) n some = ap (λ t. eqb s c && t) (begins stem name n (and_parts (is_some_byte s) (list_all is_some_byte stem) some).1)

zeros : (n : ℕ) → pointwise eqb (replicate n 0) (replicate n 0) ≡ true
zeros zero = refl
zeros (suc n) = zeros n

same-names : (xs ys : List ℕ) (m n : ℕ) → length xs + m ≡ length ys + n → list_all is_some_byte xs ≡ true → list_all is_some_byte ys ≡ true
    → pointwise eqb (xs ++ replicate m 0) (ys ++ replicate n 0) ≡ pointwise eqb xs ys
same-names [] [] m n len some others = ap (λ k. pointwise eqb (replicate m 0) (replicate k 0)) (let same : n ≡ m = omega arith in same) ∙ zeros m
same-names [] (y ∷ ys) zero n len some others = absurd (omega arith)
same-names [] (y ∷ ys) (suc m) n len some others = differ 0 y _ (λ e. some-byte y (and_parts (is_some_byte y) (list_all is_some_byte ys) others).0 (sym e))
same-names (x ∷ xs) [] m zero len some others = absurd (omega arith)
same-names (x ∷ xs) [] m (suc n) len some others = differ x 0 _ (some-byte x (and_parts (is_some_byte x) (list_all is_some_byte xs) some).0)
same-names (x ∷ xs) (y ∷ ys) m n len some others =
    ap (λ t. eqb x y && t) (same-names xs ys m n (omega arith) (and_parts (is_some_byte x) (list_all is_some_byte xs) some).1 (and_parts (is_some_byte y) (list_all is_some_byte ys) others).1)

record IsNamed (name : List ℕ) : Type 0 where
  few : length name ≤ 15
  bytes : list_all is_byte name ≡ true
  some : list_all is_some_byte name ≡ true

named : (name : List ℕ) → IsInterfaceName name → IsNamed name
named name (inl none) = subst IsNamed (sym none) (record { few = omega arith; bytes = refl; some = refl })
named name (inr reads) = let is = interface_of-form name reads in record { few = is.few; bytes = is.bytes; some = some-bytes name is.named }

pub interface_holds-name : (pattern : List ℕ) → interface_of pattern ≡ Some pattern → (name : List ℕ) → IsInterfaceName name
    → interface_holds pattern (interface_value name) ≡ interface_matches pattern name
interface_holds-name pattern reads name is =
    let form = interface_of-form pattern reads in
    let few : length pattern ≤ 15 = form.few in
    let whole = some-bytes pattern form.named in
    let whose = named name is in
    let short : length name ≤ 15 = whose.few in
    let fits : length name ≤ 16 = omega arith in
    holds-of-name pattern name (asked pattern form) fits whose.bytes ∙ go (is_open pattern) few short fits whole whose.some
  where
    go : (t : Bool) → length pattern ≤ 15 → length name ≤ 15 → length name ≤ 16 → list_all is_some_byte pattern ≡ true → list_all is_some_byte name ≡ true
        → starts_with nat_eq (filled 0 name) (cond t (take (length pattern - 1) pattern) (filled 0 pattern)) ≡ cond t (starts_with nat_eq name (take (length pattern - 1) pattern)) (bytes_eq pattern name)
    go true few short fits whole some = begins (take (length pattern - 1) pattern) name (16 - length name) (all-take is_some_byte (length pattern - 1) pattern whole)
    go false few short fits whole some =
        let room : length pattern ≤ 16 = omega arith in
        let all : length (filled 0 name) ≤ length (filled 0 pattern) = omega (arith, length-filled 0 name fits, length-filled 0 pattern room) in
        ap (λ xs. pointwise eqb (filled 0 pattern) xs) (take_all (length (filled 0 pattern)) (filled 0 name) all)
        ∙ same-names pattern name (16 - length pattern) (16 - length name) (omega arith) whole some

pub names_hold : (pattern : List ℕ) → interface_of pattern ≡ Some pattern → (name : List ℕ) → IsInterfaceName name
    → interface_holds pattern (interface_value name) ≡ interface_matches pattern name
names_hold pattern reads name is = interface_holds-name pattern reads name is
