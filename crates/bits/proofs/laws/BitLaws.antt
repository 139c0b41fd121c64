-- Laws of the bits of a word and of many words, and of one bit that is read or written.
use Rattle.std.proofs.Common.{◌≡◌, ℕ, zero, suc, ◌+◌, ◌-◌, ◌*◌, ◌/◌, ◌%◌, ◌^◌, ◌<◌, ◌≤◌, Bool, true, false, List, [], ◌∷◌, ◌++◌, length, take, drop, refl, sym, ◌∙◌, ap, arith, append_assoc, length-append, zero-add, add-zero, lit≤, lit<, subst, get_or, append-nil, ◌≢◌, inl, inr}
use Rattle.std.specs.Prelude.{nat_eq, bit_and, bit_or}
use Rattle.std.specs.List.{insert, remove}
use Rattle.std.proofs.lemmas.Nat.{shr-shr, field_of, mod-pow-add, pow_pos, mod_below, and_mask, or_shifted, one_shl, mod_low, shr_high, shr_below, shl-shr, shl_whole, mul-add-lt, pow-add}
use Rattle.std.proofs.lemmas.List.{take_at, drop_at, drop_more, take_more_set, drop-set-lt, take-append-drop, length-take-le, take_all, drop_all, get_or_append_left, get_or-append_right, set-append_left, set-append_right, length-set, same_lists, get_or_default, get_or-set_same, get_or-set_other}
use Rattle.std.proofs.Math.ListN.{set}
use Rattle.std.proofs.lemmas.List.Edits.{insert-append_left, insert-append_right}
use Rattle.std.specs.Int.{bit_at}
use Rattle.std.proofs.lemmas.Bool.{cases_eq}
use mir.Val.{bool_byte}
use Rattle.bits.specs.steps.Packing.{low_bit, top_bit, word_bits, all_bits}

-- ---- Laws of the bits of a word.

pub length-word_bits : (n w : ℕ) → length (word_bits n w) ≡ n
unfolding word_bits
length-word_bits zero w = refl
length-word_bits (suc n) w = ap suc (length-word_bits n (w / 2))

suc-plus : (m n : ℕ) → suc m + n ≡ suc (m + n)
suc-plus m n = omega arith

div-one : (w : ℕ) → w / 1 ≡ w
div-one w = omega arith

div-suc : (w m : ℕ) → w / 2 ^ suc m ≡ w / 2 / 2 ^ m
div-suc w m = let e : 1 + m ≡ suc m = omega arith in sym (shr-shr w 1 m ∙ ap (λ k. w / 2 ^ k) e)

-- the first m bits, and then n more
pub word_bits-add : (m n w : ℕ) → word_bits (m + n) w ≡ word_bits m w ++ word_bits n (w / 2 ^ m)
unfolding word_bits
word_bits-add zero n w = rw (zero-add, div-one w) refl
word_bits-add (suc m) n w = rw (suc-plus m n, div-suc w m) (ap (λ (xs : List Bool). nat_eq (w % 2) 1 ∷ xs) (word_bits-add m n (w / 2)))

bit_of_low : (w n : ℕ) → w % 2 ^ suc n % 2 ≡ w % 2
bit_of_low w n =
    let e : n + 1 ≡ suc n = omega arith in
    let f : w % 2 ^ suc n ≡ (w / 2 % 2 ^ n) * 2 + w % 2 = sym (ap (λ k. w % 2 ^ k) e) ∙ mod-pow-add w n 1 in
    rw f (omega arith)

mod-suc : (w n : ℕ) → w % 2 ^ suc n / 2 ≡ w / 2 % 2 ^ n
mod-suc w n =
    let e : n + 1 ≡ suc n = omega arith in
    sym (ap (λ k. w % 2 ^ k / 2) e) ∙ field_of w n 1

-- the first n bits don't ask about the others
pub word_bits-mod : (n w : ℕ) → word_bits n (w % 2 ^ n) ≡ word_bits n w
unfolding word_bits
word_bits-mod zero w = refl
word_bits-mod (suc n) w = rw (bit_of_low w n, mod-suc w n) (ap (λ (xs : List Bool). nat_eq (w % 2) 1 ∷ xs) (word_bits-mod n (w / 2)))

pub word_bits-same_mod : (n v w : ℕ) → v % 2 ^ n ≡ w % 2 ^ n → word_bits n v ≡ word_bits n w
word_bits-same_mod n v w e = sym (word_bits-mod n v) ∙ ap (word_bits n) e ∙ word_bits-mod n w

pub word_bits-one : (w : ℕ) → word_bits 1 w ≡ low_bit w ∷ []
unfolding word_bits
word_bits-one w = refl

-- twice a number and a bit: the bit stands first
pub word_bits-double : (n w c : ℕ) → c < 2 → word_bits (suc n) (w * 2 + c) ≡ low_bit c ∷ word_bits n w
unfolding word_bits
word_bits-double n w c lt =
    let e : (w * 2 + c) % 2 ≡ c % 2 = omega arith in
    let f : (w * 2 + c) / 2 ≡ w = omega arith in
    rw (e, f) refl

-- a beginning of equal lists of bits
pub word_bits-front : (n m v w : ℕ) → word_bits (n + m) v ≡ word_bits (n + m) w → word_bits n v ≡ word_bits n w
word_bits-front n m v w e =
    let left : take n (word_bits (n + m) v) ≡ word_bits n v = rw (word_bits-add n m v) (take_at (word_bits n v) (word_bits m (v / 2 ^ n)) n (length-word_bits n v)) in
    let right : take n (word_bits (n + m) w) ≡ word_bits n w = rw (word_bits-add n m w) (take_at (word_bits n w) (word_bits m (w / 2 ^ n)) n (length-word_bits n w)) in
    sym left ∙ ap (λ (xs : List Bool). take n xs) e ∙ right

pub word_bits-mod_more : (n m w : ℕ) → word_bits n (w % 2 ^ (n + m)) ≡ word_bits n w
word_bits-mod_more n m w = word_bits-front n m (w % 2 ^ (n + m)) w (word_bits-mod (n + m) w)

-- the bits of w, up to a place and from there on
pub word_bits-split : (off n w : ℕ) → (xs : List Bool) → word_bits n (w / 2 ^ off) ≡ xs → word_bits (off + n) w ≡ word_bits off w ++ xs
word_bits-split off n w xs e = word_bits-add off n w ∙ ap (λ (ys : List Bool). word_bits off w ++ ys) e

-- one more bit at the top
pub word_bits-top : (n w : ℕ) → word_bits (suc n) w ≡ word_bits n w ++ low_bit (w / 2 ^ n) ∷ []
word_bits-top n w =
    let sn : n + 1 ≡ suc n = omega arith in
    sym (ap (λ k. word_bits k w) sn) ∙ word_bits-split n 1 w (low_bit (w / 2 ^ n) ∷ []) (word_bits-one (w / 2 ^ n))

-- a bit put into a word at a place: x has the lower bits of w, then the bit, then the others of w
pub word_bits-insert : (off n w x : ℕ) (b : Bool) → word_bits off x ≡ word_bits off w → word_bits (suc n) (x / 2 ^ off) ≡ b ∷ word_bits n (w / 2 ^ off)
    → word_bits (off + suc n) x ++ low_bit (w / 2 ^ (off + n)) ∷ [] ≡ insert (word_bits (off + suc n) w) off b
word_bits-insert off n w x b lows highs =
    let new : word_bits (off + suc n) x ≡ word_bits off w ++ b ∷ word_bits n (w / 2 ^ off) =
    word_bits-split off (suc n) x (b ∷ word_bits n (w / 2 ^ off)) highs ∙ ap (λ (xs : List Bool). xs ++ b ∷ word_bits n (w / 2 ^ off)) lows in
    let top : word_bits (suc n) (w / 2 ^ off) ≡ word_bits n (w / 2 ^ off) ++ low_bit (w / 2 ^ (off + n)) ∷ [] =
    word_bits-top n (w / 2 ^ off) ∙ ap (λ k. word_bits n (w / 2 ^ off) ++ low_bit k ∷ []) (shr-shr w off n) in
    let old : word_bits (off + suc n) w ≡ word_bits off w ++ word_bits (suc n) (w / 2 ^ off) = word_bits-add off (suc n) w in
    rw (new, old, take_at (word_bits off w) (word_bits (suc n) (w / 2 ^ off)) off (length-word_bits off w), drop_at (word_bits off w) (word_bits (suc n) (w / 2 ^ off)) off (length-word_bits off w), top, append_assoc)
    refl

-- a bit taken out of a word at a place: x has the lower bits of w, and then those of w above the place
pub word_bits-remove : (off n w x : ℕ) → word_bits off x ≡ word_bits off w → word_bits n (x / 2 ^ off) ≡ word_bits n (w / 2 ^ off / 2)
    → word_bits (off + n) x ≡ remove (word_bits (off + suc n) w) off
unfolding word_bits
word_bits-remove off n w x lows highs =
    let new : word_bits (off + n) x ≡ word_bits off w ++ word_bits n (w / 2 ^ off / 2) =
    word_bits-split off n x (word_bits n (w / 2 ^ off / 2)) highs ∙ ap (λ (xs : List Bool). xs ++ word_bits n (w / 2 ^ off / 2)) lows in
    let old : word_bits (off + suc n) w ≡ word_bits off w ++ low_bit (w / 2 ^ off) ∷ word_bits n (w / 2 ^ off / 2) = word_bits-add off (suc n) w in
    let lo : length (word_bits off w) ≡ off = length-word_bits off w in
    let lo1 : length (word_bits off w ++ low_bit (w / 2 ^ off) ∷ []) ≡ suc off = omega (arith, length-append (word_bits off w) (low_bit (w / 2 ^ off) ∷ []), lo) in
    let re : word_bits off w ++ low_bit (w / 2 ^ off) ∷ word_bits n (w / 2 ^ off / 2) ≡ (word_bits off w ++ low_bit (w / 2 ^ off) ∷ []) ++ word_bits n (w / 2 ^ off / 2) =
    sym (append_assoc (word_bits off w) (low_bit (w / 2 ^ off) ∷ []) (word_bits n (w / 2 ^ off / 2))) in
    let t : take off (word_bits (off + suc n) w) ≡ word_bits off w = ap (λ (xs : List Bool). take off xs) old ∙ take_at (word_bits off w) (low_bit (w / 2 ^ off) ∷ word_bits n (w / 2 ^ off / 2)) off lo in
    let d : drop (suc off) (word_bits (off + suc n) w) ≡ word_bits n (w / 2 ^ off / 2) =
    ap (λ (xs : List Bool). drop (suc off) xs) (old ∙ re) ∙ drop_at (word_bits off w ++ low_bit (w / 2 ^ off) ∷ []) (word_bits n (w / 2 ^ off / 2)) (suc off) lo1 in
    new ∙ sym (ap (λ (xs : List Bool). xs ++ drop (suc off) (word_bits (off + suc n) w)) t ∙ ap (λ (xs : List Bool). word_bits off w ++ xs) d)

shifted_up : (y k j : ℕ) → j + k ≡ 64 → y * 2 ^ k % 2 ^ 64 ≡ y % 2 ^ j * 2 ^ k
shifted_up y k j e =
    let f : y * 2 ^ k % 2 ^ (j + k) ≡ (y * 2 ^ k / 2 ^ k % 2 ^ j) * 2 ^ k + y * 2 ^ k % 2 ^ k = mod-pow-add (y * 2 ^ k) j k in
    let g : y * 2 ^ k / 2 ^ k ≡ y = shl-shr y k in
    let h : y * 2 ^ k % 2 ^ k ≡ 0 = sym (ap (λ m. m % 2 ^ k) (add-zero (y * 2 ^ k))) ∙ mod_low y k 0 (pow_pos k) in
    ap (λ m. y * 2 ^ k % 2 ^ m) (sym e) ∙ f ∙ rw (g, h) (add-zero (y % 2 ^ j * 2 ^ k))

subst-63 : (n off a : ℕ) → n + off ≡ 63 → word_bits n (a % 2 ^ 63) ≡ word_bits n a
subst-63 n off a e = ap (λ m. word_bits n (a % 2 ^ m)) (sym e) ∙ word_bits-mod_more n off a

-- a word moved up by one, and a bit under it
doubled : (a b : ℕ) → b < 2 → bit_or (a * 2 % 2 ^ 64) b ≡ a % 2 ^ 63 * 2 + b
doubled a b small =
    let twice : a * 2 % 2 ^ 64 ≡ (a % 2 ^ 63) * 2 ^ 1 =
    mod-pow-add (a * 2) 63 1 ∙ (let e : a * 2 / 2 ≡ a = omega arith in let f : a * 2 % 2 ≡ 0 = omega arith in rw (e, f) (add-zero (a % 2 ^ 63 * 2))) in
    ap (λ k. bit_or k b) twice ∙ or_shifted (a % 2 ^ 63) 1 b small

-- a bit above 63 others
topped : (t x : ℕ) → x < 2 ^ 63 → word_bits 64 (t * 2 ^ 63 + x) ≡ word_bits 63 x ++ low_bit t ∷ []
topped t x lt =
    let z : ℕ = t * 2 ^ 63 + x in
    let low : word_bits 63 z ≡ word_bits 63 x = sym (word_bits-mod 63 z) ∙ ap (word_bits 63) (mod_low t 63 x lt) in
    word_bits-top 63 z ∙ ap (λ k. word_bits 63 z ++ low_bit k ∷ []) (shr_high t 63 x lt) ∙ ap (λ (xs : List Bool). xs ++ low_bit t ∷ []) low

-- what the code of `insert_bit` makes
pub inserted_word : (off n w b : ℕ) → off + suc n ≡ 64 → b < 2
    → word_bits 64 (bit_or (bit_or (w / 2 ^ off * 2 % 2 ^ 64) b * 2 ^ off % 2 ^ 64) (bit_and w (1 * 2 ^ off % 2 ^ 64 - 1))) ++ low_bit (w / 2 ^ 63) ∷ [] ≡ insert (word_bits 64 w) off (low_bit b)
inserted_word off n w b whole small =
    let within : off < 64 = omega arith in
    let a : ℕ = w / 2 ^ off in
    let one : 1 * 2 ^ off % 2 ^ 64 ≡ 2 ^ off = one_shl off 64 within in
    let low : bit_and w (1 * 2 ^ off % 2 ^ 64 - 1) ≡ w % 2 ^ off = ap (λ k. bit_and w (k - 1)) one ∙ and_mask w off in
    let joined : bit_or (a * 2 % 2 ^ 64) b ≡ a % 2 ^ 63 * 2 + b = doubled a b small in
    let y : ℕ = a % 2 ^ 63 * 2 + b in
    let size : suc n + off ≡ 64 = omega arith in
    let placed : y * 2 ^ off % 2 ^ 64 ≡ y % 2 ^ suc n * 2 ^ off = shifted_up y off (suc n) size in
    let lt : w % 2 ^ off < 2 ^ off = mod_below w (2 ^ off) (pow_pos off) in
    let x : ℕ = y % 2 ^ suc n * 2 ^ off + w % 2 ^ off in
    let is : bit_or (bit_or (a * 2 % 2 ^ 64) b * 2 ^ off % 2 ^ 64) (bit_and w (1 * 2 ^ off % 2 ^ 64 - 1)) ≡ x =
    ap (λ k. bit_or (k * 2 ^ off % 2 ^ 64) (bit_and w (1 * 2 ^ off % 2 ^ 64 - 1))) joined
    ∙ ap (λ k. bit_or (y * 2 ^ off % 2 ^ 64) k) low ∙ ap (λ k. bit_or k (w % 2 ^ off)) placed ∙ or_shifted (y % 2 ^ suc n) off (w % 2 ^ off) lt in
    let lows : word_bits off x ≡ word_bits off w = word_bits-same_mod off x w (mod_low (y % 2 ^ suc n) off (w % 2 ^ off) lt) in
    let n63 : n + off ≡ 63 = omega arith in
    let a_n : word_bits n (a % 2 ^ 63) ≡ word_bits n a = subst-63 n off a n63 in
    let highs : word_bits (suc n) (x / 2 ^ off) ≡ low_bit b ∷ word_bits n a =
    ap (word_bits (suc n)) (shr_high (y % 2 ^ suc n) off (w % 2 ^ off) lt) ∙ word_bits-mod (suc n) y ∙ word_bits-double n (a % 2 ^ 63) b small ∙ ap (λ (xs : List Bool). low_bit b ∷ xs) a_n in
    let all : word_bits (off + suc n) x ++ low_bit (w / 2 ^ (off + n)) ∷ [] ≡ insert (word_bits (off + suc n) w) off (low_bit b) = word_bits-insert off n w x (low_bit b) lows highs in
    let o63 : off + n ≡ 63 = omega arith in
    ap (λ k. word_bits 64 k ++ low_bit (w / 2 ^ 63) ∷ []) is ∙ rw (whole, o63) at all

-- what the code of `remove_bit` makes
pub removed_word : (off n w t : ℕ) → off + suc n ≡ 64 → w < 2 ^ 64 → t < 2
    → word_bits 64 (bit_or (t * 2 ^ 63 % 2 ^ 64) (bit_or (w / 2 ^ off / 2 * 2 ^ off % 2 ^ 64) (bit_and w (1 * 2 ^ off % 2 ^ 64 - 1)))) ≡ remove (word_bits 64 w) off ++ low_bit t ∷ []
removed_word off n w t whole fits small =
    let within : off < 64 = omega arith in
    let h : ℕ = w / 2 ^ off / 2 in
    let one : 1 * 2 ^ off % 2 ^ 64 ≡ 2 ^ off = one_shl off 64 within in
    let low : bit_and w (1 * 2 ^ off % 2 ^ 64 - 1) ≡ w % 2 ^ off = ap (λ k. bit_and w (k - 1)) one ∙ and_mask w off in
    let lt : w % 2 ^ off < 2 ^ off = mod_below w (2 ^ off) (pow_pos off) in
    let size : n + (off + 1) ≡ 64 = omega arith in
    let fits' : w < 2 ^ (n + (off + 1)) = subst (λ (k : ℕ). w < 2 ^ k) (sym size) fits in
    let high : h < 2 ^ n = rw (shr-shr w off 1) (shr_below w n (off + 1) fits') in
    let le : n + off ≤ 64 = omega arith in
    let placed : h * 2 ^ off % 2 ^ 64 ≡ h * 2 ^ off = shl_whole h n off 64 high le in
    let x : ℕ = h * 2 ^ off + w % 2 ^ off in
    let o63 : off + n ≡ 63 = omega arith in
    let x_lt : x < 2 ^ 63 = subst (λ (k : ℕ). x < k) (sym (pow-add 2 off n) ∙ ap (λ k. 2 ^ k) o63) (mul-add-lt h (2 ^ off) (w % 2 ^ off) (2 ^ n) high lt) in
    let small' : t < 2 ^ 1 = small in
    let le64 : 1 + 63 ≤ 64 = lit≤ tt in
    let top : t * 2 ^ 63 % 2 ^ 64 ≡ t * 2 ^ 63 = shl_whole t 1 63 64 small' le64 in
    let z : ℕ = t * 2 ^ 63 + x in
    let inner : bit_or (h * 2 ^ off % 2 ^ 64) (bit_and w (1 * 2 ^ off % 2 ^ 64 - 1)) ≡ x =
    ap (λ k. bit_or k (bit_and w (1 * 2 ^ off % 2 ^ 64 - 1))) placed ∙ ap (λ k. bit_or (h * 2 ^ off) k) low ∙ or_shifted h off (w % 2 ^ off) lt in
    let is : bit_or (t * 2 ^ 63 % 2 ^ 64) (bit_or (h * 2 ^ off % 2 ^ 64) (bit_and w (1 * 2 ^ off % 2 ^ 64 - 1))) ≡ z =
    ap (λ k. bit_or (t * 2 ^ 63 % 2 ^ 64) k) inner ∙ ap (λ k. bit_or k x) top ∙ or_shifted t 63 x x_lt in
    let lows : word_bits off x ≡ word_bits off w = word_bits-same_mod off x w (mod_low h off (w % 2 ^ off) lt) in
    let highs : word_bits n (x / 2 ^ off) ≡ word_bits n (w / 2 ^ off / 2) = ap (word_bits n) (shr_high h off (w % 2 ^ off) lt) in
    let cut : word_bits (off + n) x ≡ remove (word_bits (off + suc n) w) off = word_bits-remove off n w x lows highs in
    let cut' : word_bits 63 x ≡ remove (word_bits 64 w) off = rw (o63, whole) at cut in
    ap (word_bits 64) is ∙ topped t x x_lt ∙ ap (λ (xs : List Bool). xs ++ low_bit t ∷ []) cut'

-- the same, from a test
bit-byte : (b : Bool) → low_bit (bool_byte b) ≡ b
bit-byte true = refl
bit-byte false = refl

byte-small : (b : Bool) → bool_byte b < 2
byte-small true = lit< tt
byte-small false = lit< tt

top_is_low : (w : ℕ) → w < 2 ^ 64 → low_bit (w / 2 ^ 63) ≡ top_bit w
top_is_low w fits = let e : w / 2 ^ 63 % 2 ≡ w / 2 ^ 63 = omega arith in ap (λ k. nat_eq k 1) e

room_above : (off : ℕ) → off < 64 → off + suc (63 - off) ≡ 64
room_above off h = omega arith

pub inserted_bit : (off w k : ℕ) (b : Bool) → k ≡ bool_byte b → off < 64 → w < 2 ^ 64
    → word_bits 64 (bit_or (bit_or (w / 2 ^ off * 2 % 2 ^ 64) k * 2 ^ off % 2 ^ 64) (bit_and w (1 * 2 ^ off % 2 ^ 64 - 1))) ++ top_bit w ∷ [] ≡ insert (word_bits 64 w) off b
inserted_bit off w k b is h fits =
    let small : k < 2 = subst (λ (j : ℕ). j < 2) (sym is) (byte-small b) in
    let all = inserted_word off (63 - off) w k (room_above off h) small in
    ap (λ c. word_bits 64 (bit_or (bit_or (w / 2 ^ off * 2 % 2 ^ 64) k * 2 ^ off % 2 ^ 64) (bit_and w (1 * 2 ^ off % 2 ^ 64 - 1))) ++ c ∷ []) (sym (top_is_low w fits))
    ∙ all ∙ ap (insert (word_bits 64 w) off) (ap low_bit is ∙ bit-byte b)

pub removed_bit : (off w k : ℕ) (b : Bool) → k ≡ bool_byte b → off < 64 → w < 2 ^ 64
    → word_bits 64 (bit_or (k * 2 ^ 63 % 2 ^ 64) (bit_or (w / 2 ^ off / 2 * 2 ^ off % 2 ^ 64) (bit_and w (1 * 2 ^ off % 2 ^ 64 - 1)))) ≡ remove (word_bits 64 w) off ++ b ∷ []
removed_bit off w k b is h fits =
    let small : k < 2 = subst (λ (j : ℕ). j < 2) (sym is) (byte-small b) in
    removed_word off (63 - off) w k (room_above off h) fits small ∙ ap (λ c. remove (word_bits 64 w) off ++ c ∷ []) (ap low_bit is ∙ bit-byte b)

-- what the code of `shift_up` makes
pub moved_up : (w b : ℕ) → w < 2 ^ 64 → b < 2 ^ 64 → word_bits 64 (bit_or (w * 2 % 2 ^ 64) (b / 2 ^ 63)) ++ top_bit w ∷ [] ≡ top_bit b ∷ word_bits 64 w
moved_up w b fits below =
    let c : ℕ = b / 2 ^ 63 in
    let small : c < 2 = shr_below b 1 63 below in
    ap (λ k. word_bits 64 k ++ top_bit w ∷ []) (doubled w c small)
    ∙ ap (λ (xs : List Bool). xs ++ top_bit w ∷ []) (word_bits-double 63 (w % 2 ^ 63) c small ∙ ap (λ (xs : List Bool). low_bit c ∷ xs) (word_bits-mod 63 w))
    ∙ ap (λ (x : Bool). low_bit c ∷ (word_bits 63 w ++ x ∷ [])) (sym (top_is_low w fits))
    ∙ ap (λ (xs : List Bool). low_bit c ∷ xs) (sym (word_bits-top 63 w))
    ∙ ap (λ (x : Bool). x ∷ word_bits 64 w) (top_is_low b below)

-- what the code of `shift_down` makes
rest-bits : (n w : ℕ) → remove (word_bits (suc n) w) 0 ≡ word_bits n (w / 2)
unfolding word_bits
rest-bits n w = refl

pub moved_down : (w a : ℕ) → w < 2 ^ 64 → word_bits 64 (bit_or (a * 2 ^ 63 % 2 ^ 64) (w / 2)) ≡ remove (word_bits 64 w) 0 ++ low_bit a ∷ []
moved_down w a fits =
    let lt : w / 2 < 2 ^ 63 = shr_below w 63 1 fits in
    let same : a % 2 % 2 ≡ a % 2 = omega arith in
    ap (λ k. word_bits 64 (bit_or k (w / 2))) (shifted_up a 63 1 refl)
    ∙ ap (word_bits 64) (or_shifted (a % 2) 63 (w / 2) lt)
    ∙ topped (a % 2) (w / 2) lt
    ∙ ap (λ k. word_bits 63 (w / 2) ++ nat_eq k 1 ∷ []) same
    ∙ ap (λ (xs : List Bool). xs ++ low_bit a ∷ []) (sym (rest-bits 63 w))

-- ---- Laws of the bits of many words.

pub all_bits-append : (xs ys : List ℕ) → all_bits (xs ++ ys) ≡ all_bits xs ++ all_bits ys
all_bits-append [] ys = refl
all_bits-append (x ∷ xs) ys = ap (λ (bs : List Bool). word_bits 64 x ++ bs) (all_bits-append xs ys) ∙ sym (append_assoc (word_bits 64 x) (all_bits xs) (all_bits ys))

pub length-all_bits : (ws : List ℕ) → length (all_bits ws) ≡ 64 * length ws
length-all_bits [] = refl
length-all_bits (w ∷ ws) = omega (arith, length-append (word_bits 64 w) (all_bits ws), length-word_bits 64 w, length-all_bits ws)

pub all_bits-cut : (ws : List ℕ) (k : ℕ) → all_bits ws ≡ all_bits (take k ws) ++ all_bits (drop k ws)
all_bits-cut ws k = ap all_bits (sym (take-append-drop k ws)) ∙ all_bits-append (take k ws) (drop k ws)

pub all_bits-one : (w : ℕ) → all_bits (w ∷ []) ≡ word_bits 64 w
all_bits-one w = append-nil (word_bits 64 w)

-- a bit comes in, from the word at its place on
pub shift_in_first : (ws : List ℕ) (at : ℕ) (b : Bool) → at ≤ 64 * length ws
    → all_bits (take (at / 64) ws) ++ insert (all_bits (drop (at / 64) ws)) (at % 64) b ≡ insert (all_bits ws) at b
shift_in_first ws at b le =
    let q : at / 64 ≤ length ws = omega arith in
    let n : length (all_bits (take (at / 64) ws)) ≡ 64 * (at / 64) = length-all_bits (take (at / 64) ws) ∙ ap (λ k. 64 * k) (length-take-le (at / 64) ws q) in
    let ge : 64 * (at / 64) ≤ at = omega arith in
    let off : at - 64 * (at / 64) ≡ at % 64 = omega arith in
    sym (ap (λ (bs : List Bool). insert bs at b) (all_bits-cut ws (at / 64))
    ∙ insert-append_right (all_bits (take (at / 64) ws)) (all_bits (drop (at / 64) ws)) (64 * (at / 64)) at b n ge
    ∙ ap (λ k. all_bits (take (at / 64) ws) ++ insert (all_bits (drop (at / 64) ws)) k b) off)

pub shift_in_more : (ws : List ℕ) (k off w' : ℕ) (c c' : Bool) → k < length ws → off ≤ 64
    → word_bits 64 w' ++ c' ∷ [] ≡ insert (word_bits 64 (get_or ws k 0)) off c
    → all_bits (take (k + 1) (set ws k w')) ++ insert (all_bits (drop (k + 1) (set ws k w'))) 0 c' ≡ all_bits (take k ws) ++ insert (all_bits (drop k ws)) off c
shift_in_more ws k off w' c c' lt le e =
    let w : ℕ = get_or ws k 0 in
    let rest : List Bool = all_bits (drop (k + 1) ws) in
    let t : all_bits (take (k + 1) (set ws k w')) ≡ all_bits (take k ws) ++ word_bits 64 w' =
    ap all_bits (take_more_set ws k w' lt) ∙ all_bits-append (take k ws) (w' ∷ []) ∙ ap (λ (bs : List Bool). all_bits (take k ws) ++ bs) (all_bits-one w') in
    let kk : k < k + 1 = omega arith in
    let d : all_bits (drop (k + 1) (set ws k w')) ≡ rest = ap all_bits (drop-set-lt (k + 1) ws k w' kk) in
    let left : all_bits (take (k + 1) (set ws k w')) ++ insert (all_bits (drop (k + 1) (set ws k w'))) 0 c' ≡ (all_bits (take k ws) ++ word_bits 64 w') ++ c' ∷ rest =
    ap (λ (bs : List Bool). bs ++ insert (all_bits (drop (k + 1) (set ws k w'))) 0 c') t ∙ ap (λ (bs : List Bool). (all_bits (take k ws) ++ word_bits 64 w') ++ insert bs 0 c') d in
    let within : off ≤ length (word_bits 64 w) = omega (arith, length-word_bits 64 w) in
    let right : insert (all_bits (drop k ws)) off c ≡ word_bits 64 w' ++ c' ∷ rest =
    ap (λ (vs : List ℕ). insert (all_bits vs) off c) (drop_more ws k 0 lt)
    ∙ insert-append_left (word_bits 64 w) rest off c within
    ∙ ap (λ (bs : List Bool). bs ++ rest) (sym e) ∙ append_assoc (word_bits 64 w') (c' ∷ []) rest in
    left ∙ append_assoc (all_bits (take k ws)) (word_bits 64 w') (c' ∷ rest) ∙ sym (ap (λ (bs : List Bool). all_bits (take k ws) ++ bs) right)

pub word_first : (w : ℕ) → word_bits 64 w ≡ low_bit w ∷ drop 1 (word_bits 64 w)
unfolding word_bits
word_first w = refl

-- how far a bit has come in: what the words below k hold, and the carry before those from k on, is the whole
pub record Carried (ws : List ℕ) (at : ℕ) (b : Bool) (us : List ℕ) (k off : ℕ) (c : Bool) : Type 0 where
  pub in_word : off < 64
  pub all : all_bits (take k us) ++ insert (all_bits (drop k us)) off c ≡ insert (all_bits ws) at b

pub carried_first : (ws : List ℕ) (at : ℕ) (b : Bool) → at ≤ 64 * length ws → Carried ws at b ws (at / 64) (at % 64) b
carried_first ws at b le = record { in_word = omega arith; all = shift_in_first ws at b le }

pub carried_more : (ws : List ℕ) (at : ℕ) (b : Bool) (us : List ℕ) (k off w' : ℕ) (c c' : Bool) → Carried ws at b us k off c → k < length us
    → word_bits 64 w' ++ c' ∷ [] ≡ insert (word_bits 64 (get_or us k 0)) off c → Carried ws at b (set us k w') (k + 1) 0 c'
carried_more ws at b us k off w' c c' h lt e = record { in_word = lit< tt; all = shift_in_more us k off w' c c' lt (omega arith) e ∙ h.all }

insert_nil : (off : ℕ) (c : Bool) → insert [] off c ≡ c ∷ []
insert_nil zero c = refl
insert_nil (suc off) c = refl

pub carried_all : (ws : List ℕ) (at : ℕ) (b : Bool) (us : List ℕ) (k off : ℕ) (c : Bool) → Carried ws at b us k off c → length us ≤ k → all_bits us ++ c ∷ [] ≡ insert (all_bits ws) at b
carried_all ws at b us k off c h le =
    sym (ap (λ (vs : List ℕ). all_bits vs ++ insert (all_bits (drop k us)) off c) (take_all k us le)
    ∙ ap (λ (vs : List ℕ). all_bits us ++ insert (all_bits vs) off c) (drop_all k us le)
    ∙ ap (λ (bs : List Bool). all_bits us ++ bs) (insert_nil off c)) ∙ h.all

-- ---- One bit of a row, read or written.

pub word_bit_at : (n w i : ℕ) → i < n → get_or (word_bits n w) i false ≡ low_bit (w / 2 ^ i)
unfolding word_bits
word_bit_at zero w i lt = absurd (omega arith)
word_bit_at (suc n) w zero lt = let e : w / 2 ^ 0 ≡ w = omega arith in ap low_bit (sym e)
word_bit_at (suc n) w (suc i) lt =
    let e : 1 + i ≡ suc i = omega arith in
    word_bit_at n (w / 2) i (omega arith) ∙ ap low_bit (shr-shr w 1 i ∙ ap (λ k. w / 2 ^ k) e)

pub all_bit_at : (ws : List ℕ) (q r : ℕ) → r < 64 → get_or (all_bits ws) (64 * q + r) false ≡ low_bit (get_or ws q 0 / 2 ^ r)
all_bit_at [] q r in' = let e : 0 / 2 ^ r ≡ 0 = omega arith in ap low_bit (sym e)
all_bit_at (w ∷ ws) zero r in' =
    let z : 64 * 0 + r ≡ r = omega arith in
    let long : length (word_bits 64 w) ≡ 64 = length-word_bits 64 w in
    let in'' : r < length (word_bits 64 w) = omega arith in
    ap (λ k. get_or (word_bits 64 w ++ all_bits ws) k false) z ∙ get_or_append_left (word_bits 64 w) (all_bits ws) false r in'' ∙ word_bit_at 64 w r in'
all_bit_at (w ∷ ws) (suc q) r in' =
    let long : length (word_bits 64 w) ≡ 64 = length-word_bits 64 w in
    let past : 64 ≤ 64 * suc q + r = omega arith in
    let e : 64 * suc q + r - 64 ≡ 64 * q + r = omega arith in
    get_or-append_right (word_bits 64 w) (all_bits ws) 64 (64 * suc q + r) false long past ∙ ap (λ k. get_or (all_bits ws) k false) e ∙ all_bit_at ws q r in'

-- ---- a bit written

pub all_bits-set : (ws : List ℕ) (q r w : ℕ) (b : Bool) → q < length ws → r < 64 → word_bits 64 w ≡ set (word_bits 64 (get_or ws q 0)) r b → all_bits (set ws q w) ≡ set (all_bits ws) (64 * q + r) b
all_bits-set [] q r w b lt in' e = absurd (omega arith)
all_bits-set (v ∷ ws) zero r w b lt in' e =
    let z : 64 * 0 + r ≡ r = omega arith in
    let long : length (word_bits 64 v) ≡ 64 = length-word_bits 64 v in
    let in'' : r < length (word_bits 64 v) = omega arith in
    ap (λ (bs : List Bool). bs ++ all_bits ws) e ∙ sym (set-append_left (word_bits 64 v) (all_bits ws) r b in'') ∙ ap (λ k. set (word_bits 64 v ++ all_bits ws) k b) (sym z)
all_bits-set (v ∷ ws) (suc q) r w b lt in' e =
    let long : length (word_bits 64 v) ≡ 64 = length-word_bits 64 v in
    let past : 64 ≤ 64 * suc q + r = omega arith in
    let f : 64 * suc q + r - 64 ≡ 64 * q + r = omega arith in
    ap (λ (bs : List Bool). word_bits 64 v ++ bs) (all_bits-set ws q r w b (omega arith) in' e ∙ ap (λ k. set (all_bits ws) k b) (sym f))
    ∙ sym (set-append_right (word_bits 64 v) (all_bits ws) 64 (64 * suc q + r) b long past)

-- a word with one bit written
pub bit_written : (v word off : ℕ) (b : Bool) → off < 64 → low_bit (v / 2 ^ off) ≡ b → ((i : ℕ) → i < 64 → i ≢ off → bit_at v i ≡ bit_at word i) → word_bits 64 v ≡ set (word_bits 64 word) off b
bit_written v word off b lt here others =
    let bits : List Bool = word_bits 64 word in
    let long : length bits ≡ 64 = length-word_bits 64 word in
    let long' : length (word_bits 64 v) ≡ 64 = length-word_bits 64 v in
    same_lists (word_bits 64 v) (set bits off b) (long' ∙ sym (length-set bits off b ∙ long)) (λ i d in'.
    let i64 : i < 64 = omega (arith, in', long') in
    get_or_default (word_bits 64 v) i d false in' ∙ word_bit_at 64 v i i64
    ∙ elim (cases_eq i off) [
      | inl e ↦ (ap (λ k. low_bit (v / 2 ^ k)) e ∙ here ∙ sym (get_or-set_same bits off b d (omega (arith, long, lt))) ∙ ap (λ k. get_or (set bits off b) k d) (sym e))
      | inr ne ↦ (
          ap (λ x. nat_eq x 1) (others i i64 ne) ∙ sym (word_bit_at 64 word i i64) ∙ sym (get_or_default bits i d false (omega (arith, long, i64))) ∙ sym (get_or-set_other bits off i b d ne))
    ])
