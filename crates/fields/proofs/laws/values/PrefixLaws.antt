-- The text of an address, of a prefix and of a range of addresses gives it back.
use Rattle.std.proofs.Common.{◌≡◌, ◌==◌, ℕ, ◌+◌, ◌-◌, ◌*◌, ◌≤◌, true, false, cond, not, List, [], ◌∷◌, ◌++◌, length, drop, get_or, Option, None, Some, refl, ap, sym, ◌∙◌, arith, drop-cons, ◌/◌, ◌%◌, ◌^◌, ◌<◌, Bool, subst, ◌⊎◌, inl, inr, eq-eqb}
use Rattle.std.specs.Prelude.{decimal, count_ones, IfSome}
use Rattle.std.specs.Char.{is_ascii_digit}
use Rattle.std.specs.Str.{all_ascii_digits}
use Rattle.std.proofs.lemmas.Bool.{and_from, le-leb, eqb-true}
use Rattle.std.specs.Int.Count.{ones-ones, ones-le}
use Rattle.std.specs.List.{list_all}
use Rattle.std.proofs.lemmas.List.Folds.{list_all-append}
use Rattle.std.proofs.lemmas.Nat.{ones_cat, ones_le_self}
use Rattle.std.proofs.Math.Pow.{high_ones, pow_pos}
use Rattle.fields.specs.Sequence.{◌>>=◌}
use Rattle.fields.specs.text.Cut.{cut_at}
use Rattle.fields.specs.text.Number.{has_number_form, number_to, at_most}
use Rattle.fields.specs.steps.ValueParts.{octet_at_front, address_by_octets}
use Rattle.fields.specs.values.Prefix.{address_of, Network, IsNetwork, IsAddressText, IsPrefixText, alone, with_length, with_mask, netmask, mask_length, network, length_from, length_of, prefix_parted, prefix_of, address_text, prefix_text}
use Rattle.fields.specs.values.IpRange.{Ends, AreEnds, ends_parted, ip_range_of, ip_range_text}
use Rattle.fields.proofs.laws.text.CutLaws.{cut_at-at, cut_at-none, cut_at_only, step_before, same_some}
use Rattle.fields.proofs.laws.text.NumberLaws.{digits-differ, decimal-differs, folded, number_of-digits, number_to-decimal, number_to_sound}

-- ---- An address is read part by part, with the dot after it.

-- the address of four numbers
abbrev four : ℕ → ℕ → ℕ → ℕ → Option ℕ
four w x y z = Some (((w * 256 + x) * 256 + y) * 256 + z)

-- a number with what follows it
abbrev with_rest : List ℕ → ℕ → Option (ℕ × List ℕ)
with_rest rest n = Some (n, rest)

abbrev no_number : Option ℕ
no_number = None

nothing : (o : Option (List ℕ × List ℕ)) → (o >>= λ c. no_number) ≡ no_number
nothing None = refl
nothing (Some c) = refl

nothing_twice : (o : Option (List ℕ × List ℕ)) → (o >>= λ b. cut_at 46 b.1 >>= λ c. no_number) ≡ no_number
nothing_twice None = refl
nothing_twice (Some b) = nothing (cut_at 46 b.1)

-- the third part, of one number and what follows it
fourth : (w x : ℕ) (o : Option ℕ) (rest : List ℕ) → (o >>= λ y. number_to 255 rest >>= λ z. four w x y z)
    ≡ ((o >>= with_rest rest) >>= λ c. number_to 255 c.1 >>= λ z. four w x c.0 z)
fourth w x None rest = refl
fourth w x (Some y) rest = refl

third : (w x : ℕ) (o : Option (List ℕ × List ℕ)) → (o >>= λ c. number_to 255 c.0 >>= λ y. number_to 255 c.1 >>= λ z. four w x y z)
    ≡ ((o >>= λ p. number_to 255 p.0 >>= with_rest p.1) >>= λ c. number_to 255 c.1 >>= λ z. four w x c.0 z)
third w x None = refl
third w x (Some c) = fourth w x (number_to 255 c.0) c.1

after_second : (w : ℕ) (o : Option ℕ) (rest : List ℕ) → (cut_at 46 rest >>= λ c. o >>= λ x. number_to 255 c.0 >>= λ y. number_to 255 c.1 >>= λ z. four w x y z)
    ≡ ((o >>= with_rest rest) >>= λ b. octet_at_front b.1 >>= λ c. number_to 255 c.1 >>= λ z. four w b.0 c.0 z)
unfolding octet_at_front
after_second w None rest = nothing (cut_at 46 rest)
after_second w (Some x) rest = third w x (cut_at 46 rest)

second : (w : ℕ) (o : Option (List ℕ × List ℕ)) → (o >>= λ b. cut_at 46 b.1 >>= λ c. number_to 255 b.0 >>= λ x. number_to 255 c.0 >>= λ y. number_to 255 c.1 >>= λ z. four w x y z)
    ≡ ((o >>= λ p. number_to 255 p.0 >>= with_rest p.1) >>= λ b. octet_at_front b.1 >>= λ c. number_to 255 c.1 >>= λ z. four w b.0 c.0 z)
second w None = refl
second w (Some b) = after_second w (number_to 255 b.0) b.1

after_first : (o : Option ℕ) (rest : List ℕ)
    → (cut_at 46 rest >>= λ b. cut_at 46 b.1 >>= λ c. o >>= λ w. number_to 255 b.0 >>= λ x. number_to 255 c.0 >>= λ y. number_to 255 c.1 >>= λ z. four w x y z)
    ≡ ((o >>= with_rest rest) >>= λ a. octet_at_front a.1 >>= λ b. octet_at_front b.1 >>= λ c. number_to 255 c.1 >>= λ z. four a.0 b.0 c.0 z)
unfolding octet_at_front
after_first None rest = nothing_twice (cut_at 46 rest)
after_first (Some w) rest = second w (cut_at 46 rest)

first : (o : Option (List ℕ × List ℕ))
    → (o >>= λ a. cut_at 46 a.1 >>= λ b. cut_at 46 b.1 >>= λ c. number_to 255 a.0 >>= λ w. number_to 255 b.0 >>= λ x. number_to 255 c.0 >>= λ y. number_to 255 c.1 >>= λ z. four w x y z)
    ≡ ((o >>= λ p. number_to 255 p.0 >>= with_rest p.1) >>= λ a. octet_at_front a.1 >>= λ b. octet_at_front b.1 >>= λ c. number_to 255 c.1 >>= λ z. four a.0 b.0 c.0 z)
first None = refl
first (Some a) = after_first (number_to 255 a.0) a.1

-- part by part it is the same address
pub address_of_octets : (text : List ℕ) → address_by_octets text ≡ address_of text
unfolding address_of octet_at_front address_by_octets
address_of_octets text = sym (first (cut_at 46 text))

-- digits with a dot after them
front : (part rest : List ℕ) → all_ascii_digits part ≡ true → has_number_form part ≡ true → folded 0 part ≤ 255
    → octet_at_front (part ++ 46 ∷ rest) ≡ Some (folded 0 part, rest)
unfolding octet_at_front number_to
front part rest digits form small =
    ap (λ o. o >>= λ p. number_to 255 p.0 >>= with_rest p.1) (cut_at-at 46 part rest (digits-differ 46 refl part digits))
    ∙ ap (λ o. at_most 255 o >>= with_rest rest) (number_of-digits part digits form)
    ∙ ap (λ b. cond b (Some (folded 0 part)) None >>= with_rest rest) (le-leb (folded 0 part) 255 small)

-- what the patterns of the code read
one-at : (text rest : List ℕ) → 2 ≤ length text → get_or text 1 0 ≡ 46 → rest ≡ drop 2 text → text ≡ (get_or text 0 0 ∷ []) ++ 46 ∷ rest
one-at text rest long dot is = drop-cons text 0 0 (omega arith) ∙ ap (λ t. get_or text 0 0 ∷ t) (drop-cons text 1 0 (omega arith) ∙ (λ k. dot k ∷ sym is k))

two-at : (text rest : List ℕ) → 3 ≤ length text → get_or text 2 0 ≡ 46 → rest ≡ drop 3 text → text ≡ (get_or text 0 0 ∷ get_or text 1 0 ∷ []) ++ 46 ∷ rest
two-at text rest long dot is =
    drop-cons text 0 0 (omega arith) ∙ ap (λ t. get_or text 0 0 ∷ t) (drop-cons text 1 0 (omega arith) ∙ ap (λ t. get_or text 1 0 ∷ t) (drop-cons text 2 0 (omega arith) ∙ (λ k. dot k ∷ sym is k)))

three-at : (text rest : List ℕ) → 4 ≤ length text → get_or text 3 0 ≡ 46 → rest ≡ drop 4 text
    → text ≡ (get_or text 0 0 ∷ get_or text 1 0 ∷ get_or text 2 0 ∷ []) ++ 46 ∷ rest
three-at text rest long dot is =
    drop-cons text 0 0 (omega arith) ∙ ap (λ t. get_or text 0 0 ∷ t) (drop-cons text 1 0 (omega arith) ∙ ap (λ t. get_or text 1 0 ∷ t)
    (drop-cons text 2 0 (omega arith) ∙ ap (λ t. get_or text 2 0 ∷ t) (drop-cons text 3 0 (omega arith) ∙ (λ k. dot k ∷ sym is k))))

-- a digit alone, and two or three of them, with a dot after them
pub one_octet : (text rest : List ℕ) (n : ℕ) → 2 ≤ length text → get_or text 1 0 ≡ 46 → rest ≡ drop 2 text
    → is_ascii_digit (get_or text 0 0) ≡ true → n ≡ get_or text 0 0 - 48 → n ≤ 255 → octet_at_front text ≡ Some (n, rest)
one_octet text rest n long dot is digit value small =
    ap octet_at_front (one-at text rest long dot is)
    ∙ front (get_or text 0 0 ∷ []) rest (and_from _ _ digit refl) refl (omega arith) ∙ ap (λ m. Some (m, rest)) (omega arith)

pub two_octet : (text rest : List ℕ) (n : ℕ) → 3 ≤ length text → get_or text 2 0 ≡ 46 → rest ≡ drop 3 text → (get_or text 0 0 == 48) ≡ false
    → is_ascii_digit (get_or text 0 0) ≡ true → is_ascii_digit (get_or text 1 0) ≡ true
    → n ≡ (get_or text 0 0 - 48) * 10 + (get_or text 1 0 - 48) → n ≤ 255 → octet_at_front text ≡ Some (n, rest)
two_octet text rest n long dot is lead first second value small =
    ap octet_at_front (two-at text rest long dot is)
    ∙ front (get_or text 0 0 ∷ get_or text 1 0 ∷ []) rest (and_from _ _ first (and_from _ _ second refl)) (ap not lead) (omega arith)
    ∙ ap (λ m. Some (m, rest)) (omega arith)

pub three_octet : (text rest : List ℕ) (n : ℕ) → 4 ≤ length text → get_or text 3 0 ≡ 46 → rest ≡ drop 4 text → (get_or text 0 0 == 48) ≡ false
    → is_ascii_digit (get_or text 0 0) ≡ true → is_ascii_digit (get_or text 1 0) ≡ true → is_ascii_digit (get_or text 2 0) ≡ true
    → n ≡ ((get_or text 0 0 - 48) * 10 + (get_or text 1 0 - 48)) * 10 + (get_or text 2 0 - 48) → n ≤ 255 → octet_at_front text ≡ Some (n, rest)
three_octet text rest n long dot is lead first second third value small =
    ap octet_at_front (three-at text rest long dot is)
    ∙ front (get_or text 0 0 ∷ get_or text 1 0 ∷ get_or text 2 0 ∷ []) rest (and_from _ _ first (and_from _ _ second (and_from _ _ third refl))) (ap not lead) (omega arith)
    ∙ ap (λ m. Some (m, rest)) (omega arith)

-- ---- The text of an address and of a prefix gives it back.

-- four numbers, or none
abbrev sum_of : Option ℕ → Option ℕ → Option ℕ → Option ℕ → Option ℕ
sum_of a b c d = a >>= λ w. b >>= λ x. c >>= λ y. d >>= λ z. Some (((w * 256 + x) * 256 + y) * 256 + z)

-- an address
pub address_of-address_text : (a : ℕ) → a < 2 ^ 32 → address_of (address_text a) ≡ Some a
unfolding address_of
address_of-address_text a small =
    let w = a / 16777216 in
    let x = a / 65536 % 256 in
    let y = a / 256 % 256 in
    let z = a % 256 in
    let whole : ((w * 256 + x) * 256 + y) * 256 + z ≡ a = omega arith in
    let t3 = decimal z in
    let t2 = decimal y ++ 46 ∷ t3 in
    let t1 = decimal x ++ 46 ∷ t2 in
    let c1 : cut_at 46 (decimal w ++ 46 ∷ t1) ≡ Some (decimal w, t1) = cut_at-at 46 (decimal w) t1 (decimal-differs 46 w refl (omega arith)) in
    let c2 : cut_at 46 t1 ≡ Some (decimal x, t2) = cut_at-at 46 (decimal x) t2 (decimal-differs 46 x refl (omega arith)) in
    let c3 : cut_at 46 t2 ≡ Some (decimal y, t3) = cut_at-at 46 (decimal y) t3 (decimal-differs 46 y refl (omega arith)) in
    ap (λ o. o >>= λ a'. cut_at 46 a'.1 >>= λ b. cut_at 46 b.1 >>= λ c. sum_of (number_to 255 a'.0) (number_to 255 b.0) (number_to 255 c.0) (number_to 255 c.1)) c1
    ∙ ap (λ o. o >>= λ b. cut_at 46 b.1 >>= λ c. sum_of (number_to 255 (decimal w)) (number_to 255 b.0) (number_to 255 c.0) (number_to 255 c.1)) c2
    ∙ ap (λ o. o >>= λ c. sum_of (number_to 255 (decimal w)) (number_to 255 (decimal x)) (number_to 255 c.0) (number_to 255 c.1)) c3
    ∙ ap (λ o. sum_of o (number_to 255 (decimal x)) (number_to 255 (decimal y)) (number_to 255 (decimal z))) (number_to-decimal 255 w (omega arith) (omega arith))
    ∙ ap (λ o. sum_of (Some w) o (number_to 255 (decimal y)) (number_to 255 (decimal z))) (number_to-decimal 255 x (omega arith) (omega arith))
    ∙ ap (λ o. sum_of (Some w) (Some x) o (number_to 255 (decimal z))) (number_to-decimal 255 y (omega arith) (omega arith))
    ∙ ap (λ o. sum_of (Some w) (Some x) (Some y) o) (number_to-decimal 255 z (omega arith) (omega arith)) ∙ ap (λ n. Some n) whole

-- an address has digits and dots alone
pub address_text-differs : (b a : ℕ) → is_ascii_digit b ≡ false → (46 == b) ≡ false → a < 2 ^ 32 → list_all (λ c. not (c == b)) (address_text a) ≡ true
address_text-differs b a off no_dot small =
    joined (a / 16777216) _ (omega arith) (joined (a / 65536 % 256) _ (omega arith) (joined (a / 256 % 256) _ (omega arith) (decimal-differs b (a % 256) off (omega arith))))
  where
    joined : (n : ℕ) (ys : List ℕ) → n < 2 ^ 64 → list_all (λ c. not (c == b)) ys ≡ true → list_all (λ c. not (c == b)) (decimal n ++ (46 ∷ ys)) ≡ true
    joined n ys h rest =
        list_all-append (λ c. not (c == b)) (decimal n) (46 ∷ ys) ∙ and_from _ _ (decimal-differs b n off h) (and_from (not (46 == b)) (list_all (λ c. not (c == b)) ys) (ap not no_dot) rest)

no_slash : (a : ℕ) → a < 2 ^ 32 → list_all (λ c. not (c == 47)) (address_text a) ≡ true
no_slash a small = address_text-differs 47 a refl refl small

-- what is read as an address is an address's text
pub address_of_sound : (text : List ℕ) (a : ℕ) → address_of text ≡ Some a → IsAddressText text a
unfolding address_of
address_of_sound text n e =
    let (a, cut_a, e1) = step_before (cut_at 46 text) _ n e in
    let (b, cut_b, e2) = step_before (cut_at 46 a.1) _ n e1 in
    let (c, cut_c, e3) = step_before (cut_at 46 b.1) _ n e2 in
    let (w, is_w, e4) = step_before (number_to 255 a.0) _ n e3 in
    let (x, is_x, e5) = step_before (number_to 255 b.0) _ n e4 in
    let (y, is_y, e6) = step_before (number_to 255 c.0) _ n e5 in
    let (z, is_z, e7) = step_before (number_to 255 c.1) _ n e6 in
    let (tw, fw) = number_to_sound 255 a.0 w is_w in
    let (tx, fx) = number_to_sound 255 b.0 x is_x in
    let (ty, fy) = number_to_sound 255 c.0 y is_y in
    let (tz, fz) = number_to_sound 255 c.1 z is_z in
    let whole : ((w * 256 + x) * 256 + y) * 256 + z ≡ n = same_some (((w * 256 + x) * 256 + y) * 256 + z) n e7 in
    let w-is : n / 16777216 ≡ w = omega arith in
    let x-is : n / 65536 % 256 ≡ x = omega arith in
    let y-is : n / 256 % 256 ≡ y = omega arith in
    let z-is : n % 256 ≡ z = omega arith in
    (rw (w-is, x-is, y-is, z-is, ← tw.0, ← tx.0, ← ty.0, ← tz.0, ← cut_at_only 46 b.1 c cut_c, ← cut_at_only 46 a.1 b cut_b) (cut_at_only 46 text a cut_a), omega arith)

pub address_of_only : (text : List ℕ) (r : Option ℕ) → r ≡ address_of text → IfSome r (λ a. IsAddressText text a)
address_of_only text None e = tt
address_of_only text (Some a) e = address_of_sound text a (sym e)

pub address_of_complete : (text : List ℕ) (a : ℕ) → IsAddressText text a → address_of text ≡ Some a
address_of_complete text a is = ap address_of is.0 ∙ address_of-address_text a is.1

-- dotted masks
netmask-is : (n : ℕ) → n ≤ 32 → netmask n ≡ (2 ^ n - 1) * 2 ^ (32 - n)
netmask-is n short =
    let e : 32 ≡ n + (32 - n) = omega arith in
    ap (λ s. 2 ^ s - 2 ^ (32 - n)) e ∙ high_ones n (32 - n)

netmask-small : (n : ℕ) → netmask n < 2 ^ 32
netmask-small n = let some = pow_pos (32 - n) in omega (arith, some)

count_ones-netmask : (n : ℕ) → n ≤ 32 → count_ones (netmask n) ≡ n
count_ones-netmask n short =
    let whole : netmask n ≡ (2 ^ n - 1) * 2 ^ (32 - n) + 0 = netmask-is n short ∙ omega arith in
    let zero-is : count_ones 0 ≤ 0 = ones_le_self 0 in
    let none : count_ones (2 ^ n - 1) + count_ones 0 ≡ count_ones (2 ^ n - 1) = omega (arith, zero-is) in
    ap count_ones whole ∙ ones_cat (32 - n) (2 ^ n - 1) 0 (pow_pos (32 - n)) ∙ none ∙ ones-ones n

mask_length-netmask : (n : ℕ) → n ≤ 32 → mask_length (netmask n) ≡ Some n
mask_length-netmask n short =
    ap (λ k. cond (netmask k == netmask n) (Some k) None) (count_ones-netmask n short) ∙ ap (λ t. cond t (Some n) None) (eq-eqb (netmask n) (netmask n) refl)

mask_length_sound : (mask n : ℕ) → mask < 2 ^ 32 → mask_length mask ≡ Some n → (n ≤ 32) × (mask ≡ netmask n)
mask_length_sound mask n small e = go (netmask (count_ones mask) == mask) refl e
  where
    go : (t : Bool) → (netmask (count_ones mask) == mask) ≡ t → cond t (Some (count_ones mask)) None ≡ Some n → (n ≤ 32) × (mask ≡ netmask n)
    go true same h =
        let is : count_ones mask ≡ n = same_some (count_ones mask) n h in
        subst (λ (k : ℕ). (k ≤ 32) × (mask ≡ netmask k)) is (ones-le 32 mask small, sym (eqb-true (netmask (count_ones mask)) mask same))
    go false same h = absurd (cc)

-- lengths
abbrev IsLengthText : List ℕ → ℕ → Type 0
IsLengthText text n = (n ≤ 32) × ((text ≡ decimal n) ⊎ (text ≡ address_text (netmask n)))

address_is_no_number : (top a : ℕ) → a < 2 ^ 32 → number_to top (address_text a) ≡ None
address_is_no_number top a small = go (number_to top (address_text a)) refl
  where
    go : (r : Option ℕ) → number_to top (address_text a) ≡ r → r ≡ None
    go None e = refl
    go (Some n) e =
        let (is, within) = number_to_sound top (address_text a) n e in
        let first : a / 16777216 < 2 ^ 64 = omega arith in
        let rest = decimal (a / 65536 % 256) ++ (46 ∷ (decimal (a / 256 % 256) ++ (46 ∷ decimal (a % 256)))) in
        let dot : cut_at 46 (address_text a) ≡ Some (decimal (a / 16777216), rest) = cut_at-at 46 (decimal (a / 16777216)) rest (decimal-differs 46 (a / 16777216) refl first) in
        let fits : n < 2 ^ 64 = omega (arith, is.1) in
        let none : cut_at 46 (decimal n) ≡ None = cut_at-none 46 (decimal n) (decimal-differs 46 n refl fits) in
        let both : ◌≡◌ {A = Option (List ℕ × List ℕ)} None (Some (decimal (a / 16777216), rest)) = sym none ∙ ap (cut_at 46) (sym is.0) ∙ dot in
        absurd (cc)

length_of_complete : (text : List ℕ) (n : ℕ) → IsLengthText text n → length_of text ≡ Some n
unfolding length_of
length_of_complete text n is = elim is.1 [
  | inl number ↦ ap length_of number ∙ ap (length_from (decimal n)) (number_to-decimal 32 n is.0 (omega (arith, is.0)))
  | inr mask ↦
      let small = netmask-small n in
      ap length_of mask ∙ ap (length_from (address_text (netmask n))) (address_is_no_number 32 (netmask n) small)
      ∙ ap (λ o. o >>= λ m. mask_length m) (address_of-address_text (netmask n) small) ∙ mask_length-netmask n is.0
]

length_of_sound : (text : List ℕ) (n : ℕ) → length_of text ≡ Some n → IsLengthText text n
unfolding length_of
length_of_sound text n e = go (number_to 32 text) refl e
  where
    go : (r : Option ℕ) → number_to 32 text ≡ r → length_from text r ≡ Some n → IsLengthText text n
    go (Some k) read h =
        let (is, within) = number_to_sound 32 text k read in
        subst (IsLengthText text) (same_some k n h) (within, inl is.0)
    go None read h =
        let (m, read_mask, is_length) = step_before (address_of text) (λ mask. mask_length mask) n h in
        let (text-is, small) = address_of_sound text m read_mask in
        let (short, m-is) = mask_length_sound m n small is_length in
        (short, inr (text-is ∙ ap address_text m-is))

-- a length behind the slash
behind : (a n : ℕ) (back : List ℕ) → a < 2 ^ 32 → length_of back ≡ Some n → prefix_of (address_text a ++ 47 ∷ back) ≡ Some (network a n)
unfolding prefix_of
behind a n back small read =
    ap (prefix_parted (address_text a ++ 47 ∷ back)) (cut_at-at 47 (address_text a) back (no_slash a small))
    ∙ ap (λ o. o >>= λ b. length_of back >>= λ k. Some (network b k)) (address_of-address_text a small) ∙ ap (λ o. o >>= λ k. Some (network a k)) read

-- the prefixes that texts write are read, and no other
pub prefix_of_complete : (text : List ℕ) (p : Network) → IsPrefixText text p → prefix_of text ≡ Some p
unfolding prefix_of
prefix_of_complete text p (alone a small) =
    ap (prefix_parted (address_text a)) (cut_at-none 47 (address_text a) (no_slash a small)) ∙ ap (λ o. o >>= λ b. Some (network b 32)) (address_of-address_text a small)
prefix_of_complete text p (with_length a n small short) = behind a n (decimal n) small (length_of_complete (decimal n) n (short, inl refl))
prefix_of_complete text p (with_mask a n small short) = behind a n (address_text (netmask n)) small (length_of_complete (address_text (netmask n)) n (short, inr refl))

pub prefix_of_sound : (text : List ℕ) (p : Network) → prefix_of text ≡ Some p → IsPrefixText text p
unfolding prefix_of
prefix_of_sound text p e = go (cut_at 47 text) refl e
  where
    at : (t : List ℕ) (q : Network) → text ≡ t → q ≡ p → IsPrefixText t q → IsPrefixText text p
    at t q same is writes = subst (λ s. IsPrefixText s p) (sym same) (subst (IsPrefixText t) is writes)

    go : (r : Option (List ℕ × List ℕ)) → cut_at 47 text ≡ r → prefix_parted text r ≡ Some p → IsPrefixText text p
    go None cut h =
        let (a, read, is) = step_before (address_of text) (λ b. Some (network b 32)) p h in
        let (text-is, small) = address_of_sound text a read in
        at (address_text a) (network a 32) text-is (same_some (network a 32) p is) (alone a small)
    go (Some q) cut h =
        let (a, read, rest) = step_before (address_of q.0) (λ b. length_of q.1 >>= λ n. Some (network b n)) p h in
        let (n, read_length, is) = step_before (length_of q.1) (λ k. Some (network a k)) p rest in
        let (front-is, small) = address_of_sound q.0 a read in
        let (short, back-is) = length_of_sound q.1 n read_length in
        let parts : text ≡ address_text a ++ 47 ∷ q.1 = cut_at_only 47 text q cut ∙ ap (λ t. t ++ 47 ∷ q.1) front-is in
        elim back-is [
          | inl number ↦ at _ (network a n) (parts ∙ ap (λ t. address_text a ++ 47 ∷ t) number) (same_some (network a n) p is) (with_length a n small short)
          | inr mask ↦ at _ (network a n) (parts ∙ ap (λ t. address_text a ++ 47 ∷ t) mask) (same_some (network a n) p is) (with_mask a n small short)
        ]

pub prefix_of_only : (text : List ℕ) (r : Option Network) → r ≡ prefix_of text → IfSome r (λ p. IsPrefixText text p)
prefix_of_only text None e = tt
prefix_of_only text (Some p) e = prefix_of_sound text p (sym e)

-- a prefix is read back from its own text
pub prefix_of-prefix_text : (p : Network) → IsNetwork p → prefix_of (prefix_text p) ≡ Some p
prefix_of-prefix_text p is =
    behind p.address p.length (decimal p.length) is.small (length_of_complete (decimal p.length) p.length (is.short, inl refl)) ∙ ap (λ (a : ℕ). Some (record p { address = a })) is.clear

-- ---- The text of a range of addresses gives it back.

-- a range from its text
pub reads_back : (ends : Ends) → AreEnds ends → ip_range_of (ip_range_text ends) ≡ Some ends
unfolding ip_range_of
reads_back ends are =
    ap (ends_parted (ip_range_text ends)) (cut_at-at 45 (address_text ends.from) (address_text ends.to) (address_text-differs 45 ends.from refl refl are.from_small))
    ∙ ap (λ o. o >>= λ a. address_of (address_text ends.to) >>= λ b. Some (record { from = a; to = b })) (address_of-address_text ends.from are.from_small)
    ∙ ap (λ o. o >>= λ b. Some (record { from = ends.from; to = b })) (address_of-address_text ends.to are.to_small)
