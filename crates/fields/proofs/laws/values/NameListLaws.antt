-- Lists of names are read name by name, their text is made of the names, and their sets of bits are unions.
use lib.Arith.{bin_ind}
use lib.Bits.{or_step}
use Rattle.std.proofs.Common.{◌≡◌, ℕ, zero, suc, ◌<◌, Bool, true, ◌&&◌, Option, None, Some, ap, subst, arith, inl, inr, ◌/◌, sym, ◌∙◌, ◌==◌, false, cond, List, [], ◌∷◌, refl, map, length, not, ◌^◌}
use Rattle.std.specs.Prelude.{option_map, nat_lt}
use Rattle.std.proofs.lemmas.Bool.{and_parts, cases_lt, eqb-true, not-true, ltb-true}
use Rattle.std.specs.Int.RustNames.{bit_or}
use Rattle.std.specs.Int.Bits.{or_zero_r}
use Rattle.std.proofs.lemmas.Nat.{or_shr, or_lt, le_or_l}
use Rattle.std.specs.List.{list_all}
use Rattle.std.specs.Str.{bytes_eq, str_eq_ignore_ascii_case}
use Rattle.std.proofs.Math.Pow.{pow_pos}
use Rattle.std.proofs.lemmas.Slice.Eq.{bytes_eq-Decides}
use Rattle.bitflags.specs.Sets.{find_row, find_name}
use Rattle.fields.specs.values.NameList.{is_just, row_named, number_named, union, set_listed}
use Rattle.fields.specs.Sequence.{◌>>=◌}
use Rattle.fields.specs.text.Cut.{cut_at}
use Rattle.fields.specs.steps.Tables.{all_have_names}
use Rattle.fields.proofs.laws.text.CutLaws.{step_before, same_some, parted, split, split-cut}
use Rattle.fields.proofs.laws.ListLaws.{find-is, find-among}

-- ---- A test that holds of each number below a bound, and an answer that is a number.

-- whether the test holds of each number below n
abbrev pub all_below : (ℕ → Bool) → ℕ → Bool
all_below test zero = true
all_below test (suc n) = test n && all_below test n

pub all_below-at : (test : ℕ → Bool) (n k : ℕ) → all_below test n ≡ true → k < n → test k ≡ true
all_below-at test zero k all within = absurd (omega arith)
all_below-at test (suc n) k all within =
    let (last, others) = and_parts (test n) (all_below test n) all in
    elim (cases_lt k n) [
      | inl below ↦ all_below-at test n k others below
      | inr above ↦ let same : n ≡ k = omega arith in subst (λ m. test m ≡ true) same last
    ]

-- an answer that is this number
pub is_just-same : (o : Option ℕ) (n : ℕ) → is_just o n ≡ true → o ≡ Some n
is_just-same None n e = absurd (cc)
is_just-same (Some m) n e = ap Some (eqb-true m n e)

-- ---- Unions of sets of bits.

pub or_assoc : (c a b : ℕ) → bit_or (bit_or a b) c ≡ bit_or a (bit_or b c)
or_assoc =
    bin_ind (λ (c : ℕ). (a b : ℕ) → bit_or (bit_or a b) c ≡ bit_or a (bit_or b c)) (λ a b. or_zero_r (bit_or a b) ∙ sym (ap (bit_or a) (or_zero_r b)))
    (λ c ih a b.
    let p : bit_or (bit_or a b / 2) (c / 2) ≡ bit_or (a / 2) (bit_or b c / 2) = ap (λ x. bit_or x (c / 2)) (or_shr a b 1) ∙ ih (a / 2) (b / 2) ∙ sym (ap (bit_or (a / 2)) (or_shr b c 1)) in
    omega (arith, or_step (bit_or a b) c, or_step a (bit_or b c), or_step a b, or_step b c))

-- ---- Lists of names are read name by name, and their text is made of the names.

abbrev is_named : List ℕ → List ℕ × ℕ → Bool
is_named text row = str_eq_ignore_ascii_case row.0 text

-- the first row of a name, whatever its case, is the first that has the name as it is in the table
find_row-row_named : (rows : List (List ℕ × ℕ)) (text : List ℕ) (row : List ℕ × ℕ) → row_named rows text ≡ Some row → find_row rows row.0 ≡ Some row.1
unfolding find_row
find_row-row_named [] text row e = absurd (cc)
find_row-row_named (r ∷ rest) text row e =
    go (is_named text r) refl e (λ found. find_row-row_named rest text row found)
  where
    again : bytes_eq row.0 row.0 ≡ true
    again = (bytes_eq-Decides row.0 row.0).1 refl

    here : r ≡ row → cond (bytes_eq r.0 row.0) (Some r.1) (find_row rest row.0) ≡ Some row.1
    here same = subst (λ (s : List ℕ × ℕ). cond (bytes_eq s.0 row.0) (Some s.1) (find_row rest row.0) ≡ Some row.1) (sym same) (ap (λ t. cond t (Some row.1) (find_row rest row.0)) again)

    further : (t : Bool) → bytes_eq r.0 row.0 ≡ t → is_named text r ≡ false → is_named text row ≡ true → find_row rest row.0 ≡ Some row.1
        → cond t (Some r.1) (find_row rest row.0) ≡ Some row.1
    further true same off on found = let e = (bytes_eq-Decides r.0 row.0).0 same in let both = subst (λ (l : List ℕ). str_eq_ignore_ascii_case l text ≡ false) e off in absurd (cc)
    further false differs off on found = found

    go : (t : Bool) → is_named text r ≡ t → cond t (Some r) (row_named rest text) ≡ Some row → (row_named rest text ≡ Some row → find_row rest row.0 ≡ Some row.1)
        → cond (bytes_eq r.0 row.0) (Some r.1) (find_row rest row.0) ≡ Some row.1
    go true on found rest' = here (same_some r row found)
    go false off found rest' = further (bytes_eq r.0 row.0) refl off (find-is (is_named text) rest row found) (rest' found)

-- what is found has a name
length-row_named : (rows : List (List ℕ × ℕ)) (text : List ℕ) (row : List ℕ × ℕ) → all_have_names rows ≡ true → row_named rows text ≡ Some row → (length row.0 == 0) ≡ false
length-row_named [] text row all e = absurd (cc)
length-row_named (r ∷ rest) text row all e =
    let (first, others) = and_parts (not (length r.0 == 0)) (all_have_names rest) all in
    go (is_named text r) e (not-true (length r.0 == 0) first) (λ found. length-row_named rest text row others found)
  where
    go : (t : Bool) → cond t (Some r) (row_named rest text) ≡ Some row → (length r.0 == 0) ≡ false → (row_named rest text ≡ Some row → (length row.0 == 0) ≡ false) → (length row.0 == 0) ≡ false
    go true found named rest' = ap (λ (s : List ℕ × ℕ). length s.0 == 0) (sym (same_some r row found)) ∙ named
    go false found named rest' = rest' found

-- the number of a name is that of the name as it is in the table
pub number_named-table : (rows : List (List ℕ × ℕ)) (text name : List ℕ) → all_have_names rows ≡ true → option_map (λ (row : List ℕ × ℕ). row.0) (row_named rows text) ≡ Some name
    → find_name rows name ≡ number_named rows text
number_named-table rows text name all e = go (row_named rows text) refl e
  where
    go : (o : Option (List ℕ × ℕ)) → row_named rows text ≡ o → option_map (λ (row : List ℕ × ℕ). row.0) o ≡ Some name → find_name rows name ≡ option_map (λ row. row.1) o
    go None found h = absurd (cc)
    go (Some row) found h =
        ap (find_name rows) (sym (same_some row.0 name h))
        ∙ ap (λ t. cond t None (find_row rows row.0)) (length-row_named rows text row all found)
        ∙ find_row-row_named rows text row found

-- what a set and a list of names come to together
abbrev pub joined : List (List ℕ × ℕ) → ℕ → List ℕ → Option ℕ
joined rows set text = option_map (bit_or set) (set_listed rows text)

listed-cut : (rows : List (List ℕ × ℕ)) (text : List ℕ) → set_listed rows text ≡ union (map (number_named rows) (parted text (cut_at 44 text)))
unfolding set_listed
listed-cut rows text = ap (λ parts. union (map (number_named rows) parts)) (split-cut text)

module _ (rows : List (List ℕ × ℕ)) (set : ℕ) (text : List ℕ) where
  -- a name, and the list behind its comma
  pub joined-more : (name behind : List ℕ) (bits : ℕ) → cut_at 44 text ≡ Some (name, behind) → number_named rows name ≡ Some bits → joined rows set text ≡ joined rows (bit_or set bits) behind
  unfolding set_listed
  joined-more name behind bits cut is =
      ap (option_map (bit_or set)) (listed-cut rows text ∙ ap (λ o. union (map (number_named rows) (parted text o))) cut ∙ ap (λ o. o >>= λ b. set_listed rows behind >>= λ others. Some (bit_or b others)) is)
      ∙ go (set_listed rows behind)
    where
      go : (o : Option ℕ) → option_map (bit_or set) (o >>= λ others. Some (bit_or bits others)) ≡ option_map (bit_or (bit_or set bits)) o
      go None = refl
      go (Some others) = ap (λ n. Some n) (sym (or_assoc others set bits))

  pub joined-no_more : (name behind : List ℕ) → cut_at 44 text ≡ Some (name, behind) → number_named rows name ≡ None → joined rows set text ≡ None
  unfolding set_listed
  joined-no_more name behind cut is =
      ap (option_map (bit_or set)) (listed-cut rows text ∙ ap (λ o. union (map (number_named rows) (parted text o))) cut ∙ ap (λ o. o >>= λ b. set_listed rows behind >>= λ others. Some (bit_or b others)) is)

  -- the last name
  pub joined-last : (bits : ℕ) → cut_at 44 text ≡ None → number_named rows text ≡ Some bits → joined rows set text ≡ Some (bit_or set bits)
  joined-last bits cut is =
      ap (option_map (bit_or set)) (listed-cut rows text ∙ ap (λ o. union (map (number_named rows) (parted text o))) cut ∙ ap (λ o. o >>= λ b. Some (bit_or b 0)) is)
      ∙ ap (λ n. Some (bit_or set n)) (or_zero_r bits)

  pub joined-no_last : cut_at 44 text ≡ None → number_named rows text ≡ None → joined rows set text ≡ None
  joined-no_last cut is =
      ap (option_map (bit_or set)) (listed-cut rows text ∙ ap (λ o. union (map (number_named rows) (parted text o))) cut ∙ ap (λ o. o >>= λ b. Some (bit_or b 0)) is)

-- before the first name
pub joined-start : (rows : List (List ℕ × ℕ)) (text : List ℕ) → joined rows 0 text ≡ set_listed rows text
joined-start rows text = go (set_listed rows text)
  where
    go : (o : Option ℕ) → option_map (bit_or 0) o ≡ o
    go None = refl
    go (Some n) = refl

-- every row's set has bits below k alone
abbrev pub rows_below : ℕ → List (List ℕ × ℕ) → Bool
rows_below k rows = list_all (λ row. nat_lt row.1 (2 ^ k)) rows

-- what all rows' numbers pass, the number of a name passes
pub number_named-passes : (pass : ℕ → Bool) (rows : List (List ℕ × ℕ)) (name : List ℕ) (n : ℕ) → list_all (λ row. pass row.1) rows ≡ true → number_named rows name ≡ Some n → pass n ≡ true
number_named-passes pass rows name n all e = go (row_named rows name) refl e
  where
    go : (o : Option (List ℕ × ℕ)) → row_named rows name ≡ o → option_map (λ (row : List ℕ × ℕ). row.1) o ≡ Some n → pass n ≡ true
    go None found h = absurd (cc)
    go (Some row) found h = ap pass (sym (same_some row.1 n h)) ∙ find-among (is_named name) (λ (r : List ℕ × ℕ). pass r.1) rows row all found

union-lt : (k : ℕ) (rows : List (List ℕ × ℕ)) (names : List (List ℕ)) (n : ℕ) → rows_below k rows ≡ true → union (map (number_named rows) names) ≡ Some n → n < 2 ^ k
union-lt k rows [] n all e = subst (λ (m : ℕ). m < 2 ^ k) (same_some 0 n e) (pow_pos k)
union-lt k rows (name ∷ names) n all e =
    let (bits, is, e1) = step_before (number_named rows name) _ n e in
    let (others, are, e2) = step_before (union (map (number_named rows) names)) _ n e1 in
    subst (λ (m : ℕ). m < 2 ^ k) (same_some (bit_or bits others) n e2) (or_lt k bits others (ltb-true bits (2 ^ k) (number_named-passes (λ m. nat_lt m (2 ^ k)) rows name bits all is)) (union-lt k rows names others all are))

-- so has the union
pub set_listed-lt : (k : ℕ) (rows : List (List ℕ × ℕ)) (text : List ℕ) (n : ℕ) → rows_below k rows ≡ true → set_listed rows text ≡ Some n → n < 2 ^ k
unfolding set_listed
set_listed-lt k rows text n all e = union-lt k rows (split text) n all e

-- every row's set has a bit
abbrev pub rows_some : List (List ℕ × ℕ) → Bool
rows_some rows = list_all (λ row. nat_lt 0 row.1) rows

-- so has the union of one name or more
pub set_listed-some : (rows : List (List ℕ × ℕ)) (text : List ℕ) (n : ℕ) → rows_some rows ≡ true → set_listed rows text ≡ Some n → 0 < n
unfolding set_listed
set_listed-some rows text n all e = go (cut_at 44 text) (sym (listed-cut rows text) ∙ e)
  where
    first : (name : List ℕ) (names : List (List ℕ)) → union (map (number_named rows) (name ∷ names)) ≡ Some n → 0 < n
    first name names h =
        let (bits, is, h1) = step_before (number_named rows name) _ n h in
        let (others, are, h2) = step_before (union (map (number_named rows) names)) _ n h1 in
        let some = number_named-passes (λ m. nat_lt 0 m) rows name bits all is in
        omega (arith, ltb-true 0 bits some, le_or_l bits others, same_some (bit_or bits others) n h2)

    go : (cut : Option (List ℕ × List ℕ)) → union (map (number_named rows) (parted text cut)) ≡ Some n → 0 < n
    go None h = first text [] h
    go (Some p) h = first p.0 (split p.1) h
