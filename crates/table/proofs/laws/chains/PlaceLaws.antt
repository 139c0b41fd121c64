-- Where a chain of a name stands in the order of a listing, and chains of which one is taken out or put at its place.
use Rattle.std.proofs.Common.{◌≡◌, ◌≢◌, inl, inr, ℕ, zero, suc, ◌+◌, ◌<◌, Bool, true, false, cond, not, ◌||◌, List, [], ◌∷◌, length, get_or, refl, sym, ◌∙◌, ap, arith, Some, None, ◌≤◌, take, drop, subst, Ordering, codes}
use Rattle.std.specs.Prelude.{All, IsTrue, filter, remove, AllPairs, if◌then◌else◌}
use Rattle.std.specs.List.{list_any, position, position_or_len}
use Rattle.std.proofs.Math.Dec.{ltb}
use Rattle.std.proofs.lemmas.Bool.{cases_Bool, cases_lt, cond-true, cond-false, false≢true, lt-ltb, le-ltb, or_cases, or_left, or_right}
use Rattle.std.proofs.lemmas.List.Sums.{position_or_len_is}
use Rattle.std.proofs.lemmas.List.Quantifiers.{position-Some, all_pairs_remove}
use Rattle.std.proofs.lemmas.Slice.Eq.{bytes_eq-Decides}
use Rattle.std.proofs.lemmas.List.{ext_get_or}
use Rattle.std.proofs.lemmas.List.Elements.{All-append, All-take, All-drop, All-cons, All-head, All-tail, All-weaker}
use Rattle.std.specs.Str.{bytes_eq}
use Rattle.std.specs.Ordering.{is_eq, is_lt, nat_cmp, ordering_reverse}
use Rattle.std.specs.declared.cmp.Ordering.TheVariants.{Less, Equal, Greater}
use Rattle.std.specs.Cmp.Lexicographic.{slice_cmp}
use Rattle.std.proofs.lemmas.Cmp.{nat_list_cmp_total}
use Rattle.std.proofs.lemmas.Map.Text.{is_eq-slice_cmp}
use Rattle.rules.specs.rule.Rules.{Rule}
use Rattle.fields.specs.values.Name.{is_name}
use Rattle.table.specs.chains.Table.{Chain, Table, is_named, has_chain, rules_of, is_built_in, comes_before, names_of}
use Rattle.table.specs.edits.Edits.{placed}
use Rattle.table.specs.chains.Sound.{IsUserName, AreListed}
use Rattle.table.proofs.laws.chains.SoundLaws.{Mem, Differing}
use Rattle.table.proofs.laws.chains.KeepLaws.{front_long, head_same, tail_same}

-- ---- Where a chain of a name stands.

-- the first that passes a test
pub position_found : {X : Type 0} (p : X → Bool) (xs : List X) (i : ℕ) (d : X) → i < length xs → ((k : ℕ) → k < i → p (get_or xs k d) ≡ false) → p (get_or xs i d) ≡ true → position p xs ≡ Some i
position_found p xs i d lt before at =
    let is : position_or_len p xs ≡ i = position_or_len_is p xs i d (omega arith) before (λ _. at) in
    ap (λ (n : ℕ). cond (ltb n (length xs)) (Some n) None) is ∙ ap (λ (b : Bool). cond b (Some i) None) (lt-ltb i (length xs) lt)

-- none passes
pub position_none : {X : Type 0} (p : X → Bool) (xs : List X) (d : X) → ((k : ℕ) → k < length xs → p (get_or xs k d) ≡ false) → position p xs ≡ None
position_none p xs d none =
    let is : position_or_len p xs ≡ length xs = position_or_len_is p xs (length xs) d (omega arith) none (λ lt. absurd (omega arith)) in
    ap (λ (n : ℕ). cond (ltb n (length xs)) (Some n) None) is ∙ ap (λ (b : Bool). cond b (Some (length xs)) None) (le-ltb (length xs) (length xs) (omega arith))

-- names that all differ differ at two places
pub differing_at : (ns : List (List ℕ)) (i j : ℕ) (d : List ℕ) → Differing ns → i < j → j < length ns → get_or ns i d ≢ get_or ns j d
differing_at [] i j d h below lt e = absurd (omega (arith, lt))
differing_at (n ∷ ns) i zero d h below lt e = absurd (omega (arith, below))
differing_at (n ∷ ns) zero (suc j) d h below lt e = h.0 (mem_of ns j n d (omega (arith, lt)) (sym e))
  where
    mem_of : (ns : List (List ℕ)) (j : ℕ) (n d : List ℕ) → j < length ns → get_or ns j d ≡ n → Mem n ns
    mem_of [] j n d lt e = absurd (omega (arith, lt))
    mem_of (x ∷ xs) zero n d lt e = inl (sym e)
    mem_of (x ∷ xs) (suc j) n d lt e = inr (mem_of xs j n d (omega (arith, lt)) e)
differing_at (n ∷ ns) (suc i) (suc j) d h below lt e = differing_at ns i j d h.1 (omega (arith, below)) (omega (arith, lt)) e

-- a chain of the name is there
pub has_at : (cs : List Chain) (name : List ℕ) (i : ℕ) (d : Chain) → i < length cs → is_named name (get_or cs i d) ≡ true → list_any (is_named name) cs ≡ true
has_at [] name i d lt e = absurd (omega (arith, lt))
has_at (c ∷ cs) name zero d lt e = or_left (is_named name c) _ e
has_at (c ∷ cs) name (suc i) d lt e = or_right (is_named name c) _ (has_at cs name i d (omega (arith, lt)) e)

pub has_none : (cs : List Chain) (name : List ℕ) (d : Chain) → ((k : ℕ) → k < length cs → is_named name (get_or cs k d) ≡ false) → list_any (is_named name) cs ≡ false
has_none [] name d h = refl
has_none (c ∷ cs) name d h =
    elim (cases_Bool (list_any (is_named name) (c ∷ cs))) [
      | inl t ↦ elim (or_cases (is_named name c) (list_any (is_named name) cs) t) [
        | inl here ↦ absurd (false≢true (sym (h 0 (omega arith)) ∙ here))
        | inr there ↦ absurd (false≢true (sym (has_none cs name d (λ k lt. h (suc k) (omega (arith, lt)))) ∙ there))
      ]
      | inr f ↦ f
    ]

-- the rules of the first chain of the name
pub rules_at : (cs : List Chain) (name : List ℕ) (i : ℕ) (d : Chain) → i < length cs → ((k : ℕ) → k < i → is_named name (get_or cs k d) ≡ false) → is_named name (get_or cs i d) ≡ true
    → rules_of cs name ≡ (get_or cs i d).rules
rules_at [] name i d lt before e = absurd (omega (arith, lt))
rules_at (c ∷ cs) name zero d lt before e = cond-true (is_named name c) _ _ e
rules_at (c ∷ cs) name (suc i) d lt before e = cond-false (is_named name c) _ _ (before 0 (omega arith)) ∙ rules_at cs name i d (omega (arith, lt)) (λ k le. before (suc k) (omega (arith, le))) e

-- what a place by name tells
pub record IsPlaced (t : Table) (name : List ℕ) (i : ℕ) : Type 0 where
  pub within : i < length t.chains
  pub named : (d : Chain) → (get_or t.chains i d).name ≡ name
  pub there : has_chain t name ≡ true
  pub rules : (d : Chain) → rules_of t.chains name ≡ (get_or t.chains i d).rules

pub placed_at : (t : Table) (name : List ℕ) (i : ℕ) → position (is_named name) t.chains ≡ Some i → IsPlaced t name i
placed_at t name i e =
    let none : Chain = record { name = []; rules = [] } in
    record {
      within = (position-Some (is_named name) t.chains i none e).0;
      named = λ d. (bytes_eq-Decides (get_or t.chains i d).name name).0 (position-Some (is_named name) t.chains i d e).1;
      there = has_at t.chains name i none (position-Some (is_named name) t.chains i none e).0 (position-Some (is_named name) t.chains i none e).1;
      rules = λ d. (let p = position-Some (is_named name) t.chains i d e in rules_at t.chains name i d p.0 p.2 p.1);
    }

-- one passes where there is a first
pub any_is : {X : Type 0} (p : X → Bool) (xs : List X) → list_any p xs ≡ ltb (position_or_len p xs) (length xs)
any_is p [] = refl
any_is p (x ∷ xs) =
    let n : ℕ = position_or_len p xs in
    let first : (b : Bool) → p x ≡ b → position_or_len p (x ∷ xs) ≡ cond (not b) (1 + n) 0 = λ b e. ap (λ c. cond (not c) (1 + n) 0) e in
    elim (cases_Bool (p x)) [
      | inl t ↦ or_left (p x) _ t ∙ sym (ap (λ k. ltb k (length (x ∷ xs))) (first true t) ∙ lt-ltb 0 (length (x ∷ xs)) (omega arith))
      | inr f ↦ ap (λ b. b || list_any p xs) f ∙ any_is p xs
          ∙ sym (ap (λ k. ltb k (length (x ∷ xs))) (first false f) ∙ elim (cases_lt n (length xs)) [
            | inl lt ↦ lt-ltb (1 + n) (length (x ∷ xs)) (omega arith) ∙ sym (lt-ltb n (length xs) lt)
            | inr ge ↦ le-ltb (1 + n) (length (x ∷ xs)) (omega arith) ∙ sym (le-ltb n (length xs) ge)
          ])
    ]

none_some : {X : Type 0} {x : X} → Some x ≡ None → ⊥
none_some e = cc

pub any_none : {X : Type 0} (p : X → Bool) (xs : List X) → position p xs ≡ None → list_any p xs ≡ false
any_none p xs e =
    let n : ℕ = position_or_len p xs in
    elim (cases_Bool (ltb n (length xs))) [
      | inl t ↦ absurd (none_some (sym (ap (λ (b : Bool). cond b (Some n) None) t) ∙ e))
      | inr f ↦ any_is p xs ∙ f
    ]

pub any_some : {X : Type 0} (p : X → Bool) (xs : List X) (i : ℕ) (d : X) → position p xs ≡ Some i → list_any p xs ≡ true
any_some p xs i d e =
    let n : ℕ = position_or_len p xs in
    elim (cases_Bool (ltb n (length xs))) [
      | inl t ↦ any_is p xs ∙ t
      | inr f ↦ absurd (none_some (sym e ∙ ap (λ (b : Bool). cond b (Some n) None) f))
    ]

-- no place: no chain has the name
pub placed_nowhere : (t : Table) (name : List ℕ) → position (is_named name) t.chains ≡ None → has_chain t name ≡ false
placed_nowhere t name e = any_none (is_named name) t.chains e

-- ---- Chains of which one is taken out, or put at its place.

-- One element out of a list

pub both_false : (a b : Bool) → a || b ≡ false → (a ≡ false) × (b ≡ false)
both_false true b e = absurd (false≢true (sym e))
both_false false b e = (refl, e)

pub either_false : (a b : Bool) → a ≡ false → b ≡ false → a || b ≡ false
either_false a b p q = ap (λ x. x || b) p ∙ q

pub any_less : {X : Type 0} (f : X → Bool) (xs : List X) (i : ℕ) → i < length xs → list_any f xs ≡ false → list_any f (remove xs i) ≡ false
any_less f [] i lt h = absurd (omega (arith, lt))
any_less f (x ∷ xs) zero lt h = (both_false (f x) (list_any f xs) h).1
any_less f (x ∷ xs) (suc i) lt h = let b = both_false (f x) (list_any f xs) h in either_false (f x) (list_any f (remove xs i)) b.0 (any_less f xs i (omega (arith, lt)) b.1)

pub any_kept : {X : Type 0} (f : X → Bool) (xs : List X) (i : ℕ) (d : X) → i < length xs → f (get_or xs i d) ≡ false → list_any f xs ≡ true → list_any f (remove xs i) ≡ true
any_kept f [] i d lt un h = absurd (omega (arith, lt))
any_kept f (x ∷ xs) zero d lt un h = elim (or_cases (f x) (list_any f xs) h) [ inl here ↦ absurd (false≢true (sym un ∙ here)) | inr there ↦ there ]
any_kept f (x ∷ xs) (suc i) d lt un h =
    elim (or_cases (f x) (list_any f xs) h) [ inl here ↦ or_left (f x) _ here | inr there ↦ or_right (f x) _ (any_kept f xs i d (omega (arith, lt)) un there) ]

pub filter_less : {X : Type 0} (p : X → Bool) (xs : List X) (i : ℕ) (d : X) → i < length xs → p (get_or xs i d) ≡ true → length (filter p (remove xs i)) + 1 ≡ length (filter p xs)
filter_less p [] i d lt h = absurd (omega (arith, lt))
filter_less {X} p (x ∷ xs) zero d lt h = omega (arith, ap (λ (ys : List X). length ys) (cond-true (p x) (x ∷ filter p xs) (filter p xs) h))
filter_less {X} p (x ∷ xs) (suc i) d lt h =
    let rest = filter_less p xs i d (omega (arith, lt)) h in
    let len : List X → ℕ = λ (ys : List X). length ys in
    elim (cases_Bool (p x)) [
      | inl t ↦ omega (arith, rest, ap len (cond-true (p x) (x ∷ filter p xs) (filter p xs) t), ap len (cond-true (p x) (x ∷ filter p (remove xs i)) (filter p (remove xs i)) t))
      | inr f ↦ omega (arith, rest, ap len (cond-false (p x) (x ∷ filter p xs) (filter p xs) f), ap len (cond-false (p x) (x ∷ filter p (remove xs i)) (filter p (remove xs i)) f))
    ]

pub all_less : {X : Type 0} (P : X → Type 0) (xs : List X) (i : ℕ) → All P xs → All P (remove xs i)
all_less P xs i h = All-append P (take i xs) (drop (suc i) xs) (All-take P i xs h) (All-drop P (suc i) xs h)

pub remove_agree : (xs ys : List (List ℕ)) (i : ℕ) → length xs ≡ length ys → ((k : ℕ) → k < length xs → k ≢ i → get_or xs k [] ≡ get_or ys k []) → remove xs i ≡ remove ys i
remove_agree [] [] i long h = refl
remove_agree [] (y ∷ ys) i long h = absurd (omega (arith, long))
remove_agree (x ∷ xs) [] i long h = absurd (omega (arith, long))
remove_agree (x ∷ xs) (y ∷ ys) zero long h = ext_get_or [] xs ys (omega (arith, long)) (λ k lt. h (suc k) (omega (arith, lt)) (omega arith))
remove_agree (x ∷ xs) (y ∷ ys) (suc i) long h =
    let head : x ≡ y = h 0 (omega arith) (omega arith) in
    let tail : remove xs i ≡ remove ys i = remove_agree xs ys i (omega (arith, long)) (λ k lt ne. h (suc k) (omega (arith, lt)) (omega (arith, ne))) in
    λ j. head j ∷ tail j

-- a user chain's name goes
pub listed_less : (ns : List (List ℕ)) (i : ℕ) → 3 ≤ i → i < length ns → AreListed ns → AreListed (remove ns i)
listed_less [] i ge lt h = absurd (omega (arith, lt))
listed_less (a ∷ []) i ge lt h = absurd (omega (arith, ge, lt))
listed_less (a ∷ b ∷ []) i ge lt h = absurd (omega (arith, ge, lt))
listed_less (a ∷ b ∷ c ∷ ns) zero ge lt h = absurd (omega (arith, ge))
listed_less (a ∷ b ∷ c ∷ ns) (suc zero) ge lt h = absurd (omega (arith, ge))
listed_less (a ∷ b ∷ c ∷ ns) (suc (suc zero)) ge lt h = absurd (omega (arith, ge))
listed_less (a ∷ b ∷ c ∷ ns) (suc (suc (suc i))) ge lt h =
    record { built_in = h.built_in; user = all_less IsUserName ns i h.user; order = all_pairs_remove (λ x y. IsTrue (comes_before x y)) ns i (omega (arith, lt)) h.order }

-- Where rules stand then

pub rules_less : (cs : List Chain) (i : ℕ) (d : Chain) (a : List ℕ) → i < length cs → is_named a (get_or cs i d) ≡ false → rules_of (remove cs i) a ≡ rules_of cs a
rules_less [] i d a lt h = absurd (omega (arith, lt))
rules_less (c ∷ cs) zero d a lt h = sym (cond-false (is_named a c) _ _ h)
rules_less (c ∷ cs) (suc i) d a lt h =
    elim (cases_Bool (is_named a c)) [
      | inl here ↦ cond-true (is_named a c) _ _ here ∙ sym (cond-true (is_named a c) _ _ here)
      | inr un ↦ cond-false (is_named a c) _ _ un ∙ rules_less cs i d a (omega (arith, lt)) h ∙ sym (cond-false (is_named a c) _ _ un)
    ]

pub placed_has : (n : List ℕ) (c : Chain) (cs : List Chain) → is_named n c ≡ true → list_any (is_named n) (placed c cs) ≡ true
placed_has n c [] h = or_left (is_named n c) false h
placed_has n c (x ∷ cs) h =
    let P : List Chain → Type 0 = λ (xs : List Chain). list_any (is_named n) xs ≡ true in
    elim (cases_Bool (is_built_in x.name || comes_before x.name c.name)) [
      | inl first ↦ subst P (sym (cond-true (is_built_in x.name || comes_before x.name c.name) _ _ first)) (or_right (is_named n x) _ (placed_has n c cs h))
      | inr later ↦ subst P (sym (cond-false (is_built_in x.name || comes_before x.name c.name) _ _ later)) (or_left (is_named n c) _ h)
    ]

pub placed_own : (c : Chain) (cs : List Chain) → list_any (is_named c.name) cs ≡ false → rules_of (placed c cs) c.name ≡ c.rules
placed_own c [] free = cond-true (is_named c.name c) _ _ ((bytes_eq-Decides c.name c.name).1 refl)
placed_own c (x ∷ cs) free =
    let b = both_false (is_named c.name x) _ free in
    let R : List Chain → List Rule = λ (xs : List Chain). rules_of xs c.name in
    elim (cases_Bool (is_built_in x.name || comes_before x.name c.name)) [
      | inl first ↦ ap R (cond-true (is_built_in x.name || comes_before x.name c.name) _ _ first) ∙ cond-false (is_named c.name x) _ _ b.0 ∙ placed_own c cs b.1
      | inr later ↦ ap R (cond-false (is_built_in x.name || comes_before x.name c.name) _ _ later) ∙ cond-true (is_named c.name c) _ _ ((bytes_eq-Decides c.name c.name).1 refl)
    ]

pub placed_other : (c : Chain) (cs : List Chain) (a : List ℕ) → is_named a c ≡ false → rules_of (placed c cs) a ≡ rules_of cs a
placed_other c [] a h = cond-false (is_named a c) _ _ h
placed_other c (x ∷ cs) a h =
    let R : List Chain → List Rule = λ (xs : List Chain). rules_of xs a in
    elim (cases_Bool (is_built_in x.name || comes_before x.name c.name)) [
      | inl first ↦ ap R (cond-true (is_built_in x.name || comes_before x.name c.name) _ _ first) ∙ elim (cases_Bool (is_named a x)) [
        | inl here ↦ cond-true (is_named a x) _ _ here ∙ sym (cond-true (is_named a x) _ _ here)
        | inr un ↦ cond-false (is_named a x) _ _ un ∙ placed_other c cs a h ∙ sym (cond-false (is_named a x) _ _ un)
      ]
      | inr later ↦ ap R (cond-false (is_built_in x.name || comes_before x.name c.name) _ _ later) ∙ cond-false (is_named a c) _ _ h
    ]

-- ---- A new chain at its place leaves the chains in the order of a listing.

-- The order of names

abbrev pub order : List ℕ → List ℕ → Ordering
order = slice_cmp nat_cmp

less : (o : Ordering) → is_lt o ≡ true → o ≡ Less
less Less e = refl
less Equal e = absurd (false≢true e)
less Greater e = absurd (false≢true e)

turned_less : (o : Ordering) → is_lt o ≡ false → is_eq o ≡ false → ordering_reverse o ≡ Less
turned_less Less lt eq = absurd (false≢true (sym lt))
turned_less Equal lt eq = absurd (false≢true (sym eq))
turned_less Greater lt eq = refl

pub before_trans : (a b c : List ℕ) → comes_before a b ≡ true → comes_before b c ≡ true → comes_before a c ≡ true
before_trans a b c p q = ap is_lt (nat_list_cmp_total.trans a b c (less (order a b) p) (less (order b c) q))

pub before_other : (a b : List ℕ) → comes_before a b ≡ false → bytes_eq a b ≡ false → comes_before b a ≡ true
before_other a b lt eq = ap is_lt (nat_list_cmp_total.antisymm b a ∙ turned_less (order a b) lt (is_eq-slice_cmp a b ∙ eq))

-- Names in order

abbrev pub Before : List ℕ → List ℕ → Type 0
Before a b = comes_before a b ≡ true

abbrev pub Rising : List (List ℕ) → Type 0
Rising [] = Unit {0}
Rising (x ∷ xs) = All (Before x) xs × Rising xs

pub rising_from : (xs : List (List ℕ)) → AllPairs Before xs → Rising xs
rising_from [] h = tt
rising_from (x ∷ xs) h = (λ k d lt. h 0 (suc k) d (omega arith) (omega (arith, lt)), rising_from xs (λ i j d below lt. h (suc i) (suc j) d (omega (arith, below)) (omega (arith, lt))))

rising_to : (xs : List (List ℕ)) → Rising xs → AllPairs Before xs
rising_to [] r i j d below lt = absurd (omega (arith, lt))
rising_to (x ∷ xs) r zero zero d below lt = absurd (omega (arith, below))
rising_to (x ∷ xs) r zero (suc j) d below lt = r.0 j d (omega (arith, lt))
rising_to (x ∷ xs) r (suc i) zero d below lt = absurd (omega (arith, below))
rising_to (x ∷ xs) r (suc i) (suc j) d below lt = rising_to xs r.1 i j d (omega (arith, below)) (omega (arith, lt))

-- A name at its place

abbrev pub stays_first : List ℕ → List ℕ → Bool
stays_first name x = is_built_in x || comes_before x name

abbrev placed_name : List ℕ → List (List ℕ) → List (List ℕ)
placed_name name [] = name ∷ []
placed_name name (x ∷ xs) = if stays_first name x then x ∷ placed_name name xs else name ∷ x ∷ xs

pub names_placed : (c : Chain) (cs : List Chain) → names_of (placed c cs) ≡ placed_name c.name (names_of cs)
names_placed c [] = refl
names_placed c (x ∷ cs) =
    elim (cases_Bool (stays_first c.name x.name)) [
      | inl first ↦ ap names_of (cond-true (stays_first c.name x.name) _ _ first) ∙ (λ i. x.name ∷ names_placed c cs i) ∙ sym (cond-true (stays_first c.name x.name) _ _ first)
      | inr later ↦ ap names_of (cond-false (stays_first c.name x.name) _ _ later) ∙ sym (cond-false (stays_first c.name x.name) _ _ later)
    ]

all_placed : (P : List ℕ → Type 0) (name : List ℕ) (xs : List (List ℕ)) → P name → All P xs → All P (placed_name name xs)
all_placed P name [] p h = All-cons P name [] p h
all_placed P name (x ∷ xs) p h =
    let Q : List (List ℕ) → Type 0 = λ ys. All P ys in
    elim (cases_Bool (stays_first name x)) [
      | inl first ↦ subst Q (sym (cond-true (stays_first name x) _ _ first)) (All-cons P x (placed_name name xs) (All-head P x xs h) (all_placed P name xs p (All-tail P x xs h)))
      | inr later ↦ subst Q (sym (cond-false (stays_first name x) _ _ later)) (All-cons P name (x ∷ xs) p h)
    ]

or_false : (a b : Bool) → a || b ≡ false → b ≡ false
or_false true b e = absurd (false≢true (sym e))
or_false false b e = e

rising_placed : (name : List ℕ) (xs : List (List ℕ)) → All IsUserName xs → list_any (λ x. bytes_eq x name) xs ≡ false → Rising xs → Rising (placed_name name xs)
rising_placed name [] user new r = (λ k d lt. absurd (omega (arith, lt)), tt)
rising_placed name (x ∷ xs) user new r =
    let own : IsUserName x = All-head IsUserName x xs user in
    elim (cases_Bool (stays_first name x)) [
      | inl first ↦ (
          let before : Before x name = elim (or_cases (is_built_in x) (comes_before x name) first) [ inl b ↦ absurd (false≢true (sym own.other ∙ b)) | inr c ↦ c ] in
          let rest : Rising (placed_name name xs) = rising_placed name xs (All-tail IsUserName x xs user) (or_false (bytes_eq x name) _ new) r.1 in
          subst Rising (sym (cond-true (stays_first name x) _ _ first)) (all_placed (Before x) name xs before r.0, rest))
      | inr later ↦ (
          let apart : bytes_eq x name ≡ false = first_false (bytes_eq x name) _ new in
          let before : Before name x = before_other x name (or_false (is_built_in x) (comes_before x name) later) apart in
          let all : All (Before name) (x ∷ xs) = All-cons (Before name) x xs before (All-weaker (Before x) (Before name) (λ y q. before_trans name x y before q) xs r.0) in
          subst Rising (sym (cond-false (stays_first name x) _ _ later)) (all, r))
    ]
  where
    first_false : (a b : Bool) → a || b ≡ false → a ≡ false
    first_false true b e = absurd (false≢true (sym e))
    first_false false b e = refl

built_in_first : (name x : List ℕ) (xs : List (List ℕ)) → is_built_in x ≡ true → placed_name name (x ∷ xs) ≡ x ∷ placed_name name xs
built_in_first name x xs b = cond-true (stays_first name x) _ _ (or_left (is_built_in x) (comes_before x name) b)

rest_false : (f : List ℕ → Bool) (x : List ℕ) (xs : List (List ℕ)) → list_any f (x ∷ xs) ≡ false → list_any f xs ≡ false
rest_false f x xs h = or_false (f x) (list_any f xs) h

pub placed_listed : (name : List ℕ) (ns : List (List ℕ)) → is_name name ≡ true → is_built_in name ≡ false → list_any (λ x. bytes_eq x name) ns ≡ false → AreListed ns → AreListed (placed_name name ns)
placed_listed name [] form other new h = absurd (let e = front_long [] h.built_in in omega (arith, e))
placed_listed name (a ∷ []) form other new h = absurd (let e = front_long (a ∷ []) h.built_in in omega (arith, e))
placed_listed name (a ∷ b ∷ []) form other new h = absurd (let e = front_long (a ∷ b ∷ []) h.built_in in omega (arith, e))
placed_listed name (a ∷ b ∷ c ∷ ns) form other new h =
    let input : List ℕ = codes "INPUT" in
    let forward : List ℕ = codes "FORWARD" in
    let output : List ℕ = codes "OUTPUT" in
    let one : a ≡ input = head_same a input (b ∷ c ∷ []) (forward ∷ output ∷ []) h.built_in in
    let more = tail_same a input (b ∷ c ∷ []) (forward ∷ output ∷ []) h.built_in in
    let two : b ≡ forward = head_same b forward (c ∷ []) (output ∷ []) more in
    let three : c ≡ output = head_same c output [] [] (tail_same b forward (c ∷ []) (output ∷ []) more) in
    let all : placed_name name (a ∷ b ∷ c ∷ ns) ≡ a ∷ b ∷ c ∷ placed_name name ns = built_in_first name a (b ∷ c ∷ ns) (ap is_built_in one)
    ∙ (λ i. a ∷ built_in_first name b (c ∷ ns) (ap is_built_in two) i)
    ∙ (λ i. a ∷ b ∷ built_in_first name c ns (ap is_built_in three) i) in
    let test : List ℕ → Bool = λ x. bytes_eq x name in
    let free : list_any test ns ≡ false = rest_false test c ns (rest_false test b (c ∷ ns) (rest_false test a (b ∷ c ∷ ns) new)) in
    subst AreListed (sym all) (record {
      built_in = h.built_in;
      user = all_placed IsUserName name ns (record { form = form; other = other }) h.user;
      order = rising_to (placed_name name ns) (rising_placed name ns h.user free (rising_from ns h.order));
    })
