-- Tests over lists, and the place of the first element that passes one.
use Rattle.std.proofs.Common.{◌≡◌, ℕ, zero, suc, Bool, true, false, cond, not, ◌&&◌, List, [], ◌∷◌, take, None, Some, refl, ap, subst, ◌∙◌, inl, inr, ◌+◌, ◌||◌, length, sym, is_some, arith}
use Rattle.std.specs.Prelude.{find}
use Rattle.std.specs.List.{list_all, list_any, position, position_or_len}
use Rattle.std.proofs.lemmas.Bool.{and_parts, and_from, not-true, cases_lt, lt-ltb, le-ltb}
use Rattle.std.proofs.Math.Dec.{ltb}

-- ---- Tests over lists.

-- what is found passes the test, and what all pass
pub find-passes : {X : Type 0} (test pass : X → Bool) (xs : List X) (x : X) → find test xs ≡ Some x → list_all pass xs ≡ true → (test x ≡ true) × (pass x ≡ true)
find-passes test pass [] x e all = absurd (cc)
find-passes {X = X} test pass (y ∷ ys) x e all =
    let (first, others) = and_parts (pass y) (list_all pass ys) all in
    go (test y) refl e first (λ found. find-passes test pass ys x found others)
  where
    go : (t : Bool) → test y ≡ t → cond t (Some y) (find test ys) ≡ Some x → pass y ≡ true → (find test ys ≡ Some x → (test x ≡ true) × (pass x ≡ true)) → (test x ≡ true) × (pass x ≡ true)
    go true here found passes rest = let same : y ≡ x = cc in subst (λ (z : X). (test z ≡ true) × (pass z ≡ true)) same (here, passes)
    go false here found passes rest = rest found

all-true : {X : Type 0} (xs : List X) → list_all (λ x. true) xs ≡ true
all-true [] = refl
all-true (x ∷ xs) = all-true xs

-- each of the two alone
pub find-is : {X : Type 0} (test : X → Bool) (xs : List X) (x : X) → find test xs ≡ Some x → test x ≡ true
find-is test xs x e = (find-passes test (λ y. true) xs x e (all-true xs)).0

pub find-among : {X : Type 0} (test pass : X → Bool) (xs : List X) (x : X) → list_all pass xs ≡ true → find test xs ≡ Some x → pass x ≡ true
find-among test pass xs x all e = (find-passes test pass xs x e all).1

-- nothing is found where nothing passes
pub find-none : {X : Type 0} (test : X → Bool) (xs : List X) → list_all (λ x. not (test x)) xs ≡ true → find test xs ≡ None
find-none test [] none = refl
find-none test (x ∷ xs) none =
    let (first, others) = and_parts (not (test x)) (list_all (λ y. not (test y)) xs) none in
    ap (λ t. cond t (Some x) (find test xs)) (not-true (test x) first) ∙ find-none test xs others

-- what all pass they pass where it follows
pub all-weaker : {X : Type 0} (p q : X → Bool) (xs : List X) → ((x : X) → p x ≡ true → q x ≡ true) → list_all p xs ≡ true → list_all q xs ≡ true
all-weaker p q [] weaker all = refl
all-weaker p q (x ∷ xs) weaker all =
    let (first, others) = and_parts (p x) (list_all p xs) all in
    ap (λ t. t && list_all q xs) (weaker x first) ∙ all-weaker p q xs weaker others

-- what all pass all of the first pass
pub all-take : {X : Type 0} (p : X → Bool) (n : ℕ) (xs : List X) → list_all p xs ≡ true → list_all p (take n xs) ≡ true
all-take p zero xs all = refl
all-take p (suc n) [] all = refl
all-take p (suc n) (x ∷ xs) all = let (first, others) = and_parts (p x) (list_all p xs) all in and_from _ _ first (all-take p n xs others)

-- ---- The place of the first element that passes a test.

some_is : {A : Type 0} (b : Bool) (x : A) → is_some (cond b (Some x) None) ≡ b
some_is true x = refl
some_is false x = refl

found : {A : Type 0} (p : A → Bool) (xs : List A) → ltb (position_or_len p xs) (length xs) ≡ list_any p xs
found p [] = refl
found p (x ∷ xs) =
    let n : ℕ = position_or_len p xs in
    elim (p x) as (λ b. ltb (cond (not b) (1 + n) 0) (length (x ∷ xs)) ≡ (b || list_any p xs)) [
      | true ↦ lt-ltb 0 (length (x ∷ xs)) (omega arith)
      | false ↦ elim (cases_lt n (length xs)) [
        | inl lt ↦ lt-ltb (1 + n) (length (x ∷ xs)) (omega arith) ∙ sym (lt-ltb n (length xs) lt) ∙ found p xs
        | inr ge ↦ le-ltb (1 + n) (length (x ∷ xs)) (omega arith) ∙ sym (le-ltb n (length xs) ge) ∙ found p xs
      ]
    ]

-- a test finds an element where there is a place of one
pub any_is : {A : Type 0} (p : A → Bool) (xs : List A) → is_some (position p xs) ≡ list_any p xs
any_is p xs = some_is (ltb (position_or_len p xs) (length xs)) (position_or_len p xs) ∙ found p xs
