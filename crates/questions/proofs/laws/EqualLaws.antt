-- Tables that are equal, place by place.
use Rattle.std.proofs.Common.{◌≡◌, ℕ, ◌<◌, ◌≤◌, ◌&&◌, Bool, List, [], ◌∷◌, get_or, length, refl, sym, ◌∙◌, ap, arith, rules, Option, Vec, Global, ◌↔◌, IsTrue, map, slice_get, unwrap_or}
use Rattle.std.specs.Cmp.Lexicographic.{pointwise, pointwise_decides}
use Rattle.std.proofs.lemmas.List.{same_lists}
use Rattle.std.proofs.lemmas.Option.{unwrap_or-slice_get}
use Rattle.std.proofs.lemmas.Slice.Eq.{slice_eq-Decides}
use Rattle.table.specs.chains.Table.{Chain, Table}
use Rattle.table.specs.declared.policy.Policy.{Policy}
use Rattle.questions.specs.contracts.foreign.need.NeedPartialEq.TheImpl as of_need
use Rattle.questions.specs.declared.foreign.need.Need.{Need}

-- two lists are alike at each of the first so many places
abbrev pub AlikeBelow : {X : Type 0} → List X → List X → ℕ → Type 0
AlikeBelow {X} xs ys n = (k : ℕ) (d : X) → k < n → get_or xs k d ≡ get_or ys k d

-- so they are one list
pub alike_all : {X : Type 0} (xs ys : List X) (n : ℕ) → length xs ≡ length ys → length xs ≤ n → AlikeBelow xs ys n → xs ≡ ys
alike_all xs ys n long le below = same_lists xs ys long (λ k d lt. below k d (omega (arith, lt, le)))

-- ---- needs

pub same_need : (a b : Need) → IsTrue (of_need.ghosts.eq a b) ↔ (a ≡ b)
same_need a b = search rules

-- a test of what is listed for each item is a test of the lists
listed_test : {X Y : Type 0} (f : X → Y) (E : Y → Y → Bool) (xs ys : List X) → pointwise (λ x y. E (f x) (f y)) xs ys ≡ pointwise E (map f xs) (map f ys)
listed_test f E [] [] = refl
listed_test f E [] (y ∷ ys) = refl
listed_test f E (x ∷ xs) [] = refl
listed_test f E (x ∷ xs) (y ∷ ys) = ap (λ rest. E (f x) (f y) && rest) (listed_test f E xs ys)

abbrev items : Vec Need Global → List Need
items needs = needs.items

abbrev rows : Vec (Vec Need Global) Global → List (List Need)
rows chain = map items chain.items

-- the test of needs, vector by vector, is one of what the rules need
pub same_needs : (xs ys : List (Vec (Vec Need Global) Global)) (r : Bool)
    → r ≡ pointwise (λ (a b : Vec (Vec Need Global) Global). pointwise (λ (n m : Vec Need Global). pointwise of_need.ghosts.eq n.items m.items) a.items b.items) xs ys
    → IsTrue r ↔ (map rows xs ≡ map rows ys)
same_needs xs ys r is =
    let E = pointwise of_need.ghosts.eq in
    slice_eq-Decides (pointwise_decides (pointwise_decides same_need)) (map rows xs) (map rows ys) r
    (is ∙ (λ i. pointwise (λ a b. listed_test items E a.items b.items i) xs ys) ∙ listed_test rows (pointwise E) xs ys)

-- ---- policies

-- two lists give the same at each of the first so many places
abbrev pub GiveSame : List Policy → List Policy → ℕ → Type 0
GiveSame xs ys n = (k : ℕ) → k < n → slice_get xs k ≡ slice_get ys k

pub give_all : (xs ys : List Policy) (n : ℕ) → length xs ≡ 3 → length ys ≡ 3 → 3 ≤ n → GiveSame xs ys n → xs ≡ ys
give_all xs ys n three too le below =
    same_lists xs ys (three ∙ sym too) (λ k d lt.
    (let at : slice_get xs k ≡ slice_get ys k = below k (omega (arith, lt, three, le)) in
    sym (unwrap_or-slice_get xs k d) ∙ ap (λ (o : Option Policy). unwrap_or o d) at ∙ unwrap_or-slice_get ys k d))

-- ---- tables

pub table_same : (old new : Table) → old.policies ≡ new.policies → old.chains ≡ new.chains → old ≡ new
table_same old new policies chains =
    let ruled : List Policy → Table = λ ps. record { policies = ps; chains = old.chains } in
    let made : List Chain → Table = λ cs. record { policies = new.policies; chains = cs } in
    ap ruled policies ∙ ap made chains
