-- Laws of a text cut in two.
use Rattle.std.proofs.Common.{◌≡◌, ◌==◌, ℕ, Bool, true, false, cond, not, List, [], ◌∷◌, ◌++◌, Option, None, Some, refl, ap, ◌∙◌, eq-eqb}
use Rattle.std.specs.List.{list_all, onto_first, slice_split}
use Rattle.std.proofs.lemmas.Bool.{and_parts, not-true, eqb-true}
use Rattle.fields.specs.Sequence.{◌>>=◌}
use Rattle.fields.specs.text.Cut.{cut_at}

-- what stands before the first such byte
pub cut_at-at : (b : ℕ) (xs ys : List ℕ) → list_all (λ x. not (x == b)) xs ≡ true → cut_at b (xs ++ b ∷ ys) ≡ Some (xs, ys)
cut_at-at b [] ys none = ap (λ t. cond t (Some ([], ys)) (cut_at b ys >>= λ p. Some (b ∷ p.0, p.1))) (eq-eqb b b refl)
cut_at-at b (x ∷ xs) ys none =
    let (first, others) = and_parts (not (x == b)) (list_all (λ y. not (y == b)) xs) none in
    ap (λ t. cond t (Some ([], xs ++ b ∷ ys)) (cut_at b (xs ++ b ∷ ys) >>= λ p. Some (x ∷ p.0, p.1))) (not-true (x == b) first)
    ∙ ap (λ o. o >>= λ p. Some (x ∷ p.0, p.1)) (cut_at-at b xs ys others)

pub cut_at-none : (b : ℕ) (xs : List ℕ) → list_all (λ x. not (x == b)) xs ≡ true → cut_at b xs ≡ None
cut_at-none b [] none = refl
cut_at-none b (x ∷ xs) none =
    let (first, others) = and_parts (not (x == b)) (list_all (λ y. not (y == b)) xs) none in
    ap (λ t. cond t (Some ([], xs)) (cut_at b xs >>= λ p. Some (x ∷ p.0, p.1))) (not-true (x == b) first) ∙ ap (λ o. o >>= λ p. Some (x ∷ p.0, p.1)) (cut_at-none b xs others)

-- the step before one that gave something gave something
pub step_before : {A B : Type 0} (o : Option A) (f : A → Option B) (y : B) → (o >>= f) ≡ Some y → (x : A) × (o ≡ Some x) × (f x ≡ Some y)
step_before None f y e = absurd (cc)
step_before (Some x) f y e = (x, refl, e)

pub same_some : {A : Type 0} (x y : A) → Some x ≡ Some y → x ≡ y
same_some x y e = cc

-- the two parts with the byte between them are the text
pub cut_at_only : (b : ℕ) (text : List ℕ) (p : List ℕ × List ℕ) → cut_at b text ≡ Some p → text ≡ p.0 ++ b ∷ p.1
cut_at_only b [] p e = absurd (cc)
cut_at_only b (c ∷ cs) p e = go (c == b) refl e (cut_at_only b cs)
  where
    go : (t : Bool) → (c == b) ≡ t → cond t (Some ([], cs)) (cut_at b cs >>= λ q. Some (c ∷ q.0, q.1)) ≡ Some p
        → ((q : List ℕ × List ℕ) → cut_at b cs ≡ Some q → cs ≡ q.0 ++ b ∷ q.1) → c ∷ cs ≡ p.0 ++ b ∷ p.1
    go true same h before = ap (λ n. n ∷ cs) (eqb-true c b same) ∙ ap (λ (q : List ℕ × List ℕ). q.0 ++ b ∷ q.1) (same_some ([], cs) p h)
    go false differs h before =
        let (q, cut, is) = step_before (cut_at b cs) (λ q. Some (c ∷ q.0, q.1)) p h in
        ap (λ l. c ∷ l) (before q cut) ∙ ap (λ (r : List ℕ × List ℕ). r.0 ++ b ∷ r.1) (same_some (c ∷ q.0, q.1) p is)

-- the parts of a text between its commas, by the first comma
abbrev pub split : List ℕ → List (List ℕ)
split text = slice_split (λ byte. byte == 44) text

abbrev pub parted : List ℕ → Option (List ℕ × List ℕ) → List (List ℕ)
parted text None = text ∷ []
parted text (Some p) = p.0 ∷ split p.1

pub split-cut : (text : List ℕ) → split text ≡ parted text (cut_at 44 text)
split-cut [] = refl
split-cut (c ∷ cs) = go (c == 44) (split-cut cs)
  where
    onto : (o : Option (List ℕ × List ℕ)) → onto_first c (parted cs o) ≡ parted (c ∷ cs) (o >>= λ p. Some (c ∷ p.0, p.1))
    onto None = refl
    onto (Some p) = refl

    go : (t : Bool) → split cs ≡ parted cs (cut_at 44 cs) → cond t ([] ∷ split cs) (onto_first c (split cs)) ≡ parted (c ∷ cs) (cond t (Some ([], cs)) (cut_at 44 cs >>= λ p. Some (c ∷ p.0, p.1)))
    go true same = refl
    go false same = ap (onto_first c) same ∙ onto (cut_at 44 cs)
