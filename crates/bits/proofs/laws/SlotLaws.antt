-- Slots of rows: what a change of one leaves of the others, and two slots made the first two that there are.
use Rattle.std.proofs.Common.{◌≡◌, ◌≢◌, inl, inr, ℕ, zero, suc, ◌+◌, ◌<◌, ◌≤◌, Bool, List, [], ◌∷◌, length, get_or, refl, sym, ◌∙◌, ap, arith, subst, map, take}
use Rattle.std.specs.Prelude.{cond}
use Rattle.std.specs.List.{insert, remove}
use Rattle.std.proofs.lemmas.Bool.{cases_eq, eq-eqb, ne_eqb}
use Rattle.bits.specs.steps.Held.{AreBelow, IsNoneOf, AreApart, redirected, AreFirstTwo}

-- ---- Slots of rows: what a change of one leaves of the others.

pub below_more : (m n : ℕ) (ss : List ℕ) → m ≤ n → AreBelow m ss → AreBelow n ss
below_more m n [] le h = h
below_more m n (s ∷ ss) le h = (omega (arith, h.0), below_more m n ss le h.1)

pub below_at : (n : ℕ) (ss : List ℕ) (k d : ℕ) → AreBelow n ss → k < length ss → get_or ss k d < n
below_at n [] k d h lt = absurd (omega arith)
below_at n (s ∷ ss) zero d h lt = h.0
below_at n (s ∷ ss) (suc k) d h lt = below_at n ss k d h.1 (omega arith)

none_at : (x : ℕ) (ss : List ℕ) (k d : ℕ) → IsNoneOf x ss → k < length ss → get_or ss k d ≢ x
none_at x [] k d h lt = absurd (omega arith)
none_at x (s ∷ ss) zero d h lt = h.0
none_at x (s ∷ ss) (suc k) d h lt = none_at x ss k d h.1 (omega arith)

pub apart_at : (ss : List ℕ) (j k d : ℕ) → AreApart ss → j < k → k < length ss → get_or ss j d ≢ get_or ss k d
apart_at [] j k d h less lt = absurd (omega arith)
apart_at (s ∷ ss) j zero d h less lt = absurd (omega arith)
apart_at (s ∷ ss) zero (suc k) d h less lt = λ same. none_at s ss k d h.0 (omega arith) (sym same)
apart_at (s ∷ ss) (suc j) (suc k) d h less lt = apart_at ss j k d h.1 (omega arith) (omega arith)

-- ---- one more slot

fresh : (n : ℕ) (ss : List ℕ) → AreBelow n ss → IsNoneOf n ss
fresh n [] h = h
fresh n (s ∷ ss) h = (λ e. absurd (omega (arith, h.0, e)), fresh n ss h.1)

pub below-insert : (n : ℕ) (ss : List ℕ) (k x : ℕ) → AreBelow n ss → x < n → AreBelow n (insert ss k x)
below-insert n [] zero x h lt = (lt, h)
below-insert n [] (suc k) x h lt = (lt, h)
below-insert n (s ∷ ss) zero x h lt = (lt, h)
below-insert n (s ∷ ss) (suc k) x h lt = (h.0, below-insert n ss k x h.1 lt)

none-insert : (x : ℕ) (ss : List ℕ) (k y : ℕ) → IsNoneOf x ss → y ≢ x → IsNoneOf x (insert ss k y)
none-insert x [] zero y h ne = (ne, h)
none-insert x [] (suc k) y h ne = (ne, h)
none-insert x (s ∷ ss) zero y h ne = (ne, h)
none-insert x (s ∷ ss) (suc k) y h ne = (h.0, none-insert x ss k y h.1 ne)

apart-insert-none : (ss : List ℕ) (k x : ℕ) → AreApart ss → IsNoneOf x ss → AreApart (insert ss k x)
apart-insert-none [] zero x h none = (none, h)
apart-insert-none [] (suc k) x h none = (none, h)
apart-insert-none (s ∷ ss) zero x h none = (none, h)
apart-insert-none (s ∷ ss) (suc k) x h none = (none-insert s ss k x h.0 (λ e. none.0 (sym e)), apart-insert-none ss k x h.1 none.1)

pub apart-insert : (n : ℕ) (ss : List ℕ) (k : ℕ) → AreApart ss → AreBelow n ss → AreApart (insert ss k n)
apart-insert n ss k h below = apart-insert-none ss k n h (fresh n ss below)

-- ---- one slot less

pub below-remove : (n : ℕ) (ss : List ℕ) (k : ℕ) → AreBelow n ss → AreBelow n (remove ss k)
below-remove n [] zero h = h
below-remove n [] (suc k) h = h
below-remove n (s ∷ ss) zero h = h.1
below-remove n (s ∷ ss) (suc k) h = (h.0, below-remove n ss k h.1)

none-remove : (x : ℕ) (ss : List ℕ) (k : ℕ) → IsNoneOf x ss → IsNoneOf x (remove ss k)
none-remove x [] zero h = h
none-remove x [] (suc k) h = h
none-remove x (s ∷ ss) zero h = h.1
none-remove x (s ∷ ss) (suc k) h = (h.0, none-remove x ss k h.1)

pub apart-remove : (ss : List ℕ) (k : ℕ) → AreApart ss → AreApart (remove ss k)
apart-remove [] zero h = h
apart-remove [] (suc k) h = h
apart-remove (s ∷ ss) zero h = h.1
apart-remove (s ∷ ss) (suc k) h = (none-remove s ss k h.0, apart-remove ss k h.1)

-- the slot that went is none of those left
pub gone : (ss : List ℕ) (k d : ℕ) → AreApart ss → k < length ss → IsNoneOf (get_or ss k d) (remove ss k)
gone [] k d h lt = absurd (omega arith)
gone (s ∷ ss) zero d h lt = h.0
gone (s ∷ ss) (suc k) d h lt = (λ e. none_at s ss k d h.0 (omega arith) (sym e), gone ss k d h.1 (omega arith))

-- ---- a slot in the place of another

pub redirected_same : (from to slot : ℕ) → slot ≡ from → redirected from to slot ≡ to
redirected_same from to slot e = ap (λ (b : Bool). cond b to slot) (eq-eqb slot from e)

pub redirected_other : (from to slot : ℕ) → slot ≢ from → redirected from to slot ≡ slot
redirected_other from to slot ne = ap (λ (b : Bool). cond b to slot) (ne_eqb slot from ne)

-- the last slot goes to a free one below it
pub below-redirect : (n to : ℕ) (ss : List ℕ) → AreBelow (n + 1) ss → IsNoneOf to ss → to < n + 1 → AreBelow n (map (redirected n to) ss)
below-redirect n to [] h none lt = h
below-redirect n to (s ∷ ss) h none lt =
    let P : ℕ → Type 0 = λ x. x < n in
    let first : redirected n to s < n = elim (cases_eq s n) [
      | inl e ↦ (let ne : to ≢ n = λ f. none.0 (e ∙ sym f) in subst P (sym (redirected_same n to s e)) (omega arith))
      | inr ne ↦ subst P (sym (redirected_other n to s ne)) (omega (arith, h.0))
    ] in
    (first, below-redirect n to ss h.1 none.1 lt)

none-redirect : (n to s : ℕ) (ss : List ℕ) → IsNoneOf s ss → IsNoneOf to ss → to ≢ s → IsNoneOf (redirected n to s) (map (redirected n to) ss)
none-redirect n to s [] none free ne = none
none-redirect n to s (t ∷ ts) none free ne =
    let first : redirected n to t ≢ redirected n to s = elim (cases_eq t n) [
      | inl a ↦ elim (cases_eq s n) [
        | inl b ↦ λ _. none.0 (a ∙ sym b)
        | inr b ↦ λ e. ne (sym (redirected_same n to t a) ∙ e ∙ redirected_other n to s b)
      ]
      | inr a ↦ elim (cases_eq s n) [
        | inl b ↦ λ e. free.0 (sym (redirected_other n to t a) ∙ e ∙ redirected_same n to s b)
        | inr b ↦ λ e. none.0 (sym (redirected_other n to t a) ∙ e ∙ redirected_other n to s b)
      ]
    ] in
    (first, none-redirect n to s ts none.1 free.1 ne)

pub apart-redirect : (n to : ℕ) (ss : List ℕ) → AreApart ss → IsNoneOf to ss → AreApart (map (redirected n to) ss)
apart-redirect n to [] h free = h
apart-redirect n to (s ∷ ss) h free = (none-redirect n to s ss h.0 free.1 (λ e. free.0 (sym e)), apart-redirect n to ss h.1 free.1)

-- ---- what is in the slots, f before and g after

pub all_mapped : {X : Type 0} (h : X → X) (f g : ℕ → X) (n : ℕ) (ss : List ℕ) → AreBelow n ss → ((s : ℕ) → s < n → g s ≡ h (f s)) → map g ss ≡ map h (map f ss)
all_mapped h f g n [] below e = refl
all_mapped {X} h f g n (s ∷ ss) below e =
    ap (λ (x : X). x ∷ map g ss) (e s below.0) ∙ ap (λ (xs : List X). h (f s) ∷ xs) (all_mapped h f g n ss below.1 e)

pub same_mapped : {X : Type 0} (f g : ℕ → X) (n : ℕ) (ss : List ℕ) → AreBelow n ss → ((s : ℕ) → s < n → g s ≡ f s) → map g ss ≡ map f ss
same_mapped f g n [] below e = refl
same_mapped {X} f g n (s ∷ ss) below e = ap (λ (x : X). x ∷ map g ss) (e s below.0) ∙ ap (λ (xs : List X). f s ∷ xs) (same_mapped f g n ss below.1 e)

pub map-insert : {Y X : Type 0} (g : Y → X) (ss : List Y) (k : ℕ) (x : Y) → map g (insert ss k x) ≡ insert (map g ss) k (g x)
map-insert g [] zero x = refl
map-insert g [] (suc k) x = refl
map-insert g (s ∷ ss) zero x = refl
map-insert {Y} {X} g (s ∷ ss) (suc k) x = ap (λ (xs : List X). g s ∷ xs) (map-insert g ss k x)

pub map-remove : {Y X : Type 0} (f : Y → X) (ss : List Y) (k : ℕ) → map f (remove ss k) ≡ remove (map f ss) k
map-remove f [] zero = refl
map-remove f [] (suc k) = refl
map-remove f (s ∷ ss) zero = refl
map-remove {Y} {X} f (s ∷ ss) (suc k) = ap (λ (xs : List X). f s ∷ xs) (map-remove f ss k)

-- a slot more, which holds v
pub one_more : {X : Type 0} (f g : ℕ → X) (n : ℕ) (ss : List ℕ) (k : ℕ) (v : X) → AreBelow n ss → ((s : ℕ) → s < n → g s ≡ f s) → g n ≡ v → map g (insert ss k n) ≡ insert (map f ss) k v
one_more {X} f g n ss k v below e is =
    map-insert g ss k n ∙ ap (λ (x : X). insert (map g ss) k x) is ∙ ap (λ (xs : List X). insert xs k v) (same_mapped f g n ss below e)

redirected_mapped : {X : Type 0} (f g : ℕ → X) (n from to : ℕ) (ss : List ℕ) → AreBelow n ss → IsNoneOf to ss → ((s : ℕ) → s < n → s ≢ to → g (redirected from to s) ≡ f s)
    → map g (map (redirected from to) ss) ≡ map f ss
redirected_mapped f g n from to [] below none e = refl
redirected_mapped {X} f g n from to (s ∷ ss) below none e =
    ap (λ (x : X). x ∷ map g (map (redirected from to) ss)) (e s below.0 none.0) ∙ ap (λ (xs : List X). f s ∷ xs) (redirected_mapped f g n from to ss below.1 none.1 e)

-- a slot less, and the last one redirected to it
pub one_less : {X : Type 0} (f g : ℕ → X) (n from : ℕ) (ss : List ℕ) (k d : ℕ) → AreBelow n ss → AreApart ss → k < length ss
    → ((s : ℕ) → s < n → s ≢ get_or ss k d → g (redirected from (get_or ss k d) s) ≡ f s) → map g (map (redirected from (get_or ss k d)) (remove ss k)) ≡ remove (map f ss) k
one_less f g n from ss k d below apart lt e =
    redirected_mapped f g n from (get_or ss k d) (remove ss k) (below-remove n ss k below) (gone ss k d apart lt) e ∙ map-remove f ss k

-- ---- Two slots made the first two that there are.

first_two : (s t : ℕ) → s < 2 → t < 2 → t ≢ s → AreFirstTwo (s ∷ t ∷ [])
first_two s t low high ne = record { two = refl; below = (low, (high, tt)); apart = ((ne, tt), (tt, tt)) }

-- where the second is 0, the first becomes 1
pub first_renumbered : (s t : ℕ) (slots new : List ℕ) → length slots ≡ 2 → AreApart slots → s ≡ get_or slots 0 0 → t ≡ get_or slots 1 0 → t ≡ 0 → new ≡ map (redirected s 1) slots → AreFirstTwo new
first_renumbered s t [] new two apart e f last is = absurd (omega arith)
first_renumbered s t (x ∷ []) new two apart e f last is = absurd (omega arith)
first_renumbered s t (x ∷ y ∷ []) new two apart e f last is =
    let one : redirected s 1 x ≡ 1 = redirected_same s 1 x (sym e) in
    let other : redirected s 1 y ≡ 0 = redirected_other s 1 y (λ same. apart.0.0 (same ∙ e)) ∙ sym f ∙ last in
    let both : new ≡ 1 ∷ 0 ∷ [] = is ∙ (λ i. one i ∷ other i ∷ []) in
    subst AreFirstTwo (sym both) (first_two 1 0 (omega arith) (omega arith) (λ same. absurd (omega arith)))
first_renumbered s t (x ∷ y ∷ z ∷ zs) new two apart e f last is = absurd (omega arith)

-- else the first becomes 0, and then the second 1
pub both_renumbered : (s t : ℕ) (slots once new : List ℕ) → length slots ≡ 2 → AreApart slots → s ≡ get_or slots 0 0 → t ≡ get_or slots 1 0 → t ≢ 0 → once ≡ map (redirected s 0) slots → new ≡ map (redirected t 1) once → AreFirstTwo new
both_renumbered s t [] once new two apart e f some was is = absurd (omega arith)
both_renumbered s t (x ∷ []) once new two apart e f some was is = absurd (omega arith)
both_renumbered s t (x ∷ y ∷ []) once new two apart e f some was is =
    let one : redirected s 0 x ≡ 0 = redirected_same s 0 x (sym e) in
    let other : redirected s 0 y ≡ y = redirected_other s 0 y (λ same. apart.0.0 (same ∙ e)) in
    let stays : redirected t 1 0 ≡ 0 = redirected_other t 1 0 (λ same. some (sym same)) in
    let turns : redirected t 1 y ≡ 1 = redirected_same t 1 y (sym f) in
    let both : new ≡ 0 ∷ 1 ∷ [] = is ∙ ap (map (redirected t 1)) (was ∙ (λ i. one i ∷ other i ∷ [])) ∙ (λ i. stays i ∷ turns i ∷ []) in
    subst AreFirstTwo (sym both) (first_two 0 1 (omega arith) (omega arith) (λ same. absurd (omega arith)))
both_renumbered s t (x ∷ y ∷ z ∷ zs) once new two apart e f some was is = absurd (omega arith)

-- the first two of slots that are apart are so
pub apart_kept : (slots : List ℕ) → AreApart slots → AreApart (take 2 slots)
apart_kept [] h = tt
apart_kept (s ∷ []) h = (tt, tt)
apart_kept (s ∷ t ∷ ss) h = ((h.0.0, tt), (tt, tt))
