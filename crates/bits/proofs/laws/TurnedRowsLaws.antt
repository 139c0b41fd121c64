-- Rows that one more turns: what an edit of the rows that are kept is to those that are seen, and how they are lent.
use Rattle.std.proofs.Common.{◌≡◌, ℕ, zero, suc, ◌<◌, Bool, true, false, not, List, [], ◌∷◌, length, take, get_or, refl, sym, ◌∙◌, ap, arith, ◌+◌, subst, map, All, inl, inr, ◌⊎◌, ◌/◌, ◌%◌}
use Rattle.std.specs.Prelude.{bit_or}
use Rattle.std.proofs.Math.Bool.{xor, beq}
use Rattle.std.specs.List.{insert, remove, AllByRecursion}
use Rattle.std.proofs.Math.ListN.{set}
use Rattle.std.proofs.lemmas.List.{length-map, length-set, get_or_default}
use Rattle.std.proofs.lemmas.Bool.{false≢true}
use Rattle.std.proofs.lemmas.Nat.Bits.{bit_at_or}
use Rattle.bits.specs.MarginRows.{after_margin, RowsInRoom}
use Rattle.bits.specs.TurnedRows.{turned, turned_rows, AreAsLong}
use Rattle.bits.specs.steps.Packing.{all_bits, IsPacked}
use Rattle.bits.specs.steps.Summaries.{IsMarked, IsSummaryOf}
use Rattle.bits.proofs.laws.MarginLaws.{length-after}

-- ---- A row that another turns: what an edit of both is to the row that is seen.

abbrev Row : Type 0
Row = List Bool

-- ---- a bit that another turns

-- it is one where they differ
pub differ : (a b : Bool) → not (beq a b) ≡ xor a b
unfolding xor
differ a b = refl

xor_none : (b : Bool) → xor false b ≡ b
unfolding xor
xor_none true = refl
xor_none false = refl

xor_twice : (t b : Bool) → xor t (xor t b) ≡ b
unfolding xor
xor_twice true true = refl
xor_twice true false = refl
xor_twice false true = refl
xor_twice false false = refl

-- bits that are equal once they are turned are so before
pub same_bit : (t a b : Bool) → xor t a ≡ xor t b → a ≡ b
same_bit t a b e = sym (xor_twice t a) ∙ ap (λ c. xor t c) e ∙ xor_twice t b

xor_not : (t b : Bool) → xor (not t) b ≡ not (xor t b)
unfolding xor
xor_not true true = refl
xor_not true false = refl
xor_not false true = refl
xor_not false false = refl

-- ---- a row

pub length-turned : (turn own : Row) → length (turned turn own) ≡ length own
length-turned turn [] = refl
length-turned [] (b ∷ own) = ap suc (length-turned [] own)
length-turned (t ∷ turn) (b ∷ own) = ap suc (length-turned turn own)

turned_by_none : (own : Row) → turned [] own ≡ own
turned_by_none [] = refl
turned_by_none (b ∷ own) = ap (λ (bs : Row). b ∷ bs) (turned_by_none own)

pub turned_twice : (turn own : Row) → turned turn (turned turn own) ≡ own
turned_twice turn [] = refl
turned_twice [] (b ∷ own) = ap (λ (bs : Row). b ∷ bs) (turned_twice [] own)
turned_twice (t ∷ turn) (b ∷ own) = (λ i. xor_twice t b i ∷ turned_twice turn own i)

-- rows that are equal once they are turned are so before
pub same-turned : (turn one other : Row) → turned turn one ≡ turned turn other → one ≡ other
same-turned turn one other e = sym (turned_twice turn one) ∙ ap (λ (bs : Row). turned turn bs) e ∙ turned_twice turn other

pub get-turned : (turn own : Row) (at : ℕ) → at < length own → get_or (turned turn own) at false ≡ xor (get_or turn at false) (get_or own at false)
get-turned turn [] at lt = absurd (omega arith)
get-turned [] (b ∷ own) zero lt = sym (xor_none b)
get-turned [] (b ∷ own) (suc at) lt = get-turned [] own at (omega arith)
get-turned (t ∷ turn) (b ∷ own) zero lt = refl
get-turned (t ∷ turn) (b ∷ own) (suc at) lt = get-turned turn own at (omega arith)

-- a bit that is to stand in the row is written turned
pub set-turned : (turn own : Row) (at : ℕ) (b : Bool) → turned turn (set own at (xor (get_or turn at false) b)) ≡ set (turned turn own) at b
set-turned turn [] at b = refl
set-turned [] (o ∷ own) zero b = ap (λ c. c ∷ turned [] own) (xor_none b)
set-turned [] (o ∷ own) (suc at) b = ap (λ (bs : Row). o ∷ bs) (set-turned [] own at b)
set-turned (t ∷ turn) (o ∷ own) zero b = ap (λ c. c ∷ turned turn own) (xor_twice t b)
set-turned (t ∷ turn) (o ∷ own) (suc at) b = ap (λ (bs : Row). xor t o ∷ bs) (set-turned turn own at b)

-- a bit of the row that turns it is turned
pub turned_at : (turn own : Row) (at : ℕ) → length own ≡ length turn
    → turned (set turn at (not (get_or turn at false))) own ≡ set (turned turn own) at (not (get_or (turned turn own) at false))
turned_at [] [] at e = refl
turned_at [] (o ∷ own) at e = absurd (omega arith)
turned_at (t ∷ turn) [] at e = refl
turned_at (t ∷ turn) (o ∷ own) zero e = ap (λ c. c ∷ turned turn own) (xor_not t o)
turned_at (t ∷ turn) (o ∷ own) (suc at) e = ap (λ (bs : Row). xor t o ∷ bs) (turned_at turn own at (omega arith))

-- a 0 put into both
pub insert-turned : (turn own : Row) (at : ℕ) → length own ≡ length turn → turned (insert turn at false) (insert own at false) ≡ insert (turned turn own) at false
insert-turned [] [] zero e = ap (λ c. c ∷ []) (xor_none false)
insert-turned [] [] (suc at) e = ap (λ c. c ∷ []) (xor_none false)
insert-turned [] (o ∷ own) at e = absurd (omega arith)
insert-turned (t ∷ turn) [] at e = absurd (omega arith)
insert-turned (t ∷ turn) (o ∷ own) zero e = ap (λ c. c ∷ turned (t ∷ turn) (o ∷ own)) (xor_none false)
insert-turned (t ∷ turn) (o ∷ own) (suc at) e = ap (λ (bs : Row). xor t o ∷ bs) (insert-turned turn own at (omega arith))

-- a bit taken out of both
pub remove-turned : (turn own : Row) (at : ℕ) → length own ≡ length turn → turned (remove turn at) (remove own at) ≡ remove (turned turn own) at
remove-turned [] [] zero e = refl
remove-turned [] [] (suc at) e = refl
remove-turned [] (o ∷ own) at e = absurd (omega arith)
remove-turned (t ∷ turn) [] at e = absurd (omega arith)
remove-turned (t ∷ turn) (o ∷ own) zero e = refl
remove-turned (t ∷ turn) (o ∷ own) (suc at) e = ap (λ (bs : Row). xor t o ∷ bs) (remove-turned turn own at (omega arith))

-- both after a margin
pub after-turned : (m : ℕ) (turn own : Row) → turned (after_margin m turn) (after_margin m own) ≡ after_margin m (turned turn own)
after-turned zero turn own = refl
after-turned (suc m) turn own = (λ i. xor_none false i ∷ after-turned m turn own i)

-- the first bits of both
pub take-turned : (n : ℕ) (turn own : Row) → take n (turned turn own) ≡ turned (take n turn) (take n own)
take-turned zero turn own = refl
take-turned (suc n) turn [] = refl
take-turned (suc n) [] (b ∷ own) = ap (λ (bs : Row). b ∷ bs) (ap (take n) (turned_by_none own) ∙ sym (turned_by_none (take n own)))
take-turned (suc n) (t ∷ turn) (b ∷ own) = ap (λ (bs : Row). xor t b ∷ bs) (take-turned n turn own)

-- ---- Rows that one more turns: what an edit of the rows that are kept is to those that are seen.

-- the row that turns the others
abbrev pub turn_of : List Row → Row
turn_of kept = get_or kept 0 []

-- rows as they are kept and as they are seen
pub record IsSeen (kept shown : List Row) : Type 0 where
  pub alike : AreAsLong kept
  pub seen : turned_rows kept ≡ shown

pub seen_rows : (kept shown : RowsInRoom) → AreAsLong kept.rows → record { rows = turned_rows kept.rows; room = kept.room } ≡ shown → IsSeen kept.rows shown.rows
seen_rows kept shown h v = record { alike = h; seen = ap (λ (r : RowsInRoom). r.rows) v }

-- the rows that are seen are those that the kept ones are, once turned
by_turning : (P : List Row → Type 0) (kept shown : List Row) → IsSeen kept shown → P (turned_rows kept) → P shown
by_turning P kept shown s p = subst P s.seen p

-- ---- how many rows, and how long they are

pub kept_size : (kept shown : List Row) → IsSeen kept shown → length kept ≡ length shown + 1
kept_size kept shown s = by_turning (λ rs. length kept ≡ length rs + 1) kept shown s (go kept s.alike)
  where
    go : (rs : List Row) → AreAsLong rs → length rs ≡ length (turned_rows rs) + 1
    go [] h = absurd h
    go (t ∷ own) h = omega (arith, length-map own (turned t))

long_at : (n : ℕ) (own : List Row) (k : ℕ) → AllByRecursion (λ (row : Row). length row ≡ n) own → k < length own → length (get_or own k []) ≡ n
long_at n [] k h lt = absurd (omega arith)
long_at n (o ∷ own) zero h lt = h.0
long_at n (o ∷ own) (suc k) h lt = long_at n own k h.1 (omega arith)

-- each row that is kept is as long as the first
pub kept_long : (kept : List Row) (j : ℕ) → AreAsLong kept → j < length kept → length (get_or kept j []) ≡ length (turn_of kept)
kept_long [] j h lt = absurd h
kept_long (t ∷ own) zero h lt = refl
kept_long (t ∷ own) (suc j) h lt = long_at (length t) own j h (omega arith)

row_turned : (t : Row) (own : List Row) (k : ℕ) → k < length own → get_or (map (turned t) own) k [] ≡ turned t (get_or own k [])
row_turned t [] k lt = absurd (omega arith)
row_turned t (o ∷ own) zero lt = refl
row_turned t (o ∷ own) (suc k) lt = row_turned t own k (omega arith)

-- a row that is seen is its own, turned
pub row_seen : (kept shown : List Row) (k j : ℕ) → IsSeen kept shown → j ≡ k + 1 → k < length shown → get_or shown k [] ≡ turned (turn_of kept) (get_or kept j [])
row_seen kept shown k j s is lt =
    let P : List Row → Type 0 = λ rs. k < length rs → get_or rs k [] ≡ turned (turn_of kept) (get_or kept j []) in
    by_turning P kept shown s (λ in'. go kept s.alike (omega arith) in') lt
  where
    go : (rs : List Row) → AreAsLong rs → j ≡ suc k → k < length (turned_rows rs) → get_or (turned_rows rs) k [] ≡ turned (turn_of rs) (get_or rs j [])
    go [] h e in' = absurd h
    go (t ∷ own) h e in' = row_turned t own k (omega (arith, in', length-map own (turned t))) ∙ ap (λ i. turned t (get_or (t ∷ own) i [])) (sym e)

-- it is as long as any that is kept
pub seen_long : (kept shown : List Row) (k j : ℕ) → IsSeen kept shown → k < length shown → j < length kept → length (get_or kept j []) ≡ length (get_or shown k [])
seen_long kept shown k j s in' lt =
    kept_long kept j s.alike lt
    ∙ sym (kept_long kept (k + 1) s.alike (omega (arith, in', kept_size kept shown s)))
    ∙ sym (ap length (row_seen kept shown k (k + 1) s refl in') ∙ length-turned (turn_of kept) (get_or kept (k + 1) []))

-- a row that is seen, without the bit at a place
pub beside_seen : (kept shown : List Row) (k j at : ℕ) → IsSeen kept shown → j ≡ k + 1 → k < length shown
    → remove (get_or shown k []) at ≡ turned (remove (turn_of kept) at) (remove (get_or kept j []) at)
beside_seen kept shown k j at s is lt =
    ap (λ (row : Row). remove row at) (row_seen kept shown k j s is lt)
    ∙ sym (remove-turned (turn_of kept) (get_or kept j []) at (kept_long kept j s.alike (omega (arith, is, lt, kept_size kept shown s))))

-- a bit that is seen is its own, turned
pub bit_seen : (kept shown : List Row) (k j at : ℕ) → IsSeen kept shown → j ≡ k + 1 → k < length shown → at < length (get_or shown k [])
    → get_or (get_or shown k []) at false ≡ xor (get_or (turn_of kept) at false) (get_or (get_or kept j []) at false)
bit_seen kept shown k j at s is lt in' =
    ap (λ (row : Row). get_or row at false) (row_seen kept shown k j s is lt)
    ∙ get-turned (turn_of kept) (get_or kept j []) at (omega (arith, in', seen_long kept shown k j s lt (omega (arith, is, lt, kept_size kept shown s))))

-- so a place of each row that is seen is one of each that is kept
pub each_long : (P : ℕ → Type 0) (kept shown : List Row) → IsSeen kept shown → 0 < length shown → All (λ (row : Row). P (length row)) shown → All (λ (row : Row). P (length row)) kept
each_long P kept shown s some all j d lt =
    subst P (sym (seen_long kept shown 0 j s some lt) ∙ ap length (get_or_default kept j [] d lt)) (all 0 [] some)

-- ---- one row edited

all_set : (n : ℕ) (own : List Row) (k : ℕ) (row : Row) → AllByRecursion (λ (o : Row). length o ≡ n) own → length row ≡ n → AllByRecursion (λ (o : Row). length o ≡ n) (set own k row)
all_set n [] k row h e = tt
all_set n (o ∷ own) zero row h e = (e, h.1)
all_set n (o ∷ own) (suc k) row h e = (h.0, all_set n own k row h.1 e)

map-set : (t : Row) (own : List Row) (k : ℕ) (row : Row) → map (turned t) (set own k row) ≡ set (map (turned t) own) k (turned t row)
map-set t [] k row = refl
map-set t (o ∷ own) zero row = refl
map-set t (o ∷ own) (suc k) row = ap (λ (rs : List Row). turned t o ∷ rs) (map-set t own k row)

set_seen : (kept shown : List Row) (k j : ℕ) (row : Row) → IsSeen kept shown → j ≡ suc k → length row ≡ length (turn_of kept) → IsSeen (set kept j row) (set shown k (turned (turn_of kept) row))
set_seen kept shown k j row s is e =
    let Q : ℕ → Type 0 = λ i. IsSeen (set kept i row) (set shown k (turned (turn_of kept) row)) in
    by_turning (λ rs. IsSeen (set kept j row) (set rs k (turned (turn_of kept) row))) kept shown s (go kept s.alike e)
  where
    go : (rs : List Row) → AreAsLong rs → length row ≡ length (turn_of rs) → IsSeen (set rs j row) (set (turned_rows rs) k (turned (turn_of rs) row))
    go [] h l = absurd h
    go (t ∷ own) h l =
        let P : ℕ → Type 0 = λ i. IsSeen (set (t ∷ own) i row) (set (map (turned t) own) k (turned t row)) in
        subst P (sym is) (record { alike = all_set (length t) own k row h l; seen = map-set t own k row })

-- a bit written in one row
pub written_seen : (kept shown : List Row) (k j at : ℕ) (b : Bool) → IsSeen kept shown → j ≡ k + 1 → k < length shown
    → IsSeen (set kept j (set (get_or kept j []) at (xor (get_or (turn_of kept) at false) b))) (set shown k (set (get_or shown k []) at b))
written_seen kept shown k j at b s is lt =
    let there : j < length kept = omega (arith, is, lt, kept_size kept shown s) in
    let row : Row = set (get_or kept j []) at (xor (get_or (turn_of kept) at false) b) in
    let long : length row ≡ length (turn_of kept) = length-set (get_or kept j []) at (xor (get_or (turn_of kept) at false) b) ∙ kept_long kept j s.alike there in
    let here : turned (turn_of kept) row ≡ set (get_or shown k []) at b = set-turned (turn_of kept) (get_or kept j []) at b ∙ ap (λ (bs : Row). set bs at b) (sym (row_seen kept shown k j s is lt)) in
    let P : Row → Type 0 = λ bs. IsSeen (set kept j row) (set shown k bs) in
    subst P here (set_seen kept shown k j row s (omega (arith, is)) long)

-- ---- all rows edited

all_mapped : (f : Row → Row) (t : Row) (own : List Row) → ((o : Row) → length o ≡ length t → length (f o) ≡ length (f t)) → AllByRecursion (λ (o : Row). length o ≡ length t) own
    → AllByRecursion (λ (o : Row). length o ≡ length (f t)) (map f own)
all_mapped f t [] long h = tt
all_mapped f t (o ∷ own) long h = (long o h.0, all_mapped f t own long h.1)

map-mapped : (f g : Row → Row) (t u : Row) (own : List Row) → ((o : Row) → length o ≡ length t → turned u (f o) ≡ g (turned t o)) → AllByRecursion (λ (o : Row). length o ≡ length t) own
    → map (turned u) (map f own) ≡ map g (map (turned t) own)
map-mapped f g t u [] step h = refl
map-mapped f g t u (o ∷ own) step h = (λ i. step o h.0 i ∷ map-mapped f g t u own step h.1 i)

-- each row edited, and the one that turns it too
pub mapped_seen : (f : Row → Row) (kept shown : List Row) → ((t o : Row) → length o ≡ length t → length (f o) ≡ length (f t)) → ((t o : Row) → length o ≡ length t → turned (f t) (f o) ≡ f (turned t o))
    → IsSeen kept shown → IsSeen (map f kept) (map f shown)
mapped_seen f kept shown long step s = by_turning (λ rs. IsSeen (map f kept) (map f rs)) kept shown s (go kept s.alike)
  where
    go : (rs : List Row) → AreAsLong rs → IsSeen (map f rs) (map f (turned_rows rs))
    go [] h = absurd h
    go (t ∷ own) h = record { alike = all_mapped f t own (long t) h; seen = map-mapped f f t (f t) own (step t) h }

long-insert : (t o : Row) (at : ℕ) → length o ≡ length t → length (insert o at false) ≡ length (insert t at false)
long-insert [] [] at e = refl
long-insert [] (o ∷ own) at e = absurd (omega arith)
long-insert (t ∷ turn) [] at e = absurd (omega arith)
long-insert (t ∷ turn) (o ∷ own) zero e = ap suc e
long-insert (t ∷ turn) (o ∷ own) (suc at) e = ap suc (long-insert turn own at (omega arith))

long-remove : (t o : Row) (at : ℕ) → length o ≡ length t → length (remove o at) ≡ length (remove t at)
long-remove [] [] at e = refl
long-remove [] (o ∷ own) at e = absurd (omega arith)
long-remove (t ∷ turn) [] at e = absurd (omega arith)
long-remove (t ∷ turn) (o ∷ own) zero e = omega arith
long-remove (t ∷ turn) (o ∷ own) (suc at) e = ap suc (long-remove turn own at (omega arith))

-- a 0 put into each
pub opened_seen : (kept shown : List Row) (at : ℕ) → IsSeen kept shown → IsSeen (map (λ row. insert row at false) kept) (map (λ row. insert row at false) shown)
opened_seen kept shown at s = mapped_seen (λ row. insert row at false) kept shown (λ t o e. long-insert t o at e) (λ t o e. insert-turned t o at e) s

-- a bit taken out of each
pub closed_seen : (kept shown : List Row) (at : ℕ) → IsSeen kept shown → IsSeen (map (λ row. remove row at) kept) (map (λ row. remove row at) shown)
closed_seen kept shown at s = mapped_seen (λ row. remove row at) kept shown (λ t o e. long-remove t o at e) (λ t o e. remove-turned t o at e) s

all_as : (m n : ℕ) (own : List Row) → m ≡ n → AllByRecursion (λ (o : Row). length o ≡ n) own → AllByRecursion (λ (o : Row). length o ≡ m) own
all_as m n own e h = let P : ℕ → Type 0 = λ k. AllByRecursion (λ (o : Row). length o ≡ k) own in subst P (sym e) h

map-turned_at : (at : ℕ) (t : Row) (own : List Row) → AllByRecursion (λ (o : Row). length o ≡ length t) own
    → map (turned (set t at (not (get_or t at false)))) own ≡ map (λ row. set row at (not (get_or row at false))) (map (turned t) own)
map-turned_at at t [] h = refl
map-turned_at at t (o ∷ own) h = (λ i. turned_at t o at h.0 i ∷ map-turned_at at t own h.1 i)

-- a bit of the row that turns the others, turned
pub turned_seen : (kept shown : List Row) (at : ℕ) → IsSeen kept shown
    → IsSeen (set kept 0 (set (turn_of kept) at (not (get_or (turn_of kept) at false)))) (map (λ row. set row at (not (get_or row at false))) shown)
turned_seen kept shown at s =
    by_turning (λ rs. IsSeen (set kept 0 (set (turn_of kept) at (not (get_or (turn_of kept) at false)))) (map (λ row. set row at (not (get_or row at false))) rs)) kept shown s (go kept s.alike)
  where
    go : (rs : List Row) → AreAsLong rs → IsSeen (set rs 0 (set (turn_of rs) at (not (get_or (turn_of rs) at false)))) (map (λ row. set row at (not (get_or row at false))) (turned_rows rs))
    go [] h = absurd h
    go (t ∷ own) h = record {
      alike = all_as (length (set t at (not (get_or t at false)))) (length t) own (length-set t at (not (get_or t at false))) h;
      seen = map-turned_at at t own h;
    }

-- ---- a row more, or less

all_inserted : (n : ℕ) (own : List Row) (k : ℕ) (row : Row) → AllByRecursion (λ (o : Row). length o ≡ n) own → length row ≡ n → AllByRecursion (λ (o : Row). length o ≡ n) (insert own k row)
all_inserted n [] zero row h e = (e, tt)
all_inserted n [] (suc k) row h e = (e, tt)
all_inserted n (o ∷ own) zero row h e = (e, h)
all_inserted n (o ∷ own) (suc k) row h e = (h.0, all_inserted n own k row h.1 e)

map-inserted : (t : Row) (own : List Row) (k : ℕ) (row : Row) → map (turned t) (insert own k row) ≡ insert (map (turned t) own) k (turned t row)
map-inserted t [] zero row = refl
map-inserted t [] (suc k) row = refl
map-inserted t (o ∷ own) zero row = refl
map-inserted t (o ∷ own) (suc k) row = ap (λ (rs : List Row). turned t o ∷ rs) (map-inserted t own k row)

-- a row put in after the first, which turns the same bits then
pub inserted_seen : (kept shown : List Row) (k j : ℕ) (row : Row) → IsSeen kept shown → j ≡ suc k → length row ≡ length (turn_of kept)
    → IsSeen (insert kept j row) (insert shown k (turned (turn_of kept) row)) × (turn_of (insert kept j row) ≡ turn_of kept)
inserted_seen kept shown k j row s is e =
    by_turning (λ rs. IsSeen (insert kept j row) (insert rs k (turned (turn_of kept) row)) × (turn_of (insert kept j row) ≡ turn_of kept)) kept shown s (go kept s.alike e)
  where
    go : (rs : List Row) → AreAsLong rs → length row ≡ length (turn_of rs) → IsSeen (insert rs j row) (insert (turned_rows rs) k (turned (turn_of rs) row)) × (turn_of (insert rs j row) ≡ turn_of rs)
    go [] h l = absurd h
    go (t ∷ own) h l =
        let P : ℕ → Type 0 = λ i. IsSeen (insert (t ∷ own) i row) (insert (map (turned t) own) k (turned t row)) × (turn_of (insert (t ∷ own) i row) ≡ t) in
        subst P (sym is) (record { alike = all_inserted (length t) own k row h l; seen = map-inserted t own k row }, refl)

-- a copy of a row after it
pub doubled_seen : (kept shown : List Row) (k j : ℕ) → IsSeen kept shown → j ≡ k + 1 → k < length shown → IsSeen (insert kept (j + 1) (get_or kept j [])) (insert shown (k + 1) (get_or shown k []))
doubled_seen kept shown k j s is lt =
    let row : Row = get_or kept j [] in
    let long : length row ≡ length (turn_of kept) = kept_long kept j s.alike (omega (arith, is, lt, kept_size kept shown s)) in
    let P : Row → Type 0 = λ bs. IsSeen (insert kept (j + 1) row) (insert shown (k + 1) bs) in
    subst P (sym (row_seen kept shown k j s is lt)) (inserted_seen kept shown (k + 1) (j + 1) row s (omega (arith, is)) long).0

-- two copies
pub twice_seen : (kept shown : List Row) (k j : ℕ) → IsSeen kept shown → j ≡ k + 1 → k < length shown
    → IsSeen (insert (insert kept (j + 1) (get_or kept j [])) (j + 1) (get_or kept j [])) (insert (insert shown (k + 1) (get_or shown k [])) (k + 1) (get_or shown k []))
twice_seen kept shown k j s is lt =
    let row : Row = get_or kept j [] in
    let once : List Row = insert kept (j + 1) row in
    let seen : List Row = insert shown (k + 1) (get_or shown k []) in
    let long : length row ≡ length (turn_of kept) = kept_long kept j s.alike (omega (arith, is, lt, kept_size kept shown s)) in
    let turn : turn_of once ≡ turn_of kept = (inserted_seen kept shown (k + 1) (j + 1) row s (omega (arith, is)) long).1 in
    let P : Row → Type 0 = λ bs. IsSeen (insert once (j + 1) row) (insert seen (k + 1) bs) in
    subst P (ap (λ (t : Row). turned t row) turn ∙ sym (row_seen kept shown k j s is lt))
    (inserted_seen once seen (k + 1) (j + 1) row (doubled_seen kept shown k j s is lt) (omega (arith, is)) (long ∙ sym (ap length turn))).0

all_removed : (n : ℕ) (own : List Row) (k : ℕ) → AllByRecursion (λ (o : Row). length o ≡ n) own → AllByRecursion (λ (o : Row). length o ≡ n) (remove own k)
all_removed n [] zero h = tt
all_removed n [] (suc k) h = tt
all_removed n (o ∷ own) zero h = h.1
all_removed n (o ∷ own) (suc k) h = (h.0, all_removed n own k h.1)

map-removed : (t : Row) (own : List Row) (k : ℕ) → map (turned t) (remove own k) ≡ remove (map (turned t) own) k
map-removed t [] zero = refl
map-removed t [] (suc k) = refl
map-removed t (o ∷ own) zero = refl
map-removed t (o ∷ own) (suc k) = ap (λ (rs : List Row). turned t o ∷ rs) (map-removed t own k)

-- a row taken out
pub removed_seen : (kept shown : List Row) (k j : ℕ) → IsSeen kept shown → j ≡ k + 1 → IsSeen (remove kept j) (remove shown k)
removed_seen kept shown k j s is = by_turning (λ rs. IsSeen (remove kept j) (remove rs k)) kept shown s (go kept s.alike (omega (arith, is)))
  where
    go : (rs : List Row) → AreAsLong rs → j ≡ suc k → IsSeen (remove rs j) (remove (turned_rows rs) k)
    go [] h e = absurd h
    go (t ∷ own) h e =
        let P : ℕ → Type 0 = λ i. IsSeen (remove (t ∷ own) i) (remove (map (turned t) own) k) in
        subst P (sym e) (record { alike = all_removed (length t) own k h; seen = map-removed t own k })

-- ---- A row that another turns, as both are lent: their words, and the summaries of both in one.

as_long_after : (m n : ℕ) (one other : Row) → m ≡ n → length one ≡ length other → length (after_margin m one) ≡ length (after_margin n other)
as_long_after m n one other same e = omega (arith, same, e, length-after m one, length-after n other)

-- words that hold a row after its margin hold any row that is as long
pub lent_packed : (m n : ℕ) (one other : Row) (ws : List ℕ) → m ≡ n → length one ≡ length other → IsPacked ws (length (after_margin m one)) → IsPacked ws (length (after_margin n other))
lent_packed m n one other ws same e = subst (IsPacked ws) (as_long_after m n one other same e)

-- the bits of two rows' words, as far as the rows go, are the row that one of them turns
pub lent_bits : (m n : ℕ) (turn own row : Row) (ts ws : List ℕ) → m ≡ n → length own ≡ length row → length turn ≡ length row → row ≡ turned turn own
    → take (length (after_margin m turn)) (all_bits ts) ≡ after_margin m turn → take (length (after_margin m own)) (all_bits ws) ≡ after_margin m own
    → take (length (after_margin n row)) (turned (all_bits ts) (all_bits ws)) ≡ after_margin n row
lent_bits m n turn own row ts ws same long e is turns owns =
    let k : ℕ = length (after_margin n row) in
    let one : take k (all_bits ts) ≡ after_margin m turn = ap (λ j. take j (all_bits ts)) (sym (as_long_after m n turn row same e)) ∙ turns in
    let two : take k (all_bits ws) ≡ after_margin m own = ap (λ j. take j (all_bits ws)) (sym (as_long_after m n own row same long)) ∙ owns in
    take-turned k (all_bits ts) (all_bits ws) ∙ (λ i. turned (one i) (two i)) ∙ after-turned m turn own ∙ (λ i. after_margin (same i) (sym is i))

either_bit : (t b : Bool) → xor t b ≡ true → (t ≡ true) ⊎ (b ≡ true)
unfolding xor
either_bit true b e = inl refl
either_bit false true e = inr refl
either_bit false false e = absurd (false≢true e)

-- a bit that a turned row has is one of the two rows'
either_row : (turn own : Row) (p : ℕ) → get_or (turned turn own) p false ≡ true → (get_or turn p false ≡ true) ⊎ (get_or own p false ≡ true)
either_row turn [] p e = absurd (false≢true e)
either_row [] (b ∷ own) zero e = inr e
either_row [] (b ∷ own) (suc p) e = elim (either_row [] own p e) [ inl h ↦ absurd (false≢true h) | inr h ↦ inr h ]
either_row (t ∷ turn) (b ∷ own) zero e = either_bit t b e
either_row (t ∷ turn) (b ∷ own) (suc p) e = either_row turn own p e

low_marked : (s u word : ℕ) → IsMarked s word → IsMarked (bit_or s u) word
low_marked s u word h = omega (arith, bit_at_or s u (word / 2 % 64), h)

high_marked : (s u word : ℕ) → IsMarked u word → IsMarked (bit_or s u) word
high_marked s u word h = omega (arith, bit_at_or s u (word / 2 % 64), h)

-- the summaries of both rows in one are a summary of the turned row
pub lent_summed : (m n : ℕ) (turn own row : Row) (s u : ℕ) → m ≡ n → row ≡ turned turn own → IsSummaryOf s (after_margin m own) → IsSummaryOf u (after_margin m turn) → IsSummaryOf (bit_or s u) (after_margin n row)
lent_summed m n turn own row s u same is owns turns p on =
    let both : turned (after_margin m turn) (after_margin m own) ≡ after_margin n row = after-turned m turn own ∙ (λ i. after_margin (same i) (sym is i)) in
    elim (either_row (after_margin m turn) (after_margin m own) p (ap (λ (bs : Row). get_or bs p false) both ∙ on)) [
      | inl h ↦ high_marked s u (p / 64) (turns p h)
      | inr h ↦ low_marked s u (p / 64) (owns p h)
    ]
