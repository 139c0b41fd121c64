-- Rows after blank places: what an edit of such rows is to the rows themselves.
use Rattle.std.proofs.Common.{◌≡◌, inl, inr, ℕ, zero, suc, ◌+◌, ◌-◌, ◌<◌, ◌≤◌, Bool, false, List, [], ◌∷◌, length, drop, get_or, refl, sym, ◌∙◌, ap, arith, subst, map, All}
use Rattle.std.specs.List.{insert, remove}
use Rattle.std.proofs.Math.ListN.{set}
use Rattle.std.proofs.lemmas.Bool.{cases_lt}
use Rattle.std.proofs.lemmas.List.{get_or-map, get_or_default, get_or_past, length-map, same_lists}
use Rattle.std.proofs.lemmas.List.Elements.{All-head, All-tail, All-map}
use Rattle.std.specs.Prelude.{Result, Ok, Err, OnOk, OnErr}
use Rattle.bits.specs.MarginRows.{RowsInRoom, after_margin, AreAfter}
use Rattle.bits.specs.Rows.{IsRunWritten}

abbrev Row : Type 0
Row = List Bool

-- ---- one row

more : (m at : ℕ) → suc m + at ≡ suc (m + at)
more m at = omega arith

pub drop-after : (m : ℕ) (row : Row) → drop m (after_margin m row) ≡ row
drop-after zero row = refl
drop-after (suc m) row = drop-after m row

pub length-after : (m : ℕ) (row : Row) → length (after_margin m row) ≡ m + length row
length-after zero row = omega arith
length-after (suc m) row = ap suc (length-after m row) ∙ sym (more m (length row))

pub get-after : (m at : ℕ) (row : Row) (d : Bool) → get_or (after_margin m row) (m + at) d ≡ get_or row at d
get-after zero at row d = let e : 0 + at ≡ at = omega arith in ap (λ k. get_or row k d) e
get-after (suc m) at row d = ap (λ k. get_or (false ∷ after_margin m row) k d) (more m at) ∙ get-after m at row d

pub set-after : (m at : ℕ) (b : Bool) (row : Row) → set (after_margin m row) (m + at) b ≡ after_margin m (set row at b)
set-after zero at b row = let e : 0 + at ≡ at = omega arith in ap (λ k. set row k b) e
set-after (suc m) at b row = ap (λ k. set (false ∷ after_margin m row) k b) (more m at) ∙ ap (λ (bs : Row). false ∷ bs) (set-after m at b row)

pub insert-after : (m at : ℕ) (b : Bool) (row : Row) → insert (after_margin m row) (m + at) b ≡ after_margin m (insert row at b)
insert-after zero at b row = let e : 0 + at ≡ at = omega arith in ap (λ k. insert row k b) e
insert-after (suc m) at b row = ap (λ k. insert (false ∷ after_margin m row) k b) (more m at) ∙ ap (λ (bs : Row). false ∷ bs) (insert-after m at b row)

pub remove-after : (m at : ℕ) (row : Row) → remove (after_margin m row) (m + at) ≡ after_margin m (remove row at)
remove-after zero at row = let e : 0 + at ≡ at = omega arith in ap (λ k. remove row k) e
remove-after (suc m) at row = ap (λ k. remove (false ∷ after_margin m row) k) (more m at) ∙ ap (λ (bs : Row). false ∷ bs) (remove-after m at row)

pub same-after : (m : ℕ) (one other : Row) → after_margin m one ≡ after_margin m other → one ≡ other
same-after m one other e = sym (drop-after m one) ∙ ap (λ (bs : Row). drop m bs) e ∙ drop-after m other

-- the last blank place is the row's first bit
pub taken-after : (m : ℕ) (row : Row) → after_margin (suc m) row ≡ after_margin m (insert row 0 false)
taken-after zero row = refl
taken-after (suc m) row = ap (λ (bs : Row). false ∷ bs) (taken-after m row)

-- the first bit, made a blank place
pub given-after : (m : ℕ) (row : Row) → 0 < length row → set (after_margin m row) m false ≡ after_margin (suc m) (remove row 0)
given-after zero [] lt = absurd (omega arith)
given-after zero (b ∷ bs) lt = refl
given-after (suc m) row lt = ap (λ (bs : Row). false ∷ bs) (given-after m row lt)

-- ---- all rows

-- rows after their margin are those that are shown
pub shown-after : (m : ℕ) (rows wide : List Row) → AreAfter m rows wide → map (drop m) wide ≡ rows
shown-after m rows wide e = ap (map (drop m)) e ∙ go rows
  where
    go : (rs : List Row) → map (drop m) (map (after_margin m) rs) ≡ rs
    go [] = refl
    go (r ∷ rs) = ap (λ (bs : Row). bs ∷ map (drop m) (map (after_margin m) rs)) (drop-after m r) ∙ ap (λ (bs : List Row). r ∷ bs) (go rs)

-- and stand after it
pub still-after : (m : ℕ) (rows wide : List Row) → AreAfter m rows wide → AreAfter m (map (drop m) wide) wide
still-after m rows wide e = e ∙ ap (map (after_margin m)) (sym (shown-after m rows wide e))

pub at-after : (m k : ℕ) (rows wide : List Row) → AreAfter m rows wide → k < length rows → get_or wide k [] ≡ after_margin m (get_or rows k [])
at-after m k rows wide e lt = ap (λ (rs : List Row). get_or rs k []) e ∙ get_or-map (after_margin m) rows k [] [] lt

-- a bit of a row, which stands behind its margin
pub bit-after : (m at k : ℕ) (rows wide : List Row) → AreAfter m rows wide → k < length rows → get_or (get_or wide k []) (m + at) false ≡ get_or (get_or rows k []) at false
bit-after m at k rows wide e lt = ap (λ (row : Row). get_or row (m + at) false) (at-after m k rows wide e lt) ∙ get-after m at (get_or rows k []) false

pub long-after : (m : ℕ) (rows wide : List Row) → AreAfter m rows wide → length wide ≡ length rows
long-after m rows wide e = ap length e ∙ length-map rows (after_margin m)

-- what holds of each row after its margin
pub each-after : (P : Row → Type 0) (m : ℕ) (rows wide : List Row) → AreAfter m rows wide → All (λ row. P (after_margin m row)) rows → All P wide
each-after P m rows wide e h = let Q : List Row → Type 0 = λ rs. All P rs in subst Q (sym e) (All-map P (after_margin m) rows h)

-- an edit of each row
pub all-after : (f g : Row → Row) (m n : ℕ) (rows wide : List Row) → ((row : Row) → f (after_margin m row) ≡ after_margin n (g row)) → AreAfter m rows wide → AreAfter n (map g rows) (map f wide)
all-after f g m n rows wide step e = ap (map f) e ∙ go rows
  where
    go : (rs : List Row) → map f (map (after_margin m) rs) ≡ map (after_margin n) (map g rs)
    go [] = refl
    go (r ∷ rs) = ap (λ (bs : Row). bs ∷ map f (map (after_margin m) rs)) (step r) ∙ ap (λ (bs : List Row). after_margin n (g r) ∷ bs) (go rs)

-- the first bits made blank places
pub all-given : (m : ℕ) (rows wide : List Row) → All (λ row. 0 < length row) rows → AreAfter m rows wide → AreAfter (suc m) (map (λ row. remove row 0) rows) (map (λ row. set row m false) wide)
all-given m rows wide some e = ap (map (λ row. set row m false)) e ∙ go rows some
  where
    go : (rs : List Row) → All (λ row. 0 < length row) rs → map (λ row. set row m false) (map (after_margin m) rs) ≡ map (after_margin (suc m)) (map (λ row. remove row 0) rs)
    go [] h = refl
    go (r ∷ rs) h =
        ap (λ (bs : Row). bs ∷ map (λ row. set row m false) (map (after_margin m) rs)) (given-after m r (All-head (λ (row : Row). 0 < length row) r rs h))
        ∙ ap (λ (bs : List Row). after_margin (suc m) (remove r 0) ∷ bs) (go rs (All-tail (λ (row : Row). 0 < length row) r rs h))

-- the last blank places taken by bits
pub all-taken : (m : ℕ) (rows wide : List Row) → AreAfter (suc m) rows wide → AreAfter m (map (λ row. insert row 0 false) rows) wide
all-taken m rows wide e = e ∙ go rows
  where
    go : (rs : List Row) → map (after_margin (suc m)) rs ≡ map (after_margin m) (map (λ row. insert row 0 false) rs)
    go [] = refl
    go (r ∷ rs) = ap (λ (bs : Row). bs ∷ map (after_margin (suc m)) rs) (taken-after m r) ∙ ap (λ (bs : List Row). after_margin m (insert r 0 false) ∷ bs) (go rs)

-- no edit but a margin
pub all-closed : (m : ℕ) (rows wide : List Row) → AreAfter (suc m) rows wide → AreAfter m rows (map (λ row. remove row 0) wide)
all-closed m rows wide e = ap (map (λ row. remove row 0)) e ∙ go rows
  where
    go : (rs : List Row) → map (λ row. remove row 0) (map (after_margin (suc m)) rs) ≡ map (after_margin m) rs
    go [] = refl
    go (r ∷ rs) = ap (λ (bs : List Row). after_margin m r ∷ bs) (go rs)

-- ---- the list of rows

map-insert : (f : Row → Row) (rows : List Row) (k : ℕ) (row : Row) → map f (insert rows k row) ≡ insert (map f rows) k (f row)
map-insert f [] zero row = refl
map-insert f [] (suc k) row = refl
map-insert f (r ∷ rs) zero row = refl
map-insert f (r ∷ rs) (suc k) row = ap (λ (bs : List Row). f r ∷ bs) (map-insert f rs k row)

map-remove : (f : Row → Row) (rows : List Row) (k : ℕ) → map f (remove rows k) ≡ remove (map f rows) k
map-remove f [] zero = refl
map-remove f [] (suc k) = refl
map-remove f (r ∷ rs) zero = refl
map-remove f (r ∷ rs) (suc k) = ap (λ (bs : List Row). f r ∷ bs) (map-remove f rs k)

map-set : (f : Row → Row) (rows : List Row) (k : ℕ) (row : Row) → map f (set rows k row) ≡ set (map f rows) k (f row)
map-set f [] k row = refl
map-set f (r ∷ rs) zero row = refl
map-set f (r ∷ rs) (suc k) row = ap (λ (bs : List Row). f r ∷ bs) (map-set f rs k row)

pub insert-rows-after : (m k : ℕ) (row here : Row) (rows wide : List Row) → AreAfter m rows wide → here ≡ after_margin m row → AreAfter m (insert rows k row) (insert wide k here)
insert-rows-after m k row here rows wide e h = (λ i. insert (e i) k (h i)) ∙ sym (map-insert (after_margin m) rows k row)

pub remove-rows-after : (m k : ℕ) (rows wide : List Row) → AreAfter m rows wide → AreAfter m (remove rows k) (remove wide k)
remove-rows-after m k rows wide e = ap (λ (rs : List Row). remove rs k) e ∙ sym (map-remove (after_margin m) rows k)

pub set-rows-after : (m k : ℕ) (row here : Row) (rows wide : List Row) → AreAfter m rows wide → here ≡ after_margin m row → AreAfter m (set rows k row) (set wide k here)
set-rows-after m k row here rows wide e h = (λ i. set (e i) k (h i)) ∙ sym (map-set (after_margin m) rows k row)

-- ---- rows as they are shown

pub shown_rows : (m n : ℕ) (wide : List Row) (shown : RowsInRoom) → AreAfter m (map (drop m) wide) wide → record { rows = map (drop m) wide; room = record { places = n + m; before = m } } ≡ shown → AreAfter m shown.rows wide
shown_rows m n wide shown h v = h ∙ ap (λ (r : RowsInRoom). map (after_margin m) r.rows) v

-- whether a call is refused or not, the rows stand after their margin
pub either-after : {T E : Type 0} (r : Result T E) (m : ℕ) (more rows wide edited new : List Row) → AreAfter m more edited → AreAfter m rows wide → OnOk r (new ≡ edited) → OnErr r (new ≡ wide) → AreAfter m (map (drop m) new) new
either-after (Ok x) m more rows wide edited new h was ok err = still-after m more new (ok ∙ h)
either-after (Err x) m more rows wide edited new h was ok err = still-after m rows new (err ∙ was)

-- a copy of a row put in after it
pub doubled-after : (m k : ℕ) (rows wide : List Row) → AreAfter m rows wide → k < length rows → AreAfter m (insert rows (k + 1) (get_or rows k [])) (insert wide (k + 1) (get_or wide k []))
doubled-after m k rows wide e lt = insert-rows-after m (k + 1) (get_or rows k []) (get_or wide k []) rows wide e (at-after m k rows wide e lt)

pub twice-after : (m k : ℕ) (rows wide : List Row) → AreAfter m rows wide → k < length rows
    → AreAfter m (insert (insert rows (k + 1) (get_or rows k [])) (k + 1) (get_or rows k [])) (insert (insert wide (k + 1) (get_or wide k [])) (k + 1) (get_or wide k []))
twice-after m k rows wide e lt = insert-rows-after m (k + 1) (get_or rows k []) (get_or wide k []) (insert rows (k + 1) (get_or rows k [])) (insert wide (k + 1) (get_or wide k [])) (doubled-after m k rows wide e lt) (at-after m k rows wide e lt)

-- a bit written in one row
pub written-after : (m k at : ℕ) (b : Bool) (rows wide : List Row) → AreAfter m rows wide → k < length rows → AreAfter m (set rows k (set (get_or rows k []) at b)) (set wide k (set (get_or wide k []) (m + at) b))
written-after m k at b rows wide e lt =
    set-rows-after m k (set (get_or rows k []) at b) (set (get_or wide k []) (m + at) b) rows wide e
    (ap (λ (bs : Row). set bs (m + at) b) (at-after m k rows wide e lt) ∙ set-after m at b (get_or rows k []))

-- rows that are long enough are so after their margin
pub reach-after : (m at : ℕ) (rows wide : List Row) → AreAfter m rows wide → All (λ row. at < length row) rows → All (λ row. m + at < length row) wide
reach-after m at rows wide e h = each-after (λ row. m + at < length row) m rows wide e (λ k d lt. omega (arith, h k d lt, length-after m (get_or rows k d)))

pub reach-up-to-after : (m at : ℕ) (rows wide : List Row) → AreAfter m rows wide → All (λ row. at ≤ length row) rows → All (λ row. m + at ≤ length row) wide
reach-up-to-after m at rows wide e h = each-after (λ row. m + at ≤ length row) m rows wide e (λ k d lt. omega (arith, h k d lt, length-after m (get_or rows k d)))

-- rows after a margin have a bit
pub some-after : (m : ℕ) (rows wide : List Row) → AreAfter m rows wide → 0 < m → All (λ row. 0 < length row) wide
some-after m rows wide e some = each-after (λ row. 0 < length row) m rows wide e (λ k d lt. omega (arith, length-after m (get_or rows k d)))

-- ---- blank places of two words

after-after : (a b : ℕ) (row : Row) → after_margin a (after_margin b row) ≡ after_margin (a + b) row
after-after zero b row = let e : 0 + b ≡ b = omega arith in ap (λ n. after_margin n row) (sym e)
after-after (suc a) b row = ap (λ (bs : Row). false ∷ bs) (after-after a b row) ∙ ap (λ n. after_margin n row) (sym (more a b))

-- more blank places before each row
pub all-opened : (n m : ℕ) (rows wide new : List Row) → new ≡ map (λ row. after_margin n row) wide → AreAfter m rows wide → AreAfter (m + n) rows new
all-opened n m rows wide new is e = is ∙ ap (map (λ row. after_margin n row)) e ∙ go rows
  where
    sum : n + m ≡ m + n
    sum = omega arith

    go : (rs : List Row) → map (λ row. after_margin n row) (map (after_margin m) rs) ≡ map (after_margin (m + n)) rs
    go [] = refl
    go (r ∷ rs) =
        ap (λ (bs : Row). bs ∷ map (λ row. after_margin n row) (map (after_margin m) rs)) (after-after n m r ∙ ap (λ k. after_margin k r) sum)
        ∙ ap (λ (bs : List Row). after_margin (m + n) r ∷ bs) (go rs)

-- fewer of them
pub all-dropped : (n m : ℕ) (rows wide : List Row) → n ≤ m → AreAfter m rows wide → AreAfter (m - n) rows (map (drop n) wide)
all-dropped n m rows wide le e = ap (map (drop n)) e ∙ go rows
  where
    sum : m ≡ n + (m - n)
    sum = omega (arith, le)

    go : (rs : List Row) → map (drop n) (map (after_margin m) rs) ≡ map (after_margin (m - n)) rs
    go [] = refl
    go (r ∷ rs) =
        ap (λ (bs : Row). drop n bs ∷ map (drop n) (map (after_margin m) rs)) (ap (λ k. after_margin k r) sum ∙ sym (after-after n (m - n) r))
        ∙ ap (λ (bs : Row). bs ∷ map (drop n) (map (after_margin m) rs)) (drop-after n (after_margin (m - n) r))
        ∙ ap (λ (bs : List Row). after_margin (m - n) r ∷ bs) (go rs)

pub long-enough-after : (n m : ℕ) (rows wide : List Row) → AreAfter m rows wide → n ≤ m → All (λ row. n ≤ length row) wide
long-enough-after n m rows wide e le = each-after (λ row. n ≤ length row) m rows wide e (λ k d lt. omega (arith, le, length-after m (get_or rows k d)))

-- ---- a bit written in rows side by side

all-as-after : (m : ℕ) (new : List Row) → ((k : ℕ) → k < length new → get_or new k [] ≡ after_margin m (drop m (get_or new k []))) → AreAfter m (map (drop m) new) new
all-as-after m [] each = refl
all-as-after m (r ∷ rs) each = (λ i. each 0 (omega arith) i ∷ all-as-after m rs (λ k lt. each (suc k) (omega arith)) i)

is-after : (m : ℕ) (wide row : Row) → wide ≡ after_margin m row → (wide ≡ after_margin m (drop m wide)) × (drop m wide ≡ row)
is-after m wide row e = let rest : drop m wide ≡ row = ap (λ (bs : Row). drop m bs) e ∙ drop-after m row in (e ∙ ap (after_margin m) (sym rest), rest)

pub run-after : (m at : ℕ) (bit : Bool) (from to : ℕ) (rows wide new : List Row) → AreAfter m rows wide → to ≤ length rows → IsRunWritten (m + at) bit from to wide new
    → AreAfter m (map (drop m) new) new × IsRunWritten at bit from to rows (map (drop m) new)
run-after m at bit from to rows wide new e within w =
    let n : length wide ≡ length rows = long-after m rows wide e in
    let size : length (map (drop m) new) ≡ length new = length-map new (drop m) in
    let inside : (k : ℕ) → from ≤ k → k < to → get_or new k [] ≡ after_margin m (set (get_or rows k []) at bit) = λ k ge lt.
    w.written k ge lt ∙ ap (λ (bs : Row). set bs (m + at) bit) (at-after m k rows wide e (omega (arith, lt, within))) ∙ set-after m at bit (get_or rows k []) in
    let beside : (k : ℕ) → k < length rows → get_or new k [] ≡ get_or wide k [] → get_or new k [] ≡ after_margin m (get_or rows k []) = λ k lt same. same ∙ at-after m k rows wide e lt in
    let shown : (k : ℕ) (row : Row) → k < length rows → get_or new k [] ≡ after_margin m row → get_or (map (drop m) new) k [] ≡ row = λ k row lt is.
    get_or-map (drop m) new k [] [] (omega (arith, lt, n, w.as_long)) ∙ (is-after m (get_or new k []) row is).1 in (
      all-as-after m new (λ k lt. elim (cases_lt k from) [
        | inl less ↦ (is-after m (get_or new k []) (get_or rows k []) (beside k (omega (arith, lt, n, w.as_long)) (w.before k less))).0
        | inr ge ↦ elim (cases_lt k to) [
          | inl less ↦ (is-after m (get_or new k []) (set (get_or rows k []) at bit) (inside k ge less)).0
          | inr past ↦ (is-after m (get_or new k []) (get_or rows k []) (beside k (omega (arith, lt, n, w.as_long)) (w.after k past))).0
        ]
      ]),
      record {
        as_long = size ∙ w.as_long ∙ n;
        written = λ k ge lt. shown k (set (get_or rows k []) at bit) (omega (arith, lt, within)) (inside k ge lt);
        before = λ k less. elim (cases_lt k (length rows)) [
          | inl lt ↦ shown k (get_or rows k []) lt (beside k lt (w.before k less))
          | inr past ↦ get_or_past (map (drop m) new) k [] (omega (arith, past, size, w.as_long, n)) ∙ sym (get_or_past rows k [] past)
        ];
        after = λ k ge. elim (cases_lt k (length rows)) [
          | inl lt ↦ shown k (get_or rows k []) lt (beside k lt (w.after k ge))
          | inr past ↦ get_or_past (map (drop m) new) k [] (omega (arith, past, size, w.as_long, n)) ∙ sym (get_or_past rows k [] past)
        ];
      },
    )

-- the first bit of each row made a blank place
pub run-given : (m n : ℕ) (rows wide new : List Row) → All (λ row. 0 < length row) rows → AreAfter m rows wide → length wide ≤ n → IsRunWritten m false 0 n wide new → AreAfter (suc m) (map (λ row. remove row 0) rows) new
run-given m n rows wide new some e all w =
    let f : Row → Row = λ row. set row m false in
    let size : length (map f wide) ≡ length wide = length-map wide f in
    same_lists new (map f wide) (w.as_long ∙ sym size) (λ k d lt.
    let there : k < length wide = omega (arith, lt, w.as_long) in
    get_or_default new k d [] lt ∙ w.written k (omega arith) (omega (arith, there, all)) ∙ sym (get_or-map f wide k [] d there))
    ∙ all-given m rows wide some e
