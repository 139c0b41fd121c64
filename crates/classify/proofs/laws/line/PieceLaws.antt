-- Pieces as they are kept, their starts and their rows, and a bit written into the rows of pieces side by side.
use Rattle.std.proofs.Common.{◌≡◌, ℕ, zero, suc, ◌<◌, ◌≤◌, Bool, true, false, not, List, [], ◌∷◌, length, get_or, refl, sym, ◌∙◌, ap, arith, subst, map, All, inl, inr, ◌+◌, ◌%◌}
use Rattle.std.specs.Prelude.{slice_index}
use Rattle.std.specs.List.{insert, remove, zip}
use Rattle.std.proofs.Math.ListN.{set, get_or-eq_default}
use Rattle.std.proofs.lemmas.List.{get_or_default, length-map, length-set, get_or-map, same_lists}
use Rattle.std.proofs.lemmas.Slice.Zip.{firsts-zip, get_or-zip}
use Rattle.std.proofs.lemmas.Bool.{cases_lt}
use Rattle.bits.specs.MarginRows.{Room}
use Rattle.fields.specs.declared.numbers.spans.Interval.{Interval}
use Rattle.bits.specs.Rows.{IsRunWritten as AreRowsWritten}
use Rattle.classify.specs.Line.{starts}
use Rattle.classify.specs.steps.Edits.{row_of, with_bit, IsRunIn, IsRunWritten}
use Rattle.classify.specs.steps.Kept.{IsLine, PiecesAndRoom, most_start}
use Rattle.classify.specs.steps.Pieces.{EachRow, IsRising, IsRisingFrom, StartsAt, row_bits}
use Rattle.classify.proofs.laws.line.EditLaws.{Cut, IsIn, start_in, no_piece_between}
use Rattle.classify.proofs.laws.line.PlaceLaws.{rise_before, rise_all}

-- ---- Pieces as they are kept: their starts and their rows, apart.

abbrev Row : Type 0
Row = List Bool

-- starts and rows that show a line
abbrev pub Show : (ss : List ℕ) (rs : List Row) (n : Room) → IsLine (zip ss rs) n.places → PiecesAndRoom → Type 0
Show ss rs n s l = record { pieces = zip ss rs; room = n; stands = s } ≡ l

pub kept_pieces : (ss : List ℕ) (rs : List Row) (n : Room) (s : IsLine (zip ss rs) n.places) (l : PiecesAndRoom) → Show ss rs n s l → zip ss rs ≡ l.pieces
kept_pieces ss rs n s l v = ap (λ (k : PiecesAndRoom). k.pieces) v

pub kept_starts : (ss : List ℕ) (rs : List Row) (n : Room) (s : IsLine (zip ss rs) n.places) (l : PiecesAndRoom) → length rs ≡ length ss → Show ss rs n s l → starts l.pieces ≡ ss
kept_starts ss rs n s l e v = sym (ap starts (kept_pieces ss rs n s l v)) ∙ firsts-zip ss rs e

pub kept_long : (ss : List ℕ) (rs : List Row) (n : Room) (s : IsLine (zip ss rs) n.places) (l : PiecesAndRoom) → length rs ≡ length ss → Show ss rs n s l → length l.pieces ≡ length ss
kept_long ss rs n s l e v = sym (length-map l.pieces (λ (p : Cut). p.0)) ∙ ap length (kept_starts ss rs n s l e v)

pub kept_row : (ss : List ℕ) (rs : List Row) (n : Room) (s : IsLine (zip ss rs) n.places) (l : PiecesAndRoom) (k : ℕ) → length rs ≡ length ss → Show ss rs n s l → k < length ss → row_of l.pieces k ≡ get_or rs k []
kept_row ss rs n s l k e v lt =
    let none : Cut = (0, []) in
    ap (λ (p : Cut). p.1) (sym (ap (λ (ps : List Cut). get_or ps k none) (kept_pieces ss rs n s l v)) ∙ get_or-zip ss rs k none lt (omega arith))

-- what holds of a row and the places before it holds of the line's
pub lent_row : (P : ℕ → Row → Type 0) (ss : List ℕ) (rs : List Row) (n : Room) (s : IsLine (zip ss rs) n.places) (l : PiecesAndRoom) (k : ℕ) → length rs ≡ length ss → Show ss rs n s l → k < length ss → P n.before (get_or rs k []) → P l.room.before (row_of l.pieces k)
lent_row P ss rs n s l k e v lt h =
    let Q : ℕ → Type 0 = λ m. P m (get_or rs k []) in
    subst (P l.room.before) (sym (kept_row ss rs n s l k e v lt)) (subst Q (ap (λ (m : PiecesAndRoom). m.room.before) v) h)

-- what holds of each row of the line holds of the rows
pub each_row_kept : (P : Row → Type 0) (ss : List ℕ) (rs : List Row) (n : Room) (s : IsLine (zip ss rs) n.places) (l : PiecesAndRoom) → length rs ≡ length ss → Show ss rs n s l → ((k : ℕ) → k < length l.pieces → P (row_of l.pieces k)) → All P rs
each_row_kept P ss rs n s l e v h = λ k d lt.
    let below : k < length ss = omega arith in
    subst P (kept_row ss rs n s l k e v below ∙ get_or_default rs k [] d lt) (h k (omega (arith, kept_long ss rs n s l e v)))

-- a bit turned in each row, where none has it, is set in each
pub set_where_none : (rs : List Row) (at : ℕ) → All (λ row. get_or row at false ≡ false) rs → map (λ row. set row at (not (get_or row at false))) rs ≡ map (λ row. set row at true) rs
set_where_none [] at none = refl
set_where_none (r ∷ rs) at none =
    let here : get_or r at false ≡ false = none 0 [] (omega arith) in
    (λ i. set r at (not (here i)) ∷ set_where_none rs at (λ k d lt. none (suc k) d (omega arith)) i)

-- ---- edits of both

zip-insert : (ss : List ℕ) (rs : List Row) (k x : ℕ) (r : Row) → length rs ≡ length ss → k ≤ length ss → zip (insert ss k x) (insert rs k r) ≡ insert (zip ss rs) k (x, r)
zip-insert [] [] zero x r e le = refl
zip-insert [] [] (suc k) x r e le = absurd (omega arith)
zip-insert [] (q ∷ qs) k x r e le = absurd (omega arith)
zip-insert (s ∷ ss) [] k x r e le = absurd (omega arith)
zip-insert (s ∷ ss) (q ∷ qs) zero x r e le = refl
zip-insert (s ∷ ss) (q ∷ qs) (suc k) x r e le = ap (λ (ps : List Cut). (s, q) ∷ ps) (zip-insert ss qs k x r (omega arith) (omega arith))

zip-remove : (ss : List ℕ) (rs : List Row) (k : ℕ) → length rs ≡ length ss → zip (remove ss k) (remove rs k) ≡ remove (zip ss rs) k
zip-remove [] [] zero e = refl
zip-remove [] [] (suc k) e = refl
zip-remove [] (q ∷ qs) k e = absurd (omega arith)
zip-remove (s ∷ ss) [] k e = absurd (omega arith)
zip-remove (s ∷ ss) (q ∷ qs) zero e = refl
zip-remove (s ∷ ss) (q ∷ qs) (suc k) e = ap (λ (ps : List Cut). (s, q) ∷ ps) (zip-remove ss qs k (omega arith))

zip-set : (ss : List ℕ) (rs : List Row) (k : ℕ) (r : Row) → length rs ≡ length ss → k < length ss → zip ss (set rs k r) ≡ set (zip ss rs) k (get_or ss k 0, r)
zip-set [] rs k r e lt = absurd (omega arith)
zip-set (s ∷ ss) [] k r e lt = absurd (omega arith)
zip-set (s ∷ ss) (q ∷ qs) zero r e lt = refl
zip-set (s ∷ ss) (q ∷ qs) (suc k) r e lt = ap (λ (ps : List Cut). (s, q) ∷ ps) (zip-set ss qs k r (omega arith) (omega arith))

zip-map : (ss : List ℕ) (rs : List Row) (f : Row → Row) → zip ss (map f rs) ≡ map (λ (p : Cut). (p.0, f p.1)) (zip ss rs)
zip-map [] rs f = refl
zip-map (s ∷ ss) [] f = refl
zip-map (s ∷ ss) (r ∷ rs) f = ap (λ (ps : List Cut). (s, f r) ∷ ps) (zip-map ss rs f)

-- ---- the same of the line that both show

pub pieces_inserted : (ss ts : List ℕ) (rs qs : List Row) (k x : ℕ) (r row : Row) (line : List Cut) → length rs ≡ length ss → k ≤ length ss → zip ss rs ≡ line → ts ≡ insert ss k x → qs ≡ insert rs k row → row ≡ r
    → zip ts qs ≡ insert line k (x, r)
pieces_inserted ss ts rs qs k x r row line n le shown e f same = (λ i. zip (e i) (f i)) ∙ zip-insert ss rs k x row n le ∙ (λ i. insert (shown i) k (x, same i))

pub pieces_removed : (ss ts : List ℕ) (rs qs : List Row) (k : ℕ) (line : List Cut) → length rs ≡ length ss → zip ss rs ≡ line → ts ≡ remove ss k → qs ≡ remove rs k → zip ts qs ≡ remove line k
pieces_removed ss ts rs qs k line n shown e f = (λ i. zip (e i) (f i)) ∙ zip-remove ss rs k n ∙ (λ i. remove (shown i) k)

pub pieces_set : (ss : List ℕ) (rs qs : List Row) (k : ℕ) (r row : Row) (line : List Cut) → length rs ≡ length ss → k < length ss → zip ss rs ≡ line → starts line ≡ ss → qs ≡ set rs k row → row ≡ r
    → zip ss qs ≡ set line k (get_or (starts line) k 0, r)
pieces_set ss rs qs k r row line n lt shown own f same = (λ i. zip ss (f i)) ∙ zip-set ss rs k row n lt ∙ (λ i. set (shown i) k (get_or (sym own i) k 0, same i))

pub pieces_mapped : (ss : List ℕ) (rs qs : List Row) (f : Row → Row) (line : List Cut) → zip ss rs ≡ line → qs ≡ map f rs → zip ss qs ≡ map (λ (p : Cut). (p.0, f p.1)) line
pieces_mapped ss rs qs f line shown e = (λ i. zip ss (e i)) ∙ zip-map ss rs f ∙ (λ i. map (λ (p : Cut). (p.0, f p.1)) (shown i))

-- what was put in taken out again
pub remove-insert : {A : Type 0} (xs : List A) (i : ℕ) (y : A) → i ≤ length xs → remove (insert xs i y) i ≡ xs
remove-insert [] zero y le = refl
remove-insert [] (suc i) y le = absurd (omega arith)
remove-insert (x ∷ xs) zero y le = refl
remove-insert (x ∷ xs) (suc i) y le = ap (λ ys. x ∷ ys) (remove-insert xs i y (omega arith))

-- ---- A bit written into the rows of pieces side by side.

abbrev none : Cut
none = (0, [])

-- ---- the pieces of an interval

-- the piece at the place of a number where one starts is the one that starts there
place_starts : (top x i : ℕ) (line : List Cut) → IsRising top line → IsIn line x i → slice_index (starts line) i ≤ x → StartsAt x line → slice_index (starts line) i ≡ x
place_starts top x i line r h low s =
    elim (cases_lt (slice_index (starts line) i) x) [
      | inl lt ↦ absurd (no_piece_between top x line i r h.within lt h.high s)
      | inr ge ↦ omega arith
    ]

pub run_found : (top : ℕ) (s : Interval) (from last : ℕ) (line : List Cut) → IsRising top line → StartsAt s.first line → s.first ≤ s.last → IsIn line s.first from → slice_index (starts line) from ≤ s.first
    → IsIn line s.last last → slice_index (starts line) last ≤ s.last → IsRunIn s from (last + 1) line
run_found top s from last line r begins some a low b high =
    let here : slice_index (starts line) from ≡ s.first = place_starts top s.first from line r a low begins in
    let long : length (starts line) ≡ length line = length-map line (λ (c : Cut). c.0) in
    let order : from ≤ last = elim (cases_lt last from) [
      | inl lt ↦ (
          let up : slice_index (starts line) (last + 1) ≤ slice_index (starts line) from = rise_all top line (last + 1) from 0 r (omega arith) (omega (arith, a.within)) in
          absurd (omega (arith, b.high (omega (arith, a.within)))))
      | inr ge ↦ ge
    ] in
    record {
      some = omega arith;
      ends = omega (arith, b.within);
      start = here;
      below = λ j lt. omega (arith, rise_before top line j from r lt a.within);
      low = λ j ge lt. omega (arith, rise_all top line from j 0 r ge (omega arith));
      high = λ j lt. omega (arith, rise_all top line j last 0 r (omega arith) (omega (arith, b.within)));
      above = λ j ge lt. omega (arith, b.high (omega arith), rise_all top line (last + 1) j 0 r ge (omega arith));
    }

-- ---- a bit written in the rows of pieces side by side

zip_size : (ss : List ℕ) (rs : List Row) → length rs ≡ length ss → length (zip ss rs) ≡ length ss
zip_size ss rs e = sym (length-map (zip ss rs) (λ (p : Cut). p.0)) ∙ ap length (firsts-zip ss rs e)

zip_at : (ss : List ℕ) (rs : List Row) (j : ℕ) (d : Cut) → length rs ≡ length ss → j < length ss → get_or (zip ss rs) j d ≡ (get_or ss j d.0, get_or rs j [])
zip_at ss rs j d e lt = get_or-zip ss rs j d lt (omega arith) ∙ (λ i. (get_or ss j d.0, get_or_default rs j d.1 [] (omega arith) i))

-- where it is so written in the rows, the pieces show it
pub pieces_written : (at : ℕ) (bit : Bool) (from to : ℕ) (ss : List ℕ) (rs qs : List Row) (line : List Cut) → length rs ≡ length ss → zip ss rs ≡ line → from ≤ to → to ≤ length ss → AreRowsWritten at bit from to rs qs → IsRunWritten at bit from to line (zip ss qs)
pieces_written at bit from to ss rs qs line e shown order within h =
    let long : length qs ≡ length ss = h.as_long ∙ e in
    let P : List Cut → Type 0 = λ cs. IsRunWritten at bit from to cs (zip ss qs) in
    let same : (j : ℕ) (d : Cut) → j < length ss → get_or qs j [] ≡ get_or rs j [] → get_or (zip ss qs) j d ≡ get_or (zip ss rs) j d =
    λ j d lt is. zip_at ss qs j d long lt ∙ (λ i. (get_or ss j d.0, is i)) ∙ sym (zip_at ss rs j d e lt) in
    subst P shown (record {
      as_long = zip_size ss qs long ∙ sym (zip_size ss rs e);
      written = λ j d ge lt.
          zip_at ss qs j d long (omega arith) ∙ (λ i. (get_or ss j d.0, h.written j ge lt i)) ∙ ap (with_bit at (λ _. bit)) (sym (zip_at ss rs j d e (omega arith)));
      before = λ j d less. same j d (omega arith) (h.before j less);
      after = λ j d past. elim (cases_lt j (length ss)) [
        | inl lt ↦ same j d lt (h.after j past)
        | inr ge ↦ get_or-eq_default (zip ss qs) d (omega (arith, ge, zip_size ss qs long)) ∙ sym (get_or-eq_default (zip ss rs) d (omega (arith, ge, zip_size ss rs e)))
      ];
    })

start_kept : (at : ℕ) (bit : Bool) (from to : ℕ) (old new : List Cut) → IsRunWritten at bit from to old new → (j : ℕ) → (get_or new j none).0 ≡ (get_or old j none).0
start_kept at bit from to old new h j =
    let start : Cut → ℕ = λ p. p.0 in
    elim (cases_lt j from) [
      | inl less ↦ ap start (h.before j none less)
      | inr ge ↦ elim (cases_lt j to) [ inl lt ↦ ap start (h.written j none ge lt) | inr past ↦ ap start (h.after j none past) ]
    ]

long_kept : (at : ℕ) (bit : Bool) (from to : ℕ) (old new : List Cut) → IsRunWritten at bit from to old new → (j : ℕ) → length (get_or new j none).1 ≡ length (get_or old j none).1
long_kept at bit from to old new h j =
    let bits : Cut → ℕ = λ p. length p.1 in
    elim (cases_lt j from) [
      | inl less ↦ ap bits (h.before j none less)
      | inr ge ↦ elim (cases_lt j to) [ inl lt ↦ ap bits (h.written j none ge lt) ∙ length-set (get_or old j none).1 at bit | inr past ↦ ap bits (h.after j none past) ]
    ]

rising_as : (top a : ℕ) (old new : List Cut) → length new ≡ length old → ((j : ℕ) → (get_or new j none).0 ≡ (get_or old j none).0) → IsRisingFrom top a old → IsRisingFrom top a new
rising_as top a old [] e same r = tt
rising_as top a [] (q ∷ qs) e same r = absurd (omega arith)
rising_as top a (p ∷ ps) (q ∷ qs) e same r =
    let P : ℕ → Type 0 = λ x. IsRisingFrom top x ps in
    let here : q.0 ≡ p.0 = same 0 in
    (omega (arith, here, r.0), omega (arith, here, r.1), rising_as top q.0 ps qs (omega arith) (λ j. same (suc j)) (subst P (sym here) r.2))

each_as : (n : ℕ) (old new : List Cut) → length new ≡ length old → ((j : ℕ) → length (get_or new j none).1 ≡ length (get_or old j none).1) → EachRow n old → EachRow n new
each_as n old [] e same h = tt
each_as n [] (q ∷ qs) e same h = absurd (omega arith)
each_as n (p ∷ ps) (q ∷ qs) e same h = (same 0 ∙ h.0, each_as n ps qs (omega arith) (λ j. same (suc j)) h.1)

-- and they are a line as before
pub written_line : (at : ℕ) (bit : Bool) (from to n : ℕ) (l : PiecesAndRoom) (line : List Cut) → n ≡ l.room.places → IsRunWritten at bit from to l.pieces line → IsLine line n
written_line at bit from to n l line room h =
    go l.pieces line h.as_long (start_kept at bit from to l.pieces line h) (long_kept at bit from to l.pieces line h) l.stands.rising l.stands.rows l.stands.whole
  where
    go : (old new : List Cut) → length new ≡ length old → ((j : ℕ) → (get_or new j none).0 ≡ (get_or old j none).0) → ((j : ℕ) → length (get_or new j none).1 ≡ length (get_or old j none).1)
        → IsRising most_start old → EachRow (row_bits old) old → (row_bits old + l.room.places) % 64 ≡ 0 → IsLine new n
    go [] new e starts' longs r rows whole = absurd r
    go (p ∷ ps) [] e starts' longs r rows whole = absurd (omega arith)
    go (p ∷ ps) (q ∷ qs) e starts' longs r rows whole =
        let first : length q.1 ≡ length p.1 = longs 0 in
        let P : ℕ → Type 0 = λ m. EachRow m qs in
        record {
          rising = (starts' 0 ∙ r.0, rising_as most_start 0 ps qs (omega arith) (λ j. starts' (suc j)) r.1);
          rows = (refl, subst P (sym first) (each_as (length p.1) ps qs (omega arith) (λ j. longs (suc j)) rows.1));
          whole = omega (arith, first, room, whole);
        }

-- ---- what answers with written bits show

bits_long : (at : ℕ) (test : ℕ → Bool) (line : List Cut) → length (map (with_bit at test) line) ≡ length line
bits_long at test line = length-map line (with_bit at test)

pub bits_as_long : (at : ℕ) (test : ℕ → Bool) (line : List Cut) → row_bits (map (with_bit at test) line) ≡ row_bits line
bits_as_long at test [] = refl
bits_as_long at test (p ∷ ps) = length-set p.1 at (test p.0)

pub bits_start : (at x : ℕ) (test : ℕ → Bool) (line : List Cut) → StartsAt x line → StartsAt x (map (with_bit at test) line)
bits_start at x test [] s = s
bits_start at x test (p ∷ ps) s = elim s [ inl e ↦ inl e | inr t ↦ inr (bits_start at x test ps t) ]

-- the pieces start where they started
bits_start_of : (at j : ℕ) (test : ℕ → Bool) (line : List Cut) → j < length line → slice_index (starts (map (with_bit at test) line)) j ≡ (get_or line j none).0
bits_start_of at j test line lt =
    start_in (map (with_bit at test) line) j none (omega (arith, bits_long at test line)) ∙ ap (λ (p : Cut). p.0) (get_or-map (with_bit at test) line j none none lt)

pub start_was : (at : ℕ) (test : ℕ → Bool) (old now : List Cut) (j : ℕ) → now ≡ map (with_bit at test) old → j < length old → slice_index (starts now) j ≡ (get_or old j none).0
start_was at test old now j is lt = ap (λ (l : List Cut). slice_index (starts l) j) is ∙ bits_start_of at j test old lt

set_again : (bs : List Bool) (at : ℕ) (a b : Bool) → set (set bs at a) at b ≡ set bs at b
set_again [] at a b = refl
set_again (c ∷ cs) zero a b = refl
set_again (c ∷ cs) (suc at) a b = ap (λ (bs : List Bool). c ∷ bs) (set_again cs at a b)

-- one test's answers become another's where the bit is written, if elsewhere the two tests agree
pub bits_written : (at : ℕ) (bit : Bool) (from to : ℕ) (f g : ℕ → Bool) (old now new : List Cut) → now ≡ map (with_bit at f) old → IsRunWritten at bit from to now new
    → ((j : ℕ) → j < length old → from ≤ j → j < to → g (get_or old j none).0 ≡ bit)
    → ((j : ℕ) → j < length old → j < from → g (get_or old j none).0 ≡ f (get_or old j none).0)
    → ((j : ℕ) → j < length old → to ≤ j → g (get_or old j none).0 ≡ f (get_or old j none).0) → new ≡ map (with_bit at g) old
bits_written at bit from to f g old now new is h within before after =
    let long : length new ≡ length old = h.as_long ∙ ap (λ (l : List Cut). length l) is ∙ bits_long at f old in
    same_lists new (map (with_bit at g) old) (long ∙ sym (bits_long at g old)) (λ j d lt.
    (let in' : j < length old = omega arith in
    let p : Cut = get_or old j none in
    let was : get_or now j d ≡ with_bit at f p = ap (λ (l : List Cut). get_or l j d) is ∙ get_or-map (with_bit at f) old j none d in' in
    let goal : get_or (map (with_bit at g) old) j d ≡ with_bit at g p = get_or-map (with_bit at g) old j none d in' in
    let same : g p.0 ≡ f p.0 → with_bit at f p ≡ with_bit at g p = λ e. λ i. (p.0, set p.1 at (sym e i)) in
    elim (cases_lt j from) [
      | inl less ↦ h.before j d less ∙ was ∙ same (before j in' less) ∙ sym goal
      | inr ge ↦ elim (cases_lt j to) [
        | inl below ↦ (
            let row : set (set p.1 at (f p.0)) at bit ≡ set p.1 at (g p.0) = set_again p.1 at (f p.0) bit ∙ ap (λ (b : Bool). set p.1 at b) (sym (within j in' ge below)) in
            h.written j d ge below ∙ ap (with_bit at (λ _. bit)) was ∙ (λ i. (p.0, row i)) ∙ sym goal)
        | inr past ↦ h.after j d past ∙ was ∙ same (after j in' past) ∙ sym goal
      ]
    ]))
