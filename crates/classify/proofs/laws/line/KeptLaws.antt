-- What an edit of a line as it is kept leaves: starts that rise from 0, rows of one length, and whole words.
use Rattle.std.proofs.Common.{◌≡◌, ℕ, zero, suc, ◌+◌, ◌-◌, ◌<◌, ◌≤◌, ◌%◌, Bool, true, false, cond, List, [], ◌∷◌, length, refl, sym, ◌∙◌, ap, arith, subst, map}
use Rattle.std.specs.List.{insert, remove}
use Rattle.std.specs.Prelude.{slice_index}
use Rattle.std.proofs.Math.Dec.{leb}
use Rattle.std.proofs.Math.ListN.{set}
use Rattle.bits.specs.MarginRows.{Room}
use Rattle.classify.specs.Line.{starts}
use Rattle.classify.specs.steps.Pieces.{piece_at, IsRisingFrom, IsRising, EachRow, SayTheSame, row_bits, row_in}
use Rattle.classify.specs.steps.Edits.{row_of}
use Rattle.classify.specs.steps.Kept.{IsLine, PiecesAndRoom, most_start, line_prop}
use Rattle.classify.proofs.laws.line.EditLaws.{Cut, IsIn, row_in_first, split_done}
use Rattle.classify.proofs.laws.line.StepLaws.{before_all}
use Rattle.classify.proofs.laws.line.ApartLaws.{begins_at, begins_there}
use Rattle.classify.proofs.laws.line.LoopLaws.{merge_line_rising}

-- a line has a piece
pub some_piece : (l : PiecesAndRoom) → 0 < length l.pieces
some_piece l = go l.pieces l.stands.rising
  where
    go : (line : List Cut) → IsRising most_start line → 0 < length line
    go [] r = absurd r
    go (p ∷ ps) r = omega arith

-- ---- how long the rows are

long_at : (n : ℕ) (line : List Cut) (j : ℕ) → EachRow n line → j < length line → length (row_of line j) ≡ n
long_at n [] j h lt = absurd (omega arith)
long_at n (p ∷ ps) zero h lt = h.0
long_at n (p ∷ ps) (suc j) h lt = long_at n ps j h.1 (omega arith)

-- each row has as many bits as the first
pub row_long : (l : PiecesAndRoom) (k : ℕ) → k < length l.pieces → length (row_of l.pieces k) ≡ row_bits l.pieces
row_long l k lt = long_at (row_bits l.pieces) l.pieces k l.stands.rows lt

rows_said : (n : ℕ) (d : Cut) (ps : List Cut) (x : ℕ) → length d.1 ≡ n → EachRow n ps → length (piece_at d ps x).1 ≡ n
rows_said n d [] x h hs = h
rows_said n d (p ∷ ps) x h hs =
    let P : Cut → Type 0 = λ q. length q.1 ≡ n in
    let here : P (cond (leb p.0 x) p d) = elim (leb p.0 x) as (λ (b : Bool). P (cond b p d)) [ true ↦ hs.0 | false ↦ h ] in
    rows_said n (cond (leb p.0 x) p d) ps x here hs.1

-- and so has what the line says of each number
pub said_long : (l : PiecesAndRoom) (x : ℕ) → length (row_in l.pieces x) ≡ row_bits l.pieces
said_long l x = go l.pieces l.stands.rising l.stands.rows
  where
    go : (line : List Cut) → IsRising most_start line → EachRow (row_bits line) line → length (row_in line x) ≡ row_bits line
    go [] r rows = absurd r
    go (d ∷ ps) r rows = ap (λ (bs : List Bool). length bs) (row_in_first d ps x r.0) ∙ rows_said (length d.1) d ps x refl rows.1

-- lines that say the same have rows of one length
pub bits_said : (top : ℕ) (old new : List Cut) → IsRising top old → IsRising top new → SayTheSame old new → row_bits new ≡ row_bits old
bits_said top [] new r t s = absurd r
bits_said top (d ∷ ps) [] r t s = absurd t
bits_said top (d ∷ ps) (e ∷ qs) r t s =
    let old : row_in (d ∷ ps) 0 ≡ d.1 = row_in_first d ps 0 r.0 ∙ ap (λ (p : Cut). p.1) (before_all top 0 d ps 0 r.1 (omega arith)) in
    let new : row_in (e ∷ qs) 0 ≡ e.1 = row_in_first e qs 0 t.0 ∙ ap (λ (p : Cut). p.1) (before_all top 0 e qs 0 t.1 (omega arith)) in
    ap (λ (bs : List Bool). length bs) (sym new ∙ s 0 ∙ old)

-- ---- a function applied to each row

rows_from : (f : List Bool → List Bool) (top a : ℕ) (ps : List Cut) → IsRisingFrom top a ps → IsRisingFrom top a (map (λ p. (p.0, f p.1)) ps)
rows_from f top a [] r = r
rows_from f top a (p ∷ ps) r = (r.0, r.1, rows_from f top p.0 ps r.2)

each_mapped : (f : List Bool → List Bool) (n m : ℕ) (ps : List Cut) → ((bs : List Bool) → length bs ≡ n → length (f bs) ≡ m) → EachRow n ps → EachRow m (map (λ p. (p.0, f p.1)) ps)
each_mapped f n m [] h rows = tt
each_mapped f n m (p ∷ ps) h rows = (h p.1 rows.0, each_mapped f n m ps h rows.1)

pub mapped_line : (f : List Bool → List Bool) (m room : ℕ) (l : PiecesAndRoom) → ((bs : List Bool) → length bs ≡ row_bits l.pieces → length (f bs) ≡ m) → (m + room) % 64 ≡ 0
    → (line : List Cut) → line ≡ map (λ p. (p.0, f p.1)) l.pieces → IsLine line room
mapped_line f m room l long whole line is =
    let P : List Cut → Type 0 = λ cs. IsLine cs room in
    subst P (sym is) (go l.pieces l.stands.rising l.stands.rows long)
  where
    go : (ps : List Cut) → IsRising most_start ps → EachRow (row_bits ps) ps → ((bs : List Bool) → length bs ≡ row_bits ps → length (f bs) ≡ m) → IsLine (map (λ p. (p.0, f p.1)) ps) room
    go [] r rows len = absurd r
    go (p ∷ ps) r rows len =
        let first : length (f p.1) ≡ m = len p.1 refl in
        let Q : ℕ → Type 0 = λ n. EachRow n (map (λ q. (q.0, f q.1)) ps) in
        record { rising = (r.0, rows_from f most_start 0 ps r.1); rows = (refl, subst Q (sym first) (each_mapped f (length p.1) m ps len rows.1)); whole = omega (arith, first, whole) }

-- ---- one row, or one piece

each_set : (n k : ℕ) (p : Cut) (ps : List Cut) → length p.1 ≡ n → EachRow n ps → EachRow n (set ps k p)
each_set n k p [] e h = tt
each_set n zero p (q ∷ ps) e h = (e, h.1)
each_set n (suc k) p (q ∷ ps) e h = (h.0, each_set n k p ps e h.1)

set_from : (top a k : ℕ) (row : List Bool) (ps : List Cut) → k < length ps → IsRisingFrom top a ps → IsRisingFrom top a (set ps k (slice_index (starts ps) k, row))
set_from top a k row [] lt r = absurd (omega arith)
set_from top a zero row (p ∷ ps) lt r = r
set_from top a (suc k) row (p ∷ ps) lt r = (r.0, r.1, set_from top p.0 k row ps (omega arith) r.2)

set_bits : (k : ℕ) (p : Cut) (line : List Cut) → length p.1 ≡ row_bits line → row_bits (set line k p) ≡ row_bits line
set_bits k p [] e = refl
set_bits zero p (q ∷ ps) e = e
set_bits (suc k) p (q ∷ ps) e = refl

set_rising : (top k : ℕ) (row : List Bool) (line : List Cut) → k < length line → IsRising top line → IsRising top (set line k (slice_index (starts line) k, row))
set_rising top k row [] lt r = absurd r
set_rising top zero row (p ∷ ps) lt r = r
set_rising top (suc k) row (p ∷ ps) lt r = (r.0, set_from top 0 k row ps (omega arith) r.1)

-- a row of the same length in the place of another
pub set_line : (l : PiecesAndRoom) (k n : ℕ) (row : List Bool) → k < length l.pieces → length row ≡ row_bits l.pieces → n ≡ l.room.places → (line : List Cut) → line ≡ set l.pieces k (slice_index (starts l.pieces) k, row)
    → IsLine line n × (row_bits line ≡ row_bits l.pieces)
set_line l k n row lt e room line is =
    let p : Cut = (slice_index (starts l.pieces) k, row) in
    let same : row_bits (set l.pieces k p) ≡ row_bits l.pieces = set_bits k p l.pieces e in
    let P : List Cut → Type 0 = λ cs. IsLine cs n × (row_bits cs ≡ row_bits l.pieces) in
    let Q : ℕ → Type 0 = λ m. EachRow m (set l.pieces k p) in
    subst P (sym is) (record { rising = set_rising most_start k row l.pieces lt l.stands.rising; rows = subst Q (sym same) (each_set (row_bits l.pieces) k p l.pieces e l.stands.rows); whole = omega (arith, same, room, l.stands.whole) }, same)

each_insert : (n k : ℕ) (p : Cut) (ps : List Cut) → length p.1 ≡ n → EachRow n ps → EachRow n (insert ps k p)
each_insert n zero p [] e h = (e, tt)
each_insert n (suc k) p [] e h = (e, tt)
each_insert n zero p (q ∷ ps) e h = (e, h)
each_insert n (suc k) p (q ∷ ps) e h = (h.0, each_insert n k p ps e h.1)

-- a piece cut at a number
pub split_kept : (l : PiecesAndRoom) (k x n : ℕ) → k < length l.pieces → slice_index (starts l.pieces) k < x → (k + 1 < length l.pieces → x < slice_index (starts l.pieces) (k + 1)) → x ≤ most_start → n ≡ l.room.places
    → (line : List Cut) → line ≡ insert l.pieces (k + 1) (x, row_of l.pieces k) → IsLine line n
split_kept l k x n lt above below le room line is =
    let h : IsIn l.pieces x k = record { within = lt; high = below } in
    let p : Cut = (x, row_of l.pieces k) in
    let split = split_done l.pieces line x k h above is most_start (begins_at x) le (begins_there x) l.stands.rising in
    let same : row_bits line ≡ row_bits l.pieces = bits_said most_start l.pieces line l.stands.rising split.rising split.same in
    let P : List Cut → Type 0 = λ cs. EachRow (row_bits l.pieces) cs in
    let Q : ℕ → Type 0 = λ m. EachRow m line in
    record { rising = split.rising; rows = subst Q (sym same) (subst P (sym is) (each_insert (row_bits l.pieces) (k + 1) p l.pieces (row_long l k lt) l.stands.rows)); whole = omega (arith, same, room, l.stands.whole) }

each_left : (n k : ℕ) (ps : List Cut) → EachRow n ps → EachRow n (remove ps k)
each_left n zero [] h = tt
each_left n (suc k) [] h = tt
each_left n zero (p ∷ ps) h = h.1
each_left n (suc k) (p ∷ ps) h = (h.0, each_left n k ps h.1)

pub bits_left : (j : ℕ) (line : List Cut) → row_bits (remove line (suc j)) ≡ row_bits line
bits_left j [] = refl
bits_left j (p ∷ ps) = refl

-- a piece taken out, which is not the first
pub left_kept : (l : PiecesAndRoom) (k n : ℕ) → 0 < k → n ≡ l.room.places → (line : List Cut) → line ≡ remove l.pieces k → IsLine line n
left_kept l k n later room line is =
    let back : k ≡ suc (k - 1) = omega arith in
    let P : List Cut → Type 0 = λ cs. IsLine cs n in
    let same : row_bits (remove l.pieces (suc (k - 1))) ≡ row_bits l.pieces = bits_left (k - 1) l.pieces in
    let Q : ℕ → Type 0 = λ m. EachRow m (remove l.pieces (suc (k - 1))) in
    subst P (sym (is ∙ ap (λ j. remove l.pieces j) back))
    (record { rising = merge_line_rising most_start l.pieces (k - 1) l.stands.rising; rows = subst Q (sym same) (each_left (row_bits l.pieces) (suc (k - 1)) l.pieces l.stands.rows); whole = omega (arith, same, room, l.stands.whole) })

-- the same pieces
pub same_kept : (l : PiecesAndRoom) (n : ℕ) → n % 64 ≡ l.room.places % 64 → (line : List Cut) → line ≡ l.pieces → IsLine line n
same_kept l n room line is =
    let P : List Cut → Type 0 = λ cs. IsLine cs n in
    subst P (sym is) (record { rising = l.stands.rising; rows = l.stands.rows; whole = omega (arith, room, l.stands.whole) })

-- the line of no box
pub empty_kept : (n : ℕ) → n % 64 ≡ 0 → (line : List Cut) → line ≡ (0, []) ∷ [] → IsLine line n
empty_kept n room line is =
    let P : List Cut → Type 0 = λ cs. IsLine cs n in
    subst P (sym is) (record { rising = (refl, tt); rows = (refl, tt); whole = omega (arith, room) })

-- lines with equal pieces and room are equal
pub same_line : (l m : PiecesAndRoom) → l.pieces ≡ m.pieces → l.room ≡ m.room → l ≡ m
same_line l m pieces room =
    let P : List Cut × Room → Type 0 = λ d. (s : IsLine d.0 d.1.places) → (let k : PiecesAndRoom = record { pieces = d.0; room = d.1; stands = s } in l ≡ k) in
    subst P (λ i. (pieces i, room i)) (λ s i. record { pieces = l.pieces; room = l.room; stands = line_prop l.pieces l.room.places l.stands s i }) m.stands
