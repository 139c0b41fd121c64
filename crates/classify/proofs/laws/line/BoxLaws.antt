-- A box put in or taken out leaves the line of the boxes as they are then.
use Rattle.fields.specs.declared.numbers.spans.Interval.{Interval}
use Rattle.classify.proofs.laws.line.ApartLaws.{cuts_behind}
use Rattle.std.proofs.Common.{◌≡◌, ℕ, suc, ◌+◌, ◌-◌, ◌<◌, ◌≤◌, Bool, List, [], ◌∷◌, ◌++◌, take, drop, refl, sym, ◌∙◌, ap, arith, subst, map}
use Rattle.std.specs.List.{insert, remove}
use Rattle.std.proofs.Math.ListN.{set}
use Rattle.std.proofs.lemmas.List.{map-append, take-map, drop-map, map-set}
use Rattle.std.proofs.lemmas.List.Edits.{length-insert, length-remove}
use Rattle.classify.specs.Line.{row_at, IsLineOf}
use Rattle.fields.specs.numbers.Spans.{has}
use Rattle.classify.specs.steps.Pieces.{CutsStart, piece_at, row_in, IsRising, Differ, IsSplitOf, row_bits}
use Rattle.classify.specs.steps.Kept.{PiecesAndRoom, IsSound}
use Rattle.classify.specs.steps.Edits.{IsMergeOf, with_answer, with_test, with_written, without_answer, Says}
use Rattle.classify.proofs.laws.line.StepLaws.{AreStepsOf, steps_from, says_from_steps, one_list_of_steps}
use Rattle.classify.proofs.laws.line.LineLaws.{AreSteps, line_from_steps, steps_from_line, cases_rows}
use Rattle.classify.proofs.laws.line.EditLaws.{rows_say, rows_rising, same_over_piece, row_in_first}
use Rattle.classify.proofs.laws.line.KeptLaws.{bits_said}

abbrev pub Cut : Type 0
Cut = ℕ × List Bool

abbrev Sets : Type 0
Sets = List (List Interval)

-- ---- a line that rises and differs is the steps of what it says

pub steps_of_line : (f : ℕ → List Bool) (top : ℕ) (line : List Cut) → IsRising top line → Differ line → ((x : ℕ) → x ≤ top → row_in line x ≡ f x) → AreSteps f top line
steps_of_line f top [] r n says = r
steps_of_line f top (d ∷ ps) r n says = steps_from f top d ps r.0 r.1 n (λ x le. sym (row_in_first d ps x r.0) ∙ says x le)

-- what a line of boxes says
pub says_from_line : (top : ℕ) (sets : Sets) (line : List Cut) → IsLineOf has top sets line → Says top sets line
says_from_line top sets [] h x le = absurd (steps_from_line has top sets [] h)
says_from_line top sets (d ∷ ps) h x le =
    let s : AreStepsOf (row_at has sets) top d ps = steps_from_line has top sets (d ∷ ps) h in
    row_in_first d ps x s.zero_first ∙ says_from_steps (row_at has sets) top d ps (cases_rows has sets) s x le

pub rising_from_line : (top : ℕ) (sets : Sets) (line : List Cut) → IsLineOf has top sets line → IsRising top line
rising_from_line top sets [] h = steps_from_line has top sets [] h
rising_from_line top sets (d ∷ ps) h = let s : AreStepsOf (row_at has sets) top d ps = steps_from_line has top sets (d ∷ ps) h in (s.zero_first, s.rising)

pub line_from_merge : (top : ℕ) (sets : Sets) (old new : List Cut) → IsMergeOf top old new → Says top sets old → IsLineOf has top sets new
line_from_merge top sets old new h says =
    line_from_steps has top sets new (steps_of_line (row_at has sets) top new h.rising h.differ (λ x le. h.same x ∙ says x le))

-- a line cut and joined again is the line that it was
pub same_after_merge : (top : ℕ) (spans : List Interval) (old now new : List Cut) → IsRising top old → Differ old → IsSplitOf top spans old now → IsMergeOf top now new → new ≡ old
same_after_merge top spans [] now new r n s m = absurd r
same_after_merge top spans (d ∷ ps) now [] r n s m = absurd m.rising
same_after_merge top spans (d ∷ ps) now (e ∷ qs) r n s m =
    let f : ℕ → List Bool = row_in (d ∷ ps) in
    one_list_of_steps f top e d qs ps
    (steps_of_line f top (e ∷ qs) m.rising m.differ (λ x le. m.same x ∙ s.same x))
    (steps_of_line f top (d ∷ ps) r n (λ x le. refl))

-- what a line says when a function is applied to each row
pub row_in-map : (f : List Bool → List Bool) (top : ℕ) (line : List Cut) (x : ℕ) → IsRising top line → row_in (map (λ p. (p.0, f p.1)) line) x ≡ f (row_in line x)
row_in-map f top [] x r = absurd r
row_in-map f top (d ∷ ps) x r =
    row_in_first (d.0, f d.1) (map (λ p. (p.0, f p.1)) ps) x r.0 ∙ ap (λ (p : Cut). p.1) (rows_say (λ p. f p.1) d ps x) ∙ ap f (sym (row_in_first d ps x r.0))

-- ---- a box put in

row-insert : (sets : Sets) (at : ℕ) (s : List Interval) (x : ℕ) → row_at has (insert sets at s) x ≡ insert (row_at has sets x) at (has s x)
row-insert sets at s x =
    map-append (λ t. has t x) (take at sets) (s ∷ drop at sets)
    ∙ ap (λ (bs : List Bool). bs ++ has s x ∷ map (λ t. has t x) (drop at sets)) (sym (take-map (λ t. has t x) at sets))
    ∙ ap (λ (bs : List Bool). take at (row_at has sets x) ++ has s x ∷ bs) (sym (drop-map (λ t. has t x) at sets))

row-remove : (sets : Sets) (at : ℕ) (x : ℕ) → row_at has (remove sets at) x ≡ remove (row_at has sets x) at
row-remove sets at x =
    map-append (λ t. has t x) (take at sets) (drop (suc at) sets)
    ∙ ap (λ (bs : List Bool). bs ++ map (λ t. has t x) (drop (suc at) sets)) (sym (take-map (λ t. has t x) at sets))
    ∙ ap (λ (bs : List Bool). take at (row_at has sets x) ++ bs) (sym (drop-map (λ t. has t x) (suc at) sets))

pub answers_say : (top at : ℕ) (s : List Interval) (sets : Sets) (line : List Cut) → IsRising top line → CutsStart top s line → Says top sets line
    → Says top (insert sets at s) (map (with_answer at s) line)
answers_say top at s sets [] r c says x le = absurd r
answers_say top at s sets (d ∷ ps) r c says x le =
    let g : Cut → List Bool = λ p. insert p.1 at (has s p.0) in
    let alike : has s (piece_at d ps x).0 ≡ has s x = same_over_piece (has s) top d ps r.0 r.1 (cuts_behind top s d ps r.0 c) x le in
    row_in_first (with_answer at s d) (map (with_answer at s) ps) x r.0
    ∙ ap (λ (p : Cut). p.1) (rows_say g d ps x)
    ∙ ap (λ (b : Bool). insert (piece_at d ps x).1 at b) alike
    ∙ ap (λ (bs : List Bool). insert bs at (has s x)) (sym (row_in_first d ps x r.0) ∙ says x le)
    ∙ sym (row-insert sets at s x)

pub tests_rising : (top at : ℕ) (test : ℕ → Bool) (line : List Cut) → IsRising top line → IsRising top (map (with_test at test) line)
tests_rising top at test [] r = r
tests_rising top at test (d ∷ ps) r = (r.0, rows_rising top 0 (λ p. insert p.1 at (test p.0)) ps r.1)

pub answers_rising : (top at : ℕ) (s : List Interval) (line : List Cut) → IsRising top line → IsRising top (map (with_answer at s) line)
answers_rising top at s line r = tests_rising top at (has s) line r

-- ---- a box in the place of another

pub written_say : (top at : ℕ) (s : List Interval) (sets : Sets) (line : List Cut) → IsRising top line → CutsStart top s line → Says top sets line
    → Says top (set sets at s) (map (with_written at s) line)
written_say top at s sets [] r c says x le = absurd r
written_say top at s sets (d ∷ ps) r c says x le =
    let g : Cut → List Bool = λ p. set p.1 at (has s p.0) in
    let alike : has s (piece_at d ps x).0 ≡ has s x = same_over_piece (has s) top d ps r.0 r.1 (cuts_behind top s d ps r.0 c) x le in
    row_in_first (with_written at s d) (map (with_written at s) ps) x r.0
    ∙ ap (λ (p : Cut). p.1) (rows_say g d ps x)
    ∙ ap (λ (b : Bool). set (piece_at d ps x).1 at b) alike
    ∙ ap (λ (bs : List Bool). set bs at (has s x)) (sym (row_in_first d ps x r.0) ∙ says x le)
    ∙ sym (map-set (λ t. has t x) sets at s)

pub written_rising : (top at : ℕ) (s : List Interval) (line : List Cut) → IsRising top line → IsRising top (map (with_written at s) line)
written_rising top at s [] r = r
written_rising top at s (d ∷ ps) r = (r.0, rows_rising top 0 (λ p. set p.1 at (has s p.0)) ps r.1)

-- ---- a box taken out

pub without_say : (top at : ℕ) (sets : Sets) (line : List Cut) → IsRising top line → Says top sets line → Says top (remove sets at) (map (without_answer at) line)
without_say top at sets [] r says x le = absurd r
without_say top at sets (d ∷ ps) r says x le =
    row_in_first (without_answer at d) (map (without_answer at) ps) x r.0
    ∙ ap (λ (p : Cut). p.1) (rows_say (λ p. remove p.1 at) d ps x)
    ∙ ap (λ (bs : List Bool). remove bs at) (sym (row_in_first d ps x r.0) ∙ says x le)
    ∙ sym (row-remove sets at x)

pub without_rising : (top at : ℕ) (line : List Cut) → IsRising top line → IsRising top (map (without_answer at) line)
without_rising top at [] r = r
without_rising top at (d ∷ ps) r = (r.0, rows_rising top 0 (λ p. remove p.1 at) ps r.1)

-- ---- how long the rows are

pub longer : (top at : ℕ) (s : List Interval) (line : List Cut) → IsRising top line → at ≤ row_bits line → row_bits (map (with_answer at s) line) ≡ row_bits line + 1
longer top at s [] r le = absurd r
longer top at s (p ∷ ps) r le = omega (arith, length-insert p.1 at (has s p.0) le)

pub shorter : (at : ℕ) (line : List Cut) → at < row_bits line → row_bits (map (without_answer at) line) ≡ row_bits line - 1
shorter at [] lt = absurd (omega arith)
shorter at (p ∷ ps) lt = omega (arith, length-remove p.1 at lt)

pub sound_from_merge : (n top : ℕ) (old : List Cut) (new : PiecesAndRoom) → IsRising top old → row_bits old ≡ n → IsMergeOf top old new.pieces → IsSound top n new
sound_from_merge n top old new r h m = record { rising = m.rising; differ = m.differ; bits = bits_said top old new.pieces r m.rising m.same ∙ h }

-- ---- no box at all

pub empty_line : {B : Type 0} (allows : B → ℕ → Bool) (top : ℕ) → IsLineOf allows top [] ((0, []) ∷ [])
empty_line allows top = line_from_steps allows top [] ((0, []) ∷ []) (steps_of_line (row_at allows []) top ((0, []) ∷ []) (refl, tt) tt (λ x le. row_in_first (0, []) [] x refl))

pub empty_sound : (top : ℕ) (l : PiecesAndRoom) → l.pieces ≡ (0, []) ∷ [] → IsSound top 0 l
empty_sound top l e =
    let P : List Cut → Type 0 = λ line. IsRising top line × Differ line × (row_bits line ≡ 0) in
    let h = subst P (sym e) ((refl, tt), tt, refl) in
    record { rising = h.0; differ = h.1; bits = h.2 }
