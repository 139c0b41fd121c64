-- The lines of all fields are the classifier of the boxes, and its room is the least of all its lines.
use Rattle.std.proofs.Common.{◌≡◌, ℕ, zero, suc, ◌+◌, ◌-◌, ◌<◌, ◌≤◌, Bool, List, [], ◌∷◌, ◌++◌, length, take, drop, get_or, refl, sym, ◌∙◌, ap, arith, subst, map, ◌≢◌, ◌%◌}
use Rattle.std.specs.Prelude.{slice_index, Result, Ok, Err, OnErr}
use Rattle.std.specs.Borrow.{Bor}
use Rattle.std.specs.List.{insert, remove, range_with_len}
use Rattle.std.proofs.lemmas.List.{map-append, take-map, drop-map, get_or_default, get_or-map, map-set, length-map, length-set}
use Rattle.std.proofs.Math.ListN.{set}
use Rattle.std.proofs.lemmas.List.Edits.{length-insert, length-remove}
use Rattle.std.proofs.lemmas.List.Elements.{All-nil, All-cons, All-head, All-tail}
use Rattle.fields.specs.declared.numbers.field.TheConstants.{FIELDS}
use Rattle.fields.specs.declared.numbers.field.TheConstants.Field.{ALL}
use Rattle.fields.specs.declared.numbers.field.Field.{Field}
use Rattle.fields.specs.declared.numbers.spans.Interval.{Interval}
use Rattle.fields.specs.numbers.Field.{all_fields, index, top}
use Rattle.fields.specs.numbers.Spans.{SpanSet, has}
use Rattle.rules.specs.Boxed.{IsBox, set_on}
use Rattle.rules.proofs.laws.BoxLaws.{index-lt, box_long}
use Rattle.bits.specs.MarginRows.{Room}
use Rattle.rules.proofs.laws.BoxLaws as box_laws
use Rattle.classify.specs.Line.{row_at, IsLineOf}
use Rattle.classify.specs.steps.Pieces.{CutsStart, IsRising, Differ, row_bits}
use Rattle.classify.specs.steps.Fields.{shown_line, tops, HaveOneMargin, IsKept, most_boxes, LosesBox, shown_by, room_of_lines, room_beside, EachLine, EachEdit, HasSameRoom, KeepsRoom, UsesRoom, FreesRoom, FreesAll, TakesPlace, LeavesPlace}
use Rattle.classify.specs.Classifier.{box_allows, line_on, IsClassifierOf, HasNoNewCut, ClassifiedAndRoom}
use Rattle.classify.specs.steps.Kept.{PiecesAndRoom, IsSound}
use Rattle.classify.proofs.laws.line.BoxLaws.{empty_line, empty_sound}
use Rattle.classify.proofs.laws.line.LineLaws.{AreSteps, line_from_steps, steps_from_line, starts_from_test}

-- ---- The lines of all fields are the classifier of the boxes.

-- ---- fields and their places

places_found : (fs : List Field) (low : ℕ) → map index fs ≡ range_with_len low (length fs) → (k : ℕ) → k < length fs → (field : Field) × (index field ≡ low + k)
places_found [] low e k lt = absurd (omega arith)
places_found (f ∷ fs) low e zero lt = let z : low + 0 ≡ low = omega arith in (f, (let h : index f ≡ low = cc in h ∙ sym z))
places_found (f ∷ fs) low e (suc k) lt =
    let t : map index fs ≡ range_with_len (low + 1) (length fs) = cc in
    let r = places_found fs (low + 1) t k (omega arith) in
    (r.0, omega (arith, r.1))

-- each place is that of a field
pub field_at : (k : ℕ) → k < FIELDS → (field : Field) × (index field ≡ k)
field_at k lt = let r = places_found ALL 0 refl k lt in (r.0, omega (arith, r.1))

pub top_at : (field : Field) → slice_index tops (index field) ≡ top field
unfolding tops
top_at field = box_laws.top_at field

-- the same by a field's place, for the crates above
pub tops_at : (k : ℕ) (d : Field) → k < FIELDS → slice_index tops k ≡ top (get_or ALL k d)
unfolding tops
tops_at k d lt = get_or-map top ALL k d 0 lt

-- the sets of a box have the fields' tops
pub box_tops : (spans : List SpanSet) → IsBox spans → (k : ℕ) (s : SpanSet) → k < FIELDS → (get_or spans k s).top ≡ slice_index tops k
unfolding tops
box_tops spans h k s lt = box_laws.box_tops spans h k s lt

-- ---- boxes on one field are their sets

pub row_of_sets : (field : Field) (boxes : List (List SpanSet)) (x : ℕ) → row_at (λ box y. box_allows box field y) boxes x ≡ row_at has (map (set_on field) boxes) x
row_of_sets field [] x = refl
row_of_sets field (b ∷ bs) x = ap (λ (r : List Bool). box_allows b field x ∷ r) (row_of_sets field bs x)

rows_of_sets : (field : Field) (boxes : List (List SpanSet)) → row_at (λ box y. box_allows box field y) boxes ≡ row_at has (map (set_on field) boxes)
rows_of_sets field boxes = λ i x. row_of_sets field boxes x i

pub line_of_sets : (field : Field) (top : ℕ) (boxes : List (List SpanSet)) (line : List (ℕ × List Bool)) → IsLineOf (λ box y. box_allows box field y) top boxes line → IsLineOf has top (map (set_on field) boxes) line
line_of_sets field top boxes line h =
    let P : (ℕ → List Bool) → Type 0 = λ f. AreSteps f top line in
    line_from_steps has top (map (set_on field) boxes) line (subst P (rows_of_sets field boxes) (steps_from_line (λ box y. box_allows box field y) top boxes line h))

pub line_of_boxes : (field : Field) (top : ℕ) (boxes : List (List SpanSet)) (line : List (ℕ × List Bool)) → IsLineOf has top (map (set_on field) boxes) line → IsLineOf (λ box y. box_allows box field y) top boxes line
line_of_boxes field top boxes line h =
    let P : (ℕ → List Bool) → Type 0 = λ f. AreSteps f top line in
    line_from_steps (λ box y. box_allows box field y) top boxes line (subst P (sym (rows_of_sets field boxes)) (steps_from_line has top (map (set_on field) boxes) line h))

pub sets-insert : (field : Field) (boxes : List (List SpanSet)) (at : ℕ) (b : List SpanSet) → map (set_on field) (insert boxes at b) ≡ insert (map (set_on field) boxes) at (set_on field b)
sets-insert field boxes at b =
    map-append (set_on field) (take at boxes) (b ∷ drop at boxes)
    ∙ ap (λ (ss : List (List Interval)). ss ++ set_on field b ∷ map (set_on field) (drop at boxes)) (sym (take-map (set_on field) at boxes))
    ∙ ap (λ (ss : List (List Interval)). take at (map (set_on field) boxes) ++ set_on field b ∷ ss) (sym (drop-map (set_on field) at boxes))

-- ---- the lines at their places

abbrev pub no_set : SpanSet
no_set = record { top = 0; intervals = [] }

-- the line of a field, whatever stands for one past the end
pub line_at : (lines : List PiecesAndRoom) (k : ℕ) → k < length lines → (l : PiecesAndRoom) × ((get_or (map shown_line lines) k [] ≡ shown_line l) × ((d : PiecesAndRoom) → get_or lines k d ≡ l))
line_at [] k lt = absurd (omega arith)
line_at (m ∷ ms) zero lt = (m, (refl, λ d. refl))
line_at (m ∷ ms) (suc k) lt = line_at ms k (omega arith)

pub shown_at_place : (lines : List PiecesAndRoom) (k : ℕ) (d : PiecesAndRoom) → k < length lines → get_or (map shown_line lines) k [] ≡ shown_line (get_or lines k d)
shown_at_place lines k d lt = let a = line_at lines k lt in a.1.0 ∙ ap shown_line (sym (a.1.1 d))

fields_long : (lines : List PiecesAndRoom) → length lines ≡ FIELDS → length (map shown_line lines) ≡ length all_fields
fields_long lines n = length-map lines shown_line ∙ n

-- what an edit of every line makes of the classifier, where it makes on each field the line of the boxes as they are then
pub classifier_after : (old new : List PiecesAndRoom) (boxes after : List (List SpanSet)) (len then : ℕ) → length old ≡ FIELDS → length new ≡ length old → then ≡ length after
    → ((field : Field) (l : PiecesAndRoom) → IsLineOf has (slice_index tops (index field)) (map (set_on field) boxes) (shown_line (get_or old (index field) l))
    → IsLineOf has (slice_index tops (index field)) (map (set_on field) after) (shown_line (get_or new (index field) l)))
    → IsClassifierOf boxes (record { len = len; lines = map shown_line old })
    → IsClassifierOf after (record { len = then; lines = map shown_line new })
classifier_after old new boxes after len then n m size step h =
    record {
      len = size;
      fields = fields_long new (m ∙ n);
      lines = λ field.
          (let lt : index field < length old = omega (arith, index-lt field) in
          let lt' : index field < length new = omega arith in
          let a = line_at old (index field) lt in
          let P : ℕ → Type 0 = λ t. IsLineOf has t (map (set_on field) boxes) (shown_line (get_or old (index field) a.0)) in
          let Q : List (ℕ × List Bool) → Type 0 = λ line. IsLineOf has (top field) (map (set_on field) boxes) line in
          let before = subst P (sym (top_at field)) (subst Q (shown_at_place old (index field) a.0 lt) (line_of_sets field (top field) boxes (line_on field (record { len = len; lines = map shown_line old })) (h.lines field))) in
          let R : ℕ → Type 0 = λ t. IsLineOf has t (map (set_on field) after) (shown_line (get_or new (index field) a.0)) in
          let S : List (ℕ × List Bool) → Type 0 = λ line. IsLineOf has (top field) (map (set_on field) after) line in
          line_of_boxes field (top field) after (line_on field (record { len = then; lines = map shown_line new }))
          (subst S (sym (shown_at_place new (index field) a.0 lt')) (subst R (top_at field) (step field a.0 before))));
    }

pub classifier_with : (old new : List PiecesAndRoom) (spans box : List SpanSet) (boxes : List (List SpanSet)) (len at : ℕ) → length old ≡ FIELDS → length new ≡ length old → spans ≡ box → IsBox box → at ≤ len
    → ((k : ℕ) (s : SpanSet) (l : PiecesAndRoom) → k < length old → (sets : List (List Interval)) → IsLineOf has (get_or spans k s).top sets (shown_line (get_or old k l))
    → IsLineOf has (get_or spans k s).top (insert sets at (get_or spans k s).intervals) (shown_line (get_or new k l)))
    → IsClassifierOf boxes (record { len = len; lines = map shown_line old })
    → IsClassifierOf (insert boxes at box) (record { len = len + 1; lines = map shown_line new })
classifier_with old new spans box boxes len at n m same whole le step h =
    let in' : at ≤ length boxes = omega (arith, h.len) in
    classifier_after old new boxes (insert boxes at box) len (len + 1) n m (omega (arith, h.len, length-insert boxes at box in'))
    (λ field l before.
    (let lt : index field < length old = omega (arith, index-lt field) in
    let e : (get_or spans (index field) no_set).top ≡ slice_index tops (index field) = ap (λ (ss : List SpanSet). (get_or ss (index field) no_set).top) same ∙ box_tops box whole (index field) no_set (index-lt field) in
    let T : ℕ → Type 0 = λ t. IsLineOf has t (map (set_on field) boxes) (shown_line (get_or old (index field) l)) in
    let U : ℕ → Type 0 = λ t. IsLineOf has t (insert (map (set_on field) boxes) at (set_on field spans)) (shown_line (get_or new (index field) l)) in
    let V : List (List Interval) → Type 0 = λ ss. IsLineOf has (slice_index tops (index field)) ss (shown_line (get_or new (index field) l)) in
    subst V (ap (λ (ss : List SpanSet). insert (map (set_on field) boxes) at (set_on field ss)) same ∙ sym (sets-insert field boxes at box))
    (subst U e (step (index field) no_set l lt (map (set_on field) boxes) (subst T (sym e) before))))) h

pub classifier_written : (old new : List PiecesAndRoom) (spans box : List SpanSet) (boxes : List (List SpanSet)) (len at : ℕ) → length old ≡ FIELDS → length new ≡ length old → spans ≡ box → IsBox box
    → ((k : ℕ) (s : SpanSet) (l : PiecesAndRoom) → k < length old → (sets : List (List Interval)) → IsLineOf has (get_or spans k s).top sets (shown_line (get_or old k l))
    → IsLineOf has (get_or spans k s).top (set sets at (get_or spans k s).intervals) (shown_line (get_or new k l)))
    → IsClassifierOf boxes (record { len = len; lines = map shown_line old })
    → IsClassifierOf (set boxes at box) (record { len = len; lines = map shown_line new })
classifier_written old new spans box boxes len at n m same whole step h =
    classifier_after old new boxes (set boxes at box) len len n m (h.len ∙ sym (length-set boxes at box))
    (λ field l before.
    (let lt : index field < length old = omega (arith, index-lt field) in
    let e : (get_or spans (index field) no_set).top ≡ slice_index tops (index field) = ap (λ (ss : List SpanSet). (get_or ss (index field) no_set).top) same ∙ box_tops box whole (index field) no_set (index-lt field) in
    let T : ℕ → Type 0 = λ t. IsLineOf has t (map (set_on field) boxes) (shown_line (get_or old (index field) l)) in
    let U : ℕ → Type 0 = λ t. IsLineOf has t (set (map (set_on field) boxes) at (set_on field spans)) (shown_line (get_or new (index field) l)) in
    let V : List (List Interval) → Type 0 = λ ss. IsLineOf has (slice_index tops (index field)) ss (shown_line (get_or new (index field) l)) in
    subst V (ap (λ (ss : List SpanSet). set (map (set_on field) boxes) at (set_on field ss)) same ∙ sym (map-set (set_on field) boxes at box))
    (subst U e (step (index field) no_set l lt (map (set_on field) boxes) (subst T (sym e) before))))) h

sets-remove : (field : Field) (boxes : List (List SpanSet)) (at : ℕ) → map (set_on field) (remove boxes at) ≡ remove (map (set_on field) boxes) at
sets-remove field boxes at =
    map-append (set_on field) (take at boxes) (drop (suc at) boxes)
    ∙ ap (λ (ss : List (List Interval)). ss ++ map (set_on field) (drop (suc at) boxes)) (sym (take-map (set_on field) at boxes))
    ∙ ap (λ (ss : List (List Interval)). take at (map (set_on field) boxes) ++ ss) (sym (drop-map (set_on field) (suc at) boxes))

pub classifier_without : (old new : List PiecesAndRoom) (boxes : List (List SpanSet)) (len at : ℕ) → length old ≡ FIELDS → length new ≡ length old → at < len
    → ((k : ℕ) (l : PiecesAndRoom) → k < length old → LosesBox at (get_or old k l) (get_or new k l))
    → IsClassifierOf boxes (record { len = len; lines = map shown_line old })
    → IsClassifierOf (remove boxes at) (record { len = len - 1; lines = map shown_line new })
classifier_without old new boxes len at n m lt step h =
    let in' : at < length boxes = omega (arith, h.len) in
    classifier_after old new boxes (remove boxes at) len (len - 1) n m (omega (arith, h.len, length-remove boxes at in'))
    (λ field l before.
    (let lt' : index field < length old = omega (arith, index-lt field) in
    let V : List (List Interval) → Type 0 = λ ss. IsLineOf has (slice_index tops (index field)) ss (shown_line (get_or new (index field) l)) in
    subst V (sym (sets-remove field boxes at)) ((step (index field) l lt').line (slice_index tops (index field)) (map (set_on field) boxes) before))) h

pub classifier_empty : (new : List PiecesAndRoom) → length new ≡ FIELDS → ((k : ℕ) (l : PiecesAndRoom) → k < length new → shown_line (get_or new k l) ≡ (0, []) ∷ []) → IsClassifierOf [] (record { len = 0; lines = map shown_line new })
classifier_empty new n h =
    record {
      len = refl;
      fields = fields_long new n;
      lines = λ field.
          (let lt : index field < length new = omega (arith, index-lt field) in
          let a = line_at new (index field) lt in
          let P : List (ℕ × List Bool) → Type 0 = λ line. IsLineOf (λ box x. box_allows box field x) (top field) [] line in
          subst P (sym (shown_at_place new (index field) a.0 lt ∙ h (index field) a.0 lt)) (empty_line (λ box x. box_allows box field x) (top field)));
    }

pub kept_empty : (new : List PiecesAndRoom) → length new ≡ FIELDS → ((k : ℕ) (l : PiecesAndRoom) → k < length new → shown_line (get_or new k l) ≡ (0, []) ∷ []) → HaveOneMargin new → IsKept 0 new
kept_empty new n h margin = record { few = omega arith; fields = n; sound = λ k l lt. empty_sound (slice_index tops k) (get_or new k l) (h k l lt); margin = margin }

-- the tops of a box's sets are those of the fields
tops_of : (spans box : List SpanSet) (k : ℕ) (s : SpanSet) → spans ≡ box → IsBox box → k < FIELDS → (get_or spans k s).top ≡ slice_index tops k
tops_of spans box k s same whole lt = ap (λ (ss : List SpanSet). (get_or ss k s).top) same ∙ box_tops box whole k s lt

pub sound_lines : (old : List PiecesAndRoom) (spans box : List SpanSet) (len : ℕ) → length old ≡ FIELDS → spans ≡ box → IsBox box → IsKept len old
    → (k : ℕ) (s : SpanSet) (l : PiecesAndRoom) → k < length old → IsSound (get_or spans k s).top len (get_or old k l)
sound_lines old spans box len n same whole h k s l lt =
    let Q : ℕ → Type 0 = λ t. IsSound t len (get_or old k l) in
    subst Q (sym (tops_of spans box k s same whole (omega arith))) (h.sound k l lt)

pub still_sound : (new : List PiecesAndRoom) (spans box : List SpanSet) (len : ℕ) → length new ≡ FIELDS → spans ≡ box → IsBox box → len ≤ most_boxes
    → ((k : ℕ) (s : SpanSet) (l : PiecesAndRoom) → k < length new → IsSound (get_or spans k s).top len (get_or new k l)) → HaveOneMargin new → IsKept len new
still_sound new spans box len n same whole few h margin =
    record {
      few = few;
      fields = n;
      sound = λ k l lt.
          (let Q : ℕ → Type 0 = λ t. IsSound t len (get_or new k l) in
          subst Q (tops_of spans box k no_set same whole (omega arith)) (h k no_set l lt));
      margin = margin;
    }

pub kept_shown : (old new : List PiecesAndRoom) (len : ℕ) → length new ≡ length old → ((k : ℕ) (l : PiecesAndRoom) → k < length old → shown_line (get_or new k l) ≡ shown_line (get_or old k l)) → HaveOneMargin new → IsKept len old → IsKept len new
kept_shown old new len n same margin h =
    record {
      few = h.few;
      fields = n ∙ h.fields;
      sound = λ k l lt.
          (let lt' : k < length old = omega arith in
          let was = h.sound k l lt' in
          let P : List (ℕ × List Bool) → Type 0 = λ line. IsRising (slice_index tops k) line × Differ line × (row_bits line ≡ len) in
          let is = subst P (sym (same k l lt')) (was.rising, was.differ, was.bits) in
          record { rising = is.0; differ = is.1; bits = is.2 });
      margin = margin;
    }

pub same_shown : (old new : List PiecesAndRoom) → length new ≡ length old → ((k : ℕ) (l : PiecesAndRoom) → k < length old → shown_line (get_or new k l) ≡ shown_line (get_or old k l)) → map shown_line new ≡ map shown_line old
same_shown [] [] n h = refl
same_shown [] (m ∷ ms) n h = absurd (omega arith)
same_shown (l ∷ ls) [] n h = absurd (omega arith)
same_shown (l ∷ ls) (m ∷ ms) n h =
    let head : shown_line m ≡ shown_line l = h 0 l (omega arith) in
    let tail : map shown_line ms ≡ map shown_line ls = same_shown ls ms (omega arith) (λ k d lt. h (suc k) d (omega arith)) in
    λ i. head i ∷ tail i

-- lines that were copied one by one from those lent
pub copied : (lent : List (Bor PiecesAndRoom)) (old new : List PiecesAndRoom) → map (λ r. r.now) lent ≡ old → ((k : ℕ) (r : Bor PiecesAndRoom) (l : PiecesAndRoom) → k < length old → get_or new k l ≡ (get_or lent k r).now)
    → (k : ℕ) (l : PiecesAndRoom) → k < length old → get_or new k l ≡ get_or old k l
copied lent old new from each k l lt =
    let r : Bor PiecesAndRoom = record { ref_ptr = (0, 0); now = l } in
    let long : length lent ≡ length old = sym (length-map lent (λ (s : Bor PiecesAndRoom). s.now)) ∙ ap length from in
    each k r l lt ∙ sym (get_or-map (λ (s : Bor PiecesAndRoom). s.now) lent k r l (omega arith)) ∙ ap (λ (ls : List PiecesAndRoom). get_or ls k l) from

pub no_new_cuts : (old : List PiecesAndRoom) (spans box : List SpanSet) (len : ℕ) → length old ≡ FIELDS → spans ≡ box → IsBox box → HasNoNewCut box (record { len = len; lines = map shown_line old })
    → (k : ℕ) (s : SpanSet) (l : PiecesAndRoom) → k < length old → CutsStart (get_or spans k s).top (get_or spans k s).intervals (shown_line (get_or old k l))
no_new_cuts old spans box len n same whole h k s l lt =
    let lt' : k < FIELDS = omega arith in
    let f = field_at k lt' in
    let long : length spans ≡ FIELDS = ap length same ∙ box_long box whole in
    let own : get_or spans k no_set ≡ get_or spans k s = get_or_default spans k no_set s (omega arith) in
    let e : top f.0 ≡ (get_or spans k s).top = sym (top_at f.0) ∙ ap (λ j. slice_index tops j) f.1 ∙ sym (tops_of spans box k s same whole lt') in
    let i : set_on f.0 box ≡ (get_or spans k s).intervals =
    ap (λ j. (get_or box j no_set).intervals) f.1 ∙ sym (ap (λ (ss : List SpanSet). (get_or ss k no_set).intervals) same) ∙ ap (λ (t : SpanSet). t.intervals) own in
    let c : line_on f.0 (record { len = len; lines = map shown_line old }) ≡ shown_line (get_or old k l) = ap (λ j. get_or (map shown_line old) j []) f.1 ∙ shown_at_place old k l lt in
    let P : ℕ → Type 0 = λ t. CutsStart t (set_on f.0 box) (line_on f.0 (record { len = len; lines = map shown_line old })) in
    let Q : List Interval → Type 0 = λ ss. CutsStart (get_or spans k s).top ss (line_on f.0 (record { len = len; lines = map shown_line old })) in
    let R : List (ℕ × List Bool) → Type 0 = λ line. CutsStart (get_or spans k s).top (get_or spans k s).intervals line in
    subst R c (subst Q i (subst P e (λ x le ne. starts_from_test (suc x) (line_on f.0 (record { len = len; lines = map shown_line old })) (h f.0 x le ne))))

-- what holds anyway holds after a refusal
pub on_err_anyway : {T E : Type 0} (r : Result T E) {P : Type 0} → P → OnErr r P
on_err_anyway (Ok x) h = tt
on_err_anyway (Err e) h = h

-- ---- The room of a classifier is the least of all its lines.

abbrev Fits : ℕ → PiecesAndRoom → Type 0
Fits n l = n ≤ l.room.places

-- no line has less room than all together
pub each_line : (n m : ℕ) (ls : List PiecesAndRoom) → n ≤ room_of_lines m ls → (n ≤ m) × EachLine (Fits n) ls
unfolding room_of_lines
each_line n m [] h = (h, All-nil (Fits n))
each_line n m (l ∷ ls) h = let rest = each_line n m ls (omega arith) in (rest.0, All-cons (Fits n) l ls (omega arith) rest.1)

-- and what each has, all have together
pub least_line : (n m : ℕ) (ls : List PiecesAndRoom) → n ≤ m → EachLine (Fits n) ls → n ≤ room_of_lines m ls
unfolding room_of_lines
least_line n m [] le h = le
least_line n m (l ∷ ls) le h = omega (arith, All-head (Fits n) l ls h, least_line n m ls le (All-tail (Fits n) l ls h))

-- what an edit of every line makes of the room
moved_room : (old new : List PiecesAndRoom) (a b n m : ℕ) → n ≤ room_of_lines a old → (n ≤ a → m ≤ b) → length new ≡ length old
    → ((k : ℕ) (l : PiecesAndRoom) → k < length old → Fits n (get_or old k l) → Fits m (get_or new k l)) → m ≤ room_of_lines b new
moved_room old new a b n m le bound long step =
    let h = each_line n a old le in
    least_line m b new (bound h.0) (λ k l lt. let lt' : k < length old = omega arith in step k l lt' (h.1 k l lt'))

used : (old new : List PiecesAndRoom) (len n : ℕ) → length new ≡ length old → EachEdit UsesRoom old new → n ≤ room_beside len old → n ≤ room_beside (len + 1) new + 1
used old new len zero long step le = omega arith
used old new len (suc n) long step le =
    let more : n ≤ room_beside (len + 1) new =
    moved_room old new (most_boxes - len) (most_boxes - (len + 1)) (suc n) n le (λ some. omega arith) long (λ k l lt h. omega (arith, step k l lt)) in
    omega arith

-- a box put in uses the room of one
pub used_room : (old new : List PiecesAndRoom) (len : ℕ) → length new ≡ length old → EachEdit UsesRoom old new → room_beside len old ≤ room_beside (len + 1) new + 1
used_room old new len long step = used old new len (room_beside len old) long step (omega arith)

-- lines with the same room keep it
pub same_keeps : (l m : PiecesAndRoom) → HasSameRoom l m → KeepsRoom l m
same_keeps l m same = record { more = omega (arith, ap (λ (r : Room). r.places) same); before = ap (λ (r : Room). r.before) same }

pub kept_room : (old new : List PiecesAndRoom) (len : ℕ) → length new ≡ length old → EachEdit KeepsRoom old new → room_beside len old ≤ room_beside len new
kept_room old new len long step =
    let n : ℕ = room_beside len old in
    moved_room old new (most_boxes - len) (most_boxes - len) n n (omega arith) (λ some. some) long (λ k l lt h. omega (arith, (step k l lt).more))

-- a box taken out leaves room for one more
pub freed_room : (old new : List PiecesAndRoom) (len : ℕ) → 0 < len → len ≤ most_boxes → length new ≡ length old → EachEdit FreesRoom old new → room_beside len old < room_beside (len - 1) new
freed_room old new len some few long step =
    let n : ℕ = room_beside len old in
    let more : n + 1 ≤ room_beside (len - 1) new =
    moved_room old new (most_boxes - len) (most_boxes - (len - 1)) n (n + 1) (omega arith) (λ le. omega arith) long (λ k l lt h. omega (arith, step k l lt)) in
    omega arith

-- all boxes taken out leave room for as many more
pub room_of_all : (old new : List PiecesAndRoom) (len : ℕ) → IsKept len old → length new ≡ length old → EachEdit FreesAll old new → room_beside len old + len ≤ room_beside 0 new
room_of_all old new len kept long step =
    let n : ℕ = room_beside len old in
    let few : len ≤ most_boxes = kept.few in
    moved_room old new (most_boxes - len) (most_boxes - 0) n (n + len) (omega arith) (λ le. omega arith) long (λ k l lt h. omega (arith, (step k l lt).places, (kept.sound k l lt).bits))

-- no row's last word is full, so there is room
pub last_words_room : (lines : List PiecesAndRoom) (len : ℕ) → IsKept len lines → len % 64 ≢ 0 → 0 < room_beside len lines
last_words_room lines len kept part =
    let few : len ≤ most_boxes = kept.few in
    let one : 1 ≤ room_beside len lines = least_line 1 (most_boxes - len) lines (omega arith) (λ k l lt. omega (arith, (get_or lines k l).stands.whole, (kept.sound k l lt).bits)) in
    omega arith

-- the same of what they show
pub room_in_word : (lines : List PiecesAndRoom) (len : ℕ) (seen : ClassifiedAndRoom) → IsKept len lines → record { shown = shown_by len lines; room = room_beside len lines } ≡ seen
    → seen.shown.len % 64 ≢ 0 → 0 < seen.room
room_in_word lines len seen kept view part =
    let P : ClassifiedAndRoom → Type 0 = λ k. 0 < k.room in
    subst P view (last_words_room lines len kept (λ full. part (ap (λ (k : ClassifiedAndRoom). k.shown.len % 64) (sym view) ∙ full)))

-- ---- one margin of all lines

-- lines without a blank place
pub none_before : (lines : List PiecesAndRoom) → EachLine (λ l. l.room.before ≡ 0) lines → HaveOneMargin lines
none_before lines h j k l lt lt' = h j l lt ∙ sym (h k l lt')

-- an edit that makes of each line's margin what it makes of any other's
pub margin_by : (f : ℕ → ℕ) (old new : List PiecesAndRoom) → length new ≡ length old → EachEdit (λ l m. m.room.before ≡ f l.room.before) old new → HaveOneMargin old → HaveOneMargin new
margin_by f old new long step h j k l lt lt' =
    let one : j < length old = omega arith in
    let other : k < length old = omega arith in
    step j l one ∙ ap f (h j k l one other) ∙ sym (step k l other)

pub margin_taken : (at : ℕ) (old new : List PiecesAndRoom) → length new ≡ length old → EachEdit (λ l m. TakesPlace at l.room.before m.room.before) old new → HaveOneMargin old → HaveOneMargin new
margin_taken zero old new long step = margin_by (λ n. n - 1) old new long (λ k l lt. (step k l lt).first refl)
margin_taken (suc at) old new long step = margin_by (λ n. n) old new long (λ k l lt. (step k l lt).later (omega arith))

pub margin_left : (at : ℕ) (old new : List PiecesAndRoom) → length new ≡ length old → EachEdit (λ l m. LeavesPlace at l.room.before m.room.before) old new → HaveOneMargin old → HaveOneMargin new
margin_left zero old new long step = margin_by (λ n. n + 1) old new long (λ k l lt. (step k l lt).first refl)
margin_left (suc at) old new long step = margin_by (λ n. n) old new long (λ k l lt. (step k l lt).later (omega arith))
