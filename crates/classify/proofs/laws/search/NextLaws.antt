-- The first place that every row has is the next box that allows the point, and the search for what passes two tests.
use Rattle.std.proofs.Common.{◌≡◌, ◌↔◌, All, inl, inr, ℕ, zero, suc, ◌+◌, ◌-◌, ◌*◌, ◌^◌, ◌<◌, ◌≤◌, Bool, true, false, cond, not, List, [], ◌∷◌, length, drop, take, get_or, ◌++◌, map, min, refl, sym, ◌∙◌, ap, arith, subst, length-append, Option, Some, None, ◌&&◌}
use Rattle.std.specs.Prelude.{◌/◌, ◌%◌, slice_index, bit_and}
use Rattle.std.specs.Int.{bit_at}
use Rattle.std.proofs.lemmas.Nat.Bits.{bit_at-lt, bit_at_and, bit_at_ones}
use Rattle.std.specs.List.{list_all, position_or_len, position}
use Rattle.std.specs.Option.{option_map}
use Rattle.std.proofs.Math.Dec.{ltb}
use Rattle.std.proofs.lemmas.Bool.{cases_lt, cases_Bool, true≢false, lt-ltb, le-ltb, false_from_ne_true, cases_eq, and_parts}
use Rattle.std.proofs.lemmas.List.{get_or-drop, get_or-take, get_or-map, get_or_append_left, get_or_push, length-drop}
use Rattle.std.proofs.lemmas.List.Folds.{list_all_at}
use Rattle.std.proofs.lemmas.List.Elements.{All-cons, All-head, All-nil, All-pop, All-push}
use Rattle.std.proofs.lemmas.Option.{same_Some}
use Rattle.std.proofs.lemmas.List.Quantifiers.{position-Some}
use Rattle.std.proofs.lemmas.List.Sums.{fails_before_first}
use Rattle.bits.specs.MarginRows.{after_margin}
use Rattle.bits.proofs.laws.MarginLaws.{get-after, length-after}
use Rattle.bits.specs.declared.turned_rows.TurnedWords.{TurnedWords}
use Rattle.bits.specs.steps.Summaries.{IsMarked, IsSummaryOf, IsFirst, Nowhere}
use Rattle.fields.specs.declared.numbers.field.TheConstants.{FIELDS}
use Rattle.fields.specs.declared.numbers.field.TheConstants.Field.{ALL}
use Rattle.fields.specs.declared.numbers.field.Field.{Field}
use Rattle.fields.specs.numbers.Field.{index, top, number_on}
use Rattle.fields.specs.numbers.Spans.{SpanSet}
use Rattle.bits.specs.steps.Packing.{IsPacked}
use Rattle.bits.specs.steps.StoredRows.{words_of}
use Rattle.rules.specs.Boxed.{set_on}
use Rattle.rules.proofs.laws.BoxLaws.{index-lt, here_is}
use Rattle.classify.specs.steps.CommonPlaces.{IsOfAll, SumUpAll, ArePacked, AreRowsOf, AreWide, HaveAll, IsRowOf, IsWide, bits_of}
use Rattle.classify.specs.Line.{row_at}
use Rattle.classify.specs.steps.Pieces.{row_in}
use Rattle.classify.specs.steps.Fields.{shown_by, IsKept}
use Rattle.classify.specs.Classifier.{box_allows, line_on, Classified, IsClassifierOf, IsPoint, box_matches}
use Rattle.classify.specs.NextMatch.{next_match}
use Rattle.classify.specs.steps.Kept.{AreMarked, AreOthers, PiecesAndRoom}
use Rattle.classify.proofs.laws.search.SearchLaws.{both_bits, first_later, none_past, own_wide}
use Rattle.classify.proofs.laws.line.BoxLaws.{says_from_line}
use Rattle.classify.proofs.laws.classifier.ClassifierLaws.{field_at, row_of_sets, line_of_sets, shown_at_place}
use Rattle.classify.proofs.laws.classifier.WholeLaws.{said_on}
use Rattle.classify.proofs.laws.line.KeptLaws.{said_long}
use Rattle.classify.proofs.laws.classifier.RuleLaws.{next_by_answers}

-- ---- The first place that every row has is the next box that box_allows the point.

-- ---- the rows of pieces

-- what a line lends: a row, after the margin of the line
pub record IsLent (now : PiecesAndRoom) (bits : List Bool) (row : TurnedWords) : Type 0 where
  pub own : IsPacked (words_of row.own) (length (after_margin now.room.before bits))
  pub turn : IsPacked (words_of row.turn) (length (after_margin now.room.before bits))
  pub has : take (length (after_margin now.room.before bits)) (bits_of row) ≡ after_margin now.room.before bits
  pub summed : IsSummaryOf row.summary (after_margin now.room.before bits)

pub row_lent : (now : PiecesAndRoom) (m : ℕ) (bits : List Bool) (row : TurnedWords) → now.room.before ≡ m → IsLent now bits row → IsRowOf m bits row
row_lent now m bits row margin h =
    let long : length (after_margin now.room.before bits) ≡ m + length bits = length-after now.room.before bits ∙ omega (arith, margin) in
    let here : after_margin now.room.before bits ≡ after_margin m bits = ap (λ n. after_margin n bits) margin in
    let P : List ℕ → ℕ → Type 0 = λ words n. IsPacked words n in
    let Q : List Bool → Type 0 = λ bs. IsSummaryOf row.summary bs in
    record {
      packed = record { own = subst (P (words_of row.own)) long h.own; turn = subst (P (words_of row.turn)) long h.turn };
      has = ap (λ n. take n (bits_of row)) (sym long) ∙ h.has ∙ here;
      summed = subst Q here h.summed;
    }

-- none so far
pub rows_none : (m : ℕ) (found : List (List Bool)) → AreRowsOf m found 0 []
rows_none m found = record { long = refl; each = λ i d lt. absurd (omega arith) }

-- and one more
pub rows_more : (m : ℕ) (found : List (List Bool)) (i : ℕ) (rows : List TurnedWords) (row : TurnedWords) → AreRowsOf m found i rows → IsRowOf m (get_or found i []) row → AreRowsOf m found (i + 1) (rows ++ row ∷ [])
rows_more m found i rows row h r = record {
  long = omega (arith, h.long, length-append rows (row ∷ []));
  each = λ j d lt.
      elim (cases_lt j i) [
        | inl before ↦ (let P : TurnedWords → Type 0 = λ s. IsRowOf m (get_or found j []) s in subst P (sym (get_or_append_left rows (row ∷ []) d j (omega (arith, h.long)))) (h.each j d before))
        | inr past ↦ (
            let e : i ≡ j = omega arith in
            let P : TurnedWords → Type 0 = λ s. IsRowOf m (get_or found i []) s in
            let Q : ℕ → Type 0 = λ n. IsRowOf m (get_or found n []) (get_or (rows ++ row ∷ []) n d) in
            subst Q e (subst P (sym (get_or_push rows row d i h.long)) r))
      ];
}

-- a bit past the margin is that of the piece
pub row_same : (m : ℕ) (bits : List Bool) (row : TurnedWords) (p : ℕ) → IsRowOf m bits row → p < length bits → get_or (bits_of row) (m + p) false ≡ get_or bits p false
row_same m bits row p r lt =
    sym (get_or-take (m + length bits) (bits_of row) (m + p) false (omega arith)) ∙ ap (λ (bs : List Bool). get_or bs (m + p) false) r.has ∙ get-after m p bits false

-- ---- the rows of all fields at a point

-- the box at a place allows the point's number on the field
abbrev pub AllowsOn : Classified → List ℕ → ℕ → ℕ → Type 0
AllowsOn c point k p = get_or (row_in (get_or c.lines k []) (slice_index point k)) p false ≡ true

-- a line, where there is one
pub some_line : (lines : List PiecesAndRoom) → 0 < length lines → PiecesAndRoom
some_line [] lt = absurd (omega arith)
some_line (l ∷ ls) lt = l

-- those of the lines that aren't marked stand for all
pub others_stand : (lines : List PiecesAndRoom) (len : ℕ) (point : List ℕ) (marks : List Bool) (fields : List ℕ) (p : ℕ) → IsKept len lines → AreMarked marks lines → AreOthers marks fields → p < len
    → ((i : ℕ) → i < length fields → AllowsOn (shown_by len lines) point (slice_index fields i) p) → (k : ℕ) → k < FIELDS → AllowsOn (shown_by len lines) point k p
others_stand lines len point marks fields p kept marked others lt every k below =
    let d : PiecesAndRoom = some_line lines (omega (arith, kept.fields)) in
    elim (cases_Bool (get_or marks k false)) [
      | inl on ↦ (
          let now : PiecesAndRoom = get_or lines k d in
          let in' : k < length lines = omega (arith, kept.fields) in
          let Q : List (ℕ × List Bool) → Type 0 = λ line. get_or (row_in line (slice_index point k)) p false ≡ true in
          let all = said_on now (slice_index point k) (marked k d in' on) in
          subst Q (sym (shown_at_place lines k d in')) (all p false (omega (arith, said_long now (slice_index point k), (kept.sound k d in').bits))))
      | inr off ↦ (
          let a = others.every k below off in
          let P : ℕ → Type 0 = λ n. AllowsOn (shown_by len lines) point n p in
          subst P a.2 (every a.0 a.1))
    ]

-- a bit of a field's line is a box's answer
line_answer : (c : Classified) (boxes : List (List SpanSet)) (point : List ℕ) (field : Field) (p : ℕ) (b : List SpanSet) → IsClassifierOf boxes c → IsPoint point → p < length boxes
    → get_or (row_in (get_or c.lines (index field) []) (slice_index point (index field))) p false ≡ box_allows (get_or boxes p b) field (number_on point field)
line_answer c boxes point field p b h within lt =
    let x : ℕ = number_on point field in
    let said : row_in (line_on field c) x ≡ row_at (λ box y. box_allows box field y) boxes x =
    says_from_line (top field) (map (set_on field) boxes) (line_on field c) (line_of_sets field (top field) boxes (line_on field c) (h.lines field)) x (within field) ∙ sym (row_of_sets field boxes x) in
    ap (λ (bs : List Bool). get_or bs p false) said ∙ get_or-map (λ box. box_allows box field x) boxes p b false lt

every_passes : (test : Field → Bool) (fs : List Field) → ((field : Field) → test field ≡ true) → list_all test fs ≡ true
every_passes test [] h = refl
every_passes test (f ∷ fs) h = rw (h f) (every_passes test fs h)

passes_each : (test : Field → Bool) → list_all test ALL ≡ true → (field : Field) → test field ≡ true
passes_each test h field =
    elim (cases_Bool (test field)) [
      | inl t ↦ t
      | inr f ↦ absurd (true≢false (sym h ∙ list_all_at test ALL (index field) field (index-lt field) (ap test (here_is field field) ∙ f)))
    ]

-- the box at a place allows the point where it allows its number on each field, and so where it does on those that stand for all
pub have_to_allow : (c : Classified) (boxes : List (List SpanSet)) (point fields : List ℕ) (p : ℕ) (b : List SpanSet) → IsClassifierOf boxes c → IsPoint point → All (λ k. k < FIELDS) fields
    → (((i : ℕ) → i < length fields → AllowsOn c point (slice_index fields i) p) → (k : ℕ) → k < FIELDS → AllowsOn c point k p) → p < length boxes
    → ((i : ℕ) → i < length fields → AllowsOn c point (slice_index fields i) p) ↔ (box_matches point (get_or boxes p b) ≡ true)
have_to_allow c boxes point fields p b h within among stand lt =
    let test : Field → Bool = λ field. box_allows (get_or boxes p b) field (number_on point field) in (
      λ every. every_passes test ALL (λ field. sym (line_answer c boxes point field p b h within lt) ∙ stand every (index field) (index-lt field)),
      λ pass i below.
          (let f = field_at (slice_index fields i) (among i 0 below) in
          let P : ℕ → Type 0 = λ k. AllowsOn c point k p in
          subst P f.1 (line_answer c boxes point f.0 p b h within lt ∙ passes_each test pass f.0)),
    )

-- ---- the summary of all rows

pub sum_none : IsOfAll (2 ^ 64 - 1) []
sum_none word = (λ every. bit_at_ones 64 (word / 2 % 64) (omega arith), λ on. All-nil (λ (s : TurnedWords). IsMarked s.summary word))

pub sum_more : (rows : List TurnedWords) (summary : ℕ) (row : TurnedWords) → IsOfAll summary rows → IsOfAll (bit_and summary row.summary) (rows ++ row ∷ [])
sum_more rows summary row h word =
    let Q : TurnedWords → Type 0 = λ s. IsMarked s.summary word in
    let both : bit_at (bit_and summary row.summary) (word / 2 % 64) ≡ min (bit_at summary (word / 2 % 64)) (bit_at row.summary (word / 2 % 64)) = bit_at_and summary row.summary (word / 2 % 64) in (
      λ every.
          (let parts = All-pop Q (rows ++ row ∷ []) rows (Some row) refl every in
          let all : bit_at summary (word / 2 % 64) ≡ 1 = (h word).0 parts.0 in
          let last : bit_at row.summary (word / 2 % 64) ≡ 1 = parts.1 in
          both ∙ omega arith),
      λ on.
          (let parts = both_bits (bit_at summary (word / 2 % 64)) (bit_at row.summary (word / 2 % 64)) (bit_at-lt summary (word / 2 % 64)) (bit_at-lt row.summary (word / 2 % 64)) (sym both ∙ on) in
          All-push Q rows row ((h word).1 parts.0) parts.1),
    )

-- ---- the first place is the next match

found_at : {B : Type 0} (test : B → Bool) (xs : List B) (n : ℕ) (d : B) → n < length xs → test (get_or xs n d) ≡ true → ((k : ℕ) → k < n → test (get_or xs k d) ≡ false) → position_or_len test xs ≡ n
found_at test [] n d lt t before = absurd (omega arith)
found_at test (x ∷ xs) zero d lt t before = ap (λ b. cond (not b) (1 + position_or_len test xs) 0) t
found_at test (x ∷ xs) (suc n) d lt t before =
    let first : test x ≡ false = before 0 (omega arith) in
    let later : position_or_len test xs ≡ n = found_at test xs n d (omega arith) t (λ k lt'. before (suc k) (omega arith)) in
    ap (λ b. cond (not b) (1 + position_or_len test xs) 0) first ∙ omega arith

found_nowhere : {B : Type 0} (test : B → Bool) (xs : List B) (d : B) → ((k : ℕ) → k < length xs → test (get_or xs k d) ≡ false) → position_or_len test xs ≡ length xs
found_nowhere test [] d h = refl
found_nowhere test (x ∷ xs) d h =
    let first : test x ≡ false = h 0 (omega arith) in
    let later : position_or_len test xs ≡ length xs = found_nowhere test xs d (λ k lt. h (suc k) (omega arith)) in
    ap (λ b. cond (not b) (1 + position_or_len test xs) 0) first ∙ omega arith

pub next_from_first : {B : Type 0} (test : B → Bool) (boxes : List B) (from : ℕ) (d : B) (r : Option ℕ) → IsFirst (λ p. test (get_or boxes p d) ≡ true) from (length boxes) r → r ≡ next_match test boxes from
next_from_first test boxes from d None h =
    let xs = drop from boxes in
    let long : length xs ≡ length boxes - from = length-drop from boxes in
    let e : position_or_len test xs ≡ length xs = found_nowhere test xs d (λ k lt. false_from_ne_true (test (get_or xs k d)) (λ t. h (from + k) (omega arith) (omega arith) (ap test (sym (get_or-drop from boxes k d)) ∙ t))) in
    let f : ltb (position_or_len test xs) (length xs) ≡ false = le-ltb (position_or_len test xs) (length xs) (omega arith) in
    sym (ap (λ b. option_map (λ (k : ℕ). from + k) (cond b (Some (position_or_len test xs)) None)) f)
next_from_first test boxes from d (Some n) h =
    let xs = drop from boxes in
    let long : length xs ≡ length boxes - from = length-drop from boxes in
    let back : from + (n - from) ≡ n = omega (arith, h.0) in
    let in' : n - from < length xs = omega (arith, h.0, h.1) in
    let e : position_or_len test xs ≡ n - from = found_at test xs (n - from) d in' (ap test (get_or-drop from boxes (n - from) d ∙ ap (λ j. get_or boxes j d) back) ∙ h.2)
    (λ k lt. false_from_ne_true (test (get_or xs k d)) (λ t. h.3 (from + k) (omega arith) (omega (arith, h.0)) (ap test (sym (get_or-drop from boxes k d)) ∙ t))) in
    let f : ltb (position_or_len test xs) (length xs) ≡ true = lt-ltb (position_or_len test xs) (length xs) (omega arith) in
    sym (ap (λ b. option_map (λ (k : ℕ). from + k) (cond b (Some (position_or_len test xs)) None)) f ∙ ap (λ k. Some (from + k)) e ∙ ap Some back)

-- ---- the next set bit of one row

one_has : (row : TurnedWords) (bits : List Bool) (p : ℕ) → take (length bits) (bits_of row) ≡ bits → p < length bits → get_or bits p false ≡ get_or (bits_of row) p false
one_has row bits p e lt = sym (ap (λ (bs : List Bool). get_or bs p false) e) ∙ get_or-take (length bits) (bits_of row) p false lt

have_one : (row : TurnedWords) (p : ℕ) → get_or (bits_of row) p false ≡ true → HaveAll (row ∷ []) p
have_one row p t =
    let P : TurnedWords → Type 0 = λ r. get_or (bits_of r) p false ≡ true in
    All-cons P row [] t (All-nil P)

one_is : (row : TurnedWords) (p : ℕ) → HaveAll (row ∷ []) p → get_or (bits_of row) p false ≡ true
one_is row p h = All-head (λ (r : TurnedWords). get_or (bits_of r) p false ≡ true) row [] h

one_within : (row : TurnedWords) (len p : ℕ) → ArePacked len row → p < 64 * length (words_of row.own) → HaveAll (row ∷ []) p → p < len
one_within row len p h lt have =
    elim (cases_lt p len) [ inl in' ↦ in' | inr le ↦ absurd (true≢false (sym (one_is row p have) ∙ none_past row len p h le lt)) ]

-- after a margin
pub next_of_one : (row : TurnedWords) (bits : List Bool) (m from : ℕ) (r : Option ℕ) → ArePacked (length bits) row → take (length bits) (bits_of row) ≡ bits → m ≤ length bits
    → IsFirst (λ p. HaveAll (row ∷ []) (m + p)) from (64 * length (words_of row.own) - m) r → r ≡ next_match (λ bit. bit) (drop m bits) from
next_of_one row bits m from None h e le first =
    next_from_first (λ (bit : Bool). bit) (drop m bits) from false None (λ k ge lt t.
    let in' : m + k < length bits = omega (arith, length-drop m bits) in
    first k ge (omega (arith, h.own.covers)) (have_one row (m + k) (sym (one_has row bits (m + k) e in') ∙ sym (get_or-drop m bits k false) ∙ t)))
next_of_one row bits m from (Some n) h e le first =
    let in' : m + n < length bits = one_within row (length bits) (m + n) h (omega (arith, first.1)) first.2 in
    next_from_first (λ (bit : Bool). bit) (drop m bits) from false (Some n) (
      first.0,
      omega (arith, length-drop m bits),
      get_or-drop m bits n false ∙ one_has row bits (m + n) e in' ∙ one_is row (m + n) first.2,
      λ k ge lt t. first.3 k ge lt (have_one row (m + k) (sym (one_has row bits (m + k) e (omega arith)) ∙ sym (get_or-drop m bits k false) ∙ t)),
    )

pub one_wide : (row : TurnedWords) (len : ℕ) → ArePacked len row → AreWide (length (words_of row.own)) (row ∷ [])
one_wide row len h = All-cons (IsWide (length (words_of row.own))) row [] (own_wide row len h) (All-nil (IsWide (length (words_of row.own))))

pub one_sums_up : (row : TurnedWords) (bits : List Bool) → ArePacked (length bits) row → take (length bits) (bits_of row) ≡ bits → IsSummaryOf row.summary bits → SumUpAll row.summary (length (words_of row.own)) (row ∷ [])
one_sums_up row bits h e sum p lt have = sum p (one_has row bits p e (one_within row (length bits) p h lt have) ∙ one_is row p have)

-- ---- The search for what passes two tests goes by the search for what passes the first of them.

-- what a test passes at a place
abbrev Passes : {B : Type 0} → (B → Bool) → List B → B → ℕ → Type 0
Passes test things d p = test (get_or things p d) ≡ true

-- where the search finds nothing, nothing passes
none_passes : {B : Type 0} (test : B → Bool) (things : List B) (d : B) (k : ℕ) → position test things ≡ None → k < length things → test (get_or things k d) ≡ false
none_passes test things d k none lt =
    elim (cases_lt (position_or_len test things) (length things)) [
      | inl found ↦ absurd (some_none (sym (ap (λ b. cond b (Some (position_or_len test things)) None) (lt-ltb (position_or_len test things) (length things) found)) ∙ none))
      | inr past ↦ fails_before_first test things k d (omega arith)
    ]
  where
    some_none : {X : Type 0} {x : X} → Some x ≡ None → ⊥
    some_none e = cc

-- the next match is the first place that passes
pub first_of_next : {B : Type 0} (test : B → Bool) (things : List B) (from : ℕ) (d : B) (r : Option ℕ) → r ≡ next_match test things from → IsFirst (Passes test things d) from (length things) r
first_of_next {B} test things from d r e = go (position test (drop from things)) refl r e
  where
    here : (k : ℕ) → from ≤ k → get_or (drop from things) (k - from) d ≡ get_or things k d
    here k le = get_or-drop from things (k - from) d ∙ ap (λ j. get_or things j d) (omega (arith, le))

    long : length (drop from things) ≡ length things - from
    long = length-drop from things

    go : (o : Option ℕ) → position test (drop from things) ≡ o → (r : Option ℕ) → r ≡ option_map (λ (k : ℕ). from + k) o → IsFirst (Passes test things d) from (length things) r
    go (Some i) at None same = absurd (cc)
    go None at (Some n) same = absurd (cc)
    go None at None same = λ k ge lt passes. true≢false (sym (ap test (here k ge) ∙ passes) ∙ none_passes test (drop from things) d (k - from) at (omega (arith, long, ge, lt)))
    go (Some i) at (Some n) same =
        let is : n ≡ from + i = same_Some _ _ same in
        let found = position-Some test (drop from things) i d at in
        let within = found.0 in (
          omega (arith, is),
          omega (arith, is, within, long),
          ap test (sym (here n (omega (arith, is)))) ∙ ap (λ j. test (get_or (drop from things) j d)) (omega (arith, is)) ∙ found.1,
          λ k ge lt passes. true≢false (sym (ap test (here k ge) ∙ passes) ∙ found.2 (k - from) (omega (arith, is, ge, lt))),
        )

module _ {B : Type 0} (first second : B → Bool) (things : List B) (d : B) where
  abbrev both : B → Bool
  both b = first b && second b

  both-first : (k : ℕ) → Passes both things d k → Passes first things d k
  both-first k passes = (and_parts (first (get_or things k d)) (second (get_or things k d)) passes).0

  both-second : (k : ℕ) → Passes both things d k → Passes second things d k
  both-second k passes = (and_parts (first (get_or things k d)) (second (get_or things k d)) passes).1

  -- nothing passes the first
  pub none_of_both : (from : ℕ) → None ≡ next_match first things from → None ≡ next_match both things from
  none_of_both from e =
      let nowhere = first_of_next first things from d None e in
      next_from_first both things from d None (λ k ge lt passes. nowhere k ge lt (both-first k passes))

  -- the first place that passes the first test passes the second
  pub both_here : (from n : ℕ) → Some n ≡ next_match first things from → Passes second things d n → Some n ≡ next_match both things from
  both_here from n e too =
      let found = first_of_next first things from d (Some n) e in
      next_from_first both things from d (Some n) (found.0, found.1, (ap (λ b. b && second (get_or things n d)) found.2 ∙ too), λ k ge lt passes. found.3 k ge lt (both-first k passes))

  -- it fails the second, and the search goes on after it
  pub both_later : (from n : ℕ) → Some n ≡ next_match first things from → second (get_or things n d) ≡ false → next_match both things from ≡ next_match both things (n + 1)
  both_later from n e fails =
      let found = first_of_next first things from d (Some n) e in
      let rest = first_of_next both things (n + 1) d (next_match both things (n + 1)) refl in
      let none : Nowhere (Passes both things d) from (n + 1) = λ k ge lt passes. (elim (cases_eq k n) [
        | inl same ↦ true≢false (sym (ap (λ j. second (get_or things j d)) (sym same) ∙ both-second k passes) ∙ fails)
        | inr other ↦ found.3 k ge (omega (arith, lt, other)) (both-first k passes)
      ]) in
      let ge = found.0 in
      sym (next_from_first both things from d (next_match both things (n + 1)) (first_later (Passes both things d) from (n + 1) (length things) (next_match both things (n + 1)) (omega (arith, ge)) none rest))

  -- where it is
  pub next_bounds : (from n : ℕ) → Some n ≡ next_match first things from → (from ≤ n) × (n < length things)
  next_bounds from n e = let found = first_of_next first things from d (Some n) e in (found.0, found.1)

-- the search among the answers is that among the things
pub by_answers : {B : Type 0} (test : B → Bool) (things : List B) (bits : List Bool) (from : ℕ) (r : Option ℕ) → bits ≡ map test things → r ≡ next_match (λ bit. bit) bits from → r ≡ next_match test things from
by_answers test things bits from r same e = e ∙ ap (λ (bs : List Bool). next_match (λ bit. bit) bs from) same ∙ next_by_answers test things from
