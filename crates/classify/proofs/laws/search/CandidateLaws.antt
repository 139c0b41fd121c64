-- What the rows of a point have in common: the answers of the boxes, and the search among them.
use Rattle.std.proofs.Common.{◌≡◌, subst, inl, inr, ℕ, ◌+◌, ◌-◌, ◌*◌, ◌^◌, ◌<◌, ◌≤◌, Bool, true, false, List, [], length, drop, get_or, map, sym, ◌∙◌, ap, arith, ◌/◌, Option, Some, None, Bor}
use Rattle.classify.proofs.laws.line.LineLaws.{same_tests}
use Rattle.std.proofs.Math.ListN.{set}
use Rattle.std.proofs.lemmas.Bool.{cases_eq, cases_lt, true≢false}
use Rattle.std.specs.Prelude.{All, slice_index}
use Rattle.std.specs.List.{list_all}
use Rattle.std.proofs.lemmas.List.{get_or-take, get_or-drop, get_or-map, get_or_default, get_or-set_other, get_or-set_same, length-drop, length-map, same_lists}
use Rattle.std.proofs.lemmas.List.FromFn.{get_or-map-range_with_len, length-map-range_with_len}
use Rattle.std.proofs.lemmas.List.Sums.{AllPass-from_list_all, list_all-from_AllPass}
use Rattle.fields.specs.numbers.Spans.{SpanSet}
use Rattle.bits.specs.steps.Summaries.{IsFirst}
use Rattle.bits.specs.declared.row_words.RowWords.{RowWords}
use Rattle.bits.specs.declared.turned_rows.TurnedWords.{TurnedWords}
use Rattle.classify.specs.Classifier.{Classified, IsClassifierOf, IsPoint, box_matches}
use Rattle.classify.specs.NextMatch.{next_match}
use Rattle.fields.specs.declared.numbers.field.TheConstants.{FIELDS}
use Rattle.classify.specs.steps.CommonPlaces.{ArePacked, AreRowsOf, AreWide, HaveAll, all_have, bits_of, common_bits, AreAtPoint, AreFound, IsAtPoint, in_common, line_of_field, rows_found, AreCandidates, IsOfAll, SumUpAll}
use Rattle.classify.specs.steps.Edits.{row_of}
use Rattle.classify.specs.steps.Fields.{EachLine, shown_line, IsKept}
use Rattle.classify.specs.steps.Kept.{PiecesAndRoom}
use Rattle.classify.specs.steps.Pieces.{row_in}
use Rattle.classify.proofs.laws.classifier.ClassifierLaws.{shown_at_place}
use Rattle.classify.proofs.laws.line.KeptLaws.{row_long}
use Rattle.classify.proofs.laws.line.EditLaws.{Cut}
use Rattle.classify.proofs.laws.search.NextLaws.{AllowsOn, have_to_allow, next_from_first, row_same, some_line}
use Rattle.classify.proofs.laws.search.SearchLaws.{none_past, row_wide}

abbrev Rows : Type 0
Rows = List TurnedWords

none : TurnedWords
none =
    let kept : Bor (List ℕ) = record { ref_ptr = (0, 0); now = [] } in
    let blank : RowWords = record { start = 0; count = 0; kept = kept } in
    record { own = blank; turn = blank; summary = 0 }

have_all : (rows : Rows) (p : ℕ) → all_have rows p ≡ true → HaveAll rows p
have_all rows p = AllPass-from_list_all (λ (row : TurnedWords). get_or (bits_of row) p false) rows

all_have-true : (rows : Rows) (p : ℕ) → HaveAll rows p → all_have rows p ≡ true
all_have-true rows p = list_all-from_AllPass (λ (row : TurnedWords). get_or (bits_of row) p false) rows

common_long : (len : ℕ) (rows : Rows) → length (common_bits len rows) ≡ len
common_long len rows = length-map-range_with_len (all_have rows) 0 len

common_at : (len p : ℕ) (rows : Rows) (d : Bool) → p < len → get_or (common_bits len rows) p d ≡ all_have rows p
common_at len p rows d lt = get_or-map-range_with_len (all_have rows) 0 len p p d lt (omega arith)

-- ---- the rows of pieces

found_long : (lines : List (List Cut)) (fields places : List ℕ) → length (rows_found lines fields places) ≡ length fields
found_long lines fields places = length-map-range_with_len (λ i. row_of (line_of_field lines fields i) (slice_index places i)) 0 (length fields)

pub found_at : (lines : List (List Cut)) (fields places : List ℕ) (i : ℕ) (d : List Bool) → i < length fields → get_or (rows_found lines fields places) i d ≡ row_of (line_of_field lines fields i) (slice_index places i)
found_at lines fields places i d lt = get_or-map-range_with_len (λ i. row_of (line_of_field lines fields i) (slice_index places i)) 0 (length fields) i i d lt (omega arith)

-- each has as many bits as there are boxes
found_whole : (len : ℕ) (lines : List PiecesAndRoom) (fields places : List ℕ) → IsKept len lines → AreFound (map shown_line lines) fields places
    → (i : ℕ) → i < length fields → length (get_or (rows_found (map shown_line lines) fields places) i []) ≡ len
found_whole len lines fields places kept found i lt =
    let d : PiecesAndRoom = some_line lines (omega (arith, kept.fields)) in
    let k : ℕ = slice_index fields i in
    let in' : k < length lines = omega (arith, found.among i 0 lt, kept.fields) in
    let same = shown_at_place lines k d in' in
    let P : List Cut → Type 0 = λ line. slice_index places i < length line in
    let Q : List Cut → Type 0 = λ line. length (row_of line (slice_index places i)) ≡ len in
    ap (λ (bs : List Bool). length bs) (found_at (map shown_line lines) fields places i [] lt)
    ∙ subst Q (sym same) (row_long (get_or lines k d) (slice_index places i) (subst P same (found.within i lt)) ∙ (kept.sound k d in').bits)

module _ (m len : ℕ) (found : List (List Bool)) (rows : Rows) (whole : (i : ℕ) → i < length found → length (get_or found i []) ≡ len) (h : AreRowsOf m found (length found) rows) where
  rows_are_candidates : (summary : ℕ) → 0 < length found → IsOfAll summary rows → AreCandidates (m + len) summary rows
  rows_are_candidates summary some sum =
      let packed : (k : ℕ) (d : TurnedWords) → k < length rows → ArePacked (m + len) (get_or rows k d) = λ k d lt.
      let in' : k < length found = omega (arith, h.long) in
      let P : ℕ → Type 0 = λ n. ArePacked (m + n) (get_or rows k d) in
      subst P (whole k in') (h.each k d in').packed in
      record {
        some = omega (arith, h.long);
        packed = packed;
        summed = λ p within every. (sum (p / 64)).0 (λ j d below.
            let in' : j < length found = omega (arith, h.long) in
            let r = h.each j d in' in
            let n : ℕ = length (get_or found j []) in
            r.summed p (sym (ap (λ (bs : List Bool). get_or bs p false) r.has) ∙ get_or-take (m + n) (bits_of (get_or rows j d)) p false (omega (arith, whole j in')) ∙ every j d below));
      }

  -- past the margin they have in common what the pieces' rows have
  rows_show : drop m (common_bits (m + len) rows) ≡ in_common len found
  rows_show =
      let all : List Bool = common_bits (m + len) rows in
      let test : ℕ → Bool = λ p. list_all (λ (bs : List Bool). get_or bs p false) found in
      let long : length (drop m all) ≡ len = omega (arith, length-drop m all, common_long (m + len) rows) in
      same_lists (drop m all) (in_common len found) (long ∙ sym (length-map-range_with_len test 0 len)) (λ k d lt.
      let in' : k < len = omega (arith, lt, long) in
      get_or-drop m all k d
      ∙ common_at (m + len) (m + k) rows d (omega arith)
      ∙ same_tests (all_have rows (m + k)) (test k) (λ e. list_all-from_AllPass (λ (bs : List Bool). get_or bs k false) found (λ j b below.
      let r = none in
      let have = have_all rows (m + k) e j r (omega (arith, h.long)) in
      ap (λ (bs : List Bool). get_or bs k false) (get_or_default found j b [] below) ∙ sym (row_same m (get_or found j []) (get_or rows j r) k (h.each j r below) (omega (arith, whole j below))) ∙ have))
      (λ e. all_have-true rows (m + k) (λ j r below.
      let in'' : j < length found = omega (arith, h.long) in
      row_same m (get_or found j []) (get_or rows j r) k (h.each j r in'') (omega (arith, whole j in'')) ∙ AllPass-from_list_all (λ (bs : List Bool). get_or bs k false) found e j [] in''))
      ∙ sym (get_or-map-range_with_len test 0 len k k d in' (omega arith)))

-- those that candidates lend, after the margin of their first line
module _
    (len : ℕ)
    (lines : List PiecesAndRoom)
    (fields places : List ℕ)
    (m : ℕ)
    (d : PiecesAndRoom)
    (rows : Rows)
    (summary : ℕ)
    (kept : IsKept len lines)
    (are : AreFound (map shown_line lines) fields places)
    (first : m ≡ (get_or lines 0 d).room.before)
    (lent : (margin : ℕ) → EachLine (λ l. l.room.before ≡ margin) lines → AreRowsOf margin (rows_found (map shown_line lines) fields places) (length fields) rows)
  where
    abbrev found : List (List Bool)
    found = rows_found (map shown_line lines) fields places

    one_margin : EachLine (λ l. l.room.before ≡ m) lines
    one_margin k l lt =
        let some : 0 < length lines = omega (arith, kept.fields) in
        kept.margin k 0 l lt some ∙ ap (λ (now : PiecesAndRoom). now.room.before) (get_or_default lines 0 l d some) ∙ sym first

    whole : (i : ℕ) → i < length found → length (get_or found i []) ≡ len
    whole i lt = found_whole len lines fields places kept are i (omega (arith, lt, found_long (map shown_line lines) fields places))

    rows_lent : AreRowsOf m found (length found) rows
    rows_lent =
        let P : ℕ → Type 0 = λ n. AreRowsOf m found n rows in
        subst P (sym (found_long (map shown_line lines) fields places)) (lent m one_margin)

    pub lent_are : IsOfAll summary rows → AreCandidates (m + len) summary rows
    lent_are = rows_are_candidates m len found rows whole rows_lent summary (omega (arith, are.some, found_long (map shown_line lines) fields places))

    pub lent_show : drop m (common_bits (m + len) rows) ≡ in_common len found
    lent_show = rows_show m len found rows whole rows_lent

-- ---- the pieces at a point

-- one more is found
pub at_more : (lines : List (List Cut)) (point fields places : List ℕ) (i place : ℕ) → AreAtPoint lines point fields places i → i < length places → IsAtPoint lines point fields i place
    → AreAtPoint lines point fields (set places i place) (i + 1)
at_more lines point fields places i place h lt p j below =
    elim (cases_eq j i) [
      | inl e ↦ (
          let P : ℕ → Type 0 = λ n. IsAtPoint lines point fields i n in
          let Q : ℕ → Type 0 = λ n. IsAtPoint lines point fields n (get_or (set places i place) n 0) in
          subst Q (sym e) (subst P (sym (get_or-set_same places i place 0 lt)) p))
      | inr ne ↦ (
          let P : ℕ → Type 0 = λ n. IsAtPoint lines point fields j n in
          subst P (sym (get_or-set_other places i j place 0 ne)) (h j (omega (arith, below, ne))))
    ]

-- the piece that a line finds at a number is there
pub at_place : (lines : List PiecesAndRoom) (point fields : List ℕ) (i place : ℕ) (d : PiecesAndRoom) → slice_index fields i < length lines → place < length (get_or lines (slice_index fields i) d).pieces
    → row_of (get_or lines (slice_index fields i) d).pieces place ≡ row_in (get_or lines (slice_index fields i) d).pieces (slice_index point (slice_index fields i))
    → IsAtPoint (map shown_line lines) point fields i place
at_place lines point fields i place d lt within here =
    let k : ℕ = slice_index fields i in
    let same = shown_at_place lines k d lt in
    let P : List Cut → Type 0 = λ line. place < length line in
    let Q : List Cut → Type 0 = λ line. row_of line place ≡ row_in line (slice_index point k) in
    record { within = subst P (sym same) within; here = subst Q (sym same) here }

-- what their rows have in common are the boxes' answers
pub common_answers : (c : Classified) (boxes : List (List SpanSet)) (point fields places : List ℕ) → IsClassifierOf boxes c → IsPoint point → All (λ k. k < FIELDS) fields
    → ((p : ℕ) → p < c.len → ((i : ℕ) → i < length fields → AllowsOn c point (slice_index fields i) p) → (k : ℕ) → k < FIELDS → AllowsOn c point k p)
    → AreAtPoint c.lines point fields places (length fields) → in_common c.len (rows_found c.lines fields places) ≡ map (box_matches point) boxes
common_answers c boxes point fields places h within among stand at =
    let found : List (List Bool) = rows_found c.lines fields places in
    let test : ℕ → Bool = λ p. list_all (λ (bs : List Bool). get_or bs p false) found in
    let here : (i p : ℕ) → i < length fields → get_or (get_or found i []) p false ≡ get_or (row_in (get_or c.lines (slice_index fields i) []) (slice_index point (slice_index fields i))) p false = λ i p lt.
    ap (λ (bs : List Bool). get_or bs p false) (found_at c.lines fields places i [] lt ∙ (at i lt).here) in
    let long : length found ≡ length fields = found_long c.lines fields places in
    same_lists (in_common c.len found) (map (box_matches point) boxes) (length-map-range_with_len test 0 c.len ∙ h.len ∙ sym (length-map boxes (box_matches point))) (λ k d lt.
    let in' : k < c.len = omega (arith, lt, length-map-range_with_len test 0 c.len) in
    let boxed : k < length boxes = omega (arith, in', h.len) in
    let both = have_to_allow c boxes point fields k [] h within among (stand k in') boxed in
    get_or-map-range_with_len test 0 c.len k k d in' (omega arith)
    ∙ same_tests (test k) (box_matches point (get_or boxes k [])) (λ e. both.0 (λ i below. sym (here i k below) ∙ AllPass-from_list_all (λ (bs : List Bool). get_or bs k false) found e i [] (omega (arith, long))))
    (λ e. list_all-from_AllPass (λ (bs : List Bool). get_or bs k false) found (λ i b below.
    let lt' : i < length fields = omega (arith, long) in
    ap (λ (bs : List Bool). get_or bs k false) (get_or_default found i b [] below) ∙ here i k lt' ∙ both.1 e i lt'))
    ∙ sym (get_or-map (box_matches point) boxes k [] d boxed))

-- ---- the search among them

-- rows have so few bits that these can be counted
pub are_counted : (len summary : ℕ) (rows : Rows) → AreCandidates len summary rows → len < 2 ^ 64
are_counted len summary rows h = let row = h.packed 0 none h.some in omega (arith, row.own.few, row.own.covers)

module _ (len summary words : ℕ) (rows : Rows) (h : AreCandidates len summary rows) (covers : len ≤ 64 * words) (tight : 64 * words < len + 64) where
  pub are_wide : AreWide words rows
  are_wide k d lt = row_wide (get_or rows k d) len words (h.packed k d lt) covers tight

  pub are_few : words < 2 ^ 58
  are_few = let row = h.packed 0 none h.some in let wide = are_wide 0 none h.some in omega (arith, row.own.few, wide.0)

  -- no row has a bit past the boxes
  in_bounds : (p : ℕ) → p < 64 * words → HaveAll rows p → p < len
  in_bounds p lt every =
      elim (cases_lt p len) [
        | inl in' ↦ in'
        | inr le ↦ (
            let wide = are_wide 0 none h.some in
            absurd (true≢false (sym (every 0 none h.some) ∙ none_past (get_or rows 0 none) len p (h.packed 0 none h.some) le (omega (arith, lt, wide.0)))))
      ]

  pub are_summed : SumUpAll summary words rows
  are_summed p lt every = h.summed p (in_bounds p lt every) every

  -- after a margin
  pub next_of_common : (m from : ℕ) (r : Option ℕ) → m ≤ len → IsFirst (λ p. HaveAll rows (m + p)) from (64 * words - m) r → r ≡ next_match (λ bit. bit) (drop m (common_bits len rows)) from
  next_of_common m from None le first =
      next_from_first (λ (bit : Bool). bit) (drop m (common_bits len rows)) from false None (λ k ge lt passes.
      let in' : m + k < len = omega (arith, lt, common_long len rows, length-drop m (common_bits len rows)) in
      first k ge (omega (arith, in', covers)) (have_all rows (m + k) (sym (common_at len (m + k) rows false in') ∙ sym (get_or-drop m (common_bits len rows) k false) ∙ passes)))
  next_of_common m from (Some n) le first =
      let in' : m + n < len = in_bounds (m + n) (omega (arith, first.1)) first.2 in
      next_from_first (λ (bit : Bool). bit) (drop m (common_bits len rows)) from false (Some n) (
        first.0,
        omega (arith, in', common_long len rows, length-drop m (common_bits len rows)),
        get_or-drop m (common_bits len rows) n false ∙ common_at len (m + n) rows false in' ∙ all_have-true rows (m + n) first.2,
        λ k ge lt passes.
            first.3 k ge lt (have_all rows (m + k) (sym (common_at len (m + k) rows false (omega (arith, lt, in'))) ∙ sym (get_or-drop m (common_bits len rows) k false) ∙ passes)),
      )
