-- A word that is printed reads back as its set.
use Rattle.std.specs.Prelude.{codes, is_some, nat_le}
use Rattle.std.proofs.Common.{◌≡◌, ◌≢◌, ◌==◌, ℕ, zero, suc, ◌+◌, ◌<◌, ◌≤◌, Bool, true, false, cond, not, ◌&&◌, ◌||◌, List, [], ◌∷◌, ◌++◌, length, Option, Some, None, refl, sym, ap, subst, ◌∙◌, arith, All, get_or}
use Rattle.std.specs.List.{list_all, list_any, onto_first, slice_split}
use Rattle.std.specs.Option.{option_or}
use Rattle.std.specs.Str.{bytes_eq}
use Rattle.std.proofs.lemmas.Bool.{and_from, and_parts, false≢true, le-leb}
use Rattle.std.proofs.lemmas.List.{get_or_append_left, get_or_push, length-append}
use Rattle.std.proofs.lemmas.List.Folds.{list_any-append}
use Rattle.std.proofs.lemmas.List.Splits.{slice_split-cons_no, slice_split-cons_yes, slice_split_none}
use Rattle.std.proofs.lemmas.List.Sums.{AllPass-from_list_all}
use Rattle.std.proofs.lemmas.Slice.Eq.{bytes_eq-Decides}
use Rattle.fields.specs.Sequence.{◌>>=◌}
use Rattle.fields.specs.declared.numbers.field.Field.{Field}
use Rattle.fields.specs.declared.numbers.spans.Interval.{Interval}
use Rattle.fields.specs.numbers.Field.{name, top}
use Rattle.fields.specs.numbers.Spans.{SpanSet, has, in_span, AreSpansFrom}
use Rattle.notation.specs.IntervalText.{IsPart}
use Rattle.notation.specs.Range.{range_in}
use Rattle.notation.specs.SetText.{IsListText, IsPartText, IsRangeText, empty, first, further, is_plain}
use Rattle.notation.specs.Words.{are_known, ends_within, is_any, is_list, is_listed, meaning, meaning_beside, means, one_means, values_of, within, within_field, SaysSet}
use Rattle.notation.proofs.WordLaws.{known_more, means_more}

-- ---- The values of a list and one more.

-- a list is cut into one part or more
onto_some : {X : Type 0} (x : X) (l : List (List X)) → 0 < length (onto_first x l)
onto_some x [] = omega arith
onto_some x (l ∷ ls) = omega arith

some_parts : {X : Type 0} (p : X → Bool) (xs : List X) → 0 < length (slice_split p xs)
some_parts p [] = omega arith
some_parts {X} p (x ∷ xs) = go (p x) refl
  where
    go : (b : Bool) → p x ≡ b → 0 < length (slice_split p (x ∷ xs))
    go true e = subst (λ (l : List (List X)). 0 < length l) (sym (slice_split-cons_yes p x xs e)) (omega arith)
    go false e = subst (λ (l : List (List X)). 0 < length l) (sym (slice_split-cons_no p x xs e)) (onto_some x (slice_split p xs))

onto_append : {X : Type 0} (x : X) (ls more : List (List X)) → 0 < length ls → onto_first x (ls ++ more) ≡ onto_first x ls ++ more
onto_append x [] more some = absurd (omega (arith, some))
onto_append x (l ∷ ls) more some = refl

-- behind a mark another list is cut
cut_one : {X : Type 0} (p : X → Bool) (x : X) (xs : List X) (y : X) (ys : List X) → slice_split p (xs ++ y ∷ ys) ≡ slice_split p xs ++ slice_split p ys
    → slice_split p (x ∷ (xs ++ y ∷ ys)) ≡ slice_split p (x ∷ xs) ++ slice_split p ys
cut_one {X} p x xs y ys rest = go (p x) refl
  where
    go : (b : Bool) → p x ≡ b → slice_split p (x ∷ (xs ++ y ∷ ys)) ≡ slice_split p (x ∷ xs) ++ slice_split p ys
    go true e = slice_split-cons_yes p x (xs ++ y ∷ ys) e ∙ ap (λ l. [] ∷ l) rest ∙ sym (ap (λ l. l ++ slice_split p ys) (slice_split-cons_yes p x xs e))
    go false e =
        slice_split-cons_no p x (xs ++ y ∷ ys) e ∙ ap (onto_first x) rest ∙ onto_append x (slice_split p xs) (slice_split p ys) (some_parts p xs)
        ∙ sym (ap (λ l. l ++ slice_split p ys) (slice_split-cons_no p x xs e))

cut_behind : {X : Type 0} (p : X → Bool) (xs : List X) (y : X) (ys : List X) → p y ≡ true → slice_split p (xs ++ y ∷ ys) ≡ slice_split p xs ++ slice_split p ys
cut_behind p [] y ys mark = slice_split-cons_yes p y ys mark
cut_behind p (x ∷ xs) y ys mark = cut_one p x xs y ys (cut_behind p xs y ys mark)

not_true : (b : Bool) → not b ≡ true → b ≡ false
not_true true e = sym e
not_true false e = refl

-- a text without a comma is one value
one_value : (text : List ℕ) → list_all (λ byte. not (byte == 44)) text ≡ true → values_of text ≡ text ∷ []
one_value text none =
    let each = AllPass-from_list_all (λ (byte : ℕ). not (byte == 44)) text none in
    slice_split_none (λ (byte : ℕ). byte == 44) text (λ k d lt. not_true (get_or text k d == 44) (each k d lt))

-- ---- What is printed of an interval holds of just its numbers.

part_means : (f : Field) (text : List ℕ) (s : Interval) → IsPart f s → range_in f text ≡ Some (s.first, s.last) → meaning f text ≡ Some (within (s.first, s.last))
part_means f text s part reads =
    let ordered : nat_le s.first s.last ≡ true = le-leb s.first s.last part.ordered in
    let inside : nat_le s.last (top f) ≡ true = le-leb s.last (top f) part.within in
    let whole : within_field f (s.first, s.last) ≡ Some (within (s.first, s.last)) = ap (λ b. cond b (Some (within (s.first, s.last))) None) (and_from _ _ ordered inside) in
    ap (λ (ends : Option (ℕ × ℕ)). option_or (ends_within f ends) (meaning_beside f text)) reads ∙ ap (λ (m : Option (ℕ → Bool)). option_or m (meaning_beside f text)) whole

-- ---- A list.

-- it isn't `any`, its values are known, and one of them holds of just the numbers of the parts
record ReadsBack (f : Field) (parts : List Interval) (list : List ℕ) : Type 0 where
  other : is_any list ≡ false
  known : are_known f (values_of list) ≡ true
  members : (x : ℕ) → x ≤ top f → one_means f (values_of list) x ≡ has parts x

or_false : (b : Bool) → (b || false) ≡ b
or_false true = refl
or_false false = refl

different : (text other : List ℕ) → (text ≡ other → ⊥) → bytes_eq text other ≡ false
different text other apart = go (bytes_eq text other) refl
  where
    go : (b : Bool) → bytes_eq text other ≡ b → b ≡ false
    go false e = refl
    go true e = absurd (apart ((bytes_eq-Decides text other).0 e))

module _ (f : Field) where
  list_reads : (parts : List Interval) (list : List ℕ) → All (IsPart f) parts → 0 < length parts → IsListText f parts list → ReadsBack f parts list
  list_reads _ _ each some (empty _) = absurd (omega (arith, some))
  list_reads _ _ each some (first _ s text part) =
      let two = and_parts (list_all (λ (byte : ℕ). not (byte == 44)) text) (not (bytes_eq text (codes "any"))) part.reads.plain in
      let own = part_means f text s (each 0 s (omega arith)) part.reads.reads_back in
      let values = one_value text two.0 in
      record {
        other = not_true (bytes_eq text (codes "any")) two.1;
        known = ap (are_known f) values ∙ ap (λ (m : Option (ℕ → Bool)). is_some m && true) own;
        members = λ x low. ap (λ (vs : List (List ℕ)). one_means f vs x) values ∙ ap (λ (m : Option (ℕ → Bool)). means m x || false) own;
      }
  list_reads _ _ each some (further _ before list s text nonempty rest part) =
      let two = and_parts (list_all (λ (byte : ℕ). not (byte == 44)) text) (not (bytes_eq text (codes "any"))) part.reads.plain in
      let front : All (IsPart f) before = λ k d lt. subst (IsPart f) (get_or_append_left before (s ∷ []) d k lt) (each k d (omega (arith, lt, length-append before (s ∷ [])))) in
      let last : IsPart f s = subst (IsPart f) (get_or_push before s s (length before) refl) (each (length before) s (omega (arith, length-append before (s ∷ [])))) in
      let own = part_means f text s last part.reads.reads_back in
      let more = list_reads before list front (some_items before nonempty) rest in
      let values : values_of (list ++ 44 ∷ text) ≡ values_of list ++ text ∷ [] = cut_behind (λ (byte : ℕ). byte == 44) list 44 text refl ∙ ap (λ (vs : List (List ℕ)). values_of list ++ vs) (one_value text two.0) in
      record {
        other = different (list ++ 44 ∷ text) (codes "any") (λ same.
            (let count : 1 ≡ length (values_of list) + 1 = ap (λ (l : List ℕ). length (values_of l)) (sym same) ∙ ap (λ (vs : List (List ℕ)). length vs) values ∙ length-append (values_of list) (text ∷ []) in
            omega (arith, count, some_parts (λ (byte : ℕ). byte == 44) list)));
        known = ap (are_known f) values ∙ known_more f (values_of list) text more.known (ap (λ (m : Option (ℕ → Bool)). is_some m) own);
        members = λ x low.
            ap (λ (vs : List (List ℕ)). one_means f vs x) values ∙ means_more f (values_of list) text x ∙ ap (λ b. b || means (meaning f text) x) (more.members x low)
            ∙ ap (λ (m : Option (ℕ → Bool)). has before x || means m x) own
            ∙ sym (list_any-append (in_span x) before (s ∷ []) ∙ ap (λ b. has before x || b) (or_false (in_span x s)));
      }
    where
      some_items : (l : List Interval) → l ≢ [] → 0 < length l
      some_items [] some = absurd (some refl)
      some_items (i ∷ is) some = omega arith

  -- ---- A word.

  pub list_says : (parts : List Interval) (list : List ℕ) → All (IsPart f) parts → 0 < length parts → IsListText f parts list
      → (is_list f list ≡ true) × ((x : ℕ) → x ≤ top f → is_listed f list x ≡ has parts x)
  list_says parts list each some is =
      let back = list_reads parts list each some is in (
        ap (λ b. b || are_known f (values_of list)) back.other ∙ back.known,
        λ x low. ap (λ b. b || one_means f (values_of list) x) back.other ∙ back.members x low,
      )

  -- a set with a number has a part
  some_part : (items : List Interval) (x : ℕ) → has items x ≡ true → 0 < length items
  some_part [] x here = absurd (false≢true here)
  some_part (i ∷ is) x here = omega arith

  pub says_all : (set : SpanSet) (others : List Interval) (text : List ℕ) → others ≡ [] → ((y : ℕ) → y ≤ top f → has others y ≡ not (has set.intervals y)) → text ≡ name f ++ codes "=any"
      → SaysSet f set text
  says_all set others text none apart is = record {
    denies = false;
    list = codes "any";
    written = is;
    known = refl;
    members = λ y under. holds (has set.intervals y) (sym (apart y under) ∙ ap (λ (l : List Interval). has l y) none);
  }
    where
      holds : (b : Bool) → not b ≡ false → b ≡ true
      holds true e = refl
      holds false e = sym e

  pub says_own : (set : SpanSet) (parts : List Interval) (list text : List ℕ) (x : ℕ) → x ≤ top f → has set.intervals x ≡ true → All (IsPart f) parts → IsListText f parts list
      → ((y : ℕ) → y ≤ top f → has parts y ≡ has set.intervals y) → text ≡ name f ++ (codes "=" ++ list) → SaysSet f set text
  says_own set parts list text x low here each reads same is =
      let says = list_says parts list each (some_part parts x (same x low ∙ here)) reads in
      record { denies = false; list = list; written = is; known = says.0; members = λ y under. sym (says.1 y under ∙ same y under) }

  pub says_others : (set : SpanSet) (others parts : List Interval) (list text : List ℕ) → AreSpansFrom (top f) 0 others → others ≢ [] → All (IsPart f) parts → IsListText f parts list
      → ((y : ℕ) → y ≤ top f → has parts y ≡ has others y) → ((y : ℕ) → y ≤ top f → has others y ≡ not (has set.intervals y)) → text ≡ name f ++ (codes "!=" ++ list) → SaysSet f set text
  says_others set [] parts list text canonical some each reads same apart is = absurd (some refl)
  says_others set (s ∷ ss) parts list text (above, ordered, within, rest) some each reads same apart is =
      let low : s.first ≤ top f = omega (arith, ordered, within) in
      let here : has (s ∷ ss) s.first ≡ true = ap (λ b. b || has ss s.first) (and_from _ _ (le-leb s.first s.first (omega arith)) (le-leb s.first s.last ordered)) in
      let says = list_says parts list each (some_part parts s.first (same s.first low ∙ here)) reads in
      record {
        denies = true;
        list = list;
        written = is;
        known = says.0;
        members = λ y under. sym (ap not (says.1 y under ∙ same y under ∙ apart y under) ∙ twice (has set.intervals y));
      }
    where
      twice : (b : Bool) → not (not b) ≡ b
      twice true = refl
      twice false = refl
