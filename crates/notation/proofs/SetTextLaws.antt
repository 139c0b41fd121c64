-- Laws of the texts of sets.
use Rattle.std.specs.Prelude.{max, min, nat_le}
use Rattle.std.proofs.Common.{◌≡◌, ◌≢◌, ◌∙◌, ℕ, zero, suc, ◌-◌, ◌≤◌, Bool, true, false, not, ◌||◌, ◌&&◌, List, [], ◌∷◌, ◌++◌, codes, ap, sym, refl, subst, append_assoc, append-nil, length, take, get_or, ◌+◌, ◌<◌, arith}
use Rattle.std.specs.List.{flat_map, list_any}
use Rattle.std.proofs.lemmas.Bool.{and_from, and_parts, le-leb, leb-true}
use Rattle.std.proofs.lemmas.List.{take_more}
use Rattle.std.proofs.lemmas.List.Folds.{list_any-append}
use Rattle.std.proofs.lemmas.Grind.{flat_map-append}
use Rattle.fields.proofs.laws.values.NameListLaws.{all_below, all_below-at}
use Rattle.fields.specs.declared.numbers.field.Field.{Field}
use Rattle.fields.specs.declared.numbers.spans.Interval.{Interval}
use Rattle.fields.specs.numbers.Field.{name}
use Rattle.fields.specs.numbers.Spans.{SpanSet, has, in_span, AreSpansFrom}
use Rattle.notation.specs.Range.{state_ranges}
use Rattle.notation.specs.SetText.{AreOthers, IsPartText, IsListText, empty, first, further, IsWordText, everything, listed, left_out, one_by_one, parts}

not-not : (a b : Bool) → a ≡ not b → b ≡ not a
not-not a true e = cc
not-not a false e = cc

-- one text more
pub more-text : (field : Field) (before : List Interval) (list : List ℕ) (s : Interval) (text marked new : List ℕ) → before ≢ [] → IsListText field before list
    → IsPartText field text s → marked ≡ list ++ 44 ∷ [] → new ≡ marked ++ text → IsListText field (before ++ s ∷ []) new
more-text field before list s text marked new some so_far reads mark whole =
    let P : List ℕ → Type 0 = λ bytes. IsListText field (before ++ s ∷ []) bytes in
    let same : list ++ 44 ∷ text ≡ new = sym (append_assoc list (44 ∷ []) text) ∙ ap (λ bytes. bytes ++ text) (sym mark) ∙ sym whole in
    subst P same (further field before list s text some so_far reads)

-- nothing is left out
pub all-text : (field : Field) (set : SpanSet) (others : List Interval) (text : List ℕ) → others ≡ [] → ((x : ℕ) → x ≤ set.top → has others x ≡ not (has set.intervals x))
    → text ≡ name field ++ codes "=any" → IsWordText field set text
all-text field set others text none apart is =
    let P : List ℕ → Type 0 = λ bytes. IsWordText field set bytes in
    subst P (sym is) (everything field set (λ x low. not-not (has others x) (has set.intervals x) (apart x low) ∙ ap (λ spans. not (has spans x)) none))

-- the parts of a list are those of its intervals
pub record AreParts (field : Field) (most : ℕ) (spans items : List Interval) : Type 0 where
  pub items_are : items ≡ parts field spans
  pub members : (x : ℕ) → x ≤ most → has items x ≡ has spans x

same-members : (field : Field) (most : ℕ) (spans items : List Interval) → AreParts field most spans items → (x : ℕ) → x ≤ most → has spans x ≡ has (parts field spans) x
same-members field most spans items are x low = sym (are.members x low) ∙ ap (λ l. has l x) are.items_are

-- the set's own numbers
pub own-text : (field : Field) (set : SpanSet) (others within out : List Interval) (list text : List ℕ) → AreOthers set others → others ≢ []
    → AreParts field set.top set.intervals within → AreParts field set.top others out → length within ≤ length out → IsListText field within list
    → text ≡ name field ++ (codes "=" ++ list) → IsWordText field set text
own-text field set others within out list text left some own rest fewer reads is =
    let P : List ℕ → Type 0 = λ bytes. IsWordText field set bytes in
    let Q : List Interval → Type 0 = λ items. IsListText field items list in
    let fewer-parts : length (parts field set.intervals) ≤ length (parts field others) = omega (arith, ap length own.items_are, ap length rest.items_are) in
    subst P (sym is) (listed field set others list left some fewer-parts (subst Q own.items_are reads) (same-members field set.top set.intervals within own))

-- the others
pub others-text : (field : Field) (set : SpanSet) (others within out : List Interval) (list text : List ℕ) → AreOthers set others
    → AreParts field set.top set.intervals within → AreParts field set.top others out → length out < length within → IsListText field out list
    → text ≡ name field ++ (codes "!=" ++ list) → IsWordText field set text
others-text field set others within out list text left own rest fewer reads is =
    let P : List ℕ → Type 0 = λ bytes. IsWordText field set bytes in
    let Q : List Interval → Type 0 = λ items. IsListText field items list in
    let fewer-parts : length (parts field others) < length (parts field set.intervals) = omega (arith, ap length own.items_are, ap length rest.items_are) in
    subst P (sym is) (left_out field set others list left fewer-parts (subst Q rest.items_are reads)
    (λ x low. not-not (has others x) (has set.intervals x) (left.members x low) ∙ ap not (same-members field set.top others out rest x low)))

-- one number more, one by one
one-more : (n k : ℕ) → one_by_one n k ++ record { first = n + k; last = n + k } ∷ [] ≡ one_by_one n (suc k)
one-more n zero = ap (λ (m : ℕ). record { first = m; last = m } ∷ []) (omega arith)
one-more n (suc k) =
    ap (λ (l : List Interval). record { first = n; last = n } ∷ l) (ap (λ (m : ℕ). one_by_one (suc n) k ++ record { first = m; last = m } ∷ []) (omega arith) ∙ one-more (suc n) k)

pub one-after : (before old new : List Interval) (n m : ℕ) → n ≤ m → old ≡ before ++ one_by_one n (m - n) → new ≡ old ++ record { first = m; last = m } ∷ []
    → new ≡ before ++ one_by_one n (m + 1 - n)
one-after before old new n m below so_far is =
    let last : m ≡ n + (m - n) = omega arith in
    let many : suc (m - n) ≡ m + 1 - n = omega arith in
    is ∙ ap (λ l. l ++ record { first = m; last = m } ∷ []) so_far ∙ append_assoc before (one_by_one n (m - n)) (record { first = m; last = m } ∷ [])
    ∙ ap (λ l. before ++ l) (ap (λ (k : ℕ). one_by_one n (m - n) ++ record { first = k; last = k } ∷ []) last ∙ one-more n (m - n) ∙ ap (one_by_one n) many)

pub none-yet : (before : List Interval) (n : ℕ) → before ≡ before ++ one_by_one n (n - n)
none-yet before n = let none : 0 ≡ n - n = omega arith in sym (append-nil before) ∙ ap (λ k. before ++ one_by_one n k) none

-- the texts of some more intervals, and of one more
pub further-text : (field : Field) (before spans : List Interval) (i : ℕ) (s d : Interval) (new : List ℕ) → i < length spans → s ≡ get_or spans i d
    → IsListText field ((before ++ take i spans) ++ s ∷ []) new → IsListText field (before ++ take (i + 1) spans) new
further-text field before spans i s d new inside is reads =
    let P : List Interval → Type 0 = λ parts. IsListText field parts new in
    let grown : take i spans ++ s ∷ [] ≡ take (i + 1) spans = ap (λ x. take i spans ++ x ∷ []) is ∙ sym (take_more spans i d inside) in
    subst P (append_assoc before (take i spans) (s ∷ []) ∙ ap (λ parts. before ++ parts) grown) reads

-- some intervals, and more
pub still-some : (xs ys : List Interval) → xs ≢ [] → (xs ++ ys) ≢ []
still-some [] ys some = λ e. some refl
still-some (x ∷ xs) ys some = λ e. absurd (cc)

-- the first text, and those after it
pub one-text : (field : Field) (spans : List Interval) (s : Interval) (rest : List Interval) (list new : List ℕ) → spans ≡ s ∷ rest → IsPartText field list s
    → ((before : List Interval) → before ≢ [] → IsListText field before list → IsListText field (before ++ rest) new) → IsListText field spans new
one-text field spans s rest list new whole reads others =
    let P : List Interval → Type 0 = λ parts. IsListText field parts new in
    let some : (s ∷ []) ≢ [] = λ e. absurd (cc) in
    subst P (sym whole) (others (s ∷ []) some (first field s list reads))

-- what a set lacks
pub are-others : (set : SpanSet) (most : ℕ) (others : List Interval) → most ≡ set.top → AreSpansFrom most 0 others
    → ((x : ℕ) → x ≤ set.top → has others x ≡ not (has set.intervals x)) → AreOthers set others
are-others set most others is canonical members = record { canonical = subst (λ n. AreSpansFrom n 0 others) is canonical; members = members }

-- of some length
pub some-intervals : (spans lent : List Interval) → lent ≡ spans → 0 < length lent → spans ≢ []
some-intervals spans lent is some = λ none. absurd (let h : length lent ≡ 0 = ap length (is ∙ none) in omega arith)

-- of no length
pub no-intervals : (spans : List Interval) → length spans ≡ 0 → spans ≡ []
no-intervals [] none = refl
no-intervals (s ∷ ss) none = absurd (omega arith)

-- no interval has no text
pub no-text : (field : Field) (spans : List Interval) (list : List ℕ) → length spans ≡ 0 → list ≡ [] → IsListText field spans list
no-text field spans list none is =
    let P : List Interval → Type 0 = λ parts. IsListText field parts list in
    let Q : List ℕ → Type 0 = λ bytes. IsListText field [] bytes in
    subst P (sym (no-intervals spans none)) (subst Q (sym is) (empty field))

-- ---- One interval more of a set.

or-false : (b : Bool) → (b || false) ≡ b
or-false true = refl
or-false false = refl

pub has-more : (spans : List Interval) (i : ℕ) (s d : Interval) → i < length spans → s ≡ get_or spans i d → (x : ℕ) → has (take (i + 1) spans) x ≡ (has (take i spans) x || in_span x s)
has-more spans i s d inside is x =
    ap (λ l. has l x) (take_more spans i d inside) ∙ list_any-append (in_span x) (take i spans) (get_or spans i d ∷ [])
    ∙ ap (λ b. has (take i spans) x || b) (or-false (in_span x (get_or spans i d)) ∙ ap (in_span x) (sym is))

pub parts-more : {X : Type 0} (g : X → List Interval) (items : List X) (i : ℕ) (s d : X) → i < length items → s ≡ get_or items i d
    → flat_map g (take (i + 1) items) ≡ flat_map g (take i items) ++ g s
parts-more g items i s d inside is =
    ap (flat_map g) (take_more items i d inside) ∙ flat_map-append g (take i items) (get_or items i d ∷ [])
    ∙ ap (λ l. flat_map g (take i items) ++ l) (append-nil (g (get_or items i d)) ∙ ap g (sym is))

-- ---- The numbers of states.

abbrev is_of : ℕ → List ℕ × (ℕ × ℕ) → Bool
is_of x row = in_span x (record { first = row.1.0; last = row.1.1 })

abbrev some_state : ℕ → Bool
some_state x = list_any (is_of x) state_ranges

-- each number of the field is one of a state
each-state : all_below some_state 14 ≡ true
each-state = refl

pub one-state : (x : ℕ) → x ≤ 13 → list_any (is_of x) state_ranges ≡ true
one-state x low = all_below-at some_state 14 x each-state (omega (arith, low))

-- the numbers of all states
pub five : (old own a b c d e : Bool) → (a || (b || (c || (d || (e || false))))) ≡ true
    → (((((old || (own && a)) || (own && b)) || (own && c)) || (own && d)) || (own && e)) ≡ (old || own)
five true own a b c d e some = refl
five false false a b c d e some = refl
five false true true b c d e some = refl
five false true false true c d e some = refl
five false true false false true d e some = refl
five false true false false false true e some = refl
five false true false false false false true some = refl
five false true false false false false false some = some

-- one list behind another
pub behind : (a b c p q : List Interval) → b ≡ a ++ p → c ≡ b ++ q → c ≡ a ++ (p ++ q)
behind a b c p q old new = new ∙ ap (λ l. l ++ q) old ∙ append_assoc a p q

-- tests that hold of the same are the same
same-tests : (a b : Bool) → (a ≡ true → b ≡ true) → (b ≡ true → a ≡ true) → a ≡ b
same-tests true b forth back = sym (forth refl)
same-tests false true forth back = back refl
same-tests false false forth back = refl

-- the numbers that two intervals share
pub shared-has : (s : Interval) (a b low high x : ℕ) → low ≡ max s.first a → high ≡ min s.last b → in_span x (record { first = low; last = high }) ≡ (in_span x s && in_span x (record { first = a; last = b }))
shared-has s a b low high x lower upper = same-tests (nat_le low x && nat_le x high) ((nat_le s.first x && nat_le x s.last) && (nat_le a x && nat_le x b)) forth back
  where
    forth : (nat_le low x && nat_le x high) ≡ true → ((nat_le s.first x && nat_le x s.last) && (nat_le a x && nat_le x b)) ≡ true
    forth e =
        let two = and_parts (nat_le low x) (nat_le x high) e in
        let above = leb-true low x two.0 in
        let below = leb-true x high two.1 in
        and_from _ _ (and_from _ _ (le-leb s.first x (omega (arith, lower, above))) (le-leb x s.last (omega (arith, upper, below))))
        (and_from _ _ (le-leb a x (omega (arith, lower, above))) (le-leb x b (omega (arith, upper, below))))

    back : ((nat_le s.first x && nat_le x s.last) && (nat_le a x && nat_le x b)) ≡ true → (nat_le low x && nat_le x high) ≡ true
    back e =
        let two = and_parts (nat_le s.first x && nat_le x s.last) (nat_le a x && nat_le x b) e in
        let one = and_parts (nat_le s.first x) (nat_le x s.last) two.0 in
        let other = and_parts (nat_le a x) (nat_le x b) two.1 in
        let p = leb-true s.first x one.0 in
        let q = leb-true x s.last one.1 in
        let r = leb-true a x other.0 in
        let t = leb-true x b other.1 in
        and_from _ _ (le-leb low x (omega (arith, lower, p, r))) (le-leb x high (omega (arith, upper, q, t)))
