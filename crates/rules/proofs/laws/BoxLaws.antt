-- The sets of a box stand at their fields' places, and what is left of them, condition by condition.
use Rattle.std.proofs.Common.{◌≡◌, ℕ, ◌<◌, List, length, get_or, refl, sym, ◌∙◌, ap, arith, map, lit<, inl, inr, ◌+◌, ◌||◌, ◌&&◌, Bool, false, [], ◌∷◌, ◌≢◌, ◌≤◌, true, cond, not, take, subst, Option, Some, Result}
use Rattle.std.proofs.Math.ListN.{set}
use Rattle.std.proofs.lemmas.List.{length-map, get_or-map, map-set, set-get_or, get_or-set_same, get_or-set_other, get_or_default, same_lists, take_all}
use Rattle.std.proofs.Math.Dec.{leb, eqb}
use Rattle.std.proofs.lemmas.Bool.{le-leb, lt-leb, cases_lt, cases_eq, eq-eqb, ne_eqb}
use Rattle.std.specs.List.{list_all}
use Rattle.std.specs.Result.{OnOk}
use Rattle.std.proofs.lemmas.Result.{on_ok_weaker}
use Rattle.std.proofs.lemmas.Bool.Decides.{nat_tests}
use Rattle.std.proofs.lemmas.List.Folds.{list_all-map, list_all_more}
use Rattle.fields.specs.declared.numbers.field.TheConstants.{FIELDS}
use Rattle.fields.specs.declared.numbers.field.TheConstants.Field.{ALL}
use Rattle.fields.specs.declared.numbers.field.Field.{Field}
use Rattle.fields.specs.declared.numbers.field.Field.TheVariants.{Source}
use Rattle.fields.specs.numbers.Field.{index, top}
use Rattle.fields.specs.numbers.Spans.{SpanSet, has, AreSpansFrom}
use Rattle.fields.specs.declared.numbers.spans.Interval.{Interval}
use Rattle.fields.proofs.laws.numbers.SpanLaws.{out_above}
use Rattle.fields.proofs.laws.PacketLaws.{same_field as same_place}
use Rattle.fields.specs.declared.numbers.field.Field.TheVariants as field
use Rattle.rules.specs.Boxed.{IsBox, set_on, AreSetsOf, IsBoxOf}
use Rattle.rules.specs.declared.boxing.condition.Condition.{Condition}
use Rattle.rules.specs.steps.Views.{view_match, view_matches}
use Rattle.rules.specs.declared.options.match_kind.MatchKind.{MatchKind}
use Rattle.rules.specs.declared.options.option_value.OptionValue.{OptionValue}
use Rattle.rules.specs.rule.Allows.{is_on, same_field, option_value_holds, option_value_allows, fragment_allows, match_allows, allows}
use Rattle.rules.specs.steps.Conditions.{Asks, HasAllNumbers, Narrows, condition_allows}
use Rattle.rules.specs.options.Matches.{match_row}
use Rattle.rules.specs.rule.Rules.{Match, Rule}
use Rattle.rules.specs.declared.rule.spec.Match as drafted

-- ---- The sets of a box stand at their fields' places.

pub index-lt : (field : Field) → index field < FIELDS
index-lt Source = lit< tt
index-lt _ = lit< tt

-- every field is among all of them, at its place
pub here_is : (field : Field) (d : Field) → get_or ALL (index field) d ≡ field
here_is Source d = refl
here_is _ d = refl

pub top_at : (field : Field) → get_or (map top ALL) (index field) 0 ≡ top field
top_at Source = refl
top_at _ = refl

-- a set in the place of a field's is of the same box
pub box_with : (spans : List SpanSet) (field : Field) (k : ℕ) (s : SpanSet) → IsBox spans → k ≡ index field → s.top ≡ top field → IsBox (set spans k s)
box_with spans field k s h at same =
    let e : top field ≡ get_or (map top ALL) (index field) 0 = sym (top_at field) in
    map-set (λ (t : SpanSet). t.top) spans k s ∙ ap (λ (ts : List ℕ). set ts k s.top) h ∙ ap (λ j. set (map top ALL) j s.top) at ∙ ap (λ t. set (map top ALL) (index field) t) (same ∙ e) ∙ set-get_or (map top ALL) (index field) 0

pub box_long : (spans : List SpanSet) → IsBox spans → length spans ≡ FIELDS
box_long spans h = sym (length-map spans (λ (t : SpanSet). t.top)) ∙ ap length h

-- the sets of a box have the fields' tops
pub box_tops : (spans : List SpanSet) → IsBox spans → (k : ℕ) (s : SpanSet) → k < FIELDS → (get_or spans k s).top ≡ get_or (map top ALL) k 0
box_tops spans h k s lt =
    let long : length spans ≡ FIELDS = box_long spans h in
    sym (get_or-map (λ (t : SpanSet). t.top) spans k s 0 (omega arith)) ∙ ap (λ (ts : List ℕ). get_or ts k 0) h

pub top_on : (spans : List SpanSet) → IsBox spans → (field : Field) (k : ℕ) (s : SpanSet) → k ≡ index field → (get_or spans k s).top ≡ top field
top_on spans h field k s at = ap (λ j. (get_or spans j s).top) at ∙ box_tops spans h (index field) s (index-lt field) ∙ top_at field

-- ---- What two sets share, where one of them has all numbers.

none_above : (top low x : ℕ) (spans : List Interval) → AreSpansFrom top low spans → top < x → has spans x ≡ false
none_above top low x [] h lt = refl
none_above top low x (s ∷ ss) h lt = ap (λ (b : Bool). b || has ss x) (out_above s x (omega (arith, h.2))) ∙ none_above top (s.last + 2) x ss h.3 lt

pub met_all : (top : ℕ) (all : List Interval) (other : ℕ) (spans : List Interval) → top ≡ other → ((x : ℕ) → has all x ≡ leb x top) → AreSpansFrom other 0 spans → (x : ℕ) → has spans x ≡ (has all x && has spans x)
met_all top all other spans same h canonical x =
    elim (cases_lt top x) [
      | inl lt ↦ (
          let none : has spans x ≡ false = none_above other 0 x spans canonical (omega arith) in
          none ∙ sym (ap (λ (b : Bool). b && has spans x) (h x ∙ lt-leb x top lt)))
      | inr le ↦ sym (ap (λ (b : Bool). b && has spans x) (h x ∙ le-leb x top le))
    ]

-- ---- What is left of a box's sets, condition by condition.

abbrev Test : Type 0
Test = Field → ℕ → Bool

no_set : SpanSet
no_set = record { top = 0; intervals = [] }

and-true : (b : Bool) → b ≡ (b && true)
and-true true = refl
and-true false = refl

and-assoc : (a b c : Bool) → ((a && b) && c) ≡ (a && (b && c))
and-assoc true b c = refl
and-assoc false b c = refl

-- ---- a set met with a condition's

module _ (spans : List SpanSet) (c : Condition) (k : ℕ) (d both : SpanSet) (box : IsBox spans) (at : k ≡ index c.field)
    (met : (x : ℕ) → has both.intervals x ≡ (has (get_or spans k d).intervals x && has c.set.intervals x)) (before : Test) (sets : AreSetsOf before spans) (f : Field) (x : ℕ) (le : x ≤ top f) where
  here : index f ≡ index c.field → has (set_on f (set spans k both)) x ≡ (before f x && condition_allows f x c)
  here e =
      let lt : index f < length spans = omega (arith, index-lt f, box_long spans box) in
      let j : index f ≡ k = e ∙ sym at in
      let is : get_or (set spans k both) (index f) (record { top = 0; intervals = [] }) ≡ both =
      ap (λ i. get_or (set spans i both) (index f) (record { top = 0; intervals = [] })) (sym j) ∙ get_or-set_same spans (index f) both (record { top = 0; intervals = [] }) lt in
      let same : get_or spans k d ≡ get_or spans (index f) (record { top = 0; intervals = [] }) =
      ap (λ i. get_or spans i d) (sym j) ∙ get_or_default spans (index f) d (record { top = 0; intervals = [] }) lt in
      ap (λ (s : SpanSet). has s.intervals x) is ∙ met x ∙ ap (λ (s : SpanSet). has s.intervals x && has c.set.intervals x) same
      ∙ ap (λ b. b && has c.set.intervals x) (sets f x le) ∙ ap (λ t. before f x && cond t (has c.set.intervals x) true) (sym (eq-eqb (index f) (index c.field) e))

  elsewhere : (index f ≡ index c.field → ⊥) → has (set_on f (set spans k both)) x ≡ (before f x && condition_allows f x c)
  elsewhere ne =
      let other : index f ≢ k = λ e. ne (e ∙ at) in
      ap (λ (s : SpanSet). has s.intervals x) (get_or-set_other spans k (index f) both (record { top = 0; intervals = [] }) other) ∙ sets f x le ∙ and-true (before f x)
      ∙ ap (λ t. before f x && cond t (has c.set.intervals x) true) (sym (ne_eqb (index f) (index c.field) ne))

pub narrows_met : (spans : List SpanSet) (c : Condition) (k : ℕ) (d both : SpanSet) → IsBox spans → k ≡ index c.field
    → ((x : ℕ) → has both.intervals x ≡ (has (get_or spans k d).intervals x && has c.set.intervals x)) → Narrows (λ f x. condition_allows f x c) spans (set spans k both)
narrows_met spans c k d both box at met before sets f x le = elim (cases_eq (index f) (index c.field)) [
  | inl e ↦ here spans c k d both box at met before sets f x le e
  | inr ne ↦ elsewhere spans c k d both box at met before sets f x le ne
]

-- ---- one test after another

pub narrows_alike : (p q : Test) (old new : List SpanSet) → ((f : Field) (x : ℕ) → x ≤ top f → p f x ≡ q f x) → Narrows p old new → Narrows q old new
narrows_alike p q old new same n before sets f x le = n before sets f x le ∙ ap (λ b. before f x && b) (same f x le)

pub narrows_both : (p q : Test) (a b c : List SpanSet) → Narrows p a b → Narrows q b c → Narrows (λ f x. p f x && q f x) a c
narrows_both p q a b c n m before sets f x le = m (λ g y. before g y && p g y) (n before sets) f x le ∙ and-assoc (before f x) (p f x) (q f x)

-- each thing's test after those of the ones before it
module _ {A : Type 0} (tests : Field → ℕ → A → Bool) (xs : List A) where
  pub narrows_next : (i : ℕ) (y : A) (a b c : List SpanSet) → i < length xs → y ≡ get_or xs i y → Narrows (λ f x. list_all (tests f x) (take i xs)) a b → Narrows (λ f x. tests f x y) b c
      → Narrows (λ f x. list_all (tests f x) (take (i + 1) xs)) a c
  narrows_next i y a b c lt is n m =
      narrows_alike (λ f x. list_all (tests f x) (take i xs) && tests f x y) (λ f x. list_all (tests f x) (take (i + 1) xs)) a c
      (λ f x le. ap (λ z. list_all (tests f x) (take i xs) && tests f x z) is ∙ sym (list_all_more (tests f x) xs i y lt))
      (narrows_both (λ f x. list_all (tests f x) (take i xs)) (λ f x. tests f x y) a b c n m)

  pub narrows_all : (i : ℕ) (a b : List SpanSet) → length xs ≤ i → Narrows (λ f x. list_all (tests f x) (take i xs)) a b → Narrows (λ f x. list_all (tests f x) xs) a b
  narrows_all i a b le n = narrows_alike (λ f x. list_all (tests f x) (take i xs)) (λ f x. list_all (tests f x) xs) a b (λ f x _. ap (list_all (tests f x)) (take_all i xs le)) n

-- ---- options, matches, rules

same_allowed : (f g : Field) (x : ℕ) (t p : Bool) → x ≤ top f → (x ≤ top g → t ≡ p) → cond (same_field f g) t true ≡ cond (same_field f g) p true
same_allowed f g x t p le same =
    elim (cases_eq (index f) (index g)) [
      | inl e ↦ (
          let P : Field → Type 0 = λ h. x ≤ top h in
          ap (λ b. cond (same_field f g) b true) (same (subst P (same_place f g e) le)))
      | inr ne ↦ (
          let no : same_field f g ≡ false = ne_eqb (index f) (index g) ne in
          ap (λ b. cond b t true) no ∙ ap (λ b. cond b p true) (sym no))
    ]

asked_alike : (on : Option Field) (passes : ℕ → Bool) (c : Condition) → Asks on passes (Some c) → (f : Field) (x : ℕ) → x ≤ top f → condition_allows f x c ≡ cond (is_on f on) (passes x) true
asked_alike on passes c h f x le =
    same_allowed f c.field x (has c.set.intervals x) (passes x) le (h.2 x) ∙ ap (λ o. cond (is_on f o) (passes x) true) (sym h.0)

-- what an option asks, if it asks
pub narrows_asked : {E : Type 0} (s : OptionValue) (on : Option Field) (asked : Option Condition) (c : Condition) (old new : List SpanSet) (r : Result (Unit {0}) E) → Asks on (option_value_holds s) asked → asked ≡ Some c
    → OnOk r (Narrows (λ f x. condition_allows f x c) old new) → OnOk r (Narrows (λ f x. cond (is_on f on) (option_value_holds s x) true) old new)
narrows_asked s on asked c old new r h e n =
    let A : Option Condition → Type 0 = λ o. Asks on (option_value_holds s) o in
    on_ok_weaker r (narrows_alike (λ f x. condition_allows f x c) (λ f x. cond (is_on f on) (option_value_holds s x) true) old new (asked_alike on (option_value_holds s) c (subst A e h))) n

-- no number but 0 is from 0 to 0
zero_alone : (x : ℕ) → (leb 0 x && leb x 0) ≡ eqb x 0
zero_alone x = grind (arith, nat_tests)

fragment_alike : (a b t e : Bool) → a ≡ true → t ≡ e → cond b t true ≡ (not (a && b) || e)
fragment_alike a true t e is same = same ∙ ap (λ c. not (c && true) || e) (sym is)
fragment_alike a false t e is same = ap (λ c. not (c && false) || e) (sym is)

-- a match that asks for a first fragment
pub narrows_fragment : {E : Type 0} (k : MatchKind) (first : SpanSet) (old new : List SpanSet) (r : Result (Unit {0}) E) → (match_row k).asks_fragment ≡ true
    → ((x : ℕ) → has first.intervals x ≡ (leb 0 x && leb x 0))
    → OnOk r (Narrows (λ f x. condition_allows f x (record { field = field.Fragment; set = first })) old new) → OnOk r (Narrows (λ f x. fragment_allows f x k) old new)
narrows_fragment k first old new r is members n =
    on_ok_weaker r (narrows_alike (λ f x. condition_allows f x (record { field = field.Fragment; set = first })) (λ f x. fragment_allows f x k) old new
    (λ f x le. fragment_alike (match_row k).asks_fragment (same_field f field.Fragment) (has first.intervals x) (eqb x 0) is (members x ∙ zero_alone x))) n

-- a match: a first fragment where it asks for one, and its options
pub narrows_match : {E : Type 0} (m : drafted.Match) (option_values : List OptionValue) (a b c : List SpanSet) (r : Result (Unit {0}) E) → option_values ≡ m.option_values.items
    → Narrows (λ f x. fragment_allows f x m.kind) a b → OnOk r (Narrows (λ f x. list_all (option_value_allows f x) option_values) b c) → OnOk r (Narrows (λ f x. match_allows f x (view_match m)) a c)
narrows_match m option_values a b c r same n =
    on_ok_weaker r (λ k. narrows_both (λ f x. fragment_allows f x m.kind) (λ f x. list_all (option_value_allows f x) m.option_values.items) a b c n
    (narrows_alike (λ f x. list_all (option_value_allows f x) option_values) (λ f x. list_all (option_value_allows f x) m.option_values.items) b c (λ f x _. ap (list_all (option_value_allows f x)) same) k))

pub narrows_viewed : (ms : List drafted.Match) (a b : List SpanSet) → Narrows (λ f x. list_all (λ m. match_allows f x (view_match m)) ms) a b → Narrows (λ f x. list_all (match_allows f x) (view_matches ms)) a b
narrows_viewed ms a b n =
    narrows_alike (λ f x. list_all (λ m. match_allows f x (view_match m)) ms) (λ f x. list_all (match_allows f x) (view_matches ms)) a b (λ f x _. sym (list_all-map (match_allows f x) view_match ms)) n

-- ---- all numbers at first

pub whole_next : (spans : List SpanSet) (k : ℕ) (v : SpanSet) → length spans ≡ FIELDS → ((j : ℕ) (s : SpanSet) → j < k → HasAllNumbers j (get_or spans j s)) → k < FIELDS → HasAllNumbers k v
    → (j : ℕ) (s : SpanSet) → j < k + 1 → HasAllNumbers j (get_or (set spans k v) j s)
whole_next spans k v long below lt is j s less =
    elim (cases_eq j k) [
      | inl e ↦ (
          let P : ℕ → Type 0 = λ i. HasAllNumbers i (get_or (set spans k v) i s) in
          let Q : SpanSet → Type 0 = λ t. HasAllNumbers k t in
          subst P (sym e) (subst Q (sym (get_or-set_same spans k v s (omega arith))) is))
      | inr ne ↦ (
          let R : SpanSet → Type 0 = λ t. HasAllNumbers j t in
          let other : j ≢ k = ne in
          subst R (sym (get_or-set_other spans k j v s other)) (below j s (omega arith)))
    ]

module _ (spans : List SpanSet) (long : length spans ≡ FIELDS) (whole : (k : ℕ) (s : SpanSet) → k < FIELDS → HasAllNumbers k (get_or spans k s)) where
  pub box_of_whole : IsBox spans
  box_of_whole =
      let same : length (map (λ (s : SpanSet). s.top) spans) ≡ FIELDS = length-map spans (λ (s : SpanSet). s.top) ∙ long in
      same_lists (map (λ (s : SpanSet). s.top) spans) (map top ALL) same (λ k d lt.
      (let under : k < FIELDS = omega arith in
      let within : k < length spans = omega arith in
      let other : k < length (map top ALL) = under in
      get_or-map (λ (s : SpanSet). s.top) spans k no_set d within ∙ (whole k no_set under).top ∙ get_or_default (map top ALL) k 0 d other))

  pub sets_of_whole : AreSetsOf (λ _ _. true) spans
  sets_of_whole f x le =
      let w : HasAllNumbers (index f) (get_or spans (index f) (record { top = 0; intervals = [] })) = whole (index f) (record { top = 0; intervals = [] }) (index-lt f) in
      w.members x ∙ le-leb x (get_or spans (index f) (record { top = 0; intervals = [] })).top (omega (arith, w.top, top_at f))

-- the box of a rule
pub box_of_rule : (r rule : Rule) (option_values : List OptionValue) (a b c : List SpanSet) → r ≡ rule → option_values ≡ r.option_values → AreSetsOf (λ _ _. true) a → Narrows (λ f x. list_all (option_value_allows f x) option_values) a b
    → (matches : List Match) → matches ≡ r.matches → Narrows (λ f x. list_all (match_allows f x) matches) b c → IsBoxOf rule c
unfolding allows
box_of_rule r rule option_values a b c same own sets n matches held m f x le =
    m (λ g y. true && list_all (option_value_allows g y) option_values) (n (λ _ _. true) sets) f x le
    ∙ ap (λ ss. list_all (option_value_allows f x) ss && list_all (match_allows f x) matches) own
    ∙ ap (λ ms. list_all (option_value_allows f x) r.option_values && list_all (match_allows f x) ms) held
    ∙ ap (λ q. allows q f x) same
