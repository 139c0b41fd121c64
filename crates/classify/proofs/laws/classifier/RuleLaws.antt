-- The classifier of rules: that of the boxes made for them, one, and the same for rules that allow the same numbers.
use Rattle.std.proofs.Common.{◌≡◌, inl, inr, ℕ, zero, suc, ◌<◌, ◌≤◌, Bool, true, false, cond, ◌&&◌, ◌||◌, List, [], ◌∷◌, get_or, refl, sym, ◌∙◌, ap, arith, map, leb, ◌+◌, not, ltb, length, drop, subst, Some, None}
use Rattle.std.specs.Prelude.{slice_get}
use Rattle.std.proofs.lemmas.Bool.{cases_eq, le-leb, lt-leb, and_right}
use Rattle.std.proofs.lemmas.List.{get_or-map, drop-map, length-map, get_or_default, same_lists}
use Rattle.std.specs.List.{insert, remove, list_all, position, position_or_len}
use Rattle.std.specs.Option.{option_map}
use Rattle.std.proofs.Math.ListN.{set}
use Rattle.fields.specs.declared.numbers.field.Field.{Field}
use Rattle.fields.specs.declared.numbers.spans.Interval.{Interval}
use Rattle.fields.specs.numbers.Field.{all_fields, index, top, number_on}
use Rattle.fields.specs.numbers.Spans.{SpanSet, in_span, has}
use Rattle.rules.specs.rule.Allows.{allows, allows_each}
use Rattle.rules.specs.rule.Rules.{Rule}
use Rattle.rules.specs.Boxed.{IsBox, IsBoxOf}
use Rattle.rules.proofs.laws.BoxLaws.{index-lt, here_is}
use Rattle.rules.specs.rule.Actions.{with_chain_name}
use Rattle.classify.specs.Classifier.{AreBoxesOf, AllowTheSame, lines_of, Classified, line_on, box_allows, box_matches, IsClassifierBy, IsClassifierOf, IsClassifierOfRules}
use Rattle.classify.specs.Laws.{EachRuleHasABox, BoxesHaveTheRulesClassifier, BoxesHaveTheRulesMatches, RulesHaveOneClassifier, RulesHaveTheComputedLine, SameNumbersSameClassifier, RenamedOneSameClassifier, RenamedManySameClassifier}
use Rattle.classify.specs.Line.{row_at, IsLineOf}
use Rattle.classify.specs.NextMatch.{next_match}
use Rattle.classify.proofs.laws.line.PutLaws.{or_false}
use Rattle.classify.proofs.laws.line.LineLaws.{line_alike, one_line, line_of_is_line, is_line_of}
use Rattle.classify.proofs.laws.classifier.ClassifierLaws.{field_at}

-- ---- For each rule there is a box: of each number up to a field's top that the rule allows, an interval of its own.

-- ---- a set of any numbers below a bound

abbrev single : ℕ → Interval
single n = record { first = n; last = n }

singles : (ℕ → Bool) → ℕ → List Interval
singles test zero = []
singles test (suc n) = cond (test n) (single n ∷ singles test n) (singles test n)

has_cond : (b : Bool) (i : Interval) (ss : List Interval) (x : ℕ) → has (cond b (i ∷ ss) ss) x ≡ ((b && in_span x i) || has ss x)
has_cond true i ss x = refl
has_cond false i ss x = refl

not_under : (x n : ℕ) → x < n → in_span x (single n) ≡ false
not_under x n lt = ap (λ b. b && leb x n) (lt-leb n x lt)

not_over : (x n : ℕ) → n < x → in_span x (single n) ≡ false
not_over x n lt =
    let le : n ≤ x = omega arith in
    ap (λ b. b && leb x n) (le-leb n x le) ∙ lt-leb x n lt

in_itself : (n : ℕ) → in_span n (single n) ≡ true
in_itself n =
    let e : leb n n ≡ true = le-leb n n (omega arith) in
    ap (λ b. b && leb n n) e ∙ e

and_true : (a b : Bool) → b ≡ true → (a && b) ≡ a
and_true true b e = e
and_true false b e = refl

none_from : (test : ℕ → Bool) (n x : ℕ) → n ≤ x → has (singles test n) x ≡ false
unfolding singles
none_from test zero x le = refl
none_from test (suc n) x le =
    has_cond (test n) (single n) (singles test n) x
    ∙ ap (λ b. b || has (singles test n) x) (and_right (test n) (in_span x (single n)) (not_over x n (omega arith))) ∙ none_from test n x (omega arith)

has_singles : (test : ℕ → Bool) (n x : ℕ) → x < n → has (singles test n) x ≡ test x
unfolding singles
has_singles test zero x lt = absurd (omega arith)
has_singles test (suc n) x lt =
    has_cond (test n) (single n) (singles test n) x
    ∙ elim (cases_eq x n) [
      | inl e ↦ (
          let inside : in_span x (single n) ≡ true = ap (λ y. in_span y (single n)) e ∙ in_itself n in
          ap (λ b. b || has (singles test n) x) (and_true (test n) (in_span x (single n)) inside)
          ∙ or_false (test n) (has (singles test n) x) (none_from test n x (omega arith)) ∙ ap test (sym e))
      | inr ne ↦ (
          let under : x < n = omega arith in
          ap (λ b. b || has (singles test n) x) (and_right (test n) (in_span x (single n)) (not_under x n under)) ∙ has_singles test n x under)
    ]

-- ---- the box

set_for : Rule → Field → SpanSet
set_for rule field = record { top = top field; intervals = singles (allows rule field) (suc (top field)) }

pub box_for : Rule → List SpanSet
box_for rule = map (set_for rule) all_fields

top_for : (rule : Rule) (field : Field) → (set_for rule field).top ≡ top field
unfolding set_for
top_for rule field = refl

tops_for : (rule : Rule) (fs : List Field) → map (λ (s : SpanSet). s.top) (map (set_for rule) fs) ≡ map top fs
tops_for rule [] = refl
tops_for rule (f ∷ fs) = ap (λ n. n ∷ map (λ (s : SpanSet). s.top) (map (set_for rule) fs)) (top_for rule f) ∙ ap (λ (ns : List ℕ). top f ∷ ns) (tops_for rule fs)

box_for_whole : (rule : Rule) → IsBox (box_for rule)
unfolding box_for
box_for_whole rule = tops_for rule all_fields

abbrev empty : SpanSet
empty = record { top = 0; intervals = [] }

set_at : (rule : Rule) (field : Field) → get_or (box_for rule) (index field) empty ≡ set_for rule field
unfolding box_for
set_at rule field = get_or-map (set_for rule) all_fields (index field) field empty (index-lt field) ∙ ap (set_for rule) (here_is field field)

pub box_for_is : (rule : Rule) → IsBoxOf rule (box_for rule)
unfolding set_for
box_for_is rule field x le =
    ap (λ (s : SpanSet). has s.intervals x) (set_at rule field) ∙ has_singles (allows rule field) (suc (top field)) x (omega arith)

pub each_has_a_box : EachRuleHasABox
each_has_a_box rule = (box_for rule, box_for_whole rule, box_for_is rule)

pub boxes_for : List Rule → List (List SpanSet)
boxes_for rules = map box_for rules

pub boxes_for_are : (rules : List Rule) → AreBoxesOf rules (boxes_for rules)
unfolding boxes_for
boxes_for_are [] = tt
boxes_for_are (rule ∷ rules) = (box_for_is rule, boxes_for_are rules)

-- ---- The classifier of rules: that of their boxes, one, and the same for rules that allow the same numbers.

-- ---- things that allow the same numbers have one classifier

-- they are as many, and up to each field's top the rows are equal
record HaveOneRow {B : Type 0} {C : Type 0} (one : B → Field → ℕ → Bool) (two : C → Field → ℕ → Bool) (things : List B) (others : List C) : Type 0 where
  size : length things ≡ length others
  rows : (field : Field) (x : ℕ) → x ≤ top field → row_at (λ b y. one b field y) things x ≡ row_at (λ b y. two b field y) others x

classifier_alike : {B : Type 0} {C : Type 0} (one : B → Field → ℕ → Bool) (two : C → Field → ℕ → Bool) (things : List B) (others : List C) (c : Classified)
    → HaveOneRow one two things others → IsClassifierBy one things c → IsClassifierBy two others c
classifier_alike one two things others c same h = record {
  len = h.len ∙ same.size;
  fields = h.fields;
  lines = λ field. line_alike (λ b x. one b field x) (λ b x. two b field x) (top field) things others (line_on field c) (same.rows field) (h.lines field);
}

-- ---- boxes and their rules

-- what holds of each rule and its box holds of the answers
answers_alike : (test : Rule → Bool) (check : List SpanSet → Bool) → ((r : Rule) (b : List SpanSet) → IsBoxOf r b → check b ≡ test r) → (rs : List Rule) (bs : List (List SpanSet)) → AreBoxesOf rs bs → map check bs ≡ map test rs
answers_alike test check same [] [] h = refl
answers_alike test check same [] (b ∷ bs) h = absurd h
answers_alike test check same (r ∷ rs) [] h = absurd h
answers_alike test check same (r ∷ rs) (b ∷ bs) h = ap (λ (x : Bool). x ∷ map check bs) (same r b h.0) ∙ ap (λ (xs : List Bool). test r ∷ xs) (answers_alike test check same rs bs h.1)

as_many : (rs : List Rule) (bs : List (List SpanSet)) → AreBoxesOf rs bs → length bs ≡ length rs
as_many [] [] h = refl
as_many [] (b ∷ bs) h = absurd h
as_many (r ∷ rs) [] h = absurd h
as_many (r ∷ rs) (b ∷ bs) h = ap suc (as_many rs bs h.1)

boxes_answer : (rs : List Rule) (bs : List (List SpanSet)) → AreBoxesOf rs bs → (field : Field) (x : ℕ) → x ≤ top field
    → row_at (λ b y. box_allows b field y) bs x ≡ row_at (λ r y. allows r field y) rs x
boxes_answer rs bs are field x le = answers_alike (λ r. allows r field x) (λ b. box_allows b field x) (λ r b h. h field x le) rs bs are

pub rules_classifier : (rs : List Rule) (bs : List (List SpanSet)) (c : Classified) → AreBoxesOf rs bs → IsClassifierOf bs c → IsClassifierOfRules rs c
rules_classifier rs bs c are h =
    let one : HaveOneRow box_allows allows bs rs = record { size = as_many rs bs are; rows = boxes_answer rs bs are } in
    classifier_alike box_allows allows bs rs c one h

pub boxes_classifier : (rs : List Rule) (bs : List (List SpanSet)) (c : Classified) → AreBoxesOf rs bs → IsClassifierOfRules rs c → IsClassifierOf bs c
boxes_classifier rs bs c are h =
    let one : HaveOneRow allows box_allows rs bs = record { size = sym (as_many rs bs are); rows = λ field x le. sym (boxes_answer rs bs are field x le) } in
    classifier_alike allows box_allows rs bs c one h

pub classifier_of_boxes : BoxesHaveTheRulesClassifier
classifier_of_boxes rs bs c are = (rules_classifier rs bs c are, boxes_classifier rs bs c are)

all_alike : (test check : Field → Bool) → ((f : Field) → check f ≡ test f) → (fs : List Field) → list_all check fs ≡ list_all test fs
all_alike test check same [] = refl
all_alike test check same (f ∷ fs) = ap (λ b. b && list_all check fs) (same f) ∙ ap (λ b. test f && b) (all_alike test check same fs)

-- a place is found by the answers alone
first_by_answers : {A : Type 0} (test : A → Bool) (xs : List A) → position_or_len (λ b. b) (map test xs) ≡ position_or_len test xs
first_by_answers test [] = refl
first_by_answers test (x ∷ xs) = ap (λ n. cond (not (test x)) (1 + n) 0) (first_by_answers test xs)

found_by_answers : {A : Type 0} (test : A → Bool) (xs : List A) → position (λ b. b) (map test xs) ≡ position test xs
found_by_answers test xs =
    ap (λ n. cond (ltb n (length (map test xs))) (Some n) None) (first_by_answers test xs)
    ∙ ap (λ k. cond (ltb (position_or_len test xs) k) (Some (position_or_len test xs)) None) (length-map xs test)

pub next_by_answers : {A : Type 0} (test : A → Bool) (xs : List A) (from : ℕ) → option_map (λ (k : ℕ). from + k) (position (λ b. b) (drop from (map test xs))) ≡ next_match test xs from
next_by_answers test xs from =
    ap (λ (bs : List Bool). option_map (λ (k : ℕ). from + k) (position (λ b. b) bs)) (drop-map test from xs) ∙ ap (option_map (λ (k : ℕ). from + k)) (found_by_answers test (drop from xs))

-- boxes answer at a point as their rules
point_answers : (rs : List Rule) (bs : List (List SpanSet)) (point : List ℕ) → AreBoxesOf rs bs → ((field : Field) → number_on point field ≤ top field) → map (box_matches point) bs ≡ map (allows_each point) rs
point_answers rs bs point are within =
    answers_alike (allows_each point) (box_matches point)
    (λ r b h. all_alike (λ f. allows r f (number_on point f)) (λ f. box_allows b f (number_on point f)) (λ f. h f (number_on point f) (within f)) all_fields) rs bs are

pub matches_of_rules : BoxesHaveTheRulesMatches
matches_of_rules rs bs point from are within =
    sym (next_by_answers (box_matches point) bs from)
    ∙ ap (λ (xs : List Bool). option_map (λ (k : ℕ). from + k) (position (λ b. b) (drop from xs))) (point_answers rs bs point are within)
    ∙ next_by_answers (allows_each point) rs from

-- ---- edits, said of rules

boxes-insert : (rs : List Rule) (bs : List (List SpanSet)) (at : ℕ) (r : Rule) (b : List SpanSet) → AreBoxesOf rs bs → IsBoxOf r b → AreBoxesOf (insert rs at r) (insert bs at b)
boxes-insert [] [] zero r b are is = (is, tt)
boxes-insert [] [] (suc at) r b are is = (is, tt)
boxes-insert [] (c ∷ bs) at r b are is = absurd are
boxes-insert (q ∷ rs) [] at r b are is = absurd are
boxes-insert (q ∷ rs) (c ∷ bs) zero r b are is = (is, are)
boxes-insert (q ∷ rs) (c ∷ bs) (suc at) r b are is = (are.0, boxes-insert rs bs at r b are.1 is)

boxes-set : (rs : List Rule) (bs : List (List SpanSet)) (at : ℕ) (r : Rule) (b : List SpanSet) → AreBoxesOf rs bs → IsBoxOf r b → AreBoxesOf (set rs at r) (set bs at b)
boxes-set [] [] zero r b are is = tt
boxes-set [] [] (suc at) r b are is = tt
boxes-set [] (c ∷ bs) at r b are is = absurd are
boxes-set (q ∷ rs) [] at r b are is = absurd are
boxes-set (q ∷ rs) (c ∷ bs) zero r b are is = (is, are.1)
boxes-set (q ∷ rs) (c ∷ bs) (suc at) r b are is = (are.0, boxes-set rs bs at r b are.1 is)

boxes-remove : (rs : List Rule) (bs : List (List SpanSet)) (at : ℕ) → AreBoxesOf rs bs → AreBoxesOf (remove rs at) (remove bs at)
boxes-remove [] [] zero are = tt
boxes-remove [] [] (suc at) are = tt
boxes-remove [] (c ∷ bs) at are = absurd are
boxes-remove (q ∷ rs) [] at are = absurd are
boxes-remove (q ∷ rs) (c ∷ bs) zero are = are.1
boxes-remove (q ∷ rs) (c ∷ bs) (suc at) are = (are.0, boxes-remove rs bs at are.1)

pub rules_inserted : (rs : List Rule) (at : ℕ) (r : Rule) (b : List SpanSet) (c d : Classified) → ((bs : List (List SpanSet)) → IsClassifierOf bs c → IsClassifierOf (insert bs at b) d)
    → IsClassifierOfRules rs c → IsBoxOf r b → IsClassifierOfRules (insert rs at r) d
rules_inserted rs at r b c d step h is =
    let bs : List (List SpanSet) = boxes_for rs in
    rules_classifier (insert rs at r) (insert bs at b) d (boxes-insert rs bs at r b (boxes_for_are rs) is) (step bs (boxes_classifier rs bs c (boxes_for_are rs) h))

pub rules_replaced : (rs : List Rule) (at : ℕ) (r : Rule) (b : List SpanSet) (c d : Classified) → ((bs : List (List SpanSet)) → IsClassifierOf bs c → IsClassifierOf (set bs at b) d)
    → IsClassifierOfRules rs c → IsBoxOf r b → IsClassifierOfRules (set rs at r) d
rules_replaced rs at r b c d step h is =
    let bs : List (List SpanSet) = boxes_for rs in
    rules_classifier (set rs at r) (set bs at b) d (boxes-set rs bs at r b (boxes_for_are rs) is) (step bs (boxes_classifier rs bs c (boxes_for_are rs) h))

pub rules_removed : (rs : List Rule) (at : ℕ) (c d : Classified) → ((bs : List (List SpanSet)) → IsClassifierOf bs c → IsClassifierOf (remove bs at) d)
    → IsClassifierOfRules rs c → IsClassifierOfRules (remove rs at) d
rules_removed rs at c d step h =
    let bs : List (List SpanSet) = boxes_for rs in
    rules_classifier (remove rs at) (remove bs at) d (boxes-remove rs bs at (boxes_for_are rs)) (step bs (boxes_classifier rs bs c (boxes_for_are rs) h))

pub no_rules : (c : Classified) → IsClassifierOf [] c → IsClassifierOfRules [] c
no_rules c h = rules_classifier [] [] c tt h

pub rules_answered : (rs : List Rule) (point : List ℕ) (c : Classified) (bits : List Bool) → ((field : Field) → number_on point field ≤ top field)
    → ((bs : List (List SpanSet)) → IsClassifierOf bs c → bits ≡ map (box_matches point) bs) → IsClassifierOfRules rs c → bits ≡ map (allows_each point) rs
rules_answered rs point c bits within answered h =
    let bs : List (List SpanSet) = boxes_for rs in
    answered bs (boxes_classifier rs bs c (boxes_for_are rs) h) ∙ point_answers rs bs point (boxes_for_are rs) within

-- ---- rules that allow the same numbers

allow_answers : (rs os : List Rule) → AllowTheSame rs os → (field : Field) (x : ℕ) → row_at (λ r y. allows r field y) rs x ≡ row_at (λ r y. allows r field y) os x
allow_answers [] [] h field x = refl
allow_answers [] (o ∷ os) h field x = absurd h
allow_answers (r ∷ rs) [] h field x = absurd h
allow_answers (r ∷ rs) (o ∷ os) h field x =
    ap (λ (b : Bool). b ∷ row_at (λ q y. allows q field y) rs x) (h.0 field x) ∙ ap (λ (bs : List Bool). allows o field x ∷ bs) (allow_answers rs os h.1 field x)

allow_as_many : (rs os : List Rule) → AllowTheSame rs os → length rs ≡ length os
allow_as_many [] [] h = refl
allow_as_many [] (o ∷ os) h = absurd h
allow_as_many (r ∷ rs) [] h = absurd h
allow_as_many (r ∷ rs) (o ∷ os) h = ap suc (allow_as_many rs os h.1)

pub same_numbers : SameNumbersSameClassifier
same_numbers rs os c same h =
    let one : HaveOneRow allows allows rs os = record { size = allow_as_many rs os same; rows = λ field x le. allow_answers rs os same field x } in
    classifier_alike allows allows rs os c one h

renamed_allows : (name : List ℕ) (r : Rule) (field : Field) (x : ℕ) → allows r field x ≡ allows (with_chain_name name r) field x
unfolding allows
renamed_allows name r field x = refl

allow_themselves : (rs : List Rule) → AllowTheSame rs rs
allow_themselves [] = tt
allow_themselves (r ∷ rs) = (λ field x. refl, allow_themselves rs)

renamed_one : (rs : List Rule) (at : ℕ) (r : Rule) (name : List ℕ) → slice_get rs at ≡ Some r → AllowTheSame rs (set rs at (with_chain_name name r))
renamed_one [] at r name is = tt
renamed_one (q ∷ rs) zero r name is =
    let e : q ≡ r = cc in
    (λ field x. ap (λ (s : Rule). allows s field x) e ∙ renamed_allows name r field x, allow_themselves rs)
renamed_one (q ∷ rs) (suc at) r name is = (λ field x. refl, renamed_one rs at r name is)

pub renamed_at : RenamedOneSameClassifier
renamed_at rs at r name c is h = same_numbers rs (set rs at (with_chain_name name r)) c (renamed_one rs at r name is) h

pub renamed_or_not : (b : Bool) (name : List ℕ) (r : Rule) (field : Field) (x : ℕ) → allows r field x ≡ allows (cond b (with_chain_name name r) r) field x
renamed_or_not true name r field x = renamed_allows name r field x
renamed_or_not false name r field x = refl

renamed_many : (rs : List Rule) (test : Rule → Bool) (name : List ℕ) → AllowTheSame rs (map (λ r. cond (test r) (with_chain_name name r) r) rs)
renamed_many [] test name = tt
renamed_many (r ∷ rs) test name = (renamed_or_not (test r) name r, renamed_many rs test name)

pub renamed_where : RenamedManySameClassifier
renamed_where rs test name c h = same_numbers rs (map (λ r. cond (test r) (with_chain_name name r) r) rs) c (renamed_many rs test name) h

-- ---- one classifier, one line

abbrev Cuts : Type 0
Cuts = List (ℕ × List Bool)

abbrev IsLine : List Rule → Field → Cuts → Type 0
IsLine rs field line = IsLineOf (λ r x. allows r field x) (top field) rs line

pub one_classifier : RulesHaveOneClassifier
one_classifier rs c d g h =
    let classified : ℕ → List Cuts → Classified = λ n ls. record { len = n; lines = ls } in
    let size : length c.lines ≡ length d.lines = g.fields ∙ sym h.fields in
    let lines : c.lines ≡ d.lines =
    same_lists c.lines d.lines size (λ k e lt.
    (let long : length c.lines ≡ length all_fields = g.fields in
    let f = field_at k (omega (arith, long)) in
    let same : line_on f.0 c ≡ line_on f.0 d = one_line (λ r x. allows r f.0 x) (top f.0) rs (line_on f.0 c) (line_on f.0 d) (g.lines f.0) (h.lines f.0) in
    let here : get_or c.lines k [] ≡ get_or d.lines k [] = sym (ap (λ j. get_or c.lines j []) f.1) ∙ same ∙ ap (λ j. get_or d.lines j []) f.1 in
    get_or_default c.lines k e [] lt ∙ here ∙ sym (get_or_default d.lines k e [] (omega arith)))) in
    ap (λ n. classified n c.lines) (g.len ∙ sym h.len) ∙ ap (λ (ls : List Cuts). classified d.len ls) lines

pub computed_line : RulesHaveTheComputedLine
computed_line rs field line = (
  λ h. is_line_of (λ r x. allows r field x) (top field) rs line h,
  λ e. (let P : Cuts → Type 0 = λ l. IsLine rs field l in subst P (sym e) (line_of_is_line (λ r x. allows r field x) (top field) rs)),
)

pub rules_line : (rs : List Rule) (field : Field) (c : Classified) → IsClassifierOfRules rs c → line_on field c ≡ lines_of rs field
rules_line rs field c h = (computed_line rs field (line_on field c)).0 (h.lines field)
