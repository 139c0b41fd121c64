-- The classifier of a list of rules, or of their boxes: for each field a line with the numbers at which some rule's answer changes.
use Rattle.std.specs.Prelude.{◌≡◌, ◌≢◌, ℕ, suc, ◌≤◌, Bool, IsTrue, List, [], length, slice_index_or, ◌∷◌}
use Rattle.std.specs.List.{list_all}
use Rattle.fields.specs.declared.numbers.field.Field.{Field}
use Rattle.fields.specs.numbers.Field.{all_fields, index, number_on, top}
use Rattle.fields.specs.numbers.Spans.{SpanSet, has}
use Rattle.rules.specs.Boxed.{set_on, IsBoxOf}
use Rattle.rules.specs.rule.Allows.{allows}
use Rattle.rules.specs.rule.Rules.{Rule}
use Rattle.classify.specs.Line.{IsLineOf, starts_at, line_of}

-- ---- The classifier of a list of rules, or of their boxes: for each field a line with the numbers at which some rule's answer changes.

-- the box allows the number on the field
abbrev pub box_allows : List SpanSet → Field → ℕ → Bool
box_allows box field x = has (set_on field box) x

-- the box allows each of these numbers, given one a field in the order of the fields
abbrev pub box_matches : List ℕ → List SpanSet → Bool
box_matches numbers box = list_all (λ field. box_allows box field (number_on numbers field)) all_fields

-- what a classifier shows: how many boxes it has, and the line of each field, in the order of the fields
pub record Classified : Type 0 where
  pub len : ℕ
  pub lines : List (List (ℕ × List Bool))

-- what a classifier shows, and how many boxes without a new cut can be added before memory is needed
pub record ClassifiedAndRoom : Type 0 where
  pub shown : Classified
  pub room : ℕ

-- the line of a field
abbrev pub line_on : Field → Classified → List (ℕ × List Bool)
line_on field c = slice_index_or c.lines (index field) []

-- the classifier of some things, each of which allows some numbers on each field: it has their count, and their line on each field
pub record IsClassifierBy {B : Type 0} (allows : B → Field → ℕ → Bool) (things : List B) (c : Classified) : Type 0 where
  pub len : c.len ≡ length things
  pub fields : length c.lines ≡ length all_fields
  pub lines : (field : Field) → IsLineOf (λ b x. allows b field x) (top field) things (line_on field c)

-- the classifier of these boxes, in their order
abbrev pub IsClassifierOf : List (List SpanSet) → Classified → Type 0
IsClassifierOf boxes c = IsClassifierBy box_allows boxes c

-- the classifier of these rules, in their order
abbrev pub IsClassifierOfRules : List Rule → Classified → Type 0
IsClassifierOfRules rules c = IsClassifierBy allows rules c

-- if the old one is the classifier of some boxes, the new one is that of the edited boxes, whatever boxes they are
abbrev pub EditsBoxes : (List (List SpanSet) → List (List SpanSet)) → Classified → Classified → Type 0
EditsBoxes edit old new = (boxes : List (List SpanSet)) → IsClassifierOf boxes old → IsClassifierOf (edit boxes) new

-- the same of rules
abbrev pub EditsRules : (List Rule → List Rule) → Classified → Classified → Type 0
EditsRules edit old new = (rules : List Rule) → IsClassifierOfRules rules old → IsClassifierOfRules (edit rules) new

-- each number at which the box's answer changes on a field is already the start of a piece of the line
abbrev pub HasNoNewCut : List SpanSet → Classified → Type 0
HasNoNewCut box c =
    (field : Field) (x : ℕ) → suc x ≤ top field → box_allows box field x ≢ box_allows box field (suc x)
    → IsTrue (starts_at (line_on field c) (suc x))

-- each number is at most its field's top
abbrev pub IsPoint : List ℕ → Type 0
IsPoint point = (field : Field) → number_on point field ≤ top field

-- ---- Rules and their boxes, and the line of rules as a function.

-- each box is that of the rule at its place
abbrev pub AreBoxesOf : List Rule → List (List SpanSet) → Type 0
AreBoxesOf [] [] = Unit {0}
AreBoxesOf (rule ∷ rules) (box ∷ boxes) = IsBoxOf rule box × AreBoxesOf rules boxes
AreBoxesOf rules boxes = ⊥

-- each rule allows the same numbers as the rule at its place in the other list
abbrev pub AllowTheSame : List Rule → List Rule → Type 0
AllowTheSame [] [] = Unit {0}
AllowTheSame (rule ∷ rules) (other ∷ others) =
    ((field : Field) (x : ℕ) → allows rule field x ≡ allows other field x) × AllowTheSame rules others
AllowTheSame rules others = ⊥

-- the line of the rules on a field: each cut up to the field's top, with the rules' answers
abbrev pub lines_of : List Rule → Field → List (ℕ × List Bool)
lines_of rules field = line_of (λ rule x. allows rule field x) (top field) rules
