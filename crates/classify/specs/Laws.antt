-- What holds of lines and of the classifier of rules, whatever the code does.
use Rattle.std.specs.Prelude.{◌≡◌, ℕ, Bool, List, ◌↔◌, map, Some, slice_get, slice_set, if◌then◌else◌}
use Rattle.fields.specs.numbers.Spans.{SpanSet}
use Rattle.fields.specs.declared.numbers.field.Field.{Field}
use Rattle.fields.specs.numbers.Field.{top}
use Rattle.rules.specs.Boxed.{IsBox, IsBoxOf}
use Rattle.rules.specs.rule.Actions.{with_chain_name}
use Rattle.rules.specs.rule.Allows.{allows, allows_each}
use Rattle.rules.specs.rule.Rules.{Rule}
use Rattle.classify.specs.Line.{IsLineOf}
use Rattle.classify.specs.Classifier.{box_allows, Classified, IsClassifierOf, IsClassifierOfRules, IsPoint, box_matches, AreBoxesOf, AllowTheSame, lines_of}
use Rattle.classify.specs.NextMatch.{next_match}

-- ---- A law of lines.

-- boxes have one line on a field
abbrev pub BoxesHaveOneLine : Type 0
BoxesHaveOneLine = (field : Field) (top : ℕ) (boxes : List (List SpanSet)) (line other : List (ℕ × List Bool))
    → IsLineOf (λ box x. box_allows box field x) top boxes line
    → IsLineOf (λ box x. box_allows box field x) top boxes other → line ≡ other

-- ---- What holds of the classifier of rules, whatever the code does.

-- each rule has a box
abbrev pub EachRuleHasABox : Type 0
EachRuleHasABox = (rule : Rule) → (box : List SpanSet) × IsBox box × IsBoxOf rule box

-- the classifier of the rules' boxes is that of the rules, and the other way round
abbrev pub BoxesHaveTheRulesClassifier : Type 0
BoxesHaveTheRulesClassifier =
    (rules : List Rule) (boxes : List (List SpanSet)) (c : Classified) → AreBoxesOf rules boxes
    → IsClassifierOf boxes c ↔ IsClassifierOfRules rules c

-- the next box that allows each number of a point belongs to the next rule that does
abbrev pub BoxesHaveTheRulesMatches : Type 0
BoxesHaveTheRulesMatches =
    (rules : List Rule) (boxes : List (List SpanSet)) (point : List ℕ) (from : ℕ) → AreBoxesOf rules boxes → IsPoint point
    → next_match (box_matches point) boxes from ≡ next_match (allows_each point) rules from

-- rules have one classifier: two of the same rules are equal
abbrev pub RulesHaveOneClassifier : Type 0
RulesHaveOneClassifier = (rules : List Rule) (c d : Classified) → IsClassifierOfRules rules c → IsClassifierOfRules rules d → c ≡ d

-- a line is that of the rules on a field exactly where it is the computed one
abbrev pub RulesHaveTheComputedLine : Type 0
RulesHaveTheComputedLine =
    (rules : List Rule) (field : Field) (line : List (ℕ × List Bool)) → IsLineOf (λ rule x. allows rule field x) (top field) rules line
    ↔ (line ≡ lines_of rules field)

-- rules that allow the same numbers have the same classifier
abbrev pub SameNumbersSameClassifier : Type 0
SameNumbersSameClassifier = (rules others : List Rule) (c : Classified) → AllowTheSame rules others → IsClassifierOfRules rules c
    → IsClassifierOfRules others c

-- renaming the target of one rule leaves the classifier as it is
abbrev pub RenamedOneSameClassifier : Type 0
RenamedOneSameClassifier =
    (rules : List Rule) (at : ℕ) (rule : Rule) (name : List ℕ) (c : Classified) → slice_get rules at ≡ Some rule
    → IsClassifierOfRules rules c
    → IsClassifierOfRules (slice_set rules at (with_chain_name name rule)) c

-- so does renaming the targets of all rules that pass a test
abbrev pub RenamedManySameClassifier : Type 0
RenamedManySameClassifier =
    (rules : List Rule) (test : Rule → Bool) (name : List ℕ) (c : Classified) → IsClassifierOfRules rules c
    → IsClassifierOfRules (map (λ rule. if test rule then with_chain_name name rule else rule) rules) c
