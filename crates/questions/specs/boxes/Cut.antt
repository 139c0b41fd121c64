-- How a rule cuts a box of packets: what they have in common, and the parts outside.
use Rattle.std.specs.Prelude.{◌≡◌, ◌⊎◌, ℕ, true, false, List, Contains, ◌≤◌, ◌<◌, Bool, slice_index_or, not, [], ◌∷◌, ◌++◌, length, All, AllPairs}
use Rattle.fields.specs.numbers.Spans.{SpanSet, has}
use Rattle.classify.specs.Classifier.{IsPoint, box_allows}
use Rattle.rules.specs.rule.Allows.{allows_each, matches}
use Rattle.rules.specs.rule.Rules.{Rule}
use Rattle.fields.specs.declared.numbers.field.TheConstants.{FIELDS}
use Rattle.fields.specs.declared.numbers.field.Field.{Field}
use Rattle.fields.specs.numbers.Field.{top, all_fields, number_on}
use Rattle.rules.specs.rule.Crossing.{IsListedByRule}
use Rattle.questions.specs.boxes.Boxes.{Has, HasNumbers}
use Rattle.questions.specs.declared.boxes.cut.Cut.{Cut}
use Rattle.questions.specs.declared.boxes.cut.Cut.TheVariants.{Apart, Parts, ByPorts}

-- ---- How a rule cuts a box of packets into those that it matches and the others.

-- the numbers are in one of the boxes
abbrev pub IsInSome : List (List SpanSet) → List ℕ → Type 0
IsInSome boxes numbers = (box : List SpanSet) × Contains boxes box × Has box numbers

-- the packets of a box that the rule matches are one part, and the others are in some parts; no part has any other packet
pub record IsCut (rule : Rule) (box inside : List SpanSet) (outside : List (List SpanSet)) : Type 0 where
  pub matched : (numbers : List ℕ) → IsPoint numbers → Has box numbers → matches numbers rule ≡ true
      → Has inside numbers
  pub others : (numbers : List ℕ) → IsPoint numbers → Has box numbers → matches numbers rule ≡ false
      → IsInSome outside numbers
  pub only : (numbers : List ℕ) → IsPoint numbers → Has inside numbers → Has box numbers × (matches numbers rule ≡ true)
  pub rest : (numbers : List ℕ) → IsPoint numbers → IsInSome outside numbers → Has box numbers × (matches numbers rule ≡ false)

-- the box has numbers that the rule allows, each on its field
abbrev pub IsAllowedIn : Rule → List SpanSet → Type 0
IsAllowedIn rule box = (numbers : List ℕ) × IsPoint numbers × Has box numbers × (allows_each numbers rule ≡ true)

-- the rule matches all of the box
abbrev pub MatchesAll : Rule → List SpanSet → Type 0
MatchesAll rule box = (numbers : List ℕ) → IsPoint numbers → Has box numbers → matches numbers rule ≡ true

-- the rule matches none of the box
pub record IsApart (rule : Rule) (box : List SpanSet) : Type 0 where
  pub none : (numbers : List ℕ) → IsPoint numbers → Has box numbers → matches numbers rule ≡ false

-- the packets that the rule matches are in some parts of the box, and each other packet is in one of these or of some others, which have no
-- packet that the rule matches
pub record IsPartedFor (rule : Rule) (box : List SpanSet) (again outside : List (List SpanSet)) : Type 0 where
  pub matched : (numbers : List ℕ) → IsPoint numbers → Has box numbers → matches numbers rule ≡ true
      → IsInSome again numbers
  pub others : (numbers : List ℕ) → IsPoint numbers → Has box numbers → matches numbers rule ≡ false
      → IsInSome again numbers ⊎ IsInSome outside numbers
  pub only : (numbers : List ℕ) → IsPoint numbers → IsInSome again numbers → Has box numbers
  pub rest : (numbers : List ℕ) → IsPoint numbers → IsInSome outside numbers → Has box numbers × (matches numbers rule ≡ false)

-- what a cut says of the box: the rule matches none of it; the part that it matches, and the others; or parts by their ports, some
-- of which are cut again
abbrev pub IsCutBy : Rule → List SpanSet → Cut → Type 0
IsCutBy rule box Apart = IsApart rule box
IsCutBy rule box (Parts inside outside) = IsCut rule box inside outside.items
IsCutBy rule box (ByPorts again outside) = IsPartedFor rule box again.items outside.items

-- ---- Boxes that meet.

-- some number is in both sets
abbrev pub HaveCommon : SpanSet → SpanSet → Type 0
HaveCommon own other = (x : ℕ) × (x ≤ own.top) × (has own.intervals x ≡ true) × (has other.intervals x ≡ true)

-- on each field some number is in both boxes
abbrev pub AreMet : List SpanSet → List SpanSet → Type 0
AreMet own other = (f : Field) → (x : ℕ) × (x ≤ top f) × (box_allows own f x ≡ true) × (box_allows other f x ≡ true)

-- a set has all numbers up to its top
abbrev pub IsWhole : SpanSet → Type 0
IsWhole set = (x : ℕ) → x ≤ set.top → has set.intervals x ≡ true

-- at each place that isn't marked a box has all numbers
abbrev pub AreWholeBut : List Bool → List SpanSet → Type 0
AreWholeBut marks box = (k : ℕ) (mark : Bool) (d : SpanSet) → k < FIELDS → slice_index_or marks k mark ≡ false → IsWhole (slice_index_or box k d)

-- ---- Boxes into which a rule parts a box of packets: what they share, and where alone ports part them.

-- no numbers are in both boxes
abbrev pub ShareNone : List SpanSet → List SpanSet → Type 0
ShareNone one other = (numbers : List ℕ) → IsPoint numbers → Has one numbers → Has other numbers → ⊥

-- boxes that have numbers each, and no two of which share any
pub record AreDisjoint (boxes : List (List SpanSet)) : Type 0 where
  pub some : All HasNumbers boxes
  pub apart : AllPairs ShareNone boxes

-- the boxes into which a cut parts a box
abbrev pub boxes_of : Cut → List (List SpanSet)
boxes_of Apart = []
boxes_of (Parts inside outside) = inside ∷ outside.items
boxes_of (ByPorts again outside) = again.items ++ outside.items

-- a cut leaves at most one box a field outside, and two on which the rule is tested again
abbrev pub AreFew : Cut → Type 0
AreFew Apart = Unit {0}
AreFew (Parts inside outside) = length outside.items ≤ length all_fields
AreFew (ByPorts again outside) = (length again.items ≤ 2) × (length outside.items ≤ length all_fields)

-- a part of a box has only numbers that are listed on a field, or only such as aren't listed there; and the box has some of the others, too
pub record IsSideOf (field : Field) (listed : SpanSet) (box part : List SpanSet) : Type 0 where
  pub side : Bool
  pub here : (numbers : List ℕ) → IsPoint numbers → Has part numbers → has listed.intervals (number_on numbers field) ≡ side
  pub other : (numbers : List ℕ) × IsPoint numbers × Has box numbers × (has listed.intervals (number_on numbers field) ≡ not side)

-- a part of a box is such a side, by ports that a condition of the rule on both ports lists
pub record IsPortPart (rule : Rule) (box part : List SpanSet) : Type 0 where
  pub field : Field
  pub listed : SpanSet
  pub asked : IsListedByRule listed rule
  pub side : IsSideOf field listed box part

-- the parts on which a rule is tested again are such
abbrev pub AreByPorts : Rule → List SpanSet → Cut → Type 0
AreByPorts rule box Apart = Unit {0}
AreByPorts rule box (Parts inside outside) = Unit {0}
AreByPorts rule box (ByPorts again outside) = All (IsPortPart rule box) again.items
