-- Boxes: for each field the set of numbers that a rule allows on it.
use Rattle.std.specs.Prelude.{◌≡◌, ℕ, ◌≤◌, Bool, List, [], map, slice_index_or}
use Rattle.fields.specs.declared.numbers.field.Field.{Field}
use Rattle.fields.specs.declared.numbers.spans.Interval.{Interval}
use Rattle.fields.specs.numbers.Field.{all_fields, index, top}
use Rattle.fields.specs.numbers.Spans.{SpanSet, has}
use Rattle.rules.specs.rule.Allows.{allows}
use Rattle.rules.specs.rule.Rules.{Rule}

-- a box has one set of numbers a field, in the order of the fields, each up to its field's top
abbrev pub IsBox : List SpanSet → Type 0
IsBox spans = map (λ (s : SpanSet). s.top) spans ≡ map top all_fields

-- the box's set on a field
abbrev pub set_on : Field → List SpanSet → List Interval
set_on field box =
    let empty : SpanSet = record { top = 0; intervals = [] } in
    let own : SpanSet = slice_index_or box (index field) empty in own.intervals

-- the set on each field has exactly the numbers, up to the field's top, that pass the test
abbrev pub AreSetsOf : (Field → ℕ → Bool) → List SpanSet → Type 0
AreSetsOf passes box = (field : Field) (x : ℕ) → x ≤ top field → has (set_on field box) x ≡ passes field x

-- the box has on each field exactly the numbers that the rule allows, whatever the rule asks of several fields at once
abbrev pub IsBoxOf : Rule → List SpanSet → Type 0
IsBoxOf rule box = AreSetsOf (allows rule) box
