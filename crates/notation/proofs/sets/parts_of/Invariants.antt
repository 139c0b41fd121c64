use Rattle.std.proofs.Common.{◌≡◌, ℕ, ◌≤◌, take, flat_map}
use Rattle.std.specs.Prelude.{All}
use Rattle.fields.specs.numbers.Field.{top}
use Rattle.fields.specs.numbers.Spans.{has}
use Rattle.notation.specs.IntervalText.{IsPart}
use Rattle.notation.specs.SetText.{span_parts}
use Rattle.notation.proofs.sets.parts_of.Given as goal

-- the parts of the intervals so far
abbrev pub invariant-loop-span : goal.invariant-loop-span
invariant-loop-span l = record {
  items : l.parts.items ≡ flat_map (span_parts l.field) (take l.span-index l.spans);
  members : (x : ℕ) → x ≤ top l.field → has l.parts.items x ≡ has (take l.span-index l.spans) x;
  parts : All (IsPart l.field) l.parts.items;
}
