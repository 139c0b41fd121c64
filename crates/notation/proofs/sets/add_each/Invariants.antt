use Rattle.std.proofs.Common.{◌≡◌, ℕ, ◌-◌, ◌||◌, ◌&&◌, ◌++◌, nat_le, nat_lt}
use Rattle.std.specs.Prelude.{All}
use Rattle.fields.specs.numbers.Spans.{has}
use Rattle.notation.specs.IntervalText.{IsPart}
use Rattle.notation.specs.SetText.{one_by_one}
use Rattle.notation.proofs.sets.add_each.Given as goal

-- the numbers before, and those of the interval so far
abbrev pub invariant-loop-number : goal.invariant-loop-number
invariant-loop-number l = record {
  items : l.parts.items ≡ l.initial.parts.items ++ one_by_one l.span.first (l.number - l.span.first);
  members : (x : ℕ) → has l.parts.items x ≡ (has l.initial.parts.items x || (nat_le l.span.first x && nat_lt x l.number));
  parts : All (IsPart l.fn.field) l.initial.parts.items → All (IsPart l.fn.field) l.parts.items;
}
