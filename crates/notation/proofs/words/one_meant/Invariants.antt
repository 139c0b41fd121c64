use Rattle.std.proofs.Common.{◌≡◌, ◌≤◌, ℕ, List, map, true}
use Rattle.std.specs.Borrow.{Bor}
use Rattle.fields.specs.numbers.Field.{top}
use Rattle.fields.specs.numbers.Spans.{has}
use Rattle.notation.specs.Words.{are_known, one_means}
use Rattle.notation.proofs.words.one_meant.Given as goal

-- the values so far are known, and the set has the numbers of which one of them holds
abbrev pub invariant-loop-text : goal.invariant-loop-text
invariant-loop-text l = record {
  can : (goal.iterator-loop-text).can_next l.text-iterator;
  finite : (goal.iterator-loop-text).is_finite l.text-iterator;
  greatest : l.set.top ≡ top l.fn.field;
  known : are_known l.fn.field (map (λ (text : Bor (List ℕ)). text.now) l.yielded) ≡ true;
  members : (x : ℕ) → x ≤ top l.fn.field → has l.set.intervals x ≡ one_means l.fn.field (map (λ (text : Bor (List ℕ)). text.now) l.yielded) x;
}
