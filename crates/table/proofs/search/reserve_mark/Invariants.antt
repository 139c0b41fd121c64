use Rattle.std.proofs.Common.{◌≡◌, ℕ, ◌+◌, ◌-◌, ◌≤◌, false, length, get_or}
use Rattle.table.proofs.search.reserve_mark.Given as goal

-- no mark was changed, and no place taken away
abbrev pub invariant-loop-seen : goal.invariant-loop-seen
invariant-loop-seen l = record {
  marks : (k : ℕ) → get_or l.seen.items k false ≡ get_or l.fn.seen.items k false;
  longer : length l.fn.seen.items ≤ length l.seen.items;
}

abbrev pub decreases-loop-seen : goal.decreases-loop-seen
decreases-loop-seen l = l.key + 1 - length l.seen.items
