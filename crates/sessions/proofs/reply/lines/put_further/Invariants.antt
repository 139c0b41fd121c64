use Rattle.std.proofs.Common.{◌≡◌, ℕ, ◌+◌, ◌-◌, List, ◌++◌, length, drop}
use Rattle.fields.specs.text.Tap.{Wrote}
use Rattle.sessions.specs.Replies.{further_numbers}
use Rattle.sessions.proofs.reply.lines.put_further.Given as goal

-- what was written, and the further numbers of what is left of the row
abbrev pub invariant-loop-at : goal.invariant-loop-at
invariant-loop-at g l =
    (done : List ℕ) × Wrote g.W.Write.contents l.initial.output l.output done
    × (further_numbers (l.from + 1) (drop l.from l.row) ≡ done ++ further_numbers (l.next + 1) (drop l.next l.row))

abbrev pub decreases-loop-at : goal.decreases-loop-at
decreases-loop-at g l = length l.row - l.next
