use Rattle.std.proofs.Common.{◌≢◌, List, [], ◌++◌, take}
use Rattle.fields.specs.declared.numbers.spans.Interval.{Interval}
use Rattle.notation.specs.SetText.{IsListText}
use Rattle.notation.proofs.sets.add_ranges.Given as goal

-- the texts of the intervals so far, after those of any others
abbrev pub invariant-loop-span : goal.invariant-loop-span
invariant-loop-span l = (before : List Interval) → before ≢ [] → IsListText l.field before l.initial.list.items
    → IsListText l.field (before ++ take l.span-index l.spans) l.list.items
