-- What `--when` says of conditions: of each, by its number, whether it holds, or nothing.
use Rattle.std.specs.Prelude.{ℕ, Bool, false, not, is_some, List, map, filter, Option, Some, None, slice_get}
use Rattle.questions.specs.declared.foreign.answers.Answer.{Answer}
use Rattle.questions.specs.declared.foreign.need.Need.{Need}

-- there is such a condition, and nothing is said of it
abbrev pub is_open : List (Option Bool) → ℕ → Bool
is_open given condition = elim (slice_get given condition) [ None ↦ false | Some said ↦ not (is_some said) ]

-- an answer, as what a rule may need
abbrev pub need_of : Answer → Need
need_of answer = record { condition = answer.condition; inverted = not answer.holds }

-- the answers about conditions of which nothing is said, in their order
abbrev pub open_among : List (Option Bool) → List Answer → List Need
open_among given answers = map need_of (filter (λ (answer : Answer). is_open given answer.condition) answers)
