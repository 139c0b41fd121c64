-- The search for the next of some things that passes a test.
use Rattle.std.specs.Prelude.{ℕ, ◌+◌, Bool, List, drop, Option}
use Rattle.std.specs.Option.{option_map}
use Rattle.std.specs.List.{position}

-- the least place, at or after `from`, of a box or rule that passes the test
abbrev pub next_match : {B : Type 0} → (B → Bool) → List B → ℕ → Option ℕ
next_match test things from = option_map (λ (k : ℕ). from + k) (position test (drop from things))
