-- What it means that a call of the code gives what steps give that may be refused, where both have the same faults and only the
-- call can run out of memory.
use Rattle.std.specs.Prelude.{Bool, Option, Some, None, Result, if◌then◌else◌}
use Rattle.fields.specs.Refusals.{GivesFor}
pub use Rattle.fields.specs.Refusals.{◌>>=◌, or_refused, refused_as, made_into}

-- the fault, unless it is that memory ran out
abbrev pub unless_out_of_memory : {E : Type 0} → (E → Bool) → E → Option E
unless_out_of_memory ran_out e = if ran_out e then None else Some e

-- the call's value, seen through `view`, is the definition's value, and its fault the definition's fault, unless it says that
-- memory ran out
abbrev pub Gives : {X Y E : Type 0} → (E → Bool) → (X → Y) → Result X E → Result Y E → Type 0
Gives ran_out view result given = GivesFor (unless_out_of_memory ran_out) view result given
