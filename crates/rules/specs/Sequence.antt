-- Steps of reading a rule, each of which may be refused, and what it means that a call of the code gives what such steps give.
use Rattle.std.specs.Prelude.{◌≡◌, Option, Some, None, Result, Err}
use Rattle.fields.specs.Refusals.{GivesFor}
use Rattle.rules.specs.declared.reading.fault.Refusal.{Refusal}
use Rattle.rules.specs.declared.reading.fault.RuleFault.{RuleFault}
use Rattle.rules.specs.declared.reading.fault.RuleFault.TheVariants as faults
pub use Rattle.fields.specs.Refusals.{◌>>=◌, or_refused}

-- the refusal that a fault stands for; out of memory stands for none
abbrev pub refusal_of : RuleFault → Option Refusal
refusal_of faults.NoMemory = None
refusal_of (faults.Refused e) = Some e

-- the call's value, seen through `view`, is the definition's value, and its refusal the definition's refusal, unless memory ran out
abbrev pub Gives : {X Y : Type 0} → (X → Y) → Result X RuleFault → Result Y Refusal → Type 0
Gives view result given = GivesFor refusal_of view result given

-- where the definition refuses, the call gives that refusal, and never reports that memory ran out
abbrev pub RefusesFirst : {X Y : Type 0} → Result X RuleFault → Result Y Refusal → Type 0
RefusesFirst result given = (e : Refusal) → given ≡ Err e → result ≡ Err (faults.Refused e)
