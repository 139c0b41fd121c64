-- How the walk over keys stands for the walk over names, and the candidates that it keeps.
use Rattle.std.specs.Prelude.{◌≡◌, ℕ, ◌≤◌, List, [], ◌∷◌, length, map, reverse, All, Option, Some, unwrap_or, IfSome}
use Rattle.rules.specs.rule.Allows.{allows_each}
use Rattle.table.specs.steps.Kept.{IsIn, stored_at, name_at, listed}
use Rattle.table.specs.steps.StoredChains.{StoredChain, rules_in}
use Rattle.table.specs.walk.Walk.{Rest, Entry, Hit, Next, Ends, GoesOn, next_of, Walked, whole, walk_within, too_long}
use Rattle.table.specs.declared.chain.entry.Flow.{Flow}
use Rattle.table.specs.declared.verdict.Verdict.{Verdict}
use Rattle.table.specs.declared.walk.Pending.{Pending}
use Rattle.table.specs.declared.walk.StepResult.{StepResult}
use Rattle.table.specs.declared.walk.found.Found.{Found}
use Rattle.table.specs.declared.walk.found.FoundChains.{FoundChains}
use Rattle.table.specs.declared.chain.entry.Flow.TheVariants as flow
use Rattle.table.specs.declared.walk.StepResult.TheVariants as step_result

-- ---- How the walk over keys stands for the walk over names.

-- what is left of the chain under a key
abbrev pub rest_of : List (Option StoredChain) → Pending → Rest
rest_of slots at = record { chain = (stored_at slots at.chain).name; passed = at.passed }

-- what is left of those on the stack, the newest first
abbrev pub rests_of : List (Option StoredChain) → List Pending → List Rest
rests_of slots stack = map (rest_of slots) (reverse stack)

-- what is left of the present chain, and of those on the stack
abbrev pub state_of : List (Option StoredChain) → Pending → List Pending → List Rest
state_of slots at stack = rest_of slots at ∷ rests_of slots stack

-- all of the chain under a key
abbrev pub start : ℕ → Pending
start key = record { chain = key; passed = 0 }

-- where a flow leaves the walk
abbrev pub next_by : List (Option StoredChain) → Flow → Pending → List Pending → Next
next_by slots (flow.Decide v) at stack = Ends v
next_by slots flow.Continue at stack = GoesOn (state_of slots at stack)
next_by slots flow.Return at stack = GoesOn (rests_of slots stack)
next_by slots (flow.Jump key) at stack = GoesOn (rest_of slots (start key) ∷ state_of slots at stack)
next_by slots (flow.Goto key) at stack = GoesOn (rest_of slots (start key) ∷ rests_of slots stack)

-- the chain under the key that a flow leads to stands in the index
abbrev pub LeadsIn : List ℕ → Flow → Type 0
LeadsIn order (flow.Decide v) = Unit {0}
LeadsIn order flow.Continue = Unit {0}
LeadsIn order flow.Return = Unit {0}
LeadsIn order (flow.Jump key) = IsIn order key
LeadsIn order (flow.Goto key) = IsIn order key

-- the flow puts a rest on the stack, and so many places are taken already
abbrev pub NoRoom : ℕ → Flow → List Pending → Type 0
NoRoom places (flow.Decide v) stack = ⊥
NoRoom places flow.Continue stack = ⊥
NoRoom places flow.Return stack = ⊥
NoRoom places (flow.Jump key) stack = places ≤ length stack
NoRoom places (flow.Goto key) stack = ⊥

-- the keys stand in the index
pub record IsState (order : List ℕ) (at : Pending) (stack : List Pending) : Type 0 where
  pub present : IsIn order at.chain
  pub waiting : All (λ (p : Pending). IsIn order p.chain) stack

-- the rule just before the present place, as an entry of the trail
abbrev pub entry_before : List (Option StoredChain) → Pending → Entry
entry_before slots at = record { chain = (stored_at slots at.chain).name; number = at.passed }

-- this rule is the first that matches, and this is its flow
pub record IsHit
    (slots : List (Option StoredChain)) (order : List ℕ) (found : Option Hit) (flow : Flow) (at : Pending) (stack : List Pending) : Type 0 where
  pub hit : Hit
  pub is : found ≡ Some hit
  pub entry : hit.entry ≡ entry_before slots at
  pub next : next_of hit ≡ next_by slots flow at stack
  pub leads : LeadsIn order flow
  pub state : IsState order at stack

-- the result says where the walk was left; of a full stack it says nothing
abbrev pub Follows : List (Option StoredChain) → Next → StepResult → Pending → List Pending → Type 0
Follows slots left (step_result.Decided v) at stack = left ≡ Ends v
Follows slots left step_result.ByPolicy at stack = left ≡ GoesOn []
Follows slots left step_result.Continues at stack = left ≡ GoesOn (state_of slots at stack)
Follows slots left step_result.StackFull at stack = Unit {0}

-- the walk from the first rule of the chain at a place of the index, with room for so many entries
abbrev pub walk_at : ℕ → List (Option StoredChain) → List ℕ → ℕ → Verdict → List ℕ → Walked
walk_at room slots order hook policy values =
    unwrap_or (walk_within room (listed slots order) policy values (whole (name_at slots order hook) ∷ [])) too_long

-- ---- The candidates that a walk keeps.

-- the candidates are, of the rules of the chain under their key, those that allow the packet's numbers
abbrev pub IsFound : List (Option StoredChain) → List ℕ → Found → Type 0
IsFound slots values found = found.candidates ≡ map (allows_each values) (rules_in (stored_at slots found.chain))

-- so are all that are kept, each for its own chain
pub record AreFound (slots : List (Option StoredChain)) (values : List ℕ) (found : FoundChains) : Type 0 where
  pub first : IsFound slots values found.first
  pub odd : IfSome found.odd (IsFound slots values)
  pub even : IfSome found.even (IsFound slots values)
