-- How many rules match in a walk at most, by a number for each chain.
use Rattle.std.specs.Prelude.{◌≡◌, ℕ, ◌+◌, ◌-◌, ◌<◌, ◌≤◌, min, List, [], ◌∷◌, length, position, slice_index, Option, Some, None}
use Rattle.fields.specs.declared.packet.hook.Hook.{Hook}
use Rattle.rules.specs.declared.rule.target.Target.{Target}
use Rattle.rules.specs.declared.rule.target.Target.TheVariants as target
use Rattle.rules.specs.rule.Actions.{target_of}
use Rattle.rules.specs.rule.Rules.{Rule}
use Rattle.table.specs.chains.Table.{Chain, Table, chain_at, is_named}
use Rattle.table.specs.steps.Kept.{hook_index}

-- by how much a rule that matches lengthens a walk that it doesn't decide: by itself and, with `-j` or `-g`, by the number of the chain that it names
abbrev pub added : (List ℕ → ℕ) → Option Target → ℕ
added number None = 1
added number (Some target.Log) = 1
added number (Some target.Accept) = 0
added number (Some target.Drop) = 0
added number (Some (target.Reject kind)) = 0
added number (Some target.Return) = 1
added number (Some (target.Jump chain)) = 1 + number chain
added number (Some (target.Goto chain)) = 1 + number chain

-- the same of all these rules
abbrev pub all_added : (List ℕ → ℕ) → List Rule → ℕ
all_added number [] = 0
all_added number (rule ∷ rules) = added number (target_of rule) + all_added number rules

-- the number of the chain of a name, where the chains have these
abbrev pub number_of : List Chain → List ℕ → List ℕ → ℕ
number_of chains numbers name = elim (position (is_named name) chains) [ None ↦ 0 | Some place ↦ slice_index numbers place ]

-- by how much the rules of the chain at a place lengthen a walk, 65,536 standing for all that is more
abbrev pub added_at : Table → List ℕ → ℕ → ℕ
added_at t numbers place = min 65536 (all_added (number_of t.chains numbers) (chain_at t place).rules)

-- the rules of each of the first so many chains lengthen a walk by no more than the chain's number
abbrev pub AreBounds : Table → List ℕ → ℕ → Type 0
AreBounds t numbers count = (place : ℕ) → place < count → added_at t numbers place ≤ slice_index numbers place

-- by some numbers, the rules of the hook's chain lengthen a walk by less than 65,536
abbrev pub IsBounded : Table → Hook → Type 0
IsBounded t hook = (numbers : List ℕ) × AreBounds t numbers (length t.chains) × (slice_index numbers (hook_index hook) < 65536)

-- no number is greater than the other at its place
abbrev pub AreBelow : List ℕ → List ℕ → Type 0
AreBelow numbers others = (place : ℕ) → slice_index numbers place ≤ slice_index others place

-- no bounds are less than these numbers
abbrev pub AreLeast : Table → List ℕ → Type 0
AreLeast t numbers = (bounds : List ℕ) → AreBounds t bounds (length t.chains) → AreBelow numbers bounds

-- the least bounds, one for each chain
pub record AreLeastBounds (t : Table) (numbers : List ℕ) : Type 0 where
  pub bounds : AreBounds t numbers (length t.chains)
  pub least : AreLeast t numbers
  pub long : length numbers ≡ length t.chains

-- as many numbers, and if the old ones were below some bounds, so are the new ones
pub record Raises (t : Table) (old new : List ℕ) : Type 0 where
  pub long : length new ≡ length old
  pub below : (bounds : List ℕ) → AreBounds t bounds (length t.chains) → AreBelow old bounds → AreBelow new bounds

-- by how much the numbers can still be raised, each to 65,536 at most
abbrev pub room_left : List ℕ → ℕ
room_left [] = 0
room_left (number ∷ numbers) = (65536 - number) + room_left numbers
