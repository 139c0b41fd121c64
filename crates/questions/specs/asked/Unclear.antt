-- Where alone an answer may be unclear, given a budget of steps.
use Rattle.std.specs.Prelude.{◌≡◌, ◌⊎◌, ℕ, ◌<◌, List, [], ◌∷◌, ◌++◌, length, Any, Contains}
use Rattle.fields.specs.declared.packet.hook.Hook.{Hook}
use Rattle.fields.specs.Packet.{PacketView as Packet, IsPacket}
use Rattle.table.specs.declared.walk.trail.Step.{Step}
use Rattle.table.specs.walk.Walk.{walk}
use Rattle.questions.specs.Foreign.{Assignment}
use Rattle.questions.specs.Leaves.{entry_of}
use Rattle.questions.specs.Scopes.{Whole, left_under}
use Rattle.questions.specs.Written.{HasNoneWritten}
use Rattle.questions.specs.boxes.Boxes.{HasNumbers, HasOwnInterfaces, IsAtHook, IsIn, IsOnly}
use Rattle.questions.specs.declared.foreign.answers.Answer.{Answer}
use Rattle.questions.specs.declared.asked.rule.Life.{Life}
use Rattle.questions.specs.declared.asked.rule.Life.TheVariants as life
use Rattle.questions.specs.declared.seeking.way.Way.{Way}
use Rattle.questions.specs.declared.walking.scope.Scope.{Scope}
use Rattle.questions.specs.steps.Lengths.{IsBounded}
use Rattle.questions.specs.steps.Seeking.{IsHere, AreTries, IsFirst}
use Rattle.questions.specs.steps.Taken.{IsUnfinishedUnder}

-- the walk of a box that has just this packet isn't finished within the budget, under some answers
abbrev pub IsUnended : Whole → Hook → ℕ → List Answer → Packet → Type 0
IsUnended t hook budget answers p = (own : Scope) × IsOnly own.area p × (own.answers ≡ answers) × IsUnfinishedUnder t hook own budget

-- a way's box has numbers, but no packet that a line writes; or a packet whose walks aren't known to end within the budget, where the way's answers are
-- right
abbrev pub IsUntold : Whole → Hook → ℕ → Way → Type 0
IsUntold t hook budget way =
    (HasNumbers way.scope.area × HasNoneWritten hook way.scope.area)
    ⊎ ((p : Packet) × IsAtHook p × (p.hook ≡ hook) × IsIn way.scope.area p × IsUnended t hook budget way.scope.answers p)

-- at the hook each packet of a scope that comes to the rule is one of some way's, whatever holds
abbrev pub HaveAll : Whole → Scope → Step → Hook → List Way → Type 0
HaveAll t start step hook ways =
    (a : Assignment) (p : Packet) → IsAtHook p → p.hook ≡ hook → IsHere a p start
    → Contains (walk (left_under t a) p).trail (entry_of (left_under t a).chains step) → Any (λ (way : Way). IsHere a p way.scope) ways

-- a packet of a scope that comes to the rule is sought in vain: after as many tries as the budget allows some way is left; or after fewer the last way
-- can't be told. No packet that comes there is lost.
pub record IsSoughtInVain (t : Whole) (start : Scope) (step : Step) (hook : Hook) (budget : ℕ) : Type 0 where
  pub first : Way
  pub ways : List Way
  pub begins : IsFirst t start step first
  pub n : ℕ
  pub tries : AreTries n t (first ∷ []) ways
  pub all : HaveAll t start step hook ways
  pub vain : ((n ≡ budget) × (0 < length ways))
      ⊎ ((n < budget) × ((left : List Way) × (way : Way) × (ways ≡ left ++ way ∷ []) × IsUntold t hook budget way))

-- it is sought in vain; or no numbers for the chains rule out walks that are too long
abbrev pub MayComeFrom : Whole → Scope → Step → Hook → ℕ → Type 0
MayComeFrom t start step hook budget = IsSoughtInVain t start step hook budget ⊎ (IsBounded t.table hook → ⊥)

-- the scope has all packets at the hook, whatever holds, and only such with interfaces as these have
pub record HasHook (hook : Hook) (scope : Scope) : Type 0 where
  pub all : (p : Packet) → IsAtHook p → p.hook ≡ hook → IsIn scope.area p
  pub only : (p : Packet) → IsPacket p → p.hook ≡ hook → IsIn scope.area p → HasOwnInterfaces p
  pub unasked : scope.answers ≡ []

-- that is so of all packets at the hook
abbrev pub MayLiveUnder : Whole → Step → Hook → ℕ → Type 0
MayLiveUnder t step hook budget = (start : Scope) × HasHook hook start × MayComeFrom t start step hook budget

-- an answer about a rule at one hook is unclear only where this fact holds
abbrev pub IsUnclearAt : Type 0 → Life → Type 0
IsUnclearAt may life.Dead = Unit {0}
IsUnclearAt may (life.Live words answers) = Unit {0}
IsUnclearAt may life.Unclear = may

-- an answer about a rule is unclear only where one of two facts holds at each hook, and the second one at one hook at least
abbrev pub IsUnclearBy : (Hook → Type 0) → (Hook → Type 0) → Life → Type 0
IsUnclearBy dead may life.Dead = Unit {0}
IsUnclearBy dead may (life.Live words answers) = Unit {0}
IsUnclearBy dead may life.Unclear = ((hook : Hook) → dead hook ⊎ may hook) × ((hook : Hook) × may hook)
