-- What is said of the packets that a rule matches, and of those of a leaf, where two tables are compared.
use Rattle.std.specs.Prelude.{◌≡◌, ◌≢◌, ◌⊎◌, ℕ, List, All, Any}
use Rattle.fields.specs.declared.packet.hook.Hook.{Hook}
use Rattle.fields.specs.Packet.{PacketView as Packet}
use Rattle.table.specs.chains.Table.{Table}
use Rattle.table.specs.declared.verdict.Verdict.{Verdict}
use Rattle.table.specs.declared.verdict.Verdict.TheVariants.{TooLong}
use Rattle.table.specs.declared.walk.trail.Step.{Step}
use Rattle.table.specs.walk.Walk.{walk}
use Rattle.questions.specs.Foreign.{Assignment}
use Rattle.questions.specs.Leaves.{entry_of}
use Rattle.questions.specs.Scopes.{AreExactUnder, AreLeavesUnder, IsOf, IsSurely, Whole, known_under, left_under, scope_of}
use Rattle.questions.specs.Written.{HasNoneWritten, IsWritten}
use Rattle.questions.specs.asked.Differing.{HasPackets, IsNotDead, MayDifferOn}
use Rattle.questions.specs.asked.Rule.{IsDeadAt}
use Rattle.questions.specs.asked.Verdicts.{IsAlike}
use Rattle.questions.specs.boxes.Boxes.{IsAtHook, IsBoth}
use Rattle.questions.specs.declared.walking.scope.Scope.{Scope}
use Rattle.questions.specs.declared.walking.task.Leaf.{Leaf}
use Rattle.questions.specs.steps.Takers.{IsScopeAt, IsMatchedAt}
use Rattle.questions.specs.steps.Taken.{IsUnfinishedUnder}

-- no packet at the hook that the rule matches has a walk that is too long
abbrev pub AreShort : Table → Step → Hook → Type 0
AreShort t step hook = (p : Packet) → IsMatchedAt t step hook p → (walk t p).verdict ≢ TooLong

-- both tables give each packet at the hook that a rule of the table matches the same verdict
abbrev pub IsSameOf : Table → Table → Table → Hook → Step → Type 0
IsSameOf t old new hook step = (p : Packet) → IsMatchedAt t step hook p → IsAlike old new p

-- so does it, or the rule is on the walk of no packet at the hook, and no packet that it matches has one that is too long
abbrev pub IsSettled : Table → Table → Table → Hook → Step → Type 0
IsSettled t old new hook step = IsSameOf t old new hook step ⊎ (IsDeadAt t (entry_of t.chains step) hook × AreShort t step hook)

-- the rule isn't known to be dead, and the packets that its box has, under answers that meet what it needs, may get different verdicts
abbrev pub MayDifferOf : Whole → Whole → Whole → Hook → ℕ → Step → Type 0
MayDifferOf own old new hook budget step =
    IsNotDead own step hook budget × ((scope : Scope) × IsScopeAt own.table own.needs step hook scope × MayDifferOn old new hook budget scope)

-- ---- the packets of a leaf, in a second table

-- the leaf has this verdict, or no packet line writes a packet of its box
abbrev pub IsUnwritten : Hook → Verdict → Leaf → Type 0
IsUnwritten hook verdict leaf = (leaf.verdict ≡ verdict) ⊎ HasNoneWritten hook leaf.area

-- the leaves have each packet of the scope that can be at the hook, whatever holds, and each shows the walks of its packets
pub record AreWalked (t : Whole) (hook : Hook) (scope : Scope) (found : List Leaf) : Type 0 where
  pub leaves : (a : Assignment) → AreLeavesUnder (left_under t a) (known_under t a) hook scope found
  pub exact : (a : Assignment) → AreExactUnder (left_under t a) (known_under t a) hook scope found
  pub decided : (a : Assignment) → All (IsSurely (known_under t a)) found

-- the leaf has packets that can be at the hook, and they can't all be walked within the budget, under its answers
abbrev pub CantBeFollowed : Whole → Hook → ℕ → Leaf → Type 0
CantBeFollowed t hook budget leaf =
    HasPackets hook leaf.area × ((own : Scope) × IsBoth leaf.area leaf.area own.area × (own.answers ≡ leaf.answers) × IsUnfinishedUnder t hook own budget)

-- under some assignment the table gives another verdict to a packet of the leaf that can be at the hook
abbrev pub IsOtherIn : Whole → Hook → Leaf → Type 0
IsOtherIn t hook leaf =
    (a : Assignment) × (p : Packet) × IsAtHook p × (p.hook ≡ hook) × IsOf (known_under t a) p (scope_of leaf)
    × ((walk (left_under t a) p).verdict ≢ leaf.verdict)

-- it gives the leaf's verdict to each packet of the leaf that a line writes
abbrev pub GivesWritten : Whole → Hook → Leaf → Type 0
GivesWritten t hook leaf =
    (a : Assignment) (p : Packet) → IsWritten p → p.hook ≡ hook → IsOf (known_under t a) p (scope_of leaf)
    → (walk (left_under t a) p).verdict ≡ leaf.verdict

-- the leaf can't be followed, or a packet of it gets another verdict, and none that a line writes does
abbrev pub MayDifferIn : Whole → Hook → ℕ → Leaf → Type 0
MayDifferIn t hook budget leaf = CantBeFollowed t hook budget leaf ⊎ (IsOtherIn t hook leaf × GivesWritten t hook leaf)

-- the same of some leaves together
abbrev pub MayDifferAmong : Whole → Hook → ℕ → List Leaf → Type 0
MayDifferAmong t hook budget leaves =
    Any (CantBeFollowed t hook budget) leaves ⊎ (Any (IsOtherIn t hook) leaves × All (GivesWritten t hook) leaves)
