-- Where alone a comparison of two tables may be unclear, given a budget of steps.
use Rattle.std.specs.Prelude.{◌≡◌, ◌≢◌, ◌⊎◌, ℕ, Bool, IsTrue, List, []}
use Rattle.fields.specs.declared.packet.hook.Hook.{Hook}
use Rattle.fields.specs.numbers.Spans.{SpanSet}
use Rattle.fields.specs.Packet.{PacketView as Packet}
use Rattle.table.specs.declared.walk.trail.Step.{Step}
use Rattle.table.specs.walk.Walk.{Entry, end_verdict}
use Rattle.questions.specs.Ends.{IsRule}
use Rattle.questions.specs.Foreign.{Assignment}
use Rattle.questions.specs.Leaves.{entry_of}
use Rattle.questions.specs.Scopes.{IsOf, ShowsUnder, Whole, known_under, left_under}
use Rattle.questions.specs.Written.{IsWritten}
use Rattle.questions.specs.asked.Changes.{AreChanged}
use Rattle.questions.specs.asked.Rule.{IsDeadAt}
use Rattle.questions.specs.asked.Unclear.{MayLiveUnder}
use Rattle.questions.specs.asked.Verdicts.{IsAlike}
use Rattle.questions.specs.boxes.Boxes.{IsAtHook, IsBoth, IsIn}
use Rattle.questions.specs.declared.asked.likeness.Likeness.{Likeness}
use Rattle.questions.specs.declared.asked.likeness.Likeness.TheVariants.{Same, Differ, Unclear}
use Rattle.questions.specs.declared.walking.scope.Scope.{Scope}
use Rattle.questions.specs.declared.walking.task.Leaf.{Leaf}
use Rattle.questions.specs.steps.Takers.{IsScopeAt}
use Rattle.questions.specs.steps.Taken.{IsUnfinishedUnder}

-- some packet that can be at the hook is in the box
abbrev pub HasPackets : Hook → List SpanSet → Type 0
HasPackets hook box = (p : Packet) × IsAtHook p × (p.hook ≡ hook) × IsIn box p

-- the leaf has packets that can be at the hook; where its answers are right each of them is of the scope, and has the walk that the leaf shows
pub record IsLeafOf (t : Whole) (hook : Hook) (scope : Scope) (leaf : Leaf) : Type 0 where
  pub some : HasPackets hook leaf.area
  pub shown : (a : Assignment) (p : Packet) → IsAtHook p → p.hook ≡ hook → ShowsUnder (left_under t a) (known_under t a) scope p leaf

-- the packets of such a leaf of the first table can't all be walked through the second table within the budget, under the leaf's answers
abbrev pub CantFollow : Whole → Whole → Hook → ℕ → Scope → Type 0
CantFollow old new hook budget scope =
    (leaf : Leaf) × (own : Scope) × IsLeafOf old hook scope leaf × IsBoth leaf.area leaf.area own.area × (own.answers ≡ leaf.answers)
    × IsUnfinishedUnder new hook own budget

-- under some assignment the tables give a packet of the scope that can be at the hook two verdicts
abbrev pub IsOtherOn : Whole → Whole → Hook → Scope → Type 0
IsOtherOn old new hook scope =
    (a : Assignment) × (p : Packet) × IsAtHook p × (p.hook ≡ hook) × IsOf (known_under old a) p scope
    × (IsAlike (left_under old a) (left_under new a) p → ⊥)

-- under none do they give two verdicts to a packet of the scope that a packet line writes
abbrev pub AreWrittenAlike : Whole → Whole → Hook → Scope → Type 0
AreWrittenAlike old new hook scope =
    (a : Assignment) (p : Packet) → IsWritten p → p.hook ≡ hook → IsOf (known_under old a) p scope → IsAlike (left_under old a) (left_under new a) p

-- the packets of the scope can't all be walked through the first table within the budget, or those of one of its leaves can't through the
-- second; or some packet gets two verdicts, and none that a line writes does
abbrev pub MayDifferOn : Whole → Whole → Hook → ℕ → Scope → Type 0
MayDifferOn old new hook budget scope =
    IsUnfinishedUnder old hook scope budget ⊎ (CantFollow old new hook budget scope ⊎ (IsOtherOn old new hook scope × AreWrittenAlike old new hook scope))

-- the tables have different policies at the hook, and the scope has all packets there, with nothing answered
abbrev pub IsOfPolicy : Whole → Whole → Hook → Scope → Type 0
IsOfPolicy old new hook scope =
    ((p : Packet) → p.hook ≡ hook → end_verdict old.table p ≢ end_verdict new.table p) × ((p : Packet) → IsAtHook p → p.hook ≡ hook → IsIn scope.area p)
    × (scope.answers ≡ [])

-- the rule isn't known to be dead: it is on the walk of some packet at the hook, or the search for one comes to no answer
abbrev pub IsNotDead : Whole → Step → Hook → ℕ → Type 0
IsNotDead t step hook budget =
    (((a : Assignment) → IsDeadAt (left_under t a) (entry_of (left_under t a).chains step) hook) → ⊥)
    ⊎ MayLiveUnder t step hook budget

-- one of these rules isn't known to be dead, and the scope has the packets at the hook that its box has, under answers that meet what it needs
abbrev pub IsOfRule : Whole → (Entry → Bool) → Hook → ℕ → Scope → Type 0
IsOfRule t these hook budget scope =
    (step : Step) × IsRule t.table step × IsTrue (these (entry_of t.table.chains step)) × IsNotDead t step hook budget
    × IsScopeAt t.table t.needs step hook scope

-- the same of one of the rules that are taken as changed: one of the first table that went, or one of the second table that came
abbrev pub IsOfChange : Whole → Whole → Hook → ℕ → Scope → Type 0
IsOfChange old new hook budget scope =
    (went : Entry → Bool) × (came : Entry → Bool) × AreChanged old new went came
    × (IsOfRule old went hook budget scope ⊎ IsOfRule new came hook budget scope)

-- there is such a scope whose packets may get different verdicts
abbrev pub MayDiffer : Whole → Whole → Hook → ℕ → Type 0
MayDiffer old new hook budget =
    (scope : Scope) × (IsOfPolicy old new hook scope ⊎ IsOfChange old new hook budget scope) × MayDifferOn old new hook budget scope

-- an answer about two tables is unclear only where this fact holds
abbrev pub IsUnclearIf : Type 0 → Likeness → Type 0
IsUnclearIf may Same = Unit {0}
IsUnclearIf may (Differ words answers) = Unit {0}
IsUnclearIf may Unclear = may
