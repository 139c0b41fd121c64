-- Where alone there is no answer to `reach`, or to why a rule is dead, given a budget of steps.
use Rattle.std.specs.Prelude.{◌≡◌, ◌⊎◌, ℕ, true, List, Option, Any, Contains, IfSome}
use Rattle.fields.specs.declared.packet.hook.Hook.{Hook}
use Rattle.fields.specs.numbers.Spans.{SpanSet}
use Rattle.rules.specs.rule.Crossing.{asks_both}
use Rattle.table.specs.chains.Table.{Table}
use Rattle.table.specs.declared.walk.trail.Step.{Step}
use Rattle.questions.specs.Ends.{rule_at}
use Rattle.questions.specs.Foreign.{Assignment}
use Rattle.questions.specs.Scopes.{answered, known_by, table_of, whole_of}
use Rattle.questions.specs.asked.Reason.{IsLed}
use Rattle.questions.specs.boxes.Boxes.{IsBoth}
use Rattle.questions.specs.boxes.Calls.{IsCall}
use Rattle.questions.specs.declared.asked.reach.Given.{Given}
use Rattle.questions.specs.declared.asked.reach.GivenPackets.{GivenPackets}
use Rattle.questions.specs.declared.foreign.subject.Subject.{Subject}
use Rattle.questions.specs.declared.walking.scope.Scope.{Scope}
use Rattle.questions.specs.declared.walking.task.Leaf.{Leaf}
use Rattle.questions.specs.steps.Takers.{IsScopeBy}
use Rattle.questions.specs.steps.Exact.{AreExactWalksUnder, IsMet}
use Rattle.questions.specs.steps.Taken.{IsUnfinished, IsUnfinishedUnder}

-- the packets can't all be walked within the budget
abbrev pub CantBeWalked : Table → Given → ℕ → Type 0
CantBeWalked t given budget = (box : List SpanSet) × IsBoth given.area given.area box × IsUnfinished t given.hook box budget

-- the same of those of some packets that can be at their hook
abbrev pub MetCantBeWalked : Table → Given → ℕ → Type 0
MetCantBeWalked t given budget = (met : Given) × IsMet given met × CantBeWalked t met budget

-- the same of the packets of one of some boxes
abbrev pub OneCantBeWalked : Table → GivenPackets → ℕ → Type 0
OneCantBeWalked t given budget = Any (λ (box : List SpanSet). MetCantBeWalked t (record { hook = given.hook; area = box }) budget) given.boxes.items

-- another rule leads to the rule's chain, if one is given
abbrev pub LeadsTo : Table → Step → Option Step → Type 0
LeadsTo t step by = IfSome by (λ other. IsCall t (record { to = step.chain; by = other }))

-- whatever holds, the packets of the scope have exactly the walks of these leaves; and the rule is on one of them
abbrev pub IsOnSome : Subject → Hook → Scope → Step → Type 0
IsOnSome subject hook scope step =
    (leaves : List Leaf) × ((a : Assignment) → AreExactWalksUnder (answered subject a) (known_by subject a) hook scope leaves)
    × Any (λ (leaf : Leaf). Contains leaf.trail.items step) leaves

-- the rule has a condition on both ports; or the packets that its box has at the hook, or those of them that a rule lets in which leads to its chain,
-- can't all be walked, under answers that are right just where all holds that it needs; or the rule is on the walk of some of them
abbrev pub IsUndecidedAtUnder : Subject → Step → ℕ → Hook → Type 0
IsUndecidedAtUnder subject step budget hook =
    (asks_both (rule_at (table_of subject) step) ≡ true)
    ⊎ ((by : Option Step) × LeadsTo (table_of subject) step by × (scope : Scope) × IsScopeBy (table_of subject) subject.needs.now step by hook scope
    × (IsUnfinishedUnder (whole_of subject) hook scope budget ⊎ IsOnSome subject hook scope step))

-- `IsUndecidedAtUnder` holds at some hook from which jumps and gotos lead to the rule's chain
abbrev pub IsUndecidedUnder : Subject → Step → ℕ → Type 0
IsUndecidedUnder subject step budget = (hook : Hook) × IsLed (table_of subject) step hook × IsUndecidedAtUnder subject step budget hook
