-- The steps that the walk of a box takes: how each parts the box, and how the parts get on.
use Rattle.std.specs.Prelude.{◌≡◌, ◌⊎◌, ℕ, ◌+◌, ◌≤◌, List, [], ◌∷◌, ◌++◌, length, map, reverse, All, AllPairs, ◌≢◌, Option, None, Some, Any, Contains, position, zero, suc, ◌<◌}
use Rattle.fields.specs.numbers.Spans.{SpanSet}
use Rattle.classify.specs.Classifier.{IsPoint}
use Rattle.rules.specs.declared.rule.target.Target.{Target}
use Rattle.table.specs.chains.Table.{Chain, Table, is_named}
use Rattle.table.specs.declared.walk.trail.Step.{Step}
use Rattle.fields.specs.declared.packet.hook.Hook.{Hook}
use Rattle.fields.specs.numbers.Field.{all_fields}
use Rattle.fields.specs.Packet.{PacketView as Packet}
use Rattle.table.specs.declared.verdict.Verdict.{Verdict}
use Rattle.table.specs.steps.Kept.{hook_index}
use Rattle.table.specs.walk.Walk.{end_verdict}
use Rattle.rules.specs.declared.rule.target.Target.TheVariants as target
use Rattle.questions.specs.Foreign.{Agrees, Assignment, IsUnanswered, needs_at}
use Rattle.questions.specs.Scopes.{scope_of, under, Whole, IsOf, Known, all_of, known_under, left_under, unasked}
use Rattle.questions.specs.boxes.Boxes.{Has, HasNumbers, IsAtHook}
use Rattle.questions.specs.boxes.Cut.{ShareNone, IsPortPart}
use Rattle.questions.specs.declared.foreign.answers.Answer.{Answer}
use Rattle.questions.specs.declared.walking.front.Front.{Front}
use Rattle.questions.specs.declared.walking.scope.Scope.{Scope}
use Rattle.questions.specs.declared.walking.task.Leaf.{Leaf}
use Rattle.questions.specs.declared.walking.task.Task.{Task}
use Rattle.questions.specs.declared.foreign.need.Need.{Need}
use Rattle.questions.specs.declared.walking.task.Pending.{Pending}
use Rattle.questions.specs.steps.Waiting.{rule_ahead, Moves, StandsAtOne, WaitsIn, stage_of}

-- ---- How a step parts the box of a task among tasks and leaves.

-- two scopes are apart: their boxes share no numbers, or no assignment gives the answers of both
abbrev pub AreApart : Scope → Scope → Type 0
AreApart one other = ShareNone one.area other.area ⊎ ((a : Assignment) → Agrees a one.answers → Agrees a other.answers → ⊥)

-- a scope is a part of another one: it has numbers of that one's box alone, and some if that has; and it has that one's answers, and perhaps more
pub record IsWithin (own part : Scope) : Type 0 where
  pub inside : (numbers : List ℕ) → IsPoint numbers → Has part.area numbers → Has own.area numbers
  pub some : HasNumbers own.area → HasNumbers part.area
  pub answers : (more : List Answer) × (part.answers ≡ own.answers ++ more)

-- scopes are parts of another one, and any two of them are apart
pub record AreParts (own : Scope) (parts : List Scope) : Type 0 where
  pub each : All (IsWithin own) parts
  pub apart : AllPairs AreApart parts

-- the scopes of tasks
abbrev pub scopes_of : List Task → List Scope
scopes_of tasks = map (λ (task : Task). task.scope) tasks

-- tasks and leaves are put on those that were there, so many at most, and their scopes are parts of this one
pub record AddsParts (most : ℕ) (own : Scope) (old new : Front) : Type 0 where
  pub tasks : List Task
  pub leaves : List Leaf
  pub more : new.tasks.items ≡ old.tasks.items ++ tasks
  pub ends : new.leaves.items ≡ old.leaves.items ++ leaves
  pub few : length tasks + length leaves ≤ most
  pub parts : AreParts own (scopes_of tasks ++ map scope_of leaves)

-- one task of this scope is put on those that were there
pub record AddsOne (own : Scope) (old new : Front) : Type 0 where
  pub task : Task
  pub scope : task.scope ≡ own
  pub more : new.tasks.items ≡ old.tasks.items ++ task ∷ []
  pub same : new.leaves.items ≡ old.leaves.items

-- a task for each of some boxes, the last first, under some answers, is put on those that were there
pub record AddsBoxes (boxes : List (List SpanSet)) (answers : List Answer) (old new : Front) : Type 0 where
  pub tasks : List Task
  pub more : new.tasks.items ≡ old.tasks.items ++ tasks
  pub same : new.leaves.items ≡ old.leaves.items
  pub scopes : scopes_of tasks ≡ map (λ (box : List SpanSet). under box answers) (reverse boxes)

-- ---- How boxes get on: what a step makes of a task.

-- tasks are put on those that were left, and this holds of each
abbrev pub AddsTasks : (Task → Type 0) → Front → Front → Type 0
AddsTasks Holds old new = (added : List Task) × (new.tasks.items ≡ old.tasks.items ++ added) × All Holds added

-- the chains that wait and the trail are these
pub record IsPlaced (waiting : List Pending) (steps : List Step) (next : Task) : Type 0 where
  pub rests : next.rests.items ≡ waiting
  pub trail : next.trail.items ≡ steps

-- a chain of this name waits above these at its first rule; where none has the name, only these wait
abbrev pub Enters : List Chain → List ℕ → List Pending → List Pending → Type 0
Enters chains name waiting rests =
    (rests ≡ waiting) ⊎ ((to : ℕ) × (position (is_named name) chains ≡ Some to) × (rests ≡ waiting ++ record { chain = to; passed = 0 } ∷ []))

-- which chains wait once a packet has followed a target, if its own waits behind the rule and these are below; none where the target gives a verdict
abbrev pub WaitAfter : List Chain → Option Target → List Pending → Pending → List Pending → Type 0
WaitAfter chains None below behind rests = rests ≡ below ++ behind ∷ []
WaitAfter chains (Some target.Log) below behind rests = rests ≡ below ++ behind ∷ []
WaitAfter chains (Some target.Accept) below behind rests = ⊥
WaitAfter chains (Some target.Drop) below behind rests = ⊥
WaitAfter chains (Some (target.Reject kind)) below behind rests = ⊥
WaitAfter chains (Some target.Return) below behind rests = rests ≡ below
WaitAfter chains (Some (target.Jump name)) below behind rests = Enters chains name (below ++ behind ∷ []) rests
WaitAfter chains (Some (target.Goto name)) below behind rests = Enters chains name below rests

-- a task came into a chain of this name, with these below and this trail
pub record IsEntered (chains : List Chain) (name : List ℕ) (waiting : List Pending) (steps : List Step) (next : Task) : Type 0 where
  pub rests : Enters chains name waiting next.rests.items
  pub trail : next.trail.items ≡ steps

-- a task followed a target, with these chains below, its own behind the rule, and this trail
pub record IsTurned (chains : List Chain) (to : Option Target) (below : List Pending) (behind : Pending) (steps : List Step) (next : Task) : Type 0 where
  pub rests : WaitAfter chains to below behind next.rests.items
  pub trail : next.trail.items ≡ steps

-- so are they, and the scope is this
pub record IsPut (own : Scope) (waiting : List Pending) (steps : List Step) (next : Task) : Type 0 where
  pub scope : next.scope ≡ own
  pub there : IsPlaced waiting steps next

-- so are they, with one of some boxes and these answers
pub record IsBesides (boxes : List (List SpanSet)) (given : List Answer) (waiting : List Pending) (steps : List Step) (next : Task) : Type 0 where
  pub area : Contains boxes next.scope.area
  pub answers : next.scope.answers ≡ given
  pub there : IsPlaced waiting steps next

-- the next rule of a chain needs the condition, or that it doesn't hold
abbrev pub IsNeededNext : List (List (List Need)) → Pending → ℕ → Type 0
IsNeededNext needs at condition = Any (λ (need : Need). need.condition ≡ condition) (needs_at needs at.chain at.passed)

-- so are they, and one more condition is answered, which had no answer and which the next rule of the newest chain needs
pub record IsAnswered (needs : List (List (List Need))) (given : List Answer) (waiting : List Pending) (steps : List Step) (next : Task) : Type 0 where
  pub below : List Pending
  pub at : Pending
  pub newest : waiting ≡ below ++ at ∷ []
  pub answer : Answer
  pub unanswered : IsUnanswered given answer.condition
  pub needed : IsNeededNext needs at answer.condition
  pub answers : next.scope.answers ≡ given ++ answer ∷ []
  pub there : IsPlaced waiting steps next

-- a task got on, from these chains that wait and this trail, to the next rule of the newest chain
pub record IsPast (waiting : List Pending) (steps : List Step) (next : Task) : Type 0 where
  pub below : List Pending
  pub at : Pending
  pub newest : waiting ≡ below ++ at ∷ []
  pub there : IsPlaced (below ++ record { chain = at.chain; passed = at.passed + 1 } ∷ []) steps next

-- or it left the newest chain
pub record IsBack (waiting : List Pending) (steps : List Step) (next : Task) : Type 0 where
  pub at : Pending
  pub newest : waiting ≡ next.rests.items ++ at ∷ []
  pub trail : next.trail.items ≡ steps

-- or the next rule of that chain matched, and other chains wait than before
pub record IsMatched (waiting : List Pending) (steps : List Step) (next : Task) : Type 0 where
  pub below : List Pending
  pub at : Pending
  pub newest : waiting ≡ below ++ at ∷ []
  pub on : next.trail.items ≡ steps ++ record { chain = at.chain; number = at.passed + 1 } ∷ []
  pub moved : next.rests.items ≢ waiting

-- or it stayed, with those of its packets that are on one side of ports which that rule lists, for the source and the destination
pub record IsPartOf (t : Table) (own : Scope) (waiting : List Pending) (steps : List Step) (next : Task) : Type 0 where
  pub below : List Pending
  pub at : Pending
  pub newest : waiting ≡ below ++ at ∷ []
  pub part : IsPortPart (rule_ahead t at) own.area next.scope.area
  pub answers : next.scope.answers ≡ own.answers
  pub there : IsPlaced waiting steps next

-- the next rule of the newest chain, which matches all packets of a task, took it: the rule is on its trail, or a condition that it needs is answered
abbrev pub IsGoneWith : List (List (List Need)) → List Answer → List Pending → List Step → Task → Type 0
IsGoneWith needs given rests trail next = IsMatched rests trail next ⊎ IsAnswered needs given rests trail next

-- A task got on from a scope with these chains that wait and this trail. The next rule of the newest chain matched, or is behind it; or that chain was
-- left; or one more condition is answered that the rule needs; or ports that the rule lists part its packets.
abbrev pub GetsOn : Whole → Scope → List Pending → List Step → Task → Type 0
GetsOn t scope rests trail next =
    IsMatched rests trail next
    ⊎ (IsPast rests trail next ⊎ (IsBack rests trail next ⊎ (IsAnswered t.needs scope.answers rests trail next ⊎ IsPartOf t.table scope rests trail next)))

-- ---- The steps that the walk of a box takes.

-- the scope stands before the first rule of the hook's chain, and there is nothing else
pub record IsFirst (hook : Hook) (scope : Scope) (front : Front) : Type 0 where
  pub task : Task
  pub tasks : front.tasks.items ≡ task ∷ []
  pub leaves : front.leaves.items ≡ []
  pub stands : task.scope ≡ scope
  pub rests : task.rests.items ≡ record { chain = hook_index hook; passed = 0 } ∷ []
  pub trail : task.trail.items ≡ []

-- the newest task is taken, its trail has room, and this is left; the hook has this policy
pub record IsTakenUp (t : Table) (hook : Hook) (policy : Verdict) (task : Task) (old left : Front) : Type 0 where
  pub ends : (p : Packet) → p.hook ≡ hook → end_verdict t p ≡ policy
  pub tasks : old.tasks.items ≡ left.tasks.items ++ task ∷ []
  pub leaves : left.leaves.items ≡ old.leaves.items
  pub room : length task.trail.items < 65536

-- chains wait as these do, but the newest perhaps at a later rule
abbrev pub WaitLater : List Pending → List Pending → Type 0
WaitLater waiting later =
    (later ≡ waiting) ⊎ ((below : List Pending) × (at : Pending) × (passed : ℕ) × (waiting ≡ below ++ at ∷ []) × (at.passed ≤ passed)
    × (later ≡ below ++ record { chain = at.chain; passed = passed } ∷ []))

-- the task, perhaps at a later rule of its chain, before which none matches one of its packets that are of a scope
pub record IsFurther (t : Table) (known : Known) (scope : Scope) (task next : Task) : Type 0 where
  pub same : next.scope ≡ task.scope
  pub trail : next.trail ≡ task.trail
  pub later : WaitLater task.rests.items next.rests.items
  pub waits : (p : Packet) → IsAtHook p → IsOf known p scope → WaitsIn t known p task → WaitsIn t known p next

-- The task goes on to a rule which allows some of its numbers on each field, or to the end of its chain. There, whatever holds, no packet of it is lost
-- that is of a scope. Each task that is made of it got on. All that is made of it has parts of its scope, no two of which share numbers under
-- answers that don't contradict each other, and these are at most two more than there are fields.
pub record GoesOn (t : Whole) (policy : Verdict) (scope : Scope) (task : Task) (old new : Front) : Type 0 where
  pub next : Task
  pub further : (a : Assignment) → IsFurther (left_under t a) (known_under t a) scope task next
  pub moves : (a : Assignment)
      → Moves (left_under t a) (known_under t a) policy next.scope (stage_of (known_under t a) (left_under t a).chains next) old new
  pub stops : HasNumbers next.scope.area → StandsAtOne t.table next
  pub on : AddsTasks (GetsOn t next.scope next.rests.items next.trail.items) old new
  pub parts : AddsParts (length all_fields + 2) next.scope old new

-- one step of the walk of a scope: the newest task goes on
abbrev pub IsStep : Whole → Hook → Scope → Front → Front → Type 0
IsStep t hook scope old new =
    (policy : Verdict) × (task : Task) × (left : Front) × IsTakenUp t.table hook policy task old left × GoesOn t policy scope task left new

-- so many steps
abbrev pub AreSteps : ℕ → Whole → Hook → Scope → Front → Front → Type 0
AreSteps zero t hook scope old new = old ≡ new
AreSteps (suc n) t hook scope old new = (mid : Front) × AreSteps n t hook scope old mid × IsStep t hook scope mid new

-- the walk of a scope gets there in so many steps
pub record GetsTo (t : Whole) (hook : Hook) (scope : Scope) (n : ℕ) (front : Front) : Type 0 where
  pub first : Front
  pub begins : IsFirst hook scope first
  pub takes : AreSteps n t hook scope first front

-- the newest task has a full trail
pub record IsFull (front : Front) : Type 0 where
  pub left : List Task
  pub task : Task
  pub tasks : front.tasks.items ≡ left ++ task ∷ []
  pub full : 65536 ≤ length task.trail.items

-- the walk isn't finished within the budget: after as many steps as it has a task is left, or after fewer a trail is full
abbrev pub IsUnfinishedUnder : Whole → Hook → Scope → ℕ → Type 0
IsUnfinishedUnder t hook scope budget =
    (n : ℕ) × (front : Front) × GetsTo t hook scope n front × (((n ≡ budget) × (0 < length front.tasks.items)) ⊎ ((n < budget) × IsFull front))

-- the walk is finished within the budget: no task is left, and these are the leaves
abbrev pub IsFinishedUnder : Whole → Hook → Scope → ℕ → List Leaf → Type 0
IsFinishedUnder t hook scope budget leaves =
    (n : ℕ) × (front : Front) × GetsTo t hook scope n front × (n ≤ budget) × (length front.tasks.items ≡ 0) × (front.leaves.items ≡ leaves)

-- the same of a box, where no rule needs anything
abbrev pub IsUnfinished : Table → Hook → List SpanSet → ℕ → Type 0
IsUnfinished t hook box budget = IsUnfinishedUnder (all_of t) hook (unasked box) budget
