-- Rules that are ahead of a walk in a chain: what becomes of packets there, and what leads one away before it comes to a rule.
use Rattle.std.specs.Prelude.{◌≡◌, ℕ, ◌<◌, ◌≤◌, List, ◌∷◌, Option, None, Some, length, slice_get, IsFalse, ◌⊎◌, Any, IsTrue, ◌-◌, []}
use Rattle.fields.specs.numbers.Spans.{SpanSet}
use Rattle.fields.specs.Packet.{PacketView as Packet}
use Rattle.rules.specs.declared.rule.target.Target.{Target}
use Rattle.rules.specs.rule.Allows.{matches}
use Rattle.rules.specs.rule.Rules.{Rule}
use Rattle.table.specs.chains.Table.{Chain, Table, rules_of, chain_in}
use Rattle.table.specs.walk.Cases.{Under, next_rule}
use Rattle.table.specs.walk.Walk.{Entry, Rest}
use Rattle.classify.specs.Classifier.{IsPoint}
use Rattle.rules.specs.rule.Actions.{target_of}
use Rattle.table.specs.declared.walk.trail.Step.{Step}
use Rattle.rules.specs.declared.rule.target.Target.TheVariants as target
use Rattle.questions.specs.boxes.Boxes.{Has}
use Rattle.questions.specs.steps.Waiting.{Reaches, rule_ahead}
use Rattle.questions.specs.Foreign.{Agrees, Assignment, IsUnanswered, all_hold}
use Rattle.questions.specs.declared.foreign.answers.Answer.{Answer}
use Rattle.questions.specs.declared.foreign.need.Need.{Need}
use Rattle.questions.specs.declared.walking.task.Pending.{Pending}
use Rattle.questions.specs.declared.walking.turn.Branch.{Branch}
use Rattle.questions.specs.declared.walking.turn.Branch.TheVariants.{Passed, Followed, Parted}
use Rattle.questions.specs.Leaves.{name_at}

-- ---- Rules that are ahead of a walk in a chain.

-- the target decides a packet
abbrev pub Decides : Option Target → Type 0
Decides (Some target.Accept) = Unit {0}
Decides (Some target.Drop) = Unit {0}
Decides (Some (target.Reject kind)) = Unit {0}
Decides (Some (target.Jump name)) = ⊥
Decides (Some (target.Goto name)) = ⊥
Decides (Some target.Return) = ⊥
Decides (Some target.Log) = ⊥
Decides None = ⊥

-- the target leaves a packet where it is: it says nothing, or logs
abbrev pub Stays : Option Target → Type 0
Stays None = Unit {0}
Stays (Some target.Log) = Unit {0}
Stays (Some target.Accept) = ⊥
Stays (Some target.Drop) = ⊥
Stays (Some (target.Reject kind)) = ⊥
Stays (Some (target.Jump name)) = ⊥
Stays (Some (target.Goto name)) = ⊥
Stays (Some target.Return) = ⊥

-- of the rules of a chain from one place up to another none matches
abbrev pub NoneMatches : List Chain → List ℕ → Rest → ℕ → Type 0
NoneMatches cs values rest place =
    (k : ℕ) (rule : Rule) → rest.passed ≤ k → k < place → slice_get (rules_of cs rest.chain) k ≡ Some rule → IsFalse (matches values rule)

-- rules that don't match are passed at once
abbrev pub PassesAtOnce : Type 0
PassesAtOnce =
    (t : Table) (p : Packet) (rest : Rest) (place : ℕ) (waiting : List Rest) (trail : List Entry) → rest.passed ≤ place → place ≤ length (rules_of t.chains rest.chain)
    → NoneMatches t.chains p.values rest place → Reaches t p (Under (rest ∷ waiting) trail) → Reaches t p (Under (record { chain = rest.chain; passed = place } ∷ waiting) trail)

-- the rule matches no packet that is in both boxes
abbrev pub IsApartIn : Rule → List SpanSet → List SpanSet → Type 0
IsApartIn rule start box = (numbers : List ℕ) → IsPoint numbers → Has start numbers → Has box numbers → IsFalse (matches numbers rule)

-- ---- What becomes of the packets that a rule's box has, where some of what the rule needs may be open.

-- the target of the next rule of a chain
abbrev pub target_at : Table → Pending → Option Target
target_at t at = target_of (rule_ahead t at)

-- each assignment that gives the answers meets all needs; or the target leaves a packet where it is, whether the rule matches or not
abbrev pub CanFollow : List Need → List Answer → Option Target → Type 0
CanFollow needs answers target = (a : Assignment) → Agrees a answers → IsTrue (all_hold a needs) ⊎ Stays target

-- the packets that the rule's box has can follow its target; or they can part by a condition that isn't answered
abbrev pub CanAsk : List Need → List Answer → Option Target → Option ℕ → Type 0
CanAsk needs answers target None = CanFollow needs answers target
CanAsk needs answers target (Some condition) = IsUnanswered answers condition

-- what is said of the rule: no assignment that gives the answers meets all needs; or the packets can follow its target, or part
abbrev pub IsBranch : List Need → List Answer → Option Target → Branch → Type 0
IsBranch needs answers target Passed = (a : Assignment) → Agrees a answers → IsFalse (all_hold a needs)
IsBranch needs answers target Followed = CanFollow needs answers target
IsBranch needs answers target (Parted condition) = IsUnanswered answers condition

-- where they part, some need is about the condition
abbrev pub IsNeededBy : List Need → Branch → Type 0
IsNeededBy needs Passed = Unit {0}
IsNeededBy needs Followed = Unit {0}
IsNeededBy needs (Parted condition) = Any (λ (need : Need). need.condition ≡ condition) needs

-- ---- What leads a packet away before it comes to a rule: a rule ahead in a chain, by its own target or after some jumps and gotos.

-- A rule is told by what is left of its chain before it: it is the next one.

-- what is left of its chain before the rule of an entry
abbrev pub place_of : Entry → Rest
place_of entry = record { chain = entry.chain; passed = entry.number - 1 }

-- what is left of its chain before the rule of a step
abbrev pub place_at : List Chain → Step → Rest
place_at chains step = record { chain = name_at chains step.chain; passed = step.number - 1 }

-- the rule matches, and has this target
abbrev pub Hits : List Chain → List ℕ → Rest → Option Target → Type 0
Hits chains values at to = (rule : Rule) × (next_rule chains at ≡ Some rule) × IsTrue (matches values rule) × (target_of rule ≡ to)

-- the target takes a packet out of the chain for good: back to where the chain was entered, or on to another one (iptables(8), TARGETS and
-- PARAMETERS, -g)
abbrev pub TakesOut : Option Target → Type 0
TakesOut None = ⊥
TakesOut (Some target.Return) = Unit {0}
TakesOut (Some (target.Goto chain)) = Unit {0}
TakesOut (Some (target.Jump chain)) = ⊥
TakesOut (Some target.Log) = ⊥
TakesOut (Some target.Accept) = ⊥
TakesOut (Some target.Drop) = ⊥
TakesOut (Some (target.Reject kind)) = ⊥

-- of the rules of a chain from one place up to another none that matches takes a packet out of it
abbrev pub NoneTakesOut : List Chain → List ℕ → List ℕ → ℕ → ℕ → Type 0
NoneTakesOut chains values chain from to =
    (k : ℕ) (o : Option Target) → from ≤ k → k < to → Hits chains values (record { chain = chain; passed = k }) o → TakesOut o → ⊥

-- a packet that comes to the rule gets a verdict: from the rule itself, or by a path, of which each rule enters the chain of the next one, where none
-- ahead of that takes the packet out, and the last one decides
abbrev pub Ends : List Chain → List ℕ → Rest → List Rest → Type 0
Ends chains values at [] = (o : Option Target) × Hits chains values at o × Decides o
Ends chains values at (next ∷ path) =
    (o : Option Target) × Hits chains values at o × (chain_in o ≡ Some next.chain) × NoneTakesOut chains values next.chain 0 next.passed
    × Ends chains values next path

-- a packet that comes to the rule doesn't come to the next one of its chain
abbrev pub LeadsAway : List Chain → List ℕ → Rest → Type 0
LeadsAway chains values at = ((path : List Rest) × Ends chains values at path) ⊎ ((o : Option Target) × Hits chains values at o × TakesOut o)

-- nor does one come to a rule of which some rule ahead does that
abbrev pub IsLedAway : List Chain → List ℕ → Rest → Type 0
IsLedAway chains values at = (k : ℕ) × (k < at.passed) × LeadsAway chains values (record { chain = at.chain; passed = k })

-- a packet at this place of a chain gets a verdict before it comes back from there
abbrev pub IsEnded : List Chain → List ℕ → Rest → Type 0
IsEnded chains values at =
    (k : ℕ) × (at.passed ≤ k) × NoneTakesOut chains values at.chain at.passed k
    × ((path : List Rest) × Ends chains values (record { chain = at.chain; passed = k }) path)

-- A way into a chain from the first one: the rules that enter one chain after another, the last of them first. Each matches, and the packet isn't led
-- away before.
abbrev pub IsOpenWay : List Chain → List ℕ → List ℕ → List ℕ → List Rest → Type 0
IsOpenWay chains values first chain [] = chain ≡ first
IsOpenWay chains values first chain (place ∷ above) =
    (o : Option Target) × Hits chains values place o × (chain_in o ≡ Some chain) × (IsLedAway chains values place → ⊥)
    × IsOpenWay chains values first place.chain above
