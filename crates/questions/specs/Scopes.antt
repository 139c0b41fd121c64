-- Packets under answers about conditions that this program doesn't know; and leaves, each with the answers under which it shows a walk.
use Rattle.std.specs.Prelude.{◌≡◌, ◌-◌, Bool, List, [], filter, All, Any, IfSome, IsTrue}
use Rattle.fields.specs.declared.packet.hook.Hook.{Hook}
use Rattle.fields.specs.numbers.Spans.{SpanSet}
use Rattle.fields.specs.Packet.{PacketView as Packet}
use Rattle.table.specs.chains.Table.{Chain, Table}
use Rattle.table.specs.declared.walk.trail.Step.{Step}
use Rattle.table.specs.walk.Walk.{Entry, Walked, walk}
use Rattle.questions.specs.Ends.{step_of}
use Rattle.questions.specs.Foreign.{Agrees, Assignment, all_hold, needs_at, resolved}
use Rattle.questions.specs.Leaves.{entries_of}
use Rattle.questions.specs.boxes.Boxes.{IsAtHook, IsIn}
use Rattle.questions.specs.declared.foreign.answers.Answer.{Answer}
use Rattle.questions.specs.declared.foreign.need.Need.{Need}
use Rattle.questions.specs.declared.foreign.subject.Subject.{Subject}
use Rattle.questions.specs.declared.walking.scope.Scope.{Scope}
use Rattle.questions.specs.declared.walking.task.Leaf.{Leaf}

-- What the rules of a table need, chain by chain, and which conditions hold.
pub record Known : Type 0 where
  pub needs : List (List (List Need))
  pub holds : Assignment

-- a box, under answers
abbrev pub under : List SpanSet → List Answer → Scope
under box answers = record { area = box; answers = answers }

-- a box, with nothing answered
abbrev pub unasked : List SpanSet → Scope
unasked box = under box []

-- the packet is in the box, and the answers are right
pub record IsOf (known : Known) (p : Packet) (scope : Scope) : Type 0 where
  pub inside : IsIn scope.area p
  pub agrees : Agrees known.holds scope.answers

-- all holds that the rule at a step of a trail needs
abbrev pub is_met : Known → Step → Bool
is_met known step = all_hold known.holds (needs_at known.needs step.chain (step.number - 1))

-- the entries for which the steps of a trail stand: of a rule that was put there while its needs were open, only if they hold
abbrev pub entries_by : Known → List Chain → List Step → List Entry
entries_by known chains steps = entries_of chains (filter (is_met known) steps)

-- the box of a leaf, and its answers
abbrev pub scope_of : Leaf → Scope
scope_of leaf = under leaf.area leaf.answers

-- the walk that a leaf shows
abbrev pub walked_by : Known → List Chain → Leaf → Walked
walked_by known chains leaf =
    record { trail = entries_by known chains leaf.trail.items; verdict = leaf.verdict; by_policy = leaf.by_policy }

-- where a leaf's answers are right, all holds that the rule needs which decides it
abbrev pub IsSurely : Known → Leaf → Type 0
IsSurely known leaf = Agrees known.holds leaf.answers → IfSome (step_of leaf) (λ step. IsTrue (is_met known step))

-- the packet is in the leaf's box, the leaf's answers are right, and the packet's walk is the one that the leaf shows
pub record EndsUnder (t : Table) (known : Known) (p : Packet) (leaf : Leaf) : Type 0 where
  pub own : IsOf known p (scope_of leaf)
  pub walked : walk t p ≡ walked_by known t.chains leaf

-- if the packet is in the leaf's box, and its answers are right, the same holds of the scope, and the packet's walk is the one that the leaf shows
abbrev pub ShowsUnder : Table → Known → Scope → Packet → Leaf → Type 0
ShowsUnder t known scope p leaf = IsOf known p (scope_of leaf) → IsOf known p scope × (walk t p ≡ walked_by known t.chains leaf)

-- what is known of the conditions that the rules of a table need, under an assignment
abbrev pub known_by : Subject → Assignment → Known
known_by subject a = record { needs = subject.needs.now; holds = a }

-- the table
abbrev pub table_of : Subject → Table
table_of subject = subject.boxed.now.table.table

-- what is left of it under an assignment
abbrev pub answered : Subject → Assignment → Table
answered subject a = resolved subject.needs.now a (table_of subject)

-- each packet of the scope that can be at the hook is in some leaf, whose answers are right, and its walk is the one that this leaf shows
abbrev pub AreLeavesUnder : Table → Known → Hook → Scope → List Leaf → Type 0
AreLeavesUnder t known hook scope leaves = (p : Packet) → IsAtHook p → p.hook ≡ hook → IsOf known p scope → Any (EndsUnder t known p) leaves

-- each packet of a leaf's box that can be at the hook is in the scope, if the leaf's answers are right, and its walk is the one that the leaf shows
abbrev pub AreExactUnder : Table → Known → Hook → Scope → List Leaf → Type 0
AreExactUnder t known hook scope leaves = (p : Packet) → IsAtHook p → p.hook ≡ hook → All (ShowsUnder t known scope p) leaves

-- A table as it is, and what its rules need, chain by chain.
pub record Whole : Type 0 where
  pub table : Table
  pub needs : List (List (List Need))

-- the table, and what its rules need
abbrev pub whole_of : Subject → Whole
whole_of subject = record { table = table_of subject; needs = subject.needs.now }

-- a table in which no rule needs anything: under each assignment it is left as it is
abbrev pub all_of : Table → Whole
all_of t = record { table = t; needs = [] }

-- what is left of a table under an assignment
abbrev pub left_under : Whole → Assignment → Table
left_under t a = resolved t.needs a t.table

-- what is known then of the conditions that its rules need
abbrev pub known_under : Whole → Assignment → Known
known_under t a = record { needs = t.needs; holds = a }
