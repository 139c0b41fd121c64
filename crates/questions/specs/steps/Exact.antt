-- Leaves that have only packets which can be at their hook.
use Rattle.std.specs.Prelude.{◌≡◌, List, ℕ, Option, None, Some, All, Any, Contains}
use Rattle.fields.specs.declared.packet.hook.Hook.{Hook}
use Rattle.fields.specs.numbers.Spans.{SpanSet}
use Rattle.fields.specs.Packet.{PacketView as Packet, IsPacket}
use Rattle.table.specs.chains.Table.{Table}
use Rattle.table.specs.walk.Walk.{walk}
use Rattle.classify.specs.Classifier.{IsPoint}
use Rattle.questions.specs.Leaves.{walked_of}
use Rattle.questions.specs.Scopes.{IsOf, IsSurely, Known, ShowsUnder, scope_of}
use Rattle.questions.specs.asked.Reach.{IsMeant}
use Rattle.questions.specs.boxes.Boxes.{Has, HasNumbers, HasOwnInterfaces, IsAtHook, IsBoth, IsIn}
use Rattle.questions.specs.declared.asked.reach.Given.{Given}
use Rattle.questions.specs.declared.walking.scope.Scope.{Scope}
use Rattle.questions.specs.declared.walking.task.Leaf.{Leaf}
use Rattle.questions.specs.steps.Transports.{AreByTransport}

-- one box has all packets of another that can be at the hook, and only packets of that one with interfaces that packets at the hook
-- have
pub record IsMet (given met : Given) : Type 0 where
  pub there : met.hook ≡ given.hook
  pub all : (p : Packet) → IsMeant given p → IsIn met.area p
  pub own : (p : Packet) → IsPacket p → p.hook ≡ given.hook → IsIn met.area p → HasOwnInterfaces p
  pub only : (p : Packet) → IsPacket p → IsIn met.area p → IsIn given.area p

-- each packet of the leaf's box that can be at the hook is one of the scope, if the leaf's answers are right, and its walk is the one that the leaf
-- shows; and all holds then that the rule needs which decides it
pub record IsShown (t : Table) (known : Known) (hook : Hook) (scope : Scope) (leaf : Leaf) : Type 0 where
  pub walked : (p : Packet) → IsAtHook p → p.hook ≡ hook → ShowsUnder t known scope p leaf
  pub decided : IsSurely known leaf

-- the leaf's box has packets, and only packets of the scope's box; with interfaces that packets at the hook have each can be at the
-- hook; and the leaf shows their walk
pub record IsExactUnder (t : Table) (known : Known) (hook : Hook) (scope : Scope) (leaf : Leaf) : Type 0 where
  pub inside : (numbers : List ℕ) → IsPoint numbers → Has leaf.area numbers → Has scope.area numbers
  pub can : (p : Packet) → IsPacket p → HasOwnInterfaces p → IsIn leaf.area p → IsAtHook p
  pub some : HasNumbers leaf.area
  pub shown : IsShown t known hook scope leaf

-- the same where no rule needs anything
pub record IsExact (t : Table) (given : Given) (leaf : Leaf) : Type 0 where
  pub inside : (numbers : List ℕ) → IsPoint numbers → Has leaf.area numbers → Has given.area numbers
  pub can : (p : Packet) → IsPacket p → HasOwnInterfaces p → IsIn leaf.area p → IsAtHook p
  pub some : HasNumbers leaf.area
  pub walked : (p : Packet) → IsAtHook p → p.hook ≡ given.hook → IsIn leaf.area p → walk t p ≡ walked_of t.chains leaf

-- a part of a leaf has packets, just those of the leaf's box that another box has, too, and shows the same walk under the same answers
pub record IsShare (leaf : Leaf) (box : List SpanSet) (part : Leaf) : Type 0 where
  pub both : IsBoth leaf.area box part.area
  pub some : HasNumbers part.area
  pub answers : part.answers ≡ leaf.answers
  pub trail : part.trail.items ≡ leaf.trail.items
  pub verdict : part.verdict ≡ leaf.verdict
  pub by_policy : part.by_policy ≡ leaf.by_policy

-- the part of a leaf that is in a box, or none where they share no packet
abbrev pub IsPartIn : Leaf → List SpanSet → Option Leaf → Type 0
IsPartIn leaf box None = (numbers : List ℕ) → IsPoint numbers → Has leaf.area numbers → Has box numbers → ⊥
IsPartIn leaf box (Some part) = IsShare leaf box part

-- some of the leaves have the numbers
abbrev pub AnyHas : List ℕ → List Leaf → Type 0
AnyHas numbers leaves = Any (λ (leaf : Leaf). Has leaf.area numbers) leaves

-- the packet is in some of the leaves, whose answers are right
abbrev pub IsInAny : Known → Packet → List Leaf → Type 0
IsInAny known p leaves = Any (λ (leaf : Leaf). IsOf known p (scope_of leaf)) leaves

-- the packets of the scope that the leaf has are in exact leaves
abbrev pub IsCovered : Known → Scope → List Leaf → Leaf → Type 0
IsCovered known scope exact leaf = (p : Packet) → IsAtHook p → IsOf known p scope → IsOf known p (scope_of leaf) → IsInAny known p exact

-- the exact leaves, with more of them for what the leaf shares with the scope
pub record AddsExact (t : Table) (known : Known) (hook : Hook) (scope : Scope) (leaf : Leaf) (old new : List Leaf) : Type 0 where
  pub each : All (IsExactUnder t known hook scope) old → All (IsExactUnder t known hook scope) new
  pub kept : (p : Packet) → IsInAny known p old → IsInAny known p new
  pub covered : IsCovered known scope new leaf

-- exact leaves that have all packets of the scope that some leaves have
pub record AreExact (t : Table) (known : Known) (hook : Hook) (scope : Scope) (found exact : List Leaf) : Type 0 where
  pub each : All (IsExactUnder t known hook scope) exact
  pub all : All (IsCovered known scope exact) found

-- exact leaves that have each packet of the scope that can be at the hook
pub record AreExactWalksUnder (t : Table) (known : Known) (hook : Hook) (scope : Scope) (exact : List Leaf) : Type 0 where
  pub each : All (IsExactUnder t known hook scope) exact
  pub all : (p : Packet) → IsAtHook p → p.hook ≡ hook → IsOf known p scope → IsInAny known p exact

-- exact leaves that have each packet of the box that can be at the hook, where no rule needs anything
pub record AreExactWalks (t : Table) (given : Given) (exact : List Leaf) : Type 0 where
  pub each : All (IsExact t given) exact
  pub all : (p : Packet) → IsAtHook p → p.hook ≡ given.hook → IsIn given.area p → AnyHas p.values exact

-- one has for each transport header the packets with it of the box that can be at the hook
abbrev pub ArePossible : Hook → List SpanSet → List (List SpanSet) → Type 0
ArePossible hook box boxes =
    (there : List SpanSet) × IsMet (record { hook = hook; area = box }) (record { hook = hook; area = there }) × AreByTransport there boxes

-- the leaf is exact for the packets of one of some boxes that can be at the hook
pub record IsExactIn (t : Table) (hook : Hook) (boxes : List (List SpanSet)) (leaf : Leaf) : Type 0 where
  pub box : List SpanSet
  pub among : Contains boxes box
  pub met : Given
  pub of : IsMet (record { hook = hook; area = box }) met
  pub exact : IsExact t met leaf

-- exact leaves that have each packet of some boxes that can be at the hook
pub record AreExactIn (t : Table) (hook : Hook) (boxes : List (List SpanSet)) (exact : List Leaf) : Type 0 where
  pub each : All (IsExactIn t hook boxes) exact
  pub all : (p : Packet) → IsAtHook p → p.hook ≡ hook → Any (λ (box : List SpanSet). IsIn box p) boxes → AnyHas p.values exact
