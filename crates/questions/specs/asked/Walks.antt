-- The walks of one packet, for each assignment of conditions that this program doesn't know.
use Rattle.std.specs.Prelude.{◌≡◌, List, All, Any}
use Rattle.fields.specs.Packet.{PacketView as Packet}
use Rattle.table.specs.chains.Table.{Table}
use Rattle.table.specs.walk.Walk.{walk}
use Rattle.questions.specs.Foreign.{Agrees, Assignment}
use Rattle.questions.specs.Scopes.{EndsUnder, IsOf, IsSurely, Known, answered, known_by, scope_of, walked_by}
use Rattle.questions.specs.declared.foreign.answers.Answer.{Answer}
use Rattle.questions.specs.declared.foreign.subject.Subject.{Subject}
use Rattle.questions.specs.declared.walking.task.Leaf.{Leaf}

-- The packet is in a leaf, if the answers are right; and a leaf that has it under right answers has it under these, and shows its walk.
pub record AreWalksUnder (t : Table) (known : Known) (p : Packet) (answers : List Answer) (leaves : List Leaf) : Type 0 where
  pub complete : Agrees known.holds answers → Any (EndsUnder t known p) leaves
  pub exact : All (λ (leaf : Leaf). IsOf known p (scope_of leaf) → Agrees known.holds answers × (walk t p ≡ walked_by known t.chains leaf)) leaves
  pub decided : All (IsSurely known) leaves

-- the leaf shows the walk that the packet has under the assignment
abbrev pub ShowsWalk : Subject → Packet → Assignment → Leaf → Type 0
ShowsWalk subject p a leaf = walk (answered subject a) p ≡ walked_by (known_by subject a) (answered subject a).chains leaf

-- Under each assignment that gives the answers some leaf, whose answers it gives, too, shows the packet's walk. Each leaf shows the walk that the packet
-- has under each assignment that gives the leaf's answers, which gives these, too; and some assignment does.
pub record AreWalks (subject : Subject) (p : Packet) (answers : List Answer) (leaves : List Leaf) : Type 0 where
  pub complete : (a : Assignment) → Agrees a answers → Any (λ (leaf : Leaf). Agrees a leaf.answers × ShowsWalk subject p a leaf) leaves
  pub exact : (a : Assignment) → All (λ (leaf : Leaf). Agrees a leaf.answers → Agrees a answers × ShowsWalk subject p a leaf) leaves
  pub decided : (a : Assignment) → All (IsSurely (known_by subject a)) leaves
  pub given : All (λ (leaf : Leaf). (a : Assignment) × Agrees a leaf.answers) leaves
