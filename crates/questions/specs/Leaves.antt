-- Leaves: boxes of packets that all have the same walk.
use Rattle.std.specs.Prelude.{◌≡◌, ℕ, List, [], map, slice_index_or, All}
use Rattle.fields.specs.declared.packet.hook.Hook.{Hook}
use Rattle.fields.specs.numbers.Spans.{SpanSet}
use Rattle.fields.specs.Packet.{PacketView as Packet}
use Rattle.table.specs.chains.Table.{Chain, Table, empty_chain}
use Rattle.table.specs.declared.walk.trail.Step.{Step}
use Rattle.table.specs.walk.Walk.{Entry, Walked, walk}
use Rattle.questions.specs.boxes.Boxes.{IsAtHook, IsIn}
use Rattle.questions.specs.declared.walking.task.Leaf.{Leaf}

-- the name of the chain at a place in the order of a listing
abbrev pub name_at : List Chain → ℕ → List ℕ
name_at chains place = let chain : Chain = slice_index_or chains place (empty_chain []) in chain.name

-- the entry of a trail for which a step stands, with its chain's name
abbrev pub entry_of : List Chain → Step → Entry
entry_of chains step = record { chain = name_at chains step.chain; number = step.number }

-- the entries for which the steps of a trail stand
abbrev pub entries_of : List Chain → List Step → List Entry
entries_of chains steps = map (entry_of chains) steps

-- the walk that a leaf shows
abbrev pub walked_of : List Chain → Leaf → Walked
walked_of chains leaf =
    record { trail = entries_of chains leaf.trail.items; verdict = leaf.verdict; by_policy = leaf.by_policy }

-- if the packet is in the leaf's box, it is in the other box, too, and its walk is the one that the leaf shows
abbrev pub ShowsWalk : Table → List SpanSet → Packet → Leaf → Type 0
ShowsWalk t box p leaf = IsIn leaf.area p → IsIn box p × (walk t p ≡ walked_of t.chains leaf)

-- each packet of a leaf's box that can be at the hook is in the box, and its walk is the one that the leaf shows
abbrev pub AreExactOn : Table → Hook → List SpanSet → List Leaf → Type 0
AreExactOn t hook box leaves = (p : Packet) → IsAtHook p → p.hook ≡ hook → All (ShowsWalk t box p) leaves
