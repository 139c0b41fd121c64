-- Whether two tables give packets the same verdict.
use Rattle.std.specs.Prelude.{◌≡◌, ◌≢◌, ℕ, List, Ok}
use Rattle.fields.specs.declared.packet.hook.Hook.{Hook}
use Rattle.fields.specs.Packet.{PacketView as Packet, packet_of}
use Rattle.table.specs.chains.Table.{Table}
use Rattle.table.specs.walk.Walk.{walk}
use Rattle.questions.specs.boxes.Boxes.{IsAtHook}

-- both tables give the packet the same verdict
abbrev pub IsAlike : Table → Table → Packet → Type 0
IsAlike old new p = (walk old p).verdict ≡ (walk new p).verdict

-- both tables give each packet that can be at its hook the same verdict, by whichever rule
abbrev pub IsSame : Table → Table → Type 0
IsSame old new = (p : Packet) → IsAtHook p → IsAlike old new p

-- they give each packet that can be at this hook the same verdict
abbrev pub IsSameAt : Table → Table → Hook → Type 0
IsSameAt old new hook = (p : Packet) → IsAtHook p → p.hook ≡ hook → IsAlike old new p

-- they give a packet that these words write different verdicts
abbrev pub IsOther : Table → Table → List (List ℕ) → Type 0
IsOther old new words = (p : Packet) × (packet_of words ≡ Ok p) × ((walk old p).verdict ≢ (walk new p).verdict)

-- they give a packet at this hook that these words write different verdicts
abbrev pub IsOtherAt : Table → Table → Hook → List (List ℕ) → Type 0
IsOtherAt old new hook words =
    (p : Packet) × (packet_of words ≡ Ok p) × (p.hook ≡ hook) × ((walk old p).verdict ≢ (walk new p).verdict)
