-- Boxes of the packets that words say (iptables(8), PARAMETERS).
use Rattle.std.specs.Prelude.{◌≡◌, true, List, All, AllPairs, Any}
use Rattle.fields.specs.declared.packet.hook.Hook.{Hook}
use Rattle.fields.specs.numbers.Spans.{SpanSet}
use Rattle.fields.specs.Packet.{PacketView as Packet}
use Rattle.notation.specs.Words.{all_say}
use Rattle.notation.specs.declared.packet_word.PacketWord.{PacketWord}
use Rattle.questions.specs.boxes.Boxes.{IsAtHook, IsIn}

-- the packet can be at the hook
pub record IsAt (hook : Hook) (p : Packet) : Type 0 where
  pub can : IsAtHook p
  pub there : p.hook ≡ hook

-- of the packets that can be at a hook, those of which all words hold are each in a box, no others are in one, and none is in two
pub record AreSaid (hook : Hook) (words : List PacketWord) (boxes : List (List SpanSet)) : Type 0 where
  pub all : (p : Packet) → IsAt hook p → all_say words p ≡ true → Any (λ box. IsIn box p) boxes
  pub own : All (λ box. (p : Packet) → IsAt hook p → IsIn box p → all_say words p ≡ true) boxes
  pub apart : AllPairs (λ a b. (p : Packet) → IsAt hook p → IsIn a p → IsIn b p → ⊥) boxes
