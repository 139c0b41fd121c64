use Rattle.std.proofs.Common.{◌≡◌, ◌⊎◌, ◌++◌, List, All, vec_len, Any}
use Rattle.fields.specs.Packet.{PacketView as Packet}
use Rattle.questions.specs.Foreign.{Agrees, Assignment}
use Rattle.questions.specs.boxes.Cut.{IsInSome}
use Rattle.questions.specs.steps.Seeking.{IsBoxUnder, IsHere}
use Rattle.questions.specs.declared.walking.scope.Scope.{Scope}
use Rattle.fields.specs.numbers.Spans.{SpanSet}
use Rattle.questions.proofs.seeking.straying.add_boxes.Given as goal

abbrev pub invariant-loop-area : goal.invariant-loop-area
invariant-loop-area l = record {
  kept : (a : Assignment) (p : Packet) → Any (IsHere a p) l.initial.scopes.items → Any (IsHere a p) l.scopes.items;
  only : (more : List Scope) × (l.scopes.items ≡ l.initial.scopes.items ++ more) × All (IsBoxUnder l.initial.boxes.items l.answers) more;
  left : (rest : List (List SpanSet)) × (l.initial.boxes.items ≡ l.boxes.items ++ rest);
  each : (a : Assignment) (p : Packet) → IsInSome l.initial.boxes.items p.values → Agrees a l.answers → IsInSome l.boxes.items p.values ⊎ Any (IsHere a p) l.scopes.items;
}

abbrev pub decreases-loop-area : goal.decreases-loop-area
decreases-loop-area l = vec_len l.boxes
