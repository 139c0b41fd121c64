use Rattle.std.proofs.Common.{◌≡◌, ◌⊎◌, ◌++◌, List, vec_len, Any}
use Rattle.fields.specs.Packet.{PacketView as Packet}
use Rattle.questions.specs.Foreign.{Assignment}
use Rattle.questions.specs.declared.foreign.subject.Subject.{Subject}
use Rattle.questions.specs.steps.Seeking.{IsForOne, IsHere, KeepsWanted, KeepsWays, MayCome, AddsWays}
use Rattle.questions.specs.declared.walking.scope.Scope.{Scope}
use Rattle.questions.proofs.seeking.way.add_parts.Given as goal

abbrev pub invariant-loop-scope : goal.invariant-loop-scope
invariant-loop-scope l = record {
  kept : KeepsWays l.initial.ways.items l.ways.items;
  wanted : KeepsWanted l.way l.initial.ways.items l.ways.items;
  each : AddsWays (IsForOne l.way l.initial.scopes.items) l.initial.ways.items l.ways.items;
  left : (rest : List Scope) × (l.initial.scopes.items ≡ l.scopes.items ++ rest);
  parts : (subject : Subject) (a : Assignment) (p : Packet) → MayCome subject a p l.way → Any (IsHere a p) l.initial.scopes.items → Any (IsHere a p) l.scopes.items ⊎ Any (MayCome subject a p) l.ways.items;
}

abbrev pub decreases-loop-scope : goal.decreases-loop-scope
decreases-loop-scope l = vec_len l.scopes
