use Rattle.std.proofs.Common.{◌⊎◌, ℕ, List, [], ◌∷◌, ◌++◌, Contains, vec_len}
use Rattle.fields.specs.Packet.{PacketView as Packet}
use Rattle.table.specs.chains.Table.{Table}
use Rattle.table.specs.declared.verdict.Verdict.{Verdict}
use Rattle.questions.specs.Scopes.{Known}
use Rattle.questions.specs.boxes.Cut.{IsInSome}
use Rattle.questions.specs.declared.walking.scope.Scope.{Scope}
use Rattle.questions.specs.steps.Waiting.{AreThere, Belongs, IsThere, IsAsked, IsAccounted, IsFitting, IsOfSome, Keeps, Reaches, stage_at, KeepsAsked}
use Rattle.fields.specs.numbers.Spans.{SpanSet}
use Rattle.questions.specs.declared.foreign.need.Need.{Need}
use Rattle.questions.specs.steps.Taken.{AddsTasks, IsBesides}
use Rattle.questions.proofs.laws.PartedLaws.{HasAdded}
use Rattle.questions.proofs.walking.turn.pass_over.Given as goal

abbrev pub invariant-loop-area : goal.invariant-loop-area
invariant-loop-area l = record {
  passed : (t : Table) (known : Known) (policy : Verdict) (p : Packet) → IsThere t.chains l.at → AreThere t.chains l.task → IsAsked t policy p → IsOfSome known p l.initial.boxes.items l.task.scope.answers
      → Reaches t p (stage_at known t.chains l.at l.task) → IsOfSome known p l.boxes.items l.task.scope.answers ⊎ IsAccounted t known p l.front;
  within : (numbers : List ℕ) → IsInSome l.boxes.items numbers → IsInSome l.initial.boxes.items numbers;
  fits : (t : Table) (known : Known) (policy : Verdict) (start : Scope) (p : Packet) → IsThere t.chains l.at → AreThere t.chains l.task → IsAsked t policy p
      → (IsOfSome known p l.initial.boxes.items l.task.scope.answers → Belongs t known start p (stage_at known t.chains l.at l.task)) → IsFitting t known start p l.initial.front → IsFitting t known start p l.front;
  all : (box : List SpanSet) → Contains l.boxes.items box → Contains l.initial.boxes.items box;
  asked : (needs : List (List (List Need))) → KeepsAsked needs l.task.scope.answers l.initial.front l.front;
  on : AddsTasks (IsBesides l.initial.boxes.items l.task.scope.answers (l.task.rests.items ++ l.at ∷ []) l.task.trail.items) l.initial.front l.front;
  added : HasAdded l.initial.boxes.items l.boxes.items l.task.scope.answers l.initial.front l.front;
  keeps : (t : Table) (known : Known) → IsThere t.chains l.at → AreThere t.chains l.task → Keeps t known l.initial.front l.front;
}

abbrev pub decreases-loop-area : goal.decreases-loop-area
decreases-loop-area l = vec_len l.boxes
