use Rattle.std.proofs.Common.{◌≡◌, ℕ, ◌<◌, List, length, get_or}
use Rattle.fields.specs.numbers.Spans.{SpanSet}
use Rattle.questions.specs.declared.walking.scope.Scope.{Scope}
use Rattle.questions.specs.steps.Claimed.{IsStart}
use Rattle.questions.proofs.asked.givers.starts_of.Given as goal

abbrev pub invariant-loop-area : goal.invariant-loop-area
invariant-loop-area l = record {
  long : length l.starts.items ≡ l.area-index;
  each : (k : ℕ) (box : List SpanSet) (d : Scope) → k < l.area-index → IsStart (record { hook = l.fn.given.hook; area = get_or l.fn.given.boxes.items k box }) (get_or l.starts.items k d);
}
