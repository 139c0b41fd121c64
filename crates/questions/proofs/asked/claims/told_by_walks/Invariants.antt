use Rattle.std.proofs.Common.{◌≡◌, ℕ, ◌<◌, true, false, get_or, Any, List}
use Rattle.fields.specs.numbers.Spans.{SpanSet}
use Rattle.questions.specs.Scopes.{whole_of}
use Rattle.questions.specs.steps.Claimed.{IsFree, MayFail}
use Rattle.questions.proofs.laws.ClaimLaws.{IsTold, box_at}
use Rattle.questions.proofs.asked.claims.told_by_walks.Given as goal

abbrev pub invariant-loop-area : goal.invariant-loop-area
invariant-loop-area l = record {
  told : (k : ℕ) (d : List SpanSet) → k < l.area-index → IsTold l.fn.subject l.fn.given l.fn.forbidden l.fn.budget (get_or l.fn.given.boxes.items k d);
  free : l.clear ≡ true → (k : ℕ) (d : List SpanSet) → k < l.area-index → IsFree l.fn.subject (box_at l.fn.subject l.fn.given l.fn.forbidden (get_or l.fn.given.boxes.items k d)) l.fn.forbidden;
  may : l.clear ≡ false → Any (λ (box : List SpanSet). MayFail (whole_of l.fn.subject) (box_at l.fn.subject l.fn.given l.fn.forbidden box) l.fn.forbidden l.fn.budget) l.fn.given.boxes.items;
}
