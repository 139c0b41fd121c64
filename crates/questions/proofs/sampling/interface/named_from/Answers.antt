use Rattle.std.proofs.Common.{ℕ, Option, Some, None, MatchOption}
use Rattle.questions.specs.steps.Sampled.{HasNoneFrom, IsLeast, IsTail, IsInterfaceNumber}
use Rattle.questions.proofs.laws.ChoiceLaws.{from-number, to-number}
use Rattle.questions.proofs.sampling.interface.named_from.Goals as goal

as_number : (from : ℕ) (found : Option ℕ) → MatchOption found (HasNoneFrom (IsTail 15) from) (IsLeast (IsTail 15) from) → MatchOption found (HasNoneFrom IsInterfaceNumber from) (IsLeast IsInterfaceNumber from)
as_number from (Some n) h = record { is = to-number n h.is; above = h.above; least = λ m is le. h.least m (from-number m is) le }
as_number from None h = λ n is le. h n (from-number n is) le

pub returns : goal.returns
returns c = as_number c.args.number c.tail_from.result c.tail_from.ensures
