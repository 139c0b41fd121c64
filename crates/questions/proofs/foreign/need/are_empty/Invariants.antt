use Rattle.std.proofs.Common.{◌≡◌, ℕ, ◌<◌, [], get_or, Vec, Global}
use Rattle.questions.specs.declared.foreign.need.Need.{Need}
use Rattle.questions.proofs.foreign.need.are_empty.Given as goal

abbrev pub invariant-loop-needs : goal.invariant-loop-needs
invariant-loop-needs l = (k : ℕ) (d : Vec Need Global) → k < l.needs-index → (get_or l.chain k d).items ≡ []
