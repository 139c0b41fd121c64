use Rattle.std.proofs.Common.{ℕ, ◌+◌, ◌-◌, length}
use Rattle.questions.specs.Foreign.{Assignment}
use Rattle.questions.specs.Scopes.{answered, whole_of}
use Rattle.questions.specs.asked.Changes.{AreMarks}
use Rattle.questions.specs.steps.Shared.{IsBeside}
use Rattle.questions.proofs.asked.pairs.pair_of.Given as goal

abbrev pub invariant-loop-pair : goal.invariant-loop-pair
invariant-loop-pair l = record {
  beside : (a : Assignment) → IsBeside (answered l.old a) (answered l.new a) l.fn.chains l.pair;
  marks : (n : ℕ) × AreMarks (whole_of l.old) (whole_of l.new) l.fn.chains n l.pair;
}

abbrev pub decreases-loop-pair : goal.decreases-loop-pair
decreases-loop-pair l = (l.count.old - length l.pair.went.items) + (l.count.new - length l.pair.came.items)
