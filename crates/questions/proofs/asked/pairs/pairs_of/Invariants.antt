use Rattle.std.proofs.Common.{◌≡◌, ℕ, ◌<◌, true, All}
use Rattle.table.specs.chains.Table.{has_chain}
use Rattle.questions.specs.Foreign.{Assignment}
use Rattle.questions.specs.Leaves.{name_at}
use Rattle.questions.specs.Scopes.{answered, table_of, whole_of}
use Rattle.questions.specs.asked.Changes.{IsPairOf}
use Rattle.questions.specs.declared.asked.pairs.Pair.{Pair}
use Rattle.questions.specs.steps.Shared.{IsPaired}
use Rattle.questions.proofs.laws.SharedLaws.{IsAmong}
use Rattle.questions.proofs.asked.pairs.pairs_of.Given as goal

abbrev pub invariant-loop-place : goal.invariant-loop-place
invariant-loop-place l = record {
  paired : All (λ (pair : Pair). (a : Assignment) → IsPaired (answered l.old a) (answered l.new a) pair) l.pairs.items;
  aligned : All (IsPairOf (whole_of l.old) (whole_of l.new)) l.pairs.items;
  all : (k : ℕ) → k < l.place → has_chain (table_of l.new) (name_at (table_of l.old).chains k) ≡ true → IsAmong l.pairs.items k;
}
