use Rattle.questions.proofs.laws.PlainLaws.{told_free}
use Rattle.questions.proofs.foreign.need.Needs.of.Goals as goal

pub invariant_of-result : goal.invariant_of-result
invariant_of-result c = told_free c.args.chains.items c.are_free-none.result (rw c.as_slice.ensures.value at c.are_free-none.ensures.none) (rw c.as_slice.ensures.value at c.are_free-none.ensures.some)
