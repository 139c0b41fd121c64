use Rattle.std.proofs.Common.{sym, ap, subst}
use Rattle.dumps.specs.Views.{all_in, IsIndex}
use Rattle.dumps.proofs.laws.NumberLaws.{index_empty}
use Rattle.dumps.proofs.conditions.Conditions.new.Goals as goal

pub invariant_of-result : goal.invariant_of-result
invariant_of-result c = subst (IsIndex c.new.result) (sym (ap all_in c.new-2.ensures.items)) (index_empty c.new.result c.new.ensures.empty)
