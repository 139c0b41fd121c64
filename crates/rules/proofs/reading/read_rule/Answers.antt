use Rattle.rules.specs.steps.Views.{view_spec}
use Rattle.rules.proofs.laws.printing.RoundTripLaws.{read_reads, is_readable}
use Rattle.rules.proofs.reading.read_rule.Goals as goal

pub of-requires : goal.of-requires
of-requires c = read_reads _ _ (view_spec c.in_ok-spec.spec) c.in_ok-spec.ensures

pub returns-in-Ok-clause-readable : goal.returns-in-Ok-clause-readable
returns-in-Ok-clause-readable c =
    rw c.in-Ok.ensures (is_readable _ (read_reads _ _ (view_spec c.in_ok-spec.spec) c.in_ok-spec.ensures))
