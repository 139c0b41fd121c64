use Rattle.std.proofs.lemmas.Result.{IfOk-weaker}
use Rattle.dumps.specs.Views.{names_in}
use Rattle.dumps.proofs.laws.ServiceLaws.{icmp_types_in_lines}
use Rattle.dumps.proofs.services.icmp_type_names.Goals as goal

pub returns-clause-lines : goal.returns-clause-lines
returns-clause-lines c = IfOk-weaker c.name_rows.result _ _ (λ rows are. icmp_types_in_lines (names_in rows.items) are) c.name_rows.ensures
