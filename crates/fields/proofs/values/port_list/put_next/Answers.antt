use Rattle.std.proofs.Common.{[], ◌∷◌}
use Rattle.fields.proofs.laws.text.PutLaws.{puts-stopped, stopped-before, puts-then}
use Rattle.fields.proofs.values.port_list.put_next.Goals as goal

pub returns-in_err-put : goal.returns-in_err-put
returns-in_err-put g c = puts-stopped _ _ _ _ _ c.from_residual.ensures.0 (stopped-before c.in_err-put.ensures.puts _)

pub returns : goal.returns
returns g c = puts-then _ _ _ _ _ (44 ∷ []) _ c.in_ok-put.ensures.puts c.put-2.ensures.puts
