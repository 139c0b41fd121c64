use Rattle.std.proofs.Common.{[], ◌∷◌}
use Rattle.fields.proofs.laws.text.PutLaws.{puts-stopped, stopped-before, stopped-then, puts-then}
use Rattle.fields.proofs.values.free_text.put_in_quotes.Goals as goal

pub returns-in_err-put : goal.returns-in_err-put
returns-in_err-put g c = puts-stopped _ _ _ _ _ c.from_residual.ensures.0 (stopped-before c.in_err-put.ensures.puts _)

pub returns-in_err-put_escaped : goal.returns-in_err-put_escaped
returns-in_err-put_escaped g c =
    puts-stopped _ _ _ _ _ c.from_residual-in_err-put_escaped.ensures.0 (stopped-then c.in_ok-put.ensures.puts (stopped-before c.in_err-put_escaped.ensures _))

pub returns : goal.returns
returns g c = puts-then _ _ _ _ _ (34 ∷ []) _ c.in_ok-put.ensures.puts (puts-then _ _ _ _ _ _ _ c.in_ok-put_escaped.ensures c.put-2.ensures.puts)
