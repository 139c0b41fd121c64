use Rattle.std.proofs.Common.{arith, Bor, List, [], ℕ}
use Rattle.fields.proofs.laws.text.PutLaws.{puts-stopped, stopped-at}
use Rattle.fields.proofs.text.tap.Tap.put_all.Goals as goal

pub returns-in_err-put-clause-puts : goal.returns-in_err-put-clause-puts
returns-in_err-put-clause-puts g c =
    let h = c.in_err-put.ensures.puts in
    puts-stopped _ _ _ _ _ c.from_residual.ensures.0 (stopped-at (λ (text : Bor (List ℕ)). text.now) c.args.texts.now c.loop-text.text-index (record { ref_ptr = (0, 0); now = [] }) (omega arith) c.loop-text.invariant.0 h)
