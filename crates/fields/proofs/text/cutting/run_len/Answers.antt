use Rattle.std.proofs.Common.{◌≡◌, ℕ, true, take, List, All, subst, arith}
use Rattle.std.proofs.lemmas.List.{take_rest}
use Rattle.fields.specs.text.Words.{is_bare}
use Rattle.fields.proofs.laws.text.CuttingLaws.{run_more, run_joined}
use Rattle.fields.proofs.text.cutting.run_len.Goals as goal

pub returns-then-run-lt16-clause-run : goal.returns-then-run-lt16-clause-run
returns-then-run-lt16-clause-run c = (run_more c.args.bytes.now c.runs.at _ (omega arith) c.len_in_16-run.ensures c.runs.invariant.run).1

pub runs-preserved : goal.runs-preserved
runs-preserved c =
    let more = run_more c.args.bytes.now c.runs.at c.len_in_16-run.result (omega arith) c.len_in_16-run.ensures c.runs.invariant.run in
    record { within = more.0; run = more.1 }

pub returns-clause-run : goal.returns-clause-run
returns-clause-run c =
    let bytes = c.args.bytes.now in
    let at = c.runs.at in
    let n = c.bare_len.result in
    let after = subst (λ (rest : List ℕ). All (λ (byte : ℕ). is_bare byte ≡ true) (take n rest)) (take_rest bytes at) c.bare_len.ensures.run in
    run_joined bytes at n c.runs.invariant.run after
