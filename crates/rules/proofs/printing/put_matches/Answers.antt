use Rattle.std.proofs.Common.{arith}
use Rattle.fields.proofs.laws.text.PutLaws.{puts-stopped, stopped-item}
use Rattle.rules.specs.steps.Writing.{match_text}
use Rattle.rules.specs.steps.Views.{view_match}
use Rattle.rules.specs.declared.rule.spec.Match.{Match}
use Rattle.rules.proofs.printing.put_matches.Goals as goal

pub returns-in_err-put_match : goal.returns-in_err-put_match
returns-in_err-put_match g c =
    puts-stopped _ _ _ _ _ c.from_residual.ensures.0 (stopped-item (λ (m : Match). match_text (view_match m)) c.args.matches.now c.loop-one.one-index c.one-item.result (omega arith) c.one-item.is c.loop-one.invariant c.in_err-put_match.ensures)
