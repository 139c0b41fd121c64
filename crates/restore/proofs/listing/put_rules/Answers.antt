use Rattle.std.proofs.Common.{◌≡◌, ◌+◌, ◌-◌, ◌∙◌, ℕ, List, get_or, ap, arith, subst}
use Rattle.fields.specs.text.Tap.{Stopped}
use Rattle.fields.proofs.laws.text.PutLaws.{puts-stopped, stopped-item}
use Rattle.table.specs.chains.Table.{chain_at}
use Rattle.restore.specs.Listing.{rule_line}
use Rattle.restore.proofs.listing.put_rules.Goals as goal

pub returns-in_err-put_rule_line : goal.returns-in_err-put_rule_line
returns-in_err-put_rule_line g c =
    let one = chain_at c.args.table.now.table c.args.place in
    let rule = c.rule.result.now in
    let number : c.loop-number.number + 1 - 1 ≡ c.loop-number.number = omega arith in
    puts-stopped _ _ _ _ _ c.from_residual.ensures.0
    (stopped-item (rule_line one.name) one.rules c.loop-number.number rule (omega arith) (c.rule.ensures ∙ ap (λ k. get_or one.rules k rule) number)
    c.loop-number.invariant
    (subst (λ (name : List ℕ). Stopped g.W.Write.contents c.loop-number.output c.put_rule_line.new.output (rule_line name rule)) c.chain_name-name.ensures
    c.in_err-put_rule_line.ensures))
