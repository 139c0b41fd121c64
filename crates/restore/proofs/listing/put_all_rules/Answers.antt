use Rattle.std.proofs.Common.{[], arith}
use Rattle.fields.proofs.laws.text.PutLaws.{puts-stopped, stopped-at}
use Rattle.table.specs.chains.Table.{empty_chain}
use Rattle.restore.specs.Listing.{rule_lines}
use Rattle.restore.proofs.listing.put_all_rules.Goals as goal

pub returns-in_err-put_rules : goal.returns-in_err-put_rules
returns-in_err-put_rules g c =
    let chains = c.args.table.now.table.chains in
    puts-stopped _ _ _ _ _ c.from_residual.ensures.0
    (stopped-at rule_lines chains c.loop-place.place (empty_chain []) (omega arith) c.loop-place.invariant c.in_err-put_rules.ensures)
