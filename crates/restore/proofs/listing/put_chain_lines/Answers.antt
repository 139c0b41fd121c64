use Rattle.std.proofs.Common.{[], arith}
use Rattle.fields.proofs.laws.text.PutLaws.{puts-stopped, stopped-at}
use Rattle.table.specs.chains.Table.{empty_chain}
use Rattle.restore.specs.Listing.{chain_line}
use Rattle.restore.proofs.listing.put_chain_lines.Goals as goal

pub returns-in_err-put_chain_line : goal.returns-in_err-put_chain_line
returns-in_err-put_chain_line g c =
    let t = c.args.table.now.table in
    puts-stopped _ _ _ _ _ c.from_residual.ensures.0
    (stopped-at (chain_line t) t.chains c.loop-place.place (empty_chain []) (omega arith) c.loop-place.invariant c.in_err-put_chain_line.ensures)
