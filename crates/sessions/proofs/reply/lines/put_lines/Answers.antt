use Rattle.fields.proofs.laws.text.PutLaws.{puts-stopped, stopped-at}
use Rattle.table.specs.chains.Table.{chain_at}
use Rattle.sessions.specs.Replies.{field_line}
use Rattle.sessions.proofs.reply.lines.put_lines.Goals as goal

pub returns-in_err-put_line : goal.returns-in_err-put_line
returns-in_err-put_line g c =
    let rules = (chain_at c.args.table.now.table c.args.place).rules in
    puts-stopped _ _ _ _ _ c.from_residual.ensures.0
    (stopped-at (field_line rules) c.args.fields.now c.loop-field.field-index _ c.loop-field-test.true c.loop-field.invariant c.in_err-put_line.ensures)
