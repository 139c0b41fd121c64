use Rattle.std.proofs.Common.{take, flat_map}
use Rattle.fields.specs.text.Tap.{Wrote}
use Rattle.table.specs.chains.Table.{chain_at}
use Rattle.sessions.specs.Replies.{field_line}
use Rattle.sessions.proofs.reply.lines.put_lines.Given as goal

abbrev pub invariant-loop-field : goal.invariant-loop-field
invariant-loop-field g l =
    Wrote g.W.Write.contents l.initial.output l.output (flat_map (field_line (chain_at l.table.table l.place).rules) (take l.field-index l.fields))
