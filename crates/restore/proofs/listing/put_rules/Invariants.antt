use Rattle.std.proofs.Common.{take, flat_map}
use Rattle.fields.specs.text.Tap.{Wrote}
use Rattle.table.specs.chains.Table.{chain_at}
use Rattle.restore.specs.Listing.{rule_line}
use Rattle.restore.proofs.listing.put_rules.Given as goal

abbrev pub invariant-loop-number : goal.invariant-loop-number
invariant-loop-number g l =
    let c = chain_at l.table.table l.place in
    Wrote g.W.Write.contents l.initial.output l.output (flat_map (rule_line c.name) (take l.number c.rules))
