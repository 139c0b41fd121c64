use Rattle.std.proofs.Common.{take, flat_map}
use Rattle.fields.specs.text.Tap.{Wrote}
use Rattle.restore.specs.Listing.{chain_line}
use Rattle.restore.proofs.listing.put_chain_lines.Given as goal

abbrev pub invariant-loop-place : goal.invariant-loop-place
invariant-loop-place g l = Wrote g.W.Write.contents l.initial.output l.output (flat_map (chain_line l.table.table) (take l.place l.table.table.chains))
