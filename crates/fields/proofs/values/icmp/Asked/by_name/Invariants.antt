use Rattle.std.proofs.Common.{◌≡◌, drop}
use Rattle.fields.specs.values.Icmp.{asked_by_name}
use Rattle.fields.specs.steps.Tables.{icmp_rows}
use Rattle.fields.proofs.values.icmp.Asked.by_name.Given as goal

-- the answer is among the rows that are left
abbrev pub invariant-loop-name : goal.invariant-loop-name
invariant-loop-name l = asked_by_name l.text (icmp_rows l.rows) ≡ asked_by_name l.text (icmp_rows (drop l.name-index l.rows))
