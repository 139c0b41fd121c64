use Rattle.std.proofs.Common.{◌≡◌, drop}
use Rattle.fields.specs.values.Protocol.{number_in}
use Rattle.fields.specs.steps.Tables.{entries_of}
use Rattle.fields.proofs.values.protocol.number_in.Given as goal

-- the answer is among the entries that are left
abbrev pub invariant-loop-name : goal.invariant-loop-name
invariant-loop-name l = number_in l.text (entries_of (drop l.name-index l.entries)) ≡ number_in l.text (entries_of l.entries)
