use Rattle.std.proofs.Common.{◌≡◌, drop}
use Rattle.fields.specs.values.Protocol.{name_in}
use Rattle.fields.specs.steps.Tables.{entries_of}
use Rattle.fields.proofs.values.protocol.name_in.Given as goal

-- the answer is among the entries that are left
abbrev pub invariant-loop-name : goal.invariant-loop-name
invariant-loop-name l = name_in l.protocol (entries_of (drop l.name-index l.entries)) ≡ name_in l.protocol (entries_of l.entries)
