use Rattle.std.proofs.Common.{◌≡◌, length}
use Rattle.fields.specs.values.NameList.{set_listed}
use Rattle.fields.proofs.laws.values.NameListLaws.{joined}
use Rattle.fields.proofs.values.name_list.read_names.Given as goal

-- the set so far, and what the rest of the list stands for
abbrev pub invariant-loop-name : goal.invariant-loop-name
invariant-loop-name g l = set_listed g.F.Flags.table l.text ≡ joined g.F.Flags.table (g.F.Flags.set_of l.set) l.rest

abbrev pub decreases-loop-name : goal.decreases-loop-name
decreases-loop-name g l = length l.rest
