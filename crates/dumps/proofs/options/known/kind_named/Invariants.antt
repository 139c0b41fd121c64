use Rattle.std.proofs.Common.{◌≡◌, drop}
use Rattle.dumps.specs.Known.{kind_of}
use Rattle.dumps.proofs.options.known.kind_named.Given as goal

abbrev pub invariant-loop-one : goal.invariant-loop-one
invariant-loop-one l = kind_of (drop l.one-index l.kept) l.name ≡ kind_of l.kept l.name
