use Rattle.std.proofs.Common.{◌≡◌, ◌++◌, drop, filter}
use Rattle.dumps.specs.Own.{is_of}
use Rattle.dumps.specs.Views.{parts_of}
use Rattle.dumps.proofs.apart.condition.options_of.Given as goal

-- the parts so far, with what is left
abbrev pub invariant-loop-part : goal.invariant-loop-part
invariant-loop-part l = parts_of l.found.items ++ filter (is_of l.name) (parts_of (drop l.part-index l.parts)) ≡ filter (is_of l.name) (parts_of l.parts)
