use Rattle.std.proofs.Common.{◌≡◌, drop}
use Rattle.std.specs.List.{list_any}
use Rattle.dumps.specs.Own.{is_of}
use Rattle.dumps.specs.Views.{parts_of}
use Rattle.dumps.proofs.apart.own.has_part.Given as goal

abbrev pub invariant-loop-part : goal.invariant-loop-part
invariant-loop-part l = list_any (is_of l.name) (parts_of (drop l.part-index l.parts)) ≡ list_any (is_of l.name) (parts_of l.parts)
