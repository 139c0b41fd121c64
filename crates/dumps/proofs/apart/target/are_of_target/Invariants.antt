use Rattle.std.proofs.Common.{◌≡◌, drop}
use Rattle.std.specs.List.{list_all}
use Rattle.dumps.specs.Foreign.{is_of_target}
use Rattle.dumps.specs.Views.{parts_of}
use Rattle.dumps.proofs.apart.target.are_of_target.Given as goal

abbrev pub invariant-loop-part : goal.invariant-loop-part
invariant-loop-part l = list_all (is_of_target l.name) (parts_of (drop l.part-index l.parts)) ≡ list_all (is_of_target l.name) (parts_of l.parts)
