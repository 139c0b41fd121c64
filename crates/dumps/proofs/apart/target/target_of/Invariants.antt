use Rattle.std.proofs.Common.{◌≡◌, drop, option_map}
use Rattle.std.specs.Option.{option_or}
use Rattle.dumps.specs.Parts.{target_of}
use Rattle.dumps.specs.Views.{table_in, extension_in, parts_of}
use Rattle.dumps.proofs.apart.target.target_of.Given as goal

-- the target is that of the parts that are left, or else what was found
abbrev pub invariant-loop-part : goal.invariant-loop-part
invariant-loop-part l =
    option_or (target_of (table_in l.table) (parts_of (drop l.part-index l.parts))) (option_map extension_in l.found)
    ≡ target_of (table_in l.table) (parts_of l.parts)
