use Rattle.std.proofs.Common.{◌≡◌, drop, option_map}
use Rattle.std.specs.Option.{option_or}
use Rattle.dumps.specs.Parts.{newest}
use Rattle.dumps.specs.Views.{table_in, row_in, parts_of, begun}
use Rattle.dumps.proofs.apart.taking.newest_option.Given as goal

-- the answer is among the parts that are left, or else what was found
abbrev pub invariant-loop-part : goal.invariant-loop-part
invariant-loop-part l =
    let table = table_in l.table in
    option_or (newest table (begun l.by table) (parts_of (drop l.part-index l.parts)) l.spelling) (option_map row_in l.found)
    ≡ newest table (begun l.by table) (parts_of l.parts) l.spelling
