use Rattle.std.proofs.Common.{◌≡◌, ◌&&◌, drop}
use Rattle.std.specs.List.{list_any}
use Rattle.dumps.specs.Own.{is_of, is_read}
use Rattle.dumps.specs.Views.{table_in, parts_of}
use Rattle.dumps.specs.Parts.{Part}
use Rattle.dumps.proofs.apart.own.has_read.Given as goal

abbrev pub invariant-loop-part : goal.invariant-loop-part
invariant-loop-part l =
    list_any (λ (part : Part). is_of l.name part && is_read (table_in l.table) part) (parts_of (drop l.part-index l.parts))
    ≡ list_any (λ (part : Part). is_of l.name part && is_read (table_in l.table) part) (parts_of l.parts)
