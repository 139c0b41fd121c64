use Rattle.std.proofs.Common.{◌≡◌, drop}
use Rattle.std.specs.List.{list_any}
use Rattle.dumps.specs.Conditions.{is_unread}
use Rattle.dumps.specs.Views.{table_in, parts_of}
use Rattle.dumps.proofs.apart.condition.has_unread.Given as goal

abbrev pub invariant-loop-part : goal.invariant-loop-part
invariant-loop-part l =
    list_any (is_unread (table_in l.table) l.name) (parts_of (drop l.part-index l.parts)) ≡ list_any (is_unread (table_in l.table) l.name) (parts_of l.parts)
