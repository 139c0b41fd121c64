use Rattle.std.proofs.Common.{◌≡◌, take}
use Rattle.std.specs.List.{join_with_byte}
use Rattle.fields.specs.values.NameList.{names_in}
use Rattle.fields.specs.steps.Tables.{rows_of}
use Rattle.fields.specs.text.Tap.{Wrote}
use Rattle.fields.proofs.laws.text.PutLaws.{comma_after}
use Rattle.fields.proofs.values.name_list.put_names.Given as goal

-- the names so far are written, and a comma stands before the next unless it is the first
abbrev pub invariant-loop-flag : goal.invariant-loop-flag
invariant-loop-flag g l = record {
  wrote : Wrote g.W.Write.contents l.initial.output l.output (join_with_byte 44 (names_in (rows_of g.F.Flags.set_of (take l.flag-index l.flags)) (g.F.Flags.set_of l.set)));
  mark : l.separator ≡ comma_after (names_in (rows_of g.F.Flags.set_of (take l.flag-index l.flags)) (g.F.Flags.set_of l.set));
}
