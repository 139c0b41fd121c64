use Rattle.std.proofs.Common.{◌≡◌, ◌++◌, take}
use Rattle.std.specs.List.{join_with_byte}
use Rattle.fields.specs.values.NameList.{names_in}
use Rattle.fields.proofs.laws.text.PutLaws.{comma_after}
use Rattle.notation.specs.Rows.{rows_of}
use Rattle.notation.proofs.values.put_names.Given as goal

-- the names so far are written, and a comma stands before the next unless it is the first
abbrev pub invariant-loop-name : goal.invariant-loop-name
invariant-loop-name l = record {
  names : l.line.items ≡ l.fn.line.items ++ join_with_byte 44 (names_in (rows_of (take l.name-index l.rows)) l.set);
  mark : l.separator ≡ comma_after (names_in (rows_of (take l.name-index l.rows)) l.set);
}
