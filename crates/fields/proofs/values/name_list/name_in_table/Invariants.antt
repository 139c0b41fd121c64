use Rattle.std.proofs.Common.{◌≡◌, drop}
use Rattle.fields.specs.values.NameList.{row_named}
use Rattle.fields.specs.steps.Tables.{rows_of}
use Rattle.fields.proofs.values.name_list.name_in_table.Given as goal

-- the answer is among the flags that are left
abbrev pub invariant-loop-flag : goal.invariant-loop-flag
invariant-loop-flag g l = row_named g.F.Flags.table l.text ≡ row_named (rows_of g.F.Flags.set_of (drop l.flag-index l.flag-items)) l.text
