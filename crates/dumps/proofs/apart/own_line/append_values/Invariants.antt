use Rattle.std.proofs.Common.{◌≡◌, ◌++◌, length, map}
use Rattle.fields.specs.text.WordSlice.{words_in}
use Rattle.dumps.specs.Own.{given_value, line_of}
use Rattle.dumps.specs.Views.{table_in}
use Rattle.dumps.proofs.apart.own_line.append_values.Given as goal

-- the line so far, with what is left
abbrev pub invariant-loop-word : goal.invariant-loop-word
invariant-loop-word l =
    l.line.items ++ line_of (map (given_value (table_in l.table) l.part.row.role) (words_in l.rest))
    ≡ l.initial.line.items ++ line_of (map (given_value (table_in l.table) l.part.row.role) (words_in l.part.values))

abbrev pub decreases-loop-word : goal.decreases-loop-word
decreases-loop-word l = length (words_in l.rest)
