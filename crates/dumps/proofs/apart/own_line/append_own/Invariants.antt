use Rattle.std.proofs.Common.{◌≡◌, ◌++◌, drop}
use Rattle.dumps.specs.Own.{own_words, line_of}
use Rattle.dumps.specs.Views.{table_in, parts_of}
use Rattle.dumps.proofs.apart.own_line.append_own.Given as goal

-- the line so far, with what is left
abbrev pub invariant-loop-i : goal.invariant-loop-i
invariant-loop-i l =
    l.line.items ++ line_of (own_words (table_in l.table) (parts_of (drop l.i l.parts)))
    ≡ l.initial.line.items ++ line_of (own_words (table_in l.table) (parts_of l.parts))
