use Rattle.std.proofs.Common.{◌≡◌, ◌++◌, drop, filter, flat_map}
use Rattle.dumps.specs.Own.{given_words, is_of, line_of}
use Rattle.dumps.specs.Views.{table_in, parts_of}
use Rattle.dumps.proofs.apart.target.append_options.Given as goal

abbrev pub invariant-loop-part : goal.invariant-loop-part
invariant-loop-part l =
    l.text.items ++ line_of (flat_map (given_words (table_in l.table)) (filter (is_of l.name) (parts_of (drop l.part-index l.parts))))
    ≡ l.initial.text.items ++ line_of (flat_map (given_words (table_in l.table)) (filter (is_of l.name) (parts_of l.parts)))
