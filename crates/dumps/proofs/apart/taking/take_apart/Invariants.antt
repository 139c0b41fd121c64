use Rattle.std.proofs.Common.{◌≡◌, ◌++◌, [], length}
use Rattle.std.specs.Prelude.{flat_map}
use Rattle.fields.specs.text.WordSlice.{words_in}
use Rattle.dumps.specs.Parts.{part_words, AreParts}
use Rattle.dumps.specs.Views.{table_in, parts_of}
use Rattle.dumps.proofs.apart.taking.take_apart.Given as goal

-- what was read is taken apart as these parts, and what is left follows
abbrev pub invariant-loop-word : goal.invariant-loop-word
invariant-loop-word l = record {
  whole : words_in l.words ≡ flat_map part_words (parts_of l.parts.items) ++ words_in l.rest;
  each : AreParts (table_in l.table) [] (parts_of l.parts.items);
}

abbrev pub decreases-loop-word : goal.decreases-loop-word
decreases-loop-word l = length (words_in l.rest)
