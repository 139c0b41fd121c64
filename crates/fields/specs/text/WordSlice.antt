-- Words that are lent by reference.
use Rattle.std.specs.Prelude.{ℕ, List}
use Rattle.fields.specs.text.Words.{words_to}
use Rattle.fields.specs.declared.text.word_slice.WordSlice.{WordSlice}

-- the words
abbrev pub words_in : WordSlice → List (List ℕ)
words_in slice = words_to slice.bytes.now slice.from slice.ends.now
