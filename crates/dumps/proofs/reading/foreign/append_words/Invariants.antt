use Rattle.std.proofs.Common.{◌≡◌, ◌++◌, drop}
use Rattle.dumps.specs.Own.{line_of}
use Rattle.dumps.specs.Views.{texts_in}
use Rattle.dumps.proofs.reading.foreign.append_words.Given as goal

-- the text so far, with what is left
abbrev pub invariant-loop-word : goal.invariant-loop-word
invariant-loop-word l = l.text.items ++ line_of (texts_in (drop l.word-index l.words)) ≡ l.initial.text.items ++ line_of (texts_in l.words)
