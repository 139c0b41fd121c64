use Rattle.std.proofs.Common.{◌≡◌, ◌++◌, length}
use Rattle.fields.specs.text.WordSlice.{words_in}
use Rattle.dumps.specs.Views.{texts_in}
use Rattle.dumps.proofs.apart.condition.add_all.Given as goal

-- the words so far, with what is left
abbrev pub invariant-loop-word : goal.invariant-loop-word
invariant-loop-word l = texts_in l.words.items ++ words_in l.rest ≡ texts_in l.initial.words.items ++ words_in l.more

abbrev pub decreases-loop-word : goal.decreases-loop-word
decreases-loop-word l = length (words_in l.rest)
