use Rattle.std.proofs.Common.{◌≡◌, ◌++◌, drop}
use Rattle.dumps.specs.Own.{line_of}
use Rattle.dumps.specs.Foreign.{known_words, needs_in}
use Rattle.dumps.specs.Views.{all_known_in}
use Rattle.dumps.proofs.reading.foreign.append_known.Given as goal

-- the text so far, with what is left
abbrev pub invariant-loop-need : goal.invariant-loop-need
invariant-loop-need l =
    l.text.items ++ line_of (known_words (all_known_in l.known) (needs_in (drop l.need-index l.needs)))
    ≡ l.initial.text.items ++ line_of (known_words (all_known_in l.known) (needs_in l.needs))
