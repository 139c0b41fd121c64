use Rattle.std.proofs.Common.{◌≡◌, ◌++◌, drop, flat_map}
use Rattle.dumps.specs.Conditions.{text_words}
use Rattle.dumps.specs.Views.{texts_in, parts_of}
use Rattle.dumps.proofs.apart.condition.text_of.Given as goal

-- the words so far, with what is left
abbrev pub invariant-loop-part : goal.invariant-loop-part
invariant-loop-part l =
    texts_in l.words.items ++ flat_map (text_words l.single) (parts_of (drop l.part-index l.parts))
    ≡ flat_map (text_words l.single) (parts_of l.parts)
