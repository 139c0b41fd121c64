use Rattle.std.proofs.Common.{◌≡◌, map, string_bytes, take}
use Rattle.programs.proofs.words.texts_after_name.Given as goal

-- the texts of the words so far
abbrev pub invariant-loop-word : goal.invariant-loop-word
invariant-loop-word l = map (λ text. text.now) l.texts.items ≡ map string_bytes (take l.word-index l.rest)
