use Rattle.std.proofs.Common.{◌≡◌, ◌++◌, take}
use Rattle.fields.specs.Hook.{name}
use Rattle.questions.specs.steps.Sampled.{spaced_words, packet_with}
use Rattle.questions.proofs.sampling.line.line_of.Given as goal

-- the hook and the words of the fields so far are written
abbrev pub invariant-loop-field : goal.invariant-loop-field
invariant-loop-field l = l.line.items ≡ name l.fn.hook ++ spaced_words (packet_with l.fn.hook l.numbers) (take l.field-index l.field-items)
