use Rattle.std.proofs.Common.{take}
use Rattle.fields.specs.numbers.Spans.{has}
use Rattle.questions.specs.steps.Sampled.{FindsNone, IsNamed}
use Rattle.questions.proofs.sampling.interface.named_in.Given as goal

abbrev pub invariant-loop-span : goal.invariant-loop-span
invariant-loop-span l = FindsNone IsNamed (has (take l.span-index l.set.intervals))
