use Rattle.std.proofs.Common.{take}
use Rattle.questions.specs.steps.Answered.{AreAlikeInAll, AreFreeInAll}
use Rattle.questions.proofs.foreign.left.needs_left.Given as goal

abbrev pub invariant-loop-chain : goal.invariant-loop-chain
invariant-loop-chain l = record {
  free : AreFreeInAll l.answers l.left.items;
  alike : AreAlikeInAll l.answers (take l.chain-index l.chain-items) l.left.items;
}
