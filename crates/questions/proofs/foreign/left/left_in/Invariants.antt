use Rattle.std.proofs.Common.{take}
use Rattle.questions.specs.steps.Answered.{AreAlikeInChain, AreFreeInChain}
use Rattle.questions.proofs.foreign.left.left_in.Given as goal

abbrev pub invariant-loop-needs : goal.invariant-loop-needs
invariant-loop-needs l = record {
  free : AreFreeInChain l.answers l.lists.items;
  alike : AreAlikeInChain l.answers (take l.needs-index l.chain) l.lists.items;
}
