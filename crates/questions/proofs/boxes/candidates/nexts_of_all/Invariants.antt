use Rattle.questions.proofs.laws.CandidateLaws.{NextsOfChains}
use Rattle.questions.proofs.boxes.candidates.nexts_of_all.Given as goal

abbrev pub invariant-loop-place : goal.invariant-loop-place
invariant-loop-place l = NextsOfChains l.subject.table.table l.area l.chains.items l.place
