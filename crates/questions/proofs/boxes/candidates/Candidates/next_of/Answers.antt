use Rattle.std.proofs.Common.{arith}
use Rattle.questions.proofs.laws.CandidateLaws.{next_candidate}
use Rattle.questions.proofs.boxes.candidates.Candidates.next_of.Goals as goal

pub returns-then-passed-nexts-clause-others : goal.returns-then-passed-nexts-clause-others
returns-then-passed-nexts-clause-others c = λ t box are k le lt. absurd (omega (arith, le, lt))

pub returns-clause-others : goal.returns-clause-others
returns-clause-others c = λ t box are k le lt. next_candidate t box c.args.self.now c.args.chain c.args.passed c.in_chain-nexts.result.now are c.in_chain-nexts.ensures (omega arith) k le (omega (arith, le, lt))
