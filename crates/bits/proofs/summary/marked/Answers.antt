use Rattle.bits.proofs.laws.SummaryLaws.{mark_same, mark_other}
use Rattle.bits.proofs.summary.marked.Goals as goal

pub returns-then-bit-clause-kept : goal.returns-then-bit-clause-kept
returns-then-bit-clause-kept c = mark_other c.args.summary c.args.word

pub returns-then-bit-clause-more : goal.returns-then-bit-clause-more
returns-then-bit-clause-more c _ = mark_same c.args.summary c.args.word
