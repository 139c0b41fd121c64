use Rattle.std.proofs.Common.{drop}
use Rattle.fields.proofs.laws.numbers.MeetLaws.{Excepting}
use Rattle.fields.proofs.numbers.spans.Spans.except.Given as goal

abbrev pub invariant-loop-taken : goal.invariant-loop-taken
invariant-loop-taken l = Excepting l.self.top l.self.intervals l.gaps.items (drop l.taken-index l.taken-items) l.start
