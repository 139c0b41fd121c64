use Rattle.std.proofs.Common.{◌≡◌, ◌<◌, ◌≤◌, false, true}
use Rattle.std.specs.Option.{option_map}
use Rattle.questions.specs.Ends.{rule_at}
use Rattle.questions.specs.steps.Leading.{Spreads, unmarked}
use Rattle.questions.proofs.laws.LeadLaws.{AreClosedBelow}
use Rattle.questions.proofs.asked.leading.spread.Given as goal

abbrev pub invariant-loop-call : goal.invariant-loop-call
invariant-loop-call l = record {
  more : Spreads l.subject.table.table (option_map (rule_at l.subject.table.table) l.fn.own) l.initial.marks.items l.marks.items;
  less : unmarked l.marks.items ≤ unmarked l.initial.marks.items;
  fewer : l.is_more ≡ true → unmarked l.marks.items < unmarked l.initial.marks.items;
  closed : l.is_more ≡ false → AreClosedBelow l.subject.table.table (option_map (rule_at l.subject.table.table) l.fn.own) l.marks.items l.calls l.call-index;
}
