use Rattle.std.proofs.Common.{◌≡◌, length}
use Rattle.std.specs.Option.{option_map}
use Rattle.questions.specs.Ends.{rule_at}
use Rattle.questions.specs.Leaves.{name_at}
use Rattle.questions.specs.steps.Leading.{AllLead, IsMarked, unmarked}
use Rattle.questions.proofs.asked.leading.spread_from.Given as goal

abbrev pub invariant-loop-own : goal.invariant-loop-own
invariant-loop-own l = record {
  long : length l.marks.items ≡ length l.subject.table.table.chains;
  each : AllLead l.subject.table.table (option_map (rule_at l.subject.table.table) l.fn.own) (name_at l.subject.table.table.chains l.fn.place) l.marks.items;
  own : IsMarked l.marks.items l.fn.place;
}

abbrev pub decreases-loop-own : goal.decreases-loop-own
decreases-loop-own l = unmarked l.marks.items
