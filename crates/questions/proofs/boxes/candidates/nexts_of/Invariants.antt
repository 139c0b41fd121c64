use Rattle.std.proofs.Common.{List, get_or, length}
use Rattle.fields.specs.numbers.Spans.{SpanSet}
use Rattle.rules.specs.rule.Rules.{empty_rule}
use Rattle.table.specs.chains.Table.{chain_at}
use Rattle.questions.specs.boxes.Cut.{IsApart}
use Rattle.questions.specs.steps.Outlines.{IsOutlined}
use Rattle.questions.proofs.laws.CandidateLaws.{PassesOver}
use Rattle.questions.proofs.boxes.candidates.nexts_of.Given as goal

abbrev pub invariant-loop-done : goal.invariant-loop-done
invariant-loop-done l =
    (area : List SpanSet) → IsOutlined area l.outline
    → PassesOver (λ k. IsApart (get_or (chain_at l.subject.table.table l.place).rules k empty_rule) area) (length (chain_at l.subject.table.table l.place).rules) l.nexts.items l.next l.done
