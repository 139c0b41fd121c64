use Rattle.std.proofs.Common.{get_or, length, arith}
use Rattle.rules.specs.rule.Rules.{empty_rule}
use Rattle.table.specs.chains.Table.{chain_at}
use Rattle.questions.specs.boxes.Cut.{IsApart}
use Rattle.questions.proofs.laws.CandidateLaws.{passes_all, passes_more, passes_none}
use Rattle.questions.proofs.boxes.candidates.nexts_of.Goals as goal

pub loop-done-init : goal.loop-done-init
loop-done-init c = λ area outlined.
    let rules = (chain_at c.args.subject.now.table.table c.args.place).rules in
    passes_none (λ k. IsApart (get_or rules k empty_rule) area) (length rules) c.new-nexts.result.items c.rule_count-count.result c.new-nexts.ensures.items c.rule_count-count.ensures

pub loop-done-preserved : goal.loop-done-preserved
loop-done-preserved c = λ area outlined.
    let rules = (chain_at c.args.subject.now.table.table c.args.place).rules in
    passes_more (λ k. IsApart (get_or rules k empty_rule) area) (length rules) c.loop-done.nexts.items c.push.new.self.items c.loop-done.next c.next_from-next.result c.loop-done.done (omega (arith, c.loop-done-test.true, c.rule_count-count.ensures))
    c.in_ok-push.ensures.items (rw c.rule_count-count.ensures at (c.next_from-next.ensures area outlined)) (c.loop-done.invariant area outlined)

pub returns : goal.returns
returns c = λ area outlined.
    let rules = (chain_at c.args.subject.now.table.table c.args.place).rules in
    passes_all rules area c.loop-done.nexts.items c.loop-done.next c.loop-done.done (omega (arith, c.loop-done-test.false, c.rule_count-count.ensures)) (omega (arith, c.loop-done.auto.done-end, c.rule_count-count.ensures)) (c.loop-done.invariant area outlined)
