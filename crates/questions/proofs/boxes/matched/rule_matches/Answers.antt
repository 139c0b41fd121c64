use Rattle.std.proofs.Common.{◌≡◌, ◌∙◌, ◌-◌, ap, arith, sym, true, false, ◌&&◌}
use Rattle.std.proofs.lemmas.List.{get_or_default}
use Rattle.rules.specs.rule.Allows.{allows_each}
use Rattle.rules.specs.rule.Crossing.{cross}
use Rattle.rules.specs.rule.Rules.{Rule, empty_rule}
use Rattle.table.specs.chains.Table.{chain_at}
use Rattle.questions.specs.Ends.{rule_at}
use Rattle.questions.proofs.laws.AreaLaws.{box_of_rule}
use Rattle.questions.proofs.laws.PacketLaws.{written_at_hooks}
use Rattle.questions.proofs.boxes.matched.rule_matches.Goals.{After-has}
use Rattle.questions.proofs.boxes.matched.rule_matches.Goals as goal

-- the box has the packet just where the rule allows each of its numbers
allowed : (c : After-has) → c.has.result ≡ allows_each c.args.written.now.values (rule_at c.args.boxed.now.table.table c.args.at)
allowed c =
    let (words, is) = c.packet-packet.ensures.written in
    let can = written_at_hooks words c.args.written.now is in
    rw (c.packet-packet.ensures.value, c.spans.ensures.value) at c.has.ensures ∙ box_of_rule _ c.at-own.result.now c.args.written.now.values c.at-own.ensures can.packet.within

pub returns-then-has : goal.returns-then-has
returns-then-has c =
    let rule : Rule = rule_at c.args.boxed.now.table.table c.args.at in
    let is : c.rule.result.now ≡ rule = c.rule.ensures ∙ get_or_default (chain_at c.args.boxed.now.table.table c.args.at.chain).rules (c.args.at.number - 1) _ empty_rule (omega (arith, c.requires.first, c.requires.last)) in
    let own : c.cross.result ≡ cross c.args.written.now.values c.rule.result.now = rw c.packet-packet.ensures.value at c.cross.ensures in
    let allows : allows_each c.args.written.now.values rule ≡ true = sym (allowed (goal.at.returns-then-has c).After-has) ∙ c.if-has.true in
    own ∙ ap (λ (r : Rule). cross c.args.written.now.values r) is ∙ sym (ap (λ b. b && cross c.args.written.now.values rule) allows)

pub returns-else-has : goal.returns-else-has
returns-else-has c =
    let rule : Rule = rule_at c.args.boxed.now.table.table c.args.at in
    let lacks : allows_each c.args.written.now.values rule ≡ false = sym (allowed (goal.at.returns-else-has c).After-has) ∙ c.if-has.false in
    c.if-has.false ∙ sym (ap (λ b. b && cross c.args.written.now.values rule) lacks)
