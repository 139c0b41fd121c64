use Rattle.std.proofs.Common.{◌≡◌, ◌-◌, inl, inr, sym, ap, ◌∙◌, arith}
use Rattle.std.proofs.lemmas.List.{get_or_default}
use Rattle.fields.specs.Packet.{PacketView as Packet}
use Rattle.rules.specs.rule.Crossing.{asks_both}
use Rattle.rules.specs.rule.Rules.{Rule, empty_rule}
use Rattle.table.specs.chains.Table.{chain_at}
use Rattle.questions.specs.Ends.{rule_at}
use Rattle.questions.specs.Scopes.{table_of}
use Rattle.questions.specs.steps.Takers.{IsLetBy}
use Rattle.questions.proofs.laws.TakerLaws.{before_of, boxed_by, never_before}
use Rattle.questions.proofs.asked.takers.walks_before.Goals as goal

pub returns : goal.returns
returns c =
    let s = c.args.subject.now in
    let t = table_of s in
    let step = c.args.step in
    let own : Rule = c.rule-rule.result.now in
    let is : own ≡ rule_at t step = c.rule-rule.ensures ∙ get_or_default (chain_at t step.chain).rules (step.number - 1) own empty_rule (omega (arith, c.requires.step.first, c.requires.step.last)) in
    let (box, meets) = boxed_by t s.needs.now step c.args.by c.args.course.hook c.in-Some.start (rw c.in-Some.is at c.in_ok-start.ensures) in
    before_of s step c.args.course.hook c.stands.ensures.sound c.requires.step c.args.by (record { hook = c.args.course.hook; area = c.in-Some.start.area }) box c.in-Some.start.answers meets c.in-Some-2.found.items (rw c.in-Some-2.is at c.in_ok-found.ensures)
    (rw is at (c.asks_both.ensures.alone c.if-asks_both.false)) (rw c.as_slice.ensures.value at (c.none_on.ensures.none c.if-not-none_on.false))

-- no answers meet what the rule needs
pub returns-in_default : goal.returns-in_default
returns-in_default c =
    let s = c.args.subject.now in
    let Asked : Packet → Type 0 = IsLetBy (table_of s) c.args.by in
    let never = rw c.in_default.is at c.in_ok-start.ensures in
    rw (← c.new.ensures.items) at (never_before s c.args.step c.args.course.hook c.stands.ensures.sound c.requires.step Asked never)

pub returns-in_default-2 : goal.returns-in_default-2
returns-in_default-2 c = inr (c.args.by, c.requires.by, c.in-Some.start, rw c.in-Some.is at c.in_ok-start.ensures, inl (rw c.in_default-2.is at c.in_ok-found.ensures))

pub returns-then-not-none_on : goal.returns-then-not-none_on
returns-then-not-none_on c =
    let some = rw c.as_slice.ensures.value at (c.none_on.ensures.some c.if-not-none_on.true) in
    inr (c.args.by, c.requires.by, c.in-Some.start, rw c.in-Some.is at c.in_ok-start.ensures, inr (c.in-Some-2.found.items, (rw c.in-Some-2.is at c.in_ok-found.ensures), some))

pub returns-then-asks_both : goal.returns-then-asks_both
returns-then-asks_both c =
    let step = c.args.step in
    let own : Rule = c.rule-rule.result.now in
    let t = table_of c.args.subject.now in
    let is : own ≡ rule_at t step = c.rule-rule.ensures ∙ get_or_default (chain_at t step.chain).rules (step.number - 1) own empty_rule (omega (arith, c.requires.step.first, c.requires.step.last)) in
    inl (ap asks_both (sym is) ∙ sym c.asks_both.ensures.value ∙ c.if-asks_both.true)
