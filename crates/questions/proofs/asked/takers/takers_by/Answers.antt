use Rattle.std.proofs.Common.{◌<◌, sym, ◌∙◌, arith, get_or, true≢false}
use Rattle.questions.proofs.laws.CompareLaws.{each_hook}
use Rattle.fields.specs.declared.packet.hook.Hook.{Hook}
use Rattle.fields.specs.declared.packet.hook.Hook.TheVariants.{Input}
use Rattle.fields.specs.Hook.{all_hooks}
use Rattle.fields.specs.Packet.{PacketView as Packet}
use Rattle.table.specs.chains.Table.{chain_at}
use Rattle.questions.specs.asked.Reason.{IsLed}
use Rattle.questions.specs.Scopes.{table_of}
use Rattle.questions.specs.steps.Deciding.{AddsAt, IsAsked, IsTakenAt}
use Rattle.questions.proofs.laws.LeadLaws.{hook_leads, hook_led}
use Rattle.questions.proofs.laws.LetInLaws.{takers_at_hooks}
use Rattle.questions.proofs.laws.TakerLaws.{grows_same, hooks_next, nobody_takes, unled_at}
use Rattle.questions.proofs.asked.takers.takers_by.Goals as goal

pub loop-hook-init : goal.loop-hook-init
loop-hook-init c = record {
  hooks = λ k h lt. absurd (omega (arith, lt));
  each = nobody_takes c.args.subject.now c.args.step (IsAsked (table_of c.args.subject.now) c.args.step c.args.near) (record { rules = c.new.result; policies = c.new-2.result }) c.new.ensures.items c.new-2.ensures.items;
  once = λ i j d lt within. absurd (omega (arith, within, c.new.ensures.len));
  apart = λ i j d lt within. absurd (omega (arith, within, c.new-2.ensures.len));
}

-- a hook from which nothing leads to the rule's chain
pub loop-hook-preserved-then-not-is_led : goal.loop-hook-preserved-then-not-is_led
loop-hook-preserved-then-not-is_led c =
    let s = c.args.subject.now in
    let t = table_of s in
    let step = c.args.step in
    let Asked : Packet → Type 0 = IsAsked t step c.args.near in
    let i = c.loop-hook.hook-index in
    let hook : Hook = get_or all_hooks i Input in
    let name = (chain_at t step.chain).name in
    let takers = c.loop-hook.takers in
    let lt : i < 3 = omega (arith, c.loop-hook-test.true) in
    let none = λ (led : IsLed t step hook). true≢false (sym (hook_led t name c.args.marks.now hook c.stands.ensures.sound c.requires.marks led) ∙ sym c.is_led.ensures ∙ c.if-not-is_led.true) in
    record {
      hooks = hooks_next s step Asked takers takers i Input lt (grows_same takers) (unled_at s step Asked takers hook none) c.loop-hook.invariant.hooks;
      each = c.loop-hook.invariant.each;
      once = c.loop-hook.invariant.once;
      apart = c.loop-hook.invariant.apart;
    }

pub loop-hook-preserved : goal.loop-hook-preserved
loop-hook-preserved c =
    let s = c.args.subject.now in
    let t = table_of s in
    let step = c.args.step in
    let Asked : Packet → Type 0 = IsAsked t step c.args.near in
    let sound = c.stands.ensures.sound in
    let i = c.loop-hook.hook-index in
    let hook : Hook = get_or all_hooks i Input in
    let name = (chain_at t step.chain).name in
    let old = c.loop-hook.takers in
    let new = c.add_at.new.takers in
    let lt : i < 3 = omega (arith, c.loop-hook-test.true) in
    let adds : AddsAt s step c.args.near hook old new = c.in_ok-add_at.ensures.known c.if-not-branch.false in
    let led : IsLed t step hook = hook_leads t name c.args.marks.now hook sound c.requires.marks (sym c.is_led.ensures ∙ c.if-not-is_led.false) in
    record {
      hooks = hooks_next s step Asked old new i Input lt adds.grows adds.taken c.loop-hook.invariant.hooks;
      each = adds.each led c.loop-hook.invariant.each;
      once = adds.grows.once c.loop-hook.invariant.once;
      apart = adds.grows.apart c.loop-hook.invariant.apart;
    }

pub returns : goal.returns
returns c =
    let s = c.args.subject.now in
    let step = c.args.step in
    let takers = c.loop-hook.takers in
    let at = each_hook (IsTakenAt s step (IsAsked (table_of s) step c.args.near) takers) 3 (omega arith) (λ k h lt. c.loop-hook.invariant.hooks k h (omega (arith, lt))) in
    takers_at_hooks s c.stands.ensures.sound step c.requires.step c.args.near takers at c.loop-hook.invariant.each c.loop-hook.invariant.once c.loop-hook.invariant.apart

-- a hook that leads there, of whose packets it isn't known who decides them
pub returns-then-not-branch : goal.returns-then-not-branch
returns-then-not-branch c =
    let s = c.args.subject.now in
    let t = table_of s in
    let hook : Hook = get_or all_hooks c.loop-hook.hook-index Input in
    let led : IsLed t c.args.step hook = hook_leads t (chain_at t c.args.step.chain).name c.args.marks.now hook c.stands.ensures.sound c.requires.marks (sym c.is_led.ensures ∙ c.if-not-is_led.false) in
    (hook, led, c.in_ok-add_at.ensures.unknown c.if-not-branch.true)
