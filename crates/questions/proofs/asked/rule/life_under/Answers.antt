use Rattle.std.proofs.Common.{◌≡◌, ◌⊎◌, false, get_or, refl, arith, sym, ◌∙◌, inl, inr, slice_index_or, true≢false}
use Rattle.fields.specs.declared.packet.hook.Hook.{Hook}
use Rattle.fields.specs.declared.packet.hook.Hook.TheVariants.{Input}
use Rattle.fields.specs.Hook.{all_hooks}
use Rattle.table.specs.chains.Table.{chain_at}
use Rattle.table.specs.declared.walk.trail.Step.{Step}
use Rattle.table.specs.steps.Kept.{hook_index}
use Rattle.questions.specs.Scopes.{table_of}
use Rattle.questions.specs.asked.Always.{IsAlwaysDeadAt, MayLive}
use Rattle.questions.specs.asked.Reason.{IsLed}
use Rattle.questions.specs.steps.Leading.{AreLeading}
use Rattle.questions.proofs.laws.LeadLaws.{hook_led}
use Rattle.questions.proofs.laws.ResolvedLaws.{entry_left}
use Rattle.questions.proofs.laws.WhyLaws.{AreShortAt, never_too_long}
use Rattle.questions.proofs.laws.TakerLaws.{unled_dead}
use Rattle.questions.proofs.laws.CompareLaws.{each_hook, hooks_next}
use Rattle.questions.proofs.asked.rule.life_under.Goals as goal
use Rattle.questions.proofs.asked.rule.life_under.Goals.{in-Dead, in-Unclear}

pub loop-hook-preserved : goal.loop-hook-preserved
loop-hook-preserved c =
    let s = c.args.subject.now in
    let step : Step = record { chain = c.args.place; number = c.args.number } in
    let Dead : Hook → Type 0 = λ h. IsAlwaysDeadAt s step h in
    let Short : Hook → Type 0 = λ h. AreShortAt s step h in
    let Each : Hook → Type 0 = λ h. Dead h ⊎ MayLive s step c.args.budget h in
    elim c.match-branch-3.branch [
      | in-Dead w ↦ (
          let here : Dead (get_or all_hooks c.loop-hook.hook-index Input) = rw w.in-Dead.is at c.in_ok-life_at.ensures.says in
          let short : Short (get_or all_hooks c.loop-hook.hook-index Input) = λ led. (rw w.in-Dead.is at c.in_ok-life_at.ensures.short) refl in
          record {
            short = λ clear. hooks_next Short c.loop-hook.hook-index (omega arith) short (c.loop-hook.invariant.short (sym w.clear-is ∙ clear));
            dead = λ clear. hooks_next Dead c.loop-hook.hook-index (omega arith) here (c.loop-hook.invariant.dead (sym w.clear-is ∙ clear));
            each = hooks_next Each c.loop-hook.hook-index (omega arith) (inl here) c.loop-hook.invariant.each;
            some = λ off. c.loop-hook.invariant.some (sym w.clear-is ∙ off);
          })
      | in-Unclear w ↦ (
          let here : MayLive s step c.args.budget (get_or all_hooks c.loop-hook.hook-index Input) = rw w.in-Unclear.is at c.in_ok-life_at.ensures.unclear in
          record {
            short = λ clear. absurd (true≢false (sym clear ∙ w.clear-is));
            dead = λ clear. absurd (true≢false (sym clear ∙ w.clear-is));
            each = hooks_next Each c.loop-hook.hook-index (omega arith) (inr here) c.loop-hook.invariant.each;
            some = λ _. (get_or all_hooks c.loop-hook.hook-index Input, here);
          })
    ]

-- a hook from whose chain no jumps and gotos lead to the rule's
pub loop-hook-preserved-then-not-is_led : goal.loop-hook-preserved-then-not-is_led
loop-hook-preserved-then-not-is_led c =
    let s = c.args.subject.now in
    let t = table_of s in
    let step : Step = record { chain = c.args.place; number = c.args.number } in
    let Dead : Hook → Type 0 = λ h. IsAlwaysDeadAt s step h in
    let hook : Hook = get_or all_hooks c.loop-hook.hook-index Input in
    let name = (chain_at t c.args.place).name in
    let marks = c.in_ok-marks.marks.items in
    let leading : AreLeading t name marks = c.in_ok-marks.ensures in
    let off : slice_index_or marks (hook_index hook) false ≡ false = rw c.as_slice.ensures.value at (sym c.is_led.ensures ∙ c.if-not-is_led.true) in
    let unled : IsLed t step hook → ⊥ = λ led. true≢false (sym (hook_led t name marks hook c.stands.ensures.sound leading led) ∙ off) in
    let here : Dead hook = unled_dead s step hook unled in
    let short : AreShortAt s step hook = λ led. absurd (unled led) in
    record {
      short = λ clear. hooks_next (λ h. AreShortAt s step h) c.loop-hook.hook-index (omega arith) short (c.loop-hook.invariant.short clear);
      dead = λ clear. hooks_next Dead c.loop-hook.hook-index (omega arith) here (c.loop-hook.invariant.dead clear);
      each = hooks_next (λ h. Dead h ⊎ MayLive s step c.args.budget h) c.loop-hook.hook-index (omega arith) (inl here) c.loop-hook.invariant.each;
      some = c.loop-hook.invariant.some;
    }

pub returns-then-clear-clause-says : goal.returns-then-clear-clause-says
returns-then-clear-clause-says c = λ a p can on.
    let s = c.args.subject.now in
    let step : Step = record { chain = c.args.place; number = c.args.number } in
    each_hook (λ h. IsAlwaysDeadAt s step h) c.loop-hook.hook-index (omega arith) (c.loop-hook.invariant.dead c.if-clear.true) p.hook a p can refl (rw (← entry_left s.needs.now a (table_of s) step) at on)

pub returns-then-clear-clause-short : goal.returns-then-clear-clause-short
returns-then-clear-clause-short c = λ dead.
    let s = c.args.subject.now in
    let step : Step = record { chain = c.args.place; number = c.args.number } in
    never_too_long s step (record { chain = c.requires.place; first = c.requires.first; last = c.requires.last })
    (each_hook (λ h. AreShortAt s step h) c.loop-hook.hook-index (omega arith) (c.loop-hook.invariant.short c.if-clear.true))

pub returns-clause-unclear : goal.returns-clause-unclear
returns-clause-unclear c =
    let s = c.args.subject.now in
    let step : Step = record { chain = c.args.place; number = c.args.number } in
    let Each : Hook → Type 0 = λ h. IsAlwaysDeadAt s step h ⊎ MayLive s step c.args.budget h in
    (each_hook Each c.loop-hook.hook-index (omega arith) c.loop-hook.invariant.each, c.loop-hook.invariant.some c.if-clear.false)

pub returns-in-Live-clause-says : goal.returns-in-Live-clause-says
returns-in-Live-clause-says c =
    let s = c.args.subject.now in
    let step : Step = record { chain = c.args.place; number = c.args.number } in
    let (consistent, live) = rw c.in-Live.is at c.in_ok-life_at.ensures.says in
    record {
      consistent = consistent;
      live = λ a agrees.
          (let (p, writes, there, on) = live a agrees in
          (p, writes, rw (entry_left s.needs.now a (table_of s) step) at on));
    }
