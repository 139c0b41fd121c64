use Rattle.std.proofs.Common.{◌≡◌, false, true, sym, ◌∙◌, true≢false, slice_index_or}
use Rattle.fields.specs.declared.packet.hook.Hook.{Hook}
use Rattle.table.specs.chains.Table.{chain_at}
use Rattle.table.specs.declared.walk.trail.Step.{Step}
use Rattle.table.specs.steps.Kept.{hook_index}
use Rattle.questions.specs.Ends.{IsRule, rule_at}
use Rattle.questions.specs.Scopes.{table_of}
use Rattle.questions.specs.asked.Reason.{IsReached, IsUnreached}
use Rattle.questions.specs.steps.Leading.{AreLeading}
use Rattle.questions.proofs.laws.LeadLaws.{hook_leads, hook_led}
use Rattle.questions.proofs.laws.PacketLaws.{possible_of}
use Rattle.questions.proofs.laws.TakerLaws.{dead_of, impossible_of, unreached_dead}
use Rattle.questions.proofs.asked.reason.why_dead_under.Goals as goal

pub returns-in-Some : goal.returns-in-Some
returns-in-Some c =
    let s = c.args.subject.now in
    let step : Step = record { chain = c.args.place; number = c.args.number } in
    let is : IsRule (table_of s) step = record { chain = c.requires.place; first = c.requires.first; last = c.requires.last } in
    let none = rw c.in-Some.is at c.bare_field.ensures in
    record {
      dead = dead_of s step c.at-boxed.result.now c.in-Some.field c.stands.ensures.sound is c.at-boxed.ensures none;
      why = impossible_of (table_of s) step c.at-boxed.result.now c.in-Some.field c.at-boxed.ensures none;
    }

pub returns-then-none_led : goal.returns-then-none_led
returns-then-none_led c =
    let s = c.args.subject.now in
    let t = table_of s in
    let step : Step = record { chain = c.args.place; number = c.args.number } in
    let name = (chain_at t c.args.place).name in
    let marks = c.in_ok-marks.marks.items in
    let leading : AreLeading t name marks = c.in_ok-marks.ensures in
    let unmarked : (hook : Hook) → slice_index_or marks (hook_index hook) false ≡ false = rw c.as_slice.ensures.value at (c.none_led.ensures.none c.if-none_led.true) in
    let unreached : IsUnreached t step = λ hook led. true≢false (sym (hook_led t name marks hook c.stands.ensures.sound leading led) ∙ unmarked hook) in
    record { dead = unreached_dead s step unreached; why = (possible_of (rule_at t step) c.at-boxed.result.now c.at-boxed.ensures (rw c.in_default.is at c.bare_field.ensures), unreached) }

pub returns : goal.returns
returns c =
    let t = table_of c.args.subject.now in
    let step : Step = record { chain = c.args.place; number = c.args.number } in
    let name = (chain_at t c.args.place).name in
    let marks = c.in_ok-marks.marks.items in
    let leading : AreLeading t name marks = c.in_ok-marks.ensures in
    let some : (hook : Hook) × (slice_index_or marks (hook_index hook) false ≡ true) = rw c.as_slice.ensures.value at (c.none_led.ensures.some c.if-none_led.false) in
    let led : IsReached t step = (some.0, hook_leads t name marks some.0 c.stands.ensures.sound leading some.1) in
    let both = rw c.in-Some-2.is at c.in_ok-takers_of.ensures in
    record { dead = both.0; why = c.in_ok-reason_by-in-Some-2.ensures (possible_of (rule_at t step) c.at-boxed.result.now c.at-boxed.ensures (rw c.in_default.is at c.bare_field.ensures)) led both.1 }

pub returns-in-None : goal.returns-in-None
returns-in-None c = rw c.in-None.is at c.in_ok-takers_of.ensures
