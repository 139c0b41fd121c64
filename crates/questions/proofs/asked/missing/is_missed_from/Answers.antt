use Rattle.std.proofs.Common.{false, refl, sym, Some}
use Rattle.std.proofs.lemmas.List.Elements.{All-pop}
use Rattle.questions.specs.Foreign.{Assignment}
use Rattle.questions.specs.Scopes.{answered, known_by, table_of, whole_of}
use Rattle.questions.specs.steps.Waiting.{AreThere, FitsTask, IsFitting}
use Rattle.questions.proofs.laws.ResolvedLaws.{front_back}
use Rattle.questions.proofs.laws.NecessaryLaws.{missed_soon}
use Rattle.questions.proofs.laws.StepLaws.{fits_later, fits_settled}
use Rattle.questions.proofs.asked.missing.is_missed_from.Goals.{In_ok-step}
use Rattle.questions.proofs.asked.missing.is_missed_from.Goals as goal

pub loop-init : goal.loop-init
loop-init c =
    let hook = c.args.approach.now.packet.now.hook in
    record {
      kept = c.in_ok-candidates.ensures (table_of c.args.approach.now.subject);
      fits = λ a. (rw c.hook-2.ensures.value at (c.in_ok-front.ensures.begins a)).fits c.args.approach.now.packet.now c.requires.can refl;
      there = λ a. (c.in_ok-front.ensures.begins a).there;
    }

pub advanced-requires : goal.advanced-requires
advanced-requires c =
    let s = c.args.approach.now.subject in
    let own = table_of s in
    let any : Assignment = λ _. false in
    (All-pop (AreThere own.chains) c.loop.front.tasks.items c.pop.new.self.items (Some c.in-Some.task) c.in-Some.ensures.items (front_back s.needs.now any own c.loop.front (c.loop.invariant.there any))).1

pub step-requires-clause-there : goal.step-requires-clause-there
step-requires-clause-there c = rw (← c.in_ok-next.ensures.rests) at c.in_ok-advanced.ensures.there

-- what is known after one more step
fitting : (c : In_ok-step) → (a : Assignment) → IsFitting (answered c.args.approach.now.subject a) (known_by c.args.approach.now.subject a) c.args.start c.args.approach.now.packet.now c.step.new.front
fitting c a =
    let s = c.args.approach.now.subject in
    let p = c.args.approach.now.packet.now in
    let before = c.loop.invariant.fits a in
    let split = All-pop (FitsTask (answered s a) (known_by s a) c.args.start p) c.loop.front.tasks.items c.pop.new.self.items (Some c.in-Some.task) c.in-Some.ensures.items before.tasks in
    (c.in_ok-step.ensures.moves a).fits c.args.start p (record { at_hook = c.requires.can; ends = c.policy_at-policy.ensures.ends p (sym c.hook.ensures.value) })
    (fits_settled (whole_of s) a c.args.start p _ c.in_ok-next.next c.in_ok-next.ensures
    (fits_later (whole_of s) a c.args.start p c.in-Some.task _ c.requires.can (c.in_ok-advanced.ensures.further c.args.start c.loop.invariant.kept a) split.1))
    (record { tasks = split.0; leaves = before.leaves })

pub loop-preserved : goal.loop-preserved
loop-preserved c = record {
  kept = c.in_ok-advanced.ensures.kept c.args.start.area c.loop.invariant.kept;
  fits = fitting (goal.at.loop-preserved c).In_ok-step;
  there = λ a. (c.in_ok-step.ensures.moves a).keeps.there (All-pop (AreThere (answered c.args.approach.now.subject a).chains) c.loop.front.tasks.items c.pop.new.self.items (Some c.in-Some.task) c.in-Some.ensures.items (c.loop.invariant.there a)).0;
}

pub returns-then-is_newest_off : goal.returns-then-is_newest_off
returns-then-is_newest_off c = λ _.
    let s = c.args.approach.now.subject in
    missed_soon s c.step.new.front c.args.approach.now.packet.now c.args.approach.now.wanted c.args.start c.stands.ensures.sound c.requires.step (fitting (goal.at.returns-then-is_newest_off c).In_ok-step)
    (rw c.as_slice.ensures.value at (c.is_newest_off.ensures c.if-is_newest_off.true))
