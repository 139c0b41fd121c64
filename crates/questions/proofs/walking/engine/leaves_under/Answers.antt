use Rattle.std.proofs.Math.Numerals.{add-one}
use Rattle.std.proofs.Common.{◌≡◌, ◌<◌, false, List, length, refl, sym, subst, arith, inl, inr, Some}
use Rattle.std.proofs.lemmas.List.Elements.{All-pop}
use Rattle.questions.specs.Foreign.{AreAsked, Assignment}
use Rattle.questions.specs.Scopes.{answered, known_by, table_of, whole_of}
use Rattle.questions.specs.declared.foreign.answers.Answer.{Answer}
use Rattle.questions.specs.declared.walking.front.Front.{Front}
use Rattle.questions.specs.declared.walking.scope.Scope.{Scope}
use Rattle.questions.specs.declared.walking.task.Task.{Task}
use Rattle.questions.specs.steps.Taken.{IsFull, IsStep}
use Rattle.questions.specs.steps.Waiting.{AreThere}
use Rattle.questions.proofs.laws.ResolvedLaws.{front_back}
use Rattle.questions.proofs.laws.StepLaws.{all_exact, all_leaves, begun_next}
use Rattle.questions.proofs.walking.engine.leaves_under.Goals as goal

pub loop-taken-init : goal.loop-taken-init
loop-taken-init c = record {
  asked = c.in_ok-front.ensures.asked c.args.subject.now.needs.now;
  kept = c.in_ok-candidates.ensures (table_of c.args.subject.now);
  begins = c.in_ok-front.ensures.begins;
  gets = record { first = c.in_ok-front.front; begins = c.in_ok-front.ensures.first; takes = refl };
}

pub advanced-requires : goal.advanced-requires
advanced-requires c =
    let s = c.args.subject.now in
    let own = table_of s in
    let any : Assignment = λ _. false in
    (All-pop (AreThere own.chains) c.loop-taken.front.tasks.items c.pop.new.self.items (Some c.in-Some.task) c.in-Some.ensures.items (front_back s.needs.now any own c.loop-taken.front (c.loop-taken.invariant.begins any).there)).1

pub loop-taken-preserved : goal.loop-taken-preserved
loop-taken-preserved c =
    let s = c.args.subject.now in
    let old : Front = c.loop-taken.front in
    let popped : Front = record { alloc = old.alloc; tasks = c.pop.new.self; leaves = old.leaves } in
    let step : IsStep (whole_of s) c.args.hook c.args.start old c.step.new.front = (
      c.policy_at-policy.result,
      c.in-Some.task,
      popped,
      record { ends = c.policy_at-policy.ensures.ends; tasks = c.in-Some.ensures.items; leaves = refl; room = omega arith },
      record {
        next = c.in_ok-next-in-Some.next;
        further = c.in_ok-next-in-Some.ensures.further c.args.start c.loop-taken.invariant.kept;
        moves = λ a. c.in_ok-step-in-Some.ensures.moves a;
        stops = c.in_ok-next-in-Some.ensures.stops;
        on = c.in_ok-step-in-Some.ensures.on;
        parts = c.in_ok-step-in-Some.ensures.parts;
      },
    ) in
    let needs = s.needs.now in
    let given : List Answer = c.args.start.answers in
    let Tasks : Task → Type 0 = λ task. AreAsked needs given task.scope.answers in
    let before = All-pop Tasks old.tasks.items popped.tasks.items (Some c.in-Some.task) c.in-Some.ensures.items c.loop-taken.invariant.asked.tasks in
    let any : Assignment = λ _. false in
    let own : Tasks c.in_ok-next-in-Some.next =
    subst (λ (scope : Scope). AreAsked needs given scope.answers) (sym (c.in_ok-next-in-Some.ensures.further c.args.start c.loop-taken.invariant.kept any).same) before.1 in
    record {
      asked = c.in_ok-step-in-Some.ensures.asked given own (record { tasks = before.0; leaves = c.loop-taken.invariant.asked.leaves });
      kept = c.in_ok-next-in-Some.ensures.kept c.args.start.area c.loop-taken.invariant.kept;
      begins = λ a. begun_next (whole_of s) a c.args.hook c.args.start old c.step.new.front (c.loop-taken.invariant.begins a) step;
      gets = record { first = c.loop-taken.invariant.gets.first; begins = c.loop-taken.invariant.gets.begins; takes = rw (add-one c.loop-taken.taken) (old, c.loop-taken.invariant.gets.takes, step) };
    }

pub returns-in-None-clause-steps : goal.returns-in-None-clause-steps
returns-in-None-clause-steps c = (c.loop-taken.taken, c.loop-taken.front, c.loop-taken.invariant.gets, omega arith, omega (arith, c.in-None.ensures.cases.0, c.loop-taken.front.tasks.ok.0), refl)

pub returns-then-len-ge-LIMIT-clause-steps : goal.returns-then-len-ge-LIMIT-clause-steps
returns-then-len-ge-LIMIT-clause-steps c =
    let full : IsFull c.loop-taken.front = record { left = c.pop.new.self.items; task = c.in-Some.task; tasks = c.in-Some.ensures.items; full = omega arith } in
    (c.loop-taken.taken, c.loop-taken.front, c.loop-taken.invariant.gets, inr (omega arith, full))

pub returns-then-is_empty-clause-steps : goal.returns-then-is_empty-clause-steps
returns-then-is_empty-clause-steps c =
    let none : length c.loop-taken.front.tasks.items ≡ 0 = grind (arith, c.is_empty.ensures, c.if-is_empty.true, c.loop-taken.front.tasks.ok.0) in
    (c.loop-taken.taken, c.loop-taken.front, c.loop-taken.invariant.gets, omega arith, none, refl)

pub returns-clause-steps : goal.returns-clause-steps
returns-clause-steps c =
    let some : 0 < length c.loop-taken.front.tasks.items = grind (arith, c.is_empty.ensures, c.if-is_empty.false, c.loop-taken.front.tasks.ok.0) in
    (c.loop-taken.taken, c.loop-taken.front, c.loop-taken.invariant.gets, inl (omega arith, some))

pub returns-in-None-clause-leaves : goal.returns-in-None-clause-leaves
returns-in-None-clause-leaves c = λ a.
    all_leaves (answered c.args.subject.now a) (known_by c.args.subject.now a) c.args.hook c.args.start c.loop-taken.front (c.loop-taken.invariant.begins a) (omega (arith, c.in-None.ensures.cases.0, c.loop-taken.front.tasks.ok.0))

pub returns-then-is_empty-clause-leaves : goal.returns-then-is_empty-clause-leaves
returns-then-is_empty-clause-leaves c = λ a.
    let none : length c.loop-taken.front.tasks.items ≡ 0 = grind (arith, c.is_empty.ensures, c.if-is_empty.true, c.loop-taken.front.tasks.ok.0) in
    all_leaves (answered c.args.subject.now a) (known_by c.args.subject.now a) c.args.hook c.args.start c.loop-taken.front (c.loop-taken.invariant.begins a) none

pub returns-in-None-clause-exact : goal.returns-in-None-clause-exact
returns-in-None-clause-exact c = λ a. all_exact (answered c.args.subject.now a) (known_by c.args.subject.now a) c.args.hook c.args.start c.loop-taken.front (c.loop-taken.invariant.begins a)

pub returns-then-is_empty-clause-exact : goal.returns-then-is_empty-clause-exact
returns-then-is_empty-clause-exact c = λ a. all_exact (answered c.args.subject.now a) (known_by c.args.subject.now a) c.args.hook c.args.start c.loop-taken.front (c.loop-taken.invariant.begins a)

pub returns-in-None-clause-decided : goal.returns-in-None-clause-decided
returns-in-None-clause-decided c = λ a. (c.loop-taken.invariant.begins a).decided

pub returns-then-is_empty-clause-decided : goal.returns-then-is_empty-clause-decided
returns-then-is_empty-clause-decided c = λ a. (c.loop-taken.invariant.begins a).decided

pub returns-in-None-clause-asked : goal.returns-in-None-clause-asked
returns-in-None-clause-asked c = c.loop-taken.invariant.asked.leaves

pub returns-then-is_empty-clause-asked : goal.returns-then-is_empty-clause-asked
returns-then-is_empty-clause-asked c = c.loop-taken.invariant.asked.leaves
