use Rattle.std.proofs.Common.{◌≡◌, inl, inr, List, [], ◌∷◌, ◌++◌, Contains, refl, sym, subst, arith}
use Rattle.table.specs.declared.verdict.Verdict.TheVariants.{Accept}
use Rattle.questions.specs.Scopes.{under}
use Rattle.questions.specs.steps.Waiting.{stage_at}
use Rattle.questions.proofs.laws.WaitLaws.{keeps_all, keeps_then, passed_next, some_before}
use Rattle.fields.specs.numbers.Spans.{SpanSet}
use Rattle.questions.specs.declared.walking.task.Task.{Task}
use Rattle.questions.specs.steps.Taken.{IsBesides}
use Rattle.questions.proofs.laws.PartedLaws.{adds_more, adds_none, put_beside, all_added, box_added, none_added}
use Rattle.std.proofs.lemmas.List.{nil_from_length}
use Rattle.std.proofs.lemmas.List.Elements.{Contains-append_left, Contains-push}
use Rattle.questions.proofs.walking.turn.pass_over.Goals as goal

pub loop-area-init : goal.loop-area-init
loop-area-init c = record { passed = λ t known policy p there all asked is reaches. inl is; within = λ numbers some. some; fits = λ t known policy start p there all asked fit before. before; all = λ box has. has; asked = λ needs given own all. all; on = adds_none (IsBesides c.args.boxes.items c.args.task.now.scope.answers (c.args.task.now.rests.items ++ c.args.at ∷ []) c.args.task.now.trail.items) c.args.front.now c.args.front.now refl; added = none_added c.args.boxes.items c.args.task.now.scope.answers c.args.front.now; keeps = λ t known there all. keeps_all t known c.args.front.now }

pub loop-area-preserved : goal.loop-area-preserved
loop-area-preserved c =
    let task = c.args.task.now in
    let next = c.in_ok-next.ensures in
    let boxes = c.loop-area.boxes.items in
    let left = c.pop.new.self.items in
    record {
      passed = λ t known policy p there all asked is reaches.
          (let moves = rw (next.scope, next.rests, next.trail) at (c.in_ok-go_on.ensures.moves t known policy there (rw next.rests all)) in
          passed_next t known policy p boxes left (under c.in-Some.area task.scope.answers) (stage_at known t.chains c.args.at task) c.loop-area.front c.go_on.new.front c.in-Some.ensures.items asked reaches moves
          (c.loop-area.invariant.passed t known policy p there all asked is reaches));
      within = λ numbers some. c.loop-area.invariant.within numbers (some_before boxes left c.in-Some.area numbers c.in-Some.ensures.items (inl some));
      fits = λ t known policy start p there all asked fit before.
          (let moves = rw (next.scope, next.rests, next.trail) at (c.in_ok-go_on.ensures.moves t known policy there (rw next.rests all)) in
          moves.fits start p asked (λ of. fit (record {
            inside = c.loop-area.invariant.within p.values (some_before boxes left c.in-Some.area p.values c.in-Some.ensures.items (inr of.inside));
            agrees = of.agrees;
          }))
          (c.loop-area.invariant.fits t known policy start p there all asked fit before));
      all = λ box has. c.loop-area.invariant.all box (subst (λ (bs : List (List SpanSet)). Contains bs box) (sym c.in-Some.ensures.items) (Contains-append_left left (c.in-Some.area ∷ []) box has));
      asked = λ needs given own all. c.in_ok-go_on.ensures.asked needs given (rw next.scope own) (c.loop-area.invariant.asked needs given own all);
      on =
          (let Besides : Task → Type 0 = IsBesides c.args.boxes.items task.scope.answers (task.rests.items ++ c.args.at ∷ []) task.trail.items in
          let here : Contains c.args.boxes.items c.in-Some.area =
          c.loop-area.invariant.all c.in-Some.area (subst (λ (bs : List (List SpanSet)). Contains bs c.in-Some.area) (sym c.in-Some.ensures.items) (Contains-push left c.in-Some.area)) in
          let put = rw (next.rests, next.trail) at c.in_ok-go_on.ensures.on in
          adds_more Besides c.args.front.now c.loop-area.front c.go_on.new.front c.loop-area.invariant.on
          (put_beside c.args.boxes.items c.in-Some.area task.scope.answers c.in_ok-next.next.scope (task.rests.items ++ c.args.at ∷ []) task.trail.items c.loop-area.front c.go_on.new.front here next.scope put));
      added = box_added c.args.boxes.items boxes left c.in-Some.area task.scope.answers c.args.front.now c.loop-area.front c.go_on.new.front c.in-Some.ensures.items c.loop-area.invariant.added (rw next.scope at c.in_ok-go_on.ensures.one);
      keeps = λ t known there all.
          (let moves = c.in_ok-go_on.ensures.moves t known Accept there (rw next.rests all) in
          keeps_then t known c.args.front.now c.loop-area.front c.go_on.new.front (c.loop-area.invariant.keeps t known there all) moves.keeps);
    }

pub returns-clause-asked : goal.returns-clause-asked
returns-clause-asked c = c.loop-area.invariant.asked

pub returns-clause-boxes : goal.returns-clause-boxes
returns-clause-boxes c =
    let none : c.loop-area.boxes.items ≡ [] = nil_from_length c.loop-area.boxes.items (omega (arith, c.in_default.ensures.cases.0, c.loop-area.boxes.ok.0)) in
    all_added c.args.boxes.items c.loop-area.boxes.items c.args.task.now.scope.answers c.args.front.now c.loop-area.front none c.loop-area.invariant.added

pub returns-clause-on : goal.returns-clause-on
returns-clause-on c = c.loop-area.invariant.on

pub returns-clause-moves : goal.returns-clause-moves
returns-clause-moves c =
    λ t known policy there all. record {
      passed = λ p asked is reaches.
          elim (c.loop-area.invariant.passed t known policy p there all asked is reaches) [
            | inl left ↦ absurd (omega (arith, c.in_default.ensures.cases.0, c.loop-area.boxes.ok.0, left.inside.1.1))
            | inr a ↦ a
          ];
      fits = λ start p. c.loop-area.invariant.fits t known policy start p there all;
      keeps = c.loop-area.invariant.keeps t known there all;
    }
