use Rattle.std.proofs.Common.{◌≡◌, List, [], ◌∷◌, ◌++◌, inl, inr, refl, sym, ◌∙◌, ap, arith, subst, Contains, append-nil, append_assoc}
use Rattle.std.proofs.lemmas.List.Elements.{All-nil, All-push, Contains-append_right}
use Rattle.fields.specs.numbers.Spans.{SpanSet}
use Rattle.questions.specs.declared.walking.scope.Scope.{Scope}
use Rattle.questions.specs.steps.Seeking.{IsBoxUnder, IsHere}
use Rattle.questions.proofs.laws.SeekLaws.{boxes_next}
use Rattle.questions.proofs.laws.WayLaws.{first_in}
use Rattle.questions.proofs.laws.WaitLaws.{any_kept}
use Rattle.questions.proofs.seeking.straying.add_boxes.Goals as goal

pub loop-area-init : goal.loop-area-init
loop-area-init c = record {
  kept = λ a p h. h;
  each = λ a p some agrees. inl some;
  only = ([], sym (append-nil c.args.scopes.now.items), All-nil (IsBoxUnder c.args.boxes.items c.args.answers.now));
  left = ([], sym (append-nil c.args.boxes.items));
}

pub loop-area-preserved : goal.loop-area-preserved
loop-area-preserved c =
    let scope : Scope = record { area = c.in-Some.area; answers = c.in_ok-answers.answers } in
    let boxes = c.args.boxes.items in
    let rest = c.loop-area.invariant.left.0 in
    let whole : boxes ≡ c.pop.new.self.items ++ c.in-Some.area ∷ rest = c.loop-area.invariant.left.1 ∙ ap (λ (l : List (List SpanSet)). l ++ rest) c.in-Some.ensures.items ∙ append_assoc c.pop.new.self.items (c.in-Some.area ∷ []) rest in
    let In : List (List SpanSet) → Type 0 = λ l. Contains l c.in-Some.area in
    let there : Contains boxes c.in-Some.area = subst In (sym whole) (Contains-append_right c.pop.new.self.items (c.in-Some.area ∷ rest) c.in-Some.area (first_in c.in-Some.area rest)) in
    let Under : Scope → Type 0 = IsBoxUnder boxes c.args.answers.now in
    let (more, e, all) = c.loop-area.invariant.only in
    record {
      only = (
        more ++ scope ∷ [],
        c.in_ok-push.ensures.items ∙ ap (λ (l : List Scope). l ++ scope ∷ []) e ∙ append_assoc c.args.scopes.now.items more (scope ∷ []),
        All-push Under more scope all (record { area = there; same = c.in_ok-answers.ensures }),
      );
      left = (c.in-Some.area ∷ rest, whole);
      kept = λ a p h. any_kept (IsHere a p) c.loop-area.scopes.items (scope ∷ []) c.push.new.self.items c.in_ok-push.ensures.items (c.loop-area.invariant.kept a p h);
      each = λ a p some agrees.
          boxes_next c.args.answers.now c.loop-area.boxes.items c.pop.new.self.items scope c.in-Some.area c.loop-area.scopes.items c.push.new.self.items c.in-Some.ensures.items refl c.in_ok-answers.ensures c.in_ok-push.ensures.items
          a p agrees (c.loop-area.invariant.each a p some agrees);
    }

pub returns : goal.returns
returns c = record {
  kept = c.loop-area.invariant.kept;
  only = c.loop-area.invariant.only;
  each = λ a p some agrees. elim (c.loop-area.invariant.each a p some agrees) [
    | inl left ↦ absurd (omega (arith, c.in_default.ensures.cases.0, c.loop-area.boxes.ok.0, left.1.1))
    | inr h ↦ h
  ];
}
