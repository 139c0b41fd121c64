use Rattle.std.proofs.Common.{◌≡◌, List, [], ◌∷◌, ◌++◌, inl, inr, sym, ◌∙◌, ap, arith, subst, Contains, append-nil, append_assoc}
use Rattle.std.proofs.lemmas.List.Elements.{Contains-append_right}
use Rattle.questions.specs.declared.walking.scope.Scope.{Scope}
use Rattle.questions.specs.steps.Seeking.{IsForOne, MayCome}
use Rattle.questions.proofs.laws.SeekLaws.{one_wanted, scopes_next}
use Rattle.questions.proofs.laws.WayLaws.{adds_more, adds_none, first_in}
use Rattle.questions.proofs.laws.WaitLaws.{any_kept}
use Rattle.questions.proofs.seeking.way.add_parts.Goals as goal

pub loop-scope-init : goal.loop-scope-init
loop-scope-init c = record {
  kept = λ subject a p h. h;
  wanted = λ step is all. all;
  each = adds_none (IsForOne c.args.way.now c.args.scopes.items) c.args.ways.now.items;
  left = ([], sym (append-nil c.args.scopes.items));
  parts = λ subject a p may any. inl any;
}

pub loop-scope-preserved : goal.loop-scope-preserved
loop-scope-preserved c =
    let more = c.in_ok-with.field-0 in
    let is = c.in_ok-with.ensures in
    let way = c.args.way.now in
    let scopes = c.args.scopes.items in
    let rest = c.loop-scope.invariant.left.0 in
    let whole : scopes ≡ c.pop.new.self.items ++ c.in-Some.scope ∷ rest = c.loop-scope.invariant.left.1 ∙ ap (λ (l : List Scope). l ++ rest) c.in-Some.ensures.items ∙ append_assoc c.pop.new.self.items (c.in-Some.scope ∷ []) rest in
    let In : List Scope → Type 0 = λ l. Contains l c.in-Some.scope in
    let there : Contains scopes c.in-Some.scope = subst In (sym whole) (Contains-append_right c.pop.new.self.items (c.in-Some.scope ∷ rest) c.in-Some.scope (first_in c.in-Some.scope rest)) in
    let Of : Scope → Type 0 = λ scope. Contains scopes scope in
    record {
      each = adds_more (IsForOne way scopes) c.args.ways.now.items c.loop-scope.ways.items c.push.new.self.items more c.in_ok-push.ensures.items (record { wanted = is.wanted; places = is.places; scope = subst Of (sym is.scope) there }) c.loop-scope.invariant.each;
      left = (c.in-Some.scope ∷ rest, whole);
      kept = λ subject a p h. any_kept (MayCome subject a p) c.loop-scope.ways.items (more ∷ []) c.push.new.self.items c.in_ok-push.ensures.items (c.loop-scope.invariant.kept subject a p h);
      wanted = λ step same all. one_wanted c.args.way.now more c.loop-scope.ways.items c.push.new.self.items is.wanted c.in_ok-push.ensures.items step same (c.loop-scope.invariant.wanted step same all);
      parts = λ subject a p may any. scopes_next subject a p c.args.way.now more c.loop-scope.scopes.items c.pop.new.self.items c.in-Some.scope c.loop-scope.ways.items c.push.new.self.items
          c.in-Some.ensures.items is.wanted is.scope is.places c.in_ok-push.ensures.items may (c.loop-scope.invariant.parts subject a p may any);
    }

pub returns-clause-takes : goal.returns-clause-takes
returns-clause-takes c = record {
  kept = c.loop-scope.invariant.kept;
  wanted = c.loop-scope.invariant.wanted;
  taken = λ subject a p may any. elim (c.loop-scope.invariant.parts subject a p may any) [
    | inl left ↦ absurd (omega (arith, c.in_default.ensures.cases.0, c.loop-scope.scopes.ok.0, left.2))
    | inr h ↦ h
  ];
}
