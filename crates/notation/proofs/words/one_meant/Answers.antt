use Rattle.std.specs.Borrow.{Bor}
use Rattle.std.proofs.Common.{◌≡◌, ◌==◌, ◌++◌, ◌∷◌, [], ◌||◌, ℕ, List, Bool, true, false, refl, sym, ◌∙◌, ap, subst, map, rules, tests}
use Rattle.std.specs.Prelude.{is_some}
use Rattle.std.proofs.lemmas.List.{map-append}
use Rattle.std.proofs.lemmas.List.Folds.{list_all_at}
use Rattle.std.proofs.lemmas.Iterator.Consumers.{YieldsList-end, YieldsList-turn}
use Rattle.std.proofs.lemmas.Iterator.Splits.{YieldsList-from_slice_split}
use Rattle.fields.specs.numbers.Field.{top}
use Rattle.fields.specs.numbers.Spans.{has}
use Rattle.notation.specs.Words.{are_known, meaning, means, one_means, values_of}
use Rattle.notation.proofs.WordLaws.{known_more, means_more}
use Rattle.notation.proofs.words.one_meant.Goals as goal

pub returns-in_default : goal.returns-in_default
returns-in_default c =
    let f = c.args.field in
    let road = YieldsList-from_slice_split _ (λ (b : ℕ). b == 44) c.args.list.now (search rules) (search rules) refl (λ x b q k. search (rules, tests)) in
    let turn = YieldsList-turn road c.loop-text.yielded _ c.loop-text.yielded_by _ _ _ c.in-Some.is c.next.ensures.steps in
    let none : is_some (meaning f c.in-Some.text.now) ≡ false = search rules in
    list_all_at (λ (v : List ℕ). is_some (meaning f v)) (values_of c.args.list.now) _ c.in-Some.text.now turn.0
    (subst (λ (v : List ℕ). is_some (meaning f v) ≡ false) turn.1 none)

pub loop-text-preserved-in_ok-set : goal.loop-text-preserved-in_ok-set
loop-text-preserved-in_ok-set c =
    let f = c.args.field in
    let text = c.in-Some.text in
    let done = map (λ (text : Bor (List ℕ)). text.now) c.loop-text.yielded in
    let more = map-append (λ (text : Bor (List ℕ)). text.now) c.loop-text.yielded (text ∷ []) in
    record {
      can = search rules;
      finite = search rules;
      greatest = search rules;
      known = subst (λ (values : List (List ℕ)). are_known f values ≡ true) (sym more) (known_more f done text.now c.loop-text.invariant.known (search rules));
      members = λ x le. (
          let joined : has c.in_ok-set.set.intervals x ≡ (has c.loop-text.set.intervals x || has c.in-Some-2.numbers.intervals x) = search rules in
          let old : has c.loop-text.set.intervals x ≡ one_means f done x = c.loop-text.invariant.members x le in
          let own : has c.in-Some-2.numbers.intervals x ≡ means (meaning f text.now) x = search rules in
          joined ∙ ap (λ b. b || has c.in-Some-2.numbers.intervals x) old ∙ ap (λ b. one_means f done x || b) own ∙ sym (means_more f done text.now x)
          ∙ ap (λ (values : List (List ℕ)). one_means f values x) (sym more));
    }

pub returns : goal.returns
returns c =
    let f = c.args.field in
    let road = YieldsList-from_slice_split _ (λ (b : ℕ). b == 44) c.args.list.now (search rules) (search rules) refl (λ x b q k. search (rules, tests)) in
    let ended = YieldsList-end road c.loop-text.yielded _ c.loop-text.yielded_by _ _ c.in-None.is c.next.ensures.steps in
    record {
      known = subst (λ (values : List (List ℕ)). are_known f values ≡ true) ended.0 c.loop-text.invariant.known;
      greatest = c.loop-text.invariant.greatest;
      members = λ x le. c.loop-text.invariant.members x le ∙ ap (λ (values : List (List ℕ)). one_means f values x) ended.0;
    }
