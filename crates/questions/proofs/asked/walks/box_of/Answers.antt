use Rattle.std.proofs.Common.{◌≡◌, ◌∙◌, ℕ, inl, inr, get_or, arith, sym, subst}
use Rattle.std.proofs.lemmas.Bool.{cases_lt}
use Rattle.std.proofs.lemmas.List.{get_or_default}
use Rattle.fields.specs.declared.numbers.field.Field.{Field}
use Rattle.fields.specs.declared.numbers.field.Field.TheVariants as field
use Rattle.fields.specs.numbers.Field.{all_fields, index, number_on}
use Rattle.fields.specs.Packet.{point}
use Rattle.rules.proofs.laws.BoxLaws.{here_is, index-lt}
use Rattle.questions.proofs.laws.WalksLaws.{itself_within, within_itself}
use Rattle.questions.proofs.asked.walks.box_of.Goals as goal

pub loop-field-init : goal.loop-field-init
loop-field-init c = record {
  inside = c.in_ok-own.ensures.all c.args.packet.now.values c.requires.packet.within c.requires.inside c.requires.inside;
  only = λ numbers is has k d lt. absurd (omega (arith, lt));
}

pub loop-field-preserved : goal.loop-field-preserved
loop-field-preserved c =
    let i : ℕ = c.loop-field.field-index in
    record {
      inside = c.in_ok-own-2.ensures.all c.args.packet.now.values c.requires.packet.within c.loop-field.invariant.inside (c.in_ok-set.ensures.members _ ∙ within_itself c.point-number.result _ c.point-number.ensures.value);
      only = λ numbers is has k d lt. elim (cases_lt k i) [
        | inl before ↦ c.loop-field.invariant.only numbers is (c.in_ok-own-2.ensures.own numbers is has) k d before
        | inr past ↦ (
            let same : i ≡ k = omega (arith, lt, past) in
            let Q : Field → Type 0 = λ g. number_on numbers g ≡ point c.args.packet.now g in
            let here : Q (get_or all_fields i field.Source) =
            itself_within c.point-number.result (number_on numbers (get_or all_fields i field.Source)) (sym (c.in_ok-set.ensures.members _) ∙ c.in_ok-own-2.ensures.members numbers is has) ∙ c.point-number.ensures.value in
            rw same at (subst Q (get_or_default all_fields i field.Source d (omega (arith, c.loop-field-test.true))) here))
      ];
    }

pub returns : goal.returns
returns c = record {
  inside = c.loop-field.invariant.inside;
  only = λ numbers is has f.
      (let P : Field → Type 0 = λ g. number_on numbers g ≡ point c.args.packet.now g in
      subst P (here_is f f) (c.loop-field.invariant.only numbers is has (index f) f (omega (arith, index-lt f, c.loop-field-test.false))));
}
