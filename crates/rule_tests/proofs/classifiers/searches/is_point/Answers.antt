use Rattle.std.proofs.Common.{arith, below_more, ◌≤◌, ℕ, subst, ◌<◌}
use Rattle.fields.specs.numbers.Field.{index, number_on}
use Rattle.fields.specs.declared.numbers.field.Field.TheVariants.{Source}
use Rattle.fields.specs.declared.numbers.field.TheConstants.{FIELDS}
use Rattle.rules.proofs.laws.BoxLaws.{index-lt}
use Rattle.classify.proofs.laws.classifier.ClassifierLaws.{top_at, tops_at}
use Rattle.rule_tests.proofs.classifiers.searches.is_point.Goals as goal

pub loop-place-preserved : goal.loop-place-preserved
loop-place-preserved c =
    let lt : c.loop-place.place < FIELDS = omega arith in
    below_more _ _ c.loop-place.invariant (omega (arith, c.top.ensures, tops_at c.loop-place.place Source lt))

pub returns : goal.returns
returns c _ field =
    let P : ℕ → Type 0 = λ t. number_on c.args.point.now field ≤ t in
    let end : FIELDS ≤ c.loop-place.place = omega arith in
    subst P (top_at field) (c.loop-place.invariant (index field) (let lt : index field < FIELDS = index-lt field in omega arith))
