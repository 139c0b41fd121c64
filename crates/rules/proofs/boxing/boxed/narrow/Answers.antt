use Rattle.rules.specs.rule.Allows.{field_of}
use Rattle.rules.proofs.laws.BoxLaws.{narrows_asked}
use Rattle.rules.proofs.boxing.boxed.narrow.Goals as goal

pub returns-in-Some-clause-narrows : goal.returns-in-Some-clause-narrows
returns-in-Some-clause-narrows c =
    narrows_asked c.args.option_value.now (field_of c.args.option_value.now.value) c.in_ok-condition.field-0 c.in-Some.asked c.args.spans.now c.keep.new.spans c.keep.result c.in_ok-condition.ensures c.in-Some.is c.keep.ensures.narrows
