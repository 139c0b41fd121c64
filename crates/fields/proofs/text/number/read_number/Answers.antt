-- The value is what `number_of` gives, so its laws hold of it.
use Rattle.std.proofs.Common.{rules}
use Rattle.fields.specs.text.Number.{number_of}
use Rattle.fields.proofs.laws.text.NumberLaws.{number_of_only, number_of_complete}
use Rattle.fields.proofs.text.number.read_number.Goals as goal

pub returns-then-has_number_form-clause-sound : goal.returns-then-has_number_form-clause-sound
unfolding number_of
returns-then-has_number_form-clause-sound c = number_of_only c.args.text.now c.value_of.result (search rules)

pub returns-then-has_number_form-clause-complete :
    goal.returns-then-has_number_form-clause-complete
unfolding number_of
returns-then-has_number_form-clause-complete c n is = let gives = number_of_complete c.args.text.now n is in search (rules, gives)

pub returns-else-has_number_form-clause-complete :
    goal.returns-else-has_number_form-clause-complete
unfolding number_of
returns-else-has_number_form-clause-complete c n is = let gives = number_of_complete c.args.text.now n is in search (rules, gives)
