use Rattle.std.proofs.Common.{List, subst, sym}
use Rattle.std.specs.Prelude.{All, IfOk}
use Rattle.fields.specs.declared.numbers.field.Field.{Field}
use Rattle.notation.specs.IntervalText.{IsPart}
use Rattle.notation.proofs.sets.add_parts.Goals as goal

pub returns-in-ConnectionState-clause-parts : goal.returns-in-ConnectionState-clause-parts
returns-in-ConnectionState-clause-parts c =
    let P : Field → Type 0 = λ f. IfOk c.add_states.result (λ done. All (IsPart f) c.args.parts.now.items → All (IsPart f) c.add_states.new.parts.items) in
    subst P (sym c.in-ConnectionState.is) c.add_states.ensures.parts
