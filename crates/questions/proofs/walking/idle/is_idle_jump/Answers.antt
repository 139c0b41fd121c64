use Rattle.std.proofs.Common.{Some, ap, refl, sym, ◌∙◌}
use Rattle.questions.proofs.laws.IdleLaws.{jump_marked, jump_nowhere}
use Rattle.questions.proofs.walking.idle.is_idle_jump.Goals as goal

pub returns-in-Some : goal.returns-in-Some
returns-in-Some c = λ values are.
    jump_marked c.args.table.now.table values c.args.marks.now c.args.rule.now c.in-Some-Jump.name c.in-Some.place are (sym c.target.ensures ∙ c.in-Some-Jump.is ∙ ap Some c.in-Some-Jump.field-0-is) (rw c.bytes.ensures.value at (sym c.index_of.ensures) ∙ c.in-Some.is)

pub returns-in-None : goal.returns-in-None
returns-in-None c = λ values are.
    (λ _. jump_nowhere c.args.table.now.table values c.args.rule.now c.in-Some-Jump.name (sym c.target.ensures ∙ c.in-Some-Jump.is ∙ ap Some c.in-Some-Jump.field-0-is) (rw c.bytes.ensures.value at (sym c.index_of.ensures) ∙ c.in-None.is), λ _. refl)
