use Rattle.questions.specs.declared.asked.reach.Given.{Given}
use Rattle.questions.proofs.laws.ExactLaws.{exact_in_box}
use Rattle.questions.proofs.asked.reach.exact_in.Goals as goal

pub returns : goal.returns
returns c =
    let given : Given = record { hook = c.args.hook; area = c.args.area.now } in
    exact_in_box c.args.boxed.now.table.table c.none-needs.result c.none-needs.ensures given c.in_ok-hook.field-0 c.in_ok-hook.ensures c.in-Some.exact.items
    (rw (c.in-Some.is, c.none.ensures) at c.in_ok-exact_walks.ensures)

pub returns-in-None : goal.returns-in-None
returns-in-None c =
    let met : Given = c.in_ok-hook.field-0 in
    (met, c.in_ok-hook.ensures, (met.area, record { all = λ numbers point own other. own; first = λ numbers point h. h; second = λ numbers point h. h }, rw c.none-needs.ensures at (rw (c.in-None.is, c.none.ensures) at c.in_ok-exact_walks.ensures)))
