use Rattle.questions.proofs.laws.ExactLaws.{met_of}
use Rattle.questions.proofs.asked.reach.met.Goals as goal

pub returns : goal.returns
returns c =
    met_of (record { hook = c.args.hook; area = c.args.area.now }) c.in_ok-at_hook.field-0 c.in_ok-area.area c.in_ok-at_hook.ensures.all c.in_ok-at_hook.ensures.only (rw c.sets.ensures.value at c.in_ok-area.ensures)
