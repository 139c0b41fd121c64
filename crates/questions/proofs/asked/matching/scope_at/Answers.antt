use Rattle.std.proofs.Common.{refl}
use Rattle.questions.proofs.laws.TakerLaws.{box_at}
use Rattle.questions.proofs.asked.matching.scope_at.Goals as goal

pub returns : goal.returns
returns c = (
  record { hook = c.args.hook; area = c.in_ok-area.area },
  box_at _ c.args.step c.args.hook c.in_ok-at_hook.field-0 c.at-boxed.result.now c.in_ok-area.area c.at-boxed.ensures c.in_ok-at_hook.ensures.all c.in_ok-at_hook.ensures.only (rw c.spans.ensures.value at c.in_ok-area.ensures),
  refl,
  rw (c.in-Some.is, c.at-needs.ensures, c.none.ensures) at c.in_ok-answers.ensures,
)
