use Rattle.std.proofs.Common.{sym, ◌∙◌}
use Rattle.questions.proofs.laws.ChoiceLaws.{picked_on, zero_on}
use Rattle.questions.proofs.sampling.choice.number_on.Goals as goal

pub returns-then-not-carries : goal.returns-then-not-carries
returns-then-not-carries c = zero_on c.args.area.now c.args.kind c.args.field c.requires (sym c.carries.ensures ∙ c.if-not-carries.true)

pub returns-in_default : goal.returns-in_default
returns-in_default c =
    picked_on c.args.area.now c.args.kind c.args.field c.on-in_default.result.now (sym c.carries.ensures ∙ c.if-not-carries.false) c.on-in_default.ensures.set c.on-in_default.ensures.top
    c.in_default.not-Protocol c.in_default.not-Fragment c.in_default.not-InIface c.in_default.not-OutIface c.pick.result c.pick.ensures.none c.pick.ensures.within c.pick.ensures.there
