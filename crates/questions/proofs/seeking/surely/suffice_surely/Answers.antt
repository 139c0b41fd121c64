use Rattle.std.proofs.Common.{sym}
use Rattle.questions.proofs.laws.BeforeLaws.{sought_enough}
use Rattle.questions.proofs.seeking.surely.suffice_surely.Goals as goal

pub returns : goal.returns
returns c = λ comes.
    let approach = c.args.approach.now in
    sought_enough approach.subject approach.packet.now approach.answers.now approach.wanted (c.in_ok-comes.ensures comes)
    (λ a. c.are_short.ensures.short c.if-not-are_short.false a approach.packet.now (sym c.hook.ensures.value))
