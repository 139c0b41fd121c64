use Rattle.std.proofs.Common.{sym, ◌∙◌}
use Rattle.questions.specs.boxes.Boxes.{IsAtHook}
use Rattle.questions.proofs.laws.PacketLaws.{written_at_hooks}
use Rattle.questions.proofs.asked.alone.other_alone.Goals as goal

pub close_all-requires : goal.close_all-requires
close_all-requires c = written_at_hooks c.in-Live.words c.in-Ok.packet (sym c.read.ensures.value ∙ c.in-Ok.is)

pub close_all-requires-2 : goal.close_all-requires-2
close_all-requires-2 c = written_at_hooks c.in-Live.words c.in-Ok.packet (sym c.read.ensures.value ∙ c.in-Ok.is)

pub box_of-requires-clause-inside : goal.box_of-requires-clause-inside
box_of-requires-clause-inside c =
    let can : IsAtHook c.in-Ok.packet = written_at_hooks c.in-Live.words c.in-Ok.packet (sym c.read.ensures.value ∙ c.in-Ok.is) in
    c.in_ok-whole.ensures.all c.in-Ok.packet can (sym c.hook.ensures.value)
