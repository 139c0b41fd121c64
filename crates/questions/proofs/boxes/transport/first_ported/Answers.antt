use Rattle.std.proofs.Common.{◌||◌, ◌==◌, ◌∙◌, ap}
use Rattle.fields.specs.values.Protocol.{carries_ports}
use Rattle.questions.proofs.laws.TransportLaws.{ported_is}
use Rattle.questions.proofs.boxes.transport.first_ported.Goals as goal

pub returns : goal.returns
returns c = c.first_of.ensures carries_ports (λ x le. c.in_ok-with_tcp.ensures.members x le ∙ ap (λ b. b || (x == 6)) (c.in_ok-ported.ensures.members x le) ∙ ported_is x)
