use Rattle.std.proofs.Common.{◌==◌, ◌∙◌}
use Rattle.questions.proofs.laws.AreaLaws.{only_one}
use Rattle.questions.proofs.boxes.transport.first_with.Goals as goal

pub returns : goal.returns
returns c = c.first_of.ensures (λ x. x == c.args.protocol) (λ x le. c.in_ok-one.ensures.members x ∙ only_one c.args.protocol x)
