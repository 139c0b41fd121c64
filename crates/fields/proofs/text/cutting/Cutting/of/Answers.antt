use Rattle.std.proofs.Common.{ap, ◌∙◌}
use Rattle.fields.specs.steps.Cutting.{cut_from}
use Rattle.fields.proofs.laws.text.CuttingLaws.{cut_from-start}
use Rattle.fields.proofs.text.cutting.Cutting.of.Goals as goal

pub loop-bytes-init : goal.loop-bytes-init
loop-bytes-init c = ap (λ cut. cut_from cut c.args.line.now) c.in_ok-cutting.ensures.start ∙ cut_from-start c.args.line.now
