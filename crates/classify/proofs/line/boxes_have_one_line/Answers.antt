use Rattle.classify.specs.Classifier.{box_allows}
use Rattle.classify.proofs.laws.line.LineLaws.{one_line}
use Rattle.classify.proofs.line.boxes_have_one_line.Goals as goal

pub returns : goal.returns
returns c field top boxes line other g h = one_line (λ box x. box_allows box field x) top boxes line other g h
