use Rattle.questions.proofs.laws.CandidateLaws.{all_for}
use Rattle.questions.proofs.boxes.candidates.Candidates.all.Goals as goal

pub returns : goal.returns
returns c = λ t. all_for t 0 c.args.start.now c.in_ok-start.start c.new.result c.new.ensures.items (λ numbers point has. c.in_ok-start.ensures.all numbers point has has)
