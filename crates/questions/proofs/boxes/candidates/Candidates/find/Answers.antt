use Rattle.questions.proofs.laws.CandidateLaws.{found_for}
use Rattle.questions.proofs.boxes.candidates.Candidates.find.Goals as goal

pub returns : goal.returns
returns c = λ box are. found_for c.args.subject.now.table.table c.args.self.now.looks c.args.self.now.start box c.in_ok-self.field-0 are.within c.in_ok-self.ensures
