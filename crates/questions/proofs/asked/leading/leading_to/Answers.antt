use Rattle.questions.proofs.laws.LeadLaws.{leading_of}
use Rattle.questions.proofs.asked.leading.leading_to.Goals as goal

pub returns : goal.returns
returns c = leading_of c.args.subject.now.table.table c.in_ok-marks.marks.items c.args.place c.stands.ensures.sound c.requires c.in_ok-marks.ensures
