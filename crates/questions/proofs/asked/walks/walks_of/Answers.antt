use Rattle.questions.proofs.laws.WalksLaws.{walks_known}
use Rattle.questions.proofs.asked.walks.walks_of.Goals as goal

pub returns-clause-asked : goal.returns-clause-asked
returns-clause-asked c = rw c.in_ok-answers.ensures at c.in_ok-found.ensures.asked

pub returns-clause-walks : goal.returns-clause-walks
returns-clause-walks c =
    walks_known c.args.subject.now (record { area = c.in_ok-area.area; answers = c.in_ok-answers.answers }) c.args.budget c.in_ok-found.found c.args.packet.now c.args.answers.now c.in_ok-area.ensures c.in_ok-answers.ensures c.requires.can
    (rw c.hook.ensures.value at c.in_ok-found.ensures.leaves) (rw c.hook.ensures.value at c.in_ok-found.ensures.exact) c.in_ok-found.ensures.decided (rw c.hook.ensures.value at c.in_ok-found.ensures.steps)
