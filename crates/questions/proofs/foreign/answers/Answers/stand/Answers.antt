use Rattle.questions.specs.steps.Answered.{AreIndexed}
use Rattle.questions.proofs.foreign.answers.Answers.stand.Goals as goal

pub returns : goal.returns
returns c = let are : AreIndexed c.self.inside.index.items c.args.self.now = rw (← c.self.view_is) c.self.invariant in are.consistent
