use Rattle.std.proofs.Common.{subst}
use Rattle.table.specs.steps.Walking.{LeadsIn}
use Rattle.table.specs.declared.chain.entry.Flow.{Flow}
use Rattle.table.proofs.laws.walk.TableWalkLaws.{state_pop, state_push}
use Rattle.table.proofs.walk.follow.Goals as goal

pub returns-in-Some-clause-state : goal.returns-in-Some-clause-state
returns-in-Some-clause-state g c = λ order s leads goes. state_pop order c.args.at.now c.in-Some.rest c.args.stack.now.items c.pop.new.self.items c.in-Some.ensures.items s

pub returns-else-is_full-clause-state : goal.returns-else-is_full-clause-state
returns-else-is_full-clause-state g c = λ order s leads goes.
    let P : Flow → Type 0 = λ (x : Flow). LeadsIn order x in
    state_push order c.args.at.now c.start.result c.in-Jump.key c.args.stack.now.items c.push.new.self.items c.push.ensures.items c.start.ensures (subst P c.in-Jump.is leads) s
