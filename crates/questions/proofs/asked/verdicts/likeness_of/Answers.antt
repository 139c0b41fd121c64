use Rattle.std.proofs.Common.{inr}
use Rattle.questions.proofs.laws.CompareLaws.{settled_never, settled_on}
use Rattle.questions.proofs.asked.verdicts.likeness_of.Goals as goal

pub returns-in_default-clause-says : goal.returns-in_default-clause-says
returns-in_default-clause-says c = settled_never c.args.own.now c.args.old.now c.args.new.now c.args.course.hook c.args.step c.requires (rw c.in_default.is at c.in_ok-start.ensures)

pub returns-then-is_empty-clause-says : goal.returns-then-is_empty-clause-says
returns-then-is_empty-clause-says c =
    settled_on c.args.own.now c.args.old.now c.args.new.now c.args.course.hook c.args.step c.in-Some.start c.requires (rw c.in-Some.is at c.in_ok-start.ensures)
    (λ a p can there own. absurd (c.is_empty.ensures.none c.if-is_empty.true p.values own.inside))

pub returns-then-branch-clause-says : goal.returns-then-branch-clause-says
returns-then-branch-clause-says c = λ a. let (dead, short) = c.in_ok-is_dead_at.ensures.dead c.if-branch.true in inr (dead a, short a)

pub returns-in-Same-clause-says : goal.returns-in-Same-clause-says
returns-in-Same-clause-says c =
    let same = rw c.in-Same.is at c.in_ok-likeness_on.ensures.says in
    settled_on c.args.own.now c.args.old.now c.args.new.now c.args.course.hook c.args.step c.in-Some.start c.requires (rw c.in-Some.is at c.in_ok-start.ensures) same

pub returns-in-None-clause-unclear : goal.returns-in-None-clause-unclear
returns-in-None-clause-unclear c = (c.in_ok-is_dead_at.ensures.other c.if-branch.false, (c.in-Some.start, rw c.in-Some.is at c.in_ok-start.ensures, rw c.in-Unclear.is at c.in_ok-likeness_on.ensures.unclear))
