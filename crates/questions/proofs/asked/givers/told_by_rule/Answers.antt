use Rattle.std.proofs.Common.{true≢false, sym, arith}
use Rattle.questions.specs.asked.Always.{IsAlwaysDeadIn}
use Rattle.questions.proofs.laws.GiverLaws.{one_comes}
use Rattle.questions.proofs.laws.TrailLaws.{items_next}
use Rattle.questions.proofs.asked.givers.told_by_rule.Goals as goal
use Rattle.questions.proofs.asked.givers.told_by_rule.Goals.{in-Dead, in-Unclear}

pub loop-start-init : goal.loop-start-init
loop-start-init c = λ clear k d lt. absurd (omega (arith, lt))

pub returns-in-Live : goal.returns-in-Live
returns-in-Live c =
    one_comes c.args.subject.now c.args.course.hook c.args.starts.now c.args.step c.start-item.result c.in-Live.words c.in-Live.answers (c.loop-start.start-index, omega arith, sym c.start-item.is)
    (rw c.in-Live.is at c.in_ok-seek.ensures.says)

pub loop-start-preserved : goal.loop-start-preserved
loop-start-preserved c = elim c.match-branch-2.branch [
  | in-Dead w ↦ λ clear. items_next (IsAlwaysDeadIn c.args.subject.now c.args.step c.args.course.hook) c.args.starts.now c.loop-start.start-index c.start-item.result (omega arith) c.start-item.is
      (c.loop-start.invariant (rw w.clear-is at clear)) (rw w.in-Dead.is at c.in_ok-seek.ensures.says)
  | in-Unclear w ↦ λ clear. absurd (true≢false (sym (rw w.clear-is at clear)))
]

pub returns-then-clear : goal.returns-then-clear
returns-then-clear c = λ k d lt. c.loop-start.invariant c.if-clear.true k d (omega (arith, lt, c.loop-start-test.false))
