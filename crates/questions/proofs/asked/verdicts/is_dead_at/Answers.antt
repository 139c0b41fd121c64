use Rattle.std.proofs.lemmas.Bool.{true≢false}
use Rattle.questions.proofs.laws.DifferLaws.{not_dead}
use Rattle.questions.proofs.asked.verdicts.is_dead_at.Goals as goal
use Rattle.questions.proofs.asked.verdicts.is_dead_at.Goals.{in-Dead, in-Live, in-Unclear}

pub returns-clause-other : goal.returns-clause-other
returns-clause-other c =
    elim c.match-branch-2.branch [
      | in-Dead w ↦ rw w.result-is (λ off. absurd (true≢false off))
      | in-Live w ↦ rw w.result-is (λ _. not_dead c.args.subject.now c.args.step c.args.course.hook c.args.course.budget c.in_ok-life_at.field-0 (λ e. cc (w.in-Live.is)) c.in_ok-life_at.ensures.says c.in_ok-life_at.ensures.unclear)
      | in-Unclear w ↦ rw w.result-is (λ _. not_dead c.args.subject.now c.args.step c.args.course.hook c.args.course.budget c.in_ok-life_at.field-0 (λ e. cc (w.in-Unclear.is)) c.in_ok-life_at.ensures.says c.in_ok-life_at.ensures.unclear)
    ]
