use Rattle.std.proofs.Common.{◌+◌, length, arith}
use Rattle.fields.specs.numbers.Field.{all_fields}
use Rattle.std.proofs.lemmas.Result.{on_ok_weaker}
use Rattle.questions.specs.Scopes.{answered, known_by, table_of, whole_of}
use Rattle.questions.specs.steps.Waiting.{rests_of}
use Rattle.questions.proofs.laws.BranchLaws.{passed_on}
use Rattle.questions.proofs.laws.ResolvedLaws.{all_left, there_left}
use Rattle.questions.proofs.laws.PartedLaws.{put_past, more_parts, one_part}
use Rattle.questions.proofs.walking.turn.ask.Goals as goal

pub returns-in-Passed-clause-moves : goal.returns-in-Passed-clause-moves
returns-in-Passed-clause-moves c =
    let s = c.args.subject.now in
    let own = table_of s in
    let fails = rw (c.in-Passed.is, c.at-needs.ensures) at c.branch_of.ensures.branch in
    on_ok_weaker c.go_on.result (λ h a policy.
    passed_on s a c.stands.ensures.sound policy c.args.at c.requires.there c.rule-rule.result.now c.requires.passed c.rule-rule.ensures (rests_of (answered s a).chains c.args.task.rests.items) c.args.task.trail.items
    c.args.task.scope c.args.front.now c.go_on.new.front fails
    (h (answered s a) (known_by s a) policy (there_left s.needs.now a own c.args.at.chain c.requires.there) (all_left s.needs.now a own c.args.task.rests.items c.requires.rests))) c.go_on.ensures.moves

pub returns-in-Passed-clause-on : goal.returns-in-Passed-clause-on
returns-in-Passed-clause-on c =
    on_ok_weaker c.go_on.result (λ h. put_past (whole_of c.args.subject.now) c.args.task.scope c.args.task.rests.items c.args.at c.args.task.trail.items c.args.front.now c.go_on.new.front h) c.go_on.ensures.on

pub returns-in-Passed-clause-asked : goal.returns-in-Passed-clause-asked
returns-in-Passed-clause-asked c = on_ok_weaker c.go_on.result (λ h. h c.args.subject.now.needs.now) c.go_on.ensures.asked

pub returns-in-Passed-clause-parts : goal.returns-in-Passed-clause-parts
returns-in-Passed-clause-parts c = on_ok_weaker c.go_on.result (λ h. more_parts 1 (length all_fields + 2) c.args.task.scope c.args.front.now c.go_on.new.front (omega arith) (one_part c.args.task.scope c.args.front.now c.go_on.new.front h)) c.go_on.ensures.one
