use Rattle.std.proofs.Common.{[], ◌∷◌, ◌++◌, inr}
use Rattle.std.proofs.lemmas.Result.{on_ok_weaker}
use Rattle.rules.specs.rule.Actions.{target_of}
use Rattle.questions.specs.Scopes.{answered, known_by, table_of, whole_of}
use Rattle.questions.specs.declared.walking.task.Pending.{Pending}
use Rattle.questions.specs.steps.Taken.{IsAnswered, IsGoneWith}
use Rattle.questions.specs.steps.Waiting.{rests_of}
use Rattle.questions.proofs.laws.BranchLaws.{followed_all, met_or_stays, rule_here}
use Rattle.questions.proofs.laws.LeadLaws.{not_gone_to}
use Rattle.questions.proofs.laws.PartedLaws.{adds_weaker, matched_all}
use Rattle.questions.proofs.laws.ResolvedLaws.{all_left, names_same, there_left}
use Rattle.questions.proofs.walking.turn.go_with.Goals as goal

pub returns-in-Some-clause-moves : goal.returns-in-Some-clause-moves
returns-in-Some-clause-moves c =
    let s = c.args.subject.now in
    let own = table_of s in
    on_ok_weaker c.part.result (λ h a policy.
    h (answered s a) (known_by s a) policy (there_left s.needs.now a own c.args.at.chain c.requires.there) (all_left s.needs.now a own c.args.task.rests.items c.requires.rests)) c.part.ensures.moves

pub returns-clause-moves : goal.returns-clause-moves
returns-clause-moves c =
    let s = c.args.subject.now in
    let own = table_of s in
    let rule = c.rule-rule.result.now in
    let here = rule_here own c.args.at rule c.requires.passed c.rule-rule.ensures in
    let can = rw (← here) at (rw c.in_default.is at c.requires.parted) in
    on_ok_weaker c.follow.result (λ h a policy.
    let t = answered s a in
    let known = known_by s a in
    let there = there_left s.needs.now a own c.args.at.chain c.requires.there in
    let all = all_left s.needs.now a own c.args.task.rests.items c.requires.rests in
    followed_all s a c.stands.ensures.sound policy c.args.at c.requires.there rule c.requires.passed c.rule-rule.ensures (rests_of t.chains c.args.task.rests.items) c.args.task.trail.items
    c.args.task.scope.area c.args.task.scope.answers c.args.front.now c.follow.new.front (rw (← here) at c.requires.all) can c.requires.room
    (h t known policy (names_same s.needs.now a own.chains) there all (met_or_stays s a c.args.at c.args.task.scope.answers (target_of rule) can))) c.follow.ensures.moves

pub returns-in-Some-clause-on : goal.returns-in-Some-clause-on
returns-in-Some-clause-on c =
    let needs = c.args.subject.now.needs.now in
    let task = c.args.task in
    let at : Pending = c.args.at in
    let rests = task.rests.items ++ at ∷ [] in
    on_ok_weaker c.part.result (λ h. adds_weaker (IsAnswered needs task.scope.answers rests task.trail.items) (IsGoneWith needs task.scope.answers rests task.trail.items) c.args.front.now c.part.new.front (λ next is. inr is)
    (h needs (rw c.in-Some.is at c.requires.needed))) c.part.ensures.on

pub returns-clause-on : goal.returns-clause-on
returns-clause-on c =
    let whole = whole_of c.args.subject.now in
    let task = c.args.task in
    let at : Pending = c.args.at in
    on_ok_weaker c.follow.result (λ h. matched_all whole task.scope task.rests.items at task.trail.items c.args.front.now c.follow.new.front whole.table.chains (target_of c.rule-rule.result.now)
    (λ name to. not_gone_to whole.table at c.rule-rule.result.now name c.stands.ensures.sound c.requires.there c.requires.passed c.rule-rule.ensures to) h) c.follow.ensures.on
