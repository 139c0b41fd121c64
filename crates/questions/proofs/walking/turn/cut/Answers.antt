use Rattle.std.proofs.Common.{◌+◌, ◌-◌, [], ◌∷◌, ◌++◌, length, arith, length-append}
use Rattle.fields.specs.numbers.Field.{all_fields}
use Rattle.std.proofs.lemmas.Result.{on_ok_weaker}
use Rattle.table.specs.chains.Table.{chain_at}
use Rattle.questions.specs.Scopes.{answered, known_by, table_of, whole_of}
use Rattle.questions.specs.boxes.Cut.{MatchesAll}
use Rattle.questions.specs.steps.Waiting.{rests_of}
use Rattle.questions.proofs.laws.BoxesLaws.{own_box}
use Rattle.questions.proofs.laws.BranchLaws.{apart_on, parted_on, split_on, rule_here}
use Rattle.questions.proofs.laws.ResolvedLaws.{all_left, there_left}
use Rattle.questions.specs.declared.walking.task.Pending.{Pending}
use Rattle.questions.specs.declared.walking.task.Task.{Task}
use Rattle.questions.specs.steps.Taken.{GetsOn}
use Rattle.questions.proofs.laws.PartedLaws.{adds_more, besides_past, gone_on, parts_on, put_past, boxes_more, boxes_part, cut_then, more_parts, one_part}
use Rattle.questions.proofs.laws.PartLaws.{parted_only}
use Rattle.questions.proofs.walking.turn.cut.Goals as goal

pub matches_all-requires : goal.matches_all-requires
matches_all-requires c =
    own_box (chain_at (table_of c.args.subject.now) c.args.at.chain).rules (c.args.at.passed + 1 - 1) c.rule-rule.result.now c.own_at-own.result.now (omega (arith, c.requires.passed)) c.rule-rule.ensures c.own_at-own.ensures

pub cut_by-requires : goal.cut_by-requires
cut_by-requires c = rw (← c.boxed.ensures) at
    (own_box (chain_at (table_of c.args.subject.now) c.args.at.chain).rules (c.args.at.passed + 1 - 1) c.rule-rule.result.now c.own_at-own.result.now (omega (arith, c.requires.passed)) c.rule-rule.ensures c.own_at-own.ensures)

pub returns-in-Apart-clause-moves : goal.returns-in-Apart-clause-moves
returns-in-Apart-clause-moves c =
    let s = c.args.subject.now in
    let own = table_of s in
    let apart = rw c.in-Apart.is at c.in_ok-cut_by.ensures.cuts in
    on_ok_weaker c.go_on.result (λ h a policy.
    apart_on s a c.stands.ensures.sound policy c.args.at c.requires.there c.rule-rule.result.now c.requires.passed c.rule-rule.ensures (rests_of (answered s a).chains c.args.task.rests.items) c.args.task.trail.items
    c.args.task.scope c.args.front.now c.go_on.new.front apart
    (h (answered s a) (known_by s a) policy (there_left s.needs.now a own c.args.at.chain c.requires.there) (all_left s.needs.now a own c.args.task.rests.items c.requires.rests))) c.go_on.ensures.moves

pub returns-in_ok-pass_over-in-ByPorts-clause-moves : goal.returns-in_ok-pass_over-in-ByPorts-clause-moves
returns-in_ok-pass_over-in-ByPorts-clause-moves c =
    let s = c.args.subject.now in
    let own = table_of s in
    let parted = rw c.in-ByPorts.is at c.in_ok-cut_by.ensures.cuts in
    on_ok_weaker c.pass_over-in-ByPorts-2.result (λ h a policy.
    let t = answered s a in
    let known = known_by s a in
    let there = there_left s.needs.now a own c.args.at.chain c.requires.there in
    let all = all_left s.needs.now a own c.args.task.rests.items c.requires.rests in
    parted_on s a c.stands.ensures.sound policy c.args.at c.requires.there c.rule-rule.result.now c.requires.passed c.rule-rule.ensures (rests_of t.chains c.args.task.rests.items) c.args.task.trail.items
    c.args.task.scope.area c.args.task.scope.answers c.in-ByPorts.again.items c.in-ByPorts.outside.items c.args.front.now c.pass_over-in-ByPorts.new.front c.pass_over-in-ByPorts-2.new.front parted
    (c.in_ok-pass_over-in-ByPorts.ensures.moves t known policy there all)
    (h t known policy there all)) c.pass_over-in-ByPorts-2.ensures.moves

pub returns-in-Apart-clause-on : goal.returns-in-Apart-clause-on
returns-in-Apart-clause-on c =
    let at : Pending = c.args.at in
    on_ok_weaker c.go_on.result (λ h. put_past (whole_of c.args.subject.now) c.args.task.scope c.args.task.rests.items at c.args.task.trail.items c.args.front.now c.go_on.new.front h) c.go_on.ensures.on

pub returns-in_ok-pass_over-in-ByPorts-clause-on : goal.returns-in_ok-pass_over-in-ByPorts-clause-on
returns-in_ok-pass_over-in-ByPorts-clause-on c =
    let whole = whole_of c.args.subject.now in
    let rule = c.rule-rule.result.now in
    let task = c.args.task in
    let at : Pending = c.args.at in
    let On : Task → Type 0 = GetsOn whole task.scope (task.rests.items ++ at ∷ []) task.trail.items in
    let ports = rw c.in-ByPorts.is at c.in_ok-cut_by.ensures.ports in
    on_ok_weaker c.pass_over-in-ByPorts-2.result (λ h. adds_more On c.args.front.now c.pass_over-in-ByPorts.new.front c.pass_over-in-ByPorts-2.new.front
    (besides_past whole task.scope task.rests.items at task.trail.items c.args.front.now c.pass_over-in-ByPorts.new.front c.in-ByPorts.outside.items c.in_ok-pass_over-in-ByPorts.ensures.on)
    (parts_on whole task.scope task.rests.items at task.trail.items c.pass_over-in-ByPorts.new.front c.pass_over-in-ByPorts-2.new.front rule c.in-ByPorts.again.items
    (rule_here whole.table at rule c.requires.passed c.rule-rule.ensures) ports h)) c.pass_over-in-ByPorts-2.ensures.on

pub returns-in-Apart-clause-parts : goal.returns-in-Apart-clause-parts
returns-in-Apart-clause-parts c =
    on_ok_weaker c.go_on.result (λ h. more_parts 1 (length all_fields + 2) c.args.task.scope c.args.front.now c.go_on.new.front (omega arith) (one_part c.args.task.scope c.args.front.now c.go_on.new.front h)) c.go_on.ensures.one

pub returns-in_ok-pass_over-in-ByPorts-clause-parts : goal.returns-in_ok-pass_over-in-ByPorts-clause-parts
returns-in_ok-pass_over-in-ByPorts-clause-parts c =
    let scope = c.args.task.scope in
    let parted = rw c.in-ByPorts.is at c.in_ok-cut_by.ensures.cuts in
    let disjoint = rw c.in-ByPorts.is at c.in_ok-cut_by.ensures.disjoint in
    let again = c.in-ByPorts.again.items in
    let outside = c.in-ByPorts.outside.items in
    let few = rw c.in-ByPorts.is at c.in_ok-cut_by.ensures.few in
    on_ok_weaker c.pass_over-in-ByPorts-2.result (λ h. more_parts (length (again ++ outside)) (length all_fields + 2) scope c.args.front.now c.pass_over-in-ByPorts-2.new.front (omega (arith, few.0, few.1, length-append again outside)) (boxes_part scope.area scope.answers (again ++ outside) c.args.front.now c.pass_over-in-ByPorts-2.new.front disjoint
    (λ numbers point some. parted_only again outside scope.area numbers point parted.only (λ numbers point rest. (parted.rest numbers point rest).0) some)
    (boxes_more scope.area scope.answers again outside c.args.front.now c.pass_over-in-ByPorts.new.front c.pass_over-in-ByPorts-2.new.front c.in_ok-pass_over-in-ByPorts.ensures.boxes h))) c.pass_over-in-ByPorts-2.ensures.boxes

pub returns-in-Apart-clause-asked : goal.returns-in-Apart-clause-asked
returns-in-Apart-clause-asked c = on_ok_weaker c.go_on.result (λ h. h c.args.subject.now.needs.now) c.go_on.ensures.asked

pub returns-in_ok-pass_over-in-ByPorts-clause-asked : goal.returns-in_ok-pass_over-in-ByPorts-clause-asked
returns-in_ok-pass_over-in-ByPorts-clause-asked c =
    let needs = c.args.subject.now.needs.now in
    on_ok_weaker c.pass_over-in-ByPorts-2.result (λ h given own all. h needs given own (c.in_ok-pass_over-in-ByPorts.ensures.asked needs given own all)) c.pass_over-in-ByPorts-2.ensures.asked

pub go_with-requires-clause-all : goal.go_with-requires-clause-all
go_with-requires-clause-all c =
    rw (rule_here (table_of c.args.subject.now) c.args.at c.rule-rule.result.now c.requires.passed c.rule-rule.ensures) at (c.matches_all.ensures c.if-matches_all.true)

pub returns-then-matches_all-clause-on : goal.returns-then-matches_all-clause-on
returns-then-matches_all-clause-on c =
    on_ok_weaker c.go_with.result (gone_on (whole_of c.args.subject.now) c.args.task.scope c.args.task.rests.items c.args.at c.args.task.trail.items c.args.front.now c.go_with.new.front) c.go_with.ensures.on

pub go_with-requires-in-Parts-clause-all : goal.go_with-requires-in-Parts-clause-all
go_with-requires-in-Parts-clause-all c =
    let cut = rw c.in-Parts.is at c.in_ok-cut_by.ensures.cuts in
    let all : MatchesAll c.rule-rule.result.now c.in-Parts.inside = λ numbers point here. (cut.only numbers point here).1 in
    rw (rule_here (table_of c.args.subject.now) c.args.at c.rule-rule.result.now c.requires.passed c.rule-rule.ensures) at all

pub returns-in_ok-pass_over-in-Parts-clause-moves : goal.returns-in_ok-pass_over-in-Parts-clause-moves
returns-in_ok-pass_over-in-Parts-clause-moves c =
    let s = c.args.subject.now in
    let own = table_of s in
    let cut = rw c.in-Parts.is at c.in_ok-cut_by.ensures.cuts in
    on_ok_weaker c.go_with-in-Parts.result (λ h a policy.
    let t = answered s a in
    let known = known_by s a in
    let there = there_left s.needs.now a own c.args.at.chain c.requires.there in
    let all = all_left s.needs.now a own c.args.task.rests.items c.requires.rests in
    split_on s a c.stands.ensures.sound policy c.args.at c.requires.there c.rule-rule.result.now c.requires.passed c.rule-rule.ensures (rests_of t.chains c.args.task.rests.items) c.args.task.trail.items
    c.args.task.scope.area c.in-Parts.inside c.args.task.scope.answers c.in-Parts.outside.items c.args.front.now c.pass_over.new.front c.go_with-in-Parts.new.front cut
    (c.in_ok-pass_over-in-Parts.ensures.moves t known policy there all)
    (h a policy)) c.go_with-in-Parts.ensures.moves

pub returns-in_ok-pass_over-in-Parts-clause-asked : goal.returns-in_ok-pass_over-in-Parts-clause-asked
returns-in_ok-pass_over-in-Parts-clause-asked c =
    let needs = c.args.subject.now.needs.now in
    on_ok_weaker c.go_with-in-Parts.result (λ h given own all. h given own (c.in_ok-pass_over-in-Parts.ensures.asked needs given own all)) c.go_with-in-Parts.ensures.asked

pub returns-in_ok-pass_over-in-Parts-clause-on : goal.returns-in_ok-pass_over-in-Parts-clause-on
returns-in_ok-pass_over-in-Parts-clause-on c =
    let whole = whole_of c.args.subject.now in
    let task = c.args.task in
    let at : Pending = c.args.at in
    let On : Task → Type 0 = GetsOn whole task.scope (task.rests.items ++ at ∷ []) task.trail.items in
    on_ok_weaker c.go_with-in-Parts.result (λ h. adds_more On c.args.front.now c.pass_over.new.front c.go_with-in-Parts.new.front
    (besides_past whole task.scope task.rests.items at task.trail.items c.args.front.now c.pass_over.new.front c.in-Parts.outside.items c.in_ok-pass_over-in-Parts.ensures.on)
    (gone_on whole task.scope task.rests.items at task.trail.items c.pass_over.new.front c.go_with-in-Parts.new.front h)) c.go_with-in-Parts.ensures.on

pub returns-in_ok-pass_over-in-Parts-clause-parts : goal.returns-in_ok-pass_over-in-Parts-clause-parts
returns-in_ok-pass_over-in-Parts-clause-parts c =
    let said = c.in_ok-cut_by.ensures in
    on_ok_weaker c.go_with-in-Parts.result (cut_then c.args.task.scope.area c.args.task.scope.answers c.rule-rule.result.now 2 c.in-Parts.inside c.in-Parts.outside.items c.args.front.now c.pass_over.new.front c.go_with-in-Parts.new.front
    (rw c.in-Parts.is at said.cuts) (rw c.in-Parts.is at said.disjoint) (rw c.in-Parts.is at said.few) (omega arith) c.in_ok-pass_over-in-Parts.ensures.boxes) c.go_with-in-Parts.ensures.parts
