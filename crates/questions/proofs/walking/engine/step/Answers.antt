use Rattle.std.proofs.Common.{◌+◌, length, arith, true≢false}
use Rattle.fields.specs.numbers.Field.{all_fields}
use Rattle.std.proofs.lemmas.List.{nil_from_length}
use Rattle.std.proofs.lemmas.List.Elements.{All-pop}
use Rattle.std.proofs.lemmas.Result.{on_ok_weaker}
use Rattle.questions.specs.Scopes.{answered, entries_by, known_by, table_of, whole_of}
use Rattle.questions.specs.steps.Waiting.{IsThere, rests_of}
use Rattle.questions.proofs.laws.ForeignLaws.{left_sound}
use Rattle.questions.proofs.laws.ResolvedLaws.{all_left, count_left, there_left}
use Rattle.questions.proofs.laws.WaitLaws.{at_rest, at_no_rest, comes_back, ended}
use Rattle.questions.specs.steps.Taken.{GetsOn}
use Rattle.questions.proofs.laws.PartedLaws.{adds_none, back_on, more_parts, one_part}
use Rattle.questions.proofs.walking.engine.step.Goals as goal

pub returns-then-at-rule_count-clause-moves : goal.returns-then-at-rule_count-clause-moves
returns-then-at-rule_count-clause-moves c =
    let s = c.args.subject.now in
    let own = table_of s in
    let all = All-pop (IsThere own.chains) c.args.task.rests.items c.pop.new.self.items c.pop.result c.pop.ensures.items c.requires.there in
    let there = rw c.in-Some.is at all.1 in
    on_ok_weaker c.add_task.result (λ h a.
    let t = answered s a in
    let known = known_by s a in
    let es = entries_by known t.chains c.args.task.trail.items in
    at_rest t known c.args.policy c.args.task.scope c.args.front.now c.add_task.new.self c.args.task.rests.items c.pop.new.self.items c.in-Some.at es c.in-Some.ensures.items
    (comes_back t known (left_sound s.needs.now a own c.stands.ensures.sound) c.args.policy c.in-Some.at (there_left s.needs.now a own c.in-Some.at.chain there) c.args.task.scope (rests_of t.chains c.pop.new.self.items) es c.args.front.now c.add_task.new.self
    (omega (arith, c.rule_count.ensures, c.if-at-rule_count.true, count_left s.needs.now a own c.in-Some.at.chain there)) (h t known c.args.policy (all_left s.needs.now a own c.pop.new.self.items all.0)))) c.add_task.ensures.moves

pub returns-in-None-clause-moves : goal.returns-in-None-clause-moves
returns-in-None-clause-moves c =
    let s = c.args.subject.now in
    on_ok_weaker c.add_leaf.result (λ h a.
    let t = answered s a in
    let known = known_by s a in
    let es = entries_by known t.chains c.args.task.trail.items in
    at_no_rest t known c.args.policy c.args.task.scope c.args.front.now c.add_leaf.new.self c.args.task.rests.items es (nil_from_length c.args.task.rests.items (omega (arith, c.in-None.ensures.cases.0, c.args.task.rests.ok.0)))
    (ended t known c.args.policy c.args.task.scope c.args.front.now c.add_leaf.new.self es (h t known c.args.policy (λ rule. absurd (true≢false rule))))) c.add_leaf.ensures.moves

pub returns-else-at-rule_count-clause-moves : goal.returns-else-at-rule_count-clause-moves
returns-else-at-rule_count-clause-moves c =
    let s = c.args.subject.now in
    on_ok_weaker c.ask.result (λ h a.
    let t = answered s a in
    let known = known_by s a in
    let es = entries_by known t.chains c.args.task.trail.items in
    at_rest t known c.args.policy c.args.task.scope c.args.front.now c.ask.new.front c.args.task.rests.items c.pop.new.self.items c.in-Some.at es c.in-Some.ensures.items (h a c.args.policy)) c.ask.ensures.moves

pub returns-in-None-clause-on : goal.returns-in-None-clause-on
returns-in-None-clause-on c = on_ok_weaker c.add_leaf.result (λ h. adds_none (GetsOn (whole_of c.args.subject.now) c.args.task.scope c.args.task.rests.items c.args.task.trail.items) c.args.front.now c.add_leaf.new.self h) c.add_leaf.ensures.on

pub returns-then-at-rule_count-clause-on : goal.returns-then-at-rule_count-clause-on
returns-then-at-rule_count-clause-on c =
    on_ok_weaker c.add_task.result (λ h. back_on (whole_of c.args.subject.now) c.args.task.scope c.args.task.rests.items c.pop.new.self.items c.in-Some.at c.args.task.trail.items c.args.front.now c.add_task.new.self c.in-Some.ensures.items h) c.add_task.ensures.on

pub returns-else-at-rule_count-clause-on : goal.returns-else-at-rule_count-clause-on
returns-else-at-rule_count-clause-on c =
    on_ok_weaker c.ask.result (λ h. rw (← c.in-Some.ensures.items) at h) c.ask.ensures.on

pub returns-in-None-clause-asked : goal.returns-in-None-clause-asked
returns-in-None-clause-asked c = on_ok_weaker c.add_leaf.result (λ h. h c.args.subject.now.needs.now) c.add_leaf.ensures.asked

pub returns-then-at-rule_count-clause-asked : goal.returns-then-at-rule_count-clause-asked
returns-then-at-rule_count-clause-asked c = on_ok_weaker c.add_task.result (λ h. h c.args.subject.now.needs.now) c.add_task.ensures.asked

pub returns-then-at-rule_count-clause-parts : goal.returns-then-at-rule_count-clause-parts
returns-then-at-rule_count-clause-parts c = on_ok_weaker c.add_task.result (λ h. more_parts 1 (length all_fields + 2) c.args.task.scope c.args.front.now c.add_task.new.self (omega arith) (one_part c.args.task.scope c.args.front.now c.add_task.new.self h)) c.add_task.ensures.one

pub returns-in-None-clause-parts : goal.returns-in-None-clause-parts
returns-in-None-clause-parts c = on_ok_weaker c.add_leaf.result (λ h. more_parts 1 (length all_fields + 2) c.args.task.scope c.args.front.now c.add_leaf.new.self (omega arith) h) c.add_leaf.ensures.parts
