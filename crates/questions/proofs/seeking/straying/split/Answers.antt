use Rattle.std.proofs.Common.{refl}
use Rattle.questions.specs.declared.walking.scope.Scope.{Scope}
use Rattle.questions.proofs.laws.SeekLaws.{split_apart, split_parts, split_ports, split_unmet}
use Rattle.questions.proofs.seeking.straying.split.Goals as goal

pub cut_by-requires : goal.cut_by-requires
cut_by-requires c = rw c.boxed.ensures c.args.seen.now.boxed

pub returns-in-Apart : goal.returns-in-Apart
returns-in-Apart c =
    let seen = c.args.seen.now in
    split_apart seen.rule.now seen.needs.now c.args.scope (record { area = c.args.scope.area; answers = c.args.scope.answers }) c.args.scopes.now.items c.add_unmet.new.scopes.items c.push.new.self.items
    c.in_ok-add_unmet.ensures refl refl c.in_ok-push-in-Apart.ensures.items

pub returns-in-ByPorts : goal.returns-in-ByPorts
returns-in-ByPorts c =
    let seen = c.args.seen.now in
    let parted = rw c.in-ByPorts.is at c.in_ok-cut_by.ensures.cuts in
    split_ports seen.rule.now seen.needs.now c.args.scope c.in-ByPorts.again.items c.in-ByPorts.others.items c.args.scopes.now.items c.add_unmet.new.scopes.items c.add_boxes.new.scopes.items c.add_boxes-in-ByPorts.new.scopes.items
    parted c.in_ok-add_unmet.ensures c.in_ok-add_boxes-in-ByPorts.ensures c.in_ok-add_boxes-in-ByPorts-2.ensures

pub returns-in-None : goal.returns-in-None
returns-in-None c =
    let seen = c.args.seen.now in
    let cut = rw c.in-Parts.is at c.in_ok-cut_by.ensures.cuts in
    let none = rw c.in-None.is at c.in_ok-meeting-in-Parts.ensures in
    split_unmet seen.rule.now seen.needs.now c.args.scope c.in-Parts.others.items c.args.scopes.now.items c.add_unmet.new.scopes.items c.add_boxes-in-Parts.new.scopes.items c.in_ok-add_unmet.ensures c.in_ok-add_boxes-in-Parts.ensures none

pub returns : goal.returns
returns c =
    let seen = c.args.seen.now in
    let cut = rw c.in-Parts.is at c.in_ok-cut_by.ensures.cuts in
    let more = rw c.in-Some.is at c.in_ok-meeting-in-Parts.ensures in
    let left : Scope = record { area = c.in-Parts.area; answers = c.in-Some.answers } in
    split_parts seen.rule.now seen.needs.now c.args.scope left c.in-Parts.area c.in-Parts.others.items c.args.scopes.now.items c.add_unmet.new.scopes.items c.add_boxes-in-Parts.new.scopes.items
    cut c.in_ok-add_unmet.ensures c.in_ok-add_boxes-in-Parts.ensures refl more
