use Rattle.questions.proofs.laws.SeekLaws.{parts_matching}
use Rattle.questions.proofs.seeking.straying.add_matching.Goals as goal

pub cut_by-requires : goal.cut_by-requires
cut_by-requires c = rw c.boxed.ensures c.args.seen.now.boxed

pub returns : goal.returns
returns c =
    parts_matching c.args.seen.now.rule.now c.args.scope.now c.in_ok-areas.areas.items c.args.scopes.now.items c.add_boxes.new.scopes.items
    (λ numbers point m has. c.in_ok-areas.ensures c.args.seen.now.rule.now c.args.scope.now.area numbers c.in_ok-cut.ensures.cuts point m has) c.in_ok-add_boxes.ensures
