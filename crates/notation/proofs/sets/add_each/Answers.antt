use Rattle.std.proofs.Common.{◌-◌, ◌++◌, ◌∙◌, ap, arith}
use Rattle.std.proofs.lemmas.Grind.{common_steps}
use Rattle.notation.proofs.PartLaws.{one-number-more}
use Rattle.notation.specs.SetText.{one_by_one}
use Rattle.notation.proofs.SetTextLaws.{none-yet, one-after}
use Rattle.notation.proofs.sets.add_each.Goals as goal

pub loop-number-init : goal.loop-number-init
loop-number-init c = record {
  items = none-yet c.args.parts.now.items c.args.span.now.first;
  members = grind (arith, common_steps);
  parts = λ before. before;
}

pub loop-number-preserved : goal.loop-number-preserved
loop-number-preserved c = record {
  items = one-after c.args.parts.now.items c.loop-number.parts.items c.push.new.self.items c.args.span.now.first c.loop-number.number (omega arith)
      c.loop-number.invariant.items c.in_ok-push.ensures.items;
  members = grind (arith, common_steps);
  parts = λ before.
      one-number-more c.args.field c.loop-number.parts.items c.push.new.self.items c.loop-number.number (omega (arith, c.requires.within)) c.in_ok-push.ensures.items
      (c.loop-number.invariant.parts before);
}

pub returns-clause-items : goal.returns-clause-items
returns-clause-items c =
    one-after c.args.parts.now.items c.loop-number.parts.items c.push-2.new.self.items c.args.span.now.first c.args.span.now.last c.requires.ordered
    (c.loop-number.invariant.items ∙ ap (λ m. c.args.parts.now.items ++ one_by_one c.args.span.now.first (m - c.args.span.now.first)) (omega arith)) c.in_ok-push-2.ensures.items

pub returns-clause-parts : goal.returns-clause-parts
returns-clause-parts c = λ before.
    one-number-more c.args.field c.loop-number.parts.items c.push-2.new.self.items c.args.span.now.last c.requires.within c.in_ok-push-2.ensures.items
    (c.loop-number.invariant.parts before)
