use Rattle.std.proofs.Common.{List, [], map, take, sym, subst, arith}
use Rattle.std.specs.Global.{Vec}
use Rattle.std.proofs.lemmas.Grind.{common_steps}
use Rattle.dumps.specs.Foreign.{ReadRule, rule_in}
use Rattle.dumps.specs.Views.{AreNumberedSoFar}
use Rattle.dumps.specs.declared.conditions.ForeignNeed.{ForeignNeed}
use Rattle.dumps.proofs.laws.NumberLaws.{so_far_none, done-more, all_inversions_step}
use Rattle.dumps.proofs.conditions.Conditions.needs_among.Goals as goal

pub loop-rule-init : goal.loop-rule-init
loop-rule-init c = record {
  inversions = grind (arith, common_steps);
  numbered =
      subst (λ (l : List (Vec ForeignNeed)). AreNumberedSoFar c.args.chain.now [] c.args.self.now c.args.self.now l c.new-counts.result) (sym c.new-rules.ensures.items)
      (so_far_none c.args.chain.now c.args.self.now c.new-counts.result c.new-counts.ensures.empty);
}

pub loop-rule-preserved : goal.loop-rule-preserved
loop-rule-preserved c = record {
  inversions =
      all_inversions_step c.args.chain.now c.args.among.now c.loop-rule.rule-index c.rule-item.result c.loop-rule.rules.items c.add_rule.new.rules.items c.loop-rule-test.true c.rule-item.is
      c.in_ok-add_rule.ensures.inversions c.loop-rule.invariant.inversions;
  numbered =
      subst (λ (l : List ReadRule). AreNumberedSoFar c.args.chain.now l c.args.self.now c.add_rule.new.self c.add_rule.new.rules.items c.add_rule.new.counts)
      (sym (done-more c.args.among.now c.loop-rule.rule-index c.rule-item.result c.loop-rule-test.true c.rule-item.is))
      (c.in_ok-add_rule.ensures.numbered (map rule_in (take c.loop-rule.rule-index c.args.among.now)) c.args.self.now c.loop-rule.invariant.numbered);
}
