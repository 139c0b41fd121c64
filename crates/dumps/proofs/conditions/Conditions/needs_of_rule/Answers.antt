use Rattle.std.proofs.Common.{◌++◌, [], List, subst, sym, ap, ◌∙◌, arith, take}
use Rattle.std.proofs.lemmas.List.{append-nil}
use Rattle.std.proofs.lemmas.Grind.{common_steps}
use Rattle.dumps.specs.Foreign.{needs_in}
use Rattle.dumps.specs.declared.conditions.ForeignNeed.{ForeignNeed}
use Rattle.dumps.specs.Numbers.{count_of}
use Rattle.dumps.specs.Views.{AreNeedsNumbered, numbers_of}
use Rattle.dumps.proofs.laws.NumberLaws.{needs_none, needs_step, counts_sets, counts_step, inversions_step}
use Rattle.dumps.proofs.conditions.Conditions.needs_of_rule.Goals as goal

pub loop-need-init : goal.loop-need-init
loop-need-init c = record {
  inversions = grind (arith, common_steps);
  numbered = λ before h.
      subst (λ (l : List ForeignNeed). AreNeedsNumbered c.args.standing.chain.now c.args.standing.rule before [] c.args.self.now c.args.self.now (numbers_of l)) (sym c.new-numbered.ensures.items)
      (needs_none c.args.standing.chain.now c.args.standing.rule before c.args.self.now);
  counted = λ before h text. h text ∙ ap (count_of c.args.self.now.sets text.items) (sym (append-nil before));
}

pub loop-need-preserved : goal.loop-need-preserved
loop-need-preserved c =
    let taken = needs_in (take c.loop-need.need-index c.args.needs.now) in
    record {
      inversions =
          inversions_step c.args.needs.now c.loop-need.need-index c.need-item.result c.loop-need.numbered.items c.push.new.self.items c.in_ok-need_of.field-0 c.loop-need-test.true c.need-item.is
          c.in_ok-push.ensures.items c.in_ok-need_of.ensures.inverted c.loop-need.invariant.inversions;
      numbered = λ before h.
          let so_far = c.loop-need.invariant.numbered before h in
          needs_step c.args.standing.chain.now c.args.standing.rule before c.args.needs.now c.loop-need.need-index c.need-item.result c.args.self.now c.loop-need.self c.need_of.new.self
          c.loop-need.numbered.items c.push.new.self.items c.in_ok-need_of.field-0 c.loop-need-test.true c.need-item.is c.in_ok-push.ensures.items so_far
          (c.in_ok-need_of.ensures.numbered (before ++ taken)
          (counts_sets c.args.standing.chain.now c.args.standing.rule before taken (before ++ taken) c.args.self.now c.loop-need.self (numbers_of c.loop-need.numbered.items) c.loop-need.counts so_far
          (c.loop-need.invariant.counted before h)));
      counted = λ before h.
          let so_far = c.loop-need.invariant.numbered before h in
          counts_step c.args.standing.chain.now c.args.standing.rule before c.args.needs.now c.loop-need.need-index c.need-item.result c.args.self.now c.loop-need.self
          (numbers_of c.loop-need.numbered.items) c.need_of.new.counts c.loop-need-test.true c.need-item.is so_far
          (c.in_ok-need_of.ensures.counts (before ++ taken)
          (counts_sets c.args.standing.chain.now c.args.standing.rule before taken (before ++ taken) c.args.self.now c.loop-need.self (numbers_of c.loop-need.numbered.items) c.loop-need.counts so_far
          (c.loop-need.invariant.counted before h)));
    }
