use Rattle.std.proofs.Common.{arith}
use Rattle.rules.specs.rule.Allows.{option_value_allows}
use Rattle.rules.proofs.laws.BoxLaws.{narrows_next, narrows_all}
use Rattle.rules.proofs.boxing.boxed.narrow_all.Goals as goal

pub loop-option_value-preserved : goal.loop-option_value-preserved
loop-option_value-preserved c = record {
  boxed = c.narrow.ensures.boxed;
  narrows =
      narrows_next option_value_allows c.args.option_values.now c.loop-option_value.option_value-index c.option_value-item.result c.args.spans.now c.loop-option_value.spans c.narrow.new.spans (omega arith) c.option_value-item.is
      c.loop-option_value.invariant.narrows c.in_ok-narrow.ensures.narrows;
}

pub returns-clause-narrows : goal.returns-clause-narrows
returns-clause-narrows c = narrows_all option_value_allows c.args.option_values.now c.loop-option_value.option_value-index c.args.spans.now c.loop-option_value.spans (omega arith) c.loop-option_value.invariant.narrows
