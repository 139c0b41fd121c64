use Rattle.std.proofs.Common.{arith}
use Rattle.rules.specs.rule.Allows.{match_allows}
use Rattle.rules.specs.steps.Views.{view_match}
use Rattle.rules.proofs.laws.BoxLaws.{narrows_next, narrows_all, narrows_viewed}
use Rattle.rules.proofs.boxing.boxed.narrow_matches.Goals as goal

pub loop-one-preserved : goal.loop-one-preserved
loop-one-preserved c = record {
  boxed = c.narrow_match.ensures.boxed;
  narrows =
      narrows_next (λ f x m. match_allows f x (view_match m)) c.args.matches.now c.loop-one.one-index c.one-item.result c.args.spans.now c.loop-one.spans c.narrow_match.new.spans (omega arith) c.one-item.is
      c.loop-one.invariant.narrows c.in_ok-narrow_match.ensures.narrows;
}

pub returns-clause-narrows : goal.returns-clause-narrows
returns-clause-narrows c =
    narrows_viewed c.args.matches.now c.args.spans.now c.loop-one.spans
    (narrows_all (λ f x m. match_allows f x (view_match m)) c.args.matches.now c.loop-one.one-index c.args.spans.now c.loop-one.spans (omega arith) c.loop-one.invariant.narrows)
