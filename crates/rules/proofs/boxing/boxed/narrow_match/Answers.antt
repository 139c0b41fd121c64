use Rattle.rules.proofs.laws.BoxLaws.{narrows_match}
use Rattle.rules.proofs.boxing.boxed.narrow_match.Goals as goal

pub returns-clause-narrows : goal.returns-clause-narrows
returns-clause-narrows c =
    narrows_match c.args.one.now c.as_slice.result.now c.args.spans.now c.narrow_fragment.new.spans c.narrow_all.new.spans c.narrow_all.result c.as_slice.ensures.value
    c.in_ok-narrow_fragment.ensures.narrows c.narrow_all.ensures.narrows
