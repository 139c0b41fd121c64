use Rattle.std.proofs.Common.{◌≡◌, true, sym, ◌∙◌}
use Rattle.rules.specs.options.Matches.{match_row}
use Rattle.rules.proofs.laws.BoxLaws.{narrows_fragment}
use Rattle.rules.proofs.boxing.boxed.narrow_fragment.Goals as goal

pub returns-clause-narrows : goal.returns-clause-narrows
returns-clause-narrows c =
    let asks : (match_row c.args.kind).asks_fragment ≡ true = sym c.row.ensures.asks_fragment ∙ c.if-not-row.false in
    narrows_fragment c.args.kind c.in_ok-set.set c.args.spans.now c.keep.new.spans c.keep.result asks c.in_ok-set.ensures.members c.keep.ensures.narrows
