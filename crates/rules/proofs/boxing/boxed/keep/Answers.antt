use Rattle.std.proofs.Common.{sym, ◌∙◌}
use Rattle.rules.proofs.laws.BoxLaws.{box_with, top_on, narrows_met}
use Rattle.rules.proofs.boxing.boxed.keep.Goals as goal

pub met-requires : goal.met-requires
met-requires c = top_on c.args.spans.now c.requires.boxed c.args.asked.field c.index-place.result c.index-spans-place.result c.index-place.ensures.place ∙ sym c.requires.top

pub returns-clause-boxed : goal.returns-clause-boxed
returns-clause-boxed c =
    box_with c.args.spans.now c.args.asked.field c.index-place.result c.in_ok-both.both c.requires.boxed c.index-place.ensures.place
    (c.in_ok-both.ensures.top ∙ top_on c.args.spans.now c.requires.boxed c.args.asked.field c.index-place.result c.index-spans-place.result c.index-place.ensures.place)

pub returns-clause-narrows : goal.returns-clause-narrows
returns-clause-narrows c =
    narrows_met c.args.spans.now c.args.asked c.index-place.result c.index-spans-place.result c.in_ok-both.both c.requires.boxed c.index-place.ensures.place c.in_ok-both.ensures.members
