use Rattle.notation.proofs.PartLaws.{first-part, rest-parts}
use Rattle.notation.proofs.SetTextLaws.{one-text, no-text}
use Rattle.notation.proofs.sets.list_text.Goals as goal

pub range_text-requires : goal.range_text-requires
range_text-requires c = first-part c.args.field c.args.spans.now c.in-Some.first.now c.in-Some.rest.now c.in-Some.ensures.cases.0 c.requires

pub add_ranges-requires : goal.add_ranges-requires
add_ranges-requires c = rest-parts c.args.field c.args.spans.now c.in-Some.first.now c.in-Some.rest.now c.in-Some.ensures.cases.0 c.requires

pub returns : goal.returns
returns c =
    one-text c.args.field c.args.spans.now c.in-Some.first.now c.in-Some.rest.now c.in_ok-list.list.items c.add_ranges.new.list.items
    c.in-Some.ensures.cases.0 c.in_ok-list.ensures c.in_ok-add_ranges.ensures

pub returns-in_default : goal.returns-in_default
returns-in_default c = no-text c.args.field c.args.spans.now c.new.result.items c.in_default.ensures.cases c.new.ensures.items
