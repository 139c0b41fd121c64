use Rattle.std.proofs.Common.{ℕ, List, subst, sym}
use Rattle.fields.specs.text.Tap.{Wrote}
use Rattle.fields.proofs.laws.text.PutLaws.{puts-after, stops-in, wrote-nothing}
use Rattle.table.specs.chains.Table.{chain_at}
use Rattle.restore.specs.Listing.{head_line, rule_lines}
use Rattle.restore.proofs.laws.listings.PlaceLaws.{listing_of_none, listing_of_one}
use Rattle.restore.proofs.listing.put_rules_of.Goals as goal

pub returns-in_default : goal.returns-in_default
returns-in_default g c =
    let nothing = listing_of_none c.args.table.now.table c.args.name.now (sym c.in_default.ensures) in
    subst (λ (text : List ℕ). Wrote g.W.Write.contents c.args.output.now c.args.output.now text) (sym nothing) (wrote-nothing c.requires)

pub returns-in_err-put_head : goal.returns-in_err-put_head
returns-in_err-put_head g c =
    let t = c.args.table.now.table in let place = c.in-Some.place in let one = chain_at t place in
    let parts = listing_of_one t c.args.name.now place c.stands.ensures.sound (sym c.in-Some.ensures) in
    stops-in _ _ _ _ _ (head_line t one) (rule_lines one) parts c.from_residual.ensures.0 c.in_err-put_head.ensures

pub returns : goal.returns
returns g c =
    let t = c.args.table.now.table in let place = c.in-Some.place in let one = chain_at t place in
    let parts = listing_of_one t c.args.name.now place c.stands.ensures.sound (sym c.in-Some.ensures) in
    puts-after _ _ _ _ _ _ (head_line t one) (rule_lines one) parts c.in_ok-put_head.ensures c.put_rules.ensures
