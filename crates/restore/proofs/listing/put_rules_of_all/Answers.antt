use Rattle.std.proofs.Common.{flat_map, refl}
use Rattle.fields.proofs.laws.text.PutLaws.{puts-after, stops-in}
use Rattle.restore.specs.Listing.{head_line, rule_lines}
use Rattle.restore.proofs.listing.put_rules_of_all.Goals as goal

pub returns-in_err-put_heads : goal.returns-in_err-put_heads
returns-in_err-put_heads g c =
    let t = c.args.table.now.table in
    stops-in _ _ _ _ _ (flat_map (head_line t) t.chains) (flat_map rule_lines t.chains) refl c.from_residual.ensures.0 c.in_err-put_heads.ensures

pub returns : goal.returns
returns g c =
    let t = c.args.table.now.table in
    puts-after _ _ _ _ _ _ (flat_map (head_line t) t.chains) (flat_map rule_lines t.chains) refl c.in_ok-put_heads.ensures c.put_all_rules.ensures
