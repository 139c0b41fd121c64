use Rattle.std.proofs.Common.{◌++◌, codes, flat_map, refl}
use Rattle.fields.proofs.laws.text.PutLaws.{puts-after, stops-in}
use Rattle.restore.specs.Listing.{chain_line, rule_lines}
use Rattle.restore.proofs.listing.write_listing.Goals as goal

pub returns-in_err-put : goal.returns-in_err-put
returns-in_err-put g c =
    let t = c.args.table.now.table in let chains = flat_map (chain_line t) t.chains in let rules = flat_map rule_lines t.chains in
    record {
      restores = c.listings_restore.ensures.restores t c.stands.ensures.sound;
      puts = stops-in _ _ _ _ _ (codes "*filter\n") (chains ++ (rules ++ codes "COMMIT\n")) refl c.from_residual.ensures.0 c.in_err-put.ensures.puts;
    }

pub returns-in_err-put_chain_lines : goal.returns-in_err-put_chain_lines
returns-in_err-put_chain_lines g c =
    let t = c.args.table.now.table in let chains = flat_map (chain_line t) t.chains in let rules = flat_map rule_lines t.chains in
    record {
      restores = c.listings_restore.ensures.restores t c.stands.ensures.sound;
      puts = puts-after _ _ _ _ _ _ (codes "*filter\n") (chains ++ (rules ++ codes "COMMIT\n")) refl c.in_ok-put.ensures.puts
          (stops-in _ _ _ _ _ chains (rules ++ codes "COMMIT\n") refl c.from_residual-in_err-put_chain_lines.ensures.0 c.in_err-put_chain_lines.ensures);
    }

pub returns-in_err-put_all_rules : goal.returns-in_err-put_all_rules
returns-in_err-put_all_rules g c =
    let t = c.args.table.now.table in let chains = flat_map (chain_line t) t.chains in let rules = flat_map rule_lines t.chains in
    record {
      restores = c.listings_restore.ensures.restores t c.stands.ensures.sound;
      puts = puts-after _ _ _ _ _ _ (codes "*filter\n") (chains ++ (rules ++ codes "COMMIT\n")) refl c.in_ok-put.ensures.puts
          (puts-after _ _ _ _ _ _ chains (rules ++ codes "COMMIT\n") refl c.in_ok-put_chain_lines.ensures
          (stops-in _ _ _ _ _ rules (codes "COMMIT\n") refl c.from_residual-in_err-put_all_rules.ensures.0 c.in_err-put_all_rules.ensures));
    }

pub returns : goal.returns
returns g c =
    let t = c.args.table.now.table in let chains = flat_map (chain_line t) t.chains in let rules = flat_map rule_lines t.chains in
    record {
      restores = c.listings_restore.ensures.restores t c.stands.ensures.sound;
      puts = puts-after _ _ _ _ _ _ (codes "*filter\n") (chains ++ (rules ++ codes "COMMIT\n")) refl c.in_ok-put.ensures.puts
          (puts-after _ _ _ _ _ _ chains (rules ++ codes "COMMIT\n") refl c.in_ok-put_chain_lines.ensures
          (puts-after _ _ _ _ _ _ rules (codes "COMMIT\n") refl c.in_ok-put_all_rules.ensures c.put-2.ensures.puts));
    }
