use Rattle.std.proofs.Common.{◌++◌, codes, refl}
use Rattle.fields.proofs.laws.text.PutLaws.{puts-after, stops-in}
use Rattle.rules.specs.Printing.{rule_text}
use Rattle.restore.proofs.listing.put_rule_line.Goals as goal

pub returns-in_err-put : goal.returns-in_err-put
returns-in_err-put g c =
    stops-in _ _ _ _ _ (codes "-A ") (c.args.name.now ++ (rule_text c.args.rule.now ++ codes "\n")) refl c.from_residual.ensures.0 c.in_err-put.ensures.puts

pub returns-in_err-put-2 : goal.returns-in_err-put-2
returns-in_err-put-2 g c =
    let n = c.args.name.now in let t = rule_text c.args.rule.now in let e = codes "\n" in
    puts-after _ _ _ _ _ _ (codes "-A ") (n ++ (t ++ e)) refl c.in_ok-put.ensures.puts
    (stops-in _ _ _ _ _ n (t ++ e) refl c.from_residual-in_err-put-2.ensures.0 c.in_err-put-2.ensures.puts)

pub returns-in_err-write_rule : goal.returns-in_err-write_rule
returns-in_err-write_rule g c =
    let n = c.args.name.now in let t = rule_text c.args.rule.now in let e = codes "\n" in
    puts-after _ _ _ _ _ _ (codes "-A ") (n ++ (t ++ e)) refl c.in_ok-put.ensures.puts
    (puts-after _ _ _ _ _ _ n (t ++ e) refl c.in_ok-put-2.ensures.puts
    (stops-in _ _ _ _ _ t e refl c.from_residual-in_err-write_rule.ensures.0 c.in_err-write_rule.ensures.puts))

pub returns : goal.returns
returns g c =
    let n = c.args.name.now in let t = rule_text c.args.rule.now in let e = codes "\n" in
    puts-after _ _ _ _ _ _ (codes "-A ") (n ++ (t ++ e)) refl c.in_ok-put.ensures.puts
    (puts-after _ _ _ _ _ _ n (t ++ e) refl c.in_ok-put-2.ensures.puts
    (puts-after _ _ _ _ _ _ t e refl c.in_ok-write_rule.ensures.puts c.put-3.ensures.puts))
