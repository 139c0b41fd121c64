use Rattle.std.proofs.Common.{◌≡◌, true, arith, rules}
use Rattle.std.proofs.lemmas.List.Elements.{All-more}
use Rattle.fields.specs.text.Words.{is_bare}
use Rattle.fields.proofs.text.cutting.bare_len.Goals as goal

pub loop-i-preserved : goal.loop-i-preserved
loop-i-preserved c = All-more (λ byte. is_bare byte ≡ true) c.args.bytes.now c.loop-i.i 0 (omega arith) c.loop-i.invariant (search rules)
