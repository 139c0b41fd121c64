use Rattle.std.proofs.Common.{arith, rules}
use Rattle.std.proofs.lemmas.Fmt.{length-decimal-le}
use Rattle.fields.proofs.values.prefix.write_address.Goals as goal

pub write_digits-requires : goal.write_digits-requires
write_digits-requires c = (omega (arith, length-decimal-le 3 c.from.result (omega arith) (omega arith) (omega arith)), search rules)

pub returns-clause-near : goal.returns-clause-near
returns-clause-near c = omega (arith, length-decimal-le 3 c.from.result (omega arith) (omega arith) (omega arith))
