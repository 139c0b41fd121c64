use Rattle.std.proofs.Common.{◌∙◌, ap, rules}
use Rattle.fields.proofs.laws.values.InterfaceLaws.{interval-closed}
use Rattle.notation.proofs.interfaces.pattern_range.Goals as goal

pub returns-else-is_open : goal.returns-else-is_open
returns-else-is_open c = ap (λ n. (n, n)) c.filled_value-value.ensures ∙ interval-closed c.args.pattern.now c.requires.reads (search rules)
