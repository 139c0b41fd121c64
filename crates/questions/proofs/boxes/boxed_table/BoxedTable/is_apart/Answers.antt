use Rattle.std.proofs.Common.{◌-◌, get_or}
use Rattle.rules.specs.rule.Rules.{empty_rule}
use Rattle.table.specs.chains.Table.{chain_at}
use Rattle.questions.proofs.laws.AreaLaws.{apart_of}
use Rattle.questions.proofs.laws.PartLaws.{allowed_of}
use Rattle.questions.proofs.boxes.boxed_table.BoxedTable.is_apart.Goals as goal

pub returns-clause-none : goal.returns-clause-none
returns-clause-none c = λ is.
    apart_of (get_or (chain_at c.args.self.now.table.table c.args.place).rules (c.args.number - 1) empty_rule) c.args.area.now c.own_at.result.now c.own_at.ensures (c.is_apart.ensures.none is)

pub returns-clause-some : goal.returns-clause-some
returns-clause-some c = λ off some. allowed_of (get_or (chain_at c.args.self.now.table.table c.args.place).rules (c.args.number - 1) empty_rule) c.args.area.now c.own_at.result.now c.own_at.ensures (c.is_apart.ensures.some off some)
