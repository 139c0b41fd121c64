use Rattle.std.proofs.Common.{ap, arith, length, List}
use Rattle.table.specs.declared.chain.entry.Entry.{Entry}
use Rattle.table.proofs.laws.chains.CountLaws.{rules_few}
use Rattle.table.proofs.laws.chains.StoreLaws.{found}
use Rattle.table.proofs.laws.edits.EditLaws.{found_entries}
use Rattle.table.proofs.parts.Parts.count_at.Goals as goal

pub returns-clause-few : goal.returns-clause-few
returns-clause-few c =
    let slots = c.args.self.now.chains.slots in
    let order = c.args.self.now.order.items in
    let f = found c.args.self.now.policies slots order c.args.place c.index-key.result.now c.index.result.now c.requires.kept c.requires.place c.index-key.ensures c.index.ensures in
    omega (
      arith,
      rules_few c.args.self.now.policies slots order c.requires.kept c.args.place c.requires.place,
      c.len.ensures,
      ap (λ (es : List Entry). length es) (found_entries c.args.self.now.policies slots order c.args.place c.index-key.result.now c.index.result.now f),
    )
