use Rattle.questions.proofs.laws.BoxesLaws.{box_there, rule_there}
use Rattle.questions.proofs.boxes.boxed_table.BoxedTable.own_at.Goals as goal

pub index-requires-2 : goal.index-requires-2
index-requires-2 c = rule_there c.args.self.now.table.table c.args.self.now.chains.items c.args.self.now.boxes c.args.place c.args.number c.requires.place c.requires.first c.requires.last c.index.result.now c.index.ensures

pub returns : goal.returns
returns c =
    box_there c.args.self.now.table.table c.args.self.now.chains.items c.args.self.now.boxes c.args.place c.args.number c.requires.place c.requires.first c.requires.last c.index.result.now c.index-2.result.now c.index.ensures c.index-2.ensures
