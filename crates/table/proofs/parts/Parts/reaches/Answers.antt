use Rattle.std.proofs.Common.{◌∙◌, sym, length}
use Rattle.std.proofs.lemmas.Bool.{eqb-true}
use Rattle.table.proofs.laws.SearchLaws.{same_leads, leads_nowhere}
use Rattle.table.proofs.parts.Parts.reaches.Goals as goal

pub returns-then-from-goal-clause-found : goal.returns-then-from-goal-clause-found
returns-then-from-goal-clause-found c =
    sym (same_leads c.args.self.now.policies c.args.self.now.chains.slots c.args.self.now.order.items c.args.from c.args.goal c.requires.kept c.if-from-goal.true)

pub returns-then-is_empty-clause-found : goal.returns-then-is_empty-clause-found
returns-then-is_empty-clause-found c =
    sym (leads_nowhere c.args.self.now.policies c.args.self.now.chains.slots c.args.self.now.order.items c.args.from c.args.goal c.index.result.now c.edges-edges.result.now c.requires.kept c.requires.from c.requires.goal c.if-from-goal.false c.index.ensures
    c.edges-edges.ensures (eqb-true (length c.edges-edges.result.now) 0 (sym c.is_empty.ensures ∙ c.if-is_empty.true)))
