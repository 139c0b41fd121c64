use Rattle.std.proofs.Common.{length, sym, ap, arith, subst, map, List}
use Rattle.classify.specs.Classifier.{IsClassifierOfRules}
use Rattle.table.specs.steps.StoredChains.{AreEdges, StoredChain, rule_in}
use Rattle.table.specs.declared.chain.entry.Entry.{Entry}
use Rattle.table.proofs.laws.chains.StoreLaws.{removed}
use Rattle.table.proofs.laws.edits.EditLaws.{edges_removed}
use Rattle.table.proofs.chain.Chain.remove.Goals as goal

pub invariant_of-self : goal.invariant_of-self
invariant_of-self c =
    let P : List Entry → Type 0 = λ es. IsClassifierOfRules (map rule_in es) c.remove.new.self.shown × AreEdges es c.take_off.new.edges.items in
    subst P (sym c.remove-2.ensures.items) (
      removed c.self.inside.entries.items c.args.at c.self.inside.classifier.shown c.remove.new.self.shown c.self.invariant.0 c.remove.ensures.rules,
      edges_removed c.self.inside.entries.items c.self.inside.edges.items c.take_off.new.edges.items c.args.at c.index.result.now c.key.result c.self.invariant.1
          (omega (arith, c.requires, ap (λ (r : StoredChain). length r.entries) c.self.view_is)) c.index.ensures c.key.ensures c.take_off.ensures.distinct c.take_off.ensures.counted,
    )

pub returns-clause-classified : goal.returns-clause-classified
returns-clause-classified c = (invariant_of-self c).0
