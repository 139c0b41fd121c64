use Rattle.std.proofs.Common.{sym, ◌∙◌, ap, subst, map, List}
use Rattle.std.specs.List.{insert}
use Rattle.classify.specs.Classifier.{IsClassifierOfRules}
use Rattle.table.specs.steps.StoredChains.{AreEdges, rule_in}
use Rattle.table.specs.declared.chain.entry.Entry.{Entry}
use Rattle.table.proofs.laws.chains.StoreLaws.{inserted}
use Rattle.table.proofs.laws.edits.EditLaws.{edges_inserted}
use Rattle.table.proofs.chain.Chain.insert.Goals as goal

pub invariant_of-self-in-Ok : goal.invariant_of-self-in-Ok
invariant_of-self-in-Ok c =
    let P : List Entry → Type 0 = λ es. IsClassifierOfRules (map rule_in es) c.insert.new.self.shown × AreEdges es c.add.new.edges.items in
    subst P (sym (c.in-Ok.ensures.items ∙ ap (λ (es : List Entry). insert es c.args.at c.args.entry) c.reserve.ensures.items)) (
      inserted c.self.inside.entries.items c.args.at c.args.entry c.self.inside.classifier.shown c.insert.new.self.shown c.self.invariant.0
          (c.in_ok-insert.ensures.rules c.args.entry.rule c.in_ok-boxed.ensures.boxed),
      edges_inserted c.self.inside.entries.items c.reserve-2.new.edges.items c.add.new.edges.items c.args.at c.args.entry c.key-link.result
          (subst (AreEdges c.self.inside.entries.items) (sym c.reserve-2.ensures.items) c.self.invariant.1) c.key-link.ensures c.add.ensures.distinct c.add.ensures.counted,
    )

pub returns-in-Ok-clause-classified : goal.returns-in-Ok-clause-classified
returns-in-Ok-clause-classified c = (invariant_of-self-in-Ok c).0
