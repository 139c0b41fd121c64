use Rattle.std.proofs.Common.{sym, subst, map, List}
use Rattle.classify.specs.Classifier.{IsClassifierOfRules}
use Rattle.table.specs.steps.StoredChains.{rule_in, AreEdges}
use Rattle.table.specs.declared.chain.entry.Entry.{Entry}
use Rattle.table.proofs.laws.edits.RetargetLaws.{retargeted_classified}
use Rattle.table.proofs.laws.edits.RenameLaws.{edges_retargeted}
use Rattle.table.proofs.chain.Chain.retarget.Goals as goal

pub invariant_of-self : goal.invariant_of-self
invariant_of-self c =
    let P : List Entry → Type 0 = λ es. IsClassifierOfRules (map rule_in es) c.self.inside.classifier.shown × AreEdges es c.self.inside.edges.items in
    subst P (sym c.retarget.ensures) (
      retargeted_classified c.targets_leave_the_classifier.ensures.same c.args.key c.args.name.now c.self.inside.entries.items c.self.inside.classifier.shown c.self.invariant.0,
      edges_retargeted c.args.key c.args.name.now c.self.inside.entries.items c.self.inside.edges.items c.self.invariant.1,
    )

pub returns-clause-classified : goal.returns-clause-classified
returns-clause-classified c = (invariant_of-self c).0
