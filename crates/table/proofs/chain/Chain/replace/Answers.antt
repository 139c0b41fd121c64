use Rattle.std.proofs.Common.{length, sym, ap, arith, subst}
use Rattle.table.specs.steps.StoredChains.{AreEdges, StoredChain}
use Rattle.table.proofs.laws.chains.StoreLaws.{replaced}
use Rattle.table.proofs.laws.edits.EditLaws.{edges_replaced}
use Rattle.table.proofs.chain.Chain.replace.Goals as goal

pub invariant_of-self-2 : goal.invariant_of-self-2
invariant_of-self-2 c = (
  replaced c.self.inside.entries.items c.args.at c.args.entry c.self.inside.classifier.shown c.replace.new.self.shown c.self.invariant.0
      (c.in_ok-replace.ensures.rules c.args.entry.rule c.in_ok-boxed.ensures.boxed),
  edges_replaced c.self.inside.entries.items c.reserve.new.edges.items c.add.new.edges.items c.take_off.new.edges.items c.args.at c.args.entry c.index.result.now c.key-link.result c.key-before.result
      (subst (AreEdges c.self.inside.entries.items) (sym c.reserve.ensures.items) c.self.invariant.1) (omega (arith, c.requires, ap (λ (r : StoredChain). length r.entries) c.self.view_is)) c.key-link.ensures c.index.ensures c.key-before.ensures
      c.take_off.ensures.distinct c.add.ensures.counted c.take_off.ensures.counted,
)

pub returns-clause-classified : goal.returns-clause-classified
returns-clause-classified c = (invariant_of-self-2 c).0
