use Rattle.std.proofs.Common.{◌∙◌, sym}
use Rattle.table.proofs.laws.walk.TableWalkLaws.{place_under, step_there}
use Rattle.table.proofs.parts.Parts.step_before.Goals as goal

pub unreachable-requires : goal.unreachable-requires
unreachable-requires c =
    place_under c.args.self.now.policies c.args.self.now.chains.slots c.args.self.now.order.items c.args.at.chain c.index-chain.result.now c.bytes.result.now c.requires.kept c.requires.present c.index-chain.ensures
    (c.bytes.ensures.value ∙ c.name.ensures) (sym c.in-None.ensures.place)

pub returns-then-at-index-clause-shown : goal.returns-then-at-index-clause-shown
returns-then-at-index-clause-shown c =
    step_there c.args.self.now.policies c.args.self.now.chains.slots c.args.self.now.order.items c.args.hook c.index.result.now c.args.at c.requires.kept c.requires.hook c.if-at-index.true c.index.ensures

pub returns-then-at-index-2-clause-shown : goal.returns-then-at-index-2-clause-shown
returns-then-at-index-2-clause-shown c =
    step_there c.args.self.now.policies c.args.self.now.chains.slots c.args.self.now.order.items c.args.last c.index-2.result.now c.args.at c.requires.kept c.requires.last c.if-at-index-2.true c.index-2.ensures
