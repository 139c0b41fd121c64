use Rattle.std.proofs.Common.{◌∙◌, refl, sym}
use Rattle.table.proofs.laws.walk.TableWalkLaws.{asked_fails, asked_holds, asked_none}
use Rattle.table.proofs.chain.Chain.next_among.Goals as goal

pub returns-then-cross-clause-next : goal.returns-then-cross-clause-next
returns-then-cross-clause-next c =
    asked_holds c.args.packet.now.values _ c.args.self.now c.rows-rows.result c.self.view_is (c.rows-rows.ensures ∙ c.requires) c.loop-place.start c.in-Some.place c.index.result.now c.in-Some.ensures c.index.ensures c.if-cross.ensures
    ∙ sym c.loop-place.invariant

pub loop-place-preserved : goal.loop-place-preserved
loop-place-preserved c =
    c.loop-place.invariant
    ∙ asked_fails c.args.packet.now.values _ c.args.self.now c.rows-rows.result c.self.view_is (c.rows-rows.ensures ∙ c.requires) c.loop-place.start c.in-Some.place c.index.result.now c.in-Some.ensures c.index.ensures c.if-cross.ensures

pub returns-clause-next : goal.returns-clause-next
returns-clause-next c =
    asked_none c.args.packet.now.values c.args.self.now c.args.self.now c.rows-rows.result refl (c.rows-rows.ensures ∙ c.requires) c.loop-place.start c.in_default.ensures
    ∙ sym c.loop-place.invariant
