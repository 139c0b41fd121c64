use Rattle.std.proofs.Common.{◌∙◌, sym, refl}
use Rattle.table.proofs.laws.walk.TableWalkLaws.{asked_fails, asked_holds, asked_none}
use Rattle.table.proofs.chain.Chain.next.Goals as goal

pub returns-else-not-cross-clause-next : goal.returns-else-not-cross-clause-next
returns-else-not-cross-clause-next c =
    asked_holds c.args.packet.now.values _ c.args.self.now c.args.candidates.now c.self.view_is c.requires c.args.from c.in-Some.place c.index.result.now c.in-Some.ensures c.index.ensures (sym c.if-not-cross.false ∙ c.cross.ensures)

pub returns-then-not-cross-clause-next : goal.returns-then-not-cross-clause-next
returns-then-not-cross-clause-next c =
    c.next_among.ensures.next
    ∙ sym (asked_fails c.args.packet.now.values _ c.args.self.now c.args.candidates.now c.self.view_is c.requires c.args.from c.in-Some.place c.index.result.now c.in-Some.ensures c.index.ensures (sym c.if-not-cross.true ∙ c.cross.ensures))

pub returns-in-None-clause-next : goal.returns-in-None-clause-next
returns-in-None-clause-next c = asked_none c.args.packet.now.values c.args.self.now c.args.self.now c.args.candidates.now refl c.requires c.args.from c.in-None.ensures
