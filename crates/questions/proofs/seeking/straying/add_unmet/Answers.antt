use Rattle.std.proofs.Common.{◌+◌, IsTrue, arith}
use Rattle.fields.specs.Packet.{PacketView as Packet}
use Rattle.questions.specs.Foreign.{Assignment, all_hold}
use Rattle.questions.proofs.laws.AnswerLaws.{one_holds}
use Rattle.questions.proofs.laws.SeekLaws.{HoldBelow, all_below, parts_none, parts_then, parts_weaker}
use Rattle.questions.proofs.seeking.straying.add_unmet.Goals as goal

pub loop-need-init : goal.loop-need-init
loop-need-init c = parts_none (HoldBelow c.args.needs.now 0) c.args.scope.now c.args.scopes.now.items (λ a p at here k d lt. absurd (omega (arith, lt)))

pub loop-need-preserved : goal.loop-need-preserved
loop-need-preserved c =
    let needs = c.args.needs.now in
    let i = c.loop-need.need-index in
    parts_then c.args.scope.now (HoldBelow needs i) _ (HoldBelow needs (i + 1)) c.args.scopes.now.items c.loop-need.scopes.items c.add_failing.new.scopes.items
    (λ a p below here. one_holds a needs i _ c.loop-need-test.true below here) c.loop-need.invariant c.in_ok-add_failing.ensures

pub returns : goal.returns
returns c =
    let needs = c.args.needs.now in
    parts_weaker c.args.scope.now (HoldBelow needs c.loop-need.need-index) (λ (a : Assignment) (p : Packet). IsTrue (all_hold a needs)) c.args.scopes.now.items c.loop-need.scopes.items
    (λ a p at below. all_below needs c.loop-need.need-index c.loop-need-test.false a p below) c.loop-need.invariant
