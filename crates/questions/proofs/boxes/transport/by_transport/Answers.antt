use Rattle.std.proofs.Common.{◌<◌, length, arith}
use Rattle.questions.specs.steps.Transports.{IsWithTransport, all_transports}
use Rattle.questions.proofs.laws.BoxesLaws.{pair_none}
use Rattle.questions.proofs.laws.ExactLaws.{transport_next}
use Rattle.questions.proofs.boxes.transport.by_transport.Goals as goal

pub loop-transport-init : goal.loop-transport-init
loop-transport-init c = pair_none (λ transport own. IsWithTransport transport c.args.area.now own) all_transports c.new-boxes.result.items c.new-boxes.ensures.items

pub loop-transport-preserved : goal.loop-transport-preserved
loop-transport-preserved c =
    let lt : c.loop-transport.transport-index < length all_transports = omega (arith, c.loop-transport-test.true) in
    transport_next c.args.area.now c.in_ok-copy.field-0 c.in_ok-with_transport.field-0 c.loop-transport.boxes.items c.push.new.self.items c.loop-transport.transport-index lt c.in_ok-copy.ensures c.in_ok-push.ensures.items c.in_ok-with_transport.ensures c.loop-transport.invariant

pub returns : goal.returns
returns c = record {
  long = omega (arith, c.loop-transport.invariant.long, c.loop-transport-test.false);
  each = λ k transport b lt. c.loop-transport.invariant.each k transport b (omega (arith, lt, c.loop-transport-test.false));
}
