use Rattle.std.proofs.Common.{◌≡◌, sym, ap, subst}
use Rattle.fields.specs.Packet.{PacketView as Packet}
use Rattle.questions.specs.boxes.Boxes.{IsIn}
use Rattle.questions.specs.steps.Sampled.{HasNone, IsChosen, packet_with}
use Rattle.questions.proofs.laws.ChoiceLaws.{written_can}
use Rattle.questions.proofs.sampling.sample.sample_of.Goals as goal

pub returns-in_default : goal.returns-in_default
returns-in_default c =
    let none : HasNone c.args.hook c.args.area.now = rw c.in_default.is at c.numbers_in.ensures in
    λ p writes there inside. none p (written_can p writes) there inside

pub read-requires : goal.read-requires
read-requires c = (packet_with c.args.hook c.in-Some.numbers, rw c.as_slice.ensures.value c.in_ok-line.ensures)

pub returns : goal.returns
returns c =
    let p : Packet = packet_with c.args.hook c.in-Some.numbers in
    let chosen : IsChosen c.args.hook c.args.area.now c.in-Some.numbers = rw c.in-Some.is at c.numbers_in.ensures in
    let same : c.in_ok-sample.sample.packet ≡ p = c.in_ok-sample.ensures.same p (rw c.as_slice.ensures.value c.in_ok-line.ensures) in
    let In : Packet → Type 0 = λ (q : Packet). IsIn c.args.area.now q in
    record { writes = c.in_ok-sample.ensures.written; there = ap (λ (q : Packet). q.hook) same; inside = subst In (sym same) chosen.inside }
