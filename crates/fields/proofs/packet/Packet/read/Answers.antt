use Rattle.std.proofs.Common.{sym, ◌∙◌, arith}
use Rattle.fields.proofs.laws.PacketLaws.{packet_of_unknown, packet_of_hook}
use Rattle.fields.proofs.packet.Packet.read.Goals as goal

pub returns-in-None-clause-value : goal.returns-in-None-clause-value
returns-in-None-clause-value c = sym (packet_of_unknown c.args.words.now c.args.from c.get.result.now (omega arith) c.get.ensures.value c.in-None.ensures.value)

pub returns-in-Some-clause-value : goal.returns-in-Some-clause-value
returns-in-Some-clause-value c =
    c.after_hook.ensures.value ∙ sym (packet_of_hook c.args.words.now c.args.from c.get.result.now c.in-Some.hook (omega arith) c.get.ensures.value c.in-Some.ensures.value)
