use Rattle.fields.proofs.laws.PacketLaws.{values_fit}
use Rattle.fields.proofs.packet.Packet.of_given.Goals as goal

pub invariant_of-result : goal.invariant_of-result
invariant_of-result c = values_fit c.args.hook c.args.given.now c.values_of-values.result c.requires c.values_of-values.ensures

pub returns-clause-valid : goal.returns-clause-valid
returns-clause-valid c = values_fit c.args.hook c.args.given.now c.values_of-values.result c.requires c.values_of-values.ensures
