use Rattle.fields.proofs.laws.values.RejectLaws.{named}
use Rattle.fields.proofs.values.reject.RejectType.read.Goals as goal

pub returns-clause-sound : goal.returns-clause-sound
returns-clause-sound c = named c.args.text.now c.named.result c.named.ensures
