use Rattle.rules.specs.rule.Crossing.{cross}
use Rattle.rules.proofs.laws.printing.RoundTripLaws.{renamed_reads}
use Rattle.rules.proofs.rule.Rule.rename_target.Goals as goal

pub invariant_of-self : goal.invariant_of-self
invariant_of-self c = rw c.rename.ensures (renamed_reads c.args.name.now c.self.inside.kept c.bytes-name.ensures.reads_back c.self.invariant)

pub invariant_of-self-inside : goal.invariant_of-self-inside
unfolding cross
invariant_of-self-inside c = rw c.rename.ensures (c.self.inside.asked, tt)
