use Rattle.std.proofs.Common.{◌∙◌}
use Rattle.restore.proofs.laws.listings.PlaceLaws.{policy_at}
use Rattle.restore.proofs.listing.policy_of.Goals as goal

pub returns : goal.returns
returns c = c.policy.ensures ∙ policy_at c.args.table.now.table c.args.place c.stands.ensures.sound c.requires
