use Rattle.std.proofs.Common.{arith, ◌*◌, ◌+◌, ◌/◌}
use Rattle.classify.specs.steps.CommonPlaces.{HaveAll}
use Rattle.classify.proofs.laws.search.SearchLaws.{first_later}
use Rattle.classify.proofs.search.first_common.Goals as goal

pub returns-in-Some : goal.returns-in-Some
returns-in-Some c = let h = c.in-Some.ensures in (h.0, omega (arith, h.1), h.2, h.3)

pub returns-in-None : goal.returns-in-None
returns-in-None c = first_later (HaveAll c.args.rows.now) c.args.from (64 * (c.args.from / 64 + 1)) (64 * c.args.words) c.tail.result (omega arith) c.in-None.ensures c.tail.ensures
