use Rattle.restore.proofs.laws.listings.RoundTripLaws.{commits_as_equal, restores_as_equal}
use Rattle.restore.proofs.round_trip.listings_restore.Goals as goal

pub returns-clause-restores : goal.returns-clause-restores
returns-clause-restores c = restores_as_equal c.lines_of_rules_read_back.ensures c.tables_are_made_by_edits.ensures

pub returns-clause-commits : goal.returns-clause-commits
returns-clause-commits c = commits_as_equal c.lines_of_rules_read_back.ensures c.tables_are_made_by_edits.ensures
