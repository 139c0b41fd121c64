use Rattle.table.proofs.laws.walk.CaseLaws.{walks_by_cases, walks_in_one_way}
use Rattle.table.proofs.headline.walks_go_by_their_cases.Goals as goal

pub returns : goal.returns
returns c = record { is = walks_by_cases; one = walks_in_one_way }
