use Rattle.std.proofs.Common.{sym}
use Rattle.classify.proofs.laws.line.EditLaws.{row_of_piece}
use Rattle.classify.specs.steps.Kept.{most_start}
use Rattle.classify.proofs.line.owned.OwnedLine.place_at.Goals as goal

pub returns-clause-here : goal.returns-clause-here
returns-clause-here c = sym (row_of_piece most_start c.args.x c.args.self.now.pieces c.place_of.result c.args.self.now.stands.rising c.place_of.ensures.within c.place_of.ensures.low c.place_of.ensures.high)
