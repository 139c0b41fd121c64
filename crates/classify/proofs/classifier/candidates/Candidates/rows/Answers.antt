use Rattle.std.proofs.Common.{◌∙◌, length, take}
use Rattle.classify.proofs.laws.search.CandidateLaws.{lent_are, lent_show}
use Rattle.classify.proofs.classifier.candidates.Candidates.rows.Goals as goal

pub invariant_of-result : goal.invariant_of-result
invariant_of-result c = (
  c.self.invariant.1.few,
  lent_are c.self.inside.len c.self.inside.lines.now c.self.inside.others.now c.self.inside.places c.margin.result c.index-self-0.result (take (length c.self.inside.others.now) c.lend-summary.new.rows) c.lend-summary.result c.self.invariant.0 c.self.invariant.1 c.margin.ensures c.lend-summary.ensures.rows c.lend-summary.ensures.summed,
)

pub returns : goal.returns
returns c = lent_show c.self.inside.len c.self.inside.lines.now c.self.inside.others.now c.self.inside.places c.margin.result c.index-self-0.result (take (length c.self.inside.others.now) c.lend-summary.new.rows) c.lend-summary.result c.self.invariant.0 c.self.invariant.1 c.margin.ensures c.lend-summary.ensures.rows ∙ c.self.view_is
