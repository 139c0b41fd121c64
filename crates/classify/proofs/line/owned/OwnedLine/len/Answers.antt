use Rattle.std.proofs.Common.{◌∙◌, sym}
use Rattle.classify.proofs.laws.line.PieceLaws.{kept_long}
use Rattle.classify.proofs.line.owned.OwnedLine.len.Goals as goal

pub returns : goal.returns
returns c = c.count.ensures ∙ c.self.invariant ∙ sym (kept_long _ _ _ _ _ c.self.invariant c.self.view_is)
