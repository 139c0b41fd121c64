use Rattle.std.proofs.Common.{◌∙◌, sym, ap, arith, List, ℕ}
use Rattle.std.specs.Prelude.{slice_index}
use Rattle.classify.proofs.laws.line.PieceLaws.{kept_long, kept_starts}
use Rattle.classify.proofs.line.owned.OwnedLine.start.Goals as goal

pub get-requires : goal.get-requires
get-requires c = omega (arith, kept_long _ _ _ _ _ c.self.invariant c.self.view_is, c.requires)

pub returns : goal.returns
returns c = c.get.ensures ∙ ap (λ (ss : List ℕ). slice_index ss c.args.k) (sym (kept_starts _ _ _ _ _ c.self.invariant c.self.view_is))
