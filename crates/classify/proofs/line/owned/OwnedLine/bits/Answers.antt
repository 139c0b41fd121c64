use Rattle.std.proofs.Common.{◌<◌, ◌∙◌, sym, ap, arith, length, List, Bool}
use Rattle.classify.proofs.laws.line.PieceLaws.{kept_long, kept_row}
use Rattle.classify.proofs.line.owned.OwnedLine.bits.Goals as goal

pub bits-requires : goal.bits-requires
bits-requires c = omega (arith, c.self.invariant, kept_long _ _ _ _ _ c.self.invariant c.self.view_is, c.requires)

pub returns : goal.returns
returns c =
    let lt : c.args.k < length c.self.inside.starts = omega (arith, kept_long _ _ _ _ _ c.self.invariant c.self.view_is, c.requires) in
    c.bits.ensures ∙ ap (λ (row : List Bool). length row) (sym (kept_row _ _ _ _ _ c.args.k c.self.invariant c.self.view_is lt))
