use Rattle.std.proofs.Common.{◌<◌, ◌∙◌, sym, ap, arith, length, get_or, false, List, Bool}
use Rattle.classify.proofs.laws.line.PieceLaws.{kept_long, kept_row}
use Rattle.classify.proofs.laws.line.KeptLaws.{row_long}
use Rattle.classify.proofs.line.owned.OwnedLine.get.Goals as goal

pub get-requires-clause-row : goal.get-requires-clause-row
get-requires-clause-row c = omega (arith, c.self.invariant, kept_long _ _ _ _ _ c.self.invariant c.self.view_is, c.requires.piece)

pub get-requires-clause-place : goal.get-requires-clause-place
get-requires-clause-place c =
    let lt : c.args.k < length c.self.inside.starts = omega (arith, kept_long _ _ _ _ _ c.self.invariant c.self.view_is, c.requires.piece) in
    omega (arith, c.requires.place, row_long c.args.self.now c.args.k c.requires.piece, ap (λ (row : List Bool). length row) (kept_row _ _ _ _ _ c.args.k c.self.invariant c.self.view_is lt))

pub returns : goal.returns
returns c =
    let lt : c.args.k < length c.self.inside.starts = omega (arith, kept_long _ _ _ _ _ c.self.invariant c.self.view_is, c.requires.piece) in
    c.get.ensures ∙ ap (λ (row : List Bool). get_or row c.args.at false) (sym (kept_row _ _ _ _ _ c.args.k c.self.invariant c.self.view_is lt))
