use Rattle.std.proofs.Common.{◌+◌, ◌<◌, ◌∙◌, length, sym, ap, arith, List, Bool}
use Rattle.std.specs.List.{remove}
use Rattle.classify.proofs.laws.line.PieceLaws.{kept_long, kept_row}
use Rattle.classify.proofs.laws.line.KeptLaws.{row_long}
use Rattle.classify.proofs.line.owned.OwnedLine.is_same_beside.Goals as goal

pub overflow_add-k : goal.overflow_add-k
overflow_add-k c =
    omega (arith, c.count-pieces.ensures, c.self.invariant, kept_long _ _ _ _ _ c.self.invariant c.self.view_is, c.requires)

pub same_beside-requires-clause-one : goal.same_beside-requires-clause-one
same_beside-requires-clause-one c = omega (arith, c.self.invariant, kept_long _ _ _ _ _ c.self.invariant c.self.view_is, c.requires)

pub same_beside-requires-clause-other : goal.same_beside-requires-clause-other
same_beside-requires-clause-other c = omega (arith, c.self.invariant, kept_long _ _ _ _ _ c.self.invariant c.self.view_is, c.requires)

pub same_beside-requires-clause-place : goal.same_beside-requires-clause-place
same_beside-requires-clause-place c =
    let lt : c.args.k < length c.self.inside.starts = omega (arith, kept_long _ _ _ _ _ c.self.invariant c.self.view_is, c.requires) in
    omega (arith, c.requires.place, row_long c.args.self.now c.args.k (omega (arith, c.requires.piece)), ap (λ (row : List Bool). length row) (kept_row _ _ _ _ _ c.args.k c.self.invariant c.self.view_is lt))

pub returns : goal.returns
returns c =
    let n = kept_long _ _ _ _ _ c.self.invariant c.self.view_is in
    let out : List Bool → List Bool = λ row. remove row c.args.at in
    let one = ap out (kept_row _ _ _ _ _ c.args.k c.self.invariant c.self.view_is (omega (arith, n, c.requires))) in
    let other = ap out (kept_row _ _ _ _ _ (c.args.k + 1) c.self.invariant c.self.view_is (omega (arith, n, c.requires))) in
    (λ t. one ∙ c.same_beside.ensures.0 t ∙ sym other, λ e. c.same_beside.ensures.1 (sym one ∙ e ∙ other))
