use Rattle.std.proofs.Common.{◌<◌, ◌-◌, ◌∙◌, sym, ap, arith, length, get_or, false, List, Bool}
use Rattle.classify.proofs.laws.line.PieceLaws.{each_row_kept, kept_long, kept_row}
use Rattle.classify.proofs.laws.line.KeptLaws.{row_long}
use Rattle.classify.proofs.line.owned.OwnedLine.run_start.Goals as goal

pub run_start-requires-clause-row : goal.run_start-requires-clause-row
run_start-requires-clause-row c = omega (arith, c.self.invariant, kept_long _ _ _ _ _ c.self.invariant c.self.view_is, c.requires.piece)

pub run_start-requires-clause-place : goal.run_start-requires-clause-place
run_start-requires-clause-place c =
    each_row_kept (λ row. c.args.at < length row) _ _ _ _ c.args.self.now c.self.invariant c.self.view_is (λ k lt. omega (arith, row_long c.args.self.now k lt, c.requires.place))

pub returns-clause-alike : goal.returns-clause-alike
returns-clause-alike c j low high =
    let n = kept_long _ _ _ _ _ c.self.invariant c.self.view_is in
    let bit : List Bool → Bool = λ row. get_or row c.args.at false in
    ap bit (kept_row _ _ _ _ _ j c.self.invariant c.self.view_is (omega (arith, n, c.requires.piece, high))) ∙ c.run_start.ensures.alike j (omega (arith, low, c.run_start.ensures.within)) high
    ∙ sym (ap bit (kept_row _ _ _ _ _ c.args.k c.self.invariant c.self.view_is (omega (arith, n, c.requires.piece))))

pub returns-clause-first : goal.returns-clause-first
returns-clause-first c more same =
    let n = kept_long _ _ _ _ _ c.self.invariant c.self.view_is in
    let bit : List Bool → Bool = λ row. get_or row c.args.at false in
    c.run_start.ensures.first more
    (sym (ap bit (kept_row _ _ _ _ _ (c.run_start.result - 1) c.self.invariant c.self.view_is (omega (arith, n, c.requires.piece, c.run_start.ensures.within)))) ∙ same
    ∙ ap bit (kept_row _ _ _ _ _ c.args.k c.self.invariant c.self.view_is (omega (arith, n, c.requires.piece))))
