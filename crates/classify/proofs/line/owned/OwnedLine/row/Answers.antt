use Rattle.std.proofs.Common.{ℕ, ◌<◌, ◌≡◌, arith, length, take, List, Bool}
use Rattle.bits.specs.MarginRows.{after_margin}
use Rattle.bits.specs.TurnedRows.{turned}
use Rattle.bits.specs.steps.Packing.{IsPacked, all_bits}
use Rattle.bits.specs.steps.Summaries.{IsSummaryOf}
use Rattle.bits.specs.steps.StoredRows.{words_of}
use Rattle.classify.proofs.laws.line.PieceLaws.{kept_long, lent_row}
use Rattle.classify.proofs.line.owned.OwnedLine.row.Goals as goal

pub row-requires : goal.row-requires
row-requires c = omega (arith, c.self.invariant, kept_long _ _ _ _ _ c.self.invariant c.self.view_is, c.requires)

pub returns-clause-own : goal.returns-clause-own
returns-clause-own c =
    let lt : c.args.k < length c.self.inside.starts = omega (arith, kept_long _ _ _ _ _ c.self.invariant c.self.view_is, c.requires) in
    let P : ℕ → List Bool → Type 0 = λ m row. IsPacked (words_of c.row.result.own) (length (after_margin m row)) in
    lent_row P _ _ _ _ _ c.args.k c.self.invariant c.self.view_is lt c.row.ensures.own

pub returns-clause-turn : goal.returns-clause-turn
returns-clause-turn c =
    let lt : c.args.k < length c.self.inside.starts = omega (arith, kept_long _ _ _ _ _ c.self.invariant c.self.view_is, c.requires) in
    let P : ℕ → List Bool → Type 0 = λ m row. IsPacked (words_of c.row.result.turn) (length (after_margin m row)) in
    lent_row P _ _ _ _ _ c.args.k c.self.invariant c.self.view_is lt c.row.ensures.turn

pub returns-clause-bits : goal.returns-clause-bits
returns-clause-bits c =
    let lt : c.args.k < length c.self.inside.starts = omega (arith, kept_long _ _ _ _ _ c.self.invariant c.self.view_is, c.requires) in
    let P : ℕ → List Bool → Type 0 = λ m row. take (length (after_margin m row)) (turned (all_bits (words_of c.row.result.turn)) (all_bits (words_of c.row.result.own))) ≡ after_margin m row in
    lent_row P _ _ _ _ _ c.args.k c.self.invariant c.self.view_is lt c.row.ensures.bits

pub returns-clause-summed : goal.returns-clause-summed
returns-clause-summed c =
    let lt : c.args.k < length c.self.inside.starts = omega (arith, kept_long _ _ _ _ _ c.self.invariant c.self.view_is, c.requires) in
    let P : ℕ → List Bool → Type 0 = λ m row. IsSummaryOf c.row.result.summary (after_margin m row) in
    lent_row P _ _ _ _ _ c.args.k c.self.invariant c.self.view_is lt c.row.ensures.summed
