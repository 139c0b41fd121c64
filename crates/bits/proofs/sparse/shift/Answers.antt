use Rattle.std.proofs.Common.{length, subst, ℕ}
use Rattle.bits.specs.steps.Packing.{all_bits}
use Rattle.bits.specs.steps.Summaries.{IsSummaryOf}
use Rattle.bits.proofs.laws.ShiftLaws.{full_sums_up, blank_shifts}
use Rattle.bits.proofs.sparse.shift.Goals as goal

pub returns-then-is_dense-clause-summed : goal.returns-then-is_dense-clause-summed
returns-then-is_dense-clause-summed c = full_sums_up c.kept.result (length c.args.words.now) c.shift_dense.new.words c.shift_dense.auto.words c.kept.ensures

pub returns-then-summary-eq0-clause-shifted : goal.returns-then-summary-eq0-clause-shifted
returns-then-summary-eq0-clause-shifted c =
    let S : ℕ → Type 0 = λ summary. IsSummaryOf summary (all_bits c.args.words.now) in
    blank_shifts c.args.way c.args.at c.args.words.now c.requires.place (subst S c.if-summary-eq0.true c.requires.summed)
