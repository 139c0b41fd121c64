use Rattle.std.proofs.Common.{ap, subst, sym, List, ℕ}
use Rattle.std.proofs.Math.ListN.{set}
use Rattle.bits.specs.steps.Packing.{all_bits}
use Rattle.bits.specs.steps.Summaries.{IsSummaryOf}
use Rattle.bits.proofs.laws.WordMoveLaws.{taken_in, taken_summed}
use Rattle.bits.proofs.row_move.take_words_in.Goals as goal

pub returns-clause-taken : goal.returns-clause-taken
returns-clause-taken c = taken_in c.args.words.now _ c.requires.two (ap (λ (ws : List ℕ). set (set ws 0 0) 1 0) c.copy_within.ensures.after)

pub returns-clause-summed : goal.returns-clause-summed
returns-clause-summed c =
    let us : List ℕ = set (set c.copy_within.new.self 0 0) 1 0 in
    let P : ℕ → Type 0 = λ s. IsSummaryOf s (all_bits us) in
    subst P (sym c.rotate_left.ensures)
    (taken_summed c.args.summary.now c.args.words.now us c.requires.two (taken_in c.args.words.now us c.requires.two (ap (λ (ws : List ℕ). set (set ws 0 0) 1 0) c.copy_within.ensures.after)) c.requires.summed)
