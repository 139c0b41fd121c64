use Rattle.std.proofs.Common.{ap, subst, sym, length, List, ℕ, ◌-◌, ◌+◌, refl}
use Rattle.std.proofs.Math.ListN.{set}
use Rattle.bits.specs.steps.Packing.{all_bits}
use Rattle.bits.specs.steps.Summaries.{IsSummaryOf}
use Rattle.bits.proofs.laws.WordMoveLaws.{given_up, given_summed}
use Rattle.bits.proofs.row_move.give_words_up.Goals as goal

pub returns-clause-given : goal.returns-clause-given
returns-clause-given c =
    let rest : ℕ = length c.args.words.now - 2 in
    given_up c.args.words.now _ rest (rest + 2) c.requires.two refl refl (ap (λ (ws : List ℕ). set (set ws rest 0) (rest + 1) 0) c.copy_within.ensures.after)

pub returns-clause-summed : goal.returns-clause-summed
returns-clause-summed c =
    let rest : ℕ = length c.args.words.now - 2 in
    let us : List ℕ = set (set c.copy_within.new.self rest 0) (rest + 1) 0 in
    let P : ℕ → Type 0 = λ s. IsSummaryOf s (all_bits us) in
    subst P (sym c.rotate_right.ensures)
    (given_summed c.args.summary.now c.args.words.now us c.requires.two
    (given_up c.args.words.now us rest (rest + 2) c.requires.two refl refl (ap (λ (ws : List ℕ). set (set ws rest 0) (rest + 1) 0) c.copy_within.ensures.after)) c.requires.summed)
