use Rattle.std.proofs.Common.{◌≡◌, ◌<◌, ◌+◌, ◌∙◌, sym, ap, arith, length, map, refl, subst, take, Bool, List, ℕ}
use Rattle.bits.specs.Rows.{RowsAndRoom, IsRunWritten}
use Rattle.bits.specs.steps.Held.{bits_in, AreHeld, AreWritten}
use Rattle.bits.specs.steps.Summaries.{AreSummaries}
use Rattle.bits.proofs.laws.HeldLaws.{place_below, all_written}
use Rattle.bits.proofs.laws.RowsLaws.{row_there}
use Rattle.bits.proofs.laws.RunLaws.{IsRun, run_apart, run_below, run_from, run_held, run_written}
use Rattle.bits.proofs.laws.SlotWordsLaws.{kept_as_wide}
use Rattle.bits.proofs.laws.SummaryLaws.{summed_again}
use Rattle.bits.proofs.rows.Rows.set_part.Goals.{After-min, After-write_each}
use Rattle.bits.proofs.rows.Rows.set_part.Goals as goal

place : (c : After-min) → c.args.at < c.self.inside.len
place c = place_below _ _ c.args.at _ _ c.args.self.now c.self.invariant.0 c.self.view_is (omega (arith, c.requires.order, c.requires.within)) c.requires.place

-- the slots that are written
run : (c : After-min) → IsRun c.self.inside.slots c.args.from (take c.min.result c.run-run.result.now)
run c =
    let there : c.args.from < length c.self.inside.slots = row_there _ _ _ _ c.args.self.now c.args.from c.self.view_is (omega (arith, c.requires.order, c.requires.within)) in
    run_from c.self.inside.slots c.args.from c.min.result c.run-run.result.now (take c.min.result c.run-run.result.now) (omega (arith, there)) c.run-run.ensures.part refl

-- what is written there
written : (c : After-write_each)
    → AreWritten c.args.at c.args.bit c.self.inside.words.width (length c.self.inside.slots) (length (take c.min.result c.run-run.result.now)) (take c.min.result c.run-run.result.now) c.self.inside.words.words c.write_each.new.words.words
written c =
    let slots : List ℕ = take c.min.result c.run-run.result.now in
    let count : length c.as_mut_slice.result.now ≡ length c.self.inside.slots = ap (λ (ss : List ℕ). length ss) c.as_mut_slice.ensures.value ∙ c.self.invariant.1.counted in
    let P : ℕ → Type 0 = λ n. AreWritten c.args.at c.args.bit c.self.inside.words.width n (length slots) slots c.self.inside.words.words c.write_each.new.words.words in
    subst P count c.write_each.ensures.written

pub write_each-requires-clause-place : goal.write_each-requires-clause-place
write_each-requires-clause-place c = omega (arith, place (goal.at.write_each-requires-clause-place c).After-min, c.self.invariant.0.covers)

pub write_each-requires-clause-below : goal.write_each-requires-clause-below
write_each-requires-clause-below c = λ k lt.
    omega (
      arith,
      run_below _ _ _ _ _ _ k c.self.invariant.0 (run (goal.at.write_each-requires-clause-below c).After-min) lt,
      ap (λ (ss : List ℕ). length ss) c.as_mut_slice.ensures.value,
      c.self.invariant.1.counted,
    )

pub write_each-requires-clause-apart : goal.write_each-requires-clause-apart
write_each-requires-clause-apart c = λ j k less lt. run_apart _ _ _ _ _ _ j k c.self.invariant.0 (run (goal.at.write_each-requires-clause-apart c).After-min) less lt

pub invariant_of-self : goal.invariant_of-self
invariant_of-self c =
    let at = goal.at.invariant_of-self c in
    let summaries = all_written c.self.inside.summaries.len c.write_each.new.summaries c.self.inside.summaries.items (c.write_each.auto.summaries ∙ c.as_mut_slice.ensures.len) in
    let count : length c.as_mut_slice.result.now ≡ length c.self.inside.summaries.items = ap (λ (ss : List ℕ). length ss) c.as_mut_slice.ensures.value in
    let w : ℕ = c.write_each.new.words.width in
    let ws : List ℕ = c.write_each.new.words.words in
    let P : List ℕ → Type 0 = λ ss. AreHeld c.self.inside.len w c.self.inside.slots ws × AreSummaries w ss ws (length c.self.inside.slots) × (c.write_each.new.words.count ≡ length c.self.inside.slots) in
    subst P (sym summaries)
    (kept_as_wide _ _ _ _ _ c.write_each.ensures.as_many.width (c.write_each.ensures.as_many.count ∙ c.self.invariant.2)
    (run_held _ _ c.args.at c.args.bit _ _ _ _ c.self.invariant.0 (place at.After-min) (written at.After-write_each))
    (summed_again _ _ _ _ _ _ c.self.invariant.1 (c.write_each.ensures.counted ∙ count) (λ slot lt. c.write_each.ensures.summed slot (omega (arith, lt, count)))))

pub returns-clause-rows : goal.returns-clause-rows
returns-clause-rows c =
    let at = goal.at.returns-clause-rows c in
    let slots : List ℕ = take c.min.result c.run-run.result.now in
    let f : ℕ → ℕ → List Bool = λ w. bits_in c.self.inside.len w c.write_each.new.words.words in
    let P : ℕ → Type 0 = λ w. IsRunWritten c.args.at c.args.bit c.args.from (c.args.from + length slots) c.args.self.now.rows (map (f w) c.self.inside.slots) in
    let Q : RowsAndRoom → Type 0 = λ r. IsRunWritten c.args.at c.args.bit c.args.from (c.args.from + length slots) r.rows (map (f c.self.inside.words.width) c.self.inside.slots) in
    subst P (sym c.write_each.ensures.as_many.width)
    (subst Q c.self.view_is (run_written _ _ c.args.at c.args.bit _ _ _ c.args.from slots c.self.invariant.0 (place at.After-min) (run at.After-min) (written at.After-write_each)))
