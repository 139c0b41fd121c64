use Rattle.std.proofs.Common.{◌≡◌, ◌<◌, ◌≤◌, ◌+◌, ◌-◌, ◌∙◌, inl, inr, sym, arith, length, get_or, false, [], ℕ}
use Rattle.std.proofs.lemmas.Bool.{cases_lt}
use Rattle.bits.specs.steps.Held.{words_in}
use Rattle.bits.specs.steps.Packing.{all_bits}
use Rattle.bits.proofs.laws.HeldLaws.{place_below}
use Rattle.bits.proofs.laws.RowsLaws.{row_there}
use Rattle.bits.proofs.laws.RunLaws.{IsRun, bit_lent, run_below, run_up_to}
use Rattle.bits.proofs.rows.Rows.run_start.Goals.{After-run_to-slots, After-alike_from-alike}
use Rattle.bits.proofs.rows.Rows.run_start.Goals as goal

place : (c : After-run_to-slots) → c.args.at < c.self.inside.len
place c = place_below _ _ c.args.at _ _ c.args.self.now c.self.invariant.0 c.self.view_is (omega (arith, c.requires.row)) c.requires.place

-- the slots that are asked
run : (c : After-run_to-slots) → IsRun c.self.inside.slots (c.loop-first.first - 1 + 1 - length c.run_to-slots.result.now) c.run_to-slots.result.now
run c =
    let there : c.args.row < length c.self.inside.slots = row_there _ _ _ _ c.args.self.now c.args.row c.self.view_is c.requires.row in
    run_up_to c.self.inside.slots (c.loop-first.first - 1 + 1) c.run_to-slots.result.now (omega (arith, there, c.loop-first.invariant.within, c.loop-first-test.true)) c.run_to-slots.ensures.within c.run_to-slots.ensures.part

-- the bit of a row whose slot is one of them
bit : (c : After-alike_from-alike) → IsRun c.self.inside.slots (c.loop-first.first - 1 + 1 - length c.run_to-slots.result.now) c.run_to-slots.result.now → c.args.at < c.self.inside.len
    → (k i : ℕ) → i < length c.run_to-slots.result.now → k + length c.run_to-slots.result.now ≡ c.loop-first.first + i
    → get_or (get_or c.args.self.now.rows k []) c.args.at false ≡ get_or (all_bits (words_in c.self.inside.words.width c.self.inside.words.words (get_or c.run_to-slots.result.now i 0))) c.args.at false
bit c r in' k i lt e =
    bit_lent _ _ c.args.at _ _ c.args.self.now _ c.run_to-slots.result.now k i c.self.view_is in' r lt (omega (arith, e, c.loop-first-test.true, c.run_to-slots.ensures.within))

-- so the rows from where those begin that are alike have the bit
alike : (c : After-alike_from-alike) → IsRun c.self.inside.slots (c.loop-first.first - 1 + 1 - length c.run_to-slots.result.now) c.run_to-slots.result.now → c.args.at < c.self.inside.len
    → (k : ℕ) → c.loop-first.first - (length c.run_to-slots.result.now - c.alike_from-alike.result) ≤ k → k ≤ c.args.row → get_or (get_or c.args.self.now.rows k []) c.args.at false ≡ c.get-bit.result
alike c r in' k low high =
    elim (cases_lt k c.loop-first.first) [
      | inl less ↦ (
          let i : ℕ = k + length c.run_to-slots.result.now - c.loop-first.first in
          let few : length c.run_to-slots.result.now ≤ c.loop-first.first = omega (arith, c.run_to-slots.ensures.within, c.loop-first-test.true) in
          let lt : i < length c.run_to-slots.result.now = omega (arith, less, c.run_to-slots.ensures.some) in
          let from : c.alike_from-alike.result ≤ i = omega (arith, low, less, few, c.alike_from-alike.ensures.few) in
          bit c r in' k i lt (omega (arith, low, few, less, c.alike_from-alike.ensures.few)) ∙ c.alike_from-alike.ensures.alike i from lt)
      | inr ge ↦ c.loop-first.invariant.alike k ge high
    ]

pub alike_from-alike-requires-clause-place : goal.alike_from-alike-requires-clause-place
alike_from-alike-requires-clause-place c = omega (arith, place (goal.at.alike_from-alike-requires-clause-place c).After-run_to-slots, c.self.invariant.0.covers)

pub alike_from-alike-requires-clause-below : goal.alike_from-alike-requires-clause-below
alike_from-alike-requires-clause-below c = λ k lt. omega (arith, run_below _ _ _ _ _ _ k c.self.invariant.0 (run (goal.at.alike_from-alike-requires-clause-below c).After-run_to-slots) lt, c.self.invariant.2)

pub returns-then-alike-gt0-clause-alike : goal.returns-then-alike-gt0-clause-alike
returns-then-alike-gt0-clause-alike c = λ k low high.
    let at = goal.at.returns-then-alike-gt0-clause-alike c in
    alike at.After-alike_from-alike (run at.After-run_to-slots) (place at.After-run_to-slots) k low high ∙ c.loop-first.invariant.bit

pub returns-then-alike-gt0-clause-first : goal.returns-then-alike-gt0-clause-first
returns-then-alike-gt0-clause-first c = λ more same.
    let at = goal.at.returns-then-alike-gt0-clause-first c in
    let start : ℕ = c.alike_from-alike.result in
    let few : length c.run_to-slots.result.now ≤ c.loop-first.first = omega (arith, c.run_to-slots.ensures.within, c.loop-first-test.true) in
    let before : ℕ = c.loop-first.first - (length c.run_to-slots.result.now - start) - 1 in
    c.alike_from-alike.ensures.first c.if-alike-gt0.true
    (sym (bit at.After-alike_from-alike (run at.After-run_to-slots) (place at.After-run_to-slots) before (start - 1) (omega (arith, c.alike_from-alike.ensures.few, c.if-alike-gt0.true)) (omega (arith, more, few, c.if-alike-gt0.true, c.alike_from-alike.ensures.few)))
    ∙ same ∙ sym c.loop-first.invariant.bit)

pub loop-first-preserved : goal.loop-first-preserved
loop-first-preserved c =
    let at = goal.at.loop-first-preserved c in
    record {
      within = omega (arith, c.loop-first.invariant.within);
      alike = alike at.After-alike_from-alike (run at.After-run_to-slots) (place at.After-run_to-slots);
      bit = c.loop-first.invariant.bit;
    }
