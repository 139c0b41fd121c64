use Rattle.std.proofs.Common.{◌<◌, ◌∷◌, ◌∙◌, [], ap, arith, get_or, length, map, slice_set, subst, ℕ, List, Bool}
use Rattle.std.proofs.lemmas.List.{get_or_read, length-map}
use Rattle.bits.specs.Rows.{RowsAndRoom}
use Rattle.bits.specs.steps.Held.{bits_in}
use Rattle.bits.specs.steps.Summaries.{IsMarked}
use Rattle.bits.proofs.laws.RowsLaws.{bit_there, row_there, slot_below, slot_read}
use Rattle.bits.proofs.laws.RunLaws.{one_written, IsRun, run_apart, run_below, run_held, run_of_one, run_written}
use Rattle.bits.proofs.laws.SlotWordsLaws.{WrittenAndSummed, kept_as_wide, none_written, slot_written}
use Rattle.bits.proofs.rows.Rows.set.Goals.{After-get-slot, After-marked}
use Rattle.bits.proofs.rows.Rows.set.Goals as goal

there : (c : After-get-slot) → c.args.row < length c.self.inside.slots
there c = row_there _ _ _ _ c.args.self.now c.args.row c.self.view_is c.requires.row

place : (c : After-get-slot) → c.args.at < c.self.inside.len
place c =
    bit_there _ _ _ _ c.args.self.now c.args.row c.args.at _ c.self.invariant.0 c.self.view_is (there c) (slot_read _ c.args.row c.get-slot.result (there c) c.get-slot.ensures) c.requires.place

below : (c : After-get-slot) → c.get-slot.result < length c.self.inside.slots
below c = slot_below _ _ _ _ c.args.row c.get-slot.result c.self.invariant.0 (there c) (slot_read _ c.args.row c.get-slot.result (there c) c.get-slot.ensures)

-- the slot that is written, as a run of one
run : (c : After-get-slot) → IsRun c.self.inside.slots c.args.row (c.get-slot.result ∷ [])
run c = run_of_one c.self.inside.slots c.args.row c.get-slot.result (there c) c.get-slot.ensures

-- what is written there
written : (c : After-marked) → IsRun c.self.inside.slots c.args.row (c.get-slot.result ∷ []) → c.get-slot.result < length c.self.inside.slots
    → WrittenAndSummed c.args.at c.args.bit (length c.self.inside.slots) 1 (c.get-slot.result ∷ []) c.self.inside.words c.write.new.self (slice_set c.self.inside.summaries.items c.get-slot.result c.marked.result)
written c r lt =
    let n : ℕ = length c.self.inside.slots in
    let slots : List ℕ = c.get-slot.result ∷ [] in
    let read = get_or_read c.self.inside.summaries.items c.get-slot.result c.index.result.now (omega (arith, lt, c.self.invariant.1.counted)) c.index.ensures 0 in
    let P : ℕ → Type 0 = λ x. (m : ℕ) → IsMarked x m → IsMarked c.marked.result m in
    slot_written c.args.at c.args.bit n 0 c.marked.result slots c.self.inside.words c.self.inside.words c.write.new.self c.self.inside.summaries.items
    (none_written c.args.at c.args.bit n slots c.self.inside.words c.self.inside.summaries.items c.self.invariant.1.counted c.self.invariant.1.each) c.self.invariant.2 (omega arith)
    (λ j in'. run_below _ _ _ _ c.args.row slots j c.self.invariant.0 r in') (λ i j less in'. run_apart _ _ _ _ c.args.row slots i j c.self.invariant.0 r less in') c.write.ensures (subst P read c.marked.ensures.kept) c.marked.ensures.more

pub invariant_of-self : goal.invariant_of-self
invariant_of-self c =
    let at = goal.at.invariant_of-self c in
    let h = written at.After-marked (run at.After-get-slot) (below at.After-get-slot) in
    kept_as_wide _ _ _ _ _ c.write.ensures.width (c.write.ensures.count ∙ c.self.invariant.2) (run_held _ _ c.args.at c.args.bit _ (c.get-slot.result ∷ []) _ _ c.self.invariant.0 (place at.After-get-slot) h.written)
    (record { counted = h.counted; each = h.summed })

pub returns-clause-rows : goal.returns-clause-rows
returns-clause-rows c =
    let at = goal.at.returns-clause-rows c in
    let h = written at.After-marked (run at.After-get-slot) (below at.After-get-slot) in
    let f : ℕ → ℕ → List Bool = λ w. bits_in c.self.inside.len w c.write.new.self.words in
    ap (λ w. map (f w) c.self.inside.slots) c.write.ensures.width
    ∙ one_written c.args.at c.args.bit c.args.row _ _ (omega (arith, there at.After-get-slot, length-map c.self.inside.slots (bits_in c.self.inside.len c.self.inside.words.width c.self.inside.words.words)))
    (run_written _ _ c.args.at c.args.bit _ _ _ c.args.row (c.get-slot.result ∷ []) c.self.invariant.0 (place at.After-get-slot) (run at.After-get-slot) h.written)
    ∙ ap (λ (r : RowsAndRoom). slice_set r.rows c.args.row (slice_set (get_or r.rows c.args.row []) c.args.at c.args.bit)) c.self.view_is
