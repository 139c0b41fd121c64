use Rattle.std.proofs.Common.{◌≡◌, ◌<◌, ◌+◌, ◌∙◌, ap, arith, length, map, remove, rules, vec_len, Bool, List, ℕ}
use Rattle.std.proofs.lemmas.List.Edits.{length-remove}
use Rattle.bits.specs.Rows.{RowsAndRoom}
use Rattle.bits.specs.steps.Held.{bits_in, redirected}
use Rattle.bits.proofs.laws.RowsLaws.{row_there, slot_below, slot_read}
use Rattle.bits.proofs.laws.HeldLaws.{IsTakenOut, taken_shown, taken_size}
use Rattle.bits.proofs.laws.SlotWordsLaws.{kept_as_wide, taken_out}
use Rattle.bits.proofs.laws.SummaryLaws.{taken_both}
use Rattle.bits.proofs.rows.Rows.remove.Goals.{After-len-last, After-redirect}
use Rattle.bits.proofs.rows.Rows.remove.Goals as goal

there : (c : After-len-last) → c.args.row < length c.self.inside.slots
there c = row_there _ _ _ _ c.args.self.now c.args.row c.self.view_is c.requires

slot : (c : After-len-last) → c.remove-slot.result < length c.self.inside.slots
slot c = slot_below _ _ _ _ c.args.row c.remove-slot.result c.self.invariant.0 (there c) (slot_read _ c.args.row c.remove-slot.result (there c) c.remove-slot.ensures.value)

-- one slot fewer
count : (c : After-len-last) → length c.self.inside.slots ≡ c.len-last.result + 1
count c = omega (arith, c.len-last.ensures, ap (λ (ss : List ℕ). length ss) c.remove-slot.ensures.numbers, length-remove c.self.inside.slots c.args.row (there c))

-- the row is taken out, and the words of the last slot stand in its slot
taken : (c : After-redirect) → c.args.row < length c.self.inside.slots → length c.self.inside.slots ≡ c.len-last.result + 1
    → IsTakenOut c.self.inside.len c.self.inside.words.width c.self.inside.slots c.self.inside.words.words c.args.row c.remove-slot.result c.len-last.result c.redirect.new.self c.remove.new.self.words
taken c row more =
    taken_out c.self.inside.len c.args.row c.remove-slot.result c.len-last.result c.self.inside.slots c.redirect.new.self c.self.inside.words c.remove.new.self c.self.invariant.0 row (slot_read _ c.args.row c.remove-slot.result row c.remove-slot.ensures.value) more c.self.invariant.2
    (c.redirect.ensures ∙ ap (λ (ss : List ℕ). map (redirected c.len-last.result c.remove-slot.result) ss) c.remove-slot.ensures.numbers) c.remove.ensures

pub remove-requires : goal.remove-requires
remove-requires c = omega (arith, slot (goal.at.remove-requires c).After-len-last, c.self.invariant.2)

pub index-requires : goal.index-requires
index-requires c =
    let held : vec_len c.self.inside.summaries ≡ length c.self.inside.summaries.items = search rules in
    omega (arith, held, count (goal.at.index-requires c).After-len-last, c.self.invariant.1.counted)

pub index_mut-requires : goal.index_mut-requires
index_mut-requires c =
    let held : vec_len c.self.inside.summaries ≡ length c.self.inside.summaries.items = search rules in
    omega (arith, held, slot (goal.at.index_mut-requires c).After-len-last, c.self.invariant.1.counted)

pub overflow_cast-last : goal.overflow_cast-last
overflow_cast-last c = omega (arith, count (goal.at.overflow_cast-last c).After-len-last, c.self.invariant.0.counted)

pub invariant_of-self : goal.invariant_of-self
invariant_of-self c =
    let at = goal.at.invariant_of-self c in
    let more = count at.After-len-last in
    let out = taken at.After-redirect (there at.After-len-last) more in
    let both = taken_both _ _ _ _ c.args.row c.remove-slot.result c.len-last.result _ _ c.self.inside.summaries.items c.index.result.now out c.self.invariant.1 c.index.ensures _ c.truncate.ensures.items in
    kept_as_wide _ _ _ _ _ c.remove.ensures.width (omega (arith, c.remove.ensures.count, c.self.invariant.2, more, taken_size _ _ _ _ _ _ _ _ _ out)) both.0 both.1

pub returns-clause-rows : goal.returns-clause-rows
returns-clause-rows c =
    let at = goal.at.returns-clause-rows c in
    let f : ℕ → ℕ → List Bool = λ w. bits_in c.self.inside.len w c.remove.new.self.words in
    ap (λ w. map (f w) c.redirect.new.self) c.remove.ensures.width
    ∙ taken_shown _ _ _ _ c.args.row c.remove-slot.result c.len-last.result _ _ (taken at.After-redirect (there at.After-len-last) (count at.After-len-last))
    ∙ ap (λ (r : RowsAndRoom). remove r.rows c.args.row) c.self.view_is
