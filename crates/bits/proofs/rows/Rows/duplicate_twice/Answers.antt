use Rattle.std.proofs.Common.{◌≡◌, ◌<◌, ◌+◌, ◌∙◌, ap, arith, length, get_or, map, rules, vec_len, Bool, List, ℕ}
use Rattle.std.proofs.lemmas.List.{length-map}
use Rattle.bits.specs.Rows.{RowsAndRoom}
use Rattle.bits.specs.steps.Held.{bits_in}
use Rattle.bits.proofs.laws.SlotWordsLaws.{IsCopiedTwice, copied_both, copied_shown, copied_size, pair_inserted, pushed_twice, kept_as_wide, twice_appended}
use Rattle.bits.proofs.laws.RowsLaws.{row_there, slot_below, slot_read}
use Rattle.bits.proofs.rows.Rows.duplicate_twice.Goals.{After-get-from, After-push_reserved-in-Ok}
use Rattle.bits.proofs.rows.Rows.duplicate_twice.Goals as goal

from : (c : After-get-from) → c.get-from.result < length c.self.inside.slots
from c =
    let row = row_there _ _ _ _ c.args.self.now c.args.row c.self.view_is c.requires in
    slot_below _ _ _ _ c.args.row c.get-from.result c.self.invariant.0 row (slot_read _ c.args.row c.get-from.result row c.get-from.ensures)

pub append_twice-requires-clause-slot : goal.append_twice-requires-clause-slot
append_twice-requires-clause-slot c = omega (arith, from (goal.at.append_twice-requires-clause-slot c).After-get-from, c.len-before.ensures)

pub index-summary-requires : goal.index-summary-requires
index-summary-requires c =
    let held : vec_len c.reserve.new.self ≡ length c.reserve.new.self.items = search rules in
    omega (arith, held, from (goal.at.index-summary-requires c).After-get-from, c.self.invariant.1.counted, ap (λ (ss : List ℕ). length ss) c.in_ok-reserve.ensures.items)

-- both copies, as the slots and the words then stand
copied : (c : After-push_reserved-in-Ok) → IsCopiedTwice c.self.inside.len c.self.inside.words.width c.self.inside.slots c.self.inside.words.words c.args.row c.get-from.result c.insert_pair.new.self c.append_twice.new.words.words
copied c =
    let last : c.in_ok-slot.slot ≡ length c.self.inside.slots = c.in_ok-slot.ensures.slot ∙ c.len-before.ensures in
    let next : c.in_ok-next.next ≡ length c.self.inside.slots + 1 = omega (arith, c.in_ok-next.ensures.slot, c.len-before.ensures) in
    let row = row_there _ _ _ _ c.args.self.now c.args.row c.self.view_is c.requires in
    let slot = slot_read _ c.args.row c.get-from.result row c.get-from.ensures in
    let more = c.in_ok-append_twice.ensures.ok in
    record {
      held = c.self.invariant.0;
      row = row;
      slot = slot;
      few_rows = omega (arith, next);
      slots_are = pair_inserted c.insert_pair.new.self c.self.inside.slots (c.args.row + 1) c.in_ok-next.next c.in_ok-slot.slot (length c.self.inside.slots + 1) (length c.self.inside.slots) next last c.in-Ok.ensures.ok;
      words_are = twice_appended (length c.self.inside.slots) c.get-from.result c.self.inside.words more.0 c.append_twice.new.words c.self.invariant.0.wide (slot_below _ _ _ _ c.args.row c.get-from.result c.self.invariant.0 row slot) more.1 more.2;
    }

pub invariant_of-self-in-Ok : goal.invariant_of-self-in-Ok
invariant_of-self-in-Ok c =
    let more = c.in_ok-append_twice.ensures.ok in
    let two = copied (goal.at.invariant_of-self-in-Ok c).After-push_reserved-in-Ok in
    let both = copied_both _ _ _ _ _ _ _ _ c.self.inside.summaries.items c.index-summary.result.now two c.self.invariant.1
    (c.index-summary.ensures ∙ ap (λ (ss : List ℕ). get_or ss c.get-from.result c.index-summary.result.now) c.in_ok-reserve.ensures.items) _
    (pushed_twice _ c.push_reserved.new.self.items c.reserve.new.self.items c.self.inside.summaries.items c.index-summary.result.now c.in_ok-reserve.ensures.items c.push_reserved.ensures.items c.push_reserved-in-Ok.ensures.items) in
    kept_as_wide _ _ _ _ _ (more.2.width ∙ more.1.width) (omega (arith, more.2.count, more.1.count, c.self.invariant.2, copied_size _ _ _ _ _ _ _ _ two)) both.0 both.1

pub returns-in-Ok-clause-ok : goal.returns-in-Ok-clause-ok
returns-in-Ok-clause-ok c =
    let more = c.in_ok-append_twice.ensures.ok in
    let f : ℕ → ℕ → List Bool = λ w. bits_in c.self.inside.len w c.append_twice.new.words.words in
    ap (λ w. map (f w) c.insert_pair.new.self) (more.2.width ∙ more.1.width)
    ∙ copied_shown _ _ _ _ c.args.row c.get-from.result _ _ (copied (goal.at.returns-in-Ok-clause-ok c).After-push_reserved-in-Ok) c.args.self.now.rows (ap (λ (r : RowsAndRoom). r.rows) c.self.view_is)

pub returns-in-Ok-clause-few : goal.returns-in-Ok-clause-few
returns-in-Ok-clause-few c =
    let one = copied (goal.at.returns-in-Ok-clause-few c).After-push_reserved-in-Ok in
    omega (arith, length-map c.insert_pair.new.self (bits_in c.self.inside.len c.append_twice.new.words.width c.append_twice.new.words.words), copied_size _ _ _ _ _ _ _ _ one, one.few_rows)
