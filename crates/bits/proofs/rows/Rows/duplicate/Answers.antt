use Rattle.std.proofs.Common.{◌≡◌, ◌<◌, ◌+◌, ◌∙◌, ap, arith, insert, length, map, [], get_or, rules, vec_len, Bool, List, ℕ}
use Rattle.bits.specs.Rows.{RowsAndRoom}
use Rattle.bits.specs.steps.Held.{bits_in}
use Rattle.bits.proofs.laws.RowsLaws.{row_there, slot_below, slot_read}
use Rattle.bits.proofs.laws.HeldLaws.{IsDoubled, doubled_shown, doubled_size}
use Rattle.bits.proofs.laws.SlotWordsLaws.{kept_as_wide}
use Rattle.bits.proofs.laws.SummaryLaws.{doubled_both, pushed}
use Rattle.bits.proofs.rows.Rows.duplicate.Goals.{After-get-from, After-push}
use Rattle.bits.proofs.rows.Rows.duplicate.Goals as goal

from : (c : After-get-from) → c.get-from.result < length c.self.inside.slots
from c =
    let row = row_there _ _ _ _ c.args.self.now c.args.row c.self.view_is c.requires in
    slot_below _ _ _ _ c.args.row c.get-from.result c.self.invariant.0 row (slot_read _ c.args.row c.get-from.result row c.get-from.ensures)

pub append-requires : goal.append-requires
append-requires c = omega (arith, from (goal.at.append-requires c).After-get-from, c.self.invariant.2)

pub index-requires : goal.index-requires
index-requires c =
    let held : vec_len c.reserve.new.self ≡ length c.reserve.new.self.items = search rules in
    omega (arith, held, from (goal.at.index-requires c).After-get-from, c.self.invariant.1.counted, ap (λ (ss : List ℕ). length ss) c.in_ok-reserve.ensures.items)

-- the copy, as the slots and the words then stand
doubled : (c : After-push) → IsDoubled c.self.inside.len c.self.inside.words.width c.self.inside.slots c.self.inside.words.words c.args.row c.get-from.result c.insert.new.self c.append.new.self.words
doubled c =
    let row = row_there _ _ _ _ c.args.self.now c.args.row c.self.view_is c.requires in
    let count : c.in_ok-slot.slot ≡ length c.self.inside.slots = c.in_ok-slot.ensures.slot ∙ c.len-count.ensures in
    record {
      held = c.self.invariant.0;
      row = row;
      slot = slot_read _ c.args.row c.get-from.result row c.get-from.ensures;
      few_rows = omega (arith, count);
      slots_are = c.in-Ok.ensures.ok ∙ ap (λ n. insert c.self.inside.slots (c.args.row + 1) n) count;
      words_are = c.in_ok-append.ensures.ok.words;
    }

pub invariant_of-self-in-Ok : goal.invariant_of-self-in-Ok
invariant_of-self-in-Ok c =
    let one = doubled (goal.at.invariant_of-self-in-Ok c).After-push in
    let both = doubled_both _ _ _ _ _ _ _ _ c.self.inside.summaries.items c.index.result.now one c.self.invariant.1 (c.index.ensures ∙ ap (λ (ss : List ℕ). get_or ss c.get-from.result c.index.result.now) c.in_ok-reserve.ensures.items) _
    (pushed _ c.reserve.new.self.items c.self.inside.summaries.items c.index.result.now _ c.in_ok-reserve.ensures.items c.push.ensures.items (c.push.ensures.succeeds (omega (arith, c.in_ok-reserve.ensures.ok)))) in
    kept_as_wide _ _ _ _ _ c.in_ok-append.ensures.ok.width (omega (arith, c.in_ok-append.ensures.ok.count, c.self.invariant.2, doubled_size _ _ _ _ _ _ _ _ one)) both.0 both.1

pub returns-in-Ok-clause-ok : goal.returns-in-Ok-clause-ok
returns-in-Ok-clause-ok c =
    let f : ℕ → ℕ → List Bool = λ w. bits_in c.self.inside.len w c.append.new.self.words in
    ap (λ w. map (f w) c.insert.new.self) c.in_ok-append.ensures.ok.width ∙ doubled_shown _ _ _ _ _ _ _ _ (doubled (goal.at.returns-in-Ok-clause-ok c).After-push)
    ∙ ap (λ (r : RowsAndRoom). insert r.rows (c.args.row + 1) (get_or r.rows c.args.row [])) c.self.view_is
