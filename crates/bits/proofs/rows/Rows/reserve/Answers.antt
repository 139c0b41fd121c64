use Rattle.std.proofs.Common.{◌∙◌, ap, arith, length, refl, ℕ, List, Bool, []}
use Rattle.std.proofs.lemmas.List.{get_or_default}
use Rattle.bits.specs.Rows.{RowsAndRoom}
use Rattle.bits.proofs.laws.HeldLaws.{doubled_room, widened_held, widened_shown}
use Rattle.bits.proofs.laws.RowsLaws.{row_len}
use Rattle.bits.proofs.laws.SlotWordsLaws.{kept_again, widened_slots}
use Rattle.bits.proofs.laws.SummaryLaws.{widened_summed}
use Rattle.bits.proofs.rows.Rows.reserve.Goals as goal

pub invariant_of-self : goal.invariant_of-self
invariant_of-self c =
    kept_again c.self.inside.len c.self.inside.slots c.self.inside.slots c.self.inside.summaries.items c.self.inside.summaries.items c.self.inside.words c.widen.new.self refl refl c.in_err-widen.ensures.err c.self.invariant

pub invariant_of-self-2 : goal.invariant_of-self-2
invariant_of-self-2 c =
    let wide = c.in_ok-widen.ensures.ok in
    let n : ℕ = length c.self.inside.slots in
    let widened = widened_slots n c.self.inside.words c.widen.new.self c.self.invariant.2 wide in (
      widened_held c.self.inside.len c.self.inside.words.width c.widen.new.self.width c.self.inside.slots c.self.inside.words.words c.widen.new.self.words c.self.invariant.0 (omega (arith, wide.width)) wide.few widened,
      widened_summed c.self.inside.words.width c.widen.new.self.width n c.self.inside.words.words c.widen.new.self.words c.self.inside.summaries.items widened c.self.invariant.1,
      wide.count ∙ c.self.invariant.2,
    )

pub returns-clause-rows : goal.returns-clause-rows
returns-clause-rows c =
    widened_shown c.self.inside.len c.self.inside.words.width c.widen.new.self.width c.self.inside.slots c.self.inside.words.words c.widen.new.self.words c.self.invariant.0
    (widened_slots (length c.self.inside.slots) c.self.inside.words c.widen.new.self c.self.invariant.2 c.in_ok-widen.ensures.ok)
    ∙ ap (λ (r : RowsAndRoom). r.rows) c.self.view_is

pub returns-clause-doubled : goal.returns-clause-doubled
returns-clause-doubled c full k d lt =
    let long = get_or_default c.args.self.now.rows k d [] lt in
    let bits = row_len _ _ _ _ c.args.self.now k c.self.invariant.0 c.self.view_is lt in
    omega (arith, ap (λ (row : List Bool). length row) long, bits, doubled_room c.self.inside.len c.self.inside.words.width c.widen.new.self.width c.in_ok-widen.ensures.ok.width c.self.invariant.0.covers)
