use Rattle.std.proofs.Common.{◌+◌, ◌∙◌, arith, sym, length, set, subst, List, ℕ}
use Rattle.std.specs.Vec.{vec_capacity}
use Rattle.bits.specs.declared.whole_rows.Kept.TheVariants as kept
use Rattle.bits.specs.steps.Held.{words_in, Makes}
use Rattle.bits.specs.steps.Packing.{all_bits}
use Rattle.bits.specs.steps.Summaries.{IsSummaryOf}
use Rattle.bits.specs.steps.StoredRows.{IsWithin, IsRowChanged}
use Rattle.bits.proofs.laws.StoredLaws.{kept_whole, room_for_part, whole_stored, whole_within, Holds, IsFound, found, made_holds, made_seen, made_size, part_holds, part_seen, row_found, row_seen, set_seen, whole_holds, whole_seen}
use Rattle.bits.proofs.slot_words.SlotWords.move_bits.Goals.{In-Part, In-Whole, After-add, After-make, After-move_row}
use Rattle.bits.proofs.slot_words.SlotWords.move_bits.Goals as goal

part : (c : In-Part) → IsFound c.self.inside.width c.args.slot c.self.inside.kept.items c.self.inside.wholes.items c.self.inside.owners.items (vec_capacity c.self.inside.wholes) (vec_capacity c.self.inside.owners) c.args.self.now (kept.Part c.in-Part.old)
part c = found c.self.inside.width c.args.slot _ _ _ _ _ _ _ _ c.self.invariant c.self.view_is c.requires.slot c.index.ensures c.in-Part.is

whole : (c : In-Whole) → IsFound c.self.inside.width c.args.slot c.self.inside.kept.items c.self.inside.wholes.items c.self.inside.owners.items (vec_capacity c.self.inside.wholes) (vec_capacity c.self.inside.owners) c.args.self.now (kept.Whole c.in-Whole.i)
whole c = found c.self.inside.width c.args.slot _ _ _ _ _ _ _ _ c.self.invariant c.self.view_is c.requires.slot c.index.ensures c.in-Whole.is

within : (c : After-make) → IsWithin c.self.inside.width c.make.new.self
within c = record { four = c.make.ensures.four; ends = c.make.ensures.within }

pub invariant_of-self : goal.invariant_of-self
invariant_of-self c = part_holds c.self.inside.width c.args.slot _ _ _ _ _ _ _ _ (part (goal.at.invariant_of-self c).In-Part) (within (goal.at.invariant_of-self c).After-make)

pub returns-then-make-clause-made : goal.returns-then-make-clause-made
returns-then-make-clause-made c =
    part_seen (Makes c.args.how) c.self.inside.width c.args.slot _ _ _ _ _ _ _ _ (part (goal.at.returns-then-make-clause-made c).In-Part) (within (goal.at.returns-then-make-clause-made c).After-make) (c.make.ensures.made c.if-make.true)

pub returns-then-make-clause-summed : goal.returns-then-make-clause-summed
returns-then-make-clause-summed c =
    let w : ℕ = c.self.inside.width in
    let h = part (goal.at.returns-then-make-clause-summed c).In-Part in
    let P : List ℕ → Type 0 = λ row. IsSummaryOf c.make.new.summary (all_bits row) in
    let holds = part_holds w c.args.slot _ _ _ _ _ _ _ c.make.new.self h (within (goal.at.returns-then-make-clause-summed c).After-make) in
    subst P (sym (set_seen w c.args.slot _ _ _ (kept.Part c.make.new.self) holds.0 h.there)) (c.make.ensures.summed c.if-make.true)

pub add-requires-clause-room : goal.add-requires-clause-room
add-requires-clause-room c =
    let h = part (goal.at.add-requires-clause-room c).In-Part in
    (room_for_part c.self.inside.width _ _ _ _ _ _ h.holds.0 h.there h.is h.holds.1).0

pub add-requires-clause-owner_room : goal.add-requires-clause-owner_room
add-requires-clause-owner_room c =
    let h = part (goal.at.add-requires-clause-owner_room c).In-Part in
    omega (arith, (room_for_part c.self.inside.width _ _ _ _ _ _ h.holds.0 h.there h.is h.holds.1).1, h.holds.2)

pub move_row-requires-clause-within : goal.move_row-requires-clause-within
move_row-requires-clause-within c =
    (made_size c.self.inside.width c.args.slot c.len-i.result _ _ c.add.new.wholes.items _ _ _ _ _ (part (goal.at.move_row-requires-clause-within c).In-Part) c.add.ensures.words (omega arith)).1

moved : (c : After-move_row) → IsFound c.self.inside.width c.args.slot c.self.inside.kept.items c.self.inside.wholes.items c.self.inside.owners.items (vec_capacity c.self.inside.wholes) (vec_capacity c.self.inside.owners) c.args.self.now (kept.Part c.in-Part.old)
    → IsRowChanged (Makes c.args.how) c.self.inside.width (length c.self.inside.owners.items + 1) c.len-i.result c.add.new.wholes.items c.move_row.new.wholes.items
moved c h = c.move_row.ensures.row (length c.self.inside.owners.items + 1) (made_size c.self.inside.width c.args.slot c.len-i.result _ _ c.add.new.wholes.items _ _ _ _ _ h c.add.ensures.words (omega arith)).0 (omega arith)

made : (c : After-move_row) → IsFound c.self.inside.width c.args.slot c.self.inside.kept.items c.self.inside.wholes.items c.self.inside.owners.items (vec_capacity c.self.inside.wholes) (vec_capacity c.self.inside.owners) c.args.self.now (kept.Part c.in-Part.old)
    → Holds c.self.inside.width (set c.self.inside.kept.items c.args.slot (kept.Whole c.len-i.result)) c.move_row.new.wholes.items c.add.new.owners.items (vec_capacity c.move_row.new.wholes) (vec_capacity c.add.new.owners)
made c h =
    made_holds c.self.inside.width c.args.slot c.len-i.result _ _ _ c.add.new.wholes.items _ c.add.new.owners.items _ _ (vec_capacity c.add.new.wholes) _ (vec_capacity c.move_row.new.wholes) _ _ h
    c.add.ensures.words c.add.ensures.owners (omega arith) (moved c h).as_long c.add.ensures.room c.add.ensures.owner_room c.move_row.ensures.room

pub invariant_of-self-in-Part : goal.invariant_of-self-in-Part
invariant_of-self-in-Part c = made (goal.at.invariant_of-self-in-Part c).After-move_row (part (goal.at.invariant_of-self-in-Part c).In-Part)

pub returns-else-make-clause-made : goal.returns-else-make-clause-made
returns-else-make-clause-made c =
    made_seen (Makes c.args.how) c.self.inside.width c.args.slot c.len-i.result _ _ _ c.add.new.wholes.items _ _ _ _ _ (part (goal.at.returns-else-make-clause-made c).In-Part) c.add.ensures.words (omega arith) (moved (goal.at.returns-else-make-clause-made c).After-move_row (part (goal.at.returns-else-make-clause-made c).In-Part))

pub move_row-requires-in-Whole-clause-within : goal.move_row-requires-in-Whole-clause-within
move_row-requires-in-Whole-clause-within c =
    let h = whole (goal.at.move_row-requires-in-Whole-clause-within c).In-Whole in
    whole_within _ _ _ _ _ _ h.holds.0 h.there h.is

pub invariant_of-self-in-Whole : goal.invariant_of-self-in-Whole
invariant_of-self-in-Whole c =
    let h = whole (goal.at.invariant_of-self-in-Whole c).In-Whole in
    whole_holds c.self.inside.width _ _ _ _ _ _ _ h.holds (c.move_row-in-Whole.ensures.row (length c.self.inside.owners.items) h.holds.0.long (kept_whole _ _ _ _ _ _ h.holds.0 h.there h.is).0).as_long c.move_row-in-Whole.ensures.room

pub returns-in-Whole-clause-made : goal.returns-in-Whole-clause-made
returns-in-Whole-clause-made c =
    let h = whole (goal.at.returns-in-Whole-clause-made c).In-Whole in
    whole_seen (Makes c.args.how) c.self.inside.width c.args.slot c.in-Whole.i _ _ _ _ _ _ _ h (c.move_row-in-Whole.ensures.row (length c.self.inside.owners.items) h.holds.0.long (kept_whole _ _ _ _ _ _ h.holds.0 h.there h.is).0)

pub move_row-requires-clause-summed : goal.move_row-requires-clause-summed
move_row-requires-clause-summed c =
    let w : ℕ = c.self.inside.width in
    let h = part (goal.at.move_row-requires-clause-summed c).In-Part in
    let P : List ℕ → Type 0 = λ row. IsSummaryOf c.args.summary.now (all_bits row) in
    let Q : ℕ → Type 0 = λ summary. IsSummaryOf summary (all_bits (words_in w c.add.new.wholes.items c.len-i.result)) in
    let size = made_size w c.args.slot c.len-i.result _ _ c.add.new.wholes.items _ _ _ _ _ h c.add.ensures.words (omega arith) in
    subst Q (sym (c.make.ensures.same c.if-make.false)) (subst P (row_found w c.args.slot _ _ _ _ _ _ _ h ∙ sym size.2) c.requires.summed)

pub move_row-requires-in-Whole-clause-summed : goal.move_row-requires-in-Whole-clause-summed
move_row-requires-in-Whole-clause-summed c =
    let h = whole (goal.at.move_row-requires-in-Whole-clause-summed c).In-Whole in
    let P : List ℕ → Type 0 = λ row. IsSummaryOf c.args.summary.now (all_bits row) in
    subst P (row_found c.self.inside.width c.args.slot _ _ _ _ _ _ _ h) c.requires.summed

pub returns-else-make-clause-summed : goal.returns-else-make-clause-summed
returns-else-make-clause-summed c =
    let h = part (goal.at.returns-else-make-clause-summed c).In-Part in
    let P : List ℕ → Type 0 = λ row. IsSummaryOf c.move_row.new.summary (all_bits row) in
    subst P (sym (set_seen c.self.inside.width c.args.slot _ _ _ (kept.Whole c.len-i.result) (made (goal.at.returns-else-make-clause-summed c).After-move_row h).0 h.there)) c.move_row.ensures.summed

pub returns-in-Whole-clause-summed : goal.returns-in-Whole-clause-summed
returns-in-Whole-clause-summed c =
    let h = whole (goal.at.returns-in-Whole-clause-summed c).In-Whole in
    let P : List ℕ → Type 0 = λ row. IsSummaryOf c.move_row-in-Whole.new.summary (all_bits row) in
    let row = c.move_row-in-Whole.ensures.row (length c.self.inside.owners.items) h.holds.0.long (kept_whole _ _ _ _ _ _ h.holds.0 h.there h.is).0 in
    subst P (sym (row_seen c.self.inside.width c.args.slot _ _ _ (kept.Whole c.in-Whole.i) (whole_stored c.self.inside.width _ _ _ _ h.holds.0 row.as_long) h.there h.is)) c.move_row-in-Whole.ensures.summed
