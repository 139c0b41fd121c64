use Rattle.std.proofs.Common.{◌+◌, arith, length, subst, List, ℕ}
use Rattle.std.specs.Vec.{vec_capacity}
use Rattle.bits.specs.declared.whole_rows.Kept.TheVariants as kept
use Rattle.bits.specs.steps.Held.{Writes}
use Rattle.bits.specs.steps.StoredRows.{part_row, IsWithin, IsRowChanged}
use Rattle.bits.proofs.laws.StoredLaws.{kept_whole, room_for_part, whole_within, IsFound, found, made_holds, made_seen, made_size, part_holds, part_seen, whole_holds, whole_seen}
use Rattle.bits.proofs.slot_words.SlotWords.write_beside.Goals.{In-Part, In-Whole, After-add, After-write, After-write_row}
use Rattle.bits.proofs.slot_words.SlotWords.write_beside.Goals as goal

part : (c : In-Part) → IsFound c.self.inside.width c.args.slot c.self.inside.kept.items c.self.inside.wholes.items c.self.inside.owners.items (vec_capacity c.self.inside.wholes) (vec_capacity c.self.inside.owners) c.args.self.now (kept.Part c.in-Part.old)
part c = found c.self.inside.width c.args.slot _ _ _ _ _ _ _ _ c.self.invariant c.self.view_is c.requires.slot c.index.ensures c.in-Part.is

whole : (c : In-Whole) → IsFound c.self.inside.width c.args.slot c.self.inside.kept.items c.self.inside.wholes.items c.self.inside.owners.items (vec_capacity c.self.inside.wholes) (vec_capacity c.self.inside.owners) c.args.self.now (kept.Whole c.in-Whole.i)
whole c = found c.self.inside.width c.args.slot _ _ _ _ _ _ _ _ c.self.invariant c.self.view_is c.requires.slot c.index.ensures c.in-Whole.is

within : (c : After-write) → IsWithin c.self.inside.width c.write.new.self
within c = record { four = c.write.ensures.four; ends = omega (arith, c.cover.ensures.within, c.write.ensures.start) }

pub invariant_of-self : goal.invariant_of-self
invariant_of-self c = part_holds c.self.inside.width c.args.slot _ _ _ _ _ _ _ _ (part (goal.at.invariant_of-self c).In-Part) (within (goal.at.invariant_of-self c).After-write)

pub returns-then-cover : goal.returns-then-cover
returns-then-cover c =
    let w : ℕ = c.self.inside.width in
    let P : List ℕ → Type 0 = λ row. Writes c.args.at c.args.bit row (part_row w c.write.new.self) in
    part_seen (Writes c.args.at c.args.bit) w c.args.slot _ _ _ _ _ _ _ _ (part (goal.at.returns-then-cover c).In-Part) (within (goal.at.returns-then-cover c).After-write) (subst P c.cover.ensures.same (c.write.ensures.written w))

pub add-requires-clause-room : goal.add-requires-clause-room
add-requires-clause-room c =
    let h = part (goal.at.add-requires-clause-room c).In-Part in
    (room_for_part c.self.inside.width _ _ _ _ _ _ h.holds.0 h.there h.is h.holds.1).0

pub add-requires-clause-owner_room : goal.add-requires-clause-owner_room
add-requires-clause-owner_room c =
    let h = part (goal.at.add-requires-clause-owner_room c).In-Part in
    omega (arith, (room_for_part c.self.inside.width _ _ _ _ _ _ h.holds.0 h.there h.is h.holds.1).1, h.holds.2)

pub write_row-requires-clause-within : goal.write_row-requires-clause-within
write_row-requires-clause-within c =
    (made_size c.self.inside.width c.args.slot c.len-i.result _ _ c.add.new.wholes.items _ _ _ _ _ (part (goal.at.write_row-requires-clause-within c).In-Part) c.add.ensures.words (omega arith)).1

written : (c : After-write_row) → IsFound c.self.inside.width c.args.slot c.self.inside.kept.items c.self.inside.wholes.items c.self.inside.owners.items (vec_capacity c.self.inside.wholes) (vec_capacity c.self.inside.owners) c.args.self.now (kept.Part c.in-Part.old)
    → IsRowChanged (Writes c.args.at c.args.bit) c.self.inside.width (length c.self.inside.owners.items + 1) c.len-i.result c.add.new.wholes.items c.write_row.new.wholes.items
written c h = c.write_row.ensures.row (length c.self.inside.owners.items + 1) (made_size c.self.inside.width c.args.slot c.len-i.result _ _ c.add.new.wholes.items _ _ _ _ _ h c.add.ensures.words (omega arith)).0 (omega arith)

pub invariant_of-self-in-Part : goal.invariant_of-self-in-Part
invariant_of-self-in-Part c =
    made_holds c.self.inside.width c.args.slot c.len-i.result _ _ _ c.add.new.wholes.items _ c.add.new.owners.items _ _ (vec_capacity c.add.new.wholes) _ (vec_capacity c.write_row.new.wholes) _ _ (part (goal.at.invariant_of-self-in-Part c).In-Part)
    c.add.ensures.words c.add.ensures.owners (omega arith) (written (goal.at.invariant_of-self-in-Part c).After-write_row (part (goal.at.invariant_of-self-in-Part c).In-Part)).as_long c.add.ensures.room c.add.ensures.owner_room c.write_row.ensures.room

pub returns-else-cover : goal.returns-else-cover
returns-else-cover c =
    made_seen (Writes c.args.at c.args.bit) c.self.inside.width c.args.slot c.len-i.result _ _ _ c.add.new.wholes.items _ _ _ _ _ (part (goal.at.returns-else-cover c).In-Part) c.add.ensures.words (omega arith) (written (goal.at.returns-else-cover c).After-write_row (part (goal.at.returns-else-cover c).In-Part))

pub write_row-requires-in-Whole-clause-within : goal.write_row-requires-in-Whole-clause-within
write_row-requires-in-Whole-clause-within c =
    let h = whole (goal.at.write_row-requires-in-Whole-clause-within c).In-Whole in
    whole_within _ _ _ _ _ _ h.holds.0 h.there h.is

pub invariant_of-self-in-Whole : goal.invariant_of-self-in-Whole
invariant_of-self-in-Whole c =
    let h = whole (goal.at.invariant_of-self-in-Whole c).In-Whole in
    whole_holds c.self.inside.width _ _ _ _ _ _ _ h.holds (c.write_row-in-Whole.ensures.row (length c.self.inside.owners.items) h.holds.0.long (kept_whole _ _ _ _ _ _ h.holds.0 h.there h.is).0).as_long c.write_row-in-Whole.ensures.room

pub returns-in-Whole : goal.returns-in-Whole
returns-in-Whole c =
    let h = whole (goal.at.returns-in-Whole c).In-Whole in
    whole_seen (Writes c.args.at c.args.bit) c.self.inside.width c.args.slot c.in-Whole.i _ _ _ _ _ _ _ h (c.write_row-in-Whole.ensures.row (length c.self.inside.owners.items) h.holds.0.long (kept_whole _ _ _ _ _ _ h.holds.0 h.there h.is).0)
