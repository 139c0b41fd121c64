use Rattle.std.proofs.Common.{◌≡◌, ◌+◌, ◌-◌, ◌/◌, ◌<◌, ◌≤◌, ap, arith, sym, length, subst, false, Bool, List, ℕ}
use Rattle.std.specs.Vec.{vec_capacity}
use Rattle.std.specs.Bool.{IsTrue}
use Rattle.std.proofs.lemmas.Bool.{false≢true}
use Rattle.bits.specs.declared.whole_rows.Kept.{Kept}
use Rattle.bits.specs.declared.whole_rows.Kept.TheVariants as kept
use Rattle.bits.specs.steps.Held.{Writes, WordsInSlots, IsSlotChanged}
use Rattle.bits.specs.steps.StoredRows.{part_row, IsWithin}
use Rattle.bits.proofs.laws.PartLaws.{unkept_written}
use Rattle.bits.proofs.laws.StoredLaws.{kept_part, kept_whole, set_same, shown, whole_within, Holds, IsFound, found, part_holds, part_seen, whole_holds, whole_seen}
use Rattle.bits.proofs.slot_words.SlotWords.write.Goals.{In-Part, In-Whole, After-write, After-write_row}
use Rattle.bits.proofs.slot_words.SlotWords.write.Goals as goal

part : (c : In-Part) → IsFound c.self.inside.width c.args.slot c.self.inside.kept.items c.self.inside.wholes.items c.self.inside.owners.items (vec_capacity c.self.inside.wholes) (vec_capacity c.self.inside.owners) c.args.self.now (kept.Part c.in-Part.part)
part c = found c.self.inside.width c.args.slot _ _ _ _ _ _ _ _ c.self.invariant c.self.view_is c.requires.slot c.index_mut.ensures.value c.in-Part.is

whole : (c : In-Whole) → IsFound c.self.inside.width c.args.slot c.self.inside.kept.items c.self.inside.wholes.items c.self.inside.owners.items (vec_capacity c.self.inside.wholes) (vec_capacity c.self.inside.owners) c.args.self.now (kept.Whole c.in-Whole.i)
whole c = found c.self.inside.width c.args.slot _ _ _ _ _ _ _ _ c.self.invariant c.self.view_is c.requires.slot c.index_mut.ensures.value c.in-Whole.is

within : (c : After-write) → IsWithin c.self.inside.width c.in-Part.part → IsWithin c.self.inside.width c.write.new.self
within c was = record { four = c.write.ensures.four; ends = omega (arith, was.ends, c.write.ensures.start) }

pub invariant_of-self : goal.invariant_of-self
invariant_of-self c =
    let h = part (goal.at.invariant_of-self c).In-Part in
    part_holds c.self.inside.width c.args.slot _ _ _ _ _ _ _ _ h (within (goal.at.invariant_of-self c).After-write (kept_part _ _ _ _ _ _ h.holds.0 h.there h.is))

pub returns-then-has : goal.returns-then-has
returns-then-has c =
    let h = part (goal.at.returns-then-has c).In-Part in
    part_seen (Writes c.args.at c.args.bit) c.self.inside.width c.args.slot _ _ _ _ _ _ _ _ h (within (goal.at.returns-then-has c).After-write (kept_part _ _ _ _ _ _ h.holds.0 h.there h.is)) (c.write.ensures.written c.self.inside.width)

pub write_row-requires-clause-within : goal.write_row-requires-clause-within
write_row-requires-clause-within c =
    let h = whole (goal.at.write_row-requires-clause-within c).In-Whole in
    whole_within _ _ _ _ _ _ h.holds.0 h.there h.is

pub invariant_of-self-in-Whole : goal.invariant_of-self-in-Whole
invariant_of-self-in-Whole c =
    let h = whole (goal.at.invariant_of-self-in-Whole c).In-Whole in
    let row = c.write_row.ensures.row (length c.self.inside.owners.items) h.holds.0.long (kept_whole _ _ _ _ _ _ h.holds.0 h.there h.is).0 in
    let P : List Kept → Type 0 = λ ks. Holds c.self.inside.width ks c.write_row.new.wholes.items c.self.inside.owners.items (vec_capacity c.write_row.new.wholes) (vec_capacity c.self.inside.owners) in
    subst P (sym (set_same _ c.args.slot (kept.Whole c.in-Whole.i) h.is)) (whole_holds c.self.inside.width _ _ _ _ _ _ _ h.holds row.as_long c.write_row.ensures.room)

pub returns-in-Whole : goal.returns-in-Whole
returns-in-Whole c =
    let h = whole (goal.at.returns-in-Whole c).In-Whole in
    let row = c.write_row.ensures.row (length c.self.inside.owners.items) h.holds.0.long (kept_whole _ _ _ _ _ _ h.holds.0 h.there h.is).0 in
    let P : List Kept → Type 0 = λ ks. IsSlotChanged (Writes c.args.at c.args.bit) c.args.slot c.args.self.now (shown c.self.inside.width c.write_row.new.wholes.items ks) in
    subst P (sym (set_same _ c.args.slot (kept.Whole c.in-Whole.i) h.is)) (whole_seen (Writes c.args.at c.args.bit) c.self.inside.width c.args.slot c.in-Whole.i _ _ _ _ _ _ _ h row)

pub returns-else-bit : goal.returns-else-bit
returns-else-bit c =
    let h = part (goal.at.returns-else-bit c).In-Part in
    let p = c.in-Part.part in
    let w : ℕ = c.self.inside.width in
    let is = kept_part _ _ _ _ _ _ h.holds.0 h.there h.is in
    let P : Bool → Type 0 = λ b. Writes c.args.at b (part_row w p) (part_row w p) in
    let T : Bool → Type 0 = λ b. IsTrue b in
    let off : c.args.bit ≡ false = c.if-bit.false in
    let width : w ≡ c.args.self.now.width = ap (λ (v : WordsInSlots). v.width) c.self.view_is in
    let out : p.start ≤ c.args.at / 64 → c.args.at / 64 < p.start + length p.words → ⊥ = λ from to. false≢true (subst T c.if-has.false (c.has.ensures.1 (from, omega (arith, to, is.four)))) in
    part_seen (Writes c.args.at c.args.bit) w c.args.slot _ _ _ _ _ _ _ _ h is
    (subst P (sym off) (unkept_written p.start (w - (p.start + 4)) c.args.at p.words (omega (arith, c.requires.place, width, is.four, is.ends)) out))
