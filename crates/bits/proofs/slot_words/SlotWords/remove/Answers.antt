use Rattle.std.proofs.Common.{◌-◌, ◌∙◌, arith, sym, set, take, subst, List, ℕ}
use Rattle.std.proofs.lemmas.List.{get_or_read}
use Rattle.std.specs.Vec.{vec_capacity}
use Rattle.bits.specs.declared.whole_rows.Kept.{Kept}
use Rattle.bits.specs.declared.whole_rows.Kept.TheVariants as kept
use Rattle.bits.specs.steps.Held.{WordsInSlots, IsMovedInto}
use Rattle.bits.proofs.laws.LeftLaws.{IsLeft, left_holds, removed}
use Rattle.bits.proofs.laws.StoredLaws.{Holds, kept_whole, shown, slot_there}
use Rattle.bits.proofs.slot_words.SlotWords.remove.Goals.{After-index-end}
use Rattle.bits.proofs.slot_words.SlotWords.remove.Goals as goal

left : (c : After-index-end) → IsLeft c.self.inside.width c.args.slot (c.len-last.result - 1) c.free.new.kept.items c.free.new.wholes.items c.free.new.owners.items c.index-end.result.now
left c =
    let there = slot_there _ c.args.slot _ _ _ c.self.view_is c.requires in
    record {
      stored = c.free.ensures.stored;
      slot = omega (arith, c.free.ensures.freed.as_many, there);
      part = c.free.ensures.freed.part;
      count = omega (arith, c.free.ensures.freed.as_many, there);
      ends = sym (get_or_read c.free.new.kept.items (c.len-last.result - 1) c.index-end.result.now (omega (arith, c.free.ensures.freed.as_many, there)) c.index-end.ensures (kept.Whole 0));
    }

pub own-requires : goal.own-requires
own-requires c = λ i is.
    let l = left (goal.at.own-requires c).After-index-end in
    (kept_whole _ (c.len-last.result - 1) i _ _ _ l.stored (omega (arith, l.count)) (l.ends ∙ is)).0

pub invariant_of-self : goal.invariant_of-self
invariant_of-self c =
    let l = left (goal.at.invariant_of-self c).After-index-end in
    let P : List Kept → Type 0 = λ ks. Holds c.self.inside.width ks c.free.new.wholes.items c.own.new.owners.items (vec_capacity c.free.new.wholes) (vec_capacity c.own.new.owners) in
    let Q : List ℕ → Type 0 = λ os. Holds c.self.inside.width (take (c.len-last.result - 1) (set c.free.new.kept.items c.args.slot c.index-end.result.now)) c.free.new.wholes.items os (vec_capacity c.free.new.wholes) (vec_capacity c.own.new.owners) in
    subst P (sym c.truncate.ensures.items) (subst Q (sym c.own.ensures.owners)
    (left_holds _ _ _ _ _ _ _ _ _ _ _ _ _ _ c.self.invariant l c.free.ensures.freed.as_many c.free.ensures.room (c.own.ensures.room ∙ c.free.ensures.owner_room)))

pub returns : goal.returns
returns c =
    let l = left (goal.at.returns c).After-index-end in
    let P : List Kept → Type 0 = λ ks. IsMovedInto c.args.slot c.args.self.now (shown c.self.inside.width c.free.new.wholes.items ks) in
    let Q : WordsInSlots → Type 0 = λ v. IsMovedInto c.args.slot v (shown c.self.inside.width c.free.new.wholes.items (take (c.len-last.result - 1) (set c.free.new.kept.items c.args.slot c.index-end.result.now))) in
    subst P (sym c.truncate.ensures.items) (subst Q c.self.view_is (removed _ _ _ _ _ _ _ _ _ _ c.self.invariant.0 c.free.ensures.freed l))
