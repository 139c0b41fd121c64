use Rattle.std.proofs.Common.{sym, ◌∙◌, ◌≡◌, ◌<◌, ◌-◌, ℕ, ap, length, arith, remove, subst, rules, vec_len, vec_capacity}
use Rattle.bits.specs.BitRow.{BitsAndRoom, row_room}
use Rattle.bits.specs.steps.Packing.{room_of}
use Rattle.bits.proofs.laws.RowLaws.{remove_front, front_len, freed_room, removed_vec, remove_packed, popped_packed, popped_bits}
use Rattle.bits.proofs.bit_row.BitRow.remove.Goals as goal

pub invariant_of-self : goal.invariant_of-self
invariant_of-self c =
    let n : length c.args.self.now.bits ≡ c.self.inside.len = sym (ap (λ (r : BitsAndRoom). length r.bits) c.self.view_is) ∙ front_len c.self.inside.words.items c.self.inside.len c.self.invariant in
    let in' : c.args.at < c.self.inside.len = omega (arith, c.requires) in
    let h = removed_vec c.self.inside.words.items c.deref_mut.result.now c.shift_out.new.words c.self.inside.words.len c.self.inside.len c.args.at c.deref_mut.ensures.value c.deref_mut.ensures.len c.shift_out.auto.words c.self.invariant in' c.shift_out.ensures in
    popped_packed _ _ _ c.self.inside.words.len _ _ h c.if-self-eq0.true (sym (ap length c.deref_mut.ensures.value) ∙ c.deref_mut.ensures.len) c.pop.ensures.rest

pub invariant_of-self-else-self-eq0 : goal.invariant_of-self-else-self-eq0
invariant_of-self-else-self-eq0 c =
    let n : length c.args.self.now.bits ≡ c.self.inside.len = sym (ap (λ (r : BitsAndRoom). length r.bits) c.self.view_is) ∙ front_len c.self.inside.words.items c.self.inside.len c.self.invariant in
    let in' : c.args.at < c.self.inside.len = omega (arith, c.requires) in
    let h = removed_vec c.self.inside.words.items c.deref_mut.result.now c.shift_out.new.words c.self.inside.words.len c.self.inside.len c.args.at c.deref_mut.ensures.value c.deref_mut.ensures.len c.shift_out.auto.words c.self.invariant in' c.shift_out.ensures in
    remove_packed _ _ _ _ h.packed h.within h.bits h.as_long c.if-self-eq0.false

pub returns-then-self-eq0-clause-bits : goal.returns-then-self-eq0-clause-bits
returns-then-self-eq0-clause-bits c =
    let n : length c.args.self.now.bits ≡ c.self.inside.len = sym (ap (λ (r : BitsAndRoom). length r.bits) c.self.view_is) ∙ front_len c.self.inside.words.items c.self.inside.len c.self.invariant in
    let in' : c.args.at < c.self.inside.len = omega (arith, c.requires) in
    let h = removed_vec c.self.inside.words.items c.deref_mut.result.now c.shift_out.new.words c.self.inside.words.len c.self.inside.len c.args.at c.deref_mut.ensures.value c.deref_mut.ensures.len c.shift_out.auto.words c.self.invariant in' c.shift_out.ensures in
    popped_bits _ _ _ c.self.inside.words.len _ _ h c.if-self-eq0.true (sym (ap length c.deref_mut.ensures.value) ∙ c.deref_mut.ensures.len) c.pop.ensures.rest
    ∙ ap (λ (r : BitsAndRoom). remove r.bits c.args.at) c.self.view_is

pub returns-else-self-eq0-clause-bits : goal.returns-else-self-eq0-clause-bits
returns-else-self-eq0-clause-bits c =
    let n : length c.args.self.now.bits ≡ c.self.inside.len = sym (ap (λ (r : BitsAndRoom). length r.bits) c.self.view_is) ∙ front_len c.self.inside.words.items c.self.inside.len c.self.invariant in
    let in' : c.args.at < c.self.inside.len = omega (arith, c.requires) in
    let h = removed_vec c.self.inside.words.items c.deref_mut.result.now c.shift_out.new.words c.self.inside.words.len c.self.inside.len c.args.at c.deref_mut.ensures.value c.deref_mut.ensures.len c.shift_out.auto.words c.self.invariant in' c.shift_out.ensures in
    remove_front _ _ _ _ h.packed.covers h.within h.bits ∙ ap (λ (r : BitsAndRoom). remove r.bits c.args.at) c.self.view_is

pub returns-else-self-eq0-clause-room : goal.returns-else-self-eq0-clause-room
returns-else-self-eq0-clause-room c =
    let n : length c.args.self.now.bits ≡ c.self.inside.len = sym (ap (λ (r : BitsAndRoom). length r.bits) c.self.view_is) ∙ front_len c.self.inside.words.items c.self.inside.len c.self.invariant in
    let held : vec_len c.self.inside.words ≡ length c.self.inside.words.items = search rules in
    freed_room c.args.self.now c.self.inside.words.items (vec_capacity c.self.inside.words) c.self.inside.len c.self.invariant (omega (arith, c.self.inside.words.ok.1)) n (ap (λ (r : BitsAndRoom). r.room) c.self.view_is) (omega (arith, c.requires))

pub returns-then-self-eq0-clause-room : goal.returns-then-self-eq0-clause-room
returns-then-self-eq0-clause-room c =
    let n : length c.args.self.now.bits ≡ c.self.inside.len = sym (ap (λ (r : BitsAndRoom). length r.bits) c.self.view_is) ∙ front_len c.self.inside.words.items c.self.inside.len c.self.invariant in
    let held : vec_len c.self.inside.words ≡ length c.self.inside.words.items = search rules in
    let P : ℕ → Type 0 = λ capacity. row_room c.args.self.now < room_of capacity (c.self.inside.len - 1) in
    subst P (sym c.pop.ensures.capacity) (
    freed_room c.args.self.now c.self.inside.words.items (vec_capacity c.self.inside.words) c.self.inside.len c.self.invariant (omega (arith, c.self.inside.words.ok.1)) n (ap (λ (r : BitsAndRoom). r.room) c.self.view_is) (omega (arith, c.requires)))
