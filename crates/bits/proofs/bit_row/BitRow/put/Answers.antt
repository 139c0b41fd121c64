use Rattle.std.proofs.Common.{sym, ◌∙◌, ◌≡◌, ◌≤◌, ap, length, arith, rules, insert, vec_len, vec_capacity}
use Rattle.bits.specs.BitRow.{BitsAndRoom, places_left}
use Rattle.bits.specs.steps.Packing.{room_of}
use Rattle.bits.proofs.laws.RowLaws.{front_len, room_covers, put_packed_vec, put_bits_vec, zero_packed, zero_bits}
use Rattle.bits.proofs.bit_row.BitRow.put.Goals as goal

pub open_word-requires-clause-room : goal.open_word-requires-clause-room
open_word-requires-clause-room c =
    let n : length c.args.self.now.bits ≡ c.self.inside.len = sym (ap (λ (r : BitsAndRoom). length r.bits) c.self.view_is) ∙ front_len c.self.inside.words.items c.self.inside.len c.self.invariant in
    let same : room_of (vec_capacity c.self.inside.words) c.self.inside.len ≡ c.args.self.now.room = ap (λ (r : BitsAndRoom). r.room) c.self.view_is in
    let held : vec_len c.self.inside.words ≡ length c.self.inside.words.items = search rules in
    let most : places_left c.self.inside.len ≤ room_of (vec_capacity c.self.inside.words) c.self.inside.len =
    room_covers c.self.inside.words.items (vec_capacity c.self.inside.words) c.self.inside.len c.self.invariant (omega (arith, c.self.inside.words.ok.1)) in
    let left : places_left (length c.args.self.now.bits) ≡ places_left c.self.inside.len = ap places_left n in
    omega (arith, c.requires.room)

pub invariant_of-self-2 : goal.invariant_of-self-2
invariant_of-self-2 c =
    let n : length c.args.self.now.bits ≡ c.self.inside.len = sym (ap (λ (r : BitsAndRoom). length r.bits) c.self.view_is) ∙ front_len c.self.inside.words.items c.self.inside.len c.self.invariant in
    let in' : c.args.at ≤ c.self.inside.len = omega (arith, c.requires.place) in
    put_packed_vec c.self.inside.words.items c.open_word.new.words.items c.deref_mut.result.now c.shift_in-last.new.words c.open_word.new.words.len c.self.inside.len c.args.at c.args.bit c.shift_in-last.result
    c.deref_mut.ensures.value c.deref_mut.ensures.len c.shift_in-last.auto.words c.open_word.ensures.open in' c.shift_in-last.ensures

pub returns-clause-bits : goal.returns-clause-bits
returns-clause-bits c =
    let n : length c.args.self.now.bits ≡ c.self.inside.len = sym (ap (λ (r : BitsAndRoom). length r.bits) c.self.view_is) ∙ front_len c.self.inside.words.items c.self.inside.len c.self.invariant in
    let in' : c.args.at ≤ c.self.inside.len = omega (arith, c.requires.place) in
    put_bits_vec c.self.inside.words.items c.open_word.new.words.items c.deref_mut.result.now c.shift_in-last.new.words c.open_word.new.words.len c.self.inside.len c.args.at c.args.bit c.shift_in-last.result
    c.deref_mut.ensures.value c.deref_mut.ensures.len c.shift_in-last.auto.words c.open_word.ensures.open in' c.shift_in-last.ensures
    ∙ ap (λ (r : BitsAndRoom). insert r.bits c.args.at c.args.bit) c.self.view_is

pub invariant_of-self : goal.invariant_of-self
invariant_of-self c = zero_packed c.self.inside.words.items c.self.inside.len c.self.invariant c.if-self-ne0.true

pub returns-then-self-ne0-clause-bits : goal.returns-then-self-ne0-clause-bits
returns-then-self-ne0-clause-bits c =
    zero_bits c.self.inside.words.items c.self.inside.len c.args.at c.args.bit c.self.invariant c.if-self-ne0.true c.if-at-self.true c.if-not-bit.true ∙ ap (λ (r : BitsAndRoom). insert r.bits c.args.at c.args.bit) c.self.view_is

pub returns-clause-room : goal.returns-clause-room
returns-clause-room c =
    let same : room_of (vec_capacity c.self.inside.words) c.self.inside.len ≡ c.args.self.now.room = ap (λ (r : BitsAndRoom). r.room) c.self.view_is in
    omega (arith, c.open_word.ensures.more)
