use Rattle.std.proofs.Common.{sym, ◌∙◌, ap, length, ◌≡◌, arith, rules, vec_len, vec_capacity}
use Rattle.bits.specs.BitRow.{BitsAndRoom, places_left}
use Rattle.bits.specs.steps.Packing.{room_of}
use Rattle.bits.proofs.laws.RowLaws.{front_len}
use Rattle.bits.proofs.bit_row.BitRow.reserve.Goals as goal

pub returns-then-len-ge-MOST_WORDS-clause-there : goal.returns-then-len-ge-MOST_WORDS-clause-there
returns-then-len-ge-MOST_WORDS-clause-there c =
    let n : length c.args.self.now.bits ≡ c.self.inside.len = sym (ap (λ (r : BitsAndRoom). length r.bits) c.self.view_is) ∙ front_len c.self.inside.words.items c.self.inside.len c.self.invariant in
    let same : room_of (vec_capacity c.self.inside.words) c.self.inside.len ≡ c.args.self.now.room = ap (λ (r : BitsAndRoom). r.room) c.self.view_is in
    let left : places_left (length c.args.self.now.bits) ≡ places_left c.self.inside.len = ap places_left n in
    let held : vec_len c.self.inside.words ≡ length c.self.inside.words.items = search rules in
    λ room. absurd (omega (arith, room, c.self.invariant.covers, c.self.invariant.tight, c.self.invariant.few))

pub returns-in_err-reserve-clause-there : goal.returns-in_err-reserve-clause-there
returns-in_err-reserve-clause-there c =
    let n : length c.args.self.now.bits ≡ c.self.inside.len = sym (ap (λ (r : BitsAndRoom). length r.bits) c.self.view_is) ∙ front_len c.self.inside.words.items c.self.inside.len c.self.invariant in
    let same : room_of (vec_capacity c.self.inside.words) c.self.inside.len ≡ c.args.self.now.room = ap (λ (r : BitsAndRoom). r.room) c.self.view_is in
    let left : places_left (length c.args.self.now.bits) ≡ places_left c.self.inside.len = ap places_left n in
    let held : vec_len c.self.inside.words ≡ length c.self.inside.words.items = search rules in
    λ room. absurd (omega (arith, room, c.in_err-reserve.ensures.full, c.self.invariant.covers, c.self.invariant.tight, c.self.invariant.few))
