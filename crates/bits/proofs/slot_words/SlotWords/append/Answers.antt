use Rattle.std.proofs.Common.{◌≡◌, ◌+◌, ◌*◌, ◌≤◌, ◌++◌, ◌∷◌, [], ◌∙◌, ap, arith, length, get_or, rules, List, ℕ, vec_len}
use Rattle.std.specs.Vec.{vec_capacity}
use Rattle.bits.specs.declared.whole_rows.Kept.{Kept}
use Rattle.bits.specs.declared.whole_rows.Kept.TheVariants as kept
use Rattle.bits.specs.steps.Held.{words_in, IsAppended}
use Rattle.bits.proofs.laws.GrownLaws.{part_appended, whole_appended}
use Rattle.bits.proofs.laws.StoredLaws.{Holds, IsFound, found, same_holds, shown, whole_within}
use Rattle.bits.proofs.slot_words.SlotWords.append.Goals.{In_ok-reserve-2, In-Part, In-Whole, After-push_reserved, After-push_reserved-in-Whole-2}
use Rattle.bits.proofs.slot_words.SlotWords.append.Goals as goal

part : (c : In-Part) → IsFound c.self.inside.width c.args.slot c.self.inside.kept.items c.self.inside.wholes.items c.self.inside.owners.items (vec_capacity c.self.inside.wholes) (vec_capacity c.self.inside.owners) c.args.self.now (kept.Part c.in-Part.part)
part c =
    found c.self.inside.width c.args.slot _ _ _ _ _ _ _ _ c.self.invariant c.self.view_is c.requires (c.index.ensures ∙ ap (λ (ks : List Kept). get_or ks c.args.slot c.index.result.now) c.in_ok-reserve-2.ensures.items) c.in-Part.is

whole : (c : In-Whole) → IsFound c.self.inside.width c.args.slot c.self.inside.kept.items c.self.inside.wholes.items c.self.inside.owners.items (vec_capacity c.self.inside.wholes) (vec_capacity c.self.inside.owners) c.args.self.now (kept.Whole c.in-Whole.i)
whole c =
    found c.self.inside.width c.args.slot _ _ _ _ _ _ _ _ c.self.invariant c.self.view_is c.requires (c.index.ensures ∙ ap (λ (ks : List Kept). get_or ks c.args.slot c.index.result.now) c.in_ok-reserve-2.ensures.items) c.in-Whole.is

room : (c : In_ok-reserve-2) → (length c.self.inside.kept.items + 1) * c.self.inside.width ≤ vec_capacity c.make_room.new.wholes
room c =
    let count : c.len-count.result ≡ length c.self.inside.kept.items = omega arith in
    let is : c.in-Some.room ≡ (length c.self.inside.kept.items + 1) * c.self.inside.width = c.in-Some.ensures.1 ∙ ap (λ n. (n + 1) * c.self.inside.width) count in
    omega (arith, is, c.in_ok-make_room.ensures.ok)

owner_room : (c : In_ok-reserve-2) → length c.self.inside.kept.items + 1 ≤ vec_capacity c.reserve.new.self
owner_room c = omega (arith, c.in_ok-reserve.ensures.ok, c.self.invariant.0.counted)

with_part : (c : After-push_reserved) → IsFound c.self.inside.width c.args.slot c.self.inside.kept.items c.self.inside.wholes.items c.self.inside.owners.items (vec_capacity c.self.inside.wholes) (vec_capacity c.self.inside.owners) c.args.self.now (kept.Part c.in-Part.part) → (length c.self.inside.kept.items + 1) * c.self.inside.width ≤ vec_capacity c.make_room.new.wholes → length c.self.inside.kept.items + 1 ≤ vec_capacity c.reserve.new.self
    → Holds c.self.inside.width c.push_reserved.new.self.items c.make_room.new.wholes.items c.reserve.new.self.items (vec_capacity c.make_room.new.wholes) (vec_capacity c.reserve.new.self)
    × IsAppended c.args.slot c.args.self.now (shown c.self.inside.width c.make_room.new.wholes.items c.push_reserved.new.self.items)
with_part c h up owner_up =
    part_appended c.self.inside.width c.args.slot _ _ _ _ _ _ _ _ _ _ _ c.in-Part.part h
    (c.push_reserved.ensures.items ∙ ap (λ (ks : List Kept). ks ++ kept.Part c.in-Part.part ∷ []) c.in_ok-reserve-2.ensures.items) c.in_ok-make_room.ensures.items c.in_ok-reserve.ensures.items up owner_up

pub invariant_of-self-in-Part : goal.invariant_of-self-in-Part
invariant_of-self-in-Part c = (with_part (goal.at.invariant_of-self-in-Part c).After-push_reserved (part (goal.at.invariant_of-self-in-Part c).In-Part) (room (goal.at.invariant_of-self-in-Part c).In_ok-reserve-2) (owner_room (goal.at.invariant_of-self-in-Part c).In_ok-reserve-2)).0

pub returns-in-Part-clause-ok : goal.returns-in-Part-clause-ok
returns-in-Part-clause-ok c = (with_part (goal.at.returns-in-Part-clause-ok c).After-push_reserved (part (goal.at.returns-in-Part-clause-ok c).In-Part) (room (goal.at.returns-in-Part-clause-ok c).In_ok-reserve-2) (owner_room (goal.at.returns-in-Part-clause-ok c).In_ok-reserve-2)).1

pub overflow_mul-i : goal.overflow_mul-i
overflow_mul-i c =
    let held : vec_len c.self.inside.wholes ≡ length c.self.inside.wholes.items = search rules in
    let h = whole (goal.at.overflow_mul-i c).In-Whole in
    omega (arith, c.self.inside.wholes.ok.1, whole_within _ _ _ _ _ _ h.holds.0 h.there h.is)

pub append-requires : goal.append-requires
append-requires c =
    let h = whole (goal.at.append-requires c).In-Whole in
    omega (arith, whole_within _ _ _ _ _ _ h.holds.0 h.there h.is, ap (λ (ws : List ℕ). length ws) c.in_ok-make_room.ensures.items)

with_whole : (c : After-push_reserved-in-Whole-2) → IsFound c.self.inside.width c.args.slot c.self.inside.kept.items c.self.inside.wholes.items c.self.inside.owners.items (vec_capacity c.self.inside.wholes) (vec_capacity c.self.inside.owners) c.args.self.now (kept.Whole c.in-Whole.i) → (length c.self.inside.kept.items + 1) * c.self.inside.width ≤ vec_capacity c.make_room.new.wholes → length c.self.inside.kept.items + 1 ≤ vec_capacity c.reserve.new.self
    → Holds c.self.inside.width c.push_reserved-in-Whole-2.new.self.items c.append.new.words.items c.push_reserved-in-Whole.new.self.items (vec_capacity c.append.new.words) (vec_capacity c.push_reserved-in-Whole.new.self)
    × IsAppended c.args.slot c.args.self.now (shown c.self.inside.width c.append.new.words.items c.push_reserved-in-Whole-2.new.self.items)
with_whole c h up owner_up =
    let w : ℕ = c.self.inside.width in
    let i : ℕ = c.in-Whole.i in
    let count : c.len-count.result ≡ length c.self.inside.kept.items = omega arith in
    let last : c.len-whole.result ≡ length c.self.inside.owners.items = omega (arith, ap (λ (os : List ℕ). length os) c.in_ok-reserve.ensures.items) in
    whole_appended w c.args.slot i c.len-whole.result _ _ _ _ _ _ _ _ _ _ _ h last
    (c.push_reserved-in-Whole-2.ensures.items ∙ ap (λ (ks : List Kept). ks ++ kept.Whole c.len-whole.result ∷ []) c.in_ok-reserve-2.ensures.items)
    (c.in_ok-append-in-Whole.ensures.ok ∙ ap (λ (ws : List ℕ). ws ++ words_in w ws i) c.in_ok-make_room.ensures.items)
    (c.push_reserved-in-Whole.ensures.items ∙ (λ j. c.in_ok-reserve.ensures.items j ++ count j ∷ []))
    (omega (arith, up, c.in_ok-append-in-Whole.ensures.room)) (omega (arith, owner_up, c.push_reserved-in-Whole.ensures.capacity))

pub invariant_of-self-in-Whole : goal.invariant_of-self-in-Whole
invariant_of-self-in-Whole c = (with_whole (goal.at.invariant_of-self-in-Whole c).After-push_reserved-in-Whole-2 (whole (goal.at.invariant_of-self-in-Whole c).In-Whole) (room (goal.at.invariant_of-self-in-Whole c).In_ok-reserve-2) (owner_room (goal.at.invariant_of-self-in-Whole c).In_ok-reserve-2)).0

pub returns-in_ok-append-in-Whole-clause-ok : goal.returns-in_ok-append-in-Whole-clause-ok
returns-in_ok-append-in-Whole-clause-ok c = (with_whole (goal.at.returns-in_ok-append-in-Whole-clause-ok c).After-push_reserved-in-Whole-2 (whole (goal.at.returns-in_ok-append-in-Whole-clause-ok c).In-Whole) (room (goal.at.returns-in_ok-append-in-Whole-clause-ok c).In_ok-reserve-2) (owner_room (goal.at.returns-in_ok-append-in-Whole-clause-ok c).In_ok-reserve-2)).1

pub invariant_of-self-in_err-append-in-Whole : goal.invariant_of-self-in_err-append-in-Whole
invariant_of-self-in_err-append-in-Whole c =
    same_holds c.self.inside.width _ _ _ _ _ _ _ _ _ _ c.self.invariant c.in_ok-reserve-2.ensures.items (c.in_err-append-in-Whole.ensures.err ∙ c.in_ok-make_room.ensures.items) c.in_ok-reserve.ensures.items
    (omega (arith, c.in_ok-make_room.ensures.capacity, c.in_err-append-in-Whole.ensures.room)) c.in_ok-reserve.ensures.capacity
