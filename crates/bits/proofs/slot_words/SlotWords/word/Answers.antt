use Rattle.std.proofs.Common.{◌≡◌, ◌+◌, ◌*◌, ◌∙◌, ap, arith, get_or, sym, length, rules, List, ℕ, vec_len}
use Rattle.std.proofs.lemmas.List.{get_or_read}
use Rattle.std.specs.Vec.{vec_capacity}
use Rattle.bits.specs.declared.whole_rows.Kept.TheVariants as kept
use Rattle.bits.specs.steps.Held.{WordsInSlots}
use Rattle.bits.proofs.laws.RowsLaws.{word_in}
use Rattle.bits.proofs.laws.StoredLaws.{IsFound, found, row_found, whole_within}
use Rattle.bits.proofs.slot_words.SlotWords.word.Goals.{In-Part, In-Whole}
use Rattle.bits.proofs.slot_words.SlotWords.word.Goals as goal

part : (c : In-Part) → IsFound c.self.inside.width c.args.slot c.self.inside.kept.items c.self.inside.wholes.items c.self.inside.owners.items (vec_capacity c.self.inside.wholes) (vec_capacity c.self.inside.owners) c.args.self.now (kept.Part c.in-Part.part)
part c = found c.self.inside.width c.args.slot _ _ _ _ _ _ _ _ c.self.invariant c.self.view_is c.requires.slot c.index.ensures c.in-Part.is

whole : (c : In-Whole) → IsFound c.self.inside.width c.args.slot c.self.inside.kept.items c.self.inside.wholes.items c.self.inside.owners.items (vec_capacity c.self.inside.wholes) (vec_capacity c.self.inside.owners) c.args.self.now (kept.Whole c.in-Whole.i)
whole c = found c.self.inside.width c.args.slot _ _ _ _ _ _ _ _ c.self.invariant c.self.view_is c.requires.slot c.index.ensures c.in-Whole.is

pub overflow_mul-i : goal.overflow_mul-i
overflow_mul-i c =
    let held : vec_len c.self.inside.wholes ≡ length c.self.inside.wholes.items = search rules in
    let h = whole (goal.at.overflow_mul-i c).In-Whole in
    omega (arith, c.self.inside.wholes.ok.1, whole_within _ _ _ _ _ _ h.holds.0 h.there h.is)

pub overflow_add-i : goal.overflow_add-i
overflow_add-i c =
    let held : vec_len c.self.inside.wholes ≡ length c.self.inside.wholes.items = search rules in
    let h = whole (goal.at.overflow_add-i c).In-Whole in
    omega (arith, c.self.inside.wholes.ok.1, whole_within _ _ _ _ _ _ h.holds.0 h.there h.is, c.requires.place, ap (λ (v : WordsInSlots). v.width) c.self.view_is)

pub index-requires-in-Whole : goal.index-requires-in-Whole
index-requires-in-Whole c =
    let held : vec_len c.self.inside.wholes ≡ length c.self.inside.wholes.items = search rules in
    let h = whole (goal.at.index-requires-in-Whole c).In-Whole in
    omega (arith, held, whole_within _ _ _ _ _ _ h.holds.0 h.there h.is, c.requires.place, ap (λ (v : WordsInSlots). v.width) c.self.view_is)

pub returns-in-Part : goal.returns-in-Part
returns-in-Part c =
    c.word.ensures c.self.inside.width ∙ ap (λ (ws : List ℕ). get_or ws c.args.place 0) (sym (row_found c.self.inside.width c.args.slot _ _ _ _ _ _ _ (part (goal.at.returns-in-Part c).In-Part)))

pub returns-in-Whole : goal.returns-in-Whole
returns-in-Whole c =
    let h = whole (goal.at.returns-in-Whole c).In-Whole in
    let w : ℕ = c.self.inside.width in
    let i : ℕ = c.in-Whole.i in
    let ws : List ℕ = c.self.inside.wholes.items in
    let width = ap (λ (v : WordsInSlots). v.width) c.self.view_is in
    get_or_read ws (i * w + c.args.place) c.index-in-Whole.result.now (omega (arith, whole_within _ _ _ _ _ _ h.holds.0 h.there h.is, c.requires.place, width)) c.index-in-Whole.ensures 0
    ∙ sym (word_in w i c.args.place 0 ws (omega (arith, c.requires.place, width))) ∙ ap (λ (us : List ℕ). get_or us c.args.place 0) (sym (row_found w c.args.slot _ _ _ _ _ _ _ h))
