use Rattle.std.proofs.Common.{◌≡◌, ◌+◌, ◌-◌, ◌*◌, ◌++◌, ◌∙◌, ap, arith, sym, length, drop, take, replicate, rules, List, ℕ, vec_len}
use Rattle.std.proofs.lemmas.List.{length-drop, length-take-le, take-take, take_at}
use Rattle.std.specs.Vec.{vec_capacity}
use Rattle.bits.specs.declared.whole_rows.Kept.TheVariants as kept
use Rattle.bits.specs.steps.Held.{WordsInSlots}
use Rattle.bits.proofs.laws.PartLaws.{padded_front}
use Rattle.bits.proofs.laws.StoredLaws.{IsFound, found, row_found, kept_part, whole_within}
use Rattle.bits.proofs.slot_words.SlotWords.row.Goals.{In-Part, In-Whole}
use Rattle.bits.proofs.slot_words.SlotWords.row.Goals as goal

part : (c : In-Part) → IsFound c.self.inside.width c.args.slot c.self.inside.kept.items c.self.inside.wholes.items c.self.inside.owners.items (vec_capacity c.self.inside.wholes) (vec_capacity c.self.inside.owners) c.args.self.now (kept.Part c.in-Part.row)
part c = found c.self.inside.width c.args.slot _ _ _ _ _ _ _ _ c.self.invariant c.self.view_is c.requires.slot c.index.ensures c.in-Part.is

whole : (c : In-Whole) → IsFound c.self.inside.width c.args.slot c.self.inside.kept.items c.self.inside.wholes.items c.self.inside.owners.items (vec_capacity c.self.inside.wholes) (vec_capacity c.self.inside.owners) c.args.self.now (kept.Whole c.in-Whole.i)
whole c = found c.self.inside.width c.args.slot _ _ _ _ _ _ _ _ c.self.invariant c.self.view_is c.requires.slot c.index.ensures c.in-Whole.is

pub overflow_mul-i : goal.overflow_mul-i
overflow_mul-i c =
    let held : vec_len c.self.inside.wholes ≡ length c.self.inside.wholes.items = search rules in
    let h = whole (goal.at.overflow_mul-i c).In-Whole in
    omega (arith, c.self.inside.wholes.ok.1, whole_within _ _ _ _ _ _ h.holds.0 h.there h.is)

pub part-requires : goal.part-requires
part-requires c =
    let h = whole (goal.at.part-requires c).In-Whole in
    omega (arith, whole_within _ _ _ _ _ _ h.holds.0 h.there h.is, c.requires.words, ap (λ (v : WordsInSlots). v.width) c.self.view_is, ap (λ (ws : List ℕ). length ws) c.deref.ensures.value)

pub returns-in-Part : goal.returns-in-Part
returns-in-Part c =
    let h = part (goal.at.returns-in-Part c).In-Part in
    let row = c.in-Part.row in
    let w : ℕ = c.self.inside.width in
    let is = kept_part _ _ _ _ _ _ h.holds.0 h.there h.is in
    padded_front row.start (w - (row.start + 4)) c.args.count row.words (omega (arith, c.requires.words, ap (λ (v : WordsInSlots). v.width) c.self.view_is, is.four, is.ends)) ∙ ap (λ (ws : List ℕ). take c.args.count ws) (sym (row_found w c.args.slot _ _ _ _ _ _ _ h))

pub returns-in-Whole : goal.returns-in-Whole
returns-in-Whole c =
    let h = whole (goal.at.returns-in-Whole c).In-Whole in
    let w : ℕ = c.self.inside.width in
    let n : ℕ = c.args.count in
    let ws : List ℕ = c.self.inside.wholes.items in
    let start : ℕ = c.in-Whole.i * w in
    let width = ap (λ (v : WordsInSlots). v.width) c.self.view_is in
    let lent : c.part.result.now ≡ take n (drop start ws) = c.part.ensures ∙ ap (λ (us : List ℕ). take n (drop start us)) c.deref.ensures.value in
    let size : length (take n (drop start ws)) ≡ n = length-take-le n (drop start ws) (omega (arith, whole_within _ _ _ _ _ _ h.holds.0 h.there h.is, c.requires.words, width, length-drop start ws)) in
    ap (λ (us : List ℕ). take n (us ++ replicate n 0)) lent ∙ take_at (take n (drop start ws)) (replicate n 0) n size ∙ sym (take-take n w (drop start ws) (omega (arith, c.requires.words, width)))
    ∙ ap (λ (us : List ℕ). take n us) (sym (row_found w c.args.slot _ _ _ _ _ _ _ h))
