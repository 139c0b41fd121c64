use Rattle.std.proofs.Common.{◌≡◌, ◌<◌, ◌-◌, ◌∙◌, ◌∷◌, ◌*◌, [], sym, ap, arith, length, replicate, rules, vec_len, subst, List, ℕ}
use Rattle.std.proofs.lemmas.List.{length-take-le}
use Rattle.bits.specs.steps.Held.{AreHeld, AreApart}
use Rattle.bits.specs.steps.Summaries.{AreSummaries}
use Rattle.bits.proofs.laws.RowsLaws.{row_there}
use Rattle.bits.proofs.laws.HeldLaws.{cleared_held, cleared_room, cleared_shown}
use Rattle.bits.proofs.laws.SlotWordsLaws.{kept_as_wide}
use Rattle.bits.proofs.laws.SummaryLaws.{cleared_summed}
use Rattle.bits.proofs.laws.SlotLaws.{apart_kept}
use Rattle.bits.proofs.rows.Rows.clear.Goals as goal

pub renumber-requires-clause-two : goal.renumber-requires-clause-two
renumber-requires-clause-two c =
    ap (λ (ss : List ℕ). length ss) c.keep_two.ensures ∙ length-take-le 2 c.self.inside.slots (row_there _ _ _ _ c.args.self.now 1 c.self.view_is c.requires)

pub renumber-requires-clause-apart : goal.renumber-requires-clause-apart
renumber-requires-clause-apart c = subst AreApart (sym c.keep_two.ensures) (apart_kept c.self.inside.slots c.self.invariant.0.apart)

pub clear-requires : goal.clear-requires
clear-requires c = omega (arith, row_there _ _ _ _ c.args.self.now 1 c.self.view_is c.requires, c.self.invariant.2)

pub invariant_of-self : goal.invariant_of-self
invariant_of-self c =
    let w : ℕ = c.self.inside.words.width in
    let some : 1 < length c.self.inside.slots = row_there _ _ _ _ c.args.self.now 1 c.self.view_is c.requires in
    let count : vec_len c.truncate.new.self ≡ length c.truncate.new.self.items = search rules in
    let two : vec_len c.truncate.new.self ≡ 2 =
    count ∙ ap (λ (ss : List ℕ). length ss) c.truncate.ensures.items ∙ length-take-le 2 c.self.inside.summaries.items (omega (arith, some, c.self.invariant.1.counted)) in
    let summaries : c.fill.new.self.items ≡ 0 ∷ 0 ∷ [] = c.fill.ensures.items (λ y e. e) ∙ ap (λ n. replicate n 0) two in
    let P : List ℕ → List ℕ → ℕ → Type 0 = λ sums ws n. AreHeld 0 w c.renumber.new.slots ws × AreSummaries w sums ws n in
    let Q : List ℕ → Type 0 = λ sums. P sums c.clear.new.self.words (length c.renumber.new.slots) in
    let R : List ℕ → Type 0 = λ ws. P (0 ∷ 0 ∷ []) ws (length c.renumber.new.slots) in
    let S : ℕ → Type 0 = λ n. P (0 ∷ 0 ∷ []) (replicate (2 * w) 0) n in
    let both = subst Q (sym summaries) (subst R (sym c.clear.ensures.words) (subst S (sym c.renumber.ensures.two) (cleared_held w c.renumber.new.slots c.self.invariant.0.few c.renumber.ensures, cleared_summed w))) in
    kept_as_wide _ _ _ _ _ c.clear.ensures.width (c.clear.ensures.count ∙ sym c.renumber.ensures.two) both.0 both.1

pub returns-clause-rows : goal.returns-clause-rows
returns-clause-rows c = cleared_shown c.clear.new.self.width c.renumber.new.slots c.clear.new.self.words c.renumber.ensures.two

pub returns-clause-room : goal.returns-clause-room
returns-clause-room c = ap (λ w. 64 * w - 0) c.clear.ensures.width ∙ cleared_room _ _ _ _ c.args.self.now c.self.invariant.0 c.self.view_is (omega (arith, c.requires))
