use Rattle.std.proofs.Common.{◌*◌, ◌∙◌, ap, arith, replicate, set, List, ℕ}
use Rattle.bits.specs.declared.whole_rows.Kept.{Kept}
use Rattle.bits.specs.declared.whole_rows.Kept.TheVariants as kept
use Rattle.bits.specs.steps.Held.{WordsInSlots}
use Rattle.bits.specs.steps.StoredRows.{all_words}
use Rattle.bits.proofs.laws.GrownLaws.{two_blank}
use Rattle.bits.proofs.slot_words.SlotWords.clear.Goals as goal

pub returns-clause-words : goal.returns-clause-words
returns-clause-words c =
    let w : ℕ = c.self.inside.width in
    let two = ap (λ (v : WordsInSlots). v.count) c.self.view_is in
    ap (λ (ks : List Kept). all_words w c.clear.new.self.items (set (set ks 0 (kept.Part c.blank.result)) 1 (kept.Part c.blank-2.result))) c.truncate.ensures.items
    ∙ two_blank w c.self.inside.kept.items c.clear.new.self.items c.blank.result c.blank-2.result (omega (arith, two, c.requires)) c.self.invariant.0.least c.blank.ensures.start c.blank.ensures.words c.blank-2.ensures.start c.blank-2.ensures.words
    ∙ ap (λ (v : WordsInSlots). replicate (2 * v.width) 0) c.self.view_is
