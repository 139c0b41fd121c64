use Rattle.std.proofs.Common.{◌≡◌, ◌+◌, ◌*◌, ◌<◌, ◌≤◌, ◌∙◌, ap, arith, length, refl, subst, sym, List, ℕ}
use Rattle.std.proofs.lemmas.List.{take_all}
use Rattle.std.proofs.lemmas.Nat.{mul-le}
use Rattle.bits.specs.steps.Held.{words_in, WordsInSlots}
use Rattle.bits.proofs.laws.RowsLaws.{cut_more}
use Rattle.bits.proofs.laws.StoredLaws.{shown_size}
use Rattle.bits.proofs.slot_words.SlotWords.truncate.Goals as goal

pub loop-self-init : goal.loop-self-init
loop-self-init c =
    let P : WordsInSlots → Type 0 = λ v. length v.words ≡ v.count * v.width in
    let size = subst P c.self.view_is (shown_size _ _ _ _ c.self.invariant.0) in
    record {
      enough = c.requires;
      fewer = omega arith;
      width = refl;
      long = size;
      first = sym (take_all (c.args.self.now.count * c.args.self.now.width) c.args.self.now.words (omega (arith, size)));
    }

pub loop-self-preserved : goal.loop-self-preserved
loop-self-preserved c =
    let h = c.loop-self.invariant in
    let w : ℕ = c.args.self.now.width in
    let before : ℕ = c.loop-self.self.count in
    let first : List ℕ = c.args.self.now.words in
    let count : length c.self-in-loop-self.inside.kept.items ≡ before = ap (λ (v : WordsInSlots). v.count) c.self-in-loop-self.view_is in
    let test : c.args.count < before = omega arith in
    let m : ℕ = c.remove.new.self.count in
    let one : m + 1 ≡ before = c.remove.ensures.count in
    let o : before * w ≤ c.args.self.now.count * w = mul-le before w c.args.self.now.count w h.fewer (omega arith) in
    record {
      enough = omega (arith, test, one);
      fewer = omega (arith, one, h.fewer);
      width = c.remove.ensures.width ∙ h.width;
      long = h.long;
      first = cut_more w before m first c.loop-self.self.words c.remove.new.self.words (omega (arith, one)) (omega (arith, o, h.long)) h.first (c.remove.ensures.long ∙ ap (λ k. m * k) h.width) (λ s lt.
          let R : ℕ → Type 0 = λ k. words_in k c.remove.new.self.words s ≡ words_in k c.loop-self.self.words s in
          subst R h.width (c.remove.ensures.others s lt (λ e. absurd (omega (arith, e, lt, one, count)))));
    }
