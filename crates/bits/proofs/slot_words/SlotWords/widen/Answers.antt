use Rattle.std.proofs.Common.{◌≡◌, ◌-◌, ◌*◌, ◌++◌, ◌∙◌, ap, arith, length, replicate, subst, List, ℕ}
use Rattle.bits.specs.steps.Held.{words_in, WordsInSlots, IsWidened}
use Rattle.bits.proofs.laws.GrownLaws.{slots_widened, widened_stored}
use Rattle.bits.proofs.laws.StoredLaws.{shown}
use Rattle.bits.proofs.slot_words.SlotWords.widen.Goals as goal

pub returns-clause-ok : goal.returns-clause-ok
returns-clause-ok c =
    let w : ℕ = c.self.inside.width in
    let v : ℕ = 2 * w in
    let ws : List ℕ = c.self.inside.wholes.items in
    let us : List ℕ = c.make_room.new.wholes.items in
    let os : List ℕ = c.self.inside.owners.items in
    let count : c.len-2.result ≡ length os = omega arith in
    let more : v - w ≡ w = omega arith in
    let long : length us ≡ length os * v = ap (λ (xs : List ℕ). length xs) c.in_ok-make_room.ensures.items ∙ c.in_ok-wide.ensures.len ∙ ap (λ n. n * v) count in
    let wide = widened_stored w v c.self.inside.kept.items ws us os c.self.invariant.0 (omega arith) (omega (arith, c.if-wider-gt-MOST_WORDS.false)) long in
    let P : WordsInSlots → Type 0 = λ old. IsWidened old (shown v us c.self.inside.kept.items) in
    subst P c.self.view_is (slots_widened w c.self.inside.kept.items ws us os c.self.invariant.0 wide (λ i lt.
    ap (λ (xs : List ℕ). words_in v xs i) c.in_ok-make_room.ensures.items ∙ c.in_ok-wide.ensures.rows i (omega (arith, lt, count)) ∙ ap (λ (xs : List ℕ). words_in w xs i ++ replicate (v - w) 0) c.deref.ensures.value
    ∙ ap (λ k. words_in w ws i ++ replicate k 0) more))
