use Rattle.std.proofs.Common.{◌<◌, arith, sym, ◌∙◌, get_or, length, subst, List, ℕ}
use Rattle.std.proofs.lemmas.Bool.{false≢true}
use Rattle.bits.specs.steps.StoredRows.{words_of}
use Rattle.bits.proofs.laws.SameLaws.{WordsAlike, alike_more, alike_word}
use Rattle.bits.proofs.words.same_beside.Goals as goal

pub returns-then-not-same_word_beside : goal.returns-then-not-same_word_beside
returns-then-not-same_word_beside c =
    let one : List ℕ = words_of c.args.one.now in
    let other : List ℕ = words_of c.args.other.now in
    let lt : c.loop-k.k < length one = omega (arith, c.loop-k-test.true, c.len-k-end.ensures) in
    let P : ℕ → Type 0 = λ v. WordsAlike c.args.at c.loop-k.k v c.word-in-loop-k.result in
    let Q : ℕ → Type 0 = λ w. WordsAlike c.args.at c.loop-k.k (get_or one c.loop-k.k 0) w in (
      λ t. absurd (false≢true t),
      λ h. absurd (false≢true (sym c.if-not-same_word_beside.true
          ∙ c.same_word_beside.ensures.1 (subst P (sym c.word.ensures) (subst Q (sym c.word-in-loop-k.ensures) (alike_word c.args.at _ c.loop-k.k one other lt (omega (arith, lt, c.requires)) (omega (arith, lt)) h))))),
    )

pub loop-k-preserved : goal.loop-k-preserved
loop-k-preserved c =
    let one : List ℕ = words_of c.args.one.now in
    let other : List ℕ = words_of c.args.other.now in
    let lt : c.loop-k.k < length one = omega (arith, c.loop-k-test.true, c.len-k-end.ensures) in
    let P : ℕ → Type 0 = λ v. WordsAlike c.args.at c.loop-k.k v (get_or other c.loop-k.k 0) in
    let Q : ℕ → Type 0 = λ w. WordsAlike c.args.at c.loop-k.k c.word.result w in
    alike_more c.args.at c.loop-k.k one other lt (omega (arith, lt, c.requires)) c.loop-k.invariant (subst P c.word.ensures (subst Q c.word-in-loop-k.ensures (c.same_word_beside.ensures.0 c.if-not-same_word_beside.false)))
