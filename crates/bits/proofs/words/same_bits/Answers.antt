use Rattle.std.proofs.Common.{◌<◌, ◌^◌, arith, refl, ap, sym, ◌≡◌, ◌≤◌, ◌∙◌, take, length, List, ℕ}
use Rattle.std.proofs.lemmas.List.{take_all, get_or_default}
use Rattle.std.proofs.lemmas.Bool.{false≢true}
use Rattle.bits.specs.steps.Packing.{all_bits}
use Rattle.bits.specs.steps.StoredRows.{words_of}
use Rattle.bits.proofs.laws.SameLaws.{same_size, same_words_at}
use Rattle.bits.proofs.words.same_bits.Goals as goal

pub loop-k-init : goal.loop-k-init
loop-k-init c = refl

pub returns : goal.returns
returns c len g h =
    let size : length (words_of c.args.one.now) ≡ length (words_of c.args.other.now) = same_size (words_of c.args.one.now) (words_of c.args.other.now) len g h in
    let le : length (words_of c.args.one.now) ≤ c.loop-k.k = omega arith in
    let whole : (words_of c.args.one.now) ≡ (words_of c.args.other.now) = sym (take_all c.loop-k.k (words_of c.args.one.now) le) ∙ c.loop-k.invariant ∙ take_all c.loop-k.k (words_of c.args.other.now) (omega arith) in
    (λ _. ap (λ (ws : List ℕ). take len (all_bits ws)) whole, λ _. refl)

pub returns-then-word-others : goal.returns-then-word-others
returns-then-word-others c len g h =
    let k : ℕ = c.loop-k.k in
    let one : List ℕ = words_of c.args.one.now in
    let other : List ℕ = words_of c.args.other.now in
    let v : ℕ = c.word-word.result in
    let w : ℕ = c.word-others.result in
    let fits : v < 2 ^ 64 = omega (arith, c.word-word.type_inv) in
    let fits' : w < 2 ^ 64 = omega (arith, c.word-others.type_inv) in
    let lt : k < length one = omega (arith, c.loop-k-test.true, c.len-k-end.ensures) in
    let lt' : k < length other = omega (arith, lt, same_size one other len g h) in (
      λ t. absurd (false≢true t),
      λ e. absurd (c.if-word-others.true (same_words_at one other len k v w g h e lt (c.word-word.ensures ∙ get_or_default one k 0 v lt) (c.word-others.ensures ∙ get_or_default other k 0 w lt') fits fits')),
    )
