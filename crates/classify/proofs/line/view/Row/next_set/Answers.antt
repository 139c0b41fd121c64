use Rattle.std.proofs.Common.{◌+◌, ◌-◌, ◌*◌, ◌∷◌, [], ◌∙◌, ap, arith, Bool, List, length, take, sym, ◌≡◌, subst, ℕ}
use Rattle.classify.specs.NextMatch.{next_match}
use Rattle.classify.specs.steps.CommonPlaces.{ArePacked, AreWide, HaveAll, bits_of, SumUpAll}
use Rattle.bits.specs.steps.Summaries.{IsFirst}
use Rattle.classify.proofs.laws.search.NextLaws.{next_of_one, one_sums_up, one_wide}
use Rattle.classify.proofs.laws.search.SearchLaws.{packed_long}
use Rattle.classify.proofs.line.view.Row.next_set.Goals as goal

pub first_after-requires-clause-wide : goal.first_after-requires-clause-wide
first_after-requires-clause-wide c =
    let P : ℕ → Type 0 = λ n. AreWide n (c.self.inside.words ∷ []) in
    subst P (sym c.len.ensures) (one_wide c.self.inside.words (c.self.inside.margin + c.self.inside.len) c.self.invariant.0)

pub first_after-requires-clause-summed : goal.first_after-requires-clause-summed
first_after-requires-clause-summed c =
    let bits : List Bool = take (c.self.inside.margin + c.self.inside.len) (bits_of c.self.inside.words) in
    let n : length bits ≡ c.self.inside.margin + c.self.inside.len = packed_long c.self.inside.words (c.self.inside.margin + c.self.inside.len) c.self.invariant.0 in
    let P : ℕ → Type 0 = λ k. ArePacked k c.self.inside.words in
    let Q : ℕ → Type 0 = λ k. SumUpAll c.self.inside.words.summary k (c.self.inside.words ∷ []) in
    subst Q (sym c.len.ensures) (one_sums_up c.self.inside.words bits (subst P (sym n) c.self.invariant.0) (ap (λ (k : ℕ). take k (bits_of c.self.inside.words)) n) c.self.invariant.1)

pub returns : goal.returns
returns c =
    let bits : List Bool = take (c.self.inside.margin + c.self.inside.len) (bits_of c.self.inside.words) in
    let n : length bits ≡ c.self.inside.margin + c.self.inside.len = packed_long c.self.inside.words (c.self.inside.margin + c.self.inside.len) c.self.invariant.0 in
    let P : ℕ → Type 0 = λ k. ArePacked k c.self.inside.words in
    let Q : ℕ → Type 0 = λ k. IsFirst (λ p. HaveAll (c.self.inside.words ∷ []) (c.self.inside.margin + p)) c.args.from (64 * k - c.self.inside.margin) c.first_after.result in
    next_of_one c.self.inside.words bits c.self.inside.margin c.args.from c.first_after.result (subst P (sym n) c.self.invariant.0) (ap (λ (k : ℕ). take k (bits_of c.self.inside.words)) n) (omega arith) (subst Q c.len.ensures c.first_after.ensures)
    ∙ ap (λ (b : List Bool). next_match (λ bit. bit) b c.args.from) c.self.view_is
