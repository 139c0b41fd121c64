use Rattle.std.proofs.Common.{arith, List, ℕ, ◌<◌, ◌≤◌, ◌-◌, ◌+◌, sym, subst, length, ap}
use Rattle.std.specs.Prelude.{slice_index}
use Rattle.std.specs.List.Sorted.{IsNonDecreasingBy}
use Rattle.classify.proofs.laws.line.PieceLaws.{kept_starts, kept_long}
use Rattle.classify.proofs.laws.line.PlaceLaws.{starts_rise, count_some}
use Rattle.classify.specs.steps.Kept.{most_start}
use Rattle.classify.proofs.line.owned.OwnedLine.place_of.Goals as goal

pub returns-then-count-eq1-clause-high : goal.returns-then-count-eq1-clause-high
returns-then-count-eq1-clause-high c more =
    absurd (omega (arith, more, c.if-count-eq1.true, c.count.ensures, c.self.invariant, kept_long _ _ _ _ _ c.self.invariant c.self.view_is))

pub count_to-requires : goal.count_to-requires
count_to-requires c =
    let S : List ℕ → Type 0 = λ xs. IsNonDecreasingBy (λ (s : ℕ). s) xs in
    subst S (kept_starts _ _ _ _ _ c.self.invariant c.self.view_is) (starts_rise most_start c.args.self.now.pieces c.args.self.now.stands.rising)

pub overflow_sub-result : goal.overflow_sub-result
overflow_sub-result c =
    let ss = kept_starts _ _ _ _ _ c.self.invariant c.self.view_is in
    let P : List ℕ → Type 0 = λ xs. (k : ℕ) → c.count_to.result ≤ k → k < length xs → c.args.x < slice_index xs k in
    let some : 0 < c.count_to.result = count_some most_start c.args.x c.count_to.result c.args.self.now.pieces c.args.self.now.stands.rising (subst P (sym ss) c.count_to.ensures.high) in
    omega arith

pub returns : goal.returns
returns c =
    let ss = kept_starts _ _ _ _ _ c.self.invariant c.self.view_is in
    let long = kept_long _ _ _ _ _ c.self.invariant c.self.view_is in
    let P : List ℕ → Type 0 = λ xs. (k : ℕ) → c.count_to.result ≤ k → k < length xs → c.args.x < slice_index xs k in
    let Q : List ℕ → Type 0 = λ xs. (k : ℕ) → k < c.count_to.result → slice_index xs k ≤ c.args.x in
    let high = subst P (sym ss) c.count_to.ensures.high in
    let low = subst Q (sym ss) c.count_to.ensures.low in
    let some : 0 < c.count_to.result = count_some most_start c.args.x c.count_to.result c.args.self.now.pieces c.args.self.now.stands.rising high in
    record {
      within = omega (arith, c.count_to.ensures.bound, long);
      low = low (c.count_to.result - 1) (omega arith);
      few = omega (arith, c.count_to.ensures.few, some);
      high = λ lt. high (c.count_to.result - 1 + 1) (omega arith) (omega (arith, long, ap length ss));
    }
