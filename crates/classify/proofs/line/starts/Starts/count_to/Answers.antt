use Rattle.std.proofs.Common.{◌≡◌, ◌<◌, ◌≤◌, ◌+◌, ◌++◌, arith, ap, sym, subst, length, rules, leb, true, false, List, ℕ}
use Rattle.std.specs.Prelude.{slice_index}
use Rattle.std.proofs.lemmas.List.{length-append}
use Rattle.std.specs.List.Sorted.{IsNonDecreasingBy, IsPartitionPoint}
use Rattle.std.proofs.lemmas.List.Sorted.{IsPartitionPoint-from_clause, IsPartitionedBy-leb}
use Rattle.classify.proofs.laws.line.PlaceLaws.{AreCounts, counted_in, counted_out, sorted_low, sorted_high, point_in, point_out}
use Rattle.classify.proofs.line.starts.Starts.count_to.Goals as goal

pub count_to-narrow-requires : goal.count_to-narrow-requires
count_to-narrow-requires c =
    let S : List ℕ → Type 0 = λ xs. IsNonDecreasingBy (λ (s : ℕ). s) xs in
    sorted_low c.self.inside.narrow c.self.inside.wide.items (subst S (sym c.self.view_is) c.requires)

pub returns : goal.returns
returns c =
    let narrow : List ℕ = c.self.inside.narrow in
    let wide : List ℕ = c.self.inside.wide.items in
    let S : List ℕ → Type 0 = λ xs. IsNonDecreasingBy (λ (s : ℕ). s) xs in
    let sorted : IsNonDecreasingBy (λ (s : ℕ). s) (narrow ++ wide) = subst S (sym c.self.view_is) c.requires in
    let low = c.count_to-narrow.ensures in
    let high : IsPartitionPoint (λ s. leb s c.args.x ≡ true) (λ s. leb s c.args.x ≡ false) c.deref.result.now c.partition_point-wide.result =
    IsPartitionPoint-from_clause (λ (s : ℕ). leb s c.args.x) _ _ c.partition_point-wide.ensures.partitioned (IsPartitionedBy-leb (λ (s : ℕ). s) c.deref.result.now c.args.x (subst S (sym c.deref.ensures.value) (sorted_high narrow wide sorted))) (λ a r q k. search rules) in
    let Q : List ℕ → Type 0 = λ xs. IsPartitionPoint (λ s. leb s c.args.x ≡ true) (λ s. leb s c.args.x ≡ false) xs c.partition_point-wide.result in
    let high' = subst Q c.deref.ensures.value high in
    let high_bound : c.partition_point-wide.result ≤ length wide = omega (arith, c.partition_point-wide.ensures.bound, ap length c.deref.ensures.value) in
    let counts : AreCounts narrow wide c.args.x c.count_to-narrow.result c.partition_point-wide.result = record {
      sorted = sorted;
      low_bound = low.bound;
      high_bound = high_bound;
      low_in = low.low;
      low_out = low.high;
      high_in = point_in wide c.args.x c.partition_point-wide.result high_bound high';
      high_out = point_out wide c.args.x c.partition_point-wide.result high';
    } in
    let In : List ℕ → Type 0 = λ xs. (k : ℕ) → k < c.count_to-narrow.result + c.partition_point-wide.result → slice_index xs k ≤ c.args.x in
    let Out : List ℕ → Type 0 = λ xs. (k : ℕ) → c.count_to-narrow.result + c.partition_point-wide.result ≤ k → k < length xs → c.args.x < slice_index xs k in
    record {
      bound = omega (arith, length-append narrow wide, ap length c.self.view_is, low.bound, high_bound);
      few = omega (arith, c.self.invariant.few, low.bound, high_bound);
      low = subst In c.self.view_is (counted_in narrow wide c.args.x _ _ counts);
      high = subst Out c.self.view_is (counted_out narrow wide c.args.x _ _ counts);
    }
