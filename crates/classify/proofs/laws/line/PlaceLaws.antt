-- The place of a number on a line, by the starts that are at or before it.
use Rattle.std.proofs.Common.{◌≡◌, inl, inr, ℕ, ap, true, false, ◌+◌, ◌^◌, ◌∷◌, take, drop, ◌-◌, ◌<◌, ◌≤◌, List, ◌++◌, length, get_or, refl, ◌∙◌, arith, subst, zero, suc, []}
use Rattle.std.specs.Prelude.{slice_index, insert, All}
use Rattle.std.proofs.lemmas.List.Elements.{All-append, All-cons, All-drop, All-get_or, All-take}
use Rattle.std.proofs.lemmas.List.{get_or_append_left, get_or-append_right, length-append, length-map}
use Rattle.std.proofs.lemmas.Bool.{cases_lt, leb-true, leb-false}
use Rattle.std.proofs.Math.Dec.{leb}
use Rattle.std.specs.List.Sorted.{IsNonDecreasingBy, IsPartitionPoint}
use Rattle.classify.specs.Line.{starts}
use Rattle.classify.specs.steps.Pieces.{IsRisingFrom, IsRising}
use Rattle.classify.proofs.laws.line.EditLaws.{Cut}

-- ---- Numbers in two parts, one after the other.

-- how many numbers of each part are x or less
pub record AreCounts (low high : List ℕ) (x a b : ℕ) : Type 0 where
  pub sorted : IsNonDecreasingBy (λ (s : ℕ). s) (low ++ high)
  pub low_bound : a ≤ length low
  pub high_bound : b ≤ length high
  pub low_in : (k : ℕ) → k < a → slice_index low k ≤ x
  pub low_out : (k : ℕ) → a ≤ k → k < length low → x < slice_index low k
  pub high_in : (k : ℕ) → k < b → slice_index high k ≤ x
  pub high_out : (k : ℕ) → b ≤ k → k < length high → x < slice_index high k

-- each part of rising numbers rises
pub sorted_low : (low high : List ℕ) → IsNonDecreasingBy (λ (s : ℕ). s) (low ++ high) → IsNonDecreasingBy (λ (s : ℕ). s) low
sorted_low low high h = λ i j d le lt.
    let n : length (low ++ high) ≡ length low + length high = length-append low high in
    omega (arith, get_or_append_left low high d i (omega arith), get_or_append_left low high d j lt, h i j d le (omega arith))

pub sorted_high : (low high : List ℕ) → IsNonDecreasingBy (λ (s : ℕ). s) (low ++ high) → IsNonDecreasingBy (λ (s : ℕ). s) high
sorted_high low high h = λ i j d le lt.
    let n : length (low ++ high) ≡ length low + length high = length-append low high in
    let one : length low + i - length low ≡ i = omega arith in
    let two : length low + j - length low ≡ j = omega arith in
    let left : get_or (low ++ high) (length low + i) d ≡ get_or high i d = get_or-append_right low high (length low) (length low + i) d refl (omega arith) ∙ ap (λ k. get_or high k d) one in
    let right : get_or (low ++ high) (length low + j) d ≡ get_or high j d = get_or-append_right low high (length low) (length low + j) d refl (omega arith) ∙ ap (λ k. get_or high k d) two in
    omega (arith, left, right, h (length low + i) (length low + j) d (omega arith) (omega arith))

-- what a partition point of numbers says
pub point_in : (xs : List ℕ) (x p : ℕ) → p ≤ length xs → IsPartitionPoint (λ s. leb s x ≡ true) (λ s. leb s x ≡ false) xs p → (k : ℕ) → k < p → slice_index xs k ≤ x
point_in xs x p le point k lt = leb-true (slice_index xs k) x (point.0 k 0 (omega arith) lt)

pub point_out : (xs : List ℕ) (x p : ℕ) → IsPartitionPoint (λ s. leb s x ≡ true) (λ s. leb s x ≡ false) xs p → (k : ℕ) → p ≤ k → k < length xs → x < slice_index xs k
point_out xs x p point k ge lt = leb-false (slice_index xs k) x (point.1 k 0 ge lt)

in_low : (low high : List ℕ) (k : ℕ) → k < length low → slice_index (low ++ high) k ≡ slice_index low k
in_low low high k lt = get_or_append_left low high 0 k lt

in_high : (low high : List ℕ) (k : ℕ) → length low ≤ k → slice_index (low ++ high) k ≡ slice_index high (k - length low)
in_high low high k le = get_or-append_right low high (length low) k 0 refl le

pub counted_in : (low high : List ℕ) (x a b : ℕ) → AreCounts low high x a b → (k : ℕ) → k < a + b → slice_index (low ++ high) k ≤ x
counted_in low high x a b h k lt =
    let n : length (low ++ high) ≡ length low + length high = length-append low high in
    elim (cases_lt k (length low)) [
      | inl left ↦ elim (cases_lt k a) [
        | inl inside ↦ omega (arith, in_low low high k left, h.low_in k inside)
        | inr past ↦ (
            let first : slice_index (low ++ high) k ≤ slice_index (low ++ high) (length low) = h.sorted k (length low) 0 (omega arith) (omega (arith, h.high_bound)) in
            let zero : length low - length low ≡ 0 = omega arith in
            let P : ℕ → Type 0 = λ j. slice_index (low ++ high) (length low) ≡ slice_index high j in
            omega (arith, subst P zero (in_high low high (length low) (omega arith)), h.high_in 0 (omega (arith, h.low_bound))))
      ]
      | inr right ↦ omega (arith, in_high low high k right, h.high_in (k - length low) (omega (arith, h.low_bound)))
    ]

pub counted_out : (low high : List ℕ) (x a b : ℕ) → AreCounts low high x a b → (k : ℕ) → a + b ≤ k → k < length (low ++ high) → x < slice_index (low ++ high) k
counted_out low high x a b h k ge lt =
    let n : length (low ++ high) ≡ length low + length high = length-append low high in
    elim (cases_lt k (length low)) [
      | inl left ↦ omega (arith, in_low low high k left, h.low_out k (omega arith) left)
      | inr right ↦ elim (cases_lt (k - length low) b) [
        | inl inside ↦ (
            let up : slice_index (low ++ high) a ≤ slice_index (low ++ high) k = h.sorted a k 0 (omega arith) lt in
            omega (arith, in_low low high a (omega arith), h.low_out a (omega arith) (omega arith)))
        | inr past ↦ omega (arith, in_high low high k right, h.high_out (k - length low) past (omega arith))
      ]
    ]

-- ---- edits

-- the number before a place, by the starts that are shown
pub above_at : (kept shown : List ℕ) (k x : ℕ) → shown ≡ kept → slice_index shown k < x → slice_index kept (k + 1 - 1) < x
above_at kept shown k x is low =
    let here : k + 1 - 1 ≡ k = omega arith in
    omega (arith, low, ap (λ (ss : List ℕ). slice_index ss k) is, ap (slice_index kept) here)

-- a number after a wide one, or which is wide itself where there is none before it, goes in among the wide ones
pub wide_inserted : (narrow wide : List ℕ) (k x : ℕ) → length narrow ≤ k → k ≤ length narrow + length wide → (k ≡ length narrow → 2 ^ 32 ≤ x)
    → (0 < k → slice_index (narrow ++ wide) (k - 1) < x) → All (λ y. 2 ^ 32 ≤ y) wide → All (λ y. 2 ^ 32 ≤ y) (insert wide (k - length narrow) x)
wide_inserted narrow wide k x past within first above all =
    let P : ℕ → Type 0 = λ y. 2 ^ 32 ≤ y in
    let here : 2 ^ 32 ≤ x = elim (cases_lt (length narrow) k) [
      | inl later ↦ omega (arith, above (omega (arith, later)), in_high narrow wide (k - 1) (omega (arith, later)), All-get_or P wide (k - 1 - length narrow) 0 (omega (arith, later, within)) all)
      | inr same ↦ first (omega (arith, past, same))
    ] in
    All-append P (take (k - length narrow) wide) (x ∷ drop (k - length narrow) wide) (All-take P (k - length narrow) wide all) (All-cons P x (drop (k - length narrow) wide) here (All-drop P (k - length narrow) wide all))

-- ---- The place of a number on a line, by the starts that are at or before it.

starts_from : (top low : ℕ) (line : List Cut) (i d : ℕ) → IsRisingFrom top low line → i < length (starts line) → low < get_or (starts line) i d
starts_from top low [] i d h lt = absurd (omega arith)
starts_from top low (p ∷ ps) zero d h lt = h.0
starts_from top low (p ∷ ps) (suc i) d h lt = omega (arith, h.0, starts_from top p.0 ps i d h.2 (omega arith))

rise_at : (top low : ℕ) (line : List Cut) (i j d : ℕ) → IsRisingFrom top low line → i ≤ j → j < length (starts line) → get_or (starts line) i d ≤ get_or (starts line) j d
rise_at top low [] i j d h le lt = absurd (omega arith)
rise_at top low (p ∷ ps) zero zero d h le lt = omega arith
rise_at top low (p ∷ ps) zero (suc j) d h le lt = omega (arith, starts_from top p.0 ps j d h.2 (omega arith))
rise_at top low (p ∷ ps) (suc i) zero d h le lt = absurd (omega arith)
rise_at top low (p ∷ ps) (suc i) (suc j) d h le lt = rise_at top p.0 ps i j d h.2 (omega arith) (omega arith)

pub rise_all : (top : ℕ) (line : List Cut) (i j d : ℕ) → IsRising top line → i ≤ j → j < length (starts line) → get_or (starts line) i d ≤ get_or (starts line) j d
rise_all top [] i j d h le lt = absurd (omega arith)
rise_all top (p ∷ ps) zero zero d h le lt = omega arith
rise_all top (p ∷ ps) zero (suc j) d h le lt = omega (arith, h.0, starts_from top 0 ps j d h.1 (omega arith))
rise_all top (p ∷ ps) (suc i) zero d h le lt = absurd (omega arith)
rise_all top (p ∷ ps) (suc i) (suc j) d h le lt = rise_at top 0 ps i j d h.1 (omega arith) (omega arith)

-- each start is above those before it
rise_below : (top low : ℕ) (line : List Cut) (i j d : ℕ) → IsRisingFrom top low line → i < j → j < length (starts line) → get_or (starts line) i d < get_or (starts line) j d
rise_below top low [] i j d h lt in' = absurd (omega arith)
rise_below top low (p ∷ ps) i zero d h lt in' = absurd (omega arith)
rise_below top low (p ∷ ps) zero (suc j) d h lt in' = starts_from top p.0 ps j d h.2 (omega arith)
rise_below top low (p ∷ ps) (suc i) (suc j) d h lt in' = rise_below top p.0 ps i j d h.2 (omega arith) (omega arith)

pub rise_before : (top : ℕ) (line : List Cut) (i j : ℕ) → IsRising top line → i < j → j < length line → slice_index (starts line) i < slice_index (starts line) j
rise_before top [] i j h lt in' = absurd (omega arith)
rise_before top (p ∷ ps) i zero h lt in' = absurd (omega arith)
rise_before top (p ∷ ps) zero (suc j) h lt in' = omega (arith, h.0, starts_from top 0 ps j 0 h.1 (omega (arith, length-map ps (λ (q : Cut). q.0))))
rise_before top (p ∷ ps) (suc i) (suc j) h lt in' = rise_below top 0 ps i j 0 h.1 (omega arith) (omega (arith, length-map ps (λ (q : Cut). q.0)))

pub starts_rise : (top : ℕ) (line : List Cut) → IsRising top line → IsNonDecreasingBy (λ (s : ℕ). s) (starts line)
starts_rise top line h = λ i j d le lt. rise_all top line i j d h le lt

-- the first start is 0, so some start is x or less
pub count_some : (top x n : ℕ) (line : List Cut) → IsRising top line → ((k : ℕ) → n ≤ k → k < length (starts line) → x < slice_index (starts line) k) → 0 < n
count_some top x n [] r high = absurd r
count_some top x zero (p ∷ ps) r high = absurd (omega (arith, high 0 (omega arith) (omega arith), r.0))
count_some top x (suc n) (p ∷ ps) r high = omega arith
