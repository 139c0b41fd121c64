-- Summaries of rows: the first place at which something holds, and which of a row's words a search may pass over.
use Rattle.std.specs.Prelude.{ℕ, ◌<◌, ◌≤◌, Option, MatchOption, ◌≡◌, ◌+◌, ◌*◌, count_ones, ◌/◌, ◌%◌, Bool, false, true, List, length, slice_index, slice_index_or, All}
use Rattle.std.specs.Int.{bit_at}
use Rattle.bits.specs.steps.Packing.{all_bits, word_bits, low_bit}
use Rattle.bits.specs.steps.Held.{words_in}

-- ---- The first place at which something holds.

-- P holds nowhere from one place up to another
abbrev pub Nowhere : (ℕ → Type 0) → ℕ → ℕ → Type 0
Nowhere P from to = (k : ℕ) → from ≤ k → k < to → P k → ⊥

-- the first place, from one up to another, at which P holds
abbrev pub IsFirst : (ℕ → Type 0) → ℕ → ℕ → Option ℕ → Type 0
IsFirst P from to first = MatchOption first (Nowhere P from to) (λ n. (from ≤ n) × (n < to) × P n × Nowhere P from n)

-- the first place, from one on, at which P holds
abbrev pub FromOn : (ℕ → Type 0) → ℕ → Option ℕ → Type 0
FromOn P from first = MatchOption first ((k : ℕ) → from ≤ k → P k → ⊥) (λ n. (from ≤ n) × P n × Nowhere P from n)

-- ---- Summaries of rows: which of a row's words a search may pass over.

-- a summary has the bit of this pair of words; pairs that are 64 apart share a bit
abbrev pub HasPair : ℕ → ℕ → Type 0
HasPair summary pair = bit_at summary (pair % 64) ≡ 1

-- a summary has the bit of a word: that of its pair
abbrev pub IsMarked : ℕ → ℕ → Type 0
IsMarked summary word = HasPair summary (word / 2)

-- a summary has the bit of each word in which the row has one: it hides none
abbrev pub IsSummaryOf : ℕ → List Bool → Type 0
IsSummaryOf summary row = (p : ℕ) → slice_index_or row p false ≡ true → IsMarked summary (p / 64)

-- at least three quarters of the pairs of so many words are marked, counted in whole groups of eight words
abbrev pub AreMostMarked : ℕ → ℕ → Type 0
AreMostMarked summary words = 3 * ((words + 7) / 8) ≤ count_ones summary

-- a word without a bit
abbrev pub IsBlank : ℕ → Type 0
IsBlank word = All (λ (b : Bool). b ≡ false) (word_bits 64 word)

-- from one word on, each word whose bit a summary lacks is blank
abbrev pub HidesNoWord : ℕ → List ℕ → ℕ → Type 0
HidesNoWord summary words from = (k : ℕ) → from ≤ k → (IsMarked summary k → ⊥) → IsBlank (slice_index words k)

-- from one word up to another, each is blank and is followed by a word without its lowest bit
abbrev pub StayBlank : List ℕ → ℕ → ℕ → Type 0
StayBlank words from to = (k : ℕ) → from ≤ k → k < to → IsBlank (slice_index words k) × (low_bit (slice_index words (k + 1)) ≡ false)

-- a summary for each slot, as far as one of them
abbrev pub SumUp : ℕ → List ℕ → List ℕ → ℕ → Type 0
SumUp width summaries words upto = (slot : ℕ) → slot < upto → IsSummaryOf (slice_index summaries slot) (all_bits (words_in width words slot))

-- a summary for each of so many slots
pub record AreSummaries (width : ℕ) (summaries words : List ℕ) (count : ℕ) : Type 0 where
  pub counted : length summaries ≡ count
  pub each : SumUp width summaries words count
