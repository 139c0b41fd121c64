-- Numbers in blocks, one block after another: where a block begins, where a search of one ends, and elements moved up in one.
use Rattle.std.specs.Prelude.{◌≡◌, ℕ, ◌+◌, ◌^◌, ◌<◌, ◌≤◌, List, [], ◌∷◌, length, map, slice_index, All, ◌-◌, take, drop}
use Rattle.std.specs.List.{concat}

-- ---- A list of numbers in blocks, one after another: the first, and later ones that are looked up.

-- where each block begins in the list, the first of them at `from`
abbrev pub begins_from : ℕ → List (List ℕ) → List ℕ
begins_from from [] = []
begins_from from (block ∷ blocks) = from ∷ begins_from (from + length block) blocks

-- the first number of a block
abbrev pub head_of : List ℕ → ℕ
head_of block = slice_index block 0

-- blocks as they are kept: no later one is empty, it is known where each begins and what its first number is, and there are 2 to
-- the 32 numbers at most
pub record AreBlocks (first heads begins : List ℕ) (later : List (List ℕ)) : Type 0 where
  pub some : All (λ block. 0 < length block) later
  pub headed : heads ≡ map head_of later
  pub begun : begins ≡ begins_from (length first) later
  pub few : length first + length (concat later) ≤ 2 ^ 32

-- ---- Where among rising numbers those end that are x or less.

-- the numbers before `low` are x or less, and those from `high` on are above it
pub record AreAround (x low high : ℕ) (numbers : List ℕ) : Type 0 where
  pub order : low ≤ high
  pub within : high ≤ length numbers
  pub below : (k : ℕ) → k < low → slice_index numbers k ≤ x
  pub above : (k : ℕ) → high ≤ k → k < length numbers → x < slice_index numbers k

-- ---- Elements moved up, as far as a loop has come.

-- the elements from `end` on are those that stood `by` places lower; those before `end`, of which there are at least `by` after
-- `at`, are as before
pub record Raised (by at : ℕ) (old new : List ℕ) (end : ℕ) : Type 0 where
  pub same : length new ≡ length old
  pub after : at + by ≤ end
  pub within : end ≤ length old
  pub below : take end new ≡ take end old
  pub above : drop end new ≡ take (length old - end) (drop (end - by) old)
