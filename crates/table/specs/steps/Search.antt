-- The search for a path: the marks on keys, and the keys that were reached, in the order in which their chains are visited.
use Rattle.std.specs.Prelude.{◌≡◌, ◌⊎◌, ℕ, ◌<◌, Bool, true, false, List, [], ◌∷◌, ◌++◌, length, slice_index_or, slice_index, slice_set, Contains}
use Rattle.std.specs.Prelude.{Option, Some, IsTrue, IsFalse}
use Rattle.table.specs.chains.Sound.{Leads}
use Rattle.table.specs.steps.Kept.{IsIn, stored_at, listed}
use Rattle.table.specs.steps.StoredChains.{StoredChain, key_in}
use Rattle.table.specs.declared.chain.entry.Entry.{Entry}

-- the key is marked
abbrev pub IsSeen : List Bool → ℕ → Type 0
IsSeen seen key = IsTrue (slice_index_or seen key false)

-- the marked keys are those that were reached; these are keys of the index, each reached once
pub record IsMarked (order : List ℕ) (seen : List Bool) (reached : List ℕ) : Type 0 where
  pub within : (key : ℕ) → IsIn order key → key < length seen
  pub known : (key : ℕ) → IsIn reached key → IsIn order key
  pub marked : (key : ℕ) → IsIn reached key → IsSeen seen key
  pub only : (key : ℕ) → IsSeen seen key → IsIn reached key
  pub apart : (i j : ℕ) → i < length reached → j < length reached → slice_index reached i ≡ slice_index reached j → i ≡ j

-- the chains that these rules lead to are marked
abbrev pub AreMarked : List Entry → List Bool → Type 0
AreMarked entries seen = (e : Entry) (key : ℕ) → Contains entries e → key_in e.flow ≡ Some key → IsSeen seen key

-- a search from a chain, which was reached first: paths lead to all keys that were reached, and the chains of the first of these
-- were visited
pub record IsSearch (slots : List (Option StoredChain)) (order : List ℕ) (from : ℕ) (seen : List Bool) (reached : List ℕ) (at : ℕ) : Type 0 where
  pub marked : IsMarked order seen reached
  pub some : 0 < length reached
  pub first : slice_index reached 0 ≡ from
  pub led : (key : ℕ) → IsIn reached key → Leads (listed slots order) (stored_at slots from).name (stored_at slots key).name
  pub visited : (i : ℕ) → i < at → AreMarked (stored_at slots (slice_index reached i)).entries seen

-- marking a key: if it is marked already nothing changes, else it is marked and is the last that was reached
abbrev pub Marks : ℕ → List Bool → List ℕ → List Bool → List ℕ → Type 0
Marks key seen reached seen' reached' =
    (IsSeen seen key × (seen' ≡ seen) × (reached' ≡ reached))
    ⊎ (IsFalse (slice_index_or seen key false) × (seen' ≡ slice_set seen key true) × (reached' ≡ reached ++ key ∷ []))
