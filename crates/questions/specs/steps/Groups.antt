-- The numbers of leaves on a field, by verdict and decider.
use Rattle.std.specs.Prelude.{◌≡◌, ◌⊎◌, ℕ, ◌≤◌, true, List, Option, All, AllPairs, Any}
use Rattle.fields.specs.declared.numbers.field.Field.{Field}
use Rattle.fields.specs.numbers.Field.{top}
use Rattle.fields.specs.numbers.Spans.{SpanSet, has}
use Rattle.rules.specs.Boxed.{set_on}
use Rattle.table.specs.declared.verdict.Verdict.{Verdict}
use Rattle.table.specs.declared.walk.trail.Step.{Step}
use Rattle.questions.specs.Ends.{step_of}
use Rattle.questions.specs.declared.asked.reached.Reached.{Reached}
use Rattle.questions.specs.declared.walking.task.Leaf.{Leaf}

-- the leaf's verdict and decider are these
abbrev pub HasEnd : Verdict → Option Step → Leaf → Type 0
HasEnd verdict by leaf = (leaf.verdict ≡ verdict) × (step_of leaf ≡ by)

-- the entry's verdict and decider are these
abbrev pub IsNamed : Verdict → Option Step → Reached → Type 0
IsNamed verdict by entry = (entry.verdict ≡ verdict) × (entry.by ≡ by)

-- the leaf has this verdict and decider, and its box has the number on the field
abbrev pub GivesNumber : Field → Verdict → Option Step → ℕ → Leaf → Type 0
GivesNumber field verdict by x leaf = HasEnd verdict by leaf × (has (set_on field leaf.area) x ≡ true)

-- the set, with the numbers of the leaf if that has this verdict and decider
pub record IsJoined (field : Field) (verdict : Verdict) (by : Option Step) (leaf : Leaf) (old new : SpanSet) : Type 0 where
  pub greatest : new.top ≡ top field
  pub kept : (x : ℕ) → x ≤ top field → has old.intervals x ≡ true → has new.intervals x ≡ true
  pub added : (x : ℕ) → x ≤ top field → GivesNumber field verdict by x leaf → has new.intervals x ≡ true
  pub only : (x : ℕ) → x ≤ top field → has new.intervals x ≡ true → (has old.intervals x ≡ true) ⊎ GivesNumber field verdict by x leaf

-- the set has exactly the numbers of the leaves with this verdict and decider
pub record IsNumbersOf (field : Field) (leaves : List Leaf) (verdict : Verdict) (by : Option Step) (set : SpanSet) : Type 0 where
  pub greatest : set.top ≡ top field
  pub all : (x : ℕ) → x ≤ top field → Any (GivesNumber field verdict by x) leaves → has set.intervals x ≡ true
  pub only : (x : ℕ) → x ≤ top field → has set.intervals x ≡ true → Any (GivesNumber field verdict by x) leaves

-- the entry has exactly the numbers of the leaves with its verdict and decider, and there is such a leaf
pub record IsGroup (field : Field) (leaves : List Leaf) (entry : Reached) : Type 0 where
  pub numbers : IsNumbersOf field leaves entry.verdict entry.by entry.numbers
  pub some : Any (HasEnd entry.verdict entry.by) leaves

-- no two entries have the same verdict and decider
abbrev pub AreApart : List Reached → Type 0
AreApart reached = AllPairs (λ a b. IsNamed b.verdict b.by a → ⊥) reached

-- a leaf's verdict and decider are those of an entry
abbrev pub IsListed : List Reached → Leaf → Type 0
IsListed reached leaf = Any (IsNamed leaf.verdict (step_of leaf)) reached

-- one entry for each verdict and decider of the leaves
pub record AreGroups (field : Field) (leaves : List Leaf) (reached : List Reached) : Type 0 where
  pub each : All (IsGroup field leaves) reached
  pub all : All (IsListed reached) leaves
  pub one : AreApart reached

-- the entries, with one for the leaf's verdict and decider; what held of the entries still holds
pub record Lists (field : Field) (leaves : List Leaf) (leaf : Leaf) (old new : List Reached) : Type 0 where
  pub each : Any (HasEnd leaf.verdict (step_of leaf)) leaves → All (IsGroup field leaves) old → All (IsGroup field leaves) new
  pub kept : (other : Leaf) → IsListed old other → IsListed new other
  pub added : IsListed new leaf
  pub one : AreApart old → AreApart new
