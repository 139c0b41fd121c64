-- The rules that two tables share: chains of one name beside each other, with marks on the rules that only one of them has.
use Rattle.std.specs.Prelude.{◌≡◌, ◌⊎◌, ℕ, ◌+◌, ◌-◌, ◌<◌, ◌≤◌, Bool, true, false, IsTrue, List, [], ◌∷◌, ◌++◌, length, slice_index_or, Option, None, Some, if◌then◌else◌}
use Rattle.std.specs.Str.{bytes_eq}
use Rattle.rules.specs.rule.Rules.{Rule, empty_rule}
use Rattle.table.specs.chains.Table.{Chain, Table, chain_at, rules_of}
use Rattle.table.specs.declared.walk.trail.Step.{Step}
use Rattle.table.specs.walk.Walk.{Entry}
use Rattle.questions.specs.Ends.{IsRule}
use Rattle.questions.specs.Foreign.{needs_at}
use Rattle.questions.specs.Leaves.{name_at}
use Rattle.questions.specs.Scopes.{Whole}
use Rattle.questions.specs.declared.asked.pairs.Next.{Next}
use Rattle.questions.specs.declared.asked.pairs.Next.TheVariants as next
use Rattle.questions.specs.declared.asked.pairs.Pair.{Pair}
use Rattle.questions.specs.declared.asked.pairs.Places.{Places}
use Rattle.questions.specs.declared.asked.pairs.Side.{Side}
use Rattle.questions.specs.declared.asked.pairs.Side.TheVariants as side

-- the rules without a mark; a rule beyond the marks counts as marked
abbrev pub unmarked : List Bool → List Rule → List Rule
unmarked [] rules = []
unmarked (mark ∷ marks) [] = []
unmarked (mark ∷ marks) (rule ∷ rules) = if mark then unmarked marks rules else rule ∷ unmarked marks rules

-- whether the rule of a number is marked, or stands beyond the marks
abbrev pub is_marked : List Bool → ℕ → Bool
is_marked marks number = slice_index_or marks (number - 1) true

-- both chains are there
pub record AreThere (old new : Table) (chains : Places) : Type 0 where
  pub first : chains.old < length old.chains
  pub second : chains.new < length new.chains

-- both chains have another rule behind those that were passed
pub record HaveNext (old new : Table) (chains passed : Places) : Type 0 where
  pub there : AreThere old new chains
  pub first : passed.old < length (chain_at old chains.old).rules
  pub second : passed.new < length (chain_at new chains.new).rules

-- the next rules are equal
abbrev pub AreEqualAt : Table → Table → Places → Places → Type 0
AreEqualAt old new chains passed =
    (d : Rule) → slice_index_or (chain_at old chains.old).rules passed.old d ≡ slice_index_or (chain_at new chains.new).rules passed.new d

-- the next rules are equal, and need the same
pub record AreSameAt (old new : Whole) (chains passed : Places) : Type 0 where
  pub rules : slice_index_or (chain_at old.table chains.old).rules passed.old empty_rule ≡ slice_index_or (chain_at new.table chains.new).rules passed.new empty_rule
  pub needs : needs_at old.needs chains.old passed.old ≡ needs_at new.needs chains.new passed.new

-- so many rules further on in one of the chains
abbrev pub further : Side → Places → ℕ → Places
further side.Went passed n = record { old = passed.old + n; new = passed.new }
further side.Came passed n = record { old = passed.old; new = passed.new + n }

-- so many rules further on in one of the chains stands a rule that is equal to the next one of the other chain, and needs the same
pub record IsAhead (old new : Whole) (chains passed : Places) (own : Side) (n : ℕ) : Type 0 where
  pub there : HaveNext old.table new.table chains (further own passed n)
  pub same : AreSameAt old new chains (further own passed n)

-- in neither chain does such a rule stand, up to so many rules further on
abbrev pub NoneAhead : Whole → Whole → Places → Places → ℕ → Type 0
NoneAhead old new chains passed n = (own : Side) (k : ℕ) → 1 ≤ k → k ≤ n → IsAhead old new chains passed own k → ⊥

-- the nearest such rule stands in this chain, at most 1,023 rules further on
pub record IsNearest (old new : Whole) (chains passed : Places) (own : Side) : Type 0 where
  pub steps : ℕ
  pub first : 1 ≤ steps
  pub last : steps ≤ 1023
  pub ahead : IsAhead old new chains passed own steps
  pub before : NoneAhead old new chains passed (steps - 1)

-- what stands next: equal rules; or rules that aren't, of which the first chain's is passed if the nearest rule that is equal to the second's stands
-- there, or none stands near in either, and the second chain's if one stands there
abbrev pub IsNext : Whole → Whole → Places → Places → Next → Type 0
IsNext old new chains passed next.Shared = AreSameAt old new chains passed
IsNext old new chains passed next.Went =
    (AreSameAt old new chains passed → ⊥) × (IsNearest old new chains passed side.Went ⊎ NoneAhead old new chains passed 1023)
IsNext old new chains passed next.Came = (AreSameAt old new chains passed → ⊥) × IsNearest old new chains passed side.Came

-- the marks are those of before, and those of what stands next
abbrev pub Adds : Next → Pair → Pair → Type 0
Adds next.Shared old new =
    (new.place ≡ old.place) × (new.went.items ≡ old.went.items ++ false ∷ []) × (new.came.items ≡ old.came.items ++ false ∷ [])
Adds next.Went old new =
    (new.place ≡ old.place) × (new.went.items ≡ old.went.items ++ true ∷ []) × (new.came.items ≡ old.came.items)
Adds next.Came old new =
    (new.place ≡ old.place) × (new.went.items ≡ old.went.items) × (new.came.items ≡ old.came.items ++ true ∷ [])

-- the chains of the pair's places have the same rules without a mark
pub record IsBeside (old new : Table) (chains : Places) (pair : Pair) : Type 0 where
  pub place : pair.place ≡ chains.old
  pub shared : unmarked pair.went.items (chain_at old chains.old).rules ≡ unmarked pair.came.items (chain_at new chains.new).rules

-- the name of a pair's chain
abbrev pub name_of : List Chain → Pair → List ℕ
name_of chains pair = name_at chains pair.place

-- the pair's chain is there
abbrev pub HasPlace : Table → Pair → Type 0
HasPlace old pair = pair.place < length old.chains

-- the chains of the pair's name have the same rules without a mark
pub record IsPaired (old new : Table) (pair : Pair) : Type 0 where
  pub placed : HasPlace old pair
  pub shared : unmarked pair.went.items (rules_of old.chains (name_of old.chains pair)) ≡ unmarked pair.came.items (rules_of new.chains (name_of old.chains pair))

-- the first pair of a name
abbrev pub pair_named : List Chain → List Pair → List ℕ → Option Pair
pair_named chains [] name = None
pair_named chains (pair ∷ pairs) name = if bytes_eq (name_of chains pair) name then Some pair else pair_named chains pairs name

-- its marks on one side; without a pair no rule is shared
abbrev pub marks_on : Side → Option Pair → List Bool
marks_on own None = []
marks_on side.Went (Some pair) = pair.went.items
marks_on side.Came (Some pair) = pair.came.items

-- whether the rule of an entry is one that the other table lacks
abbrev pub unshared : Side → List Chain → List Pair → Entry → Bool
unshared own chains pairs entry = is_marked (marks_on own (pair_named chains pairs entry.chain)) entry.number

-- a rule of the table that is marked by its number
abbrev pub IsMarkedRule : Table → List Bool → Step → Type 0
IsMarkedRule t marks step = IsRule t step × IsTrue (is_marked marks step.number)
