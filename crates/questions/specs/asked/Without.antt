-- A table without some of its rules, and the commands that delete them (iptables(8), COMMANDS, -D).
use Rattle.std.specs.Prelude.{ℕ, ◌+◌, Bool, List, [], ◌∷◌, ◌++◌, map, IsTrue, if◌then◌else◌}
use Rattle.rules.specs.rule.Rules.{Rule}
use Rattle.table.specs.chains.Table.{Chain, Table}
use Rattle.table.specs.edits.Edits.{Edit, DeleteAt}
use Rattle.table.specs.walk.Walk.{Entry}
use Rattle.questions.specs.asked.Rule.{IsDead}
use Rattle.questions.specs.declared.foreign.need.Need.{Need}

-- the rules that stay of those after the first so many, or what is listed for them, where `goes` says of each number whether its rule goes
abbrev pub staying : {X : Type 0} → (ℕ → Bool) → ℕ → List X → List X
staying goes before [] = []
staying goes before (rule ∷ rules) =
    if goes (before + 1) then staying goes (before + 1) rules else rule ∷ staying goes (before + 1) rules

-- whether the rule with this number in the chain goes
abbrev pub goes_of : (Entry → Bool) → List ℕ → ℕ → Bool
goes_of goes chain number = goes (record { chain = chain; number = number })

-- the chain without the rules that go
abbrev pub chain_without : (Entry → Bool) → Chain → Chain
chain_without goes chain = record { name = chain.name; rules = staying (goes_of goes chain.name) 0 chain.rules }

-- the table without the rules that go; its policies and its chains stay
abbrev pub without : (Entry → Bool) → Table → Table
without goes t = record { policies = t.policies; chains = map (chain_without goes) t.chains }

-- what the rules need, listed for those that stay
abbrev pub needs_without : (Entry → Bool) → List Chain → List (List (List Need)) → List (List (List Need))
needs_without goes chains [] = []
needs_without goes [] (own ∷ needs) = []
needs_without goes (chain ∷ chains) (own ∷ needs) = staying (goes_of goes chain.name) 0 own ∷ needs_without goes chains needs

-- what the rules need, where each condition is told by another number
abbrev pub renumbered : (ℕ → ℕ) → List (List (List Need)) → List (List (List Need))
renumbered number needs =
    map (λ (own : List (List Need)). map (λ (rule : List Need). map (λ need. record { condition = number need.condition; inverted = need.inverted }) rule) own) needs

-- each rule that goes is dead
abbrev pub AreDead : Table → (Entry → Bool) → Type 0
AreDead t goes = (entry : Entry) → IsTrue (goes entry) → IsDead t entry

-- the numbers of the rules that go, of those after the first so many, the last first
abbrev pub going : (ℕ → Bool) → ℕ → List Rule → List ℕ
going goes before [] = []
going goes before (rule ∷ rules) = going goes (before + 1) rules ++ (if goes (before + 1) then (before + 1) ∷ [] else [])

-- the commands `-D chain number` for the rules of a chain that go, the last first
abbrev pub deletions_in : (Entry → Bool) → Chain → List Edit
deletions_in goes chain = map (λ number. DeleteAt chain.name number) (going (goes_of goes chain.name) 0 chain.rules)

-- those for the rules of all chains
abbrev pub deletions : (Entry → Bool) → List Chain → List Edit
deletions goes [] = []
deletions goes (chain ∷ chains) = deletions_in goes chain ++ deletions goes chains
