-- What holds of every table (iptables(8), TARGETS); the limits on numbers of rules and chains are this project's own.
use Rattle.std.specs.Prelude.{◌≡◌, ◌↔◌, ℕ, zero, suc, ◌≤◌, List, length, take, drop, Some, Contains, All, AllPairs, IsTrue, IsFalse}
use Rattle.fields.specs.values.Name.{is_name}
use Rattle.rules.specs.Printing.{TextReadsBack}
use Rattle.rules.specs.rule.Rules.{Rule}
use Rattle.table.specs.chains.Table.{Chain, Table, built_in_names, names_of, is_built_in, has_chain, rules_of, user_chains, comes_before, chain_named_by}
use Rattle.table.specs.edits.Edits.{asks_absent_interface, leads}

-- a rule of one chain names another, by `-j` or `-g`
abbrev pub Names : List Chain → List ℕ → List ℕ → Type 0
Names chains a b = (r : Rule) × Contains (rules_of chains a) r × (chain_named_by r ≡ Some b)

-- a path of so many jumps and gotos leads from one chain to another
abbrev pub Path : List Chain → ℕ → List ℕ → List ℕ → Type 0
Path chains zero a b = a ≡ b
Path chains (suc n) a b = (c : List ℕ) × Names chains a c × Path chains n c b

-- some path of jumps and gotos leads from one chain to another; the empty path leads from a chain to itself
abbrev pub Leads : List Chain → List ℕ → List ℕ → Type 0
Leads chains a b = (n : ℕ) × Path chains n a b

-- the computed `leads` says yes exactly where there is such a path
abbrev pub LeadsByPaths : List Chain → Type 0
LeadsByPaths chains = (from to : List ℕ) → IsTrue (leads chains from to) ↔ Leads chains from to

-- no path of one or more steps comes back to its start
abbrev pub HasNoLoop : List Chain → Type 0
HasNoLoop chains = (n : ℕ) (a : List ℕ) → Path chains (suc n) a a → ⊥

-- a chain of this name is there and is a user chain
pub record IsTarget (t : Table) (name : List ℕ) : Type 0 where
  pub there : IsTrue (has_chain t name)
  pub user : IsFalse (is_built_in name)

-- the rule may stand in the chain: its text reads back, it asks for no interface that packets in the chain lack, and a chain that
-- it names is a user chain of the table
pub record MayStand (t : Table) (chain : List ℕ) (r : Rule) : Type 0 where
  pub readable : TextReadsBack r
  pub interface : IsFalse (asks_absent_interface chain r)
  pub target : (name : List ℕ) → chain_named_by r ≡ Some name → IsTarget t name

-- the chain's rules may stand in it, and there are at most 8,192
pub record IsSoundChain (t : Table) (chain : Chain) : Type 0 where
  pub rules : All (MayStand t chain.name) chain.rules
  pub few : length chain.rules ≤ 8192

-- a name that a user chain may have, and no built-in chain has
pub record IsUserName (name : List ℕ) : Type 0 where
  pub form : IsTrue (is_name name)
  pub other : IsFalse (is_built_in name)

-- the names of the built-in chains stand first, and then those of the user chains, ordered by their bytes
pub record AreListed (names : List (List ℕ)) : Type 0 where
  pub built_in : take 3 names ≡ built_in_names
  pub user : All IsUserName (drop 3 names)
  pub order : AllPairs (λ a b. IsTrue (comes_before a b)) (drop 3 names)

-- what holds of every table: it has three policies, its chains are in order, their rules read back and may stand where they stand,
-- no path of jumps and gotos comes back to its start, and there are at most 8,192 rules a chain and 1,024 user chains
pub record IsSound (t : Table) : Type 0 where
  pub policies : length t.policies ≡ 3
  pub listed : AreListed (names_of t.chains)
  pub chains : All (IsSoundChain t) t.chains
  pub no_loop : HasNoLoop t.chains
  pub few : length (user_chains t.chains) ≤ 1024
