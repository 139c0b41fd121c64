-- The table `filter`: the policies of its built-in chains, and its chains with their rules (iptables(8), TABLES).
use Rattle.std.specs.Prelude.{ℕ, Bool, false, not, List, [], ◌∷◌, map, filter, position, slice_get, slice_index_or, Option, Some, None, option_and_then, codes, if◌then◌else◌}
use Rattle.std.specs.List.{list_any}
use Rattle.std.specs.Str.{bytes_eq}
use Rattle.std.specs.Ordering.{is_lt, nat_cmp}
use Rattle.std.specs.Cmp.Lexicographic.{slice_cmp}
use Rattle.classify.specs.Classifier.{Classified, IsClassifierOfRules}
use Rattle.rules.specs.rule.Actions.{target_of}
use Rattle.rules.specs.rule.Rules.{Rule}
use Rattle.rules.specs.declared.rule.target.Target.{Target}
use Rattle.rules.specs.declared.rule.target.Target.TheVariants as target
pub use Rattle.table.specs.declared.policy.Policy.{Policy}
pub use Rattle.table.specs.declared.policy.Policy.TheVariants.{Accept, Drop}

-- a chain: its name and its rules, which are numbered from 1
pub record Chain : Type 0 where
  pub name : List ℕ
  pub rules : List Rule

-- the policies of INPUT, FORWARD and OUTPUT, and the chains: first these three, then the user chains ordered by the bytes of their
-- names
pub record Table : Type 0 where
  pub policies : List Policy
  pub chains : List Chain

-- what a table shows: its policies and chains, and the classifier of each chain, in the order of the chains
pub record TableView : Type 0 where
  pub table : Table
  pub classifiers : List Classified

-- each chain's classifier is that of its rules
abbrev pub AreClassified : List Chain → List Classified → Type 0
AreClassified [] [] = Unit {0}
AreClassified (chain ∷ chains) (classifier ∷ classifiers) = IsClassifierOfRules chain.rules classifier × AreClassified chains classifiers
AreClassified chains classifiers = ⊥

-- the names of the built-in chains: INPUT, FORWARD, OUTPUT
abbrev pub built_in_names : List (List ℕ)
built_in_names = codes "INPUT" ∷ codes "FORWARD" ∷ codes "OUTPUT" ∷ []

-- the name is that of a built-in chain
abbrev pub is_built_in : List ℕ → Bool
is_built_in name = list_any (bytes_eq name) built_in_names

-- the chain of this name without rules
abbrev pub empty_chain : List ℕ → Chain
empty_chain name = record { name = name; rules = [] }

-- the chain at a place in the order of a listing, counted from 0; without one there, a chain with neither name nor rules
abbrev pub chain_at : Table → ℕ → Chain
chain_at t place = slice_index_or t.chains place (empty_chain [])

-- the table at the start: the built-in chains without rules, each with the policy ACCEPT
abbrev pub empty_table : Table
empty_table = record { policies = Accept ∷ Accept ∷ Accept ∷ []; chains = map empty_chain built_in_names }

-- the table without its rules and user chains; the policies stay
abbrev pub emptied : Table → Table
emptied t = record { policies = t.policies; chains = empty_table.chains }

-- the chain has the name
abbrev pub is_named : List ℕ → Chain → Bool
is_named name chain = bytes_eq chain.name name

-- the names of the chains
abbrev pub names_of : List Chain → List (List ℕ)
names_of chains = map (λ (c : Chain). c.name) chains

-- the table has a chain of this name
abbrev pub has_chain : Table → List ℕ → Bool
has_chain t name = list_any (is_named name) t.chains

-- the rules of the chain with this name; none where there is no such chain
abbrev pub rules_of : List Chain → List ℕ → List Rule
rules_of [] name = []
rules_of (chain ∷ chains) name = if is_named name chain then chain.rules else rules_of chains name

-- the chain isn't a built-in one
abbrev pub is_user : Chain → Bool
is_user chain = not (is_built_in chain.name)

-- the user chains
abbrev pub user_chains : List Chain → List Chain
user_chains chains = filter is_user chains

-- the policy of a built-in chain; other names have none
abbrev pub policy_of : Table → List ℕ → Option Policy
policy_of t name = option_and_then (slice_get t.policies) (position (bytes_eq name) built_in_names)

-- one name comes before another in the order of their bytes
abbrev pub comes_before : List ℕ → List ℕ → Bool
comes_before a b = is_lt (slice_cmp nat_cmp a b)

-- the chain that a target names
abbrev pub chain_in : Option Target → Option (List ℕ)
chain_in None = None
chain_in (Some target.Log) = None
chain_in (Some target.Accept) = None
chain_in (Some target.Drop) = None
chain_in (Some (target.Reject kind)) = None
chain_in (Some target.Return) = None
chain_in (Some (target.Jump name)) = Some name
chain_in (Some (target.Goto name)) = Some name

-- the chain that a rule names, by `-j` or `-g` (iptables(8), PARAMETERS, -j and -g)
abbrev pub chain_named_by : Rule → Option (List ℕ)
chain_named_by rule = chain_in (target_of rule)

-- there is a name, and it is this one
abbrev pub is_this : List ℕ → Option (List ℕ) → Bool
is_this name None = false
is_this name (Some other) = bytes_eq other name

-- the rule names the chain
abbrev pub names : List ℕ → Rule → Bool
names name rule = is_this name (chain_named_by rule)

-- some rule of the chains names the chain
abbrev pub is_referenced : List Chain → List ℕ → Bool
is_referenced chains name = list_any (λ (c : Chain). list_any (names name) c.rules) chains
