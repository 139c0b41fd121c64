-- A chain as the code keeps it, and its edges: the chains that its rules lead to, each once.
use Rattle.std.specs.Prelude.{ℕ, List, map, Option, Some, None, Bool, false, cond, nat_eq, ◌≡◌, ◌≢◌, ◌+◌, ◌<◌, All, AllPairs, sum_by, count_by}
use Rattle.classify.specs.Classifier.{Classified, IsClassifierOfRules}
use Rattle.rules.specs.rule.Rules.{Rule}
use Rattle.rules.specs.declared.rule.target.Target.{Target}
use Rattle.rules.specs.declared.rule.target.Target.TheVariants as target
use Rattle.table.specs.edits.Edits.{same_text}
use Rattle.table.specs.declared.chain.entry.Flow.{Flow}
use Rattle.table.specs.declared.chain.entry.Flow.TheVariants.{Decide, Continue, Return, Jump, Goto}
use Rattle.table.specs.declared.chain.entry.Entry.{Entry}
use Rattle.table.specs.declared.chain.edges.Edge.{Edge}
use Rattle.table.specs.declared.verdict.Verdict.TheVariants as verdict

-- ---- A chain as the code keeps it.

-- a chain: its name, its rules with what the walk does after each, its classifier, and how many rules of the table name it
pub record StoredChain : Type 0 where
  pub name : List ℕ
  pub entries : List Entry
  pub classifier : Classified
  pub references : ℕ

-- the rule of an entry
abbrev pub rule_in : Entry → Rule
rule_in entry = entry.rule

-- the rules of a chain
abbrev pub rules_in : StoredChain → List Rule
rules_in stored_chain = map rule_in stored_chain.entries

-- the rule of an entry has the text of a rule
abbrev pub has_text : Rule → Entry → Bool
has_text rule entry = same_text rule entry.rule

-- the classifier is that of the chain's rules
abbrev pub IsClassified : StoredChain → Type 0
IsClassified stored_chain = IsClassifierOfRules (rules_in stored_chain) stored_chain.classifier

-- what the walk does after a rule with this target, if the chain that it names has the key
abbrev pub flow_of : Option Target → ℕ → Flow
flow_of None key = Continue
flow_of (Some target.Log) key = Continue
flow_of (Some target.Accept) key = Decide verdict.Accept
flow_of (Some target.Drop) key = Decide verdict.Drop
flow_of (Some (target.Reject kind)) key = Decide (verdict.Reject kind)
flow_of (Some target.Return) key = Return
flow_of (Some (target.Jump name)) key = Jump key
flow_of (Some (target.Goto name)) key = Goto key

-- the key of the chain that the walk goes to, if it goes to one
abbrev pub key_in : Flow → Option ℕ
key_in (Decide v) = None
key_in Continue = None
key_in Return = None
key_in (Jump key) = Some key
key_in (Goto key) = Some key

-- the key is this one
abbrev pub is_key : ℕ → Option ℕ → Bool
is_key key None = false
is_key key (Some other) = nat_eq other key

-- the walk goes to the chain under the key
abbrev pub leads_to : ℕ → Flow → Bool
leads_to key flow = is_key key (key_in flow)

-- one where it holds
abbrev pub ones : Bool → ℕ
ones b = cond b 1 0

-- ---- The edges of a chain: the chains that its rules lead to, each once, with how many of its rules do.

-- the keys of the chains that edges lead to
abbrev pub ends : List Edge → List ℕ
ends edges = map (λ (e : Edge). e.to) edges

-- how many rules the edges count that lead to the chain under a key
abbrev pub counted : List Edge → ℕ → ℕ
counted edges key = sum_by (λ (e : Edge). cond (nat_eq e.to key) e.rules 0) edges

-- one edge at most leads to each chain, and each edge counts a rule
pub record AreDistinct (edges : List Edge) : Type 0 where
  pub apart : AllPairs (λ (a b : ℕ). a ≢ b) (ends edges)
  pub some : All (λ (e : Edge). 0 < e.rules) edges

-- the edges are those of the rules: one to each chain that a rule leads to, with the number of the rules that do
pub record AreEdges (entries : List Entry) (edges : List Edge) : Type 0 where
  pub distinct : AreDistinct edges
  pub exact : (key : ℕ) → counted edges key ≡ count_by (λ (e : Entry). leads_to key e.flow) entries

-- one rule more is counted that leads to a chain, if a key is given
abbrev pub CountsMore : Option ℕ → List Edge → List Edge → Type 0
CountsMore more old new = (key : ℕ) → counted new key ≡ counted old key + ones (is_key key more)

-- one rule fewer is counted that leads to a chain, if a key is given
abbrev pub CountsFewer : Option ℕ → List Edge → List Edge → Type 0
CountsFewer fewer old new = (key : ℕ) → counted new key + ones (is_key key fewer) ≡ counted old key
