-- What each command does to the table, what refuses it, and how many boxes of rules it makes (iptables(8), COMMANDS).
use Rattle.std.specs.Prelude.{◌≡◌, ℕ, zero, suc, ◌+◌, ◌-◌, ◌==◌, nat_lt, nat_le, Bool, true, false, ◌&&◌, ◌||◌, not, List, [], ◌∷◌, ◌++◌, map, filter, length, position, insert, remove, slice_set, Option, Some, None, is_none, Result, Ok, Err, IfErr, codes, if◌then◌else◌, ◌⊎◌, ◌^◌, min}
use Rattle.std.specs.Bool.{MatchBool}
use Rattle.std.specs.List.{list_any}
use Rattle.std.specs.Str.{bytes_eq}
use Rattle.fields.specs.Refusals.{GivesFor}
use Rattle.fields.specs.Hook.{name as hook_name}
use Rattle.fields.specs.values.Name.{is_name}
use Rattle.rules.specs.rule.Actions.{with_chain_name}
use Rattle.rules.specs.rule.Allows.{asks_on}
use Rattle.rules.specs.Printing.{rule_text}
use Rattle.rules.specs.rule.Rules.{Rule}
use Rattle.fields.specs.declared.numbers.field.Field.TheVariants as field
use Rattle.fields.specs.declared.packet.hook.Hook.TheVariants as hook
use Rattle.table.specs.chains.Table.{Chain, Table, TableView, Policy, Accept, Drop, built_in_names, is_built_in, empty_chain, is_named, has_chain, rules_of, user_chains, comes_before, chain_named_by, names, is_referenced}
pub use Rattle.table.specs.declared.fault.TableFault.{TableFault}
pub use Rattle.table.specs.declared.fault.TableFault.TheVariants.{NoSuchChain, ChainExists, BadChainName, NumberOutOfRange, NoSuchRule, ChainNotEmpty, ChainReferenced, BuiltInChain, NotBuiltInChain, Loop, TargetMissing, TargetBuiltIn, InterfaceNotAllowed, ChainFull, TooManyChains, BadPolicy, NoMemory}

-- ---- What each command does to the table, and what refuses it (iptables(8), COMMANDS).

-- a command on the table; names are given as bytes, and rules are counted from 1
pub data Edit : Type 0 where
  Append : List ℕ → Rule → Edit
  Insert : List ℕ → ℕ → Rule → Edit
  Replace : List ℕ → ℕ → Rule → Edit
  DeleteAt : List ℕ → ℕ → Edit
  DeleteRule : List ℕ → Rule → Edit
  Has : List ℕ → Rule → Edit
  Flush : List ℕ → Edit
  FlushAll : Edit
  NewChain : List ℕ → Edit
  DeleteChain : List ℕ → Edit
  DeleteChains : Edit
  SetPolicy : List ℕ → List ℕ → Edit
  Rename : List ℕ → List ℕ → Edit

-- the two rules have the same text in a listing
abbrev pub same_text : Rule → Rule → Bool
same_text rule other = bytes_eq (rule_text rule) (rule_text other)

-- the policy that a word names: ACCEPT or DROP
abbrev pub policy_named : List ℕ → Option Policy
policy_named text = if bytes_eq text (codes "ACCEPT") then Some Accept else if bytes_eq text (codes "DROP") then Some Drop else None

-- What refuses a command

-- the rule names a chain, and that chain leads there
abbrev pub leads_from : (List ℕ → Bool) → Option (List ℕ) → Bool
leads_from leads None = false
leads_from leads (Some name) = leads name

-- at most so many jumps and gotos lead from one chain to another; no step is needed from a chain to itself
unfoldable pub leads_within : ℕ → List Chain → List ℕ → List ℕ → Bool
leads_within zero chains from to = bytes_eq from to
leads_within (suc n) chains from to =
    bytes_eq from to
    || list_any (λ (r : Rule). leads_from (λ name. leads_within n chains name to) (chain_named_by r)) (rules_of chains from)

-- a path of jumps and gotos leads from one chain to another. A path that meets no chain twice has fewer steps than there are chains
abbrev pub leads : List Chain → List ℕ → List ℕ → Bool
leads chains from to = leads_within (length chains) chains from to

-- the rule asks for an interface that packets in this chain lack: one to go out by in INPUT, one that they came in by in OUTPUT
abbrev pub asks_absent_interface : List ℕ → Rule → Bool
asks_absent_interface chain rule =
    bytes_eq chain (hook_name hook.Input) && asks_on field.OutIface rule
    || bytes_eq chain (hook_name hook.Output) && asks_on field.InIface rule

-- a possible refusal: whether it applies, and its fault
abbrev pub Cause : Type 0
Cause = Bool × TableFault

-- there is no chain of this name
abbrev pub no_such_chain : Table → List ℕ → Cause
no_such_chain t chain = (not (has_chain t chain), NoSuchChain)

-- the rule number isn't one from 1 to the last
abbrev pub out_of_range : ℕ → ℕ → Cause
out_of_range number last = (number == 0 || nat_lt last number, NumberOutOfRange)

-- the chain has 8,192 rules already
abbrev pub full : Table → List ℕ → Cause
full t chain = (nat_le 8192 (length (rules_of t.chains chain)), ChainFull)

-- the chain is a built-in one
abbrev pub built_in : List ℕ → Cause
built_in chain = (is_built_in chain, BuiltInChain)

-- the name can't be a chain's name
abbrev pub bad_name : List ℕ → Cause
bad_name name = (not (is_name name), BadChainName)

-- there is a chain of this name, built-in or not
abbrev pub exists_already : Table → List ℕ → Cause
exists_already t name = (has_chain t name, ChainExists)

-- no rule of the chain has this text
abbrev pub no_such_rule : Table → List ℕ → Rule → Cause
no_such_rule t chain rule = (not (list_any (same_text rule) (rules_of t.chains chain)), NoSuchRule)

-- the chain that a rule names is missing, is built-in, or leads back to the chain in which the rule would stand
abbrev pub target_causes : Table → List ℕ → Option (List ℕ) → List Cause
target_causes t chain None = []
target_causes t chain (Some name) =
    (not (has_chain t name), TargetMissing) ∷ (is_built_in name, TargetBuiltIn) ∷ (leads t.chains name chain, Loop) ∷ []

-- why a rule may not stand in a chain
abbrev pub rule_causes : Table → List ℕ → Rule → List Cause
rule_causes t chain rule = (asks_absent_interface chain rule, InterfaceNotAllowed) ∷ target_causes t chain (chain_named_by rule)

-- the chain isn't empty
abbrev pub has_rules : Chain → Bool
has_rules chain = nat_lt 0 (length chain.rules)

-- what may refuse a command, in the order in which it is tested
abbrev pub causes : Edit → Table → List Cause
causes (Append c r) t = no_such_chain t c ∷ (rule_causes t c r ++ full t c ∷ [])
causes (Insert c n r) t = no_such_chain t c ∷ out_of_range n (length (rules_of t.chains c) + 1) ∷ (rule_causes t c r ++ full t c ∷ [])
causes (Replace c n r) t = no_such_chain t c ∷ out_of_range n (length (rules_of t.chains c)) ∷ rule_causes t c r
causes (DeleteAt c n) t = no_such_chain t c ∷ out_of_range n (length (rules_of t.chains c)) ∷ []
causes (DeleteRule c r) t = no_such_chain t c ∷ no_such_rule t c r ∷ []
causes (Has c r) t = no_such_chain t c ∷ no_such_rule t c r ∷ []
causes (Flush c) t = no_such_chain t c ∷ []
causes FlushAll t = []
causes (NewChain c) t = bad_name c ∷ exists_already t c ∷ (nat_le 1024 (length (user_chains t.chains)), TooManyChains) ∷ []
causes (DeleteChain c) t =
    no_such_chain t c ∷ built_in c ∷ (nat_lt 0 (length (rules_of t.chains c)), ChainNotEmpty)
    ∷ (is_referenced t.chains c, ChainReferenced) ∷ []
causes DeleteChains t =
    (list_any has_rules (user_chains t.chains), ChainNotEmpty)
    ∷ (list_any (λ (c : Chain). is_referenced t.chains c.name) (user_chains t.chains), ChainReferenced) ∷ []
causes (SetPolicy c text) t = no_such_chain t c ∷ (not (is_built_in c), NotBuiltInChain) ∷ (is_none (policy_named text), BadPolicy) ∷ []
causes (Rename old new) t = no_such_chain t old ∷ built_in old ∷ bad_name new ∷ exists_already t new ∷ []

-- the fault of the first cause that applies
abbrev pub first_fault : List Cause → Option TableFault
first_fault [] = None
first_fault (cause ∷ causes) = if cause.0 then Some cause.1 else first_fault causes

-- why the table refuses a command, if it does
abbrev pub fault_of : Edit → Table → Option TableFault
fault_of edit t = first_fault (causes edit t)

-- What a command does

-- the chain with its rules changed, if it has this name
abbrev pub changed_chain : (List Rule → List Rule) → List ℕ → Chain → Chain
changed_chain change name chain = if is_named name chain then record { name = chain.name; rules = change chain.rules } else chain

-- the table with the rules of one chain changed
abbrev pub changed : (List Rule → List Rule) → List ℕ → Table → Table
changed change name t = record { policies = t.policies; chains = map (changed_chain change name) t.chains }

-- the rules without the first one of this text
abbrev pub without_first : Rule → List Rule → List Rule
without_first rule [] = []
without_first rule (other ∷ rules) = if same_text rule other then rules else other ∷ without_first rule rules

-- the chains with a user chain put at its place: after the built-in ones and those whose names come before its own
abbrev pub placed : Chain → List Chain → List Chain
placed chain [] = chain ∷ []
placed chain (other ∷ chains) =
    if is_built_in other.name || comes_before other.name chain.name then other ∷ placed chain chains else chain ∷ other ∷ chains

-- the chains without the one of this name
abbrev pub without : List ℕ → List Chain → List Chain
without name chains = filter (λ c. not (is_named name c)) chains

-- the rule with the new name, if it names the renamed chain
abbrev pub renamed_rule : List ℕ → List ℕ → Rule → Rule
renamed_rule old new rule = if names old rule then with_chain_name new rule else rule

-- the chain under its new name, if it is the renamed one, and its rules with the new name
abbrev pub renamed_chain : List ℕ → List ℕ → Chain → Chain
renamed_chain old new chain =
    record { name = if is_named old chain then new else chain.name; rules = map (renamed_rule old new) chain.rules }

-- the chains with this one taken from its place and put at the place of its name
abbrev pub moved : List ℕ → List Chain → List Chain
moved name chains = placed (record { name = name; rules = rules_of chains name }) (without name chains)

-- the policies with that of one built-in chain set, if the word names a policy
abbrev pub policies_with : Option ℕ → Option Policy → List Policy → List Policy
policies_with (Some k) (Some p) policies = slice_set policies k p
policies_with (Some k) None policies = policies
policies_with None p policies = policies

-- the table after the command: a plain edit of its lists of chains and rules
abbrev pub edited : Edit → Table → Table
edited (Append c r) t = changed (λ rules. rules ++ r ∷ []) c t
edited (Insert c n r) t = changed (λ rules. insert rules (n - 1) r) c t
edited (Replace c n r) t = changed (λ rules. slice_set rules (n - 1) r) c t
edited (DeleteAt c n) t = changed (λ rules. remove rules (n - 1)) c t
edited (DeleteRule c r) t = changed (without_first r) c t
edited (Has c r) t = t
edited (Flush c) t = changed (λ rules. []) c t
edited FlushAll t = record { policies = t.policies; chains = map (λ (c : Chain). empty_chain c.name) t.chains }
edited (NewChain c) t = record { policies = t.policies; chains = placed (empty_chain c) t.chains }
edited (DeleteChain c) t = record { policies = t.policies; chains = without c t.chains }
edited DeleteChains t = record { policies = t.policies; chains = filter (λ (c : Chain). is_built_in c.name) t.chains }
edited (SetPolicy c text) t =
    record { policies = policies_with (position (bytes_eq c) built_in_names) (policy_named text) t.policies; chains = t.chains }
edited (Rename old new) t = record { policies = t.policies; chains = moved new (map (renamed_chain old new) t.chains) }

-- the table after a command, or the fault that refuses it
abbrev pub step : Edit → Table → Result Table TableFault
step edit t = elim (fault_of edit t) [ None ↦ Ok (edited edit t) | Some f ↦ Err f ]

-- What a call leaves

-- the call's answer: the table is edited, or it is refused with this fault and nothing changed, classifiers included
abbrev pub Answers : Result Table TableFault → TableView → TableView → Result (Unit {0}) TableFault → Type 0
Answers (Ok t) old new result = (result ≡ Ok tt) × (new.table ≡ t)
Answers (Err f) old new result = (result ≡ Err f) × (new ≡ old)

-- the call answers with the step of this command; a refused call changes nothing, classifiers included
abbrev pub IsStep : Edit → TableView → TableView → Result (Unit {0}) TableFault → Type 0
IsStep edit old new result = Answers (step edit old.table) old new result

-- the refusal that a fault stands for; out of memory stands for none
abbrev pub refusal_of : TableFault → Option TableFault
refusal_of NoSuchChain = Some NoSuchChain
refusal_of ChainExists = Some ChainExists
refusal_of BadChainName = Some BadChainName
refusal_of NumberOutOfRange = Some NumberOutOfRange
refusal_of NoSuchRule = Some NoSuchRule
refusal_of ChainNotEmpty = Some ChainNotEmpty
refusal_of ChainReferenced = Some ChainReferenced
refusal_of BuiltInChain = Some BuiltInChain
refusal_of NotBuiltInChain = Some NotBuiltInChain
refusal_of Loop = Some Loop
refusal_of TargetMissing = Some TargetMissing
refusal_of TargetBuiltIn = Some TargetBuiltIn
refusal_of InterfaceNotAllowed = Some InterfaceNotAllowed
refusal_of ChainFull = Some ChainFull
refusal_of TooManyChains = Some TooManyChains
refusal_of BadPolicy = Some BadPolicy
refusal_of NoMemory = None

-- a refused call changes nothing, and memory runs out only where nothing else refuses the command
abbrev pub IsRefused : Edit → TableView → TableView → TableFault → Type 0
IsRefused edit old new fault = (new ≡ old) × (fault ≡ NoMemory → fault_of edit old.table ≡ None)

-- of a call that takes memory: it answers with the step, or memory ran out
abbrev pub IsStepIfRoom : Edit → TableView → TableView → Result (Unit {0}) TableFault → Type 0
IsStepIfRoom edit old new result =
    GivesFor refusal_of (λ u. new.table) result (step edit old.table) × IfErr result (IsRefused edit old new)

-- the commands that take memory
abbrev pub may_grow : Edit → Bool
may_grow (Append c r) = true
may_grow (Insert c n r) = true
may_grow (Replace c n r) = true
may_grow (DeleteAt c n) = false
may_grow (DeleteRule c r) = false
may_grow (Has c r) = false
may_grow (Flush c) = false
may_grow FlushAll = false
may_grow (NewChain c) = true
may_grow (DeleteChain c) = false
may_grow DeleteChains = false
may_grow (SetPolicy c text) = false
may_grow (Rename old new) = false

-- of any call: it answers with the step; only a command that takes memory may be refused because memory ran out
abbrev pub IsStepOf : Edit → TableView → TableView → Result (Unit {0}) TableFault → Type 0
IsStepOf edit old new result = MatchBool (may_grow edit) (IsStepIfRoom edit old new result) (IsStep edit old new result)

-- ---- How many boxes of rules an edit makes.

-- one box was made, by a count that stays at its greatest value
abbrev pub MakesOneBox : ℕ → ℕ → Type 0
MakesOneBox old new = new ≡ min (old + 1) (2 ^ 64 - 1)

-- at most one box was made, by such a count
abbrev pub MakesOneBoxAtMost : ℕ → ℕ → Type 0
MakesOneBoxAtMost old new = (new ≡ old) ⊎ MakesOneBox old new

-- at most one box was made if one is asked for, and else none
abbrev pub MakesBoxes : Bool → ℕ → ℕ → Type 0
MakesBoxes true old new = MakesOneBoxAtMost old new
MakesBoxes false old new = new ≡ old

-- the edit puts a rule into a chain, so it asks for a box
abbrev pub puts_rule : Edit → Bool
puts_rule (Append c r) = true
puts_rule (Insert c n r) = true
puts_rule (Replace c n r) = true
puts_rule (DeleteAt c n) = false
puts_rule (DeleteRule c r) = false
puts_rule (Has c r) = false
puts_rule (Flush c) = false
puts_rule FlushAll = false
puts_rule (NewChain c) = false
puts_rule (DeleteChain c) = false
puts_rule DeleteChains = false
puts_rule (SetPolicy c text) = false
puts_rule (Rename old new) = false
