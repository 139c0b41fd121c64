-- How the chains under their keys stand for the chains of the table, and what a rule that is put and a rename leave of them.
use Rattle.std.specs.Prelude.{◌≡◌, ℕ, ◌+◌, ◌<◌, ◌≤◌, List, [], ◌∷◌, length, map, slice_index_or, slice_index, Option, Some, None, IsSome, unwrap_or, All, Bool, count_by, position, true, false, IsFalse, ◌⊎◌, ◌++◌, insert, slice_set, Result, Ok, Err, ◌-◌, nat_lt, remove, if◌then◌else◌, IsTrue}
use Rattle.fields.specs.declared.packet.hook.Hook.{Hook}
use Rattle.fields.specs.declared.packet.hook.Hook.TheVariants.{Input, Forward, Output}
use Rattle.classify.specs.Classifier.{Classified}
use Rattle.rules.specs.rule.Actions.{target_of, names_chain, with_chain_name}
use Rattle.rules.specs.rule.Rules.{Rule}
use Rattle.table.specs.chains.Sound.{IsSound}
use Rattle.table.specs.chains.Table.{Chain, Table, TableView, Policy, chain_named_by, is_named, comes_before}
use Rattle.table.specs.steps.StoredChains.{StoredChain, rules_in, flow_of, leads_to, is_key, ones, IsClassified, key_in}
use Rattle.table.specs.declared.chain.entry.Entry.{Entry}
use Rattle.table.specs.declared.parts.Parts.{Parts}
use Rattle.table.specs.edits.Edits.{Cause, TableFault, NoMemory, changed, first_fault, full, rule_causes}

-- ---- How the chains under their keys, and the index of the keys, stand for the chains of the table.

-- no chain
abbrev pub blank : StoredChain
blank = record { name = []; entries = []; classifier = record { len = 0; lines = [] }; references = 0 }

-- what lies under a key
abbrev pub slot_at : List (Option StoredChain) → ℕ → Option StoredChain
slot_at slots key = slice_index_or slots key None

-- the chain under a key
abbrev pub stored_at : List (Option StoredChain) → ℕ → StoredChain
stored_at slots key = unwrap_or (slot_at slots key) blank

-- a chain as the table has it
abbrev pub listed_stored : StoredChain → Chain
listed_stored stored_chain = record { name = stored_chain.name; rules = rules_in stored_chain }

-- the chain under a key, as the table has it
abbrev pub listed_at : List (Option StoredChain) → ℕ → Chain
listed_at slots key = listed_stored (stored_at slots key)

-- the place of a hook's chain
abbrev pub hook_index : Hook → ℕ
hook_index Input = 0
hook_index Forward = 1
hook_index Output = 2

-- the chains in the order of the index
abbrev pub listed : List (Option StoredChain) → List ℕ → List Chain
listed slots order = map (listed_at slots) order

-- the name of the chain at a place of the index
abbrev pub name_at : List (Option StoredChain) → List ℕ → ℕ → List ℕ
name_at slots order place = (stored_at slots (slice_index order place)).name

-- their classifiers
abbrev pub classifiers : List (Option StoredChain) → List ℕ → List Classified
classifiers slots order = map (λ key. (stored_at slots key).classifier) order

-- the table of these policies and chains
abbrev pub table_with : List Policy → List (Option StoredChain) → List ℕ → Table
table_with policies slots order = record { policies = policies; chains = listed slots order }

-- the table that the parts show
abbrev pub table_of : Parts → Table
table_of parts = table_with parts.policies parts.chains.slots parts.order.items

-- what they show: the table, and the classifiers of its chains
abbrev pub view_of : Parts → TableView
view_of parts = record { table = table_of parts; classifiers = classifiers parts.chains.slots parts.order.items }

-- the key stands in the index
abbrev pub IsIn : List ℕ → ℕ → Type 0
IsIn order key = (j : ℕ) × (j < length order) × (slice_index order j ≡ key)

-- the key stands in the index, after those of the three built-in chains
abbrev pub IsUser : List ℕ → ℕ → Type 0
IsUser order key = (j : ℕ) × (3 ≤ j) × (j < length order) × (slice_index order j ≡ key)

-- the key is that of the chain of a name, if there is one to be
abbrev pub LinksTo : List (Option StoredChain) → List ℕ → ℕ → Option (List ℕ) → Type 0
LinksTo slots order key None = Unit {0}
LinksTo slots order key (Some name) = IsUser order key × ((stored_at slots key).name ≡ name)

-- the flow of a rule is that of its target, and leads to the chain that it names
abbrev pub IsLinked : List (Option StoredChain) → List ℕ → Entry → Type 0
IsLinked slots order entry =
    (key : ℕ) × (entry.flow ≡ flow_of (target_of entry.rule) key) × LinksTo slots order key (chain_named_by entry.rule)

-- how many rules of a chain lead to the chain under a key
abbrev pub leading_in : ℕ → StoredChain → ℕ
leading_in key stored_chain = count_by (λ (e : Entry). leads_to key e.flow) stored_chain.entries

-- how many rules of all chains lead there
abbrev pub leading : List (Option StoredChain) → List ℕ → ℕ → ℕ
leading slots [] key = 0
leading slots (k ∷ ks) key = leading_in key (stored_at slots k) + leading slots ks key

-- each chain is as before, but for its count
pub record AreRecounted (old new : List (Option StoredChain)) : Type 0 where
  pub present : (key : ℕ) → IsSome (slot_at old key) → IsSome (slot_at new key)
  pub no_more : (key : ℕ) → IsSome (slot_at new key) → IsSome (slot_at old key)
  pub name : (key : ℕ) → (stored_at new key).name ≡ (stored_at old key).name
  pub entries : (key : ℕ) → (stored_at new key).entries ≡ (stored_at old key).entries
  pub classifier : (key : ℕ) → (stored_at new key).classifier ≡ (stored_at old key).classifier

-- the counts are as before, but one more for one key and one fewer for another, if these are given
abbrev pub CountsInAndOut : Option ℕ → Option ℕ → (ℕ → ℕ) → (ℕ → ℕ) → Type 0
CountsInAndOut more fewer old new = (key : ℕ) → new key + ones (is_key key fewer) ≡ old key + ones (is_key key more)

-- the counts of the chains
abbrev pub references_at : List (Option StoredChain) → ℕ → ℕ
references_at slots key = (stored_at slots key).references

-- the chains are exactly those of the index, their rules are linked, their classifiers are right and the table is sound; nothing is
-- said of the counts of rules that name a chain
pub record IsStored (policies : List Policy) (slots : List (Option StoredChain)) (order : List ℕ) : Type 0 where
  pub present : (i : ℕ) → i < length order → IsSome (slot_at slots (slice_index order i))
  pub no_more : (key : ℕ) → IsSome (slot_at slots key) → IsIn order key
  pub apart : (i j : ℕ) → i < length order → j < length order → slice_index order i ≡ slice_index order j → i ≡ j
  pub linked : (i : ℕ) → i < length order → All (IsLinked slots order) (stored_at slots (slice_index order i)).entries
  pub classified : (i : ℕ) → i < length order → IsClassified (stored_at slots (slice_index order i))
  pub sound : IsSound (table_with policies slots order)

-- the chain of the name stands at the place
pub record IsIndexOf (name : List ℕ) (slots : List (Option StoredChain)) (order : List ℕ) (i : ℕ) : Type 0 where
  pub within : i < length order
  pub is : position (is_named name) (listed slots order) ≡ Some i

-- no chain has the name, and one of it would stand at the place: after the user chains whose names come before it
pub record IsIndexFor (name : List ℕ) (slots : List (Option StoredChain)) (order : List ℕ) (i : ℕ) : Type 0 where
  pub free : position (is_named name) (listed slots order) ≡ None
  pub user : 3 ≤ i
  pub within : i ≤ length order
  pub before : (k : ℕ) → 3 ≤ k → k < i → comes_before (name_at slots order k) name ≡ true
  pub after : (k : ℕ) → i ≤ k → k < length order → comes_before name (name_at slots order k) ≡ true

-- each chain counts the rules that name it
abbrev pub IsCounted : List (Option StoredChain) → List ℕ → Type 0
IsCounted slots order =
    (i : ℕ) → i < length order → (stored_at slots (slice_index order i)).references ≡ leading slots order (slice_index order i)

-- the chains stand as they should
pub record IsKept (policies : List Policy) (slots : List (Option StoredChain)) (order : List ℕ) : Type 0 where
  pub stored : IsStored policies slots order
  pub counted : IsCounted slots order

-- the chain at a place of the index
abbrev pub stored_in : Parts → ℕ → StoredChain
stored_in parts place = stored_at parts.chains.slots (slice_index parts.order.items place)

-- its name
abbrev pub name_in : Parts → ℕ → List ℕ
name_in parts place = (stored_in parts place).name

-- the parts stand as they should, but for the counts
abbrev pub AreStored : Parts → Type 0
AreStored parts = IsStored parts.policies parts.chains.slots parts.order.items

-- the parts stand as they should
abbrev pub AreKept : Parts → Type 0
AreKept parts = IsKept parts.policies parts.chains.slots parts.order.items

-- each key of the index has a place for its mark, and no mark is set
pub record IsUnmarked (order : List ℕ) (seen : List Bool) : Type 0 where
  pub within : (key : ℕ) → IsIn order key → key < length seen
  pub clear : (key : ℕ) → IsFalse (slice_index_or seen key false)

-- a table stands as it should
pub record IsWhole (parts : Parts) (seen : List Bool) : Type 0 where
  pub kept : AreKept parts
  pub unmarked : IsUnmarked parts.order.items seen

-- ---- What a call that puts a rule into a chain answers.

-- the causes are tested in order, and memory last: where none applies the rules of the chain are edited, else nothing is changed
abbrev pub AnswersCauses : List Cause → (List Rule → List Rule) → Parts → Parts → ℕ → Result (Unit {0}) TableFault → Type 0
AnswersCauses causes edit old new place (Ok u) =
    (first_fault causes ≡ None) × (table_of new ≡ changed edit (name_in old place) (table_of old))
AnswersCauses causes edit old new place (Err f) =
    ((first_fault causes ≡ Some f) ⊎ ((first_fault causes ≡ None) × (f ≡ NoMemory))) × (view_of new ≡ view_of old)

-- the answer of a call that inserts a rule at a place
abbrev pub IsPutIn : Parts → Parts → ℕ → ℕ → Rule → Result (Unit {0}) TableFault → Type 0
IsPutIn old new place at rule result =
    AnswersCauses (rule_causes (table_of old) (name_in old place) rule ++ full (table_of old) (name_in old place) ∷ [])
    (λ rules. insert rules at rule) old new place result

-- the answer of a call that replaces a rule
abbrev pub IsPutOver : Parts → Parts → ℕ → ℕ → Rule → Result (Unit {0}) TableFault → Type 0
IsPutOver old new place at rule result =
    AnswersCauses (rule_causes (table_of old) (name_in old place) rule) (λ rules. slice_set rules at rule) old new place result

-- ---- What a rename leaves of the chains as the code keeps them.

-- a rule that leads to a chain names one
abbrev pub NameChains : List Entry → Type 0
NameChains entries = All (λ (e : Entry). IsSome (key_in e.flow) → IsTrue (names_chain (target_of e.rule))) entries

-- the rule, with the name in it if it leads to the chain under the key
abbrev pub retargeted : ℕ → List ℕ → Entry → Entry
retargeted key name entry =
    record { rule = if leads_to key entry.flow then with_chain_name name entry.rule else entry.rule; flow = entry.flow }

-- the first chains of the index have the name in their rules that lead to the chain under the key, and all else is as before
pub record AreRetargeted (old new : List (Option StoredChain)) (order : List ℕ) (key : ℕ) (name : List ℕ) (upto : ℕ) : Type 0 where
  pub present : (k : ℕ) → IsSome (slot_at old k) → IsSome (slot_at new k)
  pub no_more : (k : ℕ) → IsSome (slot_at new k) → IsSome (slot_at old k)
  pub named : (k : ℕ) → (stored_at new k).name ≡ (stored_at old k).name
  pub references : (k : ℕ) → (stored_at new k).references ≡ (stored_at old k).references
  pub classified : (j : ℕ) → j < length order → IsClassified (stored_at new (slice_index order j))
  pub done : (j : ℕ) → j < upto → j < length order
      → (stored_at new (slice_index order j)).entries ≡ map (retargeted key name) (stored_at old (slice_index order j)).entries
  pub rest : (j : ℕ) → upto ≤ j → j < length order
      → (stored_at new (slice_index order j)).entries ≡ (stored_at old (slice_index order j)).entries

-- the index with the key at one place moved to another, both counted before the move
abbrev pub moved_key : List ℕ → ℕ → ℕ → List ℕ
moved_key order place to = insert (remove order place) (if nat_lt place to then to - 1 else to) (slice_index order place)
