-- What a list of edits leaves of a table, and that every table can be made from the empty one by edits.
use Rattle.std.specs.Prelude.{◌≡◌, List, [], ◌∷◌, Some, Result, Ok, Err, ℕ, ◌++◌, map, flat_map, Option, None, codes}
use Rattle.classify.specs.Classifier.{Classified}
use Rattle.table.specs.chains.Table.{Chain, Table, TableView, AreClassified, Policy, Accept, Drop, empty_table, policy_of}
use Rattle.table.specs.edits.Edits.{Edit, TableFault, NoMemory, IsStepIfRoom, edited, fault_of, Append, NewChain, SetPolicy, step}
use Rattle.table.specs.chains.Sound.{IsSound}

-- ---- What a list of edits leaves of a table.

-- an edit that was called for, and the answer
pub record Call : Type 0 where
  pub edit : Edit
  pub answer : Result (Unit {0}) TableFault

-- these calls, made one after another, lead from one table to another
abbrev pub Lead : TableView → List Call → TableView → Type 0
Lead old [] new = new ≡ old
Lead old (call ∷ calls) new = (next : TableView) × IsStepIfRoom call.edit old next call.answer × Lead next calls new

-- the edit of a call put before others, if it was accepted
abbrev pub if_accepted : Call → List Edit → List Edit
if_accepted call edits = elim call.answer [ Ok u ↦ call.edit ∷ edits | Err f ↦ edits ]

-- the edits that were accepted
abbrev pub accepted : List Call → List Edit
accepted [] = []
accepted (call ∷ calls) = if_accepted call (accepted calls)

-- the table after plain edits, one after another
abbrev pub edited_by : Table → List Edit → Table
edited_by t [] = t
edited_by t (edit ∷ edits) = edited_by (edited edit t) edits

-- whatever calls are made on a table, they leave it edited by the accepted ones
abbrev pub CallsLeaveWhatTheyAccept : Type 0
CallsLeaveWhatTheyAccept =
    (old new : TableView) (calls : List Call) → Lead old calls new → new.table ≡ edited_by old.table (accepted calls)

-- a refused call changes nothing, classifiers included
abbrev pub RefusedCallsChangeNothing : Type 0
RefusedCallsChangeNothing = (edit : Edit) (old new : TableView) (f : TableFault) → IsStepIfRoom edit old new (Err f) → new ≡ old

-- chains have one list of classifiers, whatever edits led to them
abbrev pub ChainsHaveOneListOfClassifiers : Type 0
ChainsHaveOneListOfClassifiers =
    (chains : List Chain) (cs ds : List Classified) → AreClassified chains cs → AreClassified chains ds → cs ≡ ds

-- no definition of a command refuses it for lack of memory; a call does so only where nothing else refuses
abbrev pub OutOfMemoryIsNoCause : Type 0
OutOfMemoryIsNoCause = (edit : Edit) (t : Table) → fault_of edit t ≡ Some NoMemory → ⊥

-- ---- Every table can be made from the empty one by edits.

-- the word for a policy
abbrev pub policy_text : Policy → List ℕ
policy_text Accept = codes "ACCEPT"
policy_text Drop = codes "DROP"

-- edits one after another, up to the first refusal
abbrev pub steps : List Edit → Table → Result Table TableFault
steps [] t = Ok t
steps (edit ∷ edits) t = elim (step edit t) [ Ok next ↦ steps edits next | Err f ↦ Err f ]

-- a policy for a built-in chain, `-N` for a user chain
abbrev pub making_with : List ℕ → Option Policy → Edit
making_with name (Some p) = SetPolicy name (policy_text p)
making_with name None = NewChain name

-- the edit that makes a chain of a table
abbrev pub making : Table → Chain → Edit
making t c = making_with c.name (policy_of t c.name)

-- the edits that append the rules of a chain
abbrev pub appends : Chain → List Edit
appends c = map (Append c.name) c.rules

-- the edits that make a table: its chains, and then their rules chain by chain
abbrev pub makings : Table → List Edit
makings t = map (making t) t.chains ++ flat_map appends t.chains

-- every table is made from the empty one by these edits, and none is refused
abbrev pub TablesAreMadeByEdits : Type 0
TablesAreMadeByEdits = (t : Table) → IsSound t → steps (makings t) empty_table ≡ Ok t
