-- What calls answer, by what they found, and leave of the table: what refuses one, and that out of memory is no cause.
use Rattle.std.proofs.Common.{◌≡◌, inl, inr, ℕ, Bool, true, false, not, List, [], ◌∷◌, ◌++◌, refl, sym, ◌∙◌, ap, Option, Some, None, Result, Ok, Err, zero, suc, ◌<◌, length, get_or, map, arith, subst, ◌-◌, ◌≤◌, drop}
use Rattle.std.specs.Prelude.{remove, if◌then◌else◌}
use Rattle.std.specs.List.{list_all, list_any, position}
use Rattle.std.proofs.lemmas.Bool.{cases_Bool, cond-true, cond-false, false≢true, and_parts, not-true}
use Rattle.std.proofs.lemmas.Option.{same_Some, none-some}
use Rattle.std.proofs.lemmas.List.{length-map, length-drop, get_or-drop, get_or_default}
use Rattle.std.specs.Option.{IsSome}
use Rattle.std.proofs.lemmas.List.Quantifiers.{position-Some}
use Rattle.std.proofs.lemmas.Slice.Eq.{bytes_eq-Decides}
use Rattle.classify.specs.Laws.{RulesHaveOneClassifier}
use Rattle.rules.specs.rule.Rules.{Rule}
use Rattle.rules.proofs.laws.rule.CrossLaws.{any_mapped}
use Rattle.fields.specs.Refusals.{Refuses}
use Rattle.fields.specs.values.Name.{is_name, name_of}
use Rattle.table.specs.chains.Table.{Table, chain_named_by, TableView, Chain, Policy, AreClassified, is_named, has_chain, rules_of, built_in_names, is_built_in, names_of}
use Rattle.table.specs.edits.Edits.{Edit, Append, Insert, Replace, DeleteAt, DeleteRule, Has, Flush, FlushAll, NewChain, DeleteChain, DeleteChains, SetPolicy, Rename, Cause, causes, target_causes, full, first_fault, TableFault, NoMemory, fault_of, edited, IsStepIfRoom, same_text, without_first, no_such_rule, changed_chain, NoSuchChain, changed, step, refusal_of, Answers, IsStep, no_such_chain, TargetMissing, TargetBuiltIn, Loop, leads}
use Rattle.table.specs.edits.Headline.{OutOfMemoryIsNoCause, accepted, edited_by, CallsLeaveWhatTheyAccept, RefusedCallsChangeNothing, ChainsHaveOneListOfClassifiers}
use Rattle.table.specs.declared.chain.entry.Entry.{Entry}
use Rattle.table.specs.steps.StoredChains.{StoredChain, rule_in, rules_in, has_text, IsClassified}
use Rattle.table.specs.steps.Kept.{stored_at, name_at, listed, listed_stored, blank, classifiers, table_of, table_with, name_in, stored_in, AreStored, IsStored, LinksTo}
use Rattle.table.specs.declared.parts.Parts.{Parts}
use Rattle.table.specs.chains.Sound.{IsUserName}
use Rattle.table.specs.declared.chain.entry.Flow.TheVariants as flow
use Rattle.table.proofs.laws.chains.PlaceLaws.{any_none, any_some, IsPlaced, placed_at, placed_nowhere}
use Rattle.table.proofs.laws.chains.StoreLaws.{names_apart, listed_get, length-listed, built_in_at, length-names, names_get}

-- ---- Out of memory is no cause of the definition.

abbrev is_memory : TableFault → Bool
is_memory NoMemory = true
is_memory f = false

abbrev is_other : Cause → Bool
is_other cause = not (is_memory cause.1)

target_other : (t : Table) (c : List ℕ) (o : Option (List ℕ)) → list_all is_other (target_causes t c o) ≡ true
target_other t c None = refl
target_other t c (Some name) = refl

target_full_other : (t : Table) (c : List ℕ) (o : Option (List ℕ)) → list_all is_other (target_causes t c o ++ full t c ∷ []) ≡ true
target_full_other t c None = refl
target_full_other t c (Some name) = refl

causes_other : (e : Edit) (t : Table) → list_all is_other (causes e t) ≡ true
causes_other (Append c r) t = target_full_other t c (chain_named_by r)
causes_other (Insert c n r) t = target_full_other t c (chain_named_by r)
causes_other (Replace c n r) t = target_other t c (chain_named_by r)
causes_other (DeleteAt c n) t = refl
causes_other (DeleteRule c r) t = refl
causes_other (Has c r) t = refl
causes_other (Flush c) t = refl
causes_other FlushAll t = refl
causes_other (NewChain c) t = refl
causes_other (DeleteChain c) t = refl
causes_other DeleteChains t = refl
causes_other (SetPolicy c text) t = refl
causes_other (Rename old new) t = refl

abbrev fault_is_memory : Option TableFault → Bool
fault_is_memory None = false
fault_is_memory (Some f) = is_memory f

first_other : (cs : List Cause) → list_all is_other cs ≡ true → fault_is_memory (first_fault cs) ≡ false
first_other [] h = refl
first_other (c ∷ cs) h =
    let both = and_parts (is_other c) (list_all is_other cs) h in
    elim (cases_Bool c.0) [
      | inl holds ↦ ap fault_is_memory (cond-true c.0 _ _ holds) ∙ not-true (is_memory c.1) both.0
      | inr un ↦ ap fault_is_memory (cond-false c.0 _ _ un) ∙ first_other cs both.1
    ]

-- an edit's fault is never out of memory
pub never_memory : OutOfMemoryIsNoCause
never_memory e t h = false≢true (sym (first_other (causes e t) (causes_other e t)) ∙ ap fault_is_memory h)

-- ---- What the definitions come to.

-- Calls, one after another

accepted_leaves : (e : Edit) (t next : Table) (o : Option TableFault) → elim o as (λ o. Result Table TableFault) [ None ↦ Ok (edited e t) | Some f ↦ Err f ] ≡ Ok next → next ≡ edited e t
accepted_leaves e t next None is = let same : Ok (edited e t) ≡ Ok next = is in cc
accepted_leaves e t next (Some f) is = absurd (let z : Err f ≡ Ok next = is in cc)

pub refused_changes_nothing : RefusedCallsChangeNothing
refused_changes_nothing e old new f h = h.1.0

one_call : (e : Edit) (old next : TableView) (answer : Result (Unit {0}) TableFault) (more : List Edit) → IsStepIfRoom e old next answer
    → edited_by next.table more ≡ edited_by old.table (elim answer as (λ r. List Edit) [ Ok u ↦ e ∷ more | Err f ↦ more ])
one_call e old next (Ok u) more h = ap (λ (t : Table). edited_by t more) (accepted_leaves e old.table next.table (fault_of e old.table) h.0)
one_call e old next (Err f) more h = ap (λ (v : TableView). edited_by v.table more) (refused_changes_nothing e old next f h)

pub calls_leave : CallsLeaveWhatTheyAccept
calls_leave old new [] h = ap (λ (v : TableView). v.table) h
calls_leave old new (call ∷ calls) h = calls_leave h.0 new calls h.2 ∙ one_call call.edit old h.0 call.answer (accepted calls) h.1

-- Classifiers

pub one_list : RulesHaveOneClassifier → ChainsHaveOneListOfClassifiers
one_list one [] [] [] a b = refl
one_list one [] [] (d ∷ ds) a b = absurd b
one_list one [] (c ∷ cs) ds a b = absurd a
one_list one (chain ∷ chains) [] ds a b = absurd a
one_list one (chain ∷ chains) (c ∷ cs) [] a b = absurd b
one_list one (chain ∷ chains) (c ∷ cs) (d ∷ ds) a b = λ i. one chain.rules c d a.0 b.0 i ∷ one_list one chains cs ds a.1 b.1 i

-- ---- What a call answers, by what it found.

-- An answer is right

pub refused : (edit : Edit) {shown old : TableView} → shown ≡ old → (f : TableFault) → fault_of edit shown.table ≡ Some f → IsStep edit old old (Err f)
refused edit {shown} {old} is f h =
    let P : Option TableFault → Type 0 = λ (o : Option TableFault). Answers (elim o [ None ↦ Ok (edited edit shown.table) | Some g ↦ Err g ]) shown shown (Err f) in
    let Q : TableView → Type 0 = λ v. IsStep edit v v (Err f) in
    subst Q is (subst P (sym h) (refl, refl))

pub done : (edit : Edit) {shown old : TableView} → shown ≡ old → (new : TableView) → fault_of edit shown.table ≡ None → new.table ≡ edited edit shown.table → IsStep edit old new (Ok tt)
done edit {shown} {old} is new h e =
    let P : Option TableFault → Type 0 = λ (o : Option TableFault). Answers (elim o [ None ↦ Ok (edited edit shown.table) | Some g ↦ Err g ]) shown new (Ok tt) in
    let Q : TableView → Type 0 = λ v. IsStep edit v new (Ok tt) in
    subst Q is (subst P (sym h) (refl, e))

-- a fault is a refusal, or says that memory ran out
refuses : (f : TableFault) (given : Result Table TableFault) → given ≡ Err f → Refuses (refusal_of f) given
refuses NoMemory given is = tt
refuses f given is = is

-- what the step gives, by its fault
abbrev given_by : Edit → Table → Option TableFault → Result Table TableFault
given_by edit t o = elim o [ None ↦ Ok (edited edit t) | Some f ↦ Err f ]

-- what is a step is one if there is room
pub if_room : (edit : Edit) (old new : TableView) (r : Result (Unit {0}) TableFault) → IsStep edit old new r → IsStepIfRoom edit old new r
if_room edit old new r = go (fault_of edit old.table) refl
  where
    go : (o : Option TableFault) → fault_of edit old.table ≡ o → Answers (given_by edit old.table o) old new r → IsStepIfRoom edit old new r
    go None due a =
        let gives : step edit old.table ≡ Ok new.table = ap (given_by edit old.table) due ∙ ap Ok (sym a.1) in
        subst (IsStepIfRoom edit old new) (sym a.0) (gives, tt)
    go (Some f) due a =
        let gives : step edit old.table ≡ Err f = ap (given_by edit old.table) due in
        let late : f ≡ NoMemory → fault_of edit old.table ≡ None = λ is. absurd (never_memory edit old.table (due ∙ ap Some is)) in
        subst (IsStepIfRoom edit old new) (sym a.0) (refuses f (step edit old.table) gives, (a.1, late))

pub refused_if_room : (edit : Edit) {shown old : TableView} → shown ≡ old → (f : TableFault) → fault_of edit shown.table ≡ Some f → IsStepIfRoom edit old old (Err f)
refused_if_room edit {shown} {old} is f h = if_room edit old old (Err f) (refused edit is f h)

pub done_if_room : (edit : Edit) {shown old : TableView} → shown ≡ old → (new : TableView) → fault_of edit shown.table ≡ None → new.table ≡ edited edit shown.table → IsStepIfRoom edit old new (Ok tt)
done_if_room edit {shown} {old} is new h e = if_room edit old new (Ok tt) (done edit is new h e)

-- where nothing but memory refuses
pub no_room : (edit : Edit) {shown old : TableView} → shown ≡ old → (new : TableView) → new ≡ shown → fault_of edit shown.table ≡ None → IsStepIfRoom edit old new (Err NoMemory)
no_room edit {shown} {old} is new same h =
    let P : TableView → Type 0 = λ v. fault_of edit v.table ≡ None in
    (tt, (same ∙ is, λ e. subst P is h))

-- Causes, one after another

pub holds : (c : Cause) (cs : List Cause) → c.0 ≡ true → first_fault (c ∷ cs) ≡ Some c.1
holds c cs e = cond-true c.0 _ _ e

pub passes : (c : Cause) (cs : List Cause) → c.0 ≡ false → first_fault (c ∷ cs) ≡ first_fault cs
passes c cs e = cond-false c.0 _ _ e

-- no chain has the name
pub nowhere : (t : Table) (name : List ℕ) (cs : List Cause) → position (is_named name) t.chains ≡ None → first_fault (no_such_chain t name ∷ cs) ≡ Some NoSuchChain
nowhere t name cs e = holds (no_such_chain t name) cs (ap not (placed_nowhere t name e))

-- a chain has it
pub somewhere : (t : Table) (name : List ℕ) (i : ℕ) (cs : List Cause) → position (is_named name) t.chains ≡ Some i → first_fault (no_such_chain t name ∷ cs) ≡ first_fault cs
somewhere t name i cs e = passes (no_such_chain t name) cs (let p : IsPlaced t name i = placed_at t name i e in ap not p.there)

-- A chain that was found

module _ (ps : List Policy) (slots : List (Option StoredChain)) (order name : List ℕ) (i : ℕ) (lt : i < length order) (e : position (is_named name) (listed slots order) ≡ Some i) where
  placed_here : IsPlaced (table_with ps slots order) name i
  placed_here = placed_at (table_with ps slots order) name i e

  pub rules_placed : rules_of (listed slots order) name ≡ rules_in (stored_at slots (get_or order i 0))
  rules_placed = placed_here.rules (listed_stored blank) ∙ ap (λ (c : Chain). c.rules) (listed_get slots order i (listed_stored blank) lt)

  pub count_placed : length (rules_of (listed slots order) name) ≡ length (stored_at slots (get_or order i 0)).entries
  count_placed = ap (λ (rs : List Rule). length rs) rules_placed ∙ length-map (stored_at slots (get_or order i 0)).entries (λ x. x.rule)

  pub name_placed : name_at slots order i ≡ name
  name_placed = ap (λ (c : Chain). c.name) (sym (listed_get slots order i (listed_stored blank) lt)) ∙ placed_here.named (listed_stored blank)

-- of parts: its rules, how many there are, and its name
pub rules_found : (p : Parts) (name : List ℕ) (i : ℕ) → i < length p.order.items → position (is_named name) (table_of p).chains ≡ Some i → rules_of (table_of p).chains name ≡ rules_in (stored_in p i)
rules_found p name i lt e = rules_placed p.policies p.chains.slots p.order.items name i lt e

pub count_found : (p : Parts) (name : List ℕ) (i : ℕ) → i < length p.order.items → position (is_named name) (table_of p).chains ≡ Some i → length (rules_of (table_of p).chains name) ≡ length (stored_in p i).entries
count_found p name i lt e = count_placed p.policies p.chains.slots p.order.items name i lt e

pub name_found : (p : Parts) (name : List ℕ) (i : ℕ) → i < length p.order.items → position (is_named name) (table_of p).chains ≡ Some i → name_in p i ≡ name
name_found p name i lt e = name_placed p.policies p.chains.slots p.order.items name i lt e

-- the table after an edit of it
pub changed_found : (p new : Parts) (name : List ℕ) (i : ℕ) (edit : List Rule → List Rule) → i < length p.order.items → position (is_named name) (table_of p).chains ≡ Some i
    → table_of new ≡ changed edit (name_in p i) (table_of p) → table_of new ≡ changed edit name (table_of p)
changed_found p new name i edit lt e is = is ∙ ap (λ n. changed edit n (table_of p)) (name_found p name i lt e)

-- each chain's classifier is that of its rules
pub classified_with : (slots : List (Option StoredChain)) (keys : List ℕ) → ((i : ℕ) → i < length keys → IsClassified (stored_at slots (get_or keys i 0))) → AreClassified (listed slots keys) (classifiers slots keys)
classified_with slots [] h = tt
classified_with slots (x ∷ xs) h = (h 0 (omega arith), classified_with slots xs (λ i lt. h (suc i) (omega (arith, lt))))

-- Rules by their texts

-- no rule of a chain has the text
pub no_text : (p : Parts) (name : List ℕ) (i : ℕ) (rule : Rule) → i < length p.order.items → position (is_named name) (table_of p).chains ≡ Some i
    → position (has_text rule) (stored_in p i).entries ≡ None → (no_such_rule (table_of p) name rule).0 ≡ true
no_text p name i rule lt e none =
    let es : List Entry = (stored_in p i).entries in
    ap not (ap (list_any (same_text rule)) (rules_found p name i lt e) ∙ any_mapped (same_text rule) rule_in es ∙ any_none (has_text rule) es none)

-- one has
pub some_text : (p : Parts) (name : List ℕ) (i at : ℕ) (rule : Rule) → i < length p.order.items → position (is_named name) (table_of p).chains ≡ Some i
    → position (has_text rule) (stored_in p i).entries ≡ Some at → (no_such_rule (table_of p) name rule).0 ≡ false
some_text p name i at rule lt e found =
    let es : List Entry = (stored_in p i).entries in
    ap not (ap (list_any (same_text rule)) (rules_found p name i lt e) ∙ any_mapped (same_text rule) rule_in es ∙ any_some (has_text rule) es at (record { rule = rule; flow = flow.Continue }) found)

-- the first rule of the text is the one at its place
without_at : (rule : Rule) (es : List Entry) (at : ℕ) (d : Entry) → at < length es → ((k : ℕ) → k < at → has_text rule (get_or es k d) ≡ false) → has_text rule (get_or es at d) ≡ true → without_first rule (map rule_in es) ≡ remove (map rule_in es) at
without_at rule [] at d lt before is = absurd (omega (arith, lt))
without_at rule (e ∷ es) zero d lt before is = cond-true (same_text rule e.rule) _ _ is
without_at rule (e ∷ es) (suc at) d lt before is =
    cond-false (same_text rule e.rule) _ _ (before 0 (omega arith)) ∙ ap (λ (rs : List Rule). e.rule ∷ rs) (without_at rule es at d (omega (arith, lt)) (λ k below. before (suc k) (omega (arith, below))) is)

pub without_found : (rule : Rule) (es : List Entry) (at : ℕ) → position (has_text rule) es ≡ Some at → without_first rule (map rule_in es) ≡ remove (map rule_in es) at
without_found rule es at found =
    let d : Entry = record { rule = rule; flow = flow.Continue } in
    let p = position-Some (has_text rule) es at d found in
    without_at rule es at d p.0 p.2 p.1

-- edits that do the same to one chain's rules

map_agree : (f g : Chain → Chain) (cs : List Chain) (d : Chain) → ((k : ℕ) → k < length cs → f (get_or cs k d) ≡ g (get_or cs k d)) → map f cs ≡ map g cs
map_agree f g [] d h = refl
map_agree f g (c ∷ cs) d h = λ i. h 0 (omega arith) i ∷ map_agree f g cs d (λ k lt. h (suc k) (omega (arith, lt))) i

pub changed_agree : (p : Parts) (name : List ℕ) (i : ℕ) (f g : List Rule → List Rule) → AreStored p → i < length p.order.items → name_in p i ≡ name
    → f (rules_in (stored_in p i)) ≡ g (rules_in (stored_in p i)) → changed f name (table_of p) ≡ changed g name (table_of p)
changed_agree p name i f g s lt named same =
    let slots : List (Option StoredChain) = p.chains.slots in
    let order : List ℕ = p.order.items in
    let d : Chain = listed_stored blank in
    let P : List Chain → Table = λ (cs : List Chain). record { policies = p.policies; chains = cs } in
    ap P (map_agree (changed_chain f name) (changed_chain g name) (listed slots order) d
    (λ k lk.
    let below : k < length order = omega (arith, lk, length-listed slots order) in
    let at : get_or (listed slots order) k d ≡ listed_stored (stored_at slots (get_or order k 0)) = listed_get slots order k d below in
    let c : Chain = listed_stored (stored_at slots (get_or order k 0)) in
    ap (changed_chain f name) at
    ∙ elim (cases_Bool (is_named name c)) [
      | inl own ↦ (
          let q : k ≡ i = names_apart p.policies slots order s k i below lt ((bytes_eq-Decides c.name name).0 own ∙ sym named) in
          let R : ℕ → Type 0 = λ j. f (rules_in (stored_at slots (get_or order j 0))) ≡ g (rules_in (stored_at slots (get_or order j 0))) in
          let e : f c.rules ≡ g c.rules = subst R (sym q) same in
          cond-true (is_named name c) _ _ own ∙ ap (λ (rs : List Rule). record { name = c.name; rules = rs }) e ∙ sym (cond-true (is_named name c) _ _ own))
      | inr other ↦ cond-false (is_named name c) _ _ other ∙ sym (cond-false (is_named name c) _ _ other)
    ]
    ∙ ap (changed_chain g name) (sym at)))

-- Names that are read

pub name_read : (text name : List ℕ) → name_of text ≡ Some name → (is_name text ≡ true) × (name ≡ text)
unfolding name_of
name_read text name e =
    elim (cases_Bool (is_name text)) [
      | inl t ↦ (t, same_Some _ _ (sym e ∙ cond-true (is_name text) _ _ t))
      | inr f ↦ absurd (none-some _ (sym (cond-false (is_name text) _ _ f) ∙ e))
    ]

pub name_refused : (text : List ℕ) → name_of text ≡ None → is_name text ≡ false
unfolding name_of
name_refused text e =
    elim (cases_Bool (is_name text)) [
      | inl t ↦ absurd (none-some _ (sym e ∙ cond-true (is_name text) _ _ t))
      | inr f ↦ f
    ]

-- a chain of the name is there
pub exists_named : (t : Table) (name : List ℕ) → IsSome (position (is_named name) t.chains) → has_chain t name ≡ true
exists_named t name h = go (position (is_named name) t.chains) refl h
  where
    go : (o : Option ℕ) → position (is_named name) t.chains ≡ o → IsSome o → has_chain t name ≡ true
    go (Some i) e h = let p : IsPlaced t name i = placed_at t name i e in p.there
    go None e h = absurd (false≢true h)

-- ---- What refuses a rule in a chain, and what it leads to.

-- Built-in names

one_of_three : (name : List ℕ) (k : ℕ) → k < 3 → get_or built_in_names k [] ≡ name → is_built_in name ≡ true
one_of_three name zero lt e = ap is_built_in (sym e)
one_of_three name (suc zero) lt e = ap is_built_in (sym e)
one_of_three name (suc (suc zero)) lt e = ap is_built_in (sym e)
one_of_three name (suc (suc (suc k))) lt e = absurd (omega (arith, lt))

-- a chain at one of the first three places is a built-in one, and the others are not
built_in_index : (ps : List Policy) (slots : List (Option StoredChain)) (order : List ℕ) (k : ℕ) → IsStored ps slots order → k < 3 → is_built_in (name_at slots order k) ≡ true
built_in_index ps slots order k s lt = one_of_three (name_at slots order k) k lt (sym (built_in_at ps slots order s k lt))

user_place : (ps : List Policy) (slots : List (Option StoredChain)) (order : List ℕ) (k : ℕ) → IsStored ps slots order → 3 ≤ k → k < length order → is_built_in (name_at slots order k) ≡ false
user_place ps slots order k s ge lt =
    let ns : List (List ℕ) = names_of (listed slots order) in
    let is : get_or (drop 3 ns) (k - 3) [] ≡ name_at slots order k = get_or-drop 3 ns (k - 3) [] ∙ ap (λ n. get_or ns n []) (omega (arith, ge)) ∙ names_get slots order k [] lt in
    let u : IsUserName (get_or (drop 3 ns) (k - 3) []) = s.sound.listed.user (k - 3) [] (omega (arith, ge, lt, length-names slots order, length-drop 3 ns)) in
    ap is_built_in (sym is) ∙ u.other

-- The chain that a rule names

-- what may refuse it, once it is there
abbrev once_there : List (Option StoredChain) → List ℕ → List ℕ → List ℕ → List Cause
once_there slots order chain name = (is_built_in name, TargetBuiltIn) ∷ (leads (listed slots order) name chain, Loop) ∷ []

pub target_missing : (ps : List Policy) (slots : List (Option StoredChain)) (order chain name : List ℕ) → position (is_named name) (listed slots order) ≡ None → first_fault (target_causes (table_with ps slots order) chain (Some name)) ≡ Some TargetMissing
target_missing ps slots order chain name e = holds (not (has_chain (table_with ps slots order) name), TargetMissing) (once_there slots order chain name) (ap not (placed_nowhere (table_with ps slots order) name e))

there : (ps : List Policy) (slots : List (Option StoredChain)) (order chain name : List ℕ) (i : ℕ) → position (is_named name) (listed slots order) ≡ Some i
    → first_fault (target_causes (table_with ps slots order) chain (Some name)) ≡ first_fault (once_there slots order chain name)
there ps slots order chain name i e =
    let p : IsPlaced (table_with ps slots order) name i = placed_at (table_with ps slots order) name i e in
    passes (not (has_chain (table_with ps slots order) name), TargetMissing) (once_there slots order chain name) (ap not p.there)

pub target_built_in : (ps : List Policy) (slots : List (Option StoredChain)) (order chain name : List ℕ) (i : ℕ) → IsStored ps slots order → i < length order → position (is_named name) (listed slots order) ≡ Some i → i < 3
    → first_fault (target_causes (table_with ps slots order) chain (Some name)) ≡ Some TargetBuiltIn
target_built_in ps slots order chain name i s lt e low =
    there ps slots order chain name i e ∙ holds (is_built_in name, TargetBuiltIn) ((leads (listed slots order) name chain, Loop) ∷ []) (ap is_built_in (sym (name_placed ps slots order name i lt e)) ∙ built_in_index ps slots order i s low)

-- the chain of the name lies under the key
name_under : (ps : List Policy) (slots : List (Option StoredChain)) (order name : List ℕ) (i key : ℕ) → i < length order → position (is_named name) (listed slots order) ≡ Some i → key ≡ get_or order i key → (stored_at slots key).name ≡ name
name_under ps slots order name i key lt e is = ap (λ (k : ℕ). (stored_at slots k).name) (is ∙ sym (get_or_default order i 0 key lt)) ∙ name_placed ps slots order name i lt e

-- a user chain that is there is refused where a path leads from it to the chain that the rule would stand in
pub target_led : (ps : List Policy) (slots : List (Option StoredChain)) (order name : List ℕ) (i place key own : ℕ) (found : Bool) → IsStored ps slots order → i < length order → position (is_named name) (listed slots order) ≡ Some i → 3 ≤ i → key ≡ get_or order i key → place < length order
    → own ≡ get_or order place own → found ≡ leads (listed slots order) (stored_at slots key).name (stored_at slots own).name
    → first_fault (target_causes (table_with ps slots order) (name_at slots order place) (Some name)) ≡ (if found then Some Loop else None)
target_led ps slots order name i place key own found s lt e high is below at h =
    let chain : List ℕ = name_at slots order place in
    let path : found ≡ leads (listed slots order) name chain = h ∙ ap (λ (a : List ℕ). leads (listed slots order) a (stored_at slots own).name) (name_under ps slots order name i key lt e is)
    ∙ ap (λ (k : ℕ). leads (listed slots order) name (stored_at slots k).name) (at ∙ sym (get_or_default order place 0 own below)) in
    there ps slots order chain name i e
    ∙ passes (is_built_in name, TargetBuiltIn) ((leads (listed slots order) name chain, Loop) ∷ []) (ap is_built_in (sym (name_placed ps slots order name i lt e)) ∙ user_place ps slots order i s high lt)
    ∙ ap (λ (b : Bool). if b then Some Loop else None) (sym path)

pub target_links : (ps : List Policy) (slots : List (Option StoredChain)) (order name : List ℕ) (i key : ℕ) → i < length order → position (is_named name) (listed slots order) ≡ Some i → 3 ≤ i → key ≡ get_or order i key → LinksTo slots order key (Some name)
target_links ps slots order name i key lt e high is = ((i, high, lt, get_or_default order i 0 key lt ∙ sym is), name_under ps slots order name i key lt e is)
