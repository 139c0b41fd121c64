-- A chain taken away, and all user chains taken away.
use Rattle.std.proofs.Common.{◌≡◌, ◌≢◌, ◌⊎◌, inl, inr, ℕ, suc, ◌+◌, ◌<◌, ◌≤◌, Bool, true, false, cond, ◌||◌, List, [], ◌∷◌, length, get_or, refl, sym, ◌∙◌, ap, arith, subst, Option, Some, None, IsSome, unwrap_or, All, nat_eq, not, Contains}
use Rattle.std.specs.Prelude.{count_by, remove, nat_lt, filter}
use Rattle.std.specs.List.{list_any}
use Rattle.std.specs.Str.{bytes_eq}
use Rattle.std.proofs.lemmas.Bool.{cases_eq, cases_lt, false≢true, eq-eqb, ne_eqb, lt-ltb, le-ltb, ltb-false, cases_Bool, cond-true, cond-false, or_left, or_right, or_cases}
use Rattle.std.proofs.lemmas.List.Edits.{get_or-remove_below, get_or-remove_above, length-remove}
use Rattle.std.proofs.lemmas.List.{get_or-map, get_or_default, length-map}
use Rattle.std.proofs.lemmas.List.Sums.{sum_by-cons}
use Rattle.std.proofs.lemmas.Slice.Eq.{bytes_eq-Decides}
use Rattle.std.proofs.lemmas.List.Elements.{All-filter, All-contains_itself}
use Rattle.rules.specs.rule.Actions.{target_of}
use Rattle.rules.specs.rule.Rules.{Rule}
use Rattle.rules.specs.declared.rule.target.Target.{Target}
use Rattle.rules.proofs.laws.rule.CrossLaws.{any_mapped}
use Rattle.rules.specs.declared.rule.target.Target.TheVariants as target
use Rattle.table.specs.chains.Sound.{IsSound}
use Rattle.table.specs.chains.Table.{Policy, Table, Chain, is_named, is_this, chain_in, chain_named_by, names, is_referenced, rules_of, is_built_in, is_user, user_chains}
use Rattle.table.specs.edits.Edits.{Cause, DeleteChain, ChainNotEmpty, ChainReferenced, BuiltInChain, no_such_chain, built_in, first_fault, edited, fault_of, DeleteChains, has_rules, causes}
use Rattle.table.specs.steps.StoredChains.{StoredChain, rule_in, rules_in, leads_to, flow_of, IsClassified}
use Rattle.table.specs.steps.Kept.{blank, slot_at, stored_at, name_at, listed, listed_at, listed_stored, table_with, leading, leading_in, references_at, IsIn, IsUser, LinksTo, IsLinked, IsStored, IsKept}
use Rattle.table.specs.declared.chain.entry.Entry.{Entry}
use Rattle.table.proofs.laws.chains.RenamedLaws.{without_at}
use Rattle.table.proofs.laws.edits.RenameLaws.{leading_remove}
use Rattle.table.proofs.laws.chains.FewerLaws.{MayGo, may_go, any_false, delete_chain_sound, any_kind, none_kind, filter_within, filter_all, other_than, others_kept}
use Rattle.table.proofs.laws.chains.StoreLaws.{map_remove, names_apart, texts_differ, place_is, built_in_first, user_after, length-listed, listed_get}
use Rattle.table.proofs.laws.edits.AnswerLaws.{holds, passes, somewhere, count_placed}
use Rattle.table.proofs.laws.edits.MakeLaws.{listed_agree, leading_agree, stays_at}
use Rattle.table.proofs.laws.chains.StepLaws.{none_holds, first_clear}

-- ---- A chain taken away.

-- A chain is named by a rule just where its count isn't 0

-- a rule names a chain just where it leads to its key
names_leads : (ps : List Policy) (slots : List (Option StoredChain)) (order : List ℕ) (i : ℕ) (e : Entry) → IsStored ps slots order → i < length order → IsLinked slots order e → names (name_at slots order i) e.rule ≡ leads_to (get_or order i 0) e.flow
names_leads ps slots order i e s lt l = go (target_of e.rule) l.0 l.2 ∙ ap (leads_to (get_or order i 0)) (sym l.1)
  where
    same : (n : List ℕ) (to : ℕ) → LinksTo slots order to (Some n) → bytes_eq n (name_at slots order i) ≡ nat_eq to (get_or order i 0)
    same n to h =
        let j : ℕ = h.0.0 in
        let at : get_or order j 0 ≡ to = h.0.3 in
        let named : name_at slots order j ≡ n = ap (λ (k : ℕ). (stored_at slots k).name) at ∙ h.1 in
        elim (cases_eq j i) [
          | inl q ↦ (bytes_eq-Decides n (name_at slots order i)).1 (sym named ∙ ap (name_at slots order) q) ∙ sym (eq-eqb to (get_or order i 0) (sym at ∙ ap (λ (k : ℕ). get_or order k 0) q))
          | inr ne ↦ texts_differ n (name_at slots order i) (λ q. ne (names_apart ps slots order s j i h.0.2 lt (named ∙ q))) ∙ sym (ne_eqb to (get_or order i 0) (λ q. ne (s.apart j i h.0.2 lt (at ∙ q))))
        ]

    go : (o : Option Target) (to : ℕ) → LinksTo slots order to (chain_in o) → is_this (name_at slots order i) (chain_in o) ≡ leads_to (get_or order i 0) (flow_of o to)
    go None to h = refl
    go (Some target.Log) to h = refl
    go (Some target.Accept) to h = refl
    go (Some target.Drop) to h = refl
    go (Some (target.Reject kind)) to h = refl
    go (Some target.Return) to h = refl
    go (Some (target.Jump n)) to h = same n to h
    go (Some (target.Goto n)) to h = same n to h

-- some element passes where they are counted
lt_sum : (a b : ℕ) → nat_lt 0 a || nat_lt 0 b ≡ nat_lt 0 (a + b)
lt_sum a b =
    elim (cases_lt 0 a) [
      | inl lt ↦ ap (λ c. c || nat_lt 0 b) (lt-ltb 0 a lt) ∙ sym (lt-ltb 0 (a + b) (omega arith))
      | inr ge ↦ ap (λ c. c || nat_lt 0 b) (le-ltb 0 a ge) ∙ ap (nat_lt 0) (omega arith)
    ]

lt_one : (c : Bool) → c ≡ nat_lt 0 (cond c 1 0)
lt_one true = refl
lt_one false = refl

any_counted : {X : Type 0} (p q : X → Bool) (xs : List X) → ((k : ℕ) (d : X) → k < length xs → p (get_or xs k d) ≡ q (get_or xs k d)) → list_any p xs ≡ nat_lt 0 (count_by q xs)
any_counted p q [] h = refl
any_counted {X} p q (x ∷ xs) h =
    let rest : list_any p xs ≡ nat_lt 0 (count_by q xs) = any_counted p q xs (λ k d lt. h (suc k) d (omega (arith, lt))) in
    ap (λ b. b || list_any p xs) (h 0 x (omega arith) ∙ lt_one (q x)) ∙ ap (λ b. nat_lt 0 (cond (q x) 1 0) || b) rest ∙ lt_sum (cond (q x) 1 0) (count_by q xs) ∙ ap (nat_lt 0) (sym (sum_by-cons (λ (y : X). cond (q y) 1 0) x xs))

referenced_in : (ps : List Policy) (slots : List (Option StoredChain)) (order keys : List ℕ) (i : ℕ) → IsStored ps slots order → i < length order → ((j : ℕ) → j < length keys → All (IsLinked slots order) (stored_at slots (get_or keys j 0)).entries)
    → is_referenced (listed slots keys) (name_at slots order i) ≡ nat_lt 0 (leading slots keys (get_or order i 0))
referenced_in ps slots order [] i s lt h = refl
referenced_in ps slots order (x ∷ xs) i s lt h =
    let n : List ℕ = name_at slots order i in
    let key : ℕ = get_or order i 0 in
    let es : List Entry = (stored_at slots x).entries in
    let own : list_any (names n) (rules_in (stored_at slots x)) ≡ nat_lt 0 (leading_in key (stored_at slots x)) = any_mapped (names n) rule_in es
    ∙ any_counted (λ (e : Entry). names n e.rule) (λ (e : Entry). leads_to key e.flow) es (λ k d le. names_leads ps slots order i (get_or es k d) s lt (h 0 (omega arith) k d le)) in
    ap (λ b. b || is_referenced (listed slots xs) n) own
    ∙ ap (λ b. nat_lt 0 (leading_in key (stored_at slots x)) || b) (referenced_in ps slots order xs i s lt (λ j le. h (suc j) (omega (arith, le))))
    ∙ lt_sum (leading_in key (stored_at slots x)) (leading slots xs key)

pub referenced_is : (ps : List Policy) (slots : List (Option StoredChain)) (order : List ℕ) (i : ℕ) → IsKept ps slots order → i < length order → is_referenced (listed slots order) (name_at slots order i) ≡ nat_lt 0 (references_at slots (get_or order i 0))
referenced_is ps slots order i h lt = referenced_in ps slots order order i h.stored lt h.stored.linked ∙ ap (nat_lt 0) (sym (h.counted i lt))

-- Why a chain may not go

abbrev pub empty_cause : Table → List ℕ → Cause
empty_cause t c = (nat_lt 0 (length (rules_of t.chains c)), ChainNotEmpty)

abbrev pub named_cause : Table → List ℕ → Cause
named_cause t c = (is_referenced t.chains c, ChainReferenced)

is_there : (ps : List Policy) (slots : List (Option StoredChain)) (order : List ℕ) (i : ℕ) (cs : List Cause) → IsStored ps slots order → i < length order → first_fault (no_such_chain (table_with ps slots order) (name_at slots order i) ∷ cs) ≡ first_fault cs
is_there ps slots order i cs s lt = somewhere (table_with ps slots order) (name_at slots order i) i cs (place_is ps slots order (name_at slots order i) i s lt refl)

pub built_in_stays : (ps : List Policy) (slots : List (Option StoredChain)) (order : List ℕ) (i : ℕ) → IsStored ps slots order → i < length order → i < 3 → fault_of (DeleteChain (name_at slots order i)) (table_with ps slots order) ≡ Some BuiltInChain
built_in_stays ps slots order i s lt first =
    let t : Table = table_with ps slots order in
    let n : List ℕ = name_at slots order i in
    is_there ps slots order i (built_in n ∷ empty_cause t n ∷ named_cause t n ∷ []) s lt ∙ holds (built_in n) (empty_cause t n ∷ named_cause t n ∷ []) (built_in_first ps slots order n i s first refl)

-- of a user chain, by its rules and its count
pub user_fault : (ps : List Policy) (slots : List (Option StoredChain)) (order : List ℕ) (i : ℕ) → IsStored ps slots order → i < length order → 3 ≤ i
    → fault_of (DeleteChain (name_at slots order i)) (table_with ps slots order) ≡ first_fault (empty_cause (table_with ps slots order) (name_at slots order i) ∷ named_cause (table_with ps slots order) (name_at slots order i) ∷ [])
user_fault ps slots order i s lt user =
    let t : Table = table_with ps slots order in
    let n : List ℕ = name_at slots order i in
    is_there ps slots order i (built_in n ∷ empty_cause t n ∷ named_cause t n ∷ []) s lt ∙ passes (built_in n) (empty_cause t n ∷ named_cause t n ∷ []) (user_after ps slots order n i s user lt refl)

pub many_rules : (ps : List Policy) (slots : List (Option StoredChain)) (order : List ℕ) (i : ℕ) → IsStored ps slots order → i < length order → length (rules_of (listed slots order) (name_at slots order i)) ≡ length (stored_at slots (get_or order i 0)).entries
many_rules ps slots order i s lt = count_placed ps slots order (name_at slots order i) i lt (place_is ps slots order (name_at slots order i) i s lt refl)

pub filled_stays : (ps : List Policy) (slots : List (Option StoredChain)) (order : List ℕ) (i : ℕ) → IsStored ps slots order → i < length order → 3 ≤ i → 0 < length (stored_at slots (get_or order i 0)).entries
    → fault_of (DeleteChain (name_at slots order i)) (table_with ps slots order) ≡ Some ChainNotEmpty
filled_stays ps slots order i s lt user some =
    let t : Table = table_with ps slots order in
    let n : List ℕ = name_at slots order i in
    user_fault ps slots order i s lt user ∙ holds (empty_cause t n) (named_cause t n ∷ []) (ap (nat_lt 0) (many_rules ps slots order i s lt) ∙ lt-ltb 0 _ some)

pub named_stays : (ps : List Policy) (slots : List (Option StoredChain)) (order : List ℕ) (i : ℕ) → IsKept ps slots order → i < length order → 3 ≤ i → length (stored_at slots (get_or order i 0)).entries ≤ 0 → 0 < references_at slots (get_or order i 0)
    → fault_of (DeleteChain (name_at slots order i)) (table_with ps slots order) ≡ Some ChainReferenced
named_stays ps slots order i h lt user none some =
    let t : Table = table_with ps slots order in
    let n : List ℕ = name_at slots order i in
    user_fault ps slots order i h.stored lt user ∙ passes (empty_cause t n) (named_cause t n ∷ []) (ap (nat_lt 0) (many_rules ps slots order i h.stored lt) ∙ le-ltb 0 _ none)
    ∙ holds (named_cause t n) [] (referenced_is ps slots order i h lt ∙ lt-ltb 0 _ some)

pub free_goes : (ps : List Policy) (slots : List (Option StoredChain)) (order : List ℕ) (i : ℕ) → IsKept ps slots order → i < length order → 3 ≤ i → length (stored_at slots (get_or order i 0)).entries ≤ 0 → references_at slots (get_or order i 0) ≤ 0
    → fault_of (DeleteChain (name_at slots order i)) (table_with ps slots order) ≡ None
free_goes ps slots order i h lt user none zero_refs =
    let t : Table = table_with ps slots order in
    let n : List ℕ = name_at slots order i in
    user_fault ps slots order i h.stored lt user ∙ passes (empty_cause t n) (named_cause t n ∷ []) (ap (nat_lt 0) (many_rules ps slots order i h.stored lt) ∙ le-ltb 0 _ none)
    ∙ passes (named_cause t n) [] (referenced_is ps slots order i h lt ∙ le-ltb 0 _ zero_refs)

-- What is left

-- a user chain without rules, that no rule names
pub record IsIdle (slots : List (Option StoredChain)) (order : List ℕ) (i : ℕ) : Type 0 where
  pub user : 3 ≤ i
  pub empty : length (stored_at slots (get_or order i 0)).entries ≡ 0
  pub unnamed : references_at slots (get_or order i 0) ≡ 0

pub idle : (ps : List Policy) (slots : List (Option StoredChain)) (order : List ℕ) (i : ℕ) → IsKept ps slots order → i < length order → fault_of (DeleteChain (name_at slots order i)) (table_with ps slots order) ≡ None → IsIdle slots order i
idle ps slots order i h lt none =
    let t : Table = table_with ps slots order in
    let m : MayGo t (name_at slots order i) = may_go t (name_at slots order i) none in
    let few : length (rules_of t.chains (name_at slots order i)) ≤ 0 = ltb-false 0 _ m.empty in
    let refs : references_at slots (get_or order i 0) ≤ 0 = ltb-false 0 _ (sym (referenced_is ps slots order i h lt) ∙ m.unnamed) in
    record {
      user = elim (cases_lt i 3) [
        | inl first ↦ absurd (false≢true (sym m.user ∙ built_in_first ps slots order (name_at slots order i) i h.stored first refl))
        | inr ge ↦ ge
      ];
      empty = omega (arith, few, many_rules ps slots order i h.stored lt);
      unnamed = omega (arith, refs);
    }

-- each place of the new index is a place of the old one, but that of the chain that went
abbrev Left : List ℕ → List ℕ → ℕ → ℕ → Type 0
Left order after j i = (k : ℕ) × (k < length order) × (k ≢ j) × (get_or after i 0 ≡ get_or order k 0) × (((i < j) × (k ≡ i)) ⊎ ((j ≤ i) × (k ≡ i + 1)))

left_at : (order : List ℕ) (j i : ℕ) → j < length order → i < length (remove order j) → Left order (remove order j) j i
left_at order j i lt within =
    elim (cases_lt i j) [
      | inl below ↦ (i, omega arith, omega arith, get_or-remove_below order j 0 i below lt, inl (below, refl))
      | inr ge ↦ (i + 1, omega (arith, length-remove order j lt), omega arith, get_or-remove_above order j 0 i ge lt, inr (ge, refl))
    ]

-- its keys are keys of the old one
pub in_left : (order : List ℕ) (i key : ℕ) → i < length order → IsIn (remove order i) key → IsIn order key
in_left order i key lt at = let q = left_at order i at.0 lt at.1 in (q.0, q.1, sym q.3 ∙ at.2)

-- the slot under the key of a place of the index is emptied
pub record IsGone (slots new : List (Option StoredChain)) (order : List ℕ) (i : ℕ) : Type 0 where
  pub place : i < length order
  pub gone : slot_at new (get_or order i 0) ≡ None
  pub others : (k : ℕ) → k ≢ get_or order i 0 → slot_at new k ≡ slot_at slots k

other_stored : (ps : List Policy) (slots new : List (Option StoredChain)) (order : List ℕ) (i k : ℕ) → IsStored ps slots order → IsGone slots new order i → k < length order → k ≢ i → stored_at new (get_or order k 0) ≡ stored_at slots (get_or order k 0)
other_stored ps slots new order i k s g lt ne = ap (λ (o : Option StoredChain). unwrap_or o blank) (g.others (get_or order k 0) (λ q. ne (s.apart k i lt g.place q)))

stored_left : (ps : List Policy) (slots new : List (Option StoredChain)) (order : List ℕ) (i j : ℕ) → IsStored ps slots order → IsGone slots new order i → j < length (remove order i) → stored_at new (get_or (remove order i) j 0) ≡ stored_at slots (get_or (remove order i) j 0)
stored_left ps slots new order i j s g lt =
    let q = left_at order i j g.place lt in
    ap (stored_at new) q.3 ∙ other_stored ps slots new order i q.0 s g q.1 q.2 ∙ sym (ap (stored_at slots) q.3)

pub table_gone : (ps : List Policy) (slots new : List (Option StoredChain)) (order : List ℕ) (i : ℕ) → IsStored ps slots order → IsGone slots new order i → table_with ps new (remove order i) ≡ edited (DeleteChain (name_at slots order i)) (table_with ps slots order)
table_gone ps slots new order i s g =
    let P : List Chain → Table = λ (cs : List Chain). record { policies = ps; chains = cs } in
    let d : Chain = listed_stored blank in
    let n : List ℕ = name_at slots order i in
    let many : length (listed slots order) ≡ length order = length-listed slots order in
    let is : (k : ℕ) → k < length order → is_named n (get_or (listed slots order) k d) ≡ bytes_eq (name_at slots order k) n = λ k lt. ap (is_named n) (listed_get slots order k d lt) in
    ap P (listed_agree slots new (remove order i) (λ j lt. stored_left ps slots new order i j s g lt) ∙ map_remove (listed_at slots) order i
    ∙ sym (without_at n (listed slots order) i d (omega (arith, g.place, many)) (is i g.place ∙ (bytes_eq-Decides n n).1 refl)
    (λ k lt ne. (let below : k < length order = omega (arith, lt, many) in is k below ∙ texts_differ (name_at slots order k) n (λ q. ne (names_apart ps slots order s k i below g.place q))))))

user_left : (order : List ℕ) (i to : ℕ) → i < length order → 3 ≤ i → IsUser order to → to ≢ get_or order i 0 → IsUser (remove order i) to
user_left order i to lt low u ne =
    let w = stays_at order i u.0 lt u.2 (λ e. ne (sym u.3 ∙ ap (λ (x : ℕ). get_or order x 0) e)) in
    (w.0, omega (arith, w.3, low, u.1), w.1, w.2 ∙ u.3)

-- no rule leads to the chain that went
pub link_left : (ps : List Policy) (slots new : List (Option StoredChain)) (order : List ℕ) (i : ℕ) (e : Entry) → IsStored ps slots order → IsGone slots new order i → 3 ≤ i → names (name_at slots order i) e.rule ≡ false → IsLinked slots order e → IsLinked new (remove order i) e
link_left ps slots new order i e s g low unnamed l = (l.0, l.1, go (chain_named_by e.rule) refl l.2)
  where
    go : (o : Option (List ℕ)) → chain_named_by e.rule ≡ o → LinksTo slots order l.0 o → LinksTo new (remove order i) l.0 o
    go None is h = tt
    go (Some n) is h =
        let differ : l.0 ≢ get_or order i 0 = λ q. false≢true (sym unnamed ∙ ap (is_this (name_at slots order i)) is ∙ (bytes_eq-Decides n (name_at slots order i)).1 (sym h.1 ∙ ap (λ (k : ℕ). (stored_at slots k).name) q)) in
        (user_left order i l.0 g.place low h.0 differ, ap (λ (o : Option StoredChain). (unwrap_or o blank).name) (g.others l.0 differ) ∙ h.1)

-- no rule of a chain names the chain
unnamed_entry : (slots : List (Option StoredChain)) (order : List ℕ) (name : List ℕ) → is_referenced (listed slots order) name ≡ false → (k m : ℕ) (d : Entry) → k < length order → m < length (stored_at slots (get_or order k 0)).entries
    → names name (get_or (stored_at slots (get_or order k 0)).entries m d).rule ≡ false
unnamed_entry slots order name none k m d lt le =
    let chain : Chain = listed_at slots (get_or order k 0) in
    let es : List Entry = (stored_at slots (get_or order k 0)).entries in
    let rule : Rule = (get_or es m d).rule in
    any_false (names name) chain.rules rule
    (any_false (λ (c : Chain). list_any (names name) c.rules) (listed slots order) chain none (k, omega (arith, lt, length-listed slots order), listed_get slots order k chain lt))
    (m, omega (arith, le, length-map es rule_in), get_or-map rule_in es m d rule le)

pub kept_gone : (ps : List Policy) (slots new : List (Option StoredChain)) (order : List ℕ) (i : ℕ) → IsKept ps slots order → IsGone slots new order i → fault_of (DeleteChain (name_at slots order i)) (table_with ps slots order) ≡ None → IsKept ps new (remove order i)
kept_gone ps slots new order i h g accepted =
    let s : IsStored ps slots order = h.stored in
    let after : List ℕ = remove order i in
    let n : List ℕ = name_at slots order i in
    let free : IsIdle slots order i = idle ps slots order i h g.place accepted in
    let m : MayGo (table_with ps slots order) n = may_go (table_with ps slots order) n accepted in
    let at : (j : ℕ) → j < length after → Left order after i j = λ j lt. left_at order i j g.place lt in
    let same : (j : ℕ) → j < length after → stored_at new (get_or after j 0) ≡ stored_at slots (get_or after j 0) = λ j lt. stored_left ps slots new order i j s g lt in
    let O : Option StoredChain → Type 0 = λ (o : Option StoredChain). IsSome o in
    let Q : StoredChain → Type 0 = λ (r : StoredChain). All (IsLinked new after) r.entries in
    let T : Table → Type 0 = λ (t : Table). IsSound t in
    let none_in : (stored_at slots (get_or order i 0)).entries ≡ [] = no_elements (stored_at slots (get_or order i 0)).entries free.empty in
    let leads : (k : ℕ) → leading new after k ≡ leading slots order k =
    λ k. (let x = leading_remove slots order i k g.place in
    let y : leading_in k (stored_at slots (get_or order i 0)) ≡ 0 = ap (λ (es : List Entry). count_by (λ (e : Entry). leads_to k e.flow) es) none_in in
    let z = leading_agree slots new after k same in
    omega (arith, x, y, z)) in
    record {
      stored = record {
        present = λ j lt. (let q = at j lt in subst O (sym (ap (slot_at new) q.3 ∙ g.others (get_or order q.0 0) (λ e. q.2 (s.apart q.0 i q.1 g.place e)))) (s.present q.0 q.1));
        no_more = λ k there. (
            let ne : k ≢ get_or order i 0 = λ e. false≢true (subst O (ap (slot_at new) e ∙ g.gone) there) in
            let w = s.no_more k (subst O (g.others k ne) there) in
            let q = stays_at order i w.0 g.place w.1 (λ e. ne (sym w.2 ∙ ap (λ (x : ℕ). get_or order x 0) e)) in
            (q.0, q.1, q.2 ∙ w.2));
        apart = λ x y lx ly e. (
            let q = at x lx in
            let r = at y ly in
            let k : q.0 ≡ r.0 = s.apart q.0 r.0 q.1 r.1 (sym q.3 ∙ e ∙ r.3) in
            omega (arith, q.4, r.4, k));
        linked = λ j lt. (
            let q = at j lt in
            let es : List Entry = (stored_at slots (get_or order q.0 0)).entries in
            subst Q (sym (same j lt ∙ ap (stored_at slots) q.3))
            (λ k d le. link_left ps slots new order i (get_or es k d) s g free.user (unnamed_entry slots order n m.unnamed q.0 k d q.1 le) (s.linked q.0 q.1 k d le)));
        classified = λ j lt. (let q = at j lt in subst IsClassified (sym (same j lt ∙ ap (stored_at slots) q.3)) (s.classified q.0 q.1));
        sound = subst T (sym (table_gone ps slots new order i s g)) (delete_chain_sound (table_with ps slots order) n s.sound accepted);
      };
      counted = λ j lt. (
          let q = at j lt in
          ap (λ (r : StoredChain). r.references) (same j lt ∙ ap (stored_at slots) q.3) ∙ h.counted q.0 q.1 ∙ sym (ap (λ (k : ℕ). leading new after k) q.3 ∙ leads (get_or order q.0 0)));
    }
  where
    no_elements : (es : List Entry) → length es ≡ 0 → es ≡ []
    no_elements [] e = refl
    no_elements (x ∷ es) e = absurd (omega (arith, e))

-- the chain that was looked up by its place
pub stored_here : (slots : List (Option StoredChain)) (order : List ℕ) (i key : ℕ) (stored_chain : StoredChain) → i < length order → key ≡ get_or order i key → slot_at slots key ≡ Some stored_chain → stored_at slots (get_or order i 0) ≡ stored_chain
stored_here slots order i key stored_chain lt at is = ap (stored_at slots) (get_or_default order i 0 key lt ∙ sym at) ∙ ap (λ (o : Option StoredChain). unwrap_or o blank) is

-- ---- All user chains taken away.

-- A test of the user chains, by their places

pub users_any : (ps : List Policy) (slots : List (Option StoredChain)) (order : List ℕ) (f : Chain → Bool) (i : ℕ) → IsStored ps slots order → 3 ≤ i → i < length order → f (listed_at slots (get_or order i 0)) ≡ true → list_any f (user_chains (listed slots order)) ≡ true
users_any ps slots order f i s user lt is =
    let d : Chain = listed_at slots (get_or order i 0) in
    let at = listed_get slots order i d lt in
    any_kind is_user f (listed slots order) i d (omega (arith, lt, length-listed slots order)) (ap is_user at ∙ ap not (user_after ps slots order (name_at slots order i) i s user lt refl)) (ap f at ∙ is)

pub users_none : (ps : List Policy) (slots : List (Option StoredChain)) (order : List ℕ) (f : Chain → Bool) → IsStored ps slots order → ((i : ℕ) → 3 ≤ i → i < length order → f (listed_at slots (get_or order i 0)) ≡ false) → list_any f (user_chains (listed slots order)) ≡ false
users_none ps slots order f s h =
    let d : Chain = listed_at slots 0 in
    none_kind is_user f (listed slots order) d (λ k lt kind.
    (let below : k < length order = omega (arith, lt, length-listed slots order) in
    let at = listed_get slots order k d below in
    elim (cases_lt k 3) [
      | inl first ↦ absurd (false≢true (sym (ap is_user at ∙ ap not (built_in_first ps slots order (name_at slots order k) k s first refl)) ∙ kind))
      | inr user ↦ ap f at ∙ h k user below
    ]))

users_free : (ps : List Policy) (slots : List (Option StoredChain)) (order : List ℕ) (f : Chain → Bool) (i : ℕ) → IsStored ps slots order → 3 ≤ i → i < length order → list_any f (user_chains (listed slots order)) ≡ false → f (listed_at slots (get_or order i 0)) ≡ false
users_free ps slots order f i s user lt none =
    elim (cases_Bool (f (listed_at slots (get_or order i 0)))) [
      | inl t ↦ absurd (false≢true (sym none ∙ users_any ps slots order f i s user lt t))
      | inr n ↦ n
    ]

-- Why not all may go

abbrev all_empty : Table → Cause
all_empty t = (list_any has_rules (user_chains t.chains), ChainNotEmpty)

abbrev all_unnamed : Table → Cause
all_unnamed t = (list_any (λ (c : Chain). is_referenced t.chains c.name) (user_chains t.chains), ChainReferenced)

-- what an accepted step says
record MayAllGo (t : Table) : Type 0 where
  pub empty : (all_empty t).0 ≡ false
  pub unnamed : (all_unnamed t).0 ≡ false

all_may_go : (t : Table) → fault_of DeleteChains t ≡ None → MayAllGo t
all_may_go t none =
    let h = first_clear (all_empty t) (all_unnamed t ∷ []) (none_holds (causes DeleteChains t) none) in
    record { empty = h.0; unnamed = (first_clear (all_unnamed t) [] h.1).0 }

pub all_stay_filled : (t : Table) → list_any has_rules (user_chains t.chains) ≡ true → fault_of DeleteChains t ≡ Some ChainNotEmpty
all_stay_filled t some = holds (all_empty t) (all_unnamed t ∷ []) some

pub all_stay_named : (t : Table) → list_any has_rules (user_chains t.chains) ≡ false → list_any (λ (c : Chain). is_referenced t.chains c.name) (user_chains t.chains) ≡ true → fault_of DeleteChains t ≡ Some ChainReferenced
all_stay_named t none some = passes (all_empty t) (all_unnamed t ∷ []) none ∙ holds (all_unnamed t) [] some

pub all_go : (t : Table) → list_any has_rules (user_chains t.chains) ≡ false → list_any (λ (c : Chain). is_referenced t.chains c.name) (user_chains t.chains) ≡ false → fault_of DeleteChains t ≡ None
all_go t none free = passes (all_empty t) (all_unnamed t ∷ []) none ∙ passes (all_unnamed t) [] free

-- One after another

-- each of them may go
pub one_goes : (ps : List Policy) (slots : List (Option StoredChain)) (order : List ℕ) (i : ℕ) → IsStored ps slots order → 3 ≤ i → i < length order → fault_of DeleteChains (table_with ps slots order) ≡ None → fault_of (DeleteChain (name_at slots order i)) (table_with ps slots order) ≡ None
one_goes ps slots order i s user lt none =
    let t : Table = table_with ps slots order in
    let n : List ℕ = name_at slots order i in
    let m : MayAllGo t = all_may_go t none in
    user_fault ps slots order i s lt user
    ∙ passes (empty_cause t n) (named_cause t n ∷ []) (ap (nat_lt 0) (many_rules ps slots order i s lt ∙ sym (length-map (stored_at slots (get_or order i 0)).entries rule_in)) ∙ users_free ps slots order has_rules i s user lt m.empty)
    ∙ passes (named_cause t n) [] (users_free ps slots order (λ (c : Chain). is_referenced t.chains c.name) i s user lt m.unnamed)

any_of_fewer : {X : Type 0} (f p : X → Bool) (xs : List X) → list_any f (filter p xs) ≡ true → list_any f xs ≡ true
any_of_fewer f p [] h = h
any_of_fewer {X} f p (x ∷ xs) h =
    let P : List X → Type 0 = λ (ys : List X). list_any f ys ≡ true in
    elim (cases_Bool (p x)) [
      | inl stays ↦ elim (or_cases (f x) (list_any f (filter p xs)) (subst P (cond-true (p x) _ _ stays) h)) [ inl here ↦ or_left (f x) _ here | inr there ↦ or_right (f x) _ (any_of_fewer f p xs there) ]
      | inr goes ↦ or_right (f x) _ (any_of_fewer f p xs (subst P (cond-false (p x) _ _ goes) h))
    ]

any_fewer : {X : Type 0} (q p f g : X → Bool) (xs : List X) (d : X) → ((x : X) → g x ≡ true → f x ≡ true) → list_any f (filter q xs) ≡ false → list_any g (filter q (filter p xs)) ≡ false
any_fewer {X} q p f g xs d more none =
    none_kind q g (filter p xs) d (λ k lt kind.
    (let x : X = get_or (filter p xs) k d in
    let c : Contains xs x = All-filter p (Contains xs) xs (All-contains_itself xs) k d lt in
    elim (cases_Bool (g x)) [
      | inl t ↦ absurd (false≢true (sym none ∙ any_kind q f xs c.0 x c.1 (ap q c.2 ∙ kind) (ap f c.2 ∙ more x t)))
      | inr n ↦ n
    ]))

-- the others may go after it
pub others_go : (t u : Table) (c : List ℕ) → u ≡ edited (DeleteChain c) t → fault_of DeleteChains t ≡ None → fault_of DeleteChains u ≡ None
others_go t u c is none =
    let m : MayAllGo t = all_may_go t none in
    let p : Chain → Bool = λ (x : Chain). other_than c x.name in
    let d : Chain = record { name = []; rules = [] } in
    let A : Table → Type 0 = λ (v : Table). fault_of DeleteChains v ≡ None in
    let named : List Chain → Chain → Bool = λ (cs : List Chain) (x : Chain). is_referenced cs x.name in
    subst A (sym is) (all_go (edited (DeleteChain c) t) (any_fewer is_user p has_rules has_rules t.chains d (λ x e. e) m.empty)
    (any_fewer is_user p (named t.chains) (named (filter p t.chains)) t.chains d (λ x e. any_of_fewer (λ (y : Chain). list_any (names x.name) y.rules) p t.chains e) m.unnamed))

-- and leave the same
pub same_left : (t u : Table) (c : List ℕ) → u ≡ edited (DeleteChain c) t → fault_of (DeleteChain c) t ≡ None → edited DeleteChains u ≡ edited DeleteChains t
same_left t u c is none =
    let m : MayGo t c = may_go t c none in
    let P : List Chain → Table = λ (cs : List Chain). record { policies = t.policies; chains = cs } in
    ap (edited DeleteChains) is ∙ ap P (filter_within (λ (x : Chain). is_built_in x.name) (λ (x : Chain). other_than c x.name) t.chains (λ x b. others_kept c m.user x.name b))

-- none is left
pub none_left : (ps : List Policy) (slots : List (Option StoredChain)) (order : List ℕ) → IsStored ps slots order → length order ≤ 3 → edited DeleteChains (table_with ps slots order) ≡ table_with ps slots order
none_left ps slots order s few =
    let d : Chain = listed_at slots 0 in
    let P : List Chain → Table = λ (cs : List Chain). record { policies = ps; chains = cs } in
    ap P (filter_all (λ (x : Chain). is_built_in x.name) (listed slots order) d (λ k lt.
    (let below : k < length order = omega (arith, lt, length-listed slots order) in
    ap (λ (x : Chain). is_built_in x.name) (listed_get slots order k d below) ∙ built_in_first ps slots order (name_at slots order k) k s (omega (arith, below, few)) refl)))
