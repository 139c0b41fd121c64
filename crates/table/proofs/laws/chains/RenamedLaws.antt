-- A chain under another name, and the rules that name it following, lead from sound tables to sound tables.
use Rattle.std.proofs.Common.{◌≡◌, ◌≢◌, ◌⊎◌, inl, inr, ℕ, zero, suc, ◌+◌, ◌-◌, ◌<◌, ◌≤◌, Bool, true, false, cond, ◌||◌, ◌&&◌, not, List, [], ◌∷◌, length, get_or, drop, map, refl, sym, ◌∙◌, ap, arith, subst, Option, Some, None, Contains, option_map}
use Rattle.std.proofs.lemmas.Option.{same_Some}
use Rattle.std.specs.Prelude.{All, filter, remove, codes}
use Rattle.std.specs.List.{list_any}
use Rattle.std.specs.Str.{bytes_eq}
use Rattle.std.proofs.lemmas.Bool.{cases_Bool, cases_lt, cond-true, cond-false, false≢true, or_cases, not-false}
use Rattle.std.proofs.lemmas.List.{get_or-drop, get_or-take, get_or-map, length-drop, length-map}
use Rattle.std.proofs.lemmas.List.Elements.{All-map, All-weaker, All-head, All-tail, All-contains, Contains-get_or}
use Rattle.std.proofs.lemmas.Slice.Eq.{bytes_eq-Decides}
use Rattle.fields.specs.declared.numbers.field.Field.TheVariants as field
use Rattle.fields.specs.values.Name.{is_name}
use Rattle.rules.specs.declared.options.option_value.OptionValue.{OptionValue}
use Rattle.rules.specs.declared.rule.action.Action.{Action}
use Rattle.rules.specs.declared.rule.action.Action.TheVariants as action
use Rattle.rules.specs.Printing.{TextReadsBack, RenamedReadsBack}
use Rattle.rules.specs.rule.Actions.{action_with_chain_name, target_with, with_chain_name}
use Rattle.rules.specs.rule.Allows.{asks_on}
use Rattle.rules.specs.rule.Rules.{Rule}
use Rattle.table.specs.chains.Table.{Chain, Table, built_in_names, names_of, is_built_in, is_named, has_chain, user_chains, rules_of, chain_in, chain_named_by, is_this, names}
use Rattle.table.specs.edits.Edits.{Rename, edited, causes, fault_of, no_such_chain, built_in, bad_name, exists_already, placed, without, moved, renamed_rule, renamed_chain, asks_absent_interface}
use Rattle.table.specs.chains.Sound.{Names, Path, IsTarget, MayStand, IsSoundChain, IsUserName, AreListed, IsSound}
use Rattle.table.proofs.laws.chains.StepLaws.{has_more, all_placed_chain, users_placed, no_built_in, first_clear, none_holds}
use Rattle.table.proofs.laws.chains.KeepLaws.{has_by_names, is_user_name, listed_differ, users_by_names}
use Rattle.table.proofs.laws.chains.PlaceLaws.{names_placed, placed_listed, differing_at, rules_at, all_less, any_kept, any_less, both_false, either_false, filter_less, listed_less, placed_has, placed_other, placed_own, remove_agree, rules_less}
use Rattle.table.proofs.laws.chains.StoreLaws.{map_remove, texts_differ}

-- Names in rules

-- a rule's target under another name
named_anew : (new m : List ℕ) (a : Option Action) (options : List OptionValue) → chain_in (option_map (λ x. target_with x options) a) ≡ Some m
    → chain_in (option_map (λ x. target_with x options) (action_with_chain_name new a)) ≡ Some new
named_anew new m None options e = absurd (cc)
named_anew new m (Some action.Accept) options e = absurd (cc)
named_anew new m (Some action.Drop) options e = absurd (cc)
named_anew new m (Some action.Return) options e = absurd (cc)
named_anew new m (Some action.Reject) options e = absurd (cc)
named_anew new m (Some action.Log) options e = absurd (cc)
named_anew new m (Some (action.Jump n)) options e = refl
named_anew new m (Some (action.Goto n)) options e = refl

pub names_anew : (new m : List ℕ) (r : Rule) → chain_named_by r ≡ Some m → chain_named_by (with_chain_name new r) ≡ Some new
names_anew new m r e = named_anew new m r.action r.target_options e

this_is : (old : List ℕ) (o : Option (List ℕ)) → is_this old o ≡ true → o ≡ Some old
this_is old None h = absurd (false≢true h)
this_is old (Some n) h = ap (λ x. Some x) ((bytes_eq-Decides n old).0 h)

this_not : (old : List ℕ) (o : Option (List ℕ)) (n : List ℕ) → is_this old o ≡ false → o ≡ Some n → n ≢ old
this_not old o n h e q = false≢true (sym h ∙ ap (is_this old) e ∙ (bytes_eq-Decides n old).1 q)

-- what a renamed rule names: the new name for the old, and every other as before
names_then : (old new : List ℕ) (r : Rule) (b : List ℕ) → chain_named_by (renamed_rule old new r) ≡ Some b
    → ((chain_named_by r ≡ Some old) × (b ≡ new)) ⊎ ((chain_named_by r ≡ Some b) × (b ≢ old))
names_then old new r b e =
    elim (cases_Bool (names old r)) [
      | inl t ↦ (
          let was : chain_named_by r ≡ Some old = this_is old (chain_named_by r) t in
          let now : chain_named_by (renamed_rule old new r) ≡ Some new = ap chain_named_by (cond-true (names old r) (with_chain_name new r) r t) ∙ names_anew new old r was in
          inl (was, same_Some _ _ (sym e ∙ now)))
      | inr f ↦ (
          let same : chain_named_by r ≡ Some b = sym (ap chain_named_by (cond-false (names old r) (with_chain_name new r) r f)) ∙ e in
          inr (same, this_not old (chain_named_by r) b f same))
    ]

-- what is renamed, and under what conditions
pub record IsRename (t : Table) (old new : List ℕ) (i : ℕ) : Type 0 where
  pub sound : IsSound t
  pub user : 3 ≤ i
  pub within : i < length t.chains
  pub named : (d : Chain) → (get_or t.chains i d).name ≡ old
  pub free : has_chain t new ≡ false
  pub form : is_name new ≡ true

abbrev pub renamed_all : List ℕ → List ℕ → List Chain → List Chain
renamed_all old new cs = map (renamed_chain old new) cs

-- no chain has the new name
pub free_at : (cs : List Chain) (new : List ℕ) (k : ℕ) (d : Chain) → list_any (is_named new) cs ≡ false → k < length cs → is_named new (get_or cs k d) ≡ false
free_at [] new k d h lt = absurd (omega (arith, lt))
free_at (c ∷ cs) new zero d h lt = (both_false (is_named new c) _ h).0
free_at (c ∷ cs) new (suc k) d h lt = free_at cs new k d (both_false (is_named new c) _ h).1 (omega (arith, lt))

pub names_at : (cs : List Chain) (k : ℕ) (d : Chain) → k < length cs → get_or (names_of cs) k [] ≡ (get_or cs k d).name
names_at cs k d lt = get_or-map (λ (c : Chain). c.name) cs k d [] lt

-- no other chain has the old name
pub other_at : (t : Table) (old new : List ℕ) (i k : ℕ) (d : Chain) → IsRename t old new i → k < length t.chains → k ≢ i → is_named old (get_or t.chains k d) ≡ false
other_at t old new i k d m lt ne =
    let ns : List (List ℕ) = names_of t.chains in
    let all = listed_differ ns m.sound.listed in
    let long : length ns ≡ length t.chains = length-map t.chains (λ (c : Chain). c.name) in
    let within : i < length t.chains = m.within in
    let at : get_or ns i [] ≡ old = names_at t.chains i d m.within ∙ m.named d in
    elim (cases_Bool (is_named old (get_or t.chains k d))) [
      | inl own ↦ (
          let same : get_or ns k [] ≡ get_or ns i [] = names_at t.chains k d lt ∙ (bytes_eq-Decides (get_or t.chains k d).name old).0 own ∙ sym at in
          elim (cases_lt k i) [
            | inl below ↦ absurd (differing_at ns k i [] all below (omega (arith, long, within)) same)
            | inr above ↦ absurd (differing_at ns i k [] all (omega (arith, above, ne)) (omega (arith, long, lt)) (sym same))
          ])
      | inr f ↦ f
    ]

-- a renamed chain is named as before, or with the new name
pub renamed_own : (old new : List ℕ) (c : Chain) → is_named old c ≡ true → (renamed_chain old new c).name ≡ new
renamed_own old new c h = cond-true (is_named old c) _ _ h

pub renamed_other : (old new : List ℕ) (c : Chain) → is_named old c ≡ false → (renamed_chain old new c).name ≡ c.name
renamed_other old new c h = cond-false (is_named old c) _ _ h

pub own_at : (t : Table) (old new : List ℕ) (i : ℕ) (d : Chain) → IsRename t old new i → is_named old (get_or t.chains i d) ≡ true
own_at t old new i d m = (bytes_eq-Decides (get_or t.chains i d).name old).1 (m.named d)

-- the chain at a place, renamed
pub renamed_get : (t : Table) (old new : List ℕ) (k : ℕ) (d : Chain) → k < length t.chains → get_or (renamed_all old new t.chains) k d ≡ renamed_chain old new (get_or t.chains k d)
renamed_get t old new k d lt = get_or-map (renamed_chain old new) t.chains k d d lt

-- The moved chain

pub without_none : (name : List ℕ) (cs : List Chain) (d : Chain) → ((k : ℕ) → k < length cs → is_named name (get_or cs k d) ≡ false) → without name cs ≡ cs
without_none name [] d h = refl
without_none name (c ∷ cs) d h =
    cond-true (not (is_named name c)) _ _ (ap not (h 0 (omega arith))) ∙ ap (λ (xs : List Chain). c ∷ xs) (without_none name cs d (λ k lt. h (suc k) (omega (arith, lt))))

pub without_at : (name : List ℕ) (cs : List Chain) (i : ℕ) (d : Chain) → i < length cs → is_named name (get_or cs i d) ≡ true → ((k : ℕ) → k < length cs → k ≢ i → is_named name (get_or cs k d) ≡ false)
    → without name cs ≡ remove cs i
without_at name [] i d lt own h = absurd (omega (arith, lt))
without_at name (c ∷ cs) zero d lt own h =
    cond-false (not (is_named name c)) _ _ (ap not own) ∙ without_none name cs d (λ k below. h (suc k) (omega (arith, below)) (omega arith))
without_at name (c ∷ cs) (suc i) d lt own h =
    cond-true (not (is_named name c)) _ _ (ap not (h 0 (omega arith) (omega arith)))
    ∙ ap (λ (xs : List Chain). c ∷ xs) (without_at name cs i d (omega (arith, lt)) own (λ k below ne. h (suc k) (omega (arith, below)) (omega (arith, ne))))

new_at : (t : Table) (old new : List ℕ) (i : ℕ) (d : Chain) → IsRename t old new i → is_named new (get_or (renamed_all old new t.chains) i d) ≡ true
new_at t old new i d m =
    ap (is_named new) (renamed_get t old new i d m.within) ∙ ap (λ n. bytes_eq n new) (renamed_own old new (get_or t.chains i d) (own_at t old new i d m)) ∙ (bytes_eq-Decides new new).1 refl

not_new_at : (t : Table) (old new : List ℕ) (i k : ℕ) (d : Chain) → IsRename t old new i → k < length t.chains → k ≢ i → is_named new (get_or (renamed_all old new t.chains) k d) ≡ false
not_new_at t old new i k d m lt ne =
    ap (is_named new) (renamed_get t old new k d lt) ∙ ap (λ n. bytes_eq n new) (renamed_other old new (get_or t.chains k d) (other_at t old new i k d m lt ne)) ∙ free_at t.chains new k d m.free lt

-- the chain under its new name
abbrev pub renamed_at : Table → List ℕ → List ℕ → ℕ → Chain → Chain
renamed_at t old new i d = record { name = new; rules = map (renamed_rule old new) (get_or t.chains i d).rules }

pub moved_is : (t : Table) (old new : List ℕ) (i : ℕ) (d : Chain) → IsRename t old new i
    → moved new (renamed_all old new t.chains) ≡ placed (renamed_at t old new i d) (remove (renamed_all old new t.chains) i)
moved_is t old new i d m =
    let ds : List Chain = renamed_all old new t.chains in
    let long : length ds ≡ length t.chains = length-map t.chains (renamed_chain old new) in
    let within : i < length t.chains = m.within in
    let lt : i < length ds = omega (arith, long, within) in
    let place : List Rule → List Chain → List Chain = λ (rs : List Rule). λ (cs : List Chain). placed (record { name = new; rules = rs }) cs in
    let rest : without new ds ≡ remove ds i = without_at new ds i d lt (new_at t old new i d m) (λ k below ne. not_new_at t old new i k d m (omega (arith, below, long)) ne) in
    let rules : rules_of ds new ≡ map (renamed_rule old new) (get_or t.chains i d).rules =
    rules_at ds new i d lt (λ k below. not_new_at t old new i k d m (omega (arith, below, within)) (omega (arith, below))) (new_at t old new i d m)
    ∙ ap (λ (c : Chain). c.rules) (renamed_get t old new i d m.within) in
    ap (λ (rs : List Rule). place rs (without new ds)) rules ∙ ap (place (map (renamed_rule old new) (get_or t.chains i d).rules)) rest

-- The names of the others

pub names_rest : (t : Table) (old new : List ℕ) (i : ℕ) (d : Chain) → IsRename t old new i → names_of (remove (renamed_all old new t.chains) i) ≡ remove (names_of t.chains) i
names_rest t old new i d m =
    let ds : List Chain = renamed_all old new t.chains in
    let long : length ds ≡ length t.chains = length-map t.chains (renamed_chain old new) in
    let names_long : length (names_of ds) ≡ length ds = length-map ds (λ (c : Chain). c.name) in
    let was_long : length (names_of t.chains) ≡ length t.chains = length-map t.chains (λ (c : Chain). c.name) in
    map_remove (λ (c : Chain). c.name) ds i
    ∙ remove_agree (names_of ds) (names_of t.chains) i (names_long ∙ long ∙ sym was_long)
    (λ k lt ne.
    let below : k < length t.chains = omega (arith, lt, names_long, long) in
    names_at ds k d (omega (arith, lt, names_long)) ∙ ap (λ (c : Chain). c.name) (renamed_get t old new k d below)
    ∙ renamed_other old new (get_or t.chains k d) (other_at t old new i k d m below ne) ∙ sym (names_at t.chains k d below))

old_at : (t : Table) (old new : List ℕ) (i : ℕ) (d : Chain) → IsRename t old new i → get_or (names_of t.chains) i [] ≡ old
old_at t old new i d m = names_at t.chains i d m.within ∙ m.named d

names_differ : (t : Table) (old new : List ℕ) (i : ℕ) (d : Chain) → IsRename t old new i → old ≢ new
names_differ t old new i d m e = false≢true (sym (free_at t.chains new i d m.free m.within) ∙ ap (λ n. bytes_eq n new) (m.named d) ∙ (bytes_eq-Decides old new).1 e)

-- the name in the list of the others
without_new : (t : Table) (old new : List ℕ) (i : ℕ) (d : Chain) → IsRename t old new i → list_any (λ x. bytes_eq x new) (names_of (remove (renamed_all old new t.chains) i)) ≡ false
without_new t old new i d m =
    let ns : List (List ℕ) = names_of t.chains in
    let long : length ns ≡ length t.chains = length-map t.chains (λ (c : Chain). c.name) in
    let within : i < length t.chains = m.within in
    ap (list_any (λ x. bytes_eq x new)) (names_rest t old new i d m) ∙ any_less (λ x. bytes_eq x new) ns i (omega (arith, long, within)) (sym (has_by_names new t.chains) ∙ m.free)

-- the old name is that of a user chain
old_user : (t : Table) (old new : List ℕ) (i : ℕ) (d : Chain) → IsRename t old new i → is_built_in old ≡ false
old_user t old new i d m =
    let ns : List (List ℕ) = names_of t.chains in
    let long : length ns ≡ length t.chains = length-map t.chains (λ (c : Chain). c.name) in
    let within : i < length t.chains = m.within in
    let ge : 3 ≤ i = m.user in
    let u : IsUserName (get_or (drop 3 ns) (i - 3) []) = m.sound.listed.user (i - 3) [] (omega (arith, ge, within, long, length-drop 3 ns)) in
    let is : get_or (drop 3 ns) (i - 3) [] ≡ old = get_or-drop 3 ns (i - 3) [] ∙ ap (λ n. get_or ns n []) (omega (arith, ge)) ∙ old_at t old new i d m in
    sym (ap is_built_in is) ∙ u.other

-- Where rules stand now

rules_renamed : (old new a : List ℕ) (cs : List Chain) → a ≢ new → a ≢ old → rules_of (renamed_all old new cs) a ≡ map (renamed_rule old new) (rules_of cs a)
rules_renamed old new a [] ne un = refl
rules_renamed old new a (c ∷ cs) ne un =
    let rest = rules_renamed old new a cs ne un in
    let x : Chain = renamed_chain old new c in
    elim (cases_Bool (is_named old c)) [
      | inl own ↦ (
          let off : is_named a x ≡ false = ap (λ n. bytes_eq n a) (renamed_own old new c own) ∙ texts_differ new a (λ e. ne (sym e)) in
          let was : is_named a c ≡ false = ap (λ n. bytes_eq n a) ((bytes_eq-Decides c.name old).0 own) ∙ texts_differ old a (λ e. un (sym e)) in
          cond-false (is_named a x) _ _ off ∙ rest ∙ ap (map (renamed_rule old new)) (sym (cond-false (is_named a c) _ _ was)))
      | inr other ↦ (
          let same : is_named a x ≡ is_named a c = ap (λ n. bytes_eq n a) (renamed_other old new c other) in
          elim (cases_Bool (is_named a c)) [
            | inl here ↦ cond-true (is_named a x) _ _ (same ∙ here) ∙ ap (map (renamed_rule old new)) (sym (cond-true (is_named a c) _ _ here))
            | inr off ↦ cond-false (is_named a x) _ _ (same ∙ off) ∙ rest ∙ ap (map (renamed_rule old new)) (sym (cond-false (is_named a c) _ _ off))
          ])
    ]

rules_gone : (old new : List ℕ) (cs : List Chain) → old ≢ new → rules_of (renamed_all old new cs) old ≡ []
rules_gone old new [] ne = refl
rules_gone old new (c ∷ cs) ne =
    let x : Chain = renamed_chain old new c in
    let off : is_named old x ≡ false = elim (cases_Bool (is_named old c)) [
      | inl own ↦ ap (λ n. bytes_eq n old) (renamed_own old new c own) ∙ texts_differ new old (λ e. ne (sym e))
      | inr other ↦ ap (λ n. bytes_eq n old) (renamed_other old new c other) ∙ other
    ] in
    cond-false (is_named old x) _ _ off ∙ rules_gone old new cs ne

-- the name that a chain had before
abbrev back : List ℕ → List ℕ → List ℕ → List ℕ
back old new a = cond (bytes_eq a new) old a

back_new : (old new : List ℕ) → back old new new ≡ old
back_new old new = cond-true (bytes_eq new new) old new ((bytes_eq-Decides new new).1 refl)

back_other : (old new a : List ℕ) → a ≢ new → back old new a ≡ a
back_other old new a ne = cond-false (bytes_eq a new) old a (texts_differ a new ne)

rules_then : (t : Table) (old new a : List ℕ) (i : ℕ) (d : Chain) → IsRename t old new i
    → (rules_of (edited (Rename old new) t).chains a ≡ map (renamed_rule old new) (rules_of t.chains (back old new a))) ⊎ (rules_of (edited (Rename old new) t).chains a ≡ [])
rules_then t old new a i d m =
    let cs : List Chain = t.chains in
    let ds : List Chain = renamed_all old new cs in
    let c : Chain = renamed_at t old new i d in
    let within : i < length cs = m.within in
    let lt : i < length ds = omega (arith, within, length-map cs (renamed_chain old new)) in
    let rr : List Rule → List Rule = map (renamed_rule old new) in
    let is : rules_of (edited (Rename old new) t).chains a ≡ rules_of (placed c (remove ds i)) a = ap (λ (xs : List Chain). rules_of xs a) (moved_is t old new i d m) in
    elim (cases_Bool (bytes_eq a new)) [
      | inl y ↦ (
          let e : a ≡ new = (bytes_eq-Decides a new).0 y in
          let own : rules_of (placed c (remove ds i)) new ≡ c.rules = placed_own c (remove ds i) (has_by_names new (remove ds i) ∙ without_new t old new i d m) in
          let was : rules_of cs old ≡ (get_or cs i d).rules = rules_at cs old i d m.within (λ k below. other_at t old new i k d m (omega (arith, below, within)) (omega (arith, below))) (own_at t old new i d m) in
          inl (is ∙ ap (rules_of (placed c (remove ds i))) e ∙ own ∙ ap rr (sym was) ∙ ap (λ n. rr (rules_of cs n)) (sym (ap (back old new) e ∙ back_new old new))))
      | inr z ↦ (
          let ne : a ≢ new = λ e. false≢true (sym z ∙ (bytes_eq-Decides a new).1 e) in
          let off : is_named a c ≡ false = texts_differ new a (λ e. ne (sym e)) in
          let gone : is_named a (get_or ds i d) ≡ false = ap (is_named a) (renamed_get t old new i d m.within) ∙ ap (λ n. bytes_eq n a) (renamed_own old new (get_or cs i d) (own_at t old new i d m)) ∙ off in
          let rest : rules_of (edited (Rename old new) t).chains a ≡ rules_of ds a = is ∙ placed_other c (remove ds i) a off ∙ rules_less ds i d a lt gone in
          elim (cases_Bool (bytes_eq a old)) [
            | inl o ↦ (let e : a ≡ old = (bytes_eq-Decides a old).0 o in inr (rest ∙ ap (rules_of ds) e ∙ rules_gone old new cs (names_differ t old new i d m)))
            | inr o ↦ inl (rest ∙ rules_renamed old new a cs ne (λ e. false≢true (sym o ∙ (bytes_eq-Decides a old).1 e)) ∙ ap (λ n. rr (rules_of cs n)) (sym (back_other old new a ne)))
          ])
    ]

-- No path comes back to its start

all_rules : (P : Rule → Type 0) (cs : List Chain) (a : List ℕ) → All (λ (c : Chain). All P c.rules) cs → All P (rules_of cs a)
all_rules P [] a h = λ k d lt. absurd (omega (arith, lt))
all_rules P (c ∷ cs) a h =
    let Q : List Rule → Type 0 = λ (rs : List Rule). All P rs in
    elim (cases_Bool (is_named a c)) [
      | inl here ↦ subst Q (sym (cond-true (is_named a c) _ _ here)) (All-head (λ (x : Chain). All P x.rules) c cs h)
      | inr un ↦ subst Q (sym (cond-false (is_named a c) _ _ un)) (all_rules P cs a (All-tail (λ (x : Chain). All P x.rules) c cs h))
    ]

-- a chain that a rule names is there
target_there : (t : Table) (a : List ℕ) (r : Rule) (n : List ℕ) → IsSound t → Contains (rules_of t.chains a) r → chain_named_by r ≡ Some n → has_chain t n ≡ true
target_there t a r n s at e =
    let P : Rule → Type 0 = λ (x : Rule). (y : List ℕ) → chain_named_by x ≡ Some y → has_chain t y ≡ true in
    let all : All P (rules_of t.chains a) = all_rules P t.chains a (All-weaker (IsSoundChain t) (λ (c : Chain). All P c.rules)
    (λ x h. All-weaker (MayStand t x.name) P (λ q may y is. (let w : IsTarget t y = may.target y is in w.there)) x.rules h.rules) t.chains s.chains) in
    All-contains P (rules_of t.chains a) r all at n e

map_was : (f : Rule → Rule) (rs : List Rule) (y : Rule) → Contains (map f rs) y → (x : Rule) × Contains rs x × (y ≡ f x)
map_was f rs y c =
    let lt : c.0 < length rs = omega (arith, c.1, length-map rs f) in
    (get_or rs c.0 y, Contains-get_or rs c.0 y lt, sym c.2 ∙ get_or-map f rs c.0 y y lt)

names_back : (t : Table) (old new a b : List ℕ) (i : ℕ) (d : Chain) → IsRename t old new i → Names (edited (Rename old new) t).chains a b → Names t.chains (back old new a) (back old new b)
names_back t old new a b i d m e =
    let Q : List Rule → Type 0 = λ (rs : List Rule). Contains rs e.0 in
    elim (rules_then t old new a i d m) [
      | inl is ↦ (
          let w = map_was (renamed_rule old new) (rules_of t.chains (back old new a)) e.0 (subst Q is e.1) in
          let named : chain_named_by (renamed_rule old new w.0) ≡ Some b = ap chain_named_by (sym w.2) ∙ e.2 in
          elim (names_then old new w.0 b named) [
            | inl p ↦ (w.0, w.1, p.0 ∙ ap (λ n. Some n) (sym (ap (back old new) p.1 ∙ back_new old new)))
            | inr p ↦ (
                let there : has_chain t b ≡ true = target_there t (back old new a) w.0 b m.sound w.1 p.0 in
                let ne : b ≢ new = λ q. false≢true (sym m.free ∙ ap (has_chain t) (sym q) ∙ there) in
                (w.0, w.1, p.0 ∙ ap (λ n. Some n) (sym (back_other old new b ne))))
          ])
      | inr none ↦ (let empty : Contains [] e.0 = subst Q none e.1 in absurd (omega (arith, empty.1)))
    ]

path_back : (t : Table) (old new : List ℕ) (i : ℕ) (d : Chain) → IsRename t old new i → (n : ℕ) (a b : List ℕ) → Path (edited (Rename old new) t).chains n a b → Path t.chains n (back old new a) (back old new b)
path_back t old new i d m zero a b p = ap (back old new) p
path_back t old new i d m (suc n) a b p = (back old new p.0, names_back t old new a p.0 i d m p.1, path_back t old new i d m n p.0 b p.2)

-- The rules may stand where they stand

asks_none : (n : List ℕ) (r : Rule) → is_built_in n ≡ false → asks_absent_interface n r ≡ false
asks_none n r h =
    let input : List ℕ = codes "INPUT" in
    let forward : List ℕ = codes "FORWARD" in
    let output : List ℕ = codes "OUTPUT" in
    let b = both_false (bytes_eq n input) (bytes_eq n forward || (bytes_eq n output || false)) h in
    let c = both_false (bytes_eq n forward) (bytes_eq n output || false) b.1 in
    let e = both_false (bytes_eq n output) false c.1 in
    either_false (bytes_eq n input && asks_on field.OutIface r) (bytes_eq n output && asks_on field.InIface r) (ap (λ x. x && asks_on field.OutIface r) b.0) (ap (λ x. x && asks_on field.InIface r) e.0)

asks_same : (b : Bool) (n new : List ℕ) (r : Rule) → asks_absent_interface n (cond b (with_chain_name new r) r) ≡ asks_absent_interface n r
asks_same true n new r = refl
asks_same false n new r = refl

has_new : (t : Table) (old new : List ℕ) (i : ℕ) (d : Chain) → IsRename t old new i → has_chain (edited (Rename old new) t) new ≡ true
has_new t old new i d m =
    ap (list_any (is_named new)) (moved_is t old new i d m) ∙ placed_has new (renamed_at t old new i d) (remove (renamed_all old new t.chains) i) ((bytes_eq-Decides new new).1 refl)

has_kept : (t : Table) (old new n : List ℕ) (i : ℕ) (d : Chain) → IsRename t old new i → has_chain t n ≡ true → n ≢ old → has_chain (edited (Rename old new) t) n ≡ true
has_kept t old new n i d m there ne =
    let ns : List (List ℕ) = names_of t.chains in
    let rest : List Chain = remove (renamed_all old new t.chains) i in
    let within : i < length t.chains = m.within in
    let long : length ns ≡ length t.chains = length-map t.chains (λ (c : Chain). c.name) in
    let f : List ℕ → Bool = λ x. bytes_eq x n in
    let off : f (get_or ns i []) ≡ false = ap f (old_at t old new i d m) ∙ texts_differ old n (λ e. ne (sym e)) in
    ap (list_any (is_named n)) (moved_is t old new i d m)
    ∙ has_more n (renamed_at t old new i d) rest
    (has_by_names n rest ∙ ap (list_any f) (names_rest t old new i d m) ∙ any_kept f ns i [] (omega (arith, long, within)) off (sym (has_by_names n t.chains) ∙ there))

may_renamed : (t : Table) (old new : List ℕ) (i : ℕ) (d : Chain) → IsRename t old new i → RenamedReadsBack → (x : Chain) (r : Rule) → MayStand t x.name r
    → MayStand (edited (Rename old new) t) (renamed_chain old new x).name (renamed_rule old new r)
may_renamed t old new i d m reads x r may =
    let u : Table = edited (Rename old new) t in
    let new_user : is_built_in new ≡ false = no_built_in t new m.sound m.free in
    let A : List ℕ → Bool = λ n. asks_absent_interface n (renamed_rule old new r) in
    record {
      readable = elim (cases_Bool (names old r)) [
        | inl y ↦ subst TextReadsBack (sym (cond-true (names old r) (with_chain_name new r) r y)) (reads r new m.form may.readable)
        | inr z ↦ subst TextReadsBack (sym (cond-false (names old r) (with_chain_name new r) r z)) may.readable
      ];
      interface = elim (cases_Bool (is_named old x)) [
        | inl own ↦ ap A (renamed_own old new x own) ∙ asks_none new (renamed_rule old new r) new_user
        | inr other ↦ ap A (renamed_other old new x other) ∙ asks_same (names old r) x.name new r ∙ may.interface
      ];
      target = λ name e.
          (let T : List ℕ → Type 0 = λ n. IsTarget u n in
          elim (names_then old new r name e) [
            | inl p ↦ subst T (sym p.1) (record { there = has_new t old new i d m; user = new_user })
            | inr p ↦ (let w : IsTarget t name = may.target name p.0 in record { there = has_kept t old new name i d m w.there p.1; user = w.user })
          ]);
    }

chain_renamed : (t : Table) (old new : List ℕ) (i : ℕ) (d : Chain) → IsRename t old new i → RenamedReadsBack → (x : Chain) → IsSoundChain t x → IsSoundChain (edited (Rename old new) t) (renamed_chain old new x)
chain_renamed t old new i d m reads x h =
    let u : Table = edited (Rename old new) t in
    let name : List ℕ = (renamed_chain old new x).name in
    let few : length x.rules ≤ 8192 = h.few in
    record {
      rules = All-map (MayStand u name) (renamed_rule old new) x.rules
          (All-weaker (MayStand t x.name) (λ (r : Rule). MayStand u name (renamed_rule old new r)) (may_renamed t old new i d m reads x) x.rules h.rules);
      few = omega (arith, few, length-map x.rules (renamed_rule old new));
    }

-- The whole table

pub rename_sound : (t : Table) (old new : List ℕ) (i : ℕ) → IsRename t old new i → RenamedReadsBack → IsSound (edited (Rename old new) t)
rename_sound t old new i m reads =
    let d : Chain = record { name = []; rules = [] } in
    let u : Table = edited (Rename old new) t in
    let cs : List Chain = t.chains in
    let ns : List (List ℕ) = names_of cs in
    let ds : List Chain = renamed_all old new cs in
    let rest : List Chain = remove ds i in
    let c : Chain = renamed_at t old new i d in
    let within : i < length cs = m.within in
    let long : length ns ≡ length cs = length-map cs (λ (x : Chain). x.name) in
    let lt : i < length ds = omega (arith, within, length-map cs (renamed_chain old new)) in
    let is : u.chains ≡ placed c rest = moved_is t old new i d m in
    let new_user : is_built_in new ≡ false = no_built_in t new m.sound m.free in
    let others : names_of rest ≡ remove ns i = names_rest t old new i d m in
    let all : All (IsSoundChain u) ds = All-map (IsSoundChain u) (renamed_chain old new) cs
    (All-weaker (IsSoundChain t) (λ (x : Chain). IsSoundChain u (renamed_chain old new x)) (chain_renamed t old new i d m reads) cs m.sound.chains) in
    let named : (renamed_chain old new (get_or cs i d)).name ≡ new = renamed_own old new (get_or cs i d) (own_at t old new i d m) in
    let as_new : List ℕ → Chain = λ n. record { name = n; rules = map (renamed_rule old new) (get_or cs i d).rules } in
    let own : IsSoundChain u c = subst (IsSoundChain u) (renamed_get t old new i d m.within ∙ ap as_new named) (all i d lt) in
    let L : List Chain → Type 0 = λ (xs : List Chain). AreListed (names_of xs) in
    let S : List Chain → Type 0 = λ (xs : List Chain). All (IsSoundChain u) xs in
    record {
      policies = m.sound.policies;
      listed = subst L (sym is) (subst AreListed (sym (names_placed c rest))
          (placed_listed new (names_of rest) m.form new_user (without_new t old new i d m) (subst AreListed (sym others) (listed_less ns i m.user (omega (arith, long, within)) m.sound.listed))));
      chains = subst S (sym is) (all_placed_chain (IsSoundChain u) c rest own (all_less (IsSoundChain u) ds i all));
      no_loop = λ n a p. m.sound.no_loop n (back old new a) (path_back t old new i d m (suc n) a a p);
      few = (let few : length (user_chains cs) ≤ 1024 = m.sound.few in
          let one : length (filter is_user_name (remove ns i)) + 1 ≡ length (filter is_user_name ns) = filter_less is_user_name ns i [] (omega (arith, long, within)) (ap is_user_name (old_at t old new i d m) ∙ ap not (old_user t old new i d m)) in
          omega (arith, few, one, users_by_names cs, users_by_names rest, ap (λ (xs : List (List ℕ)). length (filter is_user_name xs)) others, users_placed c rest, ap (λ (xs : List Chain). length (user_chains xs)) is));
    }

-- A rename that is accepted

any_at : (f : Chain → Bool) (cs : List Chain) → list_any f cs ≡ true → (i : ℕ) × (i < length cs) × ((d : Chain) → f (get_or cs i d) ≡ true)
any_at f [] h = absurd (false≢true h)
any_at f (c ∷ cs) h =
    elim (or_cases (f c) (list_any f cs) h) [ inl here ↦ (0, omega arith, λ d. here) | inr there ↦ (let w = any_at f cs there in (suc w.0, omega (arith, w.1), w.2)) ]

built_in_there : (k : ℕ) → k < 3 → is_built_in (get_or built_in_names k []) ≡ true
built_in_there zero lt = refl
built_in_there (suc zero) lt = refl
built_in_there (suc (suc zero)) lt = refl
built_in_there (suc (suc (suc k))) lt = absurd (omega (arith, lt))

-- a chain that isn't built-in stands after those that are
user_at : (t : Table) (name : List ℕ) (i : ℕ) (d : Chain) → IsSound t → i < length t.chains → (get_or t.chains i d).name ≡ name → is_built_in name ≡ false → 3 ≤ i
user_at t name i d s lt named user =
    let ns : List (List ℕ) = names_of t.chains in
    elim (cases_lt i 3) [
      | inl first ↦ absurd (false≢true (sym user ∙ ap is_built_in (sym named ∙ sym (names_at t.chains i d lt) ∙ sym (get_or-take 3 ns i [] first) ∙ ap (λ (xs : List (List ℕ)). get_or xs i []) s.listed.built_in)
          ∙ built_in_there i first))
      | inr after ↦ after
    ]

pub renamed_sound : (t : Table) (old new : List ℕ) → RenamedReadsBack → IsSound t → fault_of (Rename old new) t ≡ None → IsSound (edited (Rename old new) t)
renamed_sound t old new reads s none =
    let a = first_clear (no_such_chain t old) (built_in old ∷ bad_name new ∷ exists_already t new ∷ []) (none_holds (causes (Rename old new) t) none) in
    let b = first_clear (built_in old) (bad_name new ∷ exists_already t new ∷ []) a.1 in
    let c = first_clear (bad_name new) (exists_already t new ∷ []) b.1 in
    let e = first_clear (exists_already t new) [] c.1 in
    let w = any_at (is_named old) t.chains (not-false (has_chain t old) a.0) in
    let named : (d : Chain) → (get_or t.chains w.0 d).name ≡ old = λ d. (bytes_eq-Decides (get_or t.chains w.0 d).name old).0 (w.2 d) in
    let none_there : Chain = record { name = []; rules = [] } in
    rename_sound t old new w.0 (record {
      sound = s;
      user = user_at t old w.0 none_there s w.1 (named none_there) b.0;
      within = w.1;
      named = named;
      free = e.0;
      form = not-false (is_name new) c.0;
    }) reads
