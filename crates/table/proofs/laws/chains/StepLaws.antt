-- Steps that change one chain's rules, make a chain, empty all or set a policy lead from sound tables to sound tables.
use Rattle.std.proofs.Common.{◌≡◌, inl, inr, ℕ, suc, ◌+◌, ◌-◌, ◌<◌, ◌≤◌, Bool, true, false, ◌&&◌, not, List, [], ◌∷◌, ◌++◌, length, take, drop, refl, sym, ◌∙◌, ap, arith, subst, Option, Some, None, Result, Ok, Err, Contains, zero, ◌||◌, map}
use Rattle.std.specs.Prelude.{All, insert, remove, slice_set, nat_le, filter}
use Rattle.std.proofs.lemmas.Option.{same_Some, none-some}
use Rattle.std.specs.List.{list_all, list_any}
use Rattle.std.proofs.lemmas.Bool.{cases_Bool, cond-true, cond-false, and_parts, leb-false, not-true, not-false, false≢true, or_left, or_right, or_cases}
use Rattle.std.proofs.lemmas.List.{length-append, length-take, length-drop, length-set}
use Rattle.std.proofs.lemmas.List.Elements.{All-append, All-cons, All-take, All-drop, All-set, All-push, All-head, All-tail, All-contains, All-weaker, All-map}
use Rattle.std.specs.Str.{bytes_eq}
use Rattle.std.proofs.lemmas.Slice.Eq.{bytes_eq-Decides}
use Rattle.rules.specs.Printing.{TextReadsBack}
use Rattle.rules.specs.rule.Rules.{Rule}
use Rattle.table.specs.chains.Table.{Chain, Table, rules_of, chain_named_by, has_chain, is_built_in, Policy, names_of, built_in_names, is_named, is_user, user_chains, comes_before, empty_chain}
use Rattle.table.specs.edits.Edits.{Append, Insert, Replace, DeleteAt, DeleteRule, Flush, Cause, TableFault, InterfaceNotAllowed, TargetMissing, TargetBuiltIn, Loop, no_such_chain, out_of_range, full, rule_causes, causes, first_fault, fault_of, edited, target_causes, asks_absent_interface, leads, same_text, without_first, NewChain, FlushAll, SetPolicy, placed, bad_name, exists_already, TooManyChains, policies_with}
use Rattle.table.specs.chains.Sound.{IsSoundChain, IsTarget, MayStand, IsSound, AreListed}
use Rattle.table.proofs.laws.chains.KeepLaws.{Brings, Keeps, put_sound, take_sound, rules_by_name, has_by_names, users_by_names, is_user_name}
use Rattle.table.proofs.laws.chains.PlaceLaws.{names_placed, placed_listed}
use Rattle.table.proofs.laws.chains.SoundLaws.{path_fewer}

-- ---- Steps that change one chain's rules lead from sound tables to sound tables.

-- A step that is accepted

abbrev pub clear : Cause → Bool
clear cause = not cause.0

pub none_holds : (cs : List Cause) → first_fault cs ≡ None → list_all clear cs ≡ true
none_holds [] h = refl
none_holds (c ∷ cs) h =
    elim (cases_Bool c.0) [
      | inl holds ↦ absurd (none-some _ (sym h ∙ cond-true c.0 _ _ holds))
      | inr un ↦ ap (λ b. not b && list_all clear cs) un ∙ none_holds cs (sym (cond-false c.0 _ _ un) ∙ h)
    ]

accepted_by : (o : Option TableFault) (t u : Table) → elim o as (λ x. Result Table TableFault) [ None ↦ Ok t | Some f ↦ Err f ] ≡ Ok u → (o ≡ None) × (t ≡ u)
accepted_by None t u e = (refl, cc)
accepted_by (Some f) t u e = absurd (cc)

-- the first cause doesn't hold, and none behind it
pub first_clear : (c : Cause) (cs : List Cause) → list_all clear (c ∷ cs) ≡ true → (c.0 ≡ false) × (list_all clear cs ≡ true)
first_clear c cs h = let both = and_parts (clear c) (list_all clear cs) h in (not-true c.0 both.0, both.1)

-- The new rule may stand in its chain

abbrev pub TargetIsClear : Table → List ℕ → Option (List ℕ) → Type 0
TargetIsClear t c o = (name : List ℕ) → o ≡ Some name → IsTarget t name × (leads t.chains name c ≡ false)

pub target_clear : (t : Table) (c : List ℕ) (o : Option (List ℕ)) (more : List Cause) → list_all clear (target_causes t c o ++ more) ≡ true → TargetIsClear t c o × (list_all clear more ≡ true)
target_clear t c None more h = (λ name e. absurd (none-some _ e), h)
target_clear t c (Some n) more h =
    let loop : Cause = (leads t.chains n c, Loop) in
    let built : Cause = (is_built_in n, TargetBuiltIn) in
    let a = first_clear (not (has_chain t n), TargetMissing) (built ∷ loop ∷ more) h in
    let b = first_clear built (loop ∷ more) a.1 in
    let d = first_clear loop more b.1 in (
      λ name e.
          (let P : List ℕ → Type 0 = λ x. IsTarget t x × (leads t.chains x c ≡ false) in
          let same : n ≡ name = same_Some _ _ e in
          subst P same (record { there = not-false (has_chain t n) a.0; user = b.0 }, d.0)),
      d.1,
    )

pub may_stand : (t : Table) (c : List ℕ) (r : Rule) → TextReadsBack r → asks_absent_interface c r ≡ false → TargetIsClear t c (chain_named_by r) → MayStand t c r
may_stand t c r reads asks clear_target = record { readable = reads; interface = asks; target = λ name e. (clear_target name e).0 }

-- The changes of a list

append_brings : (r : Rule) → Brings (λ rules. rules ++ r ∷ []) r
append_brings r P rs all one = All-push P rs r all one

pub insert_brings : (n : ℕ) (r : Rule) → Brings (λ rules. insert rules n r) r
insert_brings n r P rs all one = All-append P (take n rs) (r ∷ drop n rs) (All-take P n rs all) (All-cons P r (drop n rs) one (All-drop P n rs all))

pub replace_brings : (n : ℕ) (r : Rule) → Brings (λ rules. slice_set rules n r) r
replace_brings n r P rs all one = All-set P rs n r one all

pub remove_keeps : (n : ℕ) → Keeps (λ rules. remove rules n)
remove_keeps n P rs all = All-append P (take n rs) (drop (suc n) rs) (All-take P n rs all) (All-drop P (suc n) rs all)

without_keeps : (r : Rule) → Keeps (without_first r)
without_keeps r P [] all = all
without_keeps r P (x ∷ rs) all =
    let Q : List Rule → Type 0 = λ xs. All P xs in
    elim (cases_Bool (same_text r x)) [
      | inl same ↦ subst Q (sym (cond-true (same_text r x) _ _ same)) (All-tail P x rs all)
      | inr un ↦ subst Q (sym (cond-false (same_text r x) _ _ un)) (All-cons P x (without_first r rs) (All-head P x rs all) (without_keeps r P rs (All-tail P x rs all)))
    ]

without_fewer : (r : Rule) (rs : List Rule) → length (without_first r rs) ≤ length rs
without_fewer r [] = omega arith
without_fewer r (x ∷ rs) =
    elim (cases_Bool (same_text r x)) [
      | inl same ↦ omega (arith, ap (λ (xs : List Rule). length xs) (cond-true (same_text r x) rs (x ∷ without_first r rs) same))
      | inr un ↦ omega (arith, without_fewer r rs, ap (λ (xs : List Rule). length xs) (cond-false (same_text r x) rs (x ∷ without_first r rs) un))
    ]

pub insert_long : (n : ℕ) (r : Rule) (rs : List Rule) → length (insert rs n r) ≤ length rs + 1
insert_long n r rs = omega (arith, length-append (take n rs) (r ∷ drop n rs), length-take n rs, length-drop n rs)

pub remove_fewer : (n : ℕ) (rs : List Rule) → length (remove rs n) ≤ length rs
remove_fewer n rs = omega (arith, length-append (take n rs) (drop (suc n) rs), length-take n rs, length-drop (suc n) rs)

-- The steps

-- a chain that takes one more has room for it
pub room_by_name : (t : Table) (c : List ℕ) → IsSound t → nat_le 8192 (length (rules_of t.chains c)) ≡ false → (x : Chain) → Contains t.chains x → x.name ≡ c → length x.rules < 8192
room_by_name t c s full x at e =
    let lt : length (rules_of t.chains c) < 8192 = leb-false 8192 (length (rules_of t.chains c)) full in
    let same : rules_of t.chains c ≡ x.rules = ap (rules_of t.chains) (sym e) ∙ rules_by_name t x s at in
    omega (arith, lt, ap (λ (rs : List Rule). length rs) same)

pub few_by_name : (t : Table) (x : Chain) → IsSound t → Contains t.chains x → length x.rules ≤ 8192
few_by_name t x s at = let own : IsSoundChain t x = All-contains (IsSoundChain t) t.chains x s.chains at in own.few

pub append_sound : (t : Table) (c : List ℕ) (r : Rule) → TextReadsBack r → IsSound t → fault_of (Append c r) t ≡ None → IsSound (edited (Append c r) t)
append_sound t c r reads s none =
    let end : List Cause = full t c ∷ [] in
    let h = first_clear (no_such_chain t c) (rule_causes t c r ++ end) (none_holds (causes (Append c r) t) none) in
    let a = first_clear (asks_absent_interface c r, InterfaceNotAllowed) (target_causes t c (chain_named_by r) ++ end) h.1 in
    let b = target_clear t c (chain_named_by r) end a.1 in
    let f = first_clear (full t c) [] b.1 in
    put_sound t c r (λ rules. rules ++ r ∷ []) (append_brings r) (λ x at e. let lt : length x.rules < 8192 = room_by_name t c s f.0 x at e in omega (arith, lt, length-append x.rules (r ∷ []))) (may_stand t c r reads a.0 b.0)
    (λ name e. (b.0 name e).1) s

pub insert_sound : (t : Table) (c : List ℕ) (n : ℕ) (r : Rule) → TextReadsBack r → IsSound t → fault_of (Insert c n r) t ≡ None → IsSound (edited (Insert c n r) t)
insert_sound t c n r reads s none =
    let end : List Cause = full t c ∷ [] in
    let range : Cause = out_of_range n (length (rules_of t.chains c) + 1) in
    let h = first_clear (no_such_chain t c) (range ∷ (rule_causes t c r ++ end)) (none_holds (causes (Insert c n r) t) none) in
    let g = first_clear range (rule_causes t c r ++ end) h.1 in
    let a = first_clear (asks_absent_interface c r, InterfaceNotAllowed) (target_causes t c (chain_named_by r) ++ end) g.1 in
    let b = target_clear t c (chain_named_by r) end a.1 in
    let f = first_clear (full t c) [] b.1 in
    put_sound t c r (λ rules. insert rules (n - 1) r) (insert_brings (n - 1) r) (λ x at e. let lt : length x.rules < 8192 = room_by_name t c s f.0 x at e in omega (arith, lt, insert_long (n - 1) r x.rules)) (may_stand t c r reads a.0 b.0)
    (λ name e. (b.0 name e).1) s

-- target_causes alone, without a full chain behind them
pub no_more : (t : Table) (c : List ℕ) (o : Option (List ℕ)) → list_all clear (target_causes t c o) ≡ true → list_all clear (target_causes t c o ++ []) ≡ true
no_more t c None h = h
no_more t c (Some name) h = h

pub replace_sound : (t : Table) (c : List ℕ) (n : ℕ) (r : Rule) → TextReadsBack r → IsSound t → fault_of (Replace c n r) t ≡ None → IsSound (edited (Replace c n r) t)
replace_sound t c n r reads s none =
    let range : Cause = out_of_range n (length (rules_of t.chains c)) in
    let h = first_clear (no_such_chain t c) (range ∷ rule_causes t c r) (none_holds (causes (Replace c n r) t) none) in
    let g = first_clear range (rule_causes t c r) h.1 in
    let a = first_clear (asks_absent_interface c r, InterfaceNotAllowed) (target_causes t c (chain_named_by r)) g.1 in
    let b = target_clear t c (chain_named_by r) [] (no_more t c (chain_named_by r) a.1) in
    put_sound t c r (λ rules. slice_set rules (n - 1) r) (replace_brings (n - 1) r) (λ x at e. let le : length x.rules ≤ 8192 = few_by_name t x s at in omega (arith, le, length-set x.rules (n - 1) r)) (may_stand t c r reads a.0 b.0)
    (λ name e. (b.0 name e).1) s

pub delete_at_sound : (t : Table) (c : List ℕ) (n : ℕ) → IsSound t → IsSound (edited (DeleteAt c n) t)
delete_at_sound t c n s = take_sound t c (λ rules. remove rules (n - 1)) (remove_keeps (n - 1)) (remove_fewer (n - 1)) s

pub delete_rule_sound : (t : Table) (c : List ℕ) (r : Rule) → IsSound t → IsSound (edited (DeleteRule c r) t)
delete_rule_sound t c r s = take_sound t c (without_first r) (without_keeps r) (without_fewer r) s

pub flush_sound : (t : Table) (c : List ℕ) → IsSound t → IsSound (edited (Flush c) t)
flush_sound t c s = take_sound t c (λ rules. []) (λ P rs all k d lt. absurd (omega arith)) (λ rs. omega arith) s

-- ---- Steps that make a chain, empty all or set a policy lead from sound tables to sound tables.

-- A new chain

abbrev goes_on : Chain → Chain → Bool
goes_on c x = is_built_in x.name || comes_before x.name c.name

pub has_more : (n : List ℕ) (c : Chain) (cs : List Chain) → list_any (is_named n) cs ≡ true → list_any (is_named n) (placed c cs) ≡ true
has_more n c [] h = absurd (false≢true h)
has_more n c (x ∷ cs) h =
    let P : List Chain → Type 0 = λ (xs : List Chain). list_any (is_named n) xs ≡ true in
    elim (cases_Bool (goes_on c x)) [
      | inl first ↦ subst P (sym (cond-true (goes_on c x) _ _ first))
          (elim (or_cases (is_named n x) (list_any (is_named n) cs) h) [ inl here ↦ or_left (is_named n x) _ here | inr there ↦ or_right (is_named n x) _ (has_more n c cs there) ])
      | inr later ↦ subst P (sym (cond-false (goes_on c x) _ _ later)) (or_right (is_named n c) _ h)
    ]

may_weaker : (t u : Table) (c : List ℕ) (r : Rule) → ((n : List ℕ) → has_chain t n ≡ true → has_chain u n ≡ true) → MayStand t c r → MayStand u c r
may_weaker t u c r more m =
    record {
      readable = m.readable;
      interface = m.interface;
      target = λ name e. (let h : IsTarget t name = m.target name e in record { there = more name h.there; user = h.user });
    }

pub sound_weaker : (t u : Table) → ((n : List ℕ) → has_chain t n ≡ true → has_chain u n ≡ true) → (x : Chain) → IsSoundChain t x → IsSoundChain u x
sound_weaker t u more x h = record { rules = All-weaker (MayStand t x.name) (MayStand u x.name) (λ r m. may_weaker t u x.name r more m) x.rules h.rules; few = h.few }

pub all_placed_chain : (P : Chain → Type 0) (c : Chain) (cs : List Chain) → P c → All P cs → All P (placed c cs)
all_placed_chain P c [] p h = All-cons P c [] p h
all_placed_chain P c (x ∷ cs) p h =
    let Q : List Chain → Type 0 = λ ys. All P ys in
    elim (cases_Bool (goes_on c x)) [
      | inl first ↦ subst Q (sym (cond-true (goes_on c x) _ _ first)) (All-cons P x (placed c cs) (All-head P x cs h) (all_placed_chain P c cs p (All-tail P x cs h)))
      | inr later ↦ subst Q (sym (cond-false (goes_on c x) _ _ later)) (All-cons P c (x ∷ cs) p h)
    ]

rules_placed : (c : List ℕ) (cs : List Chain) (a : List ℕ) (r : Rule) → Contains (rules_of (placed (empty_chain c) cs) a) r → Contains (rules_of cs a) r
rules_placed c [] a r h =
    let Q : List Rule → Type 0 = λ (rs : List Rule). Contains rs r in
    elim (cases_Bool (is_named a (empty_chain c))) [ inl own ↦ subst Q (cond-true (is_named a (empty_chain c)) _ _ own) h | inr un ↦ subst Q (cond-false (is_named a (empty_chain c)) _ _ un) h ]
rules_placed c (x ∷ cs) a r h =
    let P : List Chain → Type 0 = λ (xs : List Chain). Contains (rules_of xs a) r in
    let Q : List Rule → Type 0 = λ (rs : List Rule). Contains rs r in
    elim (cases_Bool (goes_on (empty_chain c) x)) [
      | inl first ↦ (
          let now : Contains (rules_of (x ∷ placed (empty_chain c) cs) a) r = subst P (cond-true (goes_on (empty_chain c) x) _ _ first) h in
          elim (cases_Bool (is_named a x)) [
            | inl here ↦ subst Q (sym (cond-true (is_named a x) _ _ here)) (subst Q (cond-true (is_named a x) _ _ here) now)
            | inr un ↦ subst Q (sym (cond-false (is_named a x) _ _ un)) (rules_placed c cs a r (subst Q (cond-false (is_named a x) _ _ un) now))
          ])
      | inr later ↦ (
          let now : Contains (rules_of (empty_chain c ∷ x ∷ cs) a) r = subst P (cond-false (goes_on (empty_chain c) x) _ _ later) h in
          elim (cases_Bool (is_named a (empty_chain c))) [
            | inl own ↦ (let no : Contains [] r = subst Q (cond-true (is_named a (empty_chain c)) _ _ own) now in absurd (omega (arith, no.1)))
            | inr un ↦ subst Q (cond-false (is_named a (empty_chain c)) _ _ un) now
          ])
    ]

pub users_placed : (c : Chain) (cs : List Chain) → length (user_chains (placed c cs)) ≤ suc (length (user_chains cs))
users_placed c [] =
    elim (cases_Bool (is_user c)) [
      | inl u ↦ omega (arith, ap (λ (xs : List Chain). length xs) (cond-true (is_user c) (c ∷ []) [] u))
      | inr un ↦ omega (arith, ap (λ (xs : List Chain). length xs) (cond-false (is_user c) (c ∷ []) [] un))
    ]
users_placed c (x ∷ cs) =
    let len : List Chain → ℕ = λ (xs : List Chain). length xs in
    let ulen : List Chain → ℕ = λ (xs : List Chain). length (user_chains xs) in
    elim (cases_Bool (goes_on c x)) [
      | inl first ↦ (
          let e = ap ulen (cond-true (goes_on c x) (x ∷ placed c cs) (c ∷ x ∷ cs) first) in
          elim (cases_Bool (is_user x)) [
            | inl u ↦ omega (arith, e, users_placed c cs, ap len (cond-true (is_user x) (x ∷ user_chains (placed c cs)) (user_chains (placed c cs)) u), ap len (cond-true (is_user x) (x ∷ user_chains cs) (user_chains cs) u))
            | inr un ↦ omega (arith, e, users_placed c cs, ap len (cond-false (is_user x) (x ∷ user_chains (placed c cs)) (user_chains (placed c cs)) un), ap len (cond-false (is_user x) (x ∷ user_chains cs) (user_chains cs) un))
          ])
      | inr later ↦ (
          let e = ap ulen (cond-false (goes_on c x) (x ∷ placed c cs) (c ∷ x ∷ cs) later) in
          elim (cases_Bool (is_user c)) [
            | inl u ↦ omega (arith, e, ap len (cond-true (is_user c) (c ∷ user_chains (x ∷ cs)) (user_chains (x ∷ cs)) u))
            | inr un ↦ omega (arith, e, ap len (cond-false (is_user c) (c ∷ user_chains (x ∷ cs)) (user_chains (x ∷ cs)) un))
          ])
    ]

any_take : (f : List ℕ → Bool) (k : ℕ) (ns : List (List ℕ)) → list_any f (take k ns) ≡ true → list_any f ns ≡ true
any_take f zero ns h = absurd (false≢true h)
any_take f (suc k) [] h = absurd (false≢true h)
any_take f (suc k) (n ∷ ns) h = elim (or_cases (f n) (list_any f (take k ns)) h) [ inl here ↦ or_left (f n) _ here | inr there ↦ or_right (f n) _ (any_take f k ns there) ]

any_turned : (name : List ℕ) (xs : List (List ℕ)) → list_any (bytes_eq name) xs ≡ true → list_any (λ x. bytes_eq x name) xs ≡ true
any_turned name [] h = absurd (false≢true h)
any_turned name (x ∷ xs) h =
    elim (or_cases (bytes_eq name x) (list_any (bytes_eq name) xs) h) [
      | inl here ↦ or_left (bytes_eq x name) _ ((bytes_eq-Decides x name).1 (sym ((bytes_eq-Decides name x).0 here)))
      | inr there ↦ or_right (bytes_eq x name) _ (any_turned name xs there)
    ]

-- the built-in chains are there, so a name that is free is none of theirs
pub no_built_in : (t : Table) (name : List ℕ) → IsSound t → has_chain t name ≡ false → is_built_in name ≡ false
no_built_in t name s free =
    elim (cases_Bool (is_built_in name)) [
      | inl b ↦ (
          let f : List ℕ → Bool = λ x. bytes_eq x name in
          let P : List (List ℕ) → Type 0 = λ xs. list_any f xs ≡ true in
          let there : list_any f (names_of t.chains) ≡ true = any_take f 3 (names_of t.chains) (subst P (sym s.listed.built_in) (any_turned name built_in_names b)) in
          absurd (false≢true (sym free ∙ has_by_names name t.chains ∙ there)))
      | inr un ↦ un
    ]

pub new_chain_sound : (t : Table) (c : List ℕ) → IsSound t → fault_of (NewChain c) t ≡ None → IsSound (edited (NewChain c) t)
new_chain_sound t c s none =
    let u : Table = edited (NewChain c) t in
    let many : Cause = (nat_le 1024 (length (user_chains t.chains)), TooManyChains) in
    let h = first_clear (bad_name c) (exists_already t c ∷ many ∷ []) (none_holds (causes (NewChain c) t) none) in
    let g = first_clear (exists_already t c) (many ∷ []) h.1 in
    let f = first_clear many [] g.1 in
    let lt : length (user_chains t.chains) < 1024 = leb-false 1024 (length (user_chains t.chains)) f.0 in
    let more : (n : List ℕ) → has_chain t n ≡ true → has_chain u n ≡ true = λ n e. has_more n (empty_chain c) t.chains e in
    record {
      policies = s.policies;
      listed = subst AreListed (sym (names_placed (empty_chain c) t.chains))
          (placed_listed c (names_of t.chains) (not-false _ h.0) (no_built_in t c s g.0) (sym (has_by_names c t.chains) ∙ g.0) s.listed);
      chains = all_placed_chain (IsSoundChain u) (empty_chain c) t.chains (record { rules = λ k d none_there. absurd (omega (arith, none_there)); few = omega arith })
          (All-weaker (IsSoundChain t) (IsSoundChain u) (sound_weaker t u more) t.chains s.chains);
      no_loop = λ n a p. s.no_loop n a (path_fewer t.chains u.chains c (λ x y e. inl (e.0, rules_placed c t.chains x e.0 e.1, e.2)) (suc n) a a p);
      few = omega (arith, lt, users_placed (empty_chain c) t.chains);
    }

-- All chains emptied

abbrev pub emptied : Chain → Chain
emptied c = empty_chain c.name

pub names_emptied : (cs : List Chain) → names_of (map emptied cs) ≡ names_of cs
names_emptied [] = refl
names_emptied (c ∷ cs) = λ i. c.name ∷ names_emptied cs i

pub no_rules_left : (cs : List Chain) (a : List ℕ) → length (rules_of (map emptied cs) a) ≡ 0
no_rules_left [] a = refl
no_rules_left (c ∷ cs) a =
    elim (cases_Bool (is_named a (emptied c))) [
      | inl here ↦ ap (λ (rs : List Rule). length rs) (cond-true (is_named a (emptied c)) _ _ here)
      | inr un ↦ ap (λ (rs : List Rule). length rs) (cond-false (is_named a (emptied c)) _ _ un) ∙ no_rules_left cs a
    ]

pub flush_all_sound : (t : Table) → IsSound t → IsSound (edited FlushAll t)
flush_all_sound t s =
    let u : Table = edited FlushAll t in
    let same : names_of u.chains ≡ names_of t.chains = names_emptied t.chains in
    record {
      policies = s.policies;
      listed = subst AreListed (sym same) s.listed;
      chains = All-map (IsSoundChain u) emptied t.chains (λ k d lt. record { rules = λ j e none_there. absurd (omega (arith, none_there)); few = omega arith });
      no_loop = λ n a p. absurd (omega (arith, no_rules_left t.chains a, p.1.1.1));
      few = (let few : length (user_chains t.chains) ≤ 1024 = s.few in
          omega (arith, few, users_by_names u.chains, users_by_names t.chains, ap (λ (ns : List (List ℕ)). length (filter is_user_name ns)) same));
    }

-- A policy

as_many : (k : Option ℕ) (p : Option Policy) (ps : List Policy) → length (policies_with k p ps) ≡ length ps
as_many (Some k) (Some p) ps = length-set ps k p
as_many (Some k) None ps = refl
as_many None p ps = refl

pub set_policy_sound : (t : Table) (c text : List ℕ) → IsSound t → IsSound (edited (SetPolicy c text) t)
set_policy_sound t c text s =
    let u : Table = edited (SetPolicy c text) t in
    record {
      policies = as_many _ _ t.policies ∙ s.policies;
      listed = s.listed;
      chains = All-weaker (IsSoundChain t) (IsSoundChain u) (sound_weaker t u (λ n e. e)) t.chains s.chains;
      no_loop = s.no_loop;
      few = s.few;
    }
