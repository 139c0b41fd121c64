-- Rules put into the chains of a table one after another, and every table made of the empty one by plain edits.
use Rattle.std.proofs.Common.{◌≡◌, inl, inr, ℕ, ◌<◌, ◌≤◌, true, false, not, List, [], ◌∷◌, ◌++◌, length, map, refl, sym, ◌∙◌, ap, arith, subst, append_assoc, Option, Some, None, Result, Ok, Err, Contains, suc, ◌+◌, Bool, cond, ◌||◌, drop, codes}
use Rattle.std.specs.Prelude.{flat_map, nat_le, All, is_none, position, get_or, slice_get, slice_set, option_and_then}
use Rattle.std.specs.List.{list_any, position_or_len}
use Rattle.std.specs.Str.{bytes_eq}
use Rattle.std.proofs.lemmas.Bool.{cases_Bool, cond-true, cond-false, or_left, or_right, lt-leb, false≢true}
use Rattle.std.proofs.lemmas.List.{append-nil, length-append, take-append-drop}
use Rattle.std.proofs.lemmas.List.Elements.{All-contains, Contains-append_left, Contains-append_right, All-head, All-tail}
use Rattle.std.proofs.lemmas.Slice.Eq.{bytes_eq-Decides}
use Rattle.rules.specs.rule.Rules.{Rule}
use Rattle.table.specs.chains.Table.{Chain, Table, names_of, is_built_in, is_named, has_chain, rules_of, chain_named_by, Policy, Accept, Drop, built_in_names, empty_chain, empty_table, user_chains, comes_before}
use Rattle.table.specs.chains.Sound.{IsTarget, MayStand, IsSoundChain, IsSound, Leads, IsUserName}
use Rattle.table.specs.edits.Edits.{Edit, Append, Cause, TableFault, InterfaceNotAllowed, TargetMissing, TargetBuiltIn, Loop, asks_absent_interface, no_such_chain, full, rule_causes, target_causes, first_fault, fault_of, edited, step, leads, changed_chain, NewChain, SetPolicy, NotBuiltInChain, BadPolicy, TooManyChains, bad_name, exists_already, policy_named, policies_with, placed}
use Rattle.table.specs.edits.Headline.{appends, steps, policy_text, making_with, making, TablesAreMadeByEdits}
use Rattle.table.proofs.laws.chains.StepLaws.{emptied, names_emptied, no_rules_left, users_placed, TargetIsClear}
use Rattle.table.proofs.laws.chains.KeepLaws.{has_by_names, listed_differ, users_by_names, itself_not_before}
use Rattle.table.proofs.laws.chains.SoundLaws.{Mem, Differing, leads_is_path, path_fewer}
use Rattle.table.proofs.laws.edits.AnswerLaws.{passes}
use Rattle.table.proofs.laws.edits.PutLaws.{fault_later}
use Rattle.table.proofs.laws.chains.CountLaws.{users_from}
use Rattle.table.proofs.laws.chains.PlaceLaws.{stays_first, Rising, rising_from, any_is}

-- ---- The rules of a table are put into its chains one after another.

-- Edits one after another

accepted : (e : Edit) (t : Table) → fault_of e t ≡ None → step e t ≡ Ok (edited e t)
accepted e t none = ap (λ (o : Option TableFault). elim o as (λ x. Result Table TableFault) [ None ↦ Ok (edited e t) | Some f ↦ Err f ]) none

-- an edit that nothing refuses, and then the rest
pub one_more : (e : Edit) (rest : List Edit) (t : Table) → fault_of e t ≡ None → steps (e ∷ rest) t ≡ steps rest (edited e t)
one_more e rest t none = ap (λ (r : Result Table TableFault). elim r as (λ x. Result Table TableFault) [ Ok next ↦ steps rest next | Err f ↦ Err f ]) (accepted e t none)

-- A chain among others

-- a chain between others
abbrev among : List Chain → List ℕ → List Rule → List Chain → List Chain
among before name rules after = before ++ record { name = name; rules = rules } ∷ after

-- no chain has the name
abbrev Others : List ℕ → List Chain → Type 0
Others name [] = Unit {0}
Others name (c ∷ cs) = (is_named name c ≡ false) × Others name cs

not_named : (name : List ℕ) (c : Chain) → (c.name ≡ name → ⊥) → is_named name c ≡ false
not_named name c ne = elim (cases_Bool (is_named name c)) [ inl t ↦ absurd (ne ((bytes_eq-Decides c.name name).0 t)) | inr f ↦ f ]

others_from : (name : List ℕ) (cs : List Chain) → (Mem name (names_of cs) → ⊥) → Others name cs
others_from name [] out = tt
others_from name (c ∷ cs) out = (not_named name c (λ e. out (inl (sym e))), others_from name cs (λ m. out (inr m)))

mem_among : (before : List Chain) (name : List ℕ) (rules : List Rule) (after : List Chain) → Mem name (names_of (among before name rules after))
mem_among [] name rules after = inl refl
mem_among (b ∷ bs) name rules after = inr (mem_among bs name rules after)

before_others : (before : List Chain) (name : List ℕ) (rules : List Rule) (after : List Chain) → Differing (names_of (among before name rules after)) → Others name before
before_others [] name rules after d = tt
before_others (b ∷ bs) name rules after d =
    let P : List ℕ → Type 0 = λ n. Mem n (names_of (among bs name rules after)) in
    (not_named name b (λ e. d.0 (subst P (sym e) (mem_among bs name rules after))), before_others bs name rules after d.1)

after_others : (before : List Chain) (name : List ℕ) (rules : List Rule) (after : List Chain) → Differing (names_of (among before name rules after)) → Others name after
after_others [] name rules after d = others_from name after d.0
after_others (b ∷ bs) name rules after d = after_others bs name rules after d.1

others_emptied : (name : List ℕ) (cs : List Chain) → Others name cs → Others name (map emptied cs)
others_emptied name [] o = tt
others_emptied name (c ∷ cs) o = (o.0, others_emptied name cs o.1)

others_changed : (f : List Rule → List Rule) (name : List ℕ) (cs : List Chain) → Others name cs → map (changed_chain f name) cs ≡ cs
others_changed f name [] o = refl
others_changed f name (c ∷ cs) o = λ i. cond-false (is_named name c) (record { name = c.name; rules = f c.rules }) c o.0 i ∷ others_changed f name cs o.1 i

-- only the rules of the chain in the middle change
changed_among : (f : List Rule → List Rule) (before : List Chain) (name : List ℕ) (rules : List Rule) (after : List Chain) → Others name before → Others name after
    → map (changed_chain f name) (among before name rules after) ≡ among before name (f rules) after
changed_among f [] name rules after b a =
    let c : Chain = record { name = name; rules = rules } in
    let own : changed_chain f name c ≡ record { name = name; rules = f rules } = cond-true (is_named name c) (record { name = name; rules = f rules }) c ((bytes_eq-Decides name name).1 refl) in
    λ i. own i ∷ others_changed f name after a i
changed_among f (x ∷ xs) name rules after b a = λ i. cond-false (is_named name x) (record { name = x.name; rules = f x.rules }) x b.0 i ∷ changed_among f xs name rules after b.1 a i

has_among : (before : List Chain) (name : List ℕ) (rules : List Rule) (after : List Chain) → list_any (is_named name) (among before name rules after) ≡ true
has_among [] name rules after = or_left (bytes_eq name name) _ ((bytes_eq-Decides name name).1 refl)
has_among (x ∷ xs) name rules after = or_right (is_named name x) _ (has_among xs name rules after)

rules_among : (before : List Chain) (name : List ℕ) (rules : List Rule) (after : List Chain) → Others name before → rules_of (among before name rules after) name ≡ rules
rules_among [] name rules after o = cond-true (bytes_eq name name) rules (rules_of after name) ((bytes_eq-Decides name name).1 refl)
rules_among (x ∷ xs) name rules after o = cond-false (is_named name x) x.rules (rules_of (among xs name rules after) name) o.0 ∙ rules_among xs name rules after o.1

names_among : (before : List Chain) (name : List ℕ) (some rules : List Rule) (after : List Chain) → names_of (among before name some (map emptied after)) ≡ names_of (among before name rules after)
names_among [] name some rules after = λ i. name ∷ names_emptied after i
names_among (x ∷ xs) name some rules after = λ i. x.name ∷ names_among xs name some rules after i

-- with fewer rules in the chain, and none in those after it, each rule is one of the old
fewer_among : (before : List Chain) (name : List ℕ) (some more : List Rule) (after : List Chain) (a : List ℕ) (r : Rule) → Contains (rules_of (among before name some (map emptied after)) a) r
    → Contains (rules_of (among before name (some ++ more) after) a) r
fewer_among [] name some more after a r h =
    let Q : List Rule → Type 0 = λ (rs : List Rule). Contains rs r in
    elim (cases_Bool (bytes_eq name a)) [
      | inl here ↦ subst Q (sym (cond-true (bytes_eq name a) (some ++ more) (rules_of after a) here))
          (Contains-append_left some more r (subst Q (cond-true (bytes_eq name a) some (rules_of (map emptied after) a) here) h))
      | inr un ↦ (
          let none : Contains (rules_of (map emptied after) a) r = subst Q (cond-false (bytes_eq name a) some (rules_of (map emptied after) a) un) h in
          absurd (omega (arith, none.1, no_rules_left after a)))
    ]
fewer_among (x ∷ xs) name some more after a r h =
    let Q : List Rule → Type 0 = λ (rs : List Rule). Contains rs r in
    let old : List Rule = rules_of (among xs name (some ++ more) after) a in
    let new : List Rule = rules_of (among xs name some (map emptied after)) a in
    elim (cases_Bool (is_named a x)) [
      | inl here ↦ subst Q (sym (cond-true (is_named a x) x.rules old here)) (subst Q (cond-true (is_named a x) x.rules new here) h)
      | inr un ↦ subst Q (sym (cond-false (is_named a x) x.rules old un)) (fewer_among xs name some more after a r (subst Q (cond-false (is_named a x) x.rules new un) h))
    ]

-- One rule

-- a table's chains with their rules up to some of those of one chain
abbrev part_of : Table → List Chain → List ℕ → List Rule → List Chain → Table
part_of t before name rules after = record { policies = t.policies; chains = among before name rules (map emptied after) }

target_passes : (t : Table) (c : List ℕ) (o : Option (List ℕ)) → TargetIsClear t c o → first_fault (target_causes t c o) ≡ None
target_passes t c None h = refl
target_passes t c (Some n) h =
    let target : IsTarget t n = (h n refl).0 in
    let built : Cause = (is_built_in n, TargetBuiltIn) in
    let loop : Cause = (leads t.chains n c, Loop) in
    passes (not (has_chain t n), TargetMissing) (built ∷ loop ∷ []) (ap not target.there) ∙ passes built (loop ∷ []) target.user ∙ passes loop [] (h n refl).1

module _ (t : Table) (s : IsSound t) (before : List Chain) (name : List ℕ) (some : List Rule) (r : Rule) (more : List Rule) (after : List Chain) (is : t.chains ≡ among before name (some ++ r ∷ more) after) where
  sound_chain : IsSoundChain t (record { name = name; rules = some ++ r ∷ more })
  sound_chain =
      let c : Chain = record { name = name; rules = some ++ r ∷ more } in
      let P : List Chain → Type 0 = λ (cs : List Chain). Contains cs c in
      All-contains (IsSoundChain t) t.chains c s.chains (subst P (sym is) (Contains-append_right before (c ∷ after) c (0, omega arith, refl)))

  stands : MayStand t name r
  stands = let own : IsSoundChain t (record { name = name; rules = some ++ r ∷ more }) = sound_chain in
      All-contains (MayStand t name) (some ++ r ∷ more) r own.rules (Contains-append_right some (r ∷ more) r (0, omega arith, refl))

  differ : Differing (names_of (among before name (some ++ r ∷ more) after))
  differ = let P : List Chain → Type 0 = λ (cs : List Chain). Differing (names_of cs) in subst P is (listed_differ (names_of t.chains) s.listed)

  apart : Others name before
  apart = before_others before name (some ++ r ∷ more) after differ

  apart_after : Others name (map emptied after)
  apart_after = others_emptied name after (after_others before name (some ++ r ∷ more) after differ)

  has_same : (n : List ℕ) → has_chain (part_of t before name some after) n ≡ has_chain t n
  has_same n = has_by_names n (among before name some (map emptied after))
      ∙ ap (list_any (λ x. bytes_eq x n)) (names_among before name some (some ++ r ∷ more) after ∙ sym (ap names_of is))
      ∙ sym (has_by_names n t.chains)

  room : nat_le 8192 (length (rules_of (among before name some (map emptied after)) name)) ≡ false
  room =
      let own : IsSoundChain t (record { name = name; rules = some ++ r ∷ more }) = sound_chain in
      let few : length (some ++ r ∷ more) ≤ 8192 = own.few in
      let lt : length some < 8192 = omega (arith, few, length-append some (r ∷ more)) in
      ap (λ (rs : List Rule). nat_le 8192 (length rs)) (rules_among before name some (map emptied after) apart) ∙ lt-leb 8192 (length some) lt

  -- a path of a part is one of the table
  path_kept : (a b : List ℕ) → Leads (among before name some (map emptied after)) a b → Leads t.chains a b
  path_kept a b p =
      let R : List Chain → Type 0 = λ (cs : List Chain). (x : List ℕ) (y : Rule) → Contains (rules_of (among before name some (map emptied after)) x) y → Contains (rules_of cs x) y in
      let rules : R t.chains = subst R (sym is) (fewer_among before name some (r ∷ more) after) in
      (p.0, path_fewer t.chains (among before name some (map emptied after)) [] (λ x y e. inl (e.0, rules x e.0 e.1, e.2)) p.0 a b p.1)

  rule_there : Contains (rules_of t.chains name) r
  rule_there =
      let Q : List Rule → Type 0 = λ (rs : List Rule). Contains rs r in
      let rules : rules_of t.chains name ≡ some ++ r ∷ more = ap (λ (cs : List Chain). rules_of cs name) is ∙ rules_among before name (some ++ r ∷ more) after apart in
      subst Q (sym rules) (Contains-append_right some (r ∷ more) r (0, omega arith, refl))

  no_way_back : (n : List ℕ) → chain_named_by r ≡ Some n → leads (among before name some (map emptied after)) n name ≡ false
  no_way_back n e =
      elim (cases_Bool (leads (among before name some (map emptied after)) n name)) [
        | inl led ↦ (
            let p : Leads t.chains n name = path_kept n name (leads_is_path (among before name some (map emptied after)) n name led) in
            absurd (s.no_loop p.0 name (n, (r, rule_there, e), p.1)))
        | inr un ↦ un
      ]

  target_clear : TargetIsClear (part_of t before name some after) name (chain_named_by r)
  target_clear n e =
      let m : MayStand t name r = stands in
      let h : IsTarget t n = m.target n e in
      (record { there = has_same n ∙ h.there; user = h.user }, no_way_back n e)

  not_refused : fault_of (Append name r) (part_of t before name some after) ≡ None
  not_refused =
      let u : Table = part_of t before name some after in
      let m : MayStand t name r = stands in
      let end : List Cause = full u name ∷ [] in
      passes (no_such_chain u name) (rule_causes u name r ++ end) (ap not (has_among before name some (map emptied after)))
      ∙ passes (asks_absent_interface name r, InterfaceNotAllowed) (target_causes u name (chain_named_by r) ++ end) m.interface
      ∙ fault_later (target_causes u name (chain_named_by r)) end (target_passes u name (chain_named_by r) target_clear)
      ∙ passes (full u name) [] room

  one_rule : (rest : List Edit) → steps (Append name r ∷ rest) (part_of t before name some after) ≡ steps rest (part_of t before name (some ++ r ∷ []) after)
  one_rule rest =
      let T : List Chain → Table = λ (cs : List Chain). record { policies = t.policies; chains = cs } in
      one_more (Append name r) rest (part_of t before name some after) not_refused
      ∙ ap (λ (cs : List Chain). steps rest (T cs)) (changed_among (λ rules. rules ++ r ∷ []) before name some (map emptied after) apart apart_after)

-- The rules of a chain, and the chains

rules_filled : (t : Table) → IsSound t → (before : List Chain) (name : List ℕ) (some rules : List Rule) (after : List Chain) → t.chains ≡ among before name (some ++ rules) after
    → (rest : List Edit) → steps (map (Append name) rules ++ rest) (part_of t before name some after) ≡ steps rest (part_of t before name (some ++ rules) after)
rules_filled t s before name some [] after is rest = ap (λ (rs : List Rule). steps rest (part_of t before name rs after)) (sym (append-nil some))
rules_filled t s before name some (r ∷ rules) after is rest =
    let e : (some ++ r ∷ []) ++ rules ≡ some ++ r ∷ rules = append_assoc some (r ∷ []) rules in
    one_rule t s before name some r rules after is (map (Append name) rules ++ rest)
    ∙ rules_filled t s before name (some ++ r ∷ []) rules after (is ∙ ap (λ (rs : List Rule). among before name rs after) (sym e)) rest
    ∙ ap (λ (rs : List Rule). steps rest (part_of t before name rs after)) e

-- the chains before these have their rules, and these get theirs
pub chains_filled : (t : Table) → IsSound t → (before after : List Chain) → t.chains ≡ before ++ after → steps (flat_map appends after) (record { policies = t.policies; chains = before ++ map emptied after }) ≡ Ok t
chains_filled t s before [] is = ap (λ (cs : List Chain). Ok (record { policies = t.policies; chains = cs })) (sym is)
chains_filled t s before (c ∷ cs) is =
    let T : List Chain → Table = λ (xs : List Chain). record { policies = t.policies; chains = xs } in
    rules_filled t s before c.name [] c.rules cs is (flat_map appends cs)
    ∙ ap (λ (xs : List Chain). steps (flat_map appends cs) (T xs)) (sym (append_assoc before (c ∷ []) (map emptied cs)))
    ∙ chains_filled t s (before ++ c ∷ []) cs (is ∙ sym (append_assoc before (c ∷ []) cs))

-- ---- Every table is made of the empty one by plain edits.

-- a table of chains without rules
abbrev bare_table : List Policy → List (List ℕ) → Table
bare_table policies names = record { policies = policies; chains = map empty_chain names }

-- Policies

text_named : (p : Policy) → policy_named (policy_text p) ≡ Some p
text_named Accept = refl
text_named Drop = refl

policy_set : (c : List ℕ) (k : ℕ) (p : Policy) (ps : List Policy) (rest : List Edit) → has_chain empty_table c ≡ true → is_built_in c ≡ true → position (bytes_eq c) built_in_names ≡ Some k
    → steps (SetPolicy c (policy_text p) ∷ rest) (bare_table ps built_in_names) ≡ steps rest (bare_table (slice_set ps k p) built_in_names)
policy_set c k p ps rest there built at =
    let t : Table = bare_table ps built_in_names in
    let user : Cause = (not (is_built_in c), NotBuiltInChain) in
    let bad : Cause = (is_none (policy_named (policy_text p)), BadPolicy) in
    one_more (SetPolicy c (policy_text p)) rest t
    (passes (no_such_chain t c) (user ∷ bad ∷ []) (ap not there) ∙ passes user (bad ∷ []) (ap not built) ∙ passes bad [] (ap (λ (o : Option Policy). is_none o) (text_named p)))
    ∙ ap (λ (o : Option ℕ). steps rest (bare_table (policies_with o (policy_named (policy_text p)) ps) built_in_names)) at
    ∙ ap (λ (o : Option Policy). steps rest (bare_table (policies_with (Some k) o ps) built_in_names)) (text_named p)

-- the edit that makes a chain of a name
abbrev making_of : List Policy → List ℕ → Edit
making_of ps n = making_with n (option_and_then (slice_get ps) (position (bytes_eq n) built_in_names))

policies_made : (ps : List Policy) (rest : List Edit) → length ps ≡ 3 → steps (map (making_of ps) built_in_names ++ rest) empty_table ≡ steps rest (bare_table ps built_in_names)
policies_made [] rest h = absurd (omega (arith, h))
policies_made (p ∷ []) rest h = absurd (omega (arith, h))
policies_made (p ∷ q ∷ []) rest h = absurd (omega (arith, h))
policies_made (p ∷ q ∷ r ∷ []) rest h =
    let forward : Edit = SetPolicy (codes "FORWARD") (policy_text q) in
    let output : Edit = SetPolicy (codes "OUTPUT") (policy_text r) in
    policy_set (codes "INPUT") 0 p (Accept ∷ Accept ∷ Accept ∷ []) (forward ∷ output ∷ rest) refl refl refl
    ∙ policy_set (codes "FORWARD") 1 q (p ∷ Accept ∷ Accept ∷ []) (output ∷ rest) refl refl refl
    ∙ policy_set (codes "OUTPUT") 2 r (p ∷ q ∷ Accept ∷ []) rest refl refl refl
policies_made (p ∷ q ∷ r ∷ x ∷ xs) rest h = absurd (omega (arith, h))

-- User chains

-- chains of these names stand before one of the name
abbrev StayFirst : List ℕ → List (List ℕ) → Type 0
StayFirst name [] = Unit {0}
StayFirst name (x ∷ xs) = (stays_first name x ≡ true) × StayFirst name xs

first_more : (name x : List ℕ) (xs : List (List ℕ)) → StayFirst name xs → comes_before x name ≡ true → StayFirst name (xs ++ x ∷ [])
first_more name x [] h b = (or_right (is_built_in x) (comes_before x name) b, tt)
first_more name x (y ∷ ys) h b = (h.0, first_more name x ys h.1 b)

not_itself : (name : List ℕ) → is_built_in name ≡ false → stays_first name name ≡ false
not_itself name user = ap (λ b. b || comes_before name name) user ∙ itself_not_before name

is_new : (name : List ℕ) (xs : List (List ℕ)) → is_built_in name ≡ false → StayFirst name xs → list_any (is_named name) (map empty_chain xs) ≡ false
is_new name [] user h = refl
is_new name (x ∷ xs) user h =
    elim (cases_Bool (bytes_eq x name)) [
      | inl same ↦ absurd (false≢true (sym (not_itself name user) ∙ ap (stays_first name) (sym ((bytes_eq-Decides x name).0 same)) ∙ h.0))
      | inr un ↦ ap (λ b. b || list_any (is_named name) (map empty_chain xs)) un ∙ is_new name xs user h.1
    ]

placed_last : (name : List ℕ) (xs : List (List ℕ)) → StayFirst name xs → placed (empty_chain name) (map empty_chain xs) ≡ map empty_chain (xs ++ name ∷ [])
placed_last name [] h = refl
placed_last name (x ∷ xs) h = cond-true (stays_first name x) _ _ h.0 ∙ (λ i. empty_chain x ∷ placed_last name xs h.1 i)

chain_made : (ps : List Policy) (xs : List (List ℕ)) (name : List ℕ) (rest : List Edit) → IsUserName name → StayFirst name xs → length (user_chains (map empty_chain xs)) < 1024
    → steps (NewChain name ∷ rest) (bare_table ps xs) ≡ steps rest (bare_table ps (xs ++ name ∷ []))
chain_made ps xs name rest user first few =
    let t : Table = bare_table ps xs in
    let many : Cause = (nat_le 1024 (length (user_chains t.chains)), TooManyChains) in
    one_more (NewChain name) rest t
    (passes (bad_name name) (exists_already t name ∷ many ∷ []) (ap not user.form)
    ∙ passes (exists_already t name) (many ∷ []) (is_new name xs user.other first)
    ∙ passes many [] (lt-leb 1024 (length (user_chains t.chains)) few))
    ∙ ap (λ (cs : List Chain). steps rest (record { policies = ps; chains = cs })) (placed_last name xs first)

-- the names that are left to come are those of user chains, in order
chains_made : (ps : List Policy) (xs ns : List (List ℕ)) (rest : List Edit) → All IsUserName ns → Rising ns → All (λ n. StayFirst n xs) ns → length (user_chains (map empty_chain xs)) + length ns ≤ 1024
    → steps (map NewChain ns ++ rest) (bare_table ps xs) ≡ steps rest (bare_table ps (xs ++ ns))
chains_made ps xs [] rest user rising first few = ap (λ (ys : List (List ℕ)). steps rest (bare_table ps ys)) (sym (append-nil xs))
chains_made ps xs (n ∷ ns) rest user rising first few =
    let own : StayFirst n xs = All-head (λ m. StayFirst m xs) n ns first in
    let many : length (user_chains (map empty_chain (xs ++ n ∷ []))) ≤ suc (length (user_chains (map empty_chain xs))) =
    subst (λ (cs : List Chain). length (user_chains cs) ≤ suc (length (user_chains (map empty_chain xs)))) (placed_last n xs own) (users_placed (empty_chain n) (map empty_chain xs)) in
    chain_made ps xs n (map NewChain ns ++ rest) (All-head IsUserName n ns user) own (omega (arith, few))
    ∙ chains_made ps (xs ++ n ∷ []) ns rest (All-tail IsUserName n ns user) rising.1
    (λ k d lt. first_more (get_or ns k d) n xs (first (suc k) d (omega (arith, lt))) (rising.0 k d lt))
    (omega (arith, few, many))
    ∙ ap (λ (ys : List (List ℕ)). steps rest (bare_table ps ys)) (append_assoc xs (n ∷ []) ns)

user_making : (ps : List Policy) (n : List ℕ) → is_built_in n ≡ false → making_of ps n ≡ NewChain n
user_making ps n user =
    let place : ℕ = position_or_len (bytes_eq n) built_in_names in
    let none : position (bytes_eq n) built_in_names ≡ None = ap (λ (b : Bool). cond b (Some place) None) (sym (any_is (bytes_eq n) built_in_names) ∙ user) in
    ap (λ (o : Option ℕ). making_with n (option_and_then (slice_get ps) o)) none

user_makings : (ps : List Policy) (ns : List (List ℕ)) → All IsUserName ns → map (making_of ps) ns ≡ map NewChain ns
user_makings ps [] user = refl
user_makings ps (n ∷ ns) user =
    let own : IsUserName n = All-head IsUserName n ns user in
    λ i. user_making ps n own.other i ∷ user_makings ps ns (All-tail IsUserName n ns user) i

-- The table

makings_by_name : (t : Table) (cs : List Chain) → map (making t) cs ≡ map (making_of t.policies) (names_of cs)
makings_by_name t [] = refl
makings_by_name t (c ∷ cs) = λ i. making t c ∷ makings_by_name t cs i

emptied_by_name : (cs : List Chain) → map empty_chain (names_of cs) ≡ map emptied cs
emptied_by_name [] = refl
emptied_by_name (c ∷ cs) = λ i. emptied c ∷ emptied_by_name cs i

pub tables_made : TablesAreMadeByEdits
tables_made t s =
    let ps : List Policy = t.policies in
    let ns : List (List ℕ) = names_of t.chains in
    let ds : List (List ℕ) = drop 3 ns in
    let rest : List Edit = flat_map appends t.chains in
    let names : ns ≡ built_in_names ++ ds = sym (take-append-drop 3 ns) ∙ ap (λ (xs : List (List ℕ)). xs ++ ds) s.listed.built_in in
    let user : All IsUserName ds = s.listed.user in
    let few : length (user_chains t.chains) ≤ 1024 = s.few in
    let fewer : 0 + length ds ≤ 1024 = omega (arith, few, users_by_names t.chains, users_from 3 ns user, ap (λ (xs : List (List ℕ)). length xs) names) in
    ap (λ (es : List Edit). steps (es ++ rest) empty_table) (makings_by_name t t.chains ∙ ap (λ (xs : List (List ℕ)). map (making_of ps) xs) names)
    ∙ policies_made ps (map (making_of ps) ds ++ rest) s.policies
    ∙ ap (λ (es : List Edit). steps (es ++ rest) (bare_table ps built_in_names)) (user_makings ps ds user)
    ∙ chains_made ps built_in_names ds rest user (rising_from ds s.listed.order) (λ k d lt. (refl, (refl, (refl, tt)))) fewer
    ∙ ap (λ (cs : List Chain). steps rest (record { policies = ps; chains = cs })) (ap (λ (xs : List (List ℕ)). map empty_chain xs) (sym names) ∙ emptied_by_name t.chains)
    ∙ chains_filled t s [] t.chains refl
