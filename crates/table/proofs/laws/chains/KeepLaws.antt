-- Edits of one chain's rules lead from sound tables to sound tables.
use Rattle.std.proofs.Common.{◌≡◌, ◌⊎◌, inl, inr, ℕ, zero, suc, ◌<◌, ◌≤◌, Bool, true, false, ◌||◌, not, List, [], ◌∷◌, length, get_or, take, map, refl, sym, ◌∙◌, ap, arith, subst, Some, Contains, Ordering, codes}
use Rattle.std.specs.Prelude.{All, AllPairs, filter, IsTrue}
use Rattle.std.specs.List.{list_any}
use Rattle.std.specs.Str.{bytes_eq}
use Rattle.std.specs.Ordering.{is_eq, is_lt, nat_cmp}
use Rattle.std.specs.declared.cmp.Ordering.TheVariants.{Less, Equal, Greater}
use Rattle.std.specs.Cmp.Lexicographic.{slice_cmp}
use Rattle.std.proofs.lemmas.Bool.{cases_Bool, cond-true, cond-false, false≢true}
use Rattle.std.proofs.lemmas.List.Elements.{All-map, All-weaker, All-contains, All-contains_itself}
use Rattle.std.proofs.lemmas.Map.Text.{is_eq-slice_cmp}
use Rattle.std.proofs.lemmas.Slice.Eq.{bytes_eq-Decides}
use Rattle.rules.specs.rule.Rules.{Rule}
use Rattle.table.specs.chains.Table.{Chain, Table, names_of, built_in_names, is_built_in, is_named, is_user, user_chains, comes_before, rules_of, chain_named_by}
use Rattle.table.specs.edits.Edits.{leads, changed_chain, changed}
use Rattle.table.specs.chains.Sound.{HasNoLoop, IsTarget, MayStand, IsSoundChain, IsUserName, AreListed, IsSound}
use Rattle.table.proofs.laws.chains.SoundLaws.{Mem, Differing, put_no_loop, take_no_loop}

-- Names stay

name_changed : (f : List Rule → List Rule) (c : List ℕ) (x : Chain) → (changed_chain f c x).name ≡ x.name
name_changed f c x =
    elim (cases_Bool (is_named c x)) [
      | inl own ↦ ap (λ (z : Chain). z.name) (cond-true (is_named c x) _ _ own)
      | inr other ↦ ap (λ (z : Chain). z.name) (cond-false (is_named c x) _ _ other)
    ]

pub names_changed : (f : List Rule → List Rule) (c : List ℕ) (cs : List Chain) → names_of (map (changed_chain f c) cs) ≡ names_of cs
names_changed f c [] = refl
names_changed f c (x ∷ cs) = λ i. name_changed f c x i ∷ names_changed f c cs i

pub has_by_names : (n : List ℕ) (cs : List Chain) → list_any (is_named n) cs ≡ list_any (λ x. bytes_eq x n) (names_of cs)
has_by_names n [] = refl
has_by_names n (x ∷ cs) = ap (λ b. bytes_eq x.name n || b) (has_by_names n cs)

abbrev pub is_user_name : List ℕ → Bool
is_user_name n = not (is_built_in n)

pub users_by_names : (cs : List Chain) → length (user_chains cs) ≡ length (filter is_user_name (names_of cs))
users_by_names [] = refl
users_by_names (x ∷ cs) =
    elim (cases_Bool (is_user x)) [
      | inl u ↦ ap (λ (xs : List Chain). length xs) (cond-true (is_user x) _ _ u) ∙ ap suc (users_by_names cs) ∙ sym (ap (λ (xs : List (List ℕ)). length xs) (cond-true (is_user x) _ _ u))
      | inr un ↦ ap (λ (xs : List Chain). length xs) (cond-false (is_user x) _ _ un) ∙ users_by_names cs ∙ sym (ap (λ (xs : List (List ℕ)). length xs) (cond-false (is_user x) _ _ un))
    ]

pub may_keep : (t u : Table) (c : List ℕ) (r : Rule) → names_of u.chains ≡ names_of t.chains → MayStand t c r → MayStand u c r
may_keep t u c r same m =
    record {
      readable = m.readable;
      interface = m.interface;
      target = λ name e.
          (let h : IsTarget t name = m.target name e in
          record { there = has_by_names name u.chains ∙ ap (list_any (λ x. bytes_eq x name)) same ∙ sym (has_by_names name t.chains) ∙ h.there; user = h.user });
    }

-- The changed chain

changed_one : (t : Table) (c : List ℕ) (f : List Rule → List Rule) → IsSound t → ((x : Chain) → Contains t.chains x → x.name ≡ c → All (MayStand t c) (f x.rules) × (length (f x.rules) ≤ 8192))
    → (x : Chain) → Contains t.chains x → IsSoundChain (changed f c t) (changed_chain f c x)
changed_one t c f s new x at =
    let u : Table = changed f c t in
    let P : Chain → Type 0 = λ z. IsSoundChain u z in
    let same : names_of u.chains ≡ names_of t.chains = names_changed f c t.chains in
    elim (cases_Bool (is_named c x)) [
      | inl own ↦ (
          let e : x.name ≡ c = (bytes_eq-Decides x.name c).0 own in
          let n = new x at e in
          let Q : List ℕ → Type 0 = λ name. All (MayStand u name) (f x.rules) in
          let rules : All (MayStand u x.name) (f x.rules) = subst Q (sym e) (All-weaker (MayStand t c) (MayStand u c) (λ r m. may_keep t u c r same m) (f x.rules) n.0) in
          subst P (sym (cond-true (is_named c x) _ _ own)) (record { rules = rules; few = n.1 }))
      | inr other ↦ (
          let old : IsSoundChain t x = All-contains (IsSoundChain t) t.chains x s.chains at in
          let rules : All (MayStand u x.name) x.rules = All-weaker (MayStand t x.name) (MayStand u x.name) (λ r m. may_keep t u x.name r same m) x.rules old.rules in
          subst P (sym (cond-false (is_named c x) _ _ other)) (record { rules = rules; few = old.few }))
    ]

pub changed_sound : (t : Table) (c : List ℕ) (f : List Rule → List Rule) → IsSound t → ((x : Chain) → Contains t.chains x → x.name ≡ c → All (MayStand t c) (f x.rules) × (length (f x.rules) ≤ 8192)) → HasNoLoop (changed f c t).chains
    → IsSound (changed f c t)
changed_sound t c f s new loops =
    let u : Table = changed f c t in
    let same : names_of u.chains ≡ names_of t.chains = names_changed f c t.chains in
    record {
      policies = s.policies;
      listed = subst AreListed (sym same) s.listed;
      chains = All-map (IsSoundChain u) (changed_chain f c) t.chains (All-weaker (Contains t.chains) (λ x. IsSoundChain u (changed_chain f c x)) (changed_one t c f s new) t.chains (All-contains_itself t.chains));
      no_loop = loops;
      few = (let few : length (user_chains t.chains) ≤ 1024 = s.few in
          omega (arith, few, users_by_names u.chains, users_by_names t.chains, ap (λ (ns : List (List ℕ)). length (filter is_user_name ns)) same));
    }

-- A list with one more element, and a list with fewer

abbrev pub Brings : (List Rule → List Rule) → Rule → Type 1
Brings f r = (P : Rule → Type 0) (rs : List Rule) → All P rs → P r → All P (f rs)

abbrev pub Keeps : (List Rule → List Rule) → Type 1
Keeps f = (P : Rule → Type 0) (rs : List Rule) → All P rs → All P (f rs)

pub put_sound : (t : Table) (c : List ℕ) (r : Rule) (f : List Rule → List Rule) → Brings f r → ((x : Chain) → Contains t.chains x → x.name ≡ c → length (f x.rules) ≤ 8192) → MayStand t c r
    → ((name : List ℕ) → chain_named_by r ≡ Some name → leads t.chains name c ≡ false) → IsSound t → IsSound (changed f c t)
put_sound t c r f brings few may led s =
    let rs : List Rule = rules_of t.chains c in
    let P : Rule → Type 0 = λ (x : Rule). Contains rs x ⊎ (x ≡ r) in
    let from : All P (f rs) = brings P rs (All-weaker (Contains rs) P (λ x h. inl h) rs (All-contains_itself rs)) (inr refl) in
    changed_sound t c f s
    (λ x at e.
    (let own : IsSoundChain t x = All-contains (IsSoundChain t) t.chains x s.chains at in
    let Q : List ℕ → Type 0 = λ name. All (MayStand t name) x.rules in
    (brings (MayStand t c) x.rules (subst Q e own.rules) may, few x at e)))
    (put_no_loop t c r f (λ x h. All-contains P (f rs) x from h) led s.no_loop)

pub take_sound : (t : Table) (c : List ℕ) (f : List Rule → List Rule) → Keeps f → ((rs : List Rule) → length (f rs) ≤ length rs) → IsSound t → IsSound (changed f c t)
take_sound t c f keeps fewer s =
    let rs : List Rule = rules_of t.chains c in
    let from : All (Contains rs) (f rs) = keeps (Contains rs) rs (All-contains_itself rs) in
    changed_sound t c f s
    (λ x at e.
    (let own : IsSoundChain t x = All-contains (IsSoundChain t) t.chains x s.chains at in
    let Q : List ℕ → Type 0 = λ name. All (MayStand t name) x.rules in
    let few : length x.rules ≤ 8192 = own.few in
    (keeps (MayStand t c) x.rules (subst Q e own.rules), omega (arith, few, fewer x.rules))))
    (take_no_loop t c f (λ x h. All-contains (Contains rs) (f rs) x from h) s.no_loop)

-- No two chains have one name

pub not_before : (o : Ordering) → is_eq o ≡ true → is_lt o ≡ false
not_before Less e = absurd (false≢true e)
not_before Equal e = refl
not_before Greater e = refl

pub itself_not_before : (a : List ℕ) → comes_before a a ≡ false
itself_not_before a = not_before (slice_cmp nat_cmp a a) (is_eq-slice_cmp a a ∙ (bytes_eq-Decides a a).1 refl)

pub mem_at : (ns : List (List ℕ)) (x : List ℕ) → Mem x ns → (k : ℕ) × (k < length ns) × ((d : List ℕ) → get_or ns k d ≡ x)
mem_at [] x m = absurd m
mem_at (n ∷ ns) x (inl e) = (0, omega arith, λ d. sym e)
mem_at (n ∷ ns) x (inr m) = let r = mem_at ns x m in (suc r.0, omega (arith, r.1), r.2)

in_order_differ : (ns : List (List ℕ)) → AllPairs (λ a b. IsTrue (comes_before a b)) ns → Differing ns
in_order_differ [] h = tt
in_order_differ (n ∷ ns) h = (
  λ m.
      (let r = mem_at ns n m in
      let P : List ℕ → Type 0 = λ x. comes_before n x ≡ true in
      false≢true (sym (itself_not_before n) ∙ subst P (r.2 n) (h 0 (suc r.0) n (omega arith) (omega (arith, r.1))))),
  in_order_differ ns (λ i j d below lt. h (suc i) (suc j) d (omega arith) (omega arith)),
)

user_not_built_in : (ns : List (List ℕ)) (x : List ℕ) → All IsUserName ns → is_built_in x ≡ true → Mem x ns → ⊥
user_not_built_in ns x h b m =
    let r = mem_at ns x m in
    let u : IsUserName (get_or ns r.0 x) = h r.0 x r.1 in
    false≢true (sym u.other ∙ ap is_built_in (r.2 x) ∙ b)

pub head_same : (x y : List ℕ) (xs ys : List (List ℕ)) → x ∷ xs ≡ y ∷ ys → x ≡ y
head_same x y xs ys e = cc

pub tail_same : (x y : List ℕ) (xs ys : List (List ℕ)) → x ∷ xs ≡ y ∷ ys → xs ≡ ys
tail_same x y xs ys e = cc

pub front_long : (ns : List (List ℕ)) → take 3 ns ≡ built_in_names → length (take 3 ns) ≡ 3
front_long ns e = ap (λ (xs : List (List ℕ)). length xs) e

pub listed_differ : (ns : List (List ℕ)) → AreListed ns → Differing ns
listed_differ [] h = absurd (let e = front_long [] h.built_in in omega (arith, e))
listed_differ (a ∷ []) h = absurd (let e = front_long (a ∷ []) h.built_in in omega (arith, e))
listed_differ (a ∷ b ∷ []) h = absurd (let e = front_long (a ∷ b ∷ []) h.built_in in omega (arith, e))
listed_differ (a ∷ b ∷ c ∷ ns) h =
    let input : List ℕ = codes "INPUT" in
    let forward : List ℕ = codes "FORWARD" in
    let output : List ℕ = codes "OUTPUT" in
    let one : a ≡ input = head_same a input (b ∷ c ∷ []) (forward ∷ output ∷ []) h.built_in in
    let more = tail_same a input (b ∷ c ∷ []) (forward ∷ output ∷ []) h.built_in in
    let two : b ≡ forward = head_same b forward (c ∷ []) (output ∷ []) more in
    let three : c ≡ output = head_same c output [] [] (tail_same b forward (c ∷ []) (output ∷ []) more) in
    let P : List (List ℕ) → Type 0 = λ xs. Differing xs in
    let last : Differing (output ∷ ns) = (λ m. user_not_built_in ns output h.user refl m, in_order_differ ns h.order) in
    let two_on : Differing (forward ∷ output ∷ ns) = (λ m. elim m [ inl e ↦ false≢true (ap (bytes_eq output) e) | inr m3 ↦ user_not_built_in ns forward h.user refl m3 ], last) in
    let built : Differing (input ∷ forward ∷ output ∷ ns) = (
      λ m. elim m [
        | inl e ↦ false≢true (ap (bytes_eq forward) e)
        | inr m2 ↦ elim m2 [ inl e ↦ false≢true (ap (bytes_eq output) e) | inr m3 ↦ user_not_built_in ns input h.user refl m3 ]
      ],
      two_on,
    ) in
    subst P (λ i. sym one i ∷ sym two i ∷ sym three i ∷ ns) built

name_mem : (cs : List Chain) (x : Chain) (k : ℕ) → k < length cs → get_or cs k x ≡ x → Mem x.name (names_of cs)
name_mem [] x k lt is = absurd (omega arith)
name_mem (c ∷ cs) x zero lt is = inl (sym (ap (λ (z : Chain). z.name) is))
name_mem (c ∷ cs) x (suc k) lt is = inr (name_mem cs x k (omega arith) is)

own_rules : (cs : List Chain) (x : Chain) (k : ℕ) → Differing (names_of cs) → k < length cs → get_or cs k x ≡ x → rules_of cs x.name ≡ x.rules
own_rules [] x k d lt is = absurd (omega arith)
own_rules (c ∷ cs) x zero d lt is = cond-true (is_named x.name c) _ _ ((bytes_eq-Decides c.name x.name).1 (ap (λ (z : Chain). z.name) is)) ∙ ap (λ (z : Chain). z.rules) is
own_rules (c ∷ cs) x (suc k) d lt is =
    elim (cases_Bool (is_named x.name c)) [
      | inl here ↦ (
          let P : List ℕ → Type 0 = λ n. Mem n (names_of cs) in absurd (d.0 (subst P (sym ((bytes_eq-Decides c.name x.name).0 here)) (name_mem cs x k (omega arith) is))))
      | inr un ↦ cond-false (is_named x.name c) _ _ un ∙ own_rules cs x k d.1 (omega arith) is
    ]

-- the rules of a chain of a sound table are those of its name
pub rules_by_name : (t : Table) (x : Chain) → IsSound t → Contains t.chains x → rules_of t.chains x.name ≡ x.rules
rules_by_name t x s at = own_rules t.chains x at.0 (listed_differ (names_of t.chains) s.listed) at.1 at.2
