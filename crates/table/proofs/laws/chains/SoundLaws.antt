-- Paths from chain to chain: the first table is sound, and a rule that is let in closes no loop.
use Rattle.std.proofs.Common.{◌≡◌, ◌⊎◌, inl, inr, ℕ, zero, suc, ◌<◌, ◌≤◌, Bool, true, List, [], ◌∷◌, length, get_or, refl, sym, ◌∙◌, ap, arith, subst, Option, Some, None, Contains, false, map, codes, ◌≢◌, IsSome, unwrap_or, All}
use Rattle.std.specs.Prelude.{slice_index_or, count_by}
use Rattle.std.specs.List.{list_any}
use Rattle.std.specs.Str.{bytes_eq}
use Rattle.std.proofs.lemmas.Bool.{cases_Bool, cond-false, false≢true, or_cases, or_left, or_right, cond-true, cases_eq}
use Rattle.std.proofs.lemmas.List.{length-map}
use Rattle.std.proofs.lemmas.Slice.Eq.{bytes_eq-Decides}
use Rattle.std.proofs.lemmas.Option.{same_Some, none-some}
use Rattle.std.proofs.lemmas.List.Elements.{All-nil}
use Rattle.rules.specs.rule.Rules.{Rule}
use Rattle.table.specs.chains.Table.{Chain, names_of, rules_of, chain_named_by, Table, built_in_names, empty_chain, empty_table, is_named, emptied, Policy}
use Rattle.table.specs.edits.Edits.{leads_from, leads_within, leads, changed_chain, changed}
use Rattle.table.specs.chains.Sound.{Names, Path, Leads, LeadsByPaths, HasNoLoop, IsSoundChain, IsSound}
use Rattle.table.specs.steps.Kept.{blank, slot_at, stored_at, listed, listed_at, listed_stored, leading, leading_in, IsIn, IsLinked, IsKept, IsUnmarked}
use Rattle.table.specs.steps.StoredChains.{StoredChain, leads_to, IsClassified}
use Rattle.table.specs.declared.chain.entry.Entry.{Entry}

-- ---- The test whether a path leads from one chain to another says what paths say.

pub step_on : (cs : List Chain) (a b c : List ℕ) → Names cs a b → Leads cs b c → Leads cs a c
step_on cs a b c e q = (suc q.0, (b, e, q.1))

any_found : (f : Rule → Bool) (rs : List Rule) → list_any f rs ≡ true → (r : Rule) × Contains rs r × (f r ≡ true)
any_found f [] h = absurd (false≢true h)
any_found f (x ∷ rs) h =
    elim (or_cases (f x) (list_any f rs) h) [
      | inl here ↦ (x, (0, omega arith, refl), here)
      | inr there ↦ (let r = any_found f rs there in (r.0, (suc r.1.0, omega (arith, r.1.1), r.1.2), r.2))
    ]

any_from : (f : Rule → Bool) (rs : List Rule) (r : Rule) (k : ℕ) → k < length rs → get_or rs k r ≡ r → f r ≡ true → list_any f rs ≡ true
any_from f [] r k lt is h = absurd (omega arith)
any_from f (x ∷ rs) r zero lt is h = or_left (f x) (list_any f rs) (ap f is ∙ h)
any_from f (x ∷ rs) r (suc k) lt is h = or_right (f x) (list_any f rs) (any_from f rs r k (omega arith) is h)

by_found : (f : List ℕ → Bool) (o : Option (List ℕ)) → leads_from f o ≡ true → (n : List ℕ) × (o ≡ Some n) × (f n ≡ true)
by_found f None h = absurd (false≢true h)
by_found f (Some n) h = (n, refl, h)

leads_sound : (n : ℕ) (cs : List Chain) (a b : List ℕ) → leads_within n cs a b ≡ true → Leads cs a b
unfolding leads_within
leads_sound zero cs a b h = (0, (bytes_eq-Decides a b).0 h)
leads_sound (suc n) cs a b h =
    elim (or_cases (bytes_eq a b) _ h) [
      | inl e ↦ (0, (bytes_eq-Decides a b).0 e)
      | inr s ↦ (
          let r = any_found (λ r. leads_from (λ x. leads_within n cs x b) (chain_named_by r)) (rules_of cs a) s in
          let t = by_found (λ x. leads_within n cs x b) (chain_named_by r.0) r.2 in
          step_on cs a t.0 b (r.0, r.1, t.1) (leads_sound n cs t.0 b t.2))
    ]

leads_path : (n k : ℕ) (cs : List Chain) (a b : List ℕ) → k ≤ n → Path cs k a b → leads_within n cs a b ≡ true
unfolding leads_within
leads_path zero zero cs a b le p = (bytes_eq-Decides a b).1 p
leads_path (suc n) zero cs a b le p = or_left (bytes_eq a b) _ ((bytes_eq-Decides a b).1 p)
leads_path zero (suc k) cs a b le p = absurd (omega arith)
leads_path (suc n) (suc k) cs a b le p =
    or_right (bytes_eq a b) _ (any_from (λ r. leads_from (λ x. leads_within n cs x b) (chain_named_by r)) (rules_of cs a) p.1.0 p.1.1.0 p.1.1.1 p.1.1.2
    (ap (leads_from (λ x. leads_within n cs x b)) p.1.2 ∙ leads_path n k cs p.0 b (omega arith) p.2))

-- Lists whose elements all differ

abbrev pub Mem : {X : Type 0} → X → List X → Type 0
Mem x [] = ⊥
Mem x (y ∷ ys) = (x ≡ y) ⊎ Mem x ys

abbrev pub Differing : {X : Type 0} → List X → Type 0
Differing [] = Unit {0}
Differing (x ∷ xs) = (Mem x xs → ⊥) × Differing xs

take_out : {X : Type 0} (x : X) (ys : List X) → Mem x ys → (zs : List X) × (length ys ≡ suc (length zs)) × ((y : X) → (y ≡ x → ⊥) → Mem y ys → Mem y zs)
take_out x [] h = absurd h
take_out x (z ∷ ys) (inl e) = (ys, refl, λ y ne m. elim m [ inl q ↦ absurd (ne (q ∙ sym e)) | inr s ↦ s ])
take_out x (z ∷ ys) (inr h) =
    let r = take_out x ys h in
    (z ∷ r.0, ap suc r.1, λ y ne m. elim m [ inl q ↦ inl q | inr s ↦ inr (r.2 y ne s) ])

-- no more than there are to be among
pub pigeon : {X : Type 0} (xs ys : List X) → Differing xs → ((x : X) → Mem x xs → Mem x ys) → length xs ≤ length ys
pigeon {X} [] ys d h = omega arith
pigeon {X} (x ∷ xs) ys d h =
    let r = take_out x ys (h x (inl refl)) in
    let le : length xs ≤ length r.0 = pigeon xs r.0 d.1 (λ y m. r.2 y (λ e. d.0 (let P : X → Type 0 = λ z. Mem z xs in subst P e m)) (h y (inr m))) in
    omega (arith, r.1, le)

-- The chains that a path leaves

abbrev nodes : (cs : List Chain) (n : ℕ) (a b : List ℕ) → Path cs n a b → List (List ℕ)
nodes cs zero a b p = []
nodes cs (suc n) a b p = a ∷ nodes cs n p.0 b p.2

length-nodes : (cs : List Chain) (n : ℕ) (a b : List ℕ) (p : Path cs n a b) → length (nodes cs n a b p) ≡ n
length-nodes cs zero a b p = refl
length-nodes cs (suc n) a b p = ap suc (length-nodes cs n p.0 b p.2)

node_reached : (cs : List Chain) (n : ℕ) (a b : List ℕ) (p : Path cs n a b) (x : List ℕ) → Mem x (nodes cs n a b p) → Leads cs a x
node_reached cs zero a b p x m = absurd m
node_reached cs (suc n) a b p x (inl e) = (0, sym e)
node_reached cs (suc n) a b p x (inr m) = step_on cs a p.0 x p.1 (node_reached cs n p.0 b p.2 x m)

nodes_differ : (cs : List Chain) (n : ℕ) (a b : List ℕ) (p : Path cs n a b) → HasNoLoop cs → Differing (nodes cs n a b p)
nodes_differ cs zero a b p ac = tt
nodes_differ cs (suc n) a b p ac =
    (λ m. let l : Leads cs p.0 a = node_reached cs n p.0 b p.2 a m in ac l.0 a (p.0, p.1, l.1), nodes_differ cs n p.0 b p.2 ac)

pub chain_mem : (cs : List Chain) (a : List ℕ) (k : ℕ) → k < length (rules_of cs a) → Mem a (names_of cs)
chain_mem [] a k lt = absurd (omega arith)
chain_mem (c ∷ cs) a k lt =
    elim (cases_Bool (bytes_eq c.name a)) [
      | inl here ↦ inl (sym ((bytes_eq-Decides c.name a).0 here))
      | inr un ↦ (let P : List Rule → Type 0 = λ (rs : List Rule). k < length rs in inr (chain_mem cs a k (subst P (cond-false (bytes_eq c.name a) _ _ un) lt)))
    ]

nodes_mem : (cs : List Chain) (n : ℕ) (a b : List ℕ) (p : Path cs n a b) (x : List ℕ) → Mem x (nodes cs n a b p) → Mem x (names_of cs)
nodes_mem cs zero a b p x m = absurd m
nodes_mem cs (suc n) a b p x (inl e) = let P : List ℕ → Type 0 = λ y. Mem y (names_of cs) in subst P (sym e) (chain_mem cs a p.1.1.0 p.1.1.1)
nodes_mem cs (suc n) a b p x (inr m) = nodes_mem cs n p.0 b p.2 x m

path_short : (cs : List Chain) (n : ℕ) (a b : List ℕ) → HasNoLoop cs → Path cs n a b → n ≤ length cs
path_short cs n a b ac p =
    let le : length (nodes cs n a b p) ≤ length (names_of cs) = pigeon (nodes cs n a b p) (names_of cs) (nodes_differ cs n a b p ac) (nodes_mem cs n a b p) in
    omega (arith, le, length-nodes cs n a b p, length-map cs (λ (c : Chain). c.name))

-- the test is the relation
pub leads_is_path : (cs : List Chain) (a b : List ℕ) → leads cs a b ≡ true → Leads cs a b
leads_is_path cs a b h = leads_sound (length cs) cs a b h

pub path_is_led : (cs : List Chain) (a b : List ℕ) → HasNoLoop cs → Leads cs a b → leads cs a b ≡ true
path_is_led cs a b ac p = leads_path (length cs) p.0 cs a b (path_short cs p.0 a b ac p.1) p.1

pub leads_by_paths : (cs : List Chain) → HasNoLoop cs → LeadsByPaths cs
leads_by_paths cs ac from to = (leads_is_path cs from to, path_is_led cs from to ac)

-- ---- The first table is sound, and a rule that is let in closes no loop.

-- The first table

empty_sound_chain : (t : Table) (name : List ℕ) → IsSoundChain (emptied t) (empty_chain name)
empty_sound_chain t name = record { rules = λ k d lt. absurd (omega arith); few = omega arith }

empty_sound_chains : (t : Table) (k : ℕ) (d : Chain) → k < 3 → IsSoundChain (emptied t) (slice_index_or empty_table.chains k d)
empty_sound_chains t zero d lt = empty_sound_chain t (codes "INPUT")
empty_sound_chains t (suc zero) d lt = empty_sound_chain t (codes "FORWARD")
empty_sound_chains t (suc (suc zero)) d lt = empty_sound_chain t (codes "OUTPUT")
empty_sound_chains t (suc (suc (suc k))) d lt = absurd (omega arith)

no_rules : (names : List (List ℕ)) (a : List ℕ) → length (rules_of (map empty_chain names) a) ≡ 0
no_rules [] a = refl
no_rules (n ∷ ns) a =
    elim (cases_Bool (is_named a (empty_chain n))) [
      | inl here ↦ ap (λ (rs : List Rule). length rs) (cond-true (is_named a (empty_chain n)) _ _ here)
      | inr un ↦ ap (λ (rs : List Rule). length rs) (cond-false (is_named a (empty_chain n)) _ _ un) ∙ no_rules ns a
    ]

pub empty_sound : (t : Table) → length t.policies ≡ 3 → IsSound (emptied t)
empty_sound t three = record {
  policies = three;
  listed = record { built_in = refl; user = λ k d lt. absurd (omega arith); order = λ i j d below lt. absurd (omega arith) };
  chains = λ k d lt. empty_sound_chains t k d lt;
  no_loop = λ n a p. absurd (let e = no_rules built_in_names a in omega (arith, e, p.1.1.1));
  few = omega arith;
}

-- A rule put into a chain

path_append : (cs : List Chain) (m n : ℕ) (a b c : List ℕ) → Path cs m a b → Path cs n b c → Leads cs a c
path_append cs zero n a b c p q = (n, let P : List ℕ → Type 0 = λ x. Path cs n x c in subst P (sym p) q)
path_append cs (suc m) n a b c p q = let r = path_append cs m n p.0 b c p.2 q in (suc r.0, (p.0, p.1, r.1))

abbrev leads_append : (cs : List Chain) (a b c : List ℕ) → Leads cs a b → Leads cs b c → Leads cs a c
leads_append cs a b c p q = path_append cs p.0 q.0 a b c p.1 q.1

-- from the old names and one more, of c to n
abbrev pub OneMore : List Chain → List Chain → List ℕ → Option (List ℕ) → Type 0
OneMore old new c o = (a b : List ℕ) → Names new a b → Names old a b ⊎ ((a ≡ c) × (o ≡ Some b))

path_more : (old new : List Chain) (c n : List ℕ) → OneMore old new c (Some n) → (k : ℕ) (a b : List ℕ) → Path new k a b → Leads old a b ⊎ (Leads old a c × Leads old n b)
path_more old new c n h zero a b p = inl (0, p)
path_more old new c n h (suc k) a b p =
    elim (path_more old new c n h k p.0 b p.2) [
      | inl rest ↦ elim (h a p.0 p.1) [
        | inl e ↦ inl (step_on old a p.0 b e rest)
        | inr e ↦ inr ((0, e.0), let P : List ℕ → Type 0 = λ x. Leads old x b in subst P (sym (same_Some _ _ e.1)) rest)
      ]
      | inr rest ↦ elim (h a p.0 p.1) [
        | inl e ↦ inr (step_on old a p.0 c e rest.0, rest.1)
        | inr e ↦ inr ((0, e.0), rest.1)
      ]
    ]

-- none comes back, if none leads from the new target to its chain
no_more_loops : (old new : List Chain) (c n : List ℕ) → OneMore old new c (Some n) → (Leads old n c → ⊥) → HasNoLoop old → HasNoLoop new
no_more_loops old new c n h un loops k a p =
    elim (path_more old new c n h k p.0 a p.2) [
      | inl rest ↦ elim (h a p.0 p.1) [
        | inl e ↦ loops rest.0 a (p.0, e, rest.1)
        | inr e ↦ un (let P : List ℕ → Type 0 = λ x. Leads old x a in let Q : List ℕ → Type 0 = λ x. Leads old n x in subst Q e.0 (subst P (sym (same_Some _ _ e.1)) rest))
      ]
      | inr rest ↦ elim (h a p.0 p.1) [
        | inl e ↦ un (leads_append old n a c rest.1 (step_on old a p.0 c e rest.0))
        | inr e ↦ un (let Q : List ℕ → Type 0 = λ x. Leads old n x in subst Q e.0 rest.1)
      ]
    ]

pub path_fewer : (old new : List Chain) (c : List ℕ) → OneMore old new c None → (n : ℕ) (a b : List ℕ) → Path new n a b → Path old n a b
path_fewer old new c h zero a b p = p
path_fewer old new c h (suc n) a b p = elim (h a p.0 p.1) [ inl e ↦ (p.0, e, path_fewer old new c h n p.0 b p.2) | inr e ↦ absurd (none-some _ e.1) ]

-- a rule of a changed chain is one of the old, or comes of the change
changed_rule : (f : List Rule → List Rule) (c : List ℕ) (cs : List Chain) (a : List ℕ) (r : Rule) → Contains (rules_of (map (changed_chain f c) cs) a) r
    → Contains (rules_of cs a) r ⊎ ((a ≡ c) × Contains (f (rules_of cs c)) r)
changed_rule f c [] a r h = absurd (omega (arith, h.1))
changed_rule f c (x ∷ cs) a r h =
    elim (cases_Bool (is_named c x)) [
      | inl own ↦ (
          let y : Chain = record { name = x.name; rules = f x.rules } in
          let P : Chain → Type 0 = λ z. Contains (rules_of (z ∷ map (changed_chain f c) cs) a) r in
          let now : Contains (rules_of (y ∷ map (changed_chain f c) cs) a) r = subst P (cond-true (is_named c x) _ _ own) h in
          let Q : List Rule → Type 0 = λ (rs : List Rule). Contains rs r in
          elim (cases_Bool (is_named a x)) [
            | inl here ↦ inr (
              sym ((bytes_eq-Decides x.name a).0 here) ∙ (bytes_eq-Decides x.name c).0 own,
              let g : Contains (f x.rules) r = subst Q (cond-true (is_named a x) _ _ here) now in subst Q (ap f (sym (cond-true (is_named c x) _ _ own))) g,
            )
            | inr un ↦ elim (changed_rule f c cs a r (subst Q (cond-false (is_named a x) _ _ un) now)) [
              | inl old ↦ inl (subst Q (sym (cond-false (is_named a x) _ _ un)) old)
              | inr new ↦ absurd (false≢true (sym un ∙ ap (bytes_eq x.name) new.0 ∙ own))
            ]
          ])
      | inr other ↦ (
          let P : Chain → Type 0 = λ z. Contains (rules_of (z ∷ map (changed_chain f c) cs) a) r in
          let now : Contains (rules_of (x ∷ map (changed_chain f c) cs) a) r = subst P (cond-false (is_named c x) _ _ other) h in
          let Q : List Rule → Type 0 = λ (rs : List Rule). Contains rs r in
          elim (cases_Bool (is_named a x)) [
            | inl here ↦ inl (subst Q (sym (cond-true (is_named a x) _ _ here)) (subst Q (cond-true (is_named a x) _ _ here) now))
            | inr un ↦ elim (changed_rule f c cs a r (subst Q (cond-false (is_named a x) _ _ un) now)) [
              | inl old ↦ inl (subst Q (sym (cond-false (is_named a x) _ _ un)) old)
              | inr new ↦ inr (new.0, subst Q (ap f (sym (cond-false (is_named c x) _ _ other))) new.1)
            ]
          ])
    ]

one_more_name : (t : Table) (c : List ℕ) (r : Rule) (f : List Rule → List Rule) → ((x : Rule) → Contains (f (rules_of t.chains c)) x → Contains (rules_of t.chains c) x ⊎ (x ≡ r))
    → OneMore t.chains (changed f c t).chains c (chain_named_by r)
one_more_name t c r f new a b e =
    elim (changed_rule f c t.chains a e.0 e.1) [
      | inl old ↦ inl (e.0, old, e.2)
      | inr come ↦ elim (new e.0 come.1) [
        | inl old ↦ inl (e.0, (let Q : List ℕ → Type 0 = λ x. Contains (rules_of t.chains x) e.0 in subst Q (sym come.0) old), e.2)
        | inr same ↦ inr (come.0, sym (ap chain_named_by same) ∙ e.2)
      ]
    ]

put_by : (t : Table) (c : List ℕ) (f : List Rule → List Rule) (o : Option (List ℕ)) → OneMore t.chains (changed f c t).chains c o → ((name : List ℕ) → o ≡ Some name → leads t.chains name c ≡ false)
    → HasNoLoop t.chains → HasNoLoop (changed f c t).chains
put_by t c f None more led loops n a p = loops n a (path_fewer t.chains (changed f c t).chains c more (suc n) a a p)
put_by t c f (Some name) more led loops n a p =
    no_more_loops t.chains (changed f c t).chains c name more (λ l. false≢true (sym (led name refl) ∙ path_is_led t.chains name c loops l)) loops n a p

-- a rule that the loop check lets in closes no loop, wherever it comes to stand in its chain
pub put_no_loop : (t : Table) (c : List ℕ) (r : Rule) (f : List Rule → List Rule) → ((x : Rule) → Contains (f (rules_of t.chains c)) x → Contains (rules_of t.chains c) x ⊎ (x ≡ r))
    → ((name : List ℕ) → chain_named_by r ≡ Some name → leads t.chains name c ≡ false) → HasNoLoop t.chains → HasNoLoop (changed f c t).chains
put_no_loop t c r f new led loops = put_by t c f (chain_named_by r) (one_more_name t c r f new) led loops

fewer_names : (t : Table) (c : List ℕ) (f : List Rule → List Rule) → ((x : Rule) → Contains (f (rules_of t.chains c)) x → Contains (rules_of t.chains c) x) → OneMore t.chains (changed f c t).chains c None
fewer_names t c f old a b e =
    elim (changed_rule f c t.chains a e.0 e.1) [
      | inl before ↦ inl (e.0, before, e.2)
      | inr come ↦ inl (e.0, (let Q : List ℕ → Type 0 = λ x. Contains (rules_of t.chains x) e.0 in subst Q (sym come.0) (old e.0 come.1)), e.2)
    ]

-- rules that go close no loop
pub take_no_loop : (t : Table) (c : List ℕ) (f : List Rule → List Rule) → ((x : Rule) → Contains (f (rules_of t.chains c)) x → Contains (rules_of t.chains c) x) → HasNoLoop t.chains → HasNoLoop (changed f c t).chains
take_no_loop t c f old loops = put_by t c f None (fewer_names t c f old) (λ name e. absurd (none-some _ e)) loops

-- ---- The first table.

-- a chain without rules
pub record IsBare (stored_chain : StoredChain) (name : List ℕ) : Type 0 where
  pub named : stored_chain.name ≡ name
  pub entries : stored_chain.entries ≡ []
  pub classified : IsClassified stored_chain
  pub references : stored_chain.references ≡ 0

-- three slots one after another
pub record Three (s1 s2 s3 : List (Option StoredChain)) (a b c : ℕ) (ra rb rc : StoredChain) : Type 0 where
  pub first : slot_at s1 a ≡ Some ra
  pub others1 : (k : ℕ) → k ≢ a → slot_at s1 k ≡ None
  pub free2 : slot_at s1 b ≡ None
  pub second : slot_at s2 b ≡ Some rb
  pub others2 : (k : ℕ) → k ≢ b → slot_at s2 k ≡ slot_at s1 k
  pub free3 : slot_at s2 c ≡ None
  pub third : slot_at s3 c ≡ Some rc
  pub others3 : (k : ℕ) → k ≢ c → slot_at s3 k ≡ slot_at s2 k
  pub input : IsBare ra (codes "INPUT")
  pub forward : IsBare rb (codes "FORWARD")
  pub output : IsBare rc (codes "OUTPUT")

module _ (s1 s2 s3 : List (Option StoredChain)) (a b c : ℕ) (ra rb rc : StoredChain) (t : Three s1 s2 s3 a b c ra rb rc) where
  ab : a ≢ b
  ab e = let z : Some ra ≡ None = sym t.first ∙ ap (slot_at s1) e ∙ t.free2 in cc

  second_a : slot_at s2 a ≡ Some ra
  second_a = t.others2 a ab ∙ t.first

  ac : a ≢ c
  ac e = let z : Some ra ≡ None = sym second_a ∙ ap (slot_at s2) e ∙ t.free3 in cc

  bc : b ≢ c
  bc e = let z : Some rb ≡ None = sym t.second ∙ ap (slot_at s2) e ∙ t.free3 in cc

  at_a : slot_at s3 a ≡ Some ra
  at_a = t.others3 a ac ∙ second_a

  at_b : slot_at s3 b ≡ Some rb
  at_b = t.others3 b bc ∙ t.second

  -- what lies under a key
  under : (k : ℕ) (stored_chain : StoredChain) → slot_at s3 k ≡ Some stored_chain → stored_at s3 k ≡ stored_chain
  under k stored_chain e = ap (λ (o : Option StoredChain). unwrap_or o blank) e

  keys : List ℕ
  keys = a ∷ b ∷ c ∷ []

  -- what holds of the three holds of each
  each : (P : ℕ → Type 0) → P a → P b → P c → (i : ℕ) → i < 3 → P (get_or (a ∷ b ∷ c ∷ []) i 0)
  each P pa pb pc zero lt = pa
  each P pa pb pc (suc zero) lt = pb
  each P pa pb pc (suc (suc zero)) lt = pc
  each P pa pb pc (suc (suc (suc i))) lt = absurd (omega (arith, lt))

  -- no other key has a chain
  only_three : (k : ℕ) → IsSome (slot_at s3 k) → IsIn (a ∷ b ∷ c ∷ []) k
  only_three k there =
      let O : Option StoredChain → Type 0 = λ (o : Option StoredChain). IsSome o in
      elim (cases_eq k c) [
        | inl q ↦ (2, omega arith, sym q)
        | inr nc ↦ elim (cases_eq k b) [
          | inl q ↦ (1, omega arith, sym q)
          | inr nb ↦ elim (cases_eq k a) [
            | inl q ↦ (0, omega arith, sym q)
            | inr na ↦ absurd (false≢true (subst O (t.others3 k nc ∙ t.others2 k nb ∙ t.others1 k na) there))
          ]
        ]
      ]

  empty_at : (k : ℕ) (stored_chain : StoredChain) (name : List ℕ) → slot_at s3 k ≡ Some stored_chain → IsBare stored_chain name → (stored_at s3 k).entries ≡ []
  empty_at k stored_chain name e bare = ap (λ (r : StoredChain). r.entries) (under k stored_chain e) ∙ bare.entries

  three_apart : (i j : ℕ) → i < 3 → j < 3 → get_or (a ∷ b ∷ c ∷ []) i 0 ≡ get_or (a ∷ b ∷ c ∷ []) j 0 → i ≡ j
  three_apart zero zero li lj e = refl
  three_apart zero (suc zero) li lj e = absurd (ab e)
  three_apart zero (suc (suc zero)) li lj e = absurd (ac e)
  three_apart (suc zero) zero li lj e = absurd (ab (sym e))
  three_apart (suc zero) (suc zero) li lj e = refl
  three_apart (suc zero) (suc (suc zero)) li lj e = absurd (bc e)
  three_apart (suc (suc zero)) zero li lj e = absurd (ac (sym e))
  three_apart (suc (suc zero)) (suc zero) li lj e = absurd (bc (sym e))
  three_apart (suc (suc zero)) (suc (suc zero)) li lj e = refl
  three_apart (suc (suc (suc i))) j li lj e = absurd (omega (arith, li))
  three_apart i (suc (suc (suc j))) li lj e = absurd (omega (arith, lj))

  shown_as : (k : ℕ) (stored_chain : StoredChain) (name : List ℕ) → slot_at s3 k ≡ Some stored_chain → IsBare stored_chain name → listed_at s3 k ≡ empty_chain name
  shown_as k stored_chain name e bare = ap listed_stored (under k stored_chain e) ∙ (λ i. record { name = bare.named i; rules = map (λ (x : Entry). x.rule) (bare.entries i) })

  pub listed_three : listed s3 (a ∷ b ∷ c ∷ []) ≡ empty_table.chains
  listed_three = λ i. shown_as a ra (codes "INPUT") at_a t.input i ∷ shown_as b rb (codes "FORWARD") at_b t.forward i ∷ shown_as c rc (codes "OUTPUT") t.third t.output i ∷ []

  none_leads : (k j : ℕ) (stored_chain : StoredChain) (name : List ℕ) → slot_at s3 j ≡ Some stored_chain → IsBare stored_chain name → leading_in k (stored_at s3 j) ≡ 0
  none_leads k j stored_chain name e bare = ap (λ (es : List Entry). count_by (λ (x : Entry). leads_to k x.flow) es) (empty_at j stored_chain name e bare)

  nothing_leads : (k : ℕ) → leading s3 (a ∷ b ∷ c ∷ []) k ≡ 0
  nothing_leads k = omega (arith, none_leads k a ra (codes "INPUT") at_a t.input, none_leads k b rb (codes "FORWARD") at_b t.forward, none_leads k c rc (codes "OUTPUT") t.third t.output)

  counted_at : (k : ℕ) (stored_chain : StoredChain) (name : List ℕ) → slot_at s3 k ≡ Some stored_chain → IsBare stored_chain name → (stored_at s3 k).references ≡ leading s3 (a ∷ b ∷ c ∷ []) k
  counted_at k stored_chain name e bare = ap (λ (r : StoredChain). r.references) (under k stored_chain e) ∙ bare.references ∙ sym (nothing_leads k)

  pub whole_three : (ps : List Policy) (order : List ℕ) (seen : List Bool) → length ps ≡ 3 → order ≡ a ∷ b ∷ c ∷ [] → ((k : ℕ) → get_or seen k false ≡ false) → a < length seen → b < length seen → c < length seen → IsKept ps s3 order × IsUnmarked order seen
  whole_three ps order seen three_policies is clear an bn cn =
      let P : List ℕ → Type 0 = λ ks. IsKept ps s3 ks × IsUnmarked ks seen in
      let S : ℕ → Type 0 = λ k. IsSome (slot_at s3 k) in
      let O : Option StoredChain → Type 0 = λ (o : Option StoredChain). IsSome o in
      let three : List ℕ = a ∷ b ∷ c ∷ [] in
      let L : ℕ → Type 0 = λ k. All (IsLinked s3 three) (stored_at s3 k).entries in
      let E : List Entry → Type 0 = λ (es : List Entry). All (IsLinked s3 three) es in
      let C : ℕ → Type 0 = λ k. IsClassified (stored_at s3 k) in
      let R : ℕ → Type 0 = λ k. (stored_at s3 k).references ≡ leading s3 three k in
      let T : List Chain → Type 0 = λ (cs : List Chain). IsSound (record { policies = ps; chains = cs }) in
      let none : (k : ℕ) (stored_chain : StoredChain) (name : List ℕ) → slot_at s3 k ≡ Some stored_chain → IsBare stored_chain name → L k = λ k stored_chain name e bare. subst E (sym (empty_at k stored_chain name e bare)) (All-nil (IsLinked s3 three)) in
      let right : (k : ℕ) (stored_chain : StoredChain) (name : List ℕ) → slot_at s3 k ≡ Some stored_chain → IsBare stored_chain name → C k = λ k stored_chain name e bare. subst IsClassified (sym (under k stored_chain e)) bare.classified in
      subst P (sym is) (
        record {
          stored = record {
            present = each S (subst O (sym at_a) refl) (subst O (sym at_b) refl) (subst O (sym t.third) refl);
            no_more = only_three;
            apart = three_apart;
            linked = each L (none a ra (codes "INPUT") at_a t.input) (none b rb (codes "FORWARD") at_b t.forward) (none c rc (codes "OUTPUT") t.third t.output);
            classified = each C (right a ra (codes "INPUT") at_a t.input) (right b rb (codes "FORWARD") at_b t.forward) (right c rc (codes "OUTPUT") t.third t.output);
            sound = subst T (sym listed_three) (empty_sound (record { policies = ps; chains = [] }) three_policies);
          };
          counted = each R (counted_at a ra (codes "INPUT") at_a t.input) (counted_at b rb (codes "FORWARD") at_b t.forward) (counted_at c rc (codes "OUTPUT") t.third t.output);
        },
        record {
          within = λ k inn. (
              let W : ℕ → Type 0 = λ x. x < length seen in
              subst W inn.2 (each W an bn cn inn.0 inn.1));
          clear = clear;
        },
      )
