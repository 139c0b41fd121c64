-- A new chain in the index.
use Rattle.std.proofs.Common.{◌≡◌, ◌≢◌, ◌⊎◌, inl, inr, ℕ, zero, suc, ◌+◌, ◌-◌, ◌<◌, ◌≤◌, Bool, true, false, cond, ◌||◌, not, List, [], ◌∷◌, length, get_or, map, refl, sym, ◌∙◌, ap, arith, subst, Option, Some, None, IsSome, unwrap_or, All}
use Rattle.std.specs.Prelude.{count_by, insert, remove, filter, min, nat_le}
use Rattle.std.specs.List.{position}
use Rattle.fields.specs.values.Name.{name_of}
use Rattle.std.proofs.lemmas.Bool.{cases_Bool, cases_eq, cases_lt, cond-true, cond-false, false≢true, or_right, or_left, ne_eqb, le-leb, lt-leb}
use Rattle.std.proofs.lemmas.List.Edits.{get_or-insert_below, get_or-insert_at, get_or-insert_above, get_or-remove_above, get_or-remove_below, length-insert, length-remove}
use Rattle.std.proofs.lemmas.List.Elements.{All-nil, All-weaker}
use Rattle.std.proofs.lemmas.List.Sums.{sum_by-cons}
use Rattle.table.specs.chains.Sound.{IsSound}
use Rattle.table.specs.chains.Table.{Policy, Table, Chain, is_built_in, is_named, comes_before, empty_chain, user_chains, names_of, chain_named_by}
use Rattle.table.specs.edits.Edits.{Cause, NewChain, TooManyChains, bad_name, edited, exists_already, fault_of, placed}
use Rattle.table.specs.steps.StoredChains.{StoredChain, leads_to, is_key, key_in, rule_in, IsClassified}
use Rattle.table.specs.steps.Kept.{blank, slot_at, stored_at, name_at, listed, listed_at, listed_stored, table_with, leading, leading_in, IsIn, IsUser, LinksTo, IsLinked, IsIndexFor, IsStored, IsKept, IsUnmarked, AreStored, table_of}
use Rattle.table.specs.declared.parts.Parts.{Parts}
use Rattle.table.specs.declared.chain.entry.Entry.{Entry}
use Rattle.table.proofs.laws.chains.StepLaws.{new_chain_sound}
use Rattle.table.proofs.laws.chains.KeepLaws.{is_user_name, users_by_names, itself_not_before}
use Rattle.table.proofs.laws.chains.PlaceLaws.{before_trans, placed_nowhere}
use Rattle.table.proofs.laws.chains.StoreLaws.{map_insert, long, built_in_first, user_after, length-listed, length-names, listed_get, names_get}
use Rattle.table.proofs.laws.chains.CountLaws.{users_from}
use Rattle.table.proofs.laws.edits.AnswerLaws.{name_read, passes}
use Rattle.table.proofs.laws.edits.EditLaws.{link_user}

-- The index with one key more

-- each place of the new index is the new key, or a place of the old one
abbrev pub Shifted : List ℕ → List ℕ → ℕ → ℕ → Type 0
Shifted order after j i = (k : ℕ) × (k < length order) × (get_or after i 0 ≡ get_or order k 0) × (((k < j) × (i ≡ k)) ⊎ ((j ≤ k) × (i ≡ k + 1)))

pub insert_cases : (order : List ℕ) (j key i : ℕ) → j ≤ length order → i < length (insert order j key) → ((i ≡ j) × (get_or (insert order j key) i 0 ≡ key)) ⊎ Shifted order (insert order j key) j i
insert_cases order j key i le lt =
    elim (cases_lt i j) [
      | inl below ↦ inr (i, omega arith, get_or-insert_below order j key 0 i below le, inl (below, refl))
      | inr ge ↦ elim (cases_eq i j) [
        | inl e ↦ inl (e, ap (λ x. get_or (insert order j key) x 0) e ∙ get_or-insert_at order j key 0 le)
        | inr ne ↦ (
            let k : ℕ = i - 1 in
            let back : k + 1 ≡ i = omega arith in
            inr (k, omega (arith, length-insert order j key le), ap (λ x. get_or (insert order j key) x 0) (sym back) ∙ get_or-insert_above order j key 0 k (omega arith) le, inr (omega arith, sym back)))
      ]
    ]

pub shifted_at : (order : List ℕ) (j key k : ℕ) → j ≤ length order → k < length order → (i : ℕ) × (i < length (insert order j key)) × (get_or (insert order j key) i 0 ≡ get_or order k 0) × (k ≤ i)
shifted_at order j key k le lt =
    elim (cases_lt k j) [
      | inl below ↦ (k, omega (arith, length-insert order j key le), get_or-insert_below order j key 0 k below le, omega arith)
      | inr ge ↦ (k + 1, omega (arith, length-insert order j key le), get_or-insert_above order j key 0 k ge le, omega arith)
    ]

-- where a key is after another was taken out
pub stays_at : (order : List ℕ) (j k : ℕ) → j < length order → k < length order → k ≢ j → (i : ℕ) × (i < length (remove order j)) × (get_or (remove order j) i 0 ≡ get_or order k 0) × (min j k ≤ i)
stays_at order j k lt within ne =
    elim (cases_lt k j) [
      | inl below ↦ (k, omega (arith, length-remove order j lt), get_or-remove_below order j 0 k below lt, omega arith)
      | inr ge ↦ (
          let i : ℕ = k - 1 in
          let back : i + 1 ≡ k = omega (arith, ge, ne) in
          (i, omega (arith, length-remove order j lt, within, back), get_or-remove_above order j 0 i (omega (arith, ge, ne, back)) lt ∙ ap (λ (x : ℕ). get_or order x 0) back, omega (arith, ge, back)))
    ]

-- what a new slot leaves
pub record IsAdded (slots new : List (Option StoredChain)) (key : ℕ) (stored_chain : StoredChain) : Type 0 where
  pub was : slot_at slots key ≡ None
  pub is : slot_at new key ≡ Some stored_chain
  pub others : (k : ℕ) → k ≢ key → slot_at new k ≡ slot_at slots k

added_stored : (slots new : List (Option StoredChain)) (key : ℕ) (stored_chain : StoredChain) → IsAdded slots new key stored_chain → stored_at new key ≡ stored_chain
added_stored slots new key stored_chain a = ap (λ (o : Option StoredChain). unwrap_or o blank) a.is

added_other : (slots new : List (Option StoredChain)) (key k : ℕ) (stored_chain : StoredChain) → IsAdded slots new key stored_chain → k ≢ key → stored_at new k ≡ stored_at slots k
added_other slots new key k stored_chain a ne = ap (λ (o : Option StoredChain). unwrap_or o blank) (a.others k ne)

there_differs : (slots new : List (Option StoredChain)) (key k : ℕ) (stored_chain : StoredChain) → IsAdded slots new key stored_chain → IsSome (slot_at slots k) → k ≢ key
there_differs slots new key k stored_chain a h e = let P : Option StoredChain → Type 0 = λ (o : Option StoredChain). IsSome o in false≢true (subst P (ap (slot_at slots) e ∙ a.was) h)

-- The plain table

-- where a chain is put
pub placed_is : (c : Chain) (cs : List Chain) (i : ℕ) (d : Chain) → i ≤ length cs → ((k : ℕ) → k < i → is_built_in (get_or cs k d).name || comes_before (get_or cs k d).name c.name ≡ true)
    → (i < length cs → is_built_in (get_or cs i d).name || comes_before (get_or cs i d).name c.name ≡ false) → placed c cs ≡ insert cs i c
placed_is c [] zero d le before at = refl
placed_is c [] (suc i) d le before at = absurd (omega (arith, le))
placed_is c (x ∷ cs) zero d le before at = cond-false (is_built_in x.name || comes_before x.name c.name) _ _ (at (omega arith))
placed_is c (x ∷ cs) (suc i) d le before at =
    cond-true (is_built_in x.name || comes_before x.name c.name) _ _ (before 0 (omega arith))
    ∙ ap (λ (ys : List Chain). x ∷ ys) (placed_is c cs i d (omega (arith, le)) (λ k lt. before (suc k) (omega (arith, lt))) (λ lt. at (omega (arith, lt))))

pub not_turned : (a b : List ℕ) → comes_before a b ≡ true → comes_before b a ≡ false
not_turned a b e = elim (cases_Bool (comes_before b a)) [ inl t ↦ absurd (false≢true (sym (itself_not_before a) ∙ before_trans a b a e t)) | inr f ↦ f ]

pub placed_in : (ps : List Policy) (slots : List (Option StoredChain)) (order : List ℕ) (name : List ℕ) (i : ℕ) → IsStored ps slots order → IsIndexFor name slots order i → placed (empty_chain name) (listed slots order) ≡ insert (listed slots order) i (empty_chain name)
placed_in ps slots order name i s p =
    let d : Chain = listed_stored blank in
    let c : Chain = empty_chain name in
    let long : length (listed slots order) ≡ length order = length-listed slots order in
    let T : List ℕ → Bool = λ n. is_built_in n || comes_before n name in
    placed_is c (listed slots order) i d (omega (arith, long, p.within))
    (λ k lt.
    let below : k < length order = omega (arith, lt, p.within) in
    ap (λ (x : Chain). T x.name) (listed_get slots order k d below)
    ∙ elim (cases_lt k 3) [
      | inl first ↦ or_left (is_built_in (name_at slots order k)) _ (built_in_first ps slots order (name_at slots order k) k s first refl)
      | inr user ↦ or_right (is_built_in (name_at slots order k)) _ (p.before k user lt)
    ])
    (λ lt.
    let below : i < length order = omega (arith, lt, long) in
    ap (λ (x : Chain). T x.name) (listed_get slots order i d below)
    ∙ ap (λ b. b || comes_before (name_at slots order i) name) (user_after ps slots order (name_at slots order i) i s p.user below refl) ∙ not_turned name (name_at slots order i) (p.after i (omega arith) below))

pub listed_agree : (slots new : List (Option StoredChain)) (keys : List ℕ) → ((k : ℕ) → k < length keys → stored_at new (get_or keys k 0) ≡ stored_at slots (get_or keys k 0)) → listed new keys ≡ listed slots keys
listed_agree slots new [] h = refl
listed_agree slots new (x ∷ xs) h = λ i. listed_stored (h 0 (omega arith) i) ∷ listed_agree slots new xs (λ k lt. h (suc k) (omega (arith, lt))) i

-- the rows of the old index are as before
pub stored_kept : (ps : List Policy) (slots new : List (Option StoredChain)) (order : List ℕ) (key : ℕ) (stored_chain : StoredChain) → IsStored ps slots order → IsAdded slots new key stored_chain → (k : ℕ) → k < length order → stored_at new (get_or order k 0) ≡ stored_at slots (get_or order k 0)
stored_kept ps slots new order key stored_chain s a k lt = added_other slots new key (get_or order k 0) stored_chain a (there_differs slots new key (get_or order k 0) stored_chain a (s.present k lt))

pub table_made : (ps : List Policy) (slots new : List (Option StoredChain)) (order : List ℕ) (i key : ℕ) (stored_chain : StoredChain) (name : List ℕ) → IsStored ps slots order → IsAdded slots new key stored_chain → IsIndexFor name slots order i → stored_chain.name ≡ name → stored_chain.entries ≡ []
    → table_with ps new (insert order i key) ≡ edited (NewChain name) (table_with ps slots order)
table_made ps slots new order i key stored_chain name s a p named none =
    let P : List Chain → Table = λ (cs : List Chain). record { policies = ps; chains = cs } in
    let is : listed_stored stored_chain ≡ empty_chain name = λ j. record { name = named j; rules = map rule_in (none j) } in
    ap P (map_insert (listed_at new) order i key ∙ ap (λ (c : Chain). insert (listed new order) i c) (ap listed_stored (added_stored slots new key stored_chain a) ∙ is)
    ∙ ap (λ (cs : List Chain). insert cs i (empty_chain name)) (listed_agree slots new order (stored_kept ps slots new order key stored_chain s a)) ∙ sym (placed_in ps slots order name i s p))

-- The chains as they are kept

pub leading_agree : (slots new : List (Option StoredChain)) (keys : List ℕ) (k : ℕ) → ((j : ℕ) → j < length keys → stored_at new (get_or keys j 0) ≡ stored_at slots (get_or keys j 0)) → leading new keys k ≡ leading slots keys k
leading_agree slots new [] k h = refl
leading_agree slots new (x ∷ xs) k h = ap (λ (r : StoredChain). leading_in k r + leading new xs k) (h 0 (omega arith)) ∙ ap (λ n. leading_in k (stored_at slots x) + n) (leading_agree slots new xs k (λ j lt. h (suc j) (omega (arith, lt))))

pub leading_insert : (slots : List (Option StoredChain)) (keys : List ℕ) (i key k : ℕ) → i ≤ length keys → leading slots (insert keys i key) k ≡ leading_in k (stored_at slots key) + leading slots keys k
leading_insert slots keys zero key k le = refl
leading_insert slots [] (suc i) key k le = absurd (omega (arith, le))
leading_insert slots (x ∷ xs) (suc i) key k le = let h = leading_insert slots xs i key k (omega (arith, le)) in omega (arith, h)

-- no rule leads to a key that no chain has
none_to : (slots : List (Option StoredChain)) (order : List ℕ) (es : List Entry) (key : ℕ) → ((k : ℕ) → IsUser order k → k ≢ key) → ((j : ℕ) (d : Entry) → j < length es → IsLinked slots order (get_or es j d)) → count_by (λ (e : Entry). leads_to key e.flow) es ≡ 0
none_to slots order [] key out h = refl
none_to slots order (e ∷ es) key out h =
    let rest : count_by (λ (x : Entry). leads_to key x.flow) es ≡ 0 = none_to slots order es key out (λ j d lt. h (suc j) d (omega (arith, lt))) in
    let no : leads_to key e.flow ≡ false = other (key_in e.flow) (λ k is. out k (link_user slots order e k (h 0 e (omega arith)) is)) in
    sum_by-cons (λ (x : Entry). cond (leads_to key x.flow) 1 0) e es ∙ ap (λ b. cond b 1 0 + count_by (λ (x : Entry). leads_to key x.flow) es) no ∙ omega (arith, rest)
  where
    other : (o : Option ℕ) → ((k : ℕ) → o ≡ Some k → k ≢ key) → is_key key o ≡ false
    other None f = refl
    other (Some k) f = ne_eqb k key (f k refl)

pub none_leads : (slots : List (Option StoredChain)) (order keys : List ℕ) (key : ℕ) → ((k : ℕ) → IsUser order k → k ≢ key) → ((i : ℕ) → i < length keys → All (IsLinked slots order) (stored_at slots (get_or keys i 0)).entries) → leading slots keys key ≡ 0
none_leads slots order [] key out h = refl
none_leads slots order (x ∷ xs) key out h = omega (arith, none_to slots order (stored_at slots x).entries key out (h 0 (omega arith)), none_leads slots order xs key out (λ i lt. h (suc i) (omega (arith, lt))))

link_more : (slots new : List (Option StoredChain)) (order after : List ℕ) → ((to : ℕ) → IsUser order to → IsUser after to) → ((to : ℕ) → IsUser order to → (stored_at new to).name ≡ (stored_at slots to).name) → (to : ℕ) (o : Option (List ℕ)) → LinksTo slots order to o → LinksTo new after to o
link_more slots new order after user name to None l = tt
link_more slots new order after user name to (Some n) l = (user to l.0, name to l.0 ∙ l.1)

pub kept_made : (ps : List Policy) (slots new : List (Option StoredChain)) (order : List ℕ) (i key : ℕ) (stored_chain : StoredChain) (name : List ℕ) → IsKept ps slots order → IsAdded slots new key stored_chain → IsIndexFor name slots order i → stored_chain.name ≡ name → stored_chain.entries ≡ [] → stored_chain.references ≡ 0 → IsClassified stored_chain
    → fault_of (NewChain name) (table_with ps slots order) ≡ None → IsKept ps new (insert order i key)
kept_made ps slots new order i key stored_chain name h a p named none zero_refs classified accepted =
    let s : IsStored ps slots order = h.stored in
    let after : List ℕ = insert order i key in
    let le : i ≤ length order = p.within in
    let size : length after ≡ length order + 1 = length-insert order i key le in
    let same : (k : ℕ) → k < length order → stored_at new (get_or order k 0) ≡ stored_at slots (get_or order k 0) = stored_kept ps slots new order key stored_chain s a in
    let differs : (k : ℕ) → k < length order → get_or order k 0 ≢ key = λ k lt. there_differs slots new key (get_or order k 0) stored_chain a (s.present k lt) in
    let user : (to : ℕ) → IsUser order to → IsUser after to = λ to u. (let q = shifted_at order i key u.0 le u.2 in (q.0, omega (arith, u.1, q.3), q.1, q.2 ∙ u.3)) in
    let name_in : (to : ℕ) → IsUser order to → (stored_at new to).name ≡ (stored_at slots to).name =
    λ to u. ap (λ (k : ℕ). (stored_at new k).name) (sym u.3) ∙ ap (λ (r : StoredChain). r.name) (same u.0 u.2) ∙ ap (λ (k : ℕ). (stored_at slots k).name) u.3 in
    let links : (e : Entry) → IsLinked slots order e → IsLinked new after e = λ e l. (l.0, l.1, link_more slots new order after user name_in l.0 (chain_named_by e.rule) l.2) in
    let T : Table → Type 0 = λ (t : Table). IsSound t in
    let R : List Entry → Type 0 = λ (es : List Entry). All (IsLinked new after) es in
    let O : Option StoredChain → Type 0 = λ (o : Option StoredChain). IsSome o in
    let Q : StoredChain → Type 0 = λ (r : StoredChain). All (IsLinked new after) r.entries in
    let own : Q stored_chain = subst R (sym none) (All-nil (IsLinked new after)) in
    let leads : (k : ℕ) → leading new after k ≡ leading slots order k = λ k.
    (let x = leading_insert new order i key k le in
    let y : leading_in k (stored_at new key) ≡ 0 = ap (λ (r : StoredChain). leading_in k r) (added_stored slots new key stored_chain a) ∙ ap (λ (es : List Entry). count_by (λ (e : Entry). leads_to k e.flow) es) none in
    let z = leading_agree slots new order k same in
    omega (arith, x, y, z)) in
    record {
      stored = record {
        present = λ j lt. elim (insert_cases order i key j le lt) [
          | inl at ↦ subst O (sym (ap (slot_at new) at.1 ∙ a.is)) refl
          | inr q ↦ subst O (sym (ap (slot_at new) q.2 ∙ a.others (get_or order q.0 0) (differs q.0 q.1))) (s.present q.0 q.1)
        ];
        no_more = λ k there. elim (cases_eq k key) [
          | inl own ↦ (i, omega (arith, size, le), get_or-insert_at order i key 0 le ∙ sym own)
          | inr ne ↦ (let w = s.no_more k (subst O (a.others k ne) there) in let q = shifted_at order i key w.0 le w.1 in (q.0, q.1, q.2 ∙ w.2))
        ];
        apart = λ x y lx ly e. elim (insert_cases order i key x le lx) [
          | inl u ↦ elim (insert_cases order i key y le ly) [
            | inl v ↦ u.0 ∙ sym v.0
            | inr v ↦ absurd (differs v.0 v.1 (sym v.2 ∙ sym e ∙ u.1))
          ]
          | inr u ↦ elim (insert_cases order i key y le ly) [
            | inl v ↦ absurd (differs u.0 u.1 (sym u.2 ∙ e ∙ v.1))
            | inr v ↦ (let k : u.0 ≡ v.0 = s.apart u.0 v.0 u.1 v.1 (sym u.2 ∙ e ∙ v.2) in omega (arith, u.3, v.3, k))
          ]
        ];
        linked = λ j lt. elim (insert_cases order i key j le lt) [
          | inl at ↦ subst Q (sym (ap (stored_at new) at.1 ∙ added_stored slots new key stored_chain a)) own
          | inr q ↦ subst Q (sym (ap (stored_at new) q.2 ∙ same q.0 q.1)) (All-weaker (IsLinked slots order) (IsLinked new after) links _ (s.linked q.0 q.1))
        ];
        classified = λ j lt. elim (insert_cases order i key j le lt) [
          | inl at ↦ subst IsClassified (sym (ap (stored_at new) at.1 ∙ added_stored slots new key stored_chain a)) classified
          | inr q ↦ subst IsClassified (sym (ap (stored_at new) q.2 ∙ same q.0 q.1)) (s.classified q.0 q.1)
        ];
        sound = subst T (sym (table_made ps slots new order i key stored_chain name s a p named none)) (new_chain_sound (table_with ps slots order) name s.sound accepted);
      };
      counted = λ j lt. elim (insert_cases order i key j le lt) [
        | inl at ↦ ap (λ (k : ℕ). (stored_at new k).references) at.1 ∙ ap (λ (r : StoredChain). r.references) (added_stored slots new key stored_chain a) ∙ zero_refs
            ∙ sym (ap (λ (k : ℕ). leading new after k) at.1 ∙ leads key ∙ none_leads slots order order key (λ k u e. differs u.0 u.2 (u.3 ∙ e)) s.linked)
        | inr q ↦ ap (λ (k : ℕ). (stored_at new k).references) q.2 ∙ ap (λ (r : StoredChain). r.references) (same q.0 q.1) ∙ h.counted q.0 q.1
            ∙ sym (ap (λ (k : ℕ). leading new after k) q.2 ∙ leads (get_or order q.0 0))
      ];
    }

-- How many user chains there are

users_upto : (n : ℕ) (ns : List (List ℕ)) → n ≤ length ns → ((k : ℕ) → k < n → is_user_name (get_or ns k []) ≡ false) → length (filter is_user_name ns) + n ≤ length ns
users_upto zero [] le h = omega arith
users_upto (suc n) [] le h = absurd (omega (arith, le))
users_upto zero (x ∷ xs) le h =
    let a = users_upto zero xs (omega arith) (λ k lt. absurd (omega (arith, lt))) in
    elim (cases_Bool (is_user_name x)) [
      | inl t ↦ omega (arith, a, ap (λ (ys : List (List ℕ)). length ys) (cond-true (is_user_name x) (x ∷ filter is_user_name xs) (filter is_user_name xs) t))
      | inr f ↦ omega (arith, a, ap (λ (ys : List (List ℕ)). length ys) (cond-false (is_user_name x) (x ∷ filter is_user_name xs) (filter is_user_name xs) f))
    ]
users_upto (suc n) (x ∷ xs) le h =
    let a = users_upto n xs (omega (arith, le)) (λ k lt. h (suc k) (omega (arith, lt))) in
    omega (arith, a, ap (λ (ys : List (List ℕ)). length ys) (cond-false (is_user_name x) (x ∷ filter is_user_name xs) (filter is_user_name xs) (h 0 (omega arith))))

-- all but the three built-in ones
pub users_are : (ps : List Policy) (slots : List (Option StoredChain)) (order : List ℕ) → IsStored ps slots order → length (user_chains (listed slots order)) + 3 ≡ length order
users_are ps slots order s =
    let ns : List (List ℕ) = names_of (listed slots order) in
    let a : length ns ≤ 3 + length (filter is_user_name ns) = users_from 3 ns s.sound.listed.user in
    let b : length (filter is_user_name ns) + 3 ≤ length ns = users_upto 3 ns (omega (arith, long ps slots order s, length-names slots order))
    (λ k lt. ap is_user_name (names_get slots order k [] (omega (arith, lt, long ps slots order s))) ∙ ap not (built_in_first ps slots order (name_at slots order k) k s lt refl)) in
    omega (arith, a, b, users_by_names (listed slots order), length-names slots order)

-- Marks

-- places for marks that grew leave no mark
pub still_unmarked : (order : List ℕ) (old new : List Bool) → IsUnmarked order old → ((k : ℕ) → get_or new k false ≡ get_or old k false) → length old ≤ length new → IsUnmarked order new
still_unmarked order old new u marks longer = record { within = λ k inn. (let lt : k < length old = u.within k inn in omega (arith, lt, longer)); clear = λ k. marks k ∙ u.clear k }

-- nor does a key that has a place
pub more_unmarked : (order after : List ℕ) (seen : List Bool) (i key : ℕ) → IsUnmarked order seen → i ≤ length order → key < length seen → after ≡ insert order i key → IsUnmarked after seen
more_unmarked order after seen i key u le lt is =
    let P : List ℕ → Type 0 = λ ks. IsUnmarked ks seen in
    let W : ℕ → Type 0 = λ k. k < length seen in
    subst P (sym is) (record {
      within = λ k inn. elim (insert_cases order i key inn.0 le inn.1) [
        | inl at ↦ subst W (sym at.1 ∙ inn.2) lt
        | inr q ↦ u.within k (q.0, q.1, sym q.2 ∙ inn.2)
      ];
      clear = u.clear;
    })

-- nor do keys that leave the index
pub fewer_unmarked : (order after : List ℕ) (seen : List Bool) → IsUnmarked order seen → ((k : ℕ) → IsIn after k → IsIn order k) → IsUnmarked after seen
fewer_unmarked order after seen u fewer = record { within = λ k inn. u.within k (fewer k inn); clear = u.clear }

-- the causes that refuse a new chain, beside its name's form
abbrev pub too_many : Table → Cause
too_many t = (nat_le 1024 (length (user_chains t.chains)), TooManyChains)

-- there are as many chains as there may be
pub chains_full : (p : Parts) (n : ℕ) → AreStored p → n ≡ length p.order.items → 1027 ≤ n → (too_many (table_of p)).0 ≡ true
chains_full p n s is many = le-leb 1024 _ (omega (arith, users_are p.policies p.chains.slots p.order.items s, is, many))

-- none refuses it
pub may_be_made : (p : Parts) (text name : List ℕ) (n : ℕ) → AreStored p → name_of text ≡ Some name → position (is_named text) (table_of p).chains ≡ None → n ≡ length p.order.items → n < 1027
    → fault_of (NewChain text) (table_of p) ≡ None
may_be_made p text name n s read free is few =
    let t : Table = table_of p in
    let twice : Cause = exists_already t text in
    passes (bad_name text) (twice ∷ too_many t ∷ []) (ap not (name_read text name read).0) ∙ passes twice (too_many t ∷ []) (placed_nowhere t text free)
    ∙ passes (too_many t) [] (lt-leb 1024 _ (omega (arith, users_are p.policies p.chains.slots p.order.items s, is, few)))
