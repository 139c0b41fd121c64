-- Counts of the rules that lead to a chain, and edges, as rules come and go.
use Rattle.std.proofs.Common.{◌≡◌, inl, inr, ℕ, zero, suc, ◌+◌, ◌*◌, ◌<◌, ◌≤◌, ◌^◌, not, List, [], ◌∷◌, length, get_or, drop, map, refl, sym, ◌∙◌, ap, arith, subst, Option, Some, IsSome, unwrap_or, All, take, ◌≢◌, true, false, cond, ◌++◌, None, Contains}
use Rattle.std.specs.Prelude.{count_by, filter, AllPairs, remove, nat_eq}
use Rattle.std.proofs.Math.ListN.{set}
use Rattle.std.proofs.lemmas.Bool.{cases_Bool, cases_eq, cond-true, cond-false, eqb-true, eq-eqb, false≢true}
use Rattle.std.proofs.lemmas.List.{length-map, get_or_default, map-append}
use Rattle.std.proofs.lemmas.List.Sums.{count_by-le-length, sum_by-cons, sum_by-set, sum_by-remove, sum_by_push}
use Rattle.std.proofs.lemmas.List.Elements.{All-weaker, All-head, All-tail, All-append, All-cons, All-nil, All-take, All-drop, All-set}
use Rattle.std.proofs.lemmas.List.Quantifiers.{all_pairs_push, all_pairs_remove}
use Rattle.classify.specs.Classifier.{Classified, IsClassifierOfRules}
use Rattle.table.specs.chains.Sound.{IsSound, IsSoundChain, IsUserName}
use Rattle.table.specs.chains.Table.{Policy, Chain, names_of, user_chains}
use Rattle.table.specs.steps.StoredChains.{StoredChain, rules_in, leads_to, is_key, key_in, ones, ends, counted, AreDistinct, AreEdges, CountsMore, CountsFewer}
use Rattle.table.specs.steps.Kept.{blank, slot_at, stored_at, listed, classifiers, table_with, leading_in, leading, references_at, AreRecounted, CountsInAndOut, IsIn, IsLinked, IsStored, IsCounted}
use Rattle.table.specs.declared.chain.entry.Entry.{Entry}
use Rattle.table.specs.declared.chain.edges.Edge.{Edge}
use Rattle.table.proofs.laws.chains.SoundLaws.{Mem, Differing}
use Rattle.table.proofs.laws.chains.KeepLaws.{is_user_name, users_by_names}
use Rattle.table.proofs.laws.chains.StoreLaws.{length-listed, length-names, listed_get, key_within, stored_set_same, stored_set_other, Found, link_kept, map_remove}

-- ---- Counts of the rules that lead to a chain.

-- A count is changed

-- a part of each stored chain that the new stored chain has as the old one
pub part_kept : {X : Type 0} (slots : List (Option StoredChain)) (key : ℕ) (stored_chain new : StoredChain) (f : StoredChain → X) → slot_at slots key ≡ Some stored_chain → f new ≡ f stored_chain → (k : ℕ) → f (stored_at (set slots key (Some new)) k) ≡ f (stored_at slots k)
part_kept slots key stored_chain new f slot e k =
    let P : Option StoredChain → Type 0 = λ (o : Option StoredChain). IsSome o in
    let within : key < length slots = key_within slots key (subst P (sym slot) refl) in
    let is : stored_at slots key ≡ stored_chain = ap (λ (o : Option StoredChain). unwrap_or o blank) slot in
    elim (cases_eq k key) [
      | inl q ↦ ap (λ (j : ℕ). f (stored_at (set slots key (Some new)) j)) q ∙ ap f (stored_set_same slots key new within) ∙ e ∙ ap f (sym is) ∙ ap (λ (j : ℕ). f (stored_at slots j)) (sym q)
      | inr ne ↦ ap f (stored_set_other slots key k new ne)
    ]

-- The rules that lead to a chain

leading_none : (slots : List (Option StoredChain)) (keys : List ℕ) (key k : ℕ) (new : StoredChain) → (Mem key keys → ⊥) → leading (set slots key (Some new)) keys k ≡ leading slots keys k
leading_none slots [] key k new out = refl
leading_none slots (x ∷ xs) key k new out =
    let a : stored_at (set slots key (Some new)) x ≡ stored_at slots x = stored_set_other slots key x new (λ q. out (inl (sym q))) in
    let b : leading (set slots key (Some new)) xs k ≡ leading slots xs k = leading_none slots xs key k new (λ m. out (inr m)) in
    ap (λ (r : StoredChain). leading_in k r + leading (set slots key (Some new)) xs k) a ∙ ap (λ n. leading_in k (stored_at slots x) + n) b

-- one chain's rules are changed
pub leading_set : (slots : List (Option StoredChain)) (keys : List ℕ) (key k : ℕ) (stored_chain new : StoredChain) → slot_at slots key ≡ Some stored_chain → Differing keys → Mem key keys
    → leading (set slots key (Some new)) keys k + leading_in k stored_chain ≡ leading slots keys k + leading_in k new
leading_set slots [] key k stored_chain new slot d m = absurd m
leading_set slots (x ∷ xs) key k stored_chain new slot d (inl q) =
    let P : Option StoredChain → Type 0 = λ (o : Option StoredChain). IsSome o in
    let within : key < length slots = key_within slots key (subst P (sym slot) refl) in
    let a : leading_in k (stored_at (set slots key (Some new)) x) ≡ leading_in k new = ap (λ (j : ℕ). leading_in k (stored_at (set slots key (Some new)) j)) (sym q) ∙ ap (leading_in k) (stored_set_same slots key new within) in
    let b : leading_in k (stored_at slots x) ≡ leading_in k stored_chain = ap (λ (j : ℕ). leading_in k (stored_at slots j)) (sym q) ∙ ap (λ (o : Option StoredChain). leading_in k (unwrap_or o blank)) slot in
    let Q : ℕ → Type 0 = λ j. Mem j xs in
    let c : leading (set slots key (Some new)) xs k ≡ leading slots xs k = leading_none slots xs key k new (λ m. d.0 (subst Q q m)) in
    omega (arith, a, b, c)
leading_set slots (x ∷ xs) key k stored_chain new slot d (inr m) =
    let Q : ℕ → Type 0 = λ j. Mem j xs in
    let a : leading_in k (stored_at (set slots key (Some new)) x) ≡ leading_in k (stored_at slots x) = ap (leading_in k) (stored_set_other slots key x new (λ q. d.0 (subst Q (sym q) m))) in
    let b = leading_set slots xs key k stored_chain new slot d.1 m in
    omega (arith, a, b)

-- what leads there from one chain is no more than from all
pub leading_part : (slots : List (Option StoredChain)) (keys : List ℕ) (i k : ℕ) → i < length keys → leading_in k (stored_at slots (get_or keys i 0)) ≤ leading slots keys k
leading_part slots [] i k lt = absurd (omega (arith, lt))
leading_part slots (x ∷ xs) zero k lt = omega arith
leading_part slots (x ∷ xs) (suc i) k lt = let h = leading_part slots xs i k (omega (arith, lt)) in omega (arith, h)

-- no more than there are rules
pub leading_few : (slots : List (Option StoredChain)) (keys : List ℕ) (k n : ℕ) → ((i : ℕ) → i < length keys → length (stored_at slots (get_or keys i 0)).entries ≤ n) → leading slots keys k ≤ length keys * n
leading_few slots [] k n h = omega arith
leading_few slots (x ∷ xs) k n h =
    let a : length (stored_at slots x).entries ≤ n = h 0 (omega arith) in
    let b : leading_in k (stored_at slots x) ≤ length (stored_at slots x).entries = count_by-le-length (λ (e : Entry). leads_to k e.flow) (stored_at slots x).entries in
    let c : leading slots xs k ≤ length xs * n = leading_few slots xs k n (λ i lt. h (suc i) (omega (arith, lt))) in
    let m : length xs * n + n ≡ suc (length xs) * n = omega arith in
    omega (arith, a, b, c, m)

-- the rules stay where only counts change
pub leading_recounted : (slots new : List (Option StoredChain)) (keys : List ℕ) (k : ℕ) → AreRecounted slots new → leading new keys k ≡ leading slots keys k
leading_recounted slots new [] k r = refl
leading_recounted slots new (x ∷ xs) k r =
    ap (λ (es : List Entry). count_by (λ (e : Entry). leads_to k e.flow) es + leading new xs k) (r.entries x) ∙ ap (λ n. leading_in k (stored_at slots x) + n) (leading_recounted slots new xs k r)

-- so do the chains
pub listed_recounted : (slots new : List (Option StoredChain)) (keys : List ℕ) → AreRecounted slots new → listed new keys ≡ listed slots keys
listed_recounted slots new [] r = refl
listed_recounted slots new (x ∷ xs) r = λ i. record { name = r.name x i; rules = map (λ (e : Entry). e.rule) (r.entries x i) } ∷ listed_recounted slots new xs r i

pub classifiers_recounted : (slots new : List (Option StoredChain)) (keys : List ℕ) → AreRecounted slots new → classifiers new keys ≡ classifiers slots keys
classifiers_recounted slots new [] r = refl
classifiers_recounted slots new (x ∷ xs) r = λ i. r.classifier x i ∷ classifiers_recounted slots new xs r i

pub stored_recounted : (ps : List Policy) (slots new : List (Option StoredChain)) (order : List ℕ) → AreRecounted slots new → IsStored ps slots order → IsStored ps new order
stored_recounted ps slots new order r s =
    record {
      present = λ i lt. r.present (get_or order i 0) (s.present i lt);
      no_more = λ key there. s.no_more key (r.no_more key there);
      apart = s.apart;
      linked = λ i lt.
          (let P : List Entry → Type 0 = λ (es : List Entry). All (IsLinked new order) es in
          subst P (sym (r.entries (get_or order i 0))) (All-weaker (IsLinked slots order) (IsLinked new order) (λ e l. link_kept slots new order r.name e l) _ (s.linked i lt)));
      classified = λ i lt.
          (let P : List Entry → Type 0 = λ (es : List Entry). IsClassifierOfRules (map (λ (e : Entry). e.rule) es) (stored_at new (get_or order i 0)).classifier in
          let Q : Classified → Type 0 = λ (c : Classified). IsClassifierOfRules (rules_in (stored_at slots (get_or order i 0))) c in
          subst P (sym (r.entries (get_or order i 0))) (subst Q (sym (r.classifier (get_or order i 0))) (s.classified i lt)));
      sound = let P : List Chain → Type 0 = λ (cs : List Chain). IsSound (record { policies = ps; chains = cs }) in subst P (sym (listed_recounted slots new order r)) s.sound;
    }

-- counts that move as the rules do stay right
pub counted_moved : (slots new : List (Option StoredChain)) (order : List ℕ) (more fewer : Option ℕ) → CountsInAndOut more fewer (references_at slots) (references_at new)
    → CountsInAndOut more fewer (leading slots order) (leading new order) → IsCounted slots order → IsCounted new order
counted_moved slots new order more fewer refs lead h i lt =
    let k : ℕ = get_or order i 0 in
    let a = refs k in
    let b = lead k in
    let c : (stored_at slots k).references ≡ leading slots order k = h i lt in
    omega (arith, a, b, c)

pub key_place : (xs : List ℕ) (x : ℕ) → Mem x xs → IsIn xs x
key_place [] x m = absurd m
key_place (y ∷ ys) x (inl e) = (0, omega arith, sym e)
key_place (y ∷ ys) x (inr m) = let p = key_place ys x m in (suc p.0, omega (arith, p.1), p.2)

-- the keys of the index differ
pub keys_differ : (xs : List ℕ) → ((i j : ℕ) → i < length xs → j < length xs → get_or xs i 0 ≡ get_or xs j 0 → i ≡ j) → Differing xs
keys_differ [] h = tt
keys_differ (x ∷ xs) h = (λ m. let p = key_place xs x m in absurd (let e : 0 ≡ suc p.0 = h 0 (suc p.0) (omega arith) (omega (arith, p.1)) (sym p.2) in omega (arith, e)), keys_differ xs (λ i j li lj e. let q : suc i ≡ suc j = h (suc i) (suc j) (omega (arith, li)) (omega (arith, lj)) e in omega (arith, q)))

pub key_mem : (xs : List ℕ) (i key : ℕ) → i < length xs → get_or xs i 0 ≡ key → Mem key xs
key_mem [] i key lt e = absurd (omega (arith, lt))
key_mem (x ∷ xs) zero key lt e = inl (sym e)
key_mem (x ∷ xs) (suc i) key lt e = inr (key_mem xs i key (omega (arith, lt)) e)

pub found_leading : (ps : List Policy) (slots : List (Option StoredChain)) (order : List ℕ) (i key k : ℕ) (stored_chain new : StoredChain) → Found ps slots order i key stored_chain
    → leading (set slots key (Some new)) order k + leading_in k stored_chain ≡ leading slots order k + leading_in k new
found_leading ps slots order i key k stored_chain new f = leading_set slots order key k stored_chain new f.slot (keys_differ order f.stored.apart) (key_mem order i key f.place f.at)

-- There are few of them

pub rules_few : (ps : List Policy) (slots : List (Option StoredChain)) (order : List ℕ) → IsStored ps slots order → (i : ℕ) → i < length order → length (stored_at slots (get_or order i 0)).entries ≤ 8192
rules_few ps slots order s i lt =
    let d : Chain = record { name = []; rules = [] } in
    let c : Chain = get_or (listed slots order) i d in
    let h : IsSoundChain (table_with ps slots order) c = s.sound.chains i d (omega (arith, lt, length-listed slots order)) in
    let few : length c.rules ≤ 8192 = h.few in
    omega (arith, few, ap (λ (x : Chain). length x.rules) (listed_get slots order i d lt), length-map (stored_at slots (get_or order i 0)).entries (λ (e : Entry). e.rule))

pub users_from : (n : ℕ) (ns : List (List ℕ)) → All IsUserName (drop n ns) → length ns ≤ n + length (filter is_user_name ns)
users_from n [] h = omega arith
users_from zero (x ∷ xs) h =
    let u : IsUserName x = All-head IsUserName x xs h in
    let a = users_from zero xs (All-tail IsUserName x xs h) in
    omega (arith, a, ap (λ (ys : List (List ℕ)). length ys) (cond-true (is_user_name x) (x ∷ filter is_user_name xs) (filter is_user_name xs) (ap not u.other)))
users_from (suc n) (x ∷ xs) h =
    let a = users_from n xs h in
    elim (cases_Bool (is_user_name x)) [
      | inl t ↦ omega (arith, a, ap (λ (ys : List (List ℕ)). length ys) (cond-true (is_user_name x) (x ∷ filter is_user_name xs) (filter is_user_name xs) t))
      | inr f ↦ omega (arith, a, ap (λ (ys : List (List ℕ)). length ys) (cond-false (is_user_name x) (x ∷ filter is_user_name xs) (filter is_user_name xs) f))
    ]

-- the chains are at most 1,027
pub chains_few : (ps : List Policy) (slots : List (Option StoredChain)) (order : List ℕ) → IsStored ps slots order → length order ≤ 1027
chains_few ps slots order s =
    let ns : List (List ℕ) = names_of (listed slots order) in
    let few : length (user_chains (listed slots order)) ≤ 1024 = s.sound.few in
    omega (arith, few, users_from 3 ns s.sound.listed.user, users_by_names (listed slots order), length-names slots order)

-- a count has room for one more
pub count_has_room : (ps : List Policy) (slots : List (Option StoredChain)) (order : List ℕ) (key : ℕ) → IsStored ps slots order → IsCounted slots order → IsIn order key → references_at slots key + 1 < 2 ^ 64
count_has_room ps slots order key s h at =
    let c : references_at slots key ≡ leading slots order key = let P : ℕ → Type 0 = λ k. references_at slots k ≡ leading slots order k in subst P at.2 (h at.0 at.1) in
    let a : leading slots order key ≤ length order * 8192 = leading_few slots order key 8192 (rules_few ps slots order s) in
    let b : length order ≤ 1027 = chains_few ps slots order s in
    omega (arith, a, b, c)

-- ---- Edges, as rules come and go.

-- the edge counts a rule
abbrev CountsRule : Edge → Type 0
CountsRule e = 0 < e.rules

-- the rules that an edge counts to a key
abbrev part : ℕ → Edge → ℕ
part key e = cond (nat_eq e.to key) e.rules 0

part_same : (key : ℕ) (e : Edge) → e.to ≡ key → part key e ≡ e.rules
part_same key e is = cond-true (nat_eq e.to key) e.rules 0 (eq-eqb e.to key is)

pub counted_cons : (e : Edge) (es : List Edge) (key : ℕ) → counted (e ∷ es) key ≡ part key e + counted es key
counted_cons e es key = sum_by-cons (part key) e es

-- an edge counts no more than all edges
pub counted_part : (es : List Edge) (i : ℕ) (d : Edge) → i < length es → (get_or es i d).rules ≤ counted es (get_or es i d).to
counted_part [] i d lt = absurd (omega (arith, lt))
counted_part (e ∷ es) zero d lt = omega (arith, counted_cons e es e.to, part_same e.to e refl)
counted_part (e ∷ es) (suc i) d lt =
    let rest = counted_part es i d (omega (arith, lt)) in
    omega (arith, rest, counted_cons e es (get_or es i d).to)

-- where no edge leads nothing is counted
pub counted_none : (es : List Edge) (key : ℕ) → ((k : ℕ) → k < length es → get_or (ends es) k 0 ≢ key) → counted es key ≡ 0
counted_none [] key h = refl
counted_none (e ∷ es) key h =
    let rest : counted es key ≡ 0 = counted_none es key (λ k lt. h (suc k) (omega (arith, lt))) in
    elim (cases_Bool (nat_eq e.to key)) [
      | inl t ↦ absurd (h 0 (omega arith) (eqb-true e.to key t))
      | inr f ↦ omega (arith, rest, counted_cons e es key, cond-false (nat_eq e.to key) e.rules 0 f)
    ]

-- what is counted has an edge
pub counted_some : (es : List Edge) (key : ℕ) → 0 < counted es key → (k : ℕ) × (k < length es) × (get_or (ends es) k 0 ≡ key)
counted_some [] key h = absurd (omega (arith, h))
counted_some (e ∷ es) key h =
    elim (cases_Bool (nat_eq e.to key)) [
      | inl t ↦ (0, omega arith, eqb-true e.to key t)
      | inr f ↦ (
          let r = counted_some es key (omega (arith, h, counted_cons e es key, cond-false (nat_eq e.to key) e.rules 0 f)) in
          (suc r.0, omega (arith, r.1), r.2))
    ]

pub end_at : (es : List Edge) (i : ℕ) (d : Edge) → i < length es → get_or (ends es) i 0 ≡ (get_or es i d).to
end_at [] i d lt = absurd (omega (arith, lt))
end_at (e ∷ es) zero d lt = refl
end_at (e ∷ es) (suc i) d lt = end_at es i d (omega (arith, lt))

-- The count of an edge is changed

set_ends : (es : List Edge) (i : ℕ) (new d : Edge) → i < length es → new.to ≡ (get_or es i d).to → ends (set es i new) ≡ ends es
set_ends [] i new d lt same = absurd (omega (arith, lt))
set_ends (e ∷ es) zero new d lt same = λ k. same k ∷ ends es
set_ends (e ∷ es) (suc i) new d lt same = λ k. e.to ∷ set_ends es i new d (omega (arith, lt)) same k

set_distinct : (es : List Edge) (i : ℕ) (new d : Edge) → i < length es → new.to ≡ (get_or es i d).to → 0 < new.rules → AreDistinct es → AreDistinct (set es i new)
set_distinct es i new d lt same some h =
    let P : List ℕ → Type 0 = λ ks. AllPairs (λ (a b : ℕ). a ≢ b) ks in
    record {
      apart = subst P (sym (set_ends es i new d lt same)) h.apart;
      some = All-set CountsRule es i new some h.some;
    }

-- what an edge with another number of rules counts beside the old one
part_more : (key k : ℕ) (old new : Edge) → old.to ≡ key → new.to ≡ old.to → new.rules ≡ old.rules + 1 → part k new ≡ part k old + ones (is_key k (Some key))
part_more key k old new own same more =
    let a : part k new ≡ cond (nat_eq key k) new.rules 0 = ap (λ to. cond (nat_eq to k) new.rules 0) (same ∙ own) in
    let b : part k old ≡ cond (nat_eq key k) old.rules 0 = ap (λ to. cond (nat_eq to k) old.rules 0) own in
    let one : nat_eq key k ≡ true → ones (nat_eq key k) ≡ 1 = λ t. ap ones t in
    let none : nat_eq key k ≡ false → ones (nat_eq key k) ≡ 0 = λ f. ap ones f in
    elim (cases_Bool (nat_eq key k)) [
      | inl t ↦ omega (arith, a, b, more, cond-true (nat_eq key k) new.rules 0 t, cond-true (nat_eq key k) old.rules 0 t, one t)
      | inr f ↦ omega (arith, a, b, cond-false (nat_eq key k) new.rules 0 f, cond-false (nat_eq key k) old.rules 0 f, none f)
    ]

-- the edge at a place leads to the key
pub record IsEdgeTo (es : List Edge) (i key : ℕ) (e : Edge) : Type 0 where
  pub within : i < length es
  pub leads : get_or (ends es) i 0 ≡ key
  pub is : e ≡ get_or es i e

pub edge_at : (es lent : List Edge) (i key : ℕ) (e : Edge) → lent ≡ es → (i < length lent) × (get_or (ends lent) i 0 ≡ key) → e ≡ get_or es i e → IsEdgeTo es i key e
edge_at es lent i key e same found is =
    let P : List Edge → Type 0 = λ xs. (i < length xs) × (get_or (ends xs) i 0 ≡ key) in
    let own : (i < length es) × (get_or (ends es) i 0 ≡ key) = subst P same found in
    record { within = own.0; leads = own.1; is = is }

-- an edge that is read twice
pub edge_again : (es : List Edge) (i key : ℕ) (e again : Edge) → IsEdgeTo es i key e → again ≡ get_or es i again → e ≡ again
edge_again es i key e again h is = h.is ∙ get_or_default es i e again h.within ∙ sym is

own_end : (es : List Edge) (i key : ℕ) (e : Edge) → IsEdgeTo es i key e → e.to ≡ key
own_end es i key e h = ap (λ (x : Edge). x.to) h.is ∙ sym (end_at es i e h.within) ∙ h.leads

-- its count is within that of all
pub edge_counts : (es : List Edge) (i key : ℕ) (e : Edge) → IsEdgeTo es i key e → e.rules ≤ counted es key
edge_counts es i key e h =
    let P : ℕ → Type 0 = λ k. e.rules ≤ counted es k in
    let Q : Edge → Type 0 = λ (x : Edge). x.rules ≤ counted es x.to in
    subst P (own_end es i key e h) (subst Q (sym h.is) (counted_part es i e h.within))

pub edge_some : (es : List Edge) (i key : ℕ) (e : Edge) → IsEdgeTo es i key e → AreDistinct es → 0 < e.rules
edge_some es i key e h d =
    let Q : Edge → Type 0 = λ (x : Edge). 0 < x.rules in
    subst Q (sym h.is) (d.some i e h.within)

pub raised_distinct : (es : List Edge) (i key : ℕ) (e new : Edge) → IsEdgeTo es i key e → new.to ≡ e.to → 0 < new.rules → AreDistinct es → AreDistinct (set es i new)
raised_distinct es i key e new h same some d = set_distinct es i new e h.within (same ∙ ap (λ (x : Edge). x.to) h.is) some d

set_part : (es : List Edge) (i key k : ℕ) (e new : Edge) → IsEdgeTo es i key e → counted (set es i new) k + part k e ≡ counted es k + part k new
set_part es i key k e new h = ap (λ (x : Edge). counted (set es i new) k + part k x) h.is ∙ sum_by-set (part k) es i new e h.within

pub raised_counts : (es : List Edge) (i key : ℕ) (e new : Edge) → IsEdgeTo es i key e → new.to ≡ e.to → new.rules ≡ e.rules + 1 → CountsMore (Some key) es (set es i new)
raised_counts es i key e new h same more k = omega (arith, set_part es i key k e new h, part_more key k e new (own_end es i key e h) same more)

pub lowered_counts : (es : List Edge) (i key : ℕ) (e new : Edge) → IsEdgeTo es i key e → new.to ≡ e.to → e.rules ≡ new.rules + 1 → CountsFewer (Some key) es (set es i new)
lowered_counts es i key e new h same more k =
    omega (arith, set_part es i key k e new h, part_more key k new e (same ∙ own_end es i key e h) (sym same) more)

-- An edge is put last

pub pushed_distinct : (es : List Edge) (key : ℕ) (new : Edge) → ((k : ℕ) → k < length es → get_or (ends es) k 0 ≢ key) → new.to ≡ key → 0 < new.rules → AreDistinct es → AreDistinct (es ++ new ∷ [])
pushed_distinct es key new free to some d =
    let R : ℕ → ℕ → Type 0 = λ a b. a ≢ b in
    let P : List ℕ → Type 0 = λ ks. AllPairs R ks in
    let differs : (k d : ℕ) → k < length (ends es) → get_or (ends es) k d ≢ new.to =
    λ k d lt q. free k (omega (arith, lt, length-map es (λ (e : Edge). e.to))) (get_or_default (ends es) k 0 d lt ∙ q ∙ to) in
    record {
      apart = subst P (sym (map-append (λ (e : Edge). e.to) es (new ∷ []))) (all_pairs_push R (ends es) new.to d.apart differs);
      some = All-append CountsRule es (new ∷ []) d.some (All-cons CountsRule new [] some (All-nil CountsRule));
    }

pub pushed_counts : (es : List Edge) (key : ℕ) → CountsMore (Some key) es (es ++ record { to = key; rules = 1 } ∷ [])
pushed_counts es key k = sum_by_push (part k) es (record { to = key; rules = 1 })

-- An edge is taken out

pub removed_distinct : (es : List Edge) (i : ℕ) → i < length es → AreDistinct es → AreDistinct (remove es i)
removed_distinct es i lt d =
    let R : ℕ → ℕ → Type 0 = λ a b. a ≢ b in
    let P : List ℕ → Type 0 = λ ks. AllPairs R ks in
    record {
      apart = subst P (sym (map_remove (λ (e : Edge). e.to) es i)) (all_pairs_remove R (ends es) i (omega (arith, lt, length-map es (λ (e : Edge). e.to))) d.apart);
      some = All-append CountsRule (take i es) (drop (suc i) es) (All-take CountsRule i es d.some) (All-drop CountsRule (suc i) es d.some);
    }

pub removed_counts : (es : List Edge) (i key : ℕ) (e : Edge) → IsEdgeTo es i key e → e.rules ≡ 1 → CountsFewer (Some key) es (remove es i)
removed_counts es i key e h one k =
    let a : counted (remove es i) k + part k e ≡ counted es k = ap (λ (x : Edge). counted (remove es i) k + part k x) h.is ∙ sum_by-remove (part k) es i e h.within in
    let none : Edge = record { to = e.to; rules = 0 } in
    let zero_part : part k none ≡ 0 = elim (cases_Bool (nat_eq e.to k)) [ inl t ↦ cond-true (nat_eq e.to k) 0 0 t | inr f ↦ cond-false (nat_eq e.to k) 0 0 f ] in
    omega (arith, a, zero_part, part_more key k none e (own_end es i key e h) refl one)

-- The rules and their edges

led_by : (key : ℕ) (o : Option ℕ) → is_key key o ≡ true → o ≡ Some key
led_by key None h = absurd (false≢true h)
led_by key (Some other) h = ap Some (eqb-true other key h)

-- a rule is counted that leads to the key
count_found : (es : List Entry) (key : ℕ) → 0 < count_by (λ (e : Entry). leads_to key e.flow) es → (e : Entry) × Contains es e × (key_in e.flow ≡ Some key)
count_found [] key h = absurd (omega (arith, h))
count_found (e ∷ es) key h =
    let all = sum_by-cons (λ (x : Entry). cond (leads_to key x.flow) 1 0) e es in
    elim (cases_Bool (leads_to key e.flow)) [
      | inl t ↦ (e, (0, omega arith, refl), led_by key (key_in e.flow) t)
      | inr f ↦ (
          let none : ones (leads_to key e.flow) ≡ 0 = ap ones f in
          let r = count_found es key (omega (arith, h, all, none)) in
          (r.0, (suc r.1.0, omega (arith, r.1.1), r.1.2), r.2))
    ]

-- a rule that leads to the key is counted
found_count : (es : List Entry) (e : Entry) (key : ℕ) → Contains es e → key_in e.flow ≡ Some key → 0 < count_by (λ (x : Entry). leads_to key x.flow) es
found_count es e key own is =
    let a = sum_by-remove (λ (x : Entry). cond (leads_to key x.flow) 1 0) es own.0 e own.1 in
    let b : ones (leads_to key (get_or es own.0 e).flow) ≡ 1 = ap (λ (x : Entry). ones (leads_to key x.flow)) own.2 ∙ ap (λ (o : Option ℕ). ones (is_key key o)) is ∙ ap ones (eq-eqb key key refl) in
    omega (arith, a, b)

-- each edge has a rule that leads where it leads
pub edge_led : (es : List Entry) (edges : List Edge) (i : ℕ) → AreEdges es edges → i < length edges → (e : Entry) × Contains es e × (key_in e.flow ≡ Some (get_or (ends edges) i 0))
edge_led es edges i h lt =
    let d : Edge = record { to = 0; rules = 0 } in
    let to : ℕ = get_or (ends edges) i 0 in
    let is : IsEdgeTo edges i to (get_or edges i d) = record { within = lt; leads = refl; is = get_or_default edges i d (get_or edges i d) lt } in
    count_found es to (omega (arith, h.exact to, edge_counts edges i to (get_or edges i d) is, edge_some edges i to (get_or edges i d) is h.distinct))

-- each rule that leads somewhere has an edge
pub led_edge : (es : List Entry) (edges : List Edge) (e : Entry) (key : ℕ) → AreEdges es edges → Contains es e → key_in e.flow ≡ Some key → (i : ℕ) × (i < length edges) × (get_or (ends edges) i 0 ≡ key)
led_edge es edges e key h own is = counted_some edges key (omega (arith, h.exact key, found_count es e key own is))

-- A chain without rules has no edges

pub no_edges : AreEdges [] []
no_edges = record {
  distinct = record { apart = λ i j d lt below. absurd (omega (arith, below)); some = All-nil CountsRule };
  exact = λ key. refl;
}
