-- The search for a path of jumps and gotos.
use Rattle.std.proofs.Common.{◌≡◌, ◌⊎◌, inl, inr, ℕ, zero, suc, ◌+◌, ◌<◌, ◌≤◌, Bool, true, false, List, [], ◌∷◌, ◌++◌, length, get_or, map, refl, sym, ◌∙◌, ap, arith, subst, Option, Some, None, IsSome, unwrap_or, Contains}
use Rattle.std.proofs.lemmas.Option.{none-some, same_Some}
use Rattle.std.proofs.Math.ListN.{set}
use Rattle.std.proofs.lemmas.Bool.{cases_Bool, cases_eq, cases_lt, false≢true}
use Rattle.std.proofs.lemmas.List.{length-set, get_or-set_same, get_or-set_other, get_or_append_left, get_or_push, length_push, get_or-map, length-map}
use Rattle.std.proofs.lemmas.List.Elements.{Contains-get_or}
use Rattle.rules.specs.rule.Actions.{target_of}
use Rattle.rules.specs.rule.Rules.{Rule}
use Rattle.rules.specs.declared.rule.target.Target.{Target}
use Rattle.rules.specs.declared.rule.target.Target.TheVariants as target
use Rattle.table.specs.chains.Sound.{Names, Path, Leads}
use Rattle.table.specs.chains.Table.{Policy, Chain, chain_in, chain_named_by}
use Rattle.table.specs.edits.Edits.{leads}
use Rattle.table.specs.steps.Kept.{blank, slot_at, stored_at, listed, IsIn, LinksTo, IsLinked, IsStored, IsUnmarked}
use Rattle.table.specs.steps.StoredChains.{StoredChain, rule_in, rules_in, key_in, flow_of, AreEdges, ends}
use Rattle.table.specs.steps.Search.{IsSeen, IsMarked, AreMarked, IsSearch, Marks}
use Rattle.table.specs.declared.chain.edges.Edge.{Edge}
use Rattle.table.specs.declared.chain.entry.Entry.{Entry}
use Rattle.table.proofs.laws.chains.CountLaws.{edge_led, led_edge, chains_few, key_mem, key_place, keys_differ}
use Rattle.table.proofs.laws.chains.SoundLaws.{Mem, Differing, pigeon, step_on, leads_is_path, path_is_led}
use Rattle.table.proofs.laws.chains.StoreLaws.{names_apart}
use Rattle.table.proofs.laws.edits.EditLaws.{link_user, link_named}
use Rattle.table.proofs.laws.walk.TableWalkLaws.{rules_under, linked_under}

-- Marks

seen_same : (seen : List Bool) (k : ℕ) → k < length seen → IsSeen (set seen k true) k
seen_same seen k lt = get_or-set_same seen k true false lt

seen_more : (seen : List Bool) (k j : ℕ) → k < length seen → IsSeen seen j → IsSeen (set seen k true) j
seen_more seen k j lt h =
    elim (cases_eq j k) [
      | inl e ↦ (let P : ℕ → Type 0 = λ x. IsSeen (set seen k true) x in subst P (sym e) (seen_same seen k lt))
      | inr ne ↦ get_or-set_other seen k j true false ne ∙ h
    ]

seen_cases : (seen : List Bool) (k j : ℕ) → IsSeen (set seen k true) j → IsSeen seen j ⊎ (j ≡ k)
seen_cases seen k j h = elim (cases_eq j k) [ inl e ↦ inr e | inr ne ↦ inl (sym (get_or-set_other seen k j true false ne) ∙ h) ]

-- Keys

in_push : (xs : List ℕ) (k x : ℕ) → IsIn xs x → IsIn (xs ++ k ∷ []) x
in_push xs k x h = (h.0, omega (arith, h.1, length_push xs k), get_or_append_left xs (k ∷ []) 0 h.0 h.1 ∙ h.2)

in_push_last : (xs : List ℕ) (k : ℕ) → IsIn (xs ++ k ∷ []) k
in_push_last xs k = (length xs, omega (arith, length_push xs k), get_or_push xs k 0 (length xs) refl)

in_push_cases : (xs : List ℕ) (k x : ℕ) → IsIn (xs ++ k ∷ []) x → IsIn xs x ⊎ (x ≡ k)
in_push_cases xs k x h =
    elim (cases_lt h.0 (length xs)) [
      | inl lt ↦ inl (h.0, lt, sym (get_or_append_left xs (k ∷ []) 0 h.0 lt) ∙ h.2)
      | inr ge ↦ inr (sym h.2 ∙ get_or_push xs k 0 h.0 (omega (arith, ge, h.1, length_push xs k)))
    ]

-- one more key is reached, and marked
marked_more : (order : List ℕ) (seen : List Bool) (reached : List ℕ) (k : ℕ) → IsMarked order seen reached → IsIn order k → get_or seen k false ≡ false → IsMarked order (set seen k true) (reached ++ k ∷ [])
marked_more order seen reached k h at new =
    let within : k < length seen = h.within k at in
    let unlike : (i : ℕ) → i < length reached → get_or reached i 0 ≡ k → ⊥ = λ i lt e. false≢true (sym new ∙ h.marked k (i, lt, e)) in
    let left : (i : ℕ) → i < length reached → get_or (reached ++ k ∷ []) i 0 ≡ get_or reached i 0 = λ i lt. get_or_append_left reached (k ∷ []) 0 i lt in
    let last : (i : ℕ) → length reached ≤ i → i < length (reached ++ k ∷ []) → i ≡ length reached = λ i ge lt. omega (arith, ge, lt, length_push reached k) in
    let top : (i : ℕ) → i ≡ length reached → get_or (reached ++ k ∷ []) i 0 ≡ k = λ i e. get_or_push reached k 0 i (sym e) in
    record {
      within = λ j i. omega (arith, h.within j i, length-set seen k true);
      known = λ j i. elim (in_push_cases reached k j i) [ inl was ↦ h.known j was | inr e ↦ subst (IsIn order) (sym e) at ];
      marked = λ j i. elim (in_push_cases reached k j i) [
        | inl was ↦ seen_more seen k j within (h.marked j was)
        | inr e ↦ (let P : ℕ → Type 0 = λ x. IsSeen (set seen k true) x in subst P (sym e) (seen_same seen k within))
      ];
      only = λ j s. elim (seen_cases seen k j s) [
        | inl was ↦ in_push reached k j (h.only j was)
        | inr e ↦ (let P : ℕ → Type 0 = λ x. IsIn (reached ++ k ∷ []) x in subst P (sym e) (in_push_last reached k))
      ];
      apart = λ i j li lj e. elim (cases_lt i (length reached)) [
        | inl below ↦ elim (cases_lt j (length reached)) [
          | inl low ↦ h.apart i j below low (sym (left i below) ∙ e ∙ left j low)
          | inr high ↦ absurd (unlike i below (sym (left i below) ∙ e ∙ top j (last j high lj)))
        ]
        | inr above ↦ elim (cases_lt j (length reached)) [
          | inl low ↦ absurd (unlike j low (sym (left j low) ∙ sym e ∙ top i (last i above li)))
          | inr high ↦ last i above li ∙ sym (last j high lj)
        ]
      ];
    }

-- while a key is not marked, there is room for it among those reached
pub room_for : (ps : List Policy) (slots : List (Option StoredChain)) (order : List ℕ) (seen : List Bool) (reached : List ℕ) (k : ℕ) → IsStored ps slots order → IsMarked order seen reached → IsIn order k → get_or seen k false ≡ false → length reached < 1027
room_for ps slots order seen reached k s h at new =
    let differ : Differing (k ∷ reached) = (λ m. false≢true (sym new ∙ h.marked k (key_place reached k m)), keys_differ reached h.apart) in
    let among : (x : ℕ) → Mem x (k ∷ reached) → Mem x order = λ x m. elim m [
      | inl e ↦ key_mem order at.0 x at.1 (at.2 ∙ sym e)
      | inr rest ↦ (let i = h.known x (key_place reached x rest) in key_mem order i.0 x i.1 i.2)
    ] in
    let few : length (k ∷ reached) ≤ length order = pigeon (k ∷ reached) order differ among in
    omega (arith, few, chains_few ps slots order s)

-- Rules and links

-- the chain under a key of the index leads to those that its rules lead to
edge : (ps : List Policy) (slots : List (Option StoredChain)) (order : List ℕ) (key k : ℕ) (e : Entry) → IsStored ps slots order → IsIn order key → Contains (stored_at slots key).entries e → key_in e.flow ≡ Some k → Names (listed slots order) (stored_at slots key).name (stored_at slots k).name
edge ps slots order key k e s at own is =
    let P : List Rule → Type 0 = λ (rs : List Rule). Contains rs e.rule in
    let c : Contains (rules_in (stored_at slots key)) e.rule =
    (own.0, omega (arith, own.1, length-map (stored_at slots key).entries rule_in), get_or-map rule_in (stored_at slots key).entries own.0 e e.rule own.1 ∙ ap rule_in own.2) in
    (e.rule, subst P (sym (rules_under ps slots order key s at)) c, link_named slots order e k (linked_under ps slots order key e s at own) is)

link_back : (slots : List (Option StoredChain)) (order : List ℕ) (name : List ℕ) (o : Option Target) (to : ℕ) → LinksTo slots order to (chain_in o) → chain_in o ≡ Some name → (key_in (flow_of o to) ≡ Some to) × ((stored_at slots to).name ≡ name)
link_back slots order name None to h q = absurd (none-some _ q)
link_back slots order name (Some target.Log) to h q = absurd (none-some _ q)
link_back slots order name (Some target.Accept) to h q = absurd (none-some _ q)
link_back slots order name (Some target.Drop) to h q = absurd (none-some _ q)
link_back slots order name (Some (target.Reject kind)) to h q = absurd (none-some _ q)
link_back slots order name (Some target.Return) to h q = absurd (none-some _ q)
link_back slots order name (Some (target.Jump n)) to h q = (refl, h.1 ∙ same_Some _ _ q)
link_back slots order name (Some (target.Goto n)) to h q = (refl, h.1 ∙ same_Some _ _ q)

-- what a chain names, a rule of it leads to
link_key : (ps : List Policy) (slots : List (Option StoredChain)) (order : List ℕ) (key : ℕ) (name : List ℕ) → IsStored ps slots order → IsIn order key → Names (listed slots order) (stored_at slots key).name name
    → (e : Entry) × Contains (stored_at slots key).entries e × ((k : ℕ) × (key_in e.flow ≡ Some k) × ((stored_at slots k).name ≡ name))
link_key ps slots order key name s at n =
    let r : Rule = n.0 in
    let es : List Entry = (stored_at slots key).entries in
    let P : List Rule → Type 0 = λ (rs : List Rule). Contains rs r in
    let c : Contains (map rule_in es) r = subst P (rules_under ps slots order key s at) n.1 in
    let lt : c.0 < length es = omega (arith, c.1, length-map es rule_in) in
    let none : Entry = record { rule = r; flow = flow_of None 0 } in
    let e : Entry = get_or es c.0 none in
    let own : Contains es e = Contains-get_or es c.0 none lt in
    let rule : e.rule ≡ r = sym (get_or-map rule_in es c.0 none r lt) ∙ c.2 in
    let l : IsLinked slots order e = linked_under ps slots order key e s at own in
    let b = link_back slots order name (target_of e.rule) l.0 l.2 (ap chain_named_by rule ∙ n.2) in
    (e, own, (l.0, ap key_in l.1 ∙ b.0, b.1))

path_then : (cs : List Chain) (n : ℕ) (a b c : List ℕ) → Path cs n a b → Names cs b c → Leads cs a c
path_then cs zero a b c p e = let P : List ℕ → Type 0 = λ x. Names cs x c in (1, (c, subst P (sym p) e, refl))
path_then cs (suc n) a b c p e = step_on cs a p.0 c p.1 (path_then cs n p.0 b c p.2 e)

-- One chain is visited

-- the chain at a place of those reached, and the chains that its first edges lead to are marked
pub record IsVisit (slots : List (Option StoredChain)) (order : List ℕ) (from : ℕ) (seen : List Bool) (reached : List ℕ) (at : ℕ) (edges : List Edge) (upto : ℕ) : Type 0 where
  pub search : IsSearch slots order from seen reached at
  pub stands : at < length reached
  pub here : AreEdges (stored_at slots (get_or reached at 0)).entries edges
  pub passed : (i : ℕ) → i < upto → IsSeen seen (get_or (ends edges) i 0)

pub at_key : (slots : List (Option StoredChain)) (order : List ℕ) (from : ℕ) (seen : List Bool) (reached : List ℕ) (at : ℕ) → IsSearch slots order from seen reached at → at < length reached → IsIn order (get_or reached at 0)
at_key slots order from seen reached at s lt = s.marked.known (get_or reached at 0) (at, lt, refl)

pub at_there : (ps : List Policy) (slots : List (Option StoredChain)) (order : List ℕ) (from key : ℕ) (seen : List Bool) (reached : List ℕ) (at : ℕ) → IsStored ps slots order → IsSearch slots order from seen reached at → at < length reached → key ≡ get_or reached at 0 → IsSome (slot_at slots key)
at_there ps slots order from key seen reached at h s lt is =
    let P : ℕ → Type 0 = λ k. IsSome (slot_at slots k) in
    let i = at_key slots order from seen reached at s lt in
    subst P (i.2 ∙ sym is) (h.present i.0 i.1)

pub visit_first : (slots : List (Option StoredChain)) (order : List ℕ) (from key : ℕ) (seen : List Bool) (reached : List ℕ) (at : ℕ) (stored_chain : StoredChain) (edges : List Edge) → IsSearch slots order from seen reached at → at < length reached → key ≡ get_or reached at 0
    → slot_at slots key ≡ Some stored_chain → AreEdges stored_chain.entries edges → IsVisit slots order from seen reached at edges 0
visit_first slots order from key seen reached at stored_chain edges s lt is slot own =
    let P : StoredChain → Type 0 = λ (r : StoredChain). AreEdges r.entries edges in
    record {
      search = s;
      stands = lt;
      here = subst P (sym (ap (stored_at slots) (sym is) ∙ ap (λ (o : Option StoredChain). unwrap_or o blank) slot)) own;
      passed = λ i below. absurd (omega (arith, below));
    }

-- a rule that makes an edge
edge_rule : (slots : List (Option StoredChain)) (order : List ℕ) (from : ℕ) (seen : List Bool) (reached : List ℕ) (at : ℕ) (edges : List Edge) (upto k : ℕ) → IsVisit slots order from seen reached at edges upto → upto < length edges → get_or (ends edges) upto 0 ≡ k
    → (e : Entry) × Contains (stored_at slots (get_or reached at 0)).entries e × (key_in e.flow ≡ Some k)
edge_rule slots order from seen reached at edges upto k v lt is =
    let r = edge_led (stored_at slots (get_or reached at 0)).entries edges upto v.here lt in
    (r.0, r.1, r.2 ∙ ap Some is)

pub link_in : (ps : List Policy) (slots : List (Option StoredChain)) (order : List ℕ) (from : ℕ) (seen : List Bool) (reached : List ℕ) (at : ℕ) (edges : List Edge) (upto k : ℕ) → IsStored ps slots order → IsVisit slots order from seen reached at edges upto
    → upto < length edges → get_or (ends edges) upto 0 ≡ k → IsIn order k
link_in ps slots order from seen reached at edges upto k h v lt is =
    let r = edge_rule slots order from seen reached at edges upto k v lt is in
    let u = link_user slots order r.0 k (linked_under ps slots order (get_or reached at 0) r.0 h (at_key slots order from seen reached at v.search v.stands) r.1) r.2 in
    (u.0, u.2, u.3)

pub link_within : (ps : List Policy) (slots : List (Option StoredChain)) (order : List ℕ) (from : ℕ) (seen : List Bool) (reached : List ℕ) (at : ℕ) (edges : List Edge) (upto k : ℕ) → IsStored ps slots order → IsVisit slots order from seen reached at edges upto
    → upto < length edges → get_or (ends edges) upto 0 ≡ k → k < length seen
link_within ps slots order from seen reached at edges upto k h v lt is = v.search.marked.within k (link_in ps slots order from seen reached at edges upto k h v lt is)

pub link_room : (ps : List Policy) (slots : List (Option StoredChain)) (order : List ℕ) (from : ℕ) (seen : List Bool) (reached : List ℕ) (at : ℕ) (edges : List Edge) (upto k : ℕ) → IsStored ps slots order → IsVisit slots order from seen reached at edges upto
    → upto < length edges → get_or (ends edges) upto 0 ≡ k → get_or seen k false ≡ false → length reached < 1027
link_room ps slots order from seen reached at edges upto k h v lt is new = room_for ps slots order seen reached k h v.search.marked (link_in ps slots order from seen reached at edges upto k h v lt is) new

one_more : (edges : List Edge) (upto k : ℕ) (seen : List Bool) → get_or (ends edges) upto 0 ≡ k → ((i : ℕ) → i < upto → IsSeen seen (get_or (ends edges) i 0)) → IsSeen seen k → (i : ℕ) → i < upto + 1 → IsSeen seen (get_or (ends edges) i 0)
one_more edges upto k seen is below here i lt =
    elim (cases_eq i upto) [
      | inl same ↦ (let P : ℕ → Type 0 = λ x. IsSeen seen x in subst P (sym (ap (λ (n : ℕ). get_or (ends edges) n 0) same ∙ is)) here)
      | inr ne ↦ below i (omega (arith, lt, ne))
    ]

-- the chain of a rule is reached, if it is new
reach : (slots : List (Option StoredChain)) (order : List ℕ) (from : ℕ) (seen : List Bool) (reached : List ℕ) (at : ℕ) (k : ℕ) → IsSearch slots order from seen reached at → at < length reached → IsIn order k
    → Leads (listed slots order) (stored_at slots from).name (stored_at slots k).name → get_or seen k false ≡ false → IsSearch slots order from (set seen k true) (reached ++ k ∷ []) at
reach slots order from seen reached at k s lt there path new =
    let within : k < length seen = s.marked.within k there in
    let left : (i : ℕ) → i < length reached → get_or reached i 0 ≡ get_or (reached ++ k ∷ []) i 0 = λ i le. sym (get_or_append_left reached (k ∷ []) 0 i le) in
    let P : ℕ → Type 0 = λ x. Leads (listed slots order) (stored_at slots from).name (stored_at slots x).name in
    let Q : ℕ → Type 0 = λ x. AreMarked (stored_at slots x).entries (set seen k true) in
    record {
      marked = marked_more order seen reached k s.marked there new;
      some = omega (arith, length_push reached k);
      first = sym (left 0 s.some) ∙ s.first;
      led = λ j i. elim (in_push_cases reached k j i) [ inl was ↦ s.led j was | inr e ↦ subst P (sym e) path ];
      visited = λ i le. subst Q (left i (omega (arith, le, lt))) (λ e x own link. seen_more seen k x within (s.visited i le e x own link));
    }

pub visit_next : (ps : List Policy) (slots : List (Option StoredChain)) (order : List ℕ) (from : ℕ) (seen : List Bool) (reached : List ℕ) (at : ℕ) (edges : List Edge) (upto k : ℕ) (seen' : List Bool) (reached' : List ℕ) → IsStored ps slots order
    → IsVisit slots order from seen reached at edges upto → upto < length edges → get_or (ends edges) upto 0 ≡ k → Marks k seen reached seen' reached' → IsVisit slots order from seen' reached' at edges (upto + 1)
visit_next ps slots order from seen reached at edges upto k seen' reached' h v lt is (inl m) =
    let P : List Bool → Type 0 = λ xs. IsVisit slots order from xs reached' at edges (upto + 1) in
    let Q : List ℕ → Type 0 = λ xs. IsVisit slots order from seen xs at edges (upto + 1) in
    subst P (sym m.1) (subst Q (sym m.2) (record { search = v.search; stands = v.stands; here = v.here; passed = one_more edges upto k seen is v.passed m.0 }))
visit_next ps slots order from seen reached at edges upto k seen' reached' h v lt is (inr m) =
    let P : List Bool → Type 0 = λ xs. IsVisit slots order from xs reached' at edges (upto + 1) in
    let Q : List ℕ → Type 0 = λ xs. IsVisit slots order from (set seen k true) xs at edges (upto + 1) in
    let R : ℕ → Type 0 = λ x. AreEdges (stored_at slots x).entries edges in
    let there : IsIn order k = link_in ps slots order from seen reached at edges upto k h v lt is in
    let within : k < length seen = v.search.marked.within k there in
    let r = edge_rule slots order from seen reached at edges upto k v lt is in
    let here : IsIn order (get_or reached at 0) = at_key slots order from seen reached at v.search v.stands in
    let way = v.search.led (get_or reached at 0) (at, v.stands, refl) in
    let path = path_then (listed slots order) way.0 (stored_at slots from).name (stored_at slots (get_or reached at 0)).name (stored_at slots k).name way.1 (edge ps slots order (get_or reached at 0) k r.0 h here r.1 r.2) in
    subst P (sym m.1) (subst Q (sym m.2) (record {
      search = reach slots order from seen reached at k v.search v.stands there path m.0;
      stands = omega (arith, v.stands, length_push reached k);
      here = subst R (sym (get_or_append_left reached (k ∷ []) 0 at v.stands)) v.here;
      passed = one_more edges upto k (set seen k true) is (λ i below. seen_more seen k (get_or (ends edges) i 0) within (v.passed i below)) (seen_same seen k within);
    }))

-- all its edges were gone along
pub visit_over : (slots : List (Option StoredChain)) (order : List ℕ) (from : ℕ) (seen : List Bool) (reached : List ℕ) (at : ℕ) (edges : List Edge) (upto : ℕ) → IsVisit slots order from seen reached at edges upto → length edges ≤ upto → IsSearch slots order from seen reached (at + 1)
visit_over slots order from seen reached at edges upto v over =
    let es : List Entry = (stored_at slots (get_or reached at 0)).entries in
    let own : AreMarked es seen = λ e k there is.
    (let r = led_edge es edges e k v.here there is in
    let P : ℕ → Type 0 = λ x. IsSeen seen x in
    subst P r.2 (v.passed r.0 (omega (arith, r.1, over)))) in
    let Q : ℕ → Type 0 = λ x. AreMarked (stored_at slots x).entries seen in
    record {
      marked = v.search.marked;
      some = v.search.some;
      first = v.search.first;
      led = v.search.led;
      visited = λ i lt. elim (cases_eq i at) [
        | inl same ↦ subst Q (ap (λ (n : ℕ). get_or reached n 0) (sym same)) own
        | inr ne ↦ v.search.visited i (omega (arith, lt, ne))
      ];
    }

-- The whole search

pub search_first : (ps : List Policy) (slots : List (Option StoredChain)) (order : List ℕ) (from : ℕ) (seen : List Bool) (none : List ℕ) (seen' : List Bool) (reached' : List ℕ) → IsStored ps slots order → IsIn order from → IsUnmarked order seen → none ≡ []
    → Marks from seen none seen' reached' → IsSearch slots order from seen' reached' 0
search_first ps slots order from seen none seen' reached' h at u empty (inl m) = absurd (false≢true (sym (u.clear from) ∙ m.0))
search_first ps slots order from seen none seen' reached' h at u empty (inr m) =
    let P : List Bool → Type 0 = λ xs. IsSearch slots order from xs reached' 0 in
    let Q : List ℕ → Type 0 = λ xs. IsSearch slots order from (set seen from true) xs 0 in
    let bare : IsMarked order seen [] = record {
      within = u.within;
      known = λ j i. absurd (omega (arith, i.1));
      marked = λ j i. absurd (omega (arith, i.1));
      only = λ j s. absurd (false≢true (sym (u.clear j) ∙ s));
      apart = λ i j li lj e. absurd (omega (arith, li));
    } in
    let only : (j : ℕ) → IsIn (from ∷ []) j → j ≡ from = λ j i. elim (in_push_cases [] from j i) [ inl z ↦ absurd (omega (arith, z.1)) | inr e ↦ e ] in
    subst P (sym m.1) (subst Q (sym (m.2 ∙ ap (λ (xs : List ℕ). xs ++ from ∷ []) empty)) (record {
      marked = marked_more order seen [] from bare at (u.clear from);
      some = omega arith;
      first = refl;
      led = λ j i. (0, ap (λ (x : ℕ). (stored_at slots x).name) (sym (only j i)));
      visited = λ i lt. absurd (omega (arith, lt));
    }))

-- along a path from what was reached all is reached, once all that was reached was visited
closed : (ps : List Policy) (slots : List (Option StoredChain)) (order : List ℕ) (from : ℕ) (seen : List Bool) (reached : List ℕ) (at : ℕ) → IsStored ps slots order → IsSearch slots order from seen reached at → length reached ≤ at
    → (n k : ℕ) (b : List ℕ) → IsIn reached k → Path (listed slots order) n (stored_at slots k).name b → (j : ℕ) × IsIn reached j × ((stored_at slots j).name ≡ b)
closed ps slots order from seen reached at h s le zero k b i p = (k, i, p)
closed ps slots order from seen reached at h s le (suc n) k b i p =
    let f = link_key ps slots order k p.0 h (s.marked.known k i) p.1 in
    let Q : ℕ → Type 0 = λ x. AreMarked (stored_at slots x).entries seen in
    let all : AreMarked (stored_at slots k).entries seen = subst Q i.2 (s.visited i.0 (omega (arith, i.1, le))) in
    let next : IsSeen seen f.2.0 = all f.0 f.2.0 f.1 f.2.1 in
    let P : List ℕ → Type 0 = λ x. Path (listed slots order) n x b in
    closed ps slots order from seen reached at h s le n f.2.0 b (s.marked.only f.2.0 next) (subst P (sym f.2.2) p.2)

-- a key of the index is that of its name
key_of_name : (ps : List Policy) (slots : List (Option StoredChain)) (order : List ℕ) (j k : ℕ) → IsStored ps slots order → IsIn order j → IsIn order k → (stored_at slots j).name ≡ (stored_at slots k).name → j ≡ k
key_of_name ps slots order j k h a b e =
    let name : ℕ → List ℕ = λ x. (stored_at slots x).name in
    let same : a.0 ≡ b.0 = names_apart ps slots order h a.0 b.0 a.1 b.1 (ap name a.2 ∙ e ∙ ap name (sym b.2)) in
    sym a.2 ∙ ap (λ (x : ℕ). get_or order x 0) same ∙ b.2

-- the mark of the goal says whether a path leads there
pub search_found : (ps : List Policy) (slots : List (Option StoredChain)) (order : List ℕ) (from goal : ℕ) (seen : List Bool) (reached : List ℕ) (at : ℕ) → IsStored ps slots order → IsIn order goal → IsSearch slots order from seen reached at
    → (get_or seen goal false ≡ false → length reached ≤ at) → get_or seen goal false ≡ leads (listed slots order) (stored_at slots from).name (stored_at slots goal).name
search_found ps slots order from goal seen reached at h there s end =
    let cs : List Chain = listed slots order in
    let a : List ℕ = (stored_at slots from).name in
    let b : List ℕ = (stored_at slots goal).name in
    elim (cases_Bool (get_or seen goal false)) [
      | inl met ↦ met ∙ sym (path_is_led cs a b h.sound.no_loop (s.led goal (s.marked.only goal met)))
      | inr missed ↦ elim (cases_Bool (leads cs a b)) [
        | inl led ↦ (
            let p = leads_is_path cs a b led in
            let r = closed ps slots order from seen reached at h s (end missed) p.0 from b (0, s.some, s.first) p.1 in
            let same : r.0 ≡ goal = key_of_name ps slots order r.0 goal h (s.marked.known r.0 r.1) there r.2 in
            absurd (false≢true (sym missed ∙ ap (λ (x : ℕ). get_or seen x false) (sym same) ∙ s.marked.marked r.0 r.1)))
        | inr none ↦ missed ∙ sym none
      ]
    ]

-- Where no search is needed

-- a chain leads to itself
pub same_leads : (ps : List Policy) (slots : List (Option StoredChain)) (order : List ℕ) (from goal : ℕ) → IsStored ps slots order → from ≡ goal → leads (listed slots order) (stored_at slots from).name (stored_at slots goal).name ≡ true
same_leads ps slots order from goal h same =
    path_is_led (listed slots order) (stored_at slots from).name (stored_at slots goal).name h.sound.no_loop (0, ap (λ (x : ℕ). (stored_at slots x).name) same)

-- from a chain without an edge no path leads to another
path_nowhere : (ps : List Policy) (slots : List (Option StoredChain)) (order : List ℕ) (from goal : ℕ) (edges : List Edge) (n : ℕ) → IsStored ps slots order → IsIn order from → IsIn order goal → (from ≡ goal → ⊥) → AreEdges (stored_at slots from).entries edges
    → length edges ≡ 0 → Path (listed slots order) n (stored_at slots from).name (stored_at slots goal).name → ⊥
path_nowhere ps slots order from goal edges zero h at there apart own none p = apart (key_of_name ps slots order from goal h at there p)
path_nowhere ps slots order from goal edges (suc n) h at there apart own none p =
    let f = link_key ps slots order from p.0 h at p.1 in
    let r = led_edge (stored_at slots from).entries edges f.0 f.2.0 own f.1 f.2.1 in
    omega (arith, r.1, none)

-- a chain without an edge leads to no other
pub leads_nowhere : (ps : List Policy) (slots : List (Option StoredChain)) (order : List ℕ) (from goal : ℕ) (stored_chain : StoredChain) (edges : List Edge) → IsStored ps slots order → IsIn order from → IsIn order goal → (from ≡ goal → ⊥) → slot_at slots from ≡ Some stored_chain
    → AreEdges stored_chain.entries edges → length edges ≡ 0 → leads (listed slots order) (stored_at slots from).name (stored_at slots goal).name ≡ false
leads_nowhere ps slots order from goal stored_chain edges h at there apart slot own none =
    let P : StoredChain → Type 0 = λ (r : StoredChain). AreEdges r.entries edges in
    let here : AreEdges (stored_at slots from).entries edges = subst P (sym (ap (λ (o : Option StoredChain). unwrap_or o blank) slot)) own in
    let cs : List Chain = listed slots order in
    let a : List ℕ = (stored_at slots from).name in
    let b : List ℕ = (stored_at slots goal).name in
    elim (cases_Bool (leads cs a b)) [
      | inl led ↦ (let p = leads_is_path cs a b led in absurd (path_nowhere ps slots order from goal edges p.0 h at there apart here none p.1))
      | inr not_led ↦ not_led
    ]

-- The marks are taken back

-- the marks left are those of the keys from a place on
pub record AreLeft (order : List ℕ) (seen : List Bool) (reached : List ℕ) (at : ℕ) : Type 0 where
  pub within : (key : ℕ) → IsIn order key → key < length seen
  pub known : (key : ℕ) → IsIn reached key → IsIn order key
  pub left : (key : ℕ) → IsSeen seen key → (j : ℕ) × (at ≤ j) × (j < length reached) × (get_or reached j 0 ≡ key)

pub left_within : (order : List ℕ) (seen : List Bool) (reached : List ℕ) (at key : ℕ) → AreLeft order seen reached at → at < length reached → key ≡ get_or reached at 0 → key < length seen
left_within order seen reached at key h lt is = h.within key (h.known key (at, lt, sym is))

pub left_next : (order : List ℕ) (seen : List Bool) (reached : List ℕ) (at key : ℕ) → AreLeft order seen reached at → at < length reached → key ≡ get_or reached at 0 → AreLeft order (set seen key false) reached (at + 1)
left_next order seen reached at key h lt is =
    let here : get_or reached at 0 ≡ key = sym is in
    let within : key < length seen = left_within order seen reached at key h lt is in
    record {
      within = λ k i. omega (arith, h.within k i, length-set seen key false);
      known = h.known;
      left = λ k s. elim (cases_eq k key) [
        | inl same ↦ absurd (false≢true (sym (get_or-set_same seen key false false within) ∙ ap (λ (x : ℕ). get_or (set seen key false) x false) (sym same) ∙ s))
        | inr ne ↦ (
            let l = h.left k (sym (get_or-set_other seen key k false false ne) ∙ s) in
            (l.0, elim (cases_eq l.0 at) [ inl e ↦ absurd (ne (sym l.3 ∙ ap (λ (x : ℕ). get_or reached x 0) e ∙ here)) | inr other ↦ omega (arith, other, l.1) ], l.2, l.3))
      ];
    }
