-- A renamed chain under its key, at the place of its new name.
use Rattle.std.proofs.Common.{◌≡◌, ◌≢◌, ◌⊎◌, inl, inr, ℕ, zero, suc, ◌+◌, ◌-◌, ◌<◌, ◌≤◌, Bool, true, false, cond, ◌||◌, List, [], ◌∷◌, length, get_or, map, refl, sym, ◌∙◌, ap, arith, subst, Option, Some, None, IsSome, All, option_map}
use Rattle.std.proofs.lemmas.Option.{none-some, same_Some}
use Rattle.std.proofs.Math.ListN.{set}
use Rattle.std.specs.Prelude.{count_by, insert, remove, min, nat_lt, nat_eq}
use Rattle.std.specs.List.{list_any, position}
use Rattle.std.specs.Str.{bytes_eq}
use Rattle.std.proofs.lemmas.Bool.{cases_Bool, cases_eq, cases_lt, cond-true, cond-false, false≢true, or_left, or_right, eq-eqb, ne_eqb, eqb-true, eqb-false, lt-ltb, le-ltb}
use Rattle.std.proofs.lemmas.List.{length-map}
use Rattle.std.proofs.lemmas.List.Edits.{get_or-insert_at, get_or-remove_above, get_or-remove_below, length-insert, length-remove}
use Rattle.std.proofs.lemmas.List.Elements.{All-head, All-map, All-tail, All-weaker}
use Rattle.std.proofs.lemmas.List.Sums.{sum_by-cons}
use Rattle.std.proofs.lemmas.Slice.Eq.{bytes_eq-Decides}
use Rattle.fields.specs.values.Name.{is_name, name_of}
use Rattle.rules.specs.declared.options.option_value.OptionValue.{OptionValue}
use Rattle.rules.specs.declared.rule.action.Action.{Action}
use Rattle.rules.specs.declared.rule.action.Action.TheVariants as action
use Rattle.rules.specs.declared.rule.target.Target.{Target}
use Rattle.rules.specs.declared.rule.target.Target.TheVariants as target
use Rattle.rules.specs.Printing.{RenamedReadsBack}
use Rattle.rules.specs.rule.Actions.{action_with_chain_name, target_of, target_with, with_chain_name}
use Rattle.rules.specs.rule.Rules.{Rule}
use Rattle.table.specs.chains.Sound.{IsSound}
use Rattle.table.specs.chains.Table.{Table, Chain, Policy, chain_in, comes_before, is_built_in, is_named, is_this, names, names_of}
use Rattle.table.specs.edits.Edits.{Rename, edited, placed, renamed_rule, renamed_chain}
use Rattle.table.specs.steps.Kept.{blank, slot_at, stored_at, name_at, listed, listed_at, listed_stored, table_with, leading, leading_in, IsIn, IsUser, LinksTo, IsLinked, IsIndexFor, IsStored, IsKept, AreRetargeted, moved_key, retargeted}
use Rattle.table.specs.steps.StoredChains.{StoredChain, flow_of, leads_to, ones, rule_in, rules_in, IsClassified, AreEdges}
use Rattle.table.specs.declared.chain.edges.Edge.{Edge}
use Rattle.table.specs.declared.chain.entry.Entry.{Entry}
use Rattle.table.proofs.laws.chains.StoreLaws.{key_within, listed_by, stored_set_other, stored_set_same, some_set, set_some, map_insert, map_remove, built_in_first, length-listed, length-names, listed_get, names_apart, names_get, texts_differ, user_after}
use Rattle.table.proofs.laws.chains.CountLaws.{part_kept}
use Rattle.table.proofs.laws.chains.PlaceLaws.{any_none, any_some}
use Rattle.table.proofs.laws.chains.RenamedLaws.{IsRename, moved_is, names_at, names_rest, own_at, rename_sound, renamed_all, renamed_at, renamed_get, renamed_other, renamed_own}
use Rattle.table.proofs.laws.edits.MakeLaws.{insert_cases, leading_insert, not_turned, placed_is, shifted_at, stays_at}

-- The chains under their keys

-- the chain under the key has the name, and so have the rules that lead to it
pub record IsRenamed (slots new : List (Option StoredChain)) (order : List ℕ) (key : ℕ) (name : List ℕ) : Type 0 where
  pub present : (j : ℕ) → j < length order → IsSome (slot_at new (get_or order j 0))
  pub no_more : (k : ℕ) → IsSome (slot_at new k) → IsSome (slot_at slots k)
  pub own : (stored_at new key).name ≡ name
  pub others : (k : ℕ) → k ≢ key → (stored_at new k).name ≡ (stored_at slots k).name
  pub references : (k : ℕ) → (stored_at new k).references ≡ (stored_at slots k).references
  pub classified : (j : ℕ) → j < length order → IsClassified (stored_at new (get_or order j 0))
  pub entries : (j : ℕ) → j < length order → (stored_at new (get_or order j 0)).entries ≡ map (retargeted key name) (stored_at slots (get_or order j 0)).entries

pub renamed_set : (ps : List Policy) (slots mid : List (Option StoredChain)) (order : List ℕ) (place key : ℕ) (name : List ℕ) (stored_chain new : StoredChain) → IsStored ps slots order → place < length order → get_or order place 0 ≡ key → AreRetargeted slots mid order key name (length order)
    → slot_at mid key ≡ Some stored_chain → new.name ≡ name → new.entries ≡ stored_chain.entries → new.references ≡ stored_chain.references → IsClassified new → IsRenamed slots (set mid key (Some new)) order key name
renamed_set ps slots mid order place key name stored_chain new s lt at h slot named entries refs classified =
    let O : Option StoredChain → Type 0 = λ (o : Option StoredChain). IsSome o in
    let within : key < length mid = key_within mid key (subst O (sym slot) refl) in
    let after : List (Option StoredChain) = set mid key (Some new) in
    record {
      present = λ j lj. some_set mid key (get_or order j 0) new within (h.present (get_or order j 0) (s.present j lj));
      no_more = λ k there. h.no_more k (set_some mid key k new (subst O (sym slot) refl) there);
      own = ap (λ (r : StoredChain). r.name) (stored_set_same mid key new within) ∙ named;
      others = λ k ne. ap (λ (r : StoredChain). r.name) (stored_set_other mid key k new ne) ∙ h.named k;
      references = λ k. part_kept mid key stored_chain new (λ (r : StoredChain). r.references) slot refs k ∙ h.references k;
      classified = λ j lj.
          elim (cases_eq (get_or order j 0) key) [
            | inl q ↦ subst IsClassified (sym (ap (stored_at after) q ∙ stored_set_same mid key new within)) classified
            | inr ne ↦ subst IsClassified (sym (stored_set_other mid key (get_or order j 0) new ne)) (h.classified j lj)
          ];
      entries = λ j lj. part_kept mid key stored_chain new (λ (r : StoredChain). r.entries) slot entries (get_or order j 0) ∙ h.done j lj lj;
    }

-- a rule leads to the chain where it names it
same_key : (ps : List Policy) (slots : List (Option StoredChain)) (order : List ℕ) (place key to : ℕ) (old n : List ℕ) → IsStored ps slots order → place < length order → get_or order place 0 ≡ key → (stored_at slots key).name ≡ old
    → IsUser order to → (stored_at slots to).name ≡ n → nat_eq to key ≡ bytes_eq n old
same_key ps slots order place key to old n s lt at own u named =
    elim (cases_eq to key) [
      | inl e ↦ eq-eqb to key e ∙ sym ((bytes_eq-Decides n old).1 (sym named ∙ ap (λ (k : ℕ). (stored_at slots k).name) e ∙ own))
      | inr ne ↦ ne_eqb to key ne ∙ sym (texts_differ n old (λ q.
          (let same : name_at slots order u.0 ≡ name_at slots order place = ap (λ (k : ℕ). (stored_at slots k).name) u.3 ∙ named ∙ q ∙ sym own ∙ ap (λ (k : ℕ). (stored_at slots k).name) (sym at) in
          let i : u.0 ≡ place = names_apart ps slots order s u.0 place u.2 lt same in
          ne (sym u.3 ∙ ap (λ (j : ℕ). get_or order j 0) i ∙ at))))
    ]

leads_names : (ps : List Policy) (slots : List (Option StoredChain)) (order : List ℕ) (place key : ℕ) (old : List ℕ) → IsStored ps slots order → place < length order → get_or order place 0 ≡ key → (stored_at slots key).name ≡ old → (o : Option Target) (to : ℕ)
    → LinksTo slots order to (chain_in o) → leads_to key (flow_of o to) ≡ is_this old (chain_in o)
leads_names ps slots order place key old s lt at own None to l = refl
leads_names ps slots order place key old s lt at own (Some target.Log) to l = refl
leads_names ps slots order place key old s lt at own (Some target.Accept) to l = refl
leads_names ps slots order place key old s lt at own (Some target.Drop) to l = refl
leads_names ps slots order place key old s lt at own (Some (target.Reject kind)) to l = refl
leads_names ps slots order place key old s lt at own (Some target.Return) to l = refl
leads_names ps slots order place key old s lt at own (Some (target.Jump n)) to l = same_key ps slots order place key to old n s lt at own l.0 l.1
leads_names ps slots order place key old s lt at own (Some (target.Goto n)) to l = same_key ps slots order place key to old n s lt at own l.0 l.1

-- so the rules follow as the definition says
rules_follow : (ps : List Policy) (slots : List (Option StoredChain)) (order : List ℕ) (place key : ℕ) (old name : List ℕ) → IsStored ps slots order → place < length order → get_or order place 0 ≡ key → (stored_at slots key).name ≡ old → (es : List Entry)
    → All (IsLinked slots order) es → map rule_in (map (retargeted key name) es) ≡ map (renamed_rule old name) (map rule_in es)
rules_follow ps slots order place key old name s lt at own [] h = refl
rules_follow ps slots order place key old name s lt at own (e ∷ es) h =
    let l : IsLinked slots order e = All-head (IsLinked slots order) e es h in
    let same : leads_to key e.flow ≡ names old e.rule = ap (leads_to key) l.1 ∙ leads_names ps slots order place key old s lt at own (target_of e.rule) l.0 l.2 in
    let head : rule_in (retargeted key name e) ≡ renamed_rule old name e.rule = ap (λ b. cond b (with_chain_name name e.rule) e.rule) same in
    let tail = rules_follow ps slots order place key old name s lt at own es (All-tail (IsLinked slots order) e es h) in
    λ i. head i ∷ tail i

pub listed_follows : (ps : List Policy) (slots new : List (Option StoredChain)) (order : List ℕ) (place key : ℕ) (old name : List ℕ) → IsStored ps slots order → place < length order → get_or order place 0 ≡ key → (stored_at slots key).name ≡ old → IsRenamed slots new order key name
    → listed new order ≡ renamed_all old name (listed slots order)
listed_follows ps slots new order place key old name s lt at own r =
    listed_by (renamed_chain old name) slots new order
    (λ k lk.
    let x : Chain = listed_at slots (get_or order k 0) in
    let rules : rules_in (stored_at new (get_or order k 0)) ≡ map (renamed_rule old name) (rules_in (stored_at slots (get_or order k 0))) =
    ap (map rule_in) (r.entries k lk) ∙ rules_follow ps slots order place key old name s lt at own (stored_at slots (get_or order k 0)).entries (s.linked k lk) in
    let named : (stored_at new (get_or order k 0)).name ≡ (renamed_chain old name x).name = elim (cases_eq (get_or order k 0) key) [
      | inl q ↦ ap (λ (j : ℕ). (stored_at new j).name) q ∙ r.own ∙ sym (renamed_own old name x ((bytes_eq-Decides x.name old).1 (ap (λ (j : ℕ). (stored_at slots j).name) q ∙ own)))
      | inr ne ↦ r.others (get_or order k 0) ne ∙ sym (renamed_other old name x (texts_differ x.name old (λ q.
          (let same : name_at slots order k ≡ name_at slots order place = q ∙ sym own ∙ ap (λ (j : ℕ). (stored_at slots j).name) (sym at) in
          let i : k ≡ place = names_apart ps slots order s k place lk lt same in
          ne (ap (λ (j : ℕ). get_or order j 0) i ∙ at)))))
    ] in
    λ i. record { name = named i; rules = rules i })

-- The index

-- what is at a place of a list without one element
rest_get : {X : Type 0} (xs : List X) (place k : ℕ) (d : X) → place < length xs → k < length (remove xs place)
    → (q : ℕ) × (q < length xs) × (q ≢ place) × (get_or (remove xs place) k d ≡ get_or xs q d) × (((k < place) × (q ≡ k)) ⊎ ((place ≤ k) × (q ≡ k + 1)))
rest_get xs place k d lt lk =
    let size = length-remove xs place lt in
    elim (cases_lt k place) [
      | inl below ↦ (k, omega (arith, below, lt), omega (arith, below), get_or-remove_below xs place d k below lt, inl (below, refl))
      | inr above ↦ (k + 1, omega (arith, lk, size), omega (arith, above), get_or-remove_above xs place d k above lt, inr (above, refl))
    ]

-- the place of the key after the move
abbrev landing : ℕ → ℕ → ℕ
landing place to = cond (nat_lt place to) (to - 1) to

landing_is : (place to : ℕ) → ((place < to) × (landing place to + 1 ≡ to)) ⊎ ((to ≤ place) × (landing place to ≡ to))
landing_is place to =
    elim (cases_lt place to) [
      | inl below ↦ (let e : landing place to ≡ to - 1 = cond-true (nat_lt place to) (to - 1) to (lt-ltb place to below) in inl (below, omega (arith, e, below)))
      | inr above ↦ inr (above, cond-false (nat_lt place to) (to - 1) to (le-ltb place to above))
    ]

pub leading_remove : (slots : List (Option StoredChain)) (keys : List ℕ) (i k : ℕ) → i < length keys → leading slots (remove keys i) k + leading_in k (stored_at slots (get_or keys i 0)) ≡ leading slots keys k
leading_remove slots [] i k lt = absurd (omega (arith, lt))
leading_remove slots (x ∷ xs) zero k lt = omega arith
leading_remove slots (x ∷ xs) (suc i) k lt = let h = leading_remove slots xs i k (omega (arith, lt)) in omega (arith, h)

-- the new index has the keys of the old
record IsMoved (order after : List ℕ) : Type 0 where
  pub size : length after ≡ length order
  pub from : (j : ℕ) → j < length after → (k : ℕ) × (k < length order) × (get_or after j 0 ≡ get_or order k 0)
  pub apart : (i j : ℕ) → i < length after → j < length after → get_or after i 0 ≡ get_or after j 0 → i ≡ j
  pub stay : (k : ℕ) → IsIn order k → IsIn after k
  pub user : (to : ℕ) → IsUser order to → IsUser after to
  pub leads : (slots : List (Option StoredChain)) (k : ℕ) → leading slots after k ≡ leading slots order k

moves : (order : List ℕ) (place x : ℕ) → ((i j : ℕ) → i < length order → j < length order → get_or order i 0 ≡ get_or order j 0 → i ≡ j) → 3 ≤ place → place < length order → 3 ≤ x → x < length order
    → IsMoved order (insert (remove order place) x (get_or order place 0))
moves order place x apart user lt ge below =
    let key : ℕ = get_or order place 0 in
    let rest : List ℕ = remove order place in
    let less : length rest + 1 ≡ length order = length-remove order place lt in
    let le : x ≤ length rest = omega (arith, less, below) in
    let after : List ℕ = insert rest x key in
    let size : length after ≡ length rest + 1 = length-insert rest x key le in
    let stays : (k : ℕ) → k < length order → (i : ℕ) × (i < length after) × (get_or after i 0 ≡ get_or order k 0) × (min 3 k ≤ i) = λ k lk. elim (cases_eq k place) [
      | inl q ↦ (x, omega (arith, size, le), get_or-insert_at rest x key 0 le ∙ ap (λ (n : ℕ). get_or order n 0) (sym q), omega (arith, ge))
      | inr ne ↦ (
          let w = stays_at order place k lt lk ne in
          let z = shifted_at rest x key w.0 le w.1 in
          (z.0, z.1, z.2 ∙ w.2, omega (arith, user, w.3, z.3)))
    ] in
    record {
      size = size ∙ less;
      from = λ j lj.
          elim (insert_cases rest x key j le lj) [
            | inl at ↦ (place, lt, at.1)
            | inr q ↦ (let w = rest_get order place q.0 0 lt q.1 in (w.0, w.1, q.2 ∙ w.3))
          ];
      apart = λ i j li lj e.
          elim (insert_cases rest x key i le li) [
            | inl u ↦ elim (insert_cases rest x key j le lj) [
              | inl v ↦ u.0 ∙ sym v.0
              | inr v ↦ (let w = rest_get order place v.0 0 lt v.1 in absurd (w.2 (sym (apart place w.0 lt w.1 (sym u.1 ∙ e ∙ v.2 ∙ w.3)))))
            ]
            | inr u ↦ (
                let y = rest_get order place u.0 0 lt u.1 in
                elim (insert_cases rest x key j le lj) [
                  | inl v ↦ absurd (y.2 (apart y.0 place y.1 lt (sym y.3 ∙ sym u.2 ∙ e ∙ v.1)))
                  | inr v ↦ (
                      let w = rest_get order place v.0 0 lt v.1 in
                      let q : y.0 ≡ w.0 = apart y.0 w.0 y.1 w.1 (sym y.3 ∙ sym u.2 ∙ e ∙ v.2 ∙ w.3) in
                      let same : u.0 ≡ v.0 = omega (arith, q, y.4, w.4) in
                      omega (arith, same, u.3, v.3))
                ])
          ];
      stay = λ k there. (let w = stays there.0 there.1 in (w.0, w.1, w.2 ∙ there.2));
      user = λ to u. (let w = stays u.0 u.2 in (w.0, omega (arith, w.3, u.1), w.1, w.2 ∙ u.3));
      leads = λ slots k. omega (arith, leading_insert slots rest x key k le, leading_remove slots order place k lt);
    }

-- The plain table

-- the name at a place without the chain's own
rest_name : (ps : List Policy) (slots : List (Option StoredChain)) (order : List ℕ) (old name : List ℕ) (place k : ℕ) (d : Chain) → IsRename (table_with ps slots order) old name place → k < length (remove (renamed_all old name (listed slots order)) place)
    → (q : ℕ) × (q < length order) × ((get_or (remove (renamed_all old name (listed slots order)) place) k d).name ≡ name_at slots order q) × (((k < place) × (q ≡ k)) ⊎ ((place ≤ k) × (q ≡ k + 1)))
rest_name ps slots order old name place k d m lk =
    let ds : List Chain = renamed_all old name (listed slots order) in
    let ns : List (List ℕ) = names_of (listed slots order) in
    let long : length ns ≡ length order = length-names slots order in
    let listed_long : length (listed slots order) ≡ length order = length-listed slots order in
    let within : place < length (listed slots order) = m.within in
    let at : place < length ns = omega (arith, within, long, listed_long) in
    let renamed_long : length ds ≡ length (listed slots order) = length-map (listed slots order) (renamed_chain old name) in
    let one = length-remove ds place (omega (arith, within, renamed_long)) in
    let two = length-remove ns place at in
    let w = rest_get ns place k [] at (omega (arith, lk, one, two, renamed_long, long, listed_long)) in
    let below : w.0 < length order = omega (arith, w.1, long) in
    (w.0, below, sym (names_at (remove ds place) k d lk) ∙ ap (λ (xs : List (List ℕ)). get_or xs k []) (names_rest (table_with ps slots order) old name place d m) ∙ w.3 ∙ names_get slots order w.0 [] below, w.4)

lands : (ps : List Policy) (slots : List (Option StoredChain)) (order : List ℕ) (old name : List ℕ) (place to : ℕ) (d : Chain) → IsStored ps slots order → IsIndexFor name slots order to → IsRename (table_with ps slots order) old name place → place < length order
    → placed (renamed_at (table_with ps slots order) old name place d) (remove (renamed_all old name (listed slots order)) place)
    ≡ insert (remove (renamed_all old name (listed slots order)) place) (landing place to) (renamed_at (table_with ps slots order) old name place d)
lands ps slots order old name place to d s p m lt =
    let ds : List Chain = renamed_all old name (listed slots order) in
    let rest : List Chain = remove ds place in
    let c : Chain = renamed_at (table_with ps slots order) old name place d in
    let size : length ds ≡ length order = length-map (listed slots order) (renamed_chain old name) ∙ length-listed slots order in
    let less : length rest + 1 ≡ length ds = length-remove ds place (omega (arith, size, lt)) in
    let land = landing_is place to in
    let within : to ≤ length order = p.within in
    let T : List ℕ → Bool = λ n. is_built_in n || comes_before n name in
    placed_is c rest (landing place to) d (omega (arith, land, size, less, within, lt))
    (λ k below.
    let w = rest_name ps slots order old name place k d m (omega (arith, below, land, size, less, within, lt)) in
    ap T w.2
    ∙ elim (cases_lt w.0 3) [
      | inl first ↦ or_left (is_built_in (name_at slots order w.0)) _ (built_in_first ps slots order (name_at slots order w.0) w.0 s first refl)
      | inr user ↦ or_right (is_built_in (name_at slots order w.0)) _ (p.before w.0 user (omega (arith, below, land, w.3)))
    ])
    (λ below.
    let w = rest_name ps slots order old name place (landing place to) d m below in
    let user : 3 ≤ to = p.user in
    let late : to ≤ w.0 = omega (arith, land, w.3) in
    ap T w.2
    ∙ ap (λ b. b || comes_before (name_at slots order w.0) name) (user_after ps slots order (name_at slots order w.0) w.0 s (omega (arith, late, user)) w.1 refl)
    ∙ not_turned name (name_at slots order w.0) (p.after w.0 late w.1))

pub table_renamed : (ps : List Policy) (slots new : List (Option StoredChain)) (order : List ℕ) (place to key : ℕ) (old name : List ℕ) → IsStored ps slots order → place < length order → get_or order place 0 ≡ key → (stored_at slots key).name ≡ old → IsIndexFor name slots order to
    → IsRename (table_with ps slots order) old name place → IsRenamed slots new order key name → table_with ps new (moved_key order place to) ≡ edited (Rename old name) (table_with ps slots order)
table_renamed ps slots new order place to key old name s lt at own p m r =
    let d : Chain = listed_stored blank in
    let P : List Chain → Table = λ (cs : List Chain). record { policies = ps; chains = cs } in
    let cs : List Chain = listed slots order in
    let ds : List Chain = renamed_all old name cs in
    let x : ℕ = landing place to in
    let first : ℕ = get_or order place 0 in
    let c : Chain = renamed_at (table_with ps slots order) old name place d in
    let follows : listed new order ≡ ds = listed_follows ps slots new order place key old name s lt at own r in
    let as_new : List ℕ → Chain = λ n. record { name = n; rules = map (renamed_rule old name) (get_or cs place d).rules } in
    let moved_one : listed_at new first ≡ c = sym (listed_get new order place d lt) ∙ ap (λ (xs : List Chain). get_or xs place d) follows ∙ renamed_get (table_with ps slots order) old name place d m.within
    ∙ ap as_new (renamed_own old name (get_or cs place d) (own_at (table_with ps slots order) old name place d m)) in
    ap P (map_insert (listed_at new) (remove order place) x first
    ∙ ap (λ (xs : List Chain). insert xs x (listed_at new first)) (map_remove (listed_at new) order place ∙ ap (λ (xs : List Chain). remove xs place) follows)
    ∙ ap (λ (y : Chain). insert (remove ds place) x y) moved_one
    ∙ sym (lands ps slots order old name place to d s p m lt) ∙ sym (moved_is (table_with ps slots order) old name place d m))

-- The chains as they are kept

flow_anew : (name : List ℕ) (a : Option Action) (options : List OptionValue) (to : ℕ)
    → flow_of (option_map (λ x. target_with x options) a) to ≡ flow_of (option_map (λ x. target_with x options) (action_with_chain_name name a)) to
flow_anew name None options to = refl
flow_anew name (Some action.Accept) options to = refl
flow_anew name (Some action.Drop) options to = refl
flow_anew name (Some action.Return) options to = refl
flow_anew name (Some action.Reject) options to = refl
flow_anew name (Some action.Log) options to = refl
flow_anew name (Some (action.Jump n)) options to = refl
flow_anew name (Some (action.Goto n)) options to = refl

-- a rule that leads to the chain names it by its new name
link_anew : (new : List (Option StoredChain)) (order after : List ℕ) (key to : ℕ) (name : List ℕ) (slots : List (Option StoredChain)) → (stored_at new key).name ≡ name → ((k : ℕ) → IsUser order k → IsUser after k) → (a : Option Action) (options : List OptionValue)
    → leads_to key (flow_of (option_map (λ x. target_with x options) a) to) ≡ true → LinksTo slots order to (chain_in (option_map (λ x. target_with x options) a))
    → LinksTo new after to (chain_in (option_map (λ x. target_with x options) (action_with_chain_name name a)))
link_anew new order after key to name slots own user None options h l = tt
link_anew new order after key to name slots own user (Some action.Accept) options h l = tt
link_anew new order after key to name slots own user (Some action.Drop) options h l = tt
link_anew new order after key to name slots own user (Some action.Return) options h l = tt
link_anew new order after key to name slots own user (Some action.Reject) options h l = tt
link_anew new order after key to name slots own user (Some action.Log) options h l = tt
link_anew new order after key to name slots own user (Some (action.Jump n)) options h l = (user to l.0, ap (λ (k : ℕ). (stored_at new k).name) (eqb-true to key h) ∙ own)
link_anew new order after key to name slots own user (Some (action.Goto n)) options h l = (user to l.0, ap (λ (k : ℕ). (stored_at new k).name) (eqb-true to key h) ∙ own)

-- and another names its chain as before
link_other : (slots new : List (Option StoredChain)) (order after : List ℕ) (key to : ℕ) → ((k : ℕ) → k ≢ key → (stored_at new k).name ≡ (stored_at slots k).name) → ((k : ℕ) → IsUser order k → IsUser after k) → (o : Option Target)
    → leads_to key (flow_of o to) ≡ false → LinksTo slots order to (chain_in o) → LinksTo new after to (chain_in o)
link_other slots new order after key to others user None h l = tt
link_other slots new order after key to others user (Some target.Log) h l = tt
link_other slots new order after key to others user (Some target.Accept) h l = tt
link_other slots new order after key to others user (Some target.Drop) h l = tt
link_other slots new order after key to others user (Some (target.Reject kind)) h l = tt
link_other slots new order after key to others user (Some target.Return) h l = tt
link_other slots new order after key to others user (Some (target.Jump n)) h l = (user to l.0, others to (eqb-false to key h) ∙ l.1)
link_other slots new order after key to others user (Some (target.Goto n)) h l = (user to l.0, others to (eqb-false to key h) ∙ l.1)

entry_linked : (slots new : List (Option StoredChain)) (order after : List ℕ) (key : ℕ) (name : List ℕ) → IsRenamed slots new order key name → ((k : ℕ) → IsUser order k → IsUser after k) → (e : Entry) → IsLinked slots order e
    → IsLinked new after (retargeted key name e)
entry_linked slots new order after key name r user e l =
    let change : Rule → Entry = λ (x : Rule). record { rule = x; flow = e.flow } in
    let Q : Entry → Type 0 = λ (x : Entry). IsLinked new after x in
    elim (cases_Bool (leads_to key e.flow)) [
      | inl t ↦ subst Q (sym (ap change (cond-true (leads_to key e.flow) (with_chain_name name e.rule) e.rule t))) (
        l.0,
        l.1 ∙ flow_anew name e.rule.action e.rule.target_options l.0,
        link_anew new order after key l.0 name slots r.own user e.rule.action e.rule.target_options (sym (ap (leads_to key) l.1) ∙ t) l.2,
      )
      | inr f ↦ subst Q (sym (ap change (cond-false (leads_to key e.flow) (with_chain_name name e.rule) e.rule f)))
          (l.0, l.1, link_other slots new order after key l.0 r.others user (target_of e.rule) (sym (ap (leads_to key) l.1) ∙ f) l.2)
    ]

count_same : (key k : ℕ) (name : List ℕ) (es : List Entry) → count_by (λ (e : Entry). leads_to k e.flow) (map (retargeted key name) es) ≡ count_by (λ (e : Entry). leads_to k e.flow) es
count_same key k name [] = refl
count_same key k name (e ∷ es) =
    let f : Entry → ℕ = λ (x : Entry). ones (leads_to k x.flow) in
    sum_by-cons f (retargeted key name e) (map (retargeted key name) es) ∙ ap (λ n. ones (leads_to k e.flow) + n) (count_same key k name es) ∙ sym (sum_by-cons f e es)

-- and so the edges stay
pub edges_retargeted : (key : ℕ) (name : List ℕ) (es : List Entry) (edges : List Edge) → AreEdges es edges → AreEdges (map (retargeted key name) es) edges
edges_retargeted key name es edges h = record { distinct = h.distinct; exact = λ k. h.exact k ∙ sym (count_same key k name es) }

leading_same : (slots new : List (Option StoredChain)) (keys : List ℕ) (k : ℕ) → ((j : ℕ) → j < length keys → leading_in k (stored_at new (get_or keys j 0)) ≡ leading_in k (stored_at slots (get_or keys j 0)))
    → leading new keys k ≡ leading slots keys k
leading_same slots new [] k h = refl
leading_same slots new (x ∷ xs) k h = let a = h 0 (omega arith) in let b = leading_same slots new xs k (λ j lt. h (suc j) (omega (arith, lt))) in omega (arith, a, b)

pub kept_renamed : (ps : List Policy) (slots new : List (Option StoredChain)) (order : List ℕ) (place to key : ℕ) (old name : List ℕ) → IsKept ps slots order → place < length order → get_or order place 0 ≡ key → (stored_at slots key).name ≡ old → IsIndexFor name slots order to
    → IsRename (table_with ps slots order) old name place → IsRenamed slots new order key name → RenamedReadsBack → IsKept ps new (moved_key order place to)
kept_renamed ps slots new order place to key old name h lt at own p m r reads =
    let s : IsStored ps slots order = h.stored in
    let after : List ℕ = moved_key order place to in
    let land = landing_is place to in
    let user : 3 ≤ place = m.user in
    let late : 3 ≤ to = p.user in
    let within : to ≤ length order = p.within in
    let v : IsMoved order after = moves order place (landing place to) s.apart user lt (omega (arith, land, user, late)) (omega (arith, land, within, lt)) in
    let leads : (k : ℕ) → leading new after k ≡ leading slots order k = λ k. v.leads new k
    ∙ leading_same slots new order k (λ j lj. ap (λ (es : List Entry). count_by (λ (e : Entry). leads_to k e.flow) es) (r.entries j lj) ∙ count_same key k name (stored_at slots (get_or order j 0)).entries) in
    let O : ℕ → Type 0 = λ k. IsSome (slot_at new k) in
    let C : ℕ → Type 0 = λ k. IsClassified (stored_at new k) in
    let L : ℕ → Type 0 = λ k. All (IsLinked new after) (stored_at new k).entries in
    let E : List Entry → Type 0 = λ (es : List Entry). All (IsLinked new after) es in
    let linked : (j : ℕ) → j < length order → L (get_or order j 0) = λ j lj. subst E (sym (r.entries j lj))
    (All-map (IsLinked new after) (retargeted key name) (stored_at slots (get_or order j 0)).entries
    (All-weaker (IsLinked slots order) (λ (e : Entry). IsLinked new after (retargeted key name e)) (entry_linked slots new order after key name r v.user) _ (s.linked j lj))) in
    record {
      stored = record {
        present = λ j lj. (let w = v.from j lj in subst O (sym w.2) (r.present w.0 w.1));
        no_more = λ k there. v.stay k (s.no_more k (r.no_more k there));
        apart = v.apart;
        linked = λ j lj. (let w = v.from j lj in subst L (sym w.2) (linked w.0 w.1));
        classified = λ j lj. (let w = v.from j lj in subst C (sym w.2) (r.classified w.0 w.1));
        sound = subst IsSound (sym (table_renamed ps slots new order place to key old name s lt at own p m r)) (rename_sound (table_with ps slots order) old name place m reads);
      };
      counted = λ j lj.
          (let w = v.from j lj in
          ap (λ (k : ℕ). (stored_at new k).references) w.2 ∙ r.references (get_or order w.0 0) ∙ h.counted w.0 w.1 ∙ ap (λ (k : ℕ). leading slots order k) (sym w.2) ∙ sym (leads (get_or after j 0)));
    }

-- A rename that is accepted

name_form : (name : List ℕ) → name_of name ≡ Some name → is_name name ≡ true
unfolding name_of
name_form name h = elim (cases_Bool (is_name name)) [ inl t ↦ t | inr f ↦ (let none : None ≡ Some name = sym (cond-false (is_name name) (Some name) None f) ∙ h in absurd (none-some _ none)) ]

pub is_rename : (ps : List Policy) (slots : List (Option StoredChain)) (order : List ℕ) (place to : ℕ) (name : List ℕ) → IsStored ps slots order → 3 ≤ place → place < length order → IsIndexFor name slots order to → name_of name ≡ Some name
    → IsRename (table_with ps slots order) (name_at slots order place) name place
is_rename ps slots order place to name s ge lt p form =
    record {
      sound = s.sound;
      user = ge;
      within = omega (arith, lt, length-listed slots order);
      named = λ d. ap (λ (c : Chain). c.name) (listed_get slots order place d lt);
      free = any_none (is_named name) (listed slots order) p.free;
      form = name_form name form;
    }

-- What a call answers

-- the name that was read
pub name_read : (text name : List ℕ) → Some name ≡ name_of text → (is_name text ≡ true) × (name ≡ text)
unfolding name_of
name_read text name h =
    elim (cases_Bool (is_name text)) [
      | inl t ↦ (t, same_Some _ _ (h ∙ cond-true (is_name text) (Some text) None t))
      | inr f ↦ (let none : None ≡ Some name = sym (h ∙ cond-false (is_name text) (Some text) None f) in absurd (none-some _ none))
    ]

-- there was none
pub name_refused : (text : List ℕ) → None ≡ name_of text → is_name text ≡ false
unfolding name_of
name_refused text h = elim (cases_Bool (is_name text)) [ inl t ↦ absurd (none-some _ (h ∙ cond-true (is_name text) (Some text) None t)) | inr f ↦ f ]

-- a chain has the name
pub name_taken : (cs : List Chain) (name : List ℕ) → IsSome (position (is_named name) cs) → list_any (is_named name) cs ≡ true
name_taken cs name h = let w = which (position (is_named name) cs) h in any_some (is_named name) cs w.0 (listed_stored blank) w.1
  where
    which : (o : Option ℕ) → IsSome o → (i : ℕ) × (o ≡ Some i)
    which None e = absurd (false≢true e)
    which (Some i) e = (i, refl)
