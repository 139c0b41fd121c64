-- What holds of chains as they are kept, and what a change of the chain under one key leaves.
use Rattle.std.proofs.Common.{◌≡◌, ◌↔◌, inl, inr, ℕ, suc, ◌+◌, ◌≤◌, Bool, true, false, List, ◌∷◌, ◌++◌, length, take, drop, map, None, refl, sym, ◌∙◌, ap, subst, IsTrue, ◌≢◌, zero, ◌<◌, [], get_or, arith, Option, Some, unwrap_or, ◌-◌, IsSome, All}
use Rattle.std.specs.Prelude.{slice_set}
use Rattle.std.specs.List.{insert, remove, position}
use Rattle.std.specs.Option.{option_map}
use Rattle.std.proofs.lemmas.List.{map-append, take-map, drop-map, map-set, at_drop_all, get_or-map, length-map, length-drop, length-take, get_or-drop, get_or-take, get_or_default, get_or_past, get_or-set_same, get_or-set_other, set-get_or}
use Rattle.std.proofs.lemmas.Bool.{cases_Bool, false≢true, cases_eq, cases_lt, cond-true, cond-false}
use Rattle.std.proofs.lemmas.Slice.Eq.{bytes_eq-Decides}
use Rattle.std.specs.Str.{bytes_eq}
use Rattle.std.specs.Ordering.{nat_cmp, is_lt, ordering_reverse}
use Rattle.std.specs.declared.cmp.Ordering.TheVariants.{Less, Greater}
use Rattle.std.proofs.lemmas.Cmp.{nat_list_cmp_total}
use Rattle.std.specs.Cmp.Lexicographic.{slice_cmp}
use Rattle.std.proofs.Math.ListN.{set}
use Rattle.std.proofs.lemmas.List.Elements.{All-weaker}
use Rattle.classify.specs.Classifier.{Classified, IsClassifierOfRules, EditsRules}
use Rattle.classify.specs.NextMatch.{next_match}
use Rattle.rules.specs.Printing.{rule_text}
use Rattle.rules.specs.rule.Rules.{Rule}
use Rattle.table.specs.edits.Edits.{same_text, changed_chain}
use Rattle.table.specs.steps.StoredChains.{rule_in, StoredChain, rules_in, IsClassified}
use Rattle.table.specs.declared.chain.entry.Entry.{Entry}
use Rattle.table.specs.chains.Table.{Policy, Chain, is_named, is_built_in, names_of, built_in_names, comes_before, Table, chain_named_by}
use Rattle.table.specs.chains.Sound.{IsUserName, IsSound}
use Rattle.table.specs.steps.Kept.{blank, slot_at, stored_at, name_at, listed_stored, listed_at, listed, IsStored, table_with, LinksTo, IsLinked}
use Rattle.table.proofs.laws.chains.SoundLaws.{Differing}
use Rattle.table.proofs.laws.chains.KeepLaws.{front_long, itself_not_before, listed_differ}
use Rattle.table.proofs.laws.chains.PlaceLaws.{before_trans, order, any_some, position_found, position_none, differing_at}

-- ---- The classifier of a chain's rules, and the texts of rules.

pub map_insert : {X Y : Type 0} (f : X → Y) (xs : List X) (n : ℕ) (y : X) → map f (insert xs n y) ≡ insert (map f xs) n (f y)
map_insert f xs n y = map-append f (take n xs) (y ∷ drop n xs) ∙ ap (λ ys. ys ++ f y ∷ map f (drop n xs)) (sym (take-map f n xs)) ∙ ap (λ ys. take n (map f xs) ++ f y ∷ ys) (sym (drop-map f n xs))

pub map_remove : {X Y : Type 0} (f : X → Y) (xs : List X) (n : ℕ) → map f (remove xs n) ≡ remove (map f xs) n
map_remove f xs n = map-append f (take n xs) (drop (suc n) xs) ∙ ap (λ ys. ys ++ map f (drop (suc n) xs)) (sym (take-map f n xs)) ∙ ap (λ ys. take n (map f xs) ++ ys) (sym (drop-map f (suc n) xs))

-- the classifier of a chain's rules after an edit of them
edited : (es fs : List Entry) (edit : List Rule → List Rule) (old new : Classified) → map rule_in fs ≡ edit (map rule_in es)
    → IsClassifierOfRules (map rule_in es) old → EditsRules edit old new → IsClassifierOfRules (map rule_in fs) new
edited es fs edit old new is h k =
    let P : List Rule → Type 0 = λ (rs : List Rule). IsClassifierOfRules rs new in
    subst P (sym is) (k (map rule_in es) h)

pub inserted : (es : List Entry) (n : ℕ) (e : Entry) (old new : Classified) → IsClassifierOfRules (map rule_in es) old
    → EditsRules (λ rules. insert rules n e.rule) old new → IsClassifierOfRules (map rule_in (insert es n e)) new
inserted es n e old new h k = edited es (insert es n e) (λ rules. insert rules n e.rule) old new (map_insert rule_in es n e) h k

pub replaced : (es : List Entry) (n : ℕ) (e : Entry) (old new : Classified) → IsClassifierOfRules (map rule_in es) old
    → EditsRules (λ rules. slice_set rules n e.rule) old new → IsClassifierOfRules (map rule_in (slice_set es n e)) new
replaced es n e old new h k = edited es (slice_set es n e) (λ rules. slice_set rules n e.rule) old new (map-set rule_in es n e) h k

pub removed : (es : List Entry) (n : ℕ) (old new : Classified) → IsClassifierOfRules (map rule_in es) old
    → EditsRules (λ rules. remove rules n) old new → IsClassifierOfRules (map rule_in (remove es n)) new
removed es n old new h k = edited es (remove es n) (λ rules. remove rules n) old new (map_remove rule_in es n) h k

-- where no rule is left none matches
pub none_left : {B : Type 0} (test : B → Bool) (things : List B) (from : ℕ) → length things ≤ from → next_match test things from ≡ None
none_left test things from le = at_drop_all (λ xs. option_map (λ (k : ℕ). from + k) (position test xs)) things from le

-- a comparison of texts, by whatever test tells whether they are equal
pub texts_decide : (b : Bool) (r s : Rule) → (IsTrue b ↔ (rule_text r ≡ rule_text s)) → b ≡ same_text r s
texts_decide true r s h = sym ((bytes_eq-Decides (rule_text r) (rule_text s)).1 (h.0 refl))
texts_decide false r s h =
    elim (cases_Bool (same_text r s)) [
      | inl same ↦ absurd (false≢true (h.1 ((bytes_eq-Decides (rule_text r) (rule_text s)).0 same)))
      | inr differ ↦ sym differ
    ]

-- ---- What holds of chains as they are kept.

pub length-listed : (slots : List (Option StoredChain)) (order : List ℕ) → length (listed slots order) ≡ length order
length-listed slots order = length-map order (listed_at slots)

pub listed_get : (slots : List (Option StoredChain)) (order : List ℕ) (i : ℕ) (d : Chain) → i < length order → get_or (listed slots order) i d ≡ listed_at slots (get_or order i 0)
listed_get slots order i d lt = get_or-map (listed_at slots) order i 0 d lt

pub names_get : (slots : List (Option StoredChain)) (order : List ℕ) (i : ℕ) (d : List ℕ) → i < length order → get_or (names_of (listed slots order)) i d ≡ name_at slots order i
names_get slots order i d lt =
    get_or-map (λ (c : Chain). c.name) (listed slots order) i (listed_stored blank) d (omega (arith, length-listed slots order)) ∙ ap (λ (c : Chain). c.name) (listed_get slots order i (listed_stored blank) lt)

pub length-names : (slots : List (Option StoredChain)) (order : List ℕ) → length (names_of (listed slots order)) ≡ length order
length-names slots order = length-map (listed slots order) (λ (c : Chain). c.name) ∙ length-listed slots order

-- no two chains have one name
pub names_apart : (ps : List Policy) (slots : List (Option StoredChain)) (order : List ℕ) → IsStored ps slots order → (i j : ℕ) → i < length order → j < length order → name_at slots order i ≡ name_at slots order j → i ≡ j
names_apart ps slots order s i j li lj e =
    let ns : List (List ℕ) = names_of (listed slots order) in
    let differ : Differing ns = listed_differ ns s.sound.listed in
    let same : get_or ns i [] ≡ get_or ns j [] = names_get slots order i [] li ∙ e ∙ sym (names_get slots order j [] lj) in
    elim (cases_lt i j) [
      | inl lt ↦ absurd (differing_at ns i j [] differ lt (omega (arith, length-names slots order)) same)
      | inr ge ↦ elim (cases_eq i j) [
        | inl q ↦ q
        | inr ne ↦ absurd (differing_at ns j i [] differ (omega (arith, ge, ne)) (omega (arith, length-names slots order)) (sym same))
      ]
    ]

is_named_at : (slots : List (Option StoredChain)) (order : List ℕ) (name : List ℕ) (i : ℕ) (d : Chain) → i < length order → is_named name (get_or (listed slots order) i d) ≡ bytes_eq (name_at slots order i) name
is_named_at slots order name i d lt = ap (is_named name) (listed_get slots order i d lt)

-- texts that differ
pub texts_differ : (a b : List ℕ) → a ≢ b → bytes_eq a b ≡ false
texts_differ a b ne = elim (cases_Bool (bytes_eq a b)) [ inl t ↦ absurd (ne ((bytes_eq-Decides a b).0 t)) | inr f ↦ f ]

-- the place of a chain of the name
pub place_is : (ps : List Policy) (slots : List (Option StoredChain)) (order : List ℕ) (name : List ℕ) (i : ℕ) → IsStored ps slots order → i < length order → name_at slots order i ≡ name → position (is_named name) (listed slots order) ≡ Some i
place_is ps slots order name i s lt e =
    let d : Chain = listed_stored blank in
    position_found (is_named name) (listed slots order) i d (omega (arith, length-listed slots order))
    (λ k below.
    is_named_at slots order name k d (omega (arith, below, lt)) ∙ texts_differ (name_at slots order k) name (λ q. let same : k ≡ i = names_apart ps slots order s k i (omega (arith, below, lt)) lt (q ∙ sym e) in omega (arith, same, below)))
    (is_named_at slots order name i d lt ∙ (bytes_eq-Decides (name_at slots order i) name).1 e)

-- there is none
pub place_is_none : (slots : List (Option StoredChain)) (order : List ℕ) (name : List ℕ) → ((k : ℕ) → k < length order → name_at slots order k ≢ name) → position (is_named name) (listed slots order) ≡ None
place_is_none slots order name none =
    let d : Chain = listed_stored blank in
    position_none (is_named name) (listed slots order) d
    (λ k lt.
    let below : k < length order = omega (arith, lt, length-listed slots order) in
    is_named_at slots order name k d below ∙ texts_differ (name_at slots order k) name (none k below))

-- The order of the names

-- the built-in chains are there
pub long : (ps : List Policy) (slots : List (Option StoredChain)) (order : List ℕ) → IsStored ps slots order → 3 ≤ length order
long ps slots order s =
    let e = front_long (names_of (listed slots order)) s.sound.listed.built_in in
    omega (arith, e, length-take 3 (names_of (listed slots order)), length-names slots order)

-- their names stand first
pub built_in_at : (ps : List Policy) (slots : List (Option StoredChain)) (order : List ℕ) → IsStored ps slots order → (k : ℕ) → k < 3 → name_at slots order k ≡ get_or built_in_names k []
built_in_at ps slots order s k lt =
    let ns : List (List ℕ) = names_of (listed slots order) in
    let at : k < length order = omega (arith, lt, long ps slots order s) in
    sym (names_get slots order k [] at) ∙ sym (get_or-take 3 ns k [] lt) ∙ ap (λ (xs : List (List ℕ)). get_or xs k []) s.sound.listed.built_in

-- those of the user chains rise
pub names_rise : (ps : List Policy) (slots : List (Option StoredChain)) (order : List ℕ) → IsStored ps slots order → (i j : ℕ) → 3 ≤ i → i < j → j < length order → comes_before (name_at slots order i) (name_at slots order j) ≡ true
names_rise ps slots order s i j user below lt =
    let ns : List (List ℕ) = names_of (listed slots order) in
    let len : length ns ≡ length order = length-names slots order in
    let get : (k : ℕ) → 3 ≤ k → k < length order → get_or (drop 3 ns) (k - 3) [] ≡ name_at slots order k =
    λ k ge at. get_or-drop 3 ns (k - 3) [] ∙ ap (λ n. get_or ns n []) (omega (arith, ge)) ∙ names_get slots order k [] at in
    let r = s.sound.listed.order (i - 3) (j - 3) [] (omega (arith, user, below)) (omega (arith, user, below, lt, len, length-drop 3 ns)) in
    let P : List ℕ → Type 0 = λ a. comes_before a (name_at slots order j) ≡ true in
    let Q : List ℕ → Type 0 = λ b. comes_before (get_or (drop 3 ns) (i - 3) []) b ≡ true in
    subst P (get i user (omega (arith, below, lt))) (subst Q (get j (omega (arith, user, below)) lt) r)

less_before : (a b : List ℕ) → order a b ≡ Less → comes_before a b ≡ true
less_before a b e = ap is_lt e

-- a name that comes after the one in the middle comes after all up to there
pub up_to_middle : (ps : List Policy) (slots : List (Option StoredChain)) (order : List ℕ) (name : List ℕ) (middle k : ℕ) → IsStored ps slots order → middle < length order → 3 ≤ k → k ≤ middle → slice_cmp nat_cmp name (name_at slots order middle) ≡ Greater
    → comes_before (name_at slots order k) name ≡ true
up_to_middle ps slots order name middle k s lt user le after =
    let m : List ℕ = name_at slots order middle in
    let turned : comes_before m name ≡ true = less_before m name (nat_list_cmp_total.antisymm m name ∙ ap ordering_reverse after) in
    elim (cases_eq k middle) [
      | inl same ↦ ap (λ (j : ℕ). comes_before (name_at slots order j) name) same ∙ turned
      | inr ne ↦ before_trans (name_at slots order k) m name (names_rise ps slots order s k middle user (omega (arith, le, ne)) lt) turned
    ]

-- a name that comes before the one in the middle comes before all from there on
pub from_middle : (ps : List Policy) (slots : List (Option StoredChain)) (order : List ℕ) (name : List ℕ) (middle k : ℕ) → IsStored ps slots order → 3 ≤ middle → middle ≤ k → k < length order → slice_cmp nat_cmp name (name_at slots order middle) ≡ Less
    → comes_before name (name_at slots order k) ≡ true
from_middle ps slots order name middle k s user le lt before =
    let m : List ℕ = name_at slots order middle in
    let turned : comes_before name m ≡ true = less_before name m before in
    elim (cases_eq k middle) [
      | inl same ↦ ap (λ (j : ℕ). comes_before name (name_at slots order j)) same ∙ turned
      | inr ne ↦ before_trans name m (name_at slots order k) turned (names_rise ps slots order s middle k user (omega (arith, le, ne)) lt)
    ]

-- names in order differ
pub before_differ : (a b : List ℕ) → comes_before a b ≡ true → a ≢ b
before_differ a b e q = false≢true (sym (itself_not_before b) ∙ ap (λ x. comes_before x b) (sym q) ∙ e)

-- no chain has a name that isn't built-in, and that stands between those before and after
pub free_between : (ps : List Policy) (slots : List (Option StoredChain)) (order : List ℕ) (name : List ℕ) (i : ℕ) → IsStored ps slots order → ((k : ℕ) → k < 3 → get_or built_in_names k [] ≢ name)
    → ((k : ℕ) → 3 ≤ k → k < i → comes_before (name_at slots order k) name ≡ true) → ((k : ℕ) → i ≤ k → k < length order → comes_before name (name_at slots order k) ≡ true)
    → position (is_named name) (listed slots order) ≡ None
free_between ps slots order name i s built before after =
    place_is_none slots order name (λ k lt q.
    elim (cases_lt k 3) [
      | inl first ↦ built k first (sym (built_in_at ps slots order s k first) ∙ q)
      | inr user ↦ elim (cases_lt k i) [
        | inl early ↦ before_differ (name_at slots order k) name (before k user early) q
        | inr late ↦ before_differ name (name_at slots order k) (after k late lt) (sym q)
      ]
    ])

-- the name of the chain that lies under a key of the index
pub name_here : (slots : List (Option StoredChain)) (order : List ℕ) (i key : ℕ) (stored_chain : StoredChain) → i < length order → key ≡ get_or order i key → slot_at slots key ≡ Some stored_chain → name_at slots order i ≡ stored_chain.name
name_here slots order i key stored_chain lt at is =
    ap (λ (k : ℕ). (stored_at slots k).name) (get_or_default order i 0 key lt ∙ sym at) ∙ ap (λ (o : Option StoredChain). (unwrap_or o blank).name) is

-- the first three names are the built-in ones
pub place_built_in : (ps : List Policy) (slots : List (Option StoredChain)) (order : List ℕ) (name : List ℕ) (i : ℕ) → IsStored ps slots order → i < 3 → name_at slots order i ≡ name → position (bytes_eq name) built_in_names ≡ Some i
place_built_in ps slots order name i s lt e = go i lt (sym e ∙ built_in_at ps slots order s i lt)
  where
    P : ℕ → List ℕ → Type 0
    P k n = position (bytes_eq n) built_in_names ≡ Some k

    go : (k : ℕ) → k < 3 → name ≡ get_or built_in_names k [] → position (bytes_eq name) built_in_names ≡ Some k
    go zero below q = subst (P 0) (sym q) refl
    go (suc zero) below q = subst (P 1) (sym q) refl
    go (suc (suc zero)) below q = subst (P 2) (sym q) refl
    go (suc (suc (suc k))) below q = absurd (omega (arith, below))

pub built_in_first : (ps : List Policy) (slots : List (Option StoredChain)) (order : List ℕ) (name : List ℕ) (i : ℕ) → IsStored ps slots order → i < 3 → name_at slots order i ≡ name → is_built_in name ≡ true
built_in_first ps slots order name i s lt e = any_some (bytes_eq name) built_in_names i [] (place_built_in ps slots order name i s lt e)

-- and the others are none
pub user_after : (ps : List Policy) (slots : List (Option StoredChain)) (order : List ℕ) (name : List ℕ) (i : ℕ) → IsStored ps slots order → 3 ≤ i → i < length order → name_at slots order i ≡ name → is_built_in name ≡ false
user_after ps slots order name i s ge lt e =
    let ns : List (List ℕ) = names_of (listed slots order) in
    let u : IsUserName (get_or (drop 3 ns) (i - 3) []) = s.sound.listed.user (i - 3) [] (omega (arith, ge, lt, length-names slots order, length-drop 3 ns)) in
    let is : get_or (drop 3 ns) (i - 3) [] ≡ name = get_or-drop 3 ns (i - 3) [] ∙ ap (λ n. get_or ns n []) (omega (arith, ge)) ∙ names_get slots order i [] lt ∙ e in
    sym (ap is_built_in is) ∙ u.other

-- ---- What a change of the chain under one key leaves.

pub key_within : (slots : List (Option StoredChain)) (key : ℕ) → IsSome (slot_at slots key) → key < length slots
key_within slots key h = grind (arith, get_or_past)

pub stored_set_same : (slots : List (Option StoredChain)) (key : ℕ) (stored_chain : StoredChain) → key < length slots → stored_at (set slots key (Some stored_chain)) key ≡ stored_chain
stored_set_same slots key stored_chain lt = ap (λ (o : Option StoredChain). unwrap_or o blank) (get_or-set_same slots key (Some stored_chain) None lt)

pub stored_set_other : (slots : List (Option StoredChain)) (key k : ℕ) (stored_chain : StoredChain) → k ≢ key → stored_at (set slots key (Some stored_chain)) k ≡ stored_at slots k
stored_set_other slots key k stored_chain ne = ap (λ (o : Option StoredChain). unwrap_or o blank) (get_or-set_other slots key k (Some stored_chain) None ne)

pub some_set : (slots : List (Option StoredChain)) (key k : ℕ) (stored_chain : StoredChain) → key < length slots → IsSome (slot_at slots k) → IsSome (slot_at (set slots key (Some stored_chain)) k)
some_set slots key k stored_chain lt h =
    let P : Option StoredChain → Type 0 = λ (o : Option StoredChain). IsSome o in
    elim (cases_eq k key) [
      | inl same ↦ subst P (sym (ap (λ (j : ℕ). slot_at (set slots key (Some stored_chain)) j) same ∙ get_or-set_same slots key (Some stored_chain) None lt)) refl
      | inr ne ↦ subst P (sym (get_or-set_other slots key k (Some stored_chain) None ne)) h
    ]

-- no chain is there that wasn't
pub set_some : (slots : List (Option StoredChain)) (key k : ℕ) (stored_chain : StoredChain) → IsSome (slot_at slots key) → IsSome (slot_at (set slots key (Some stored_chain)) k) → IsSome (slot_at slots k)
set_some slots key k stored_chain there h =
    let P : Option StoredChain → Type 0 = λ (o : Option StoredChain). IsSome o in
    let Q : ℕ → Type 0 = λ j. IsSome (slot_at slots j) in
    elim (cases_eq k key) [ inl same ↦ subst Q (sym same) there | inr ne ↦ subst P (get_or-set_other slots key k (Some stored_chain) None ne) h ]

pub name_set : (slots : List (Option StoredChain)) (key k : ℕ) (stored_chain : StoredChain) → key < length slots → stored_chain.name ≡ (stored_at slots key).name → (stored_at (set slots key (Some stored_chain)) k).name ≡ (stored_at slots k).name
name_set slots key k stored_chain lt e =
    elim (cases_eq k key) [
      | inl same ↦ ap (λ (j : ℕ). (stored_at (set slots key (Some stored_chain)) j).name) same ∙ ap (λ (r : StoredChain). r.name) (stored_set_same slots key stored_chain lt) ∙ e ∙ ap (λ (j : ℕ). (stored_at slots j).name) (sym same)
      | inr ne ↦ ap (λ (r : StoredChain). r.name) (stored_set_other slots key k stored_chain ne)
    ]

-- what lies under a key that is there
pub some_stored : (slots : List (Option StoredChain)) (key : ℕ) → IsSome (slot_at slots key) → slot_at slots key ≡ Some (stored_at slots key)
some_stored slots key h = is (slot_at slots key) h
  where
    is : (o : Option StoredChain) → IsSome o → o ≡ Some (unwrap_or o blank)
    is (Some r) h = refl
    is None h = absurd (false≢true h)

-- the lists of chains, by the chain under each key
pub listed_by : (g : Chain → Chain) (slots new : List (Option StoredChain)) (keys : List ℕ) → ((k : ℕ) → k < length keys → listed_at new (get_or keys k 0) ≡ g (listed_at slots (get_or keys k 0)))
    → listed new keys ≡ map g (listed slots keys)
listed_by g slots new [] h = refl
listed_by g slots new (x ∷ xs) h = λ i. h 0 (omega arith) i ∷ listed_by g slots new xs (λ k lt. h (suc k) (omega (arith, lt))) i

-- a chain that was looked up by its place
pub record Found (ps : List Policy) (slots : List (Option StoredChain)) (order : List ℕ) (i key : ℕ) (stored_chain : StoredChain) : Type 0 where
  pub stored : IsStored ps slots order
  pub place : i < length order
  pub at : get_or order i 0 ≡ key
  pub slot : slot_at slots key ≡ Some stored_chain
  pub within : key < length slots
  pub is : stored_at slots key ≡ stored_chain

pub found_key : (ps : List Policy) (slots : List (Option StoredChain)) (order : List ℕ) (i key : ℕ) (stored_chain : StoredChain) → IsStored ps slots order → i < length order → get_or order i 0 ≡ key → slot_at slots key ≡ Some stored_chain → Found ps slots order i key stored_chain
found_key ps slots order i key stored_chain s lt at slot =
    let P : Option StoredChain → Type 0 = λ (o : Option StoredChain). IsSome o in
    record {
      stored = s;
      place = lt;
      at = at;
      slot = slot;
      within = key_within slots key (subst P (sym slot) refl);
      is = ap (λ (o : Option StoredChain). unwrap_or o blank) slot;
    }

pub found : (ps : List Policy) (slots : List (Option StoredChain)) (order : List ℕ) (i key : ℕ) (stored_chain : StoredChain) → IsStored ps slots order → i < length order → key ≡ get_or order i key → slot_at slots key ≡ Some stored_chain → Found ps slots order i key stored_chain
found ps slots order i key stored_chain s lt at slot = found_key ps slots order i key stored_chain s lt (get_or_default order i 0 key lt ∙ sym at) slot

-- another key of the index is not the found one's
other_key : (ps : List Policy) (slots : List (Option StoredChain)) (order : List ℕ) (i key k : ℕ) (stored_chain : StoredChain) → Found ps slots order i key stored_chain → k < length order → k ≢ i → get_or order k 0 ≢ key
other_key ps slots order i key k stored_chain f lk ne q = ne (f.stored.apart k i lk f.place (q ∙ sym f.at))

-- the rules of one chain are changed
pub listed_set : (ps : List Policy) (slots : List (Option StoredChain)) (order : List ℕ) (i key : ℕ) (stored_chain new : StoredChain) (edit : List Rule → List Rule) → Found ps slots order i key stored_chain → new.name ≡ stored_chain.name → rules_in new ≡ edit (rules_in stored_chain)
    → listed (set slots key (Some new)) order ≡ map (changed_chain edit stored_chain.name) (listed slots order)
listed_set ps slots order i key stored_chain new edit f named rules =
    let after : List (Option StoredChain) = set slots key (Some new) in
    let name : (j : ℕ) → j < length order → get_or order j 0 ≡ key → name_at slots order j ≡ stored_chain.name = λ j lt q. ap (λ (k : ℕ). (stored_at slots k).name) q ∙ ap (λ (r : StoredChain). r.name) f.is in
    listed_by (changed_chain edit stored_chain.name) slots after order
    (λ k lk. elim (cases_eq k i) [
      | inl same ↦ (
          let at : get_or order k 0 ≡ key = ap (λ (j : ℕ). get_or order j 0) same ∙ f.at in
          let was : listed_at slots (get_or order k 0) ≡ listed_stored stored_chain = ap (listed_at slots) at ∙ ap listed_stored f.is in
          let chain : Chain = record { name = new.name; rules = rules_in new } in
          let wanted : Chain = record { name = stored_chain.name; rules = edit (rules_in stored_chain) } in
          let is : chain ≡ wanted = λ j. record { name = named j; rules = rules j } in
          ap (listed_at after) at ∙ ap listed_stored (stored_set_same slots key new f.within) ∙ is
          ∙ sym (cond-true (is_named stored_chain.name (listed_stored stored_chain)) _ _ ((bytes_eq-Decides stored_chain.name stored_chain.name).1 refl)) ∙ ap (changed_chain edit stored_chain.name) (sym was))
      | inr ne ↦ (
          let differs : name_at slots order k ≢ stored_chain.name = λ q. ne (names_apart ps slots order f.stored k i lk f.place (q ∙ sym (name i f.place f.at))) in
          ap listed_stored (stored_set_other slots key (get_or order k 0) new (other_key ps slots order i key k stored_chain f lk ne))
          ∙ sym (cond-false (is_named stored_chain.name (listed_at slots (get_or order k 0))) _ _ (texts_differ (name_at slots order k) stored_chain.name differs)))
    ])

-- links stay where names do
pub link_kept : (slots new : List (Option StoredChain)) (order : List ℕ) → ((k : ℕ) → (stored_at new k).name ≡ (stored_at slots k).name) → (e : Entry) → IsLinked slots order e → IsLinked new order e
link_kept slots new order same e l = (l.0, l.1, go l.0 (chain_named_by e.rule) l.2)
  where
    go : (to : ℕ) (o : Option (List ℕ)) → LinksTo slots order to o → LinksTo new order to o
    go to None h = h
    go to (Some n) h = (h.0, same to ∙ h.1)

-- the chains stand as they should after the change, where the plain table is sound
pub stored_set : (ps : List Policy) (slots : List (Option StoredChain)) (order : List ℕ) (i key : ℕ) (stored_chain new : StoredChain) (u : Table) → Found ps slots order i key stored_chain → new.name ≡ stored_chain.name → All (IsLinked slots order) new.entries → IsClassified new
    → table_with ps (set slots key (Some new)) order ≡ u → IsSound u → IsStored ps (set slots key (Some new)) order
stored_set ps slots order i key stored_chain new u f named linked classified is sound =
    let after : List (Option StoredChain) = set slots key (Some new) in
    let same : (k : ℕ) → (stored_at after k).name ≡ (stored_at slots k).name = λ k. name_set slots key k new f.within (named ∙ ap (λ (r : StoredChain). r.name) (sym f.is)) in
    let weaker : (es : List Entry) → All (IsLinked slots order) es → All (IsLinked after order) es = λ es. All-weaker (IsLinked slots order) (IsLinked after order) (λ e l. link_kept slots after order same e l) es in
    record {
      present = λ k lk. some_set slots key (get_or order k 0) new f.within (f.stored.present k lk);
      no_more = λ k there. (let O : Option StoredChain → Type 0 = λ (o : Option StoredChain). IsSome o in f.stored.no_more k (set_some slots key k new (subst O (sym f.slot) refl) there));
      apart = f.stored.apart;
      linked = λ k lk.
          (let Q : StoredChain → Type 0 = λ (r : StoredChain). All (IsLinked after order) r.entries in
          elim (cases_eq k i) [
            | inl q ↦ subst Q (sym (ap (λ (j : ℕ). stored_at after (get_or order j 0)) q ∙ ap (stored_at after) f.at ∙ stored_set_same slots key new f.within)) (weaker new.entries linked)
            | inr ne ↦ subst Q (sym (stored_set_other slots key (get_or order k 0) new (other_key ps slots order i key k stored_chain f lk ne))) (weaker _ (f.stored.linked k lk))
          ]);
      classified = λ k lk.
          elim (cases_eq k i) [
            | inl q ↦ subst IsClassified (sym (ap (λ (j : ℕ). stored_at after (get_or order j 0)) q ∙ ap (stored_at after) f.at ∙ stored_set_same slots key new f.within)) classified
            | inr ne ↦ subst IsClassified (sym (stored_set_other slots key (get_or order k 0) new (other_key ps slots order i key k stored_chain f lk ne))) (f.stored.classified k lk)
          ];
      sound = subst IsSound (sym is) sound;
    }

-- nothing is changed
pub found_same : (ps : List Policy) (slots : List (Option StoredChain)) (order : List ℕ) (i key : ℕ) (stored_chain new : StoredChain) → Found ps slots order i key stored_chain → new ≡ stored_chain → set slots key (Some new) ≡ slots
found_same ps slots order i key stored_chain new f same = ap (λ (o : Option StoredChain). set slots key o) (ap (λ (r : StoredChain). Some r) same ∙ sym f.slot) ∙ set-get_or slots key None
