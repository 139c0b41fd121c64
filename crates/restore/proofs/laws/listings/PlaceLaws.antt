-- The chains of a sound table, by their places.
use Rattle.std.proofs.Common.{◌≡◌, ◌⊎◌, inl, inr, ℕ, zero, suc, ◌+◌, ◌<◌, Bool, true, false, ◌||◌, List, [], ◌∷◌, ◌++◌, length, get_or, drop, refl, sym, ◌∙◌, ap, subst, arith, Option, Some, None, is_some, codes}
use Rattle.fields.proofs.laws.PacketLaws.{is_none-of}
use Rattle.table.proofs.laws.chains.KeepLaws.{itself_not_before}
use Rattle.std.specs.Prelude.{All, AllPairs, filter, flat_map, position, slice_get, option_and_then}
use Rattle.std.specs.List.{list_any}
use Rattle.std.specs.Str.{bytes_eq}
use Rattle.std.proofs.lemmas.Bool.{cases_Bool, cases_order, cond-true, cond-false, false≢true, or_left}
use Rattle.std.proofs.lemmas.List.{append-nil, take-append-drop, get_or-map, length-map}
use Rattle.std.proofs.lemmas.List.Elements.{All-cons, All-get_or, All-weaker}
use Rattle.std.proofs.lemmas.List.Kept.{AllPairs-cons}
use Rattle.std.proofs.lemmas.List.Quantifiers.{position-Some}
use Rattle.std.proofs.lemmas.Option.{slice_get_past}
use Rattle.std.proofs.lemmas.Slice.Eq.{bytes_eq-Decides}
use Rattle.table.specs.chains.Sound.{AreListed, IsSound, IsUserName}
use Rattle.table.specs.chains.Table.{Chain, Table, built_in_names, chain_at, comes_before, empty_chain, is_built_in, is_named, names_of, policy_of}
use Rattle.table.specs.declared.policy.Policy.{Policy}
use Rattle.restore.specs.Listing.{head_line, listed_chains, rule_lines, rules_listing}
use Rattle.fields.proofs.laws.ListLaws.{any_is}

-- Names differ

abbrev Differ : List ℕ → List ℕ → Type 0
Differ a b = a ≡ b → ⊥

user_names_differ : (ns : List (List ℕ)) → AllPairs (λ a b. comes_before a b ≡ true) ns → AllPairs Differ ns
user_names_differ ns order i j d below within e =
    false≢true (sym (itself_not_before (get_or ns j d)) ∙ ap (λ (n : List ℕ). comes_before n (get_or ns j d)) (sym e) ∙ order i j d below within)

other_than_user : (c n : List ℕ) → is_built_in c ≡ true → IsUserName n → Differ c n
other_than_user c n built user e = false≢true (sym user.other ∙ ap is_built_in (sym e) ∙ built)

other_than_users : (c : List ℕ) (ns : List (List ℕ)) → is_built_in c ≡ true → All IsUserName ns → All (Differ c) ns
other_than_users c ns built users = All-weaker IsUserName (Differ c) (λ n user. other_than_user c n built user) ns users

-- by their first bytes
differ_first : (a b : List ℕ) (x y : ℕ) → get_or a 0 0 ≡ x → get_or b 0 0 ≡ y → x < y ⊎ y < x → Differ a b
differ_first a b x y p q (inl lt) e = let same : x ≡ y = sym p ∙ ap (λ (l : List ℕ). get_or l 0 0) e ∙ q in omega (arith, same, lt)
differ_first a b x y p q (inr lt) e = let same : x ≡ y = sym p ∙ ap (λ (l : List ℕ). get_or l 0 0) e ∙ q in omega (arith, same, lt)

-- the names are the built-in ones, and those of user chains
parted : (ns : List (List ℕ)) → AreListed ns → ns ≡ built_in_names ++ drop 3 ns
parted ns h = sym (take-append-drop 3 ns) ∙ ap (λ (xs : List (List ℕ)). xs ++ drop 3 ns) h.built_in

names_differ : (ns : List (List ℕ)) → AreListed ns → AllPairs Differ ns
names_differ ns h =
    let input : List ℕ = codes "INPUT" in
    let forward : List ℕ = codes "FORWARD" in
    let output : List ℕ = codes "OUTPUT" in
    let users : List (List ℕ) = drop 3 ns in
    let one = differ_first input forward 73 70 refl refl (inr (omega arith)) in
    let two = differ_first input output 73 79 refl refl (inl (omega arith)) in
    let three = differ_first forward output 70 79 refl refl (inl (omega arith)) in
    let P : List (List ℕ) → Type 0 = λ xs. AllPairs Differ xs in
    subst P (sym (parted ns h))
    (AllPairs-cons Differ input (forward ∷ output ∷ users)
    (All-cons (Differ input) forward (output ∷ users) one (All-cons (Differ input) output users two (other_than_users input users refl h.user)))
    (AllPairs-cons Differ forward (output ∷ users)
    (All-cons (Differ forward) output users three (other_than_users forward users refl h.user))
    (AllPairs-cons Differ output users (other_than_users output users refl h.user) (user_names_differ users h.order))))

-- The chain of a name

-- chains of one name stand at one place
one_place : (cs : List Chain) (i k : ℕ) (d e : Chain) → AllPairs Differ (names_of cs) → i < length cs → k < length cs → (get_or cs i d).name ≡ (get_or cs k e).name → i ≡ k
one_place cs i k d e differ i_in k_in same =
    let ns : List (List ℕ) = names_of cs in
    let long : length ns ≡ length cs = length-map cs (λ (c : Chain). c.name) in
    let at : get_or ns i [] ≡ get_or ns k [] = get_or-map (λ (c : Chain). c.name) cs i d [] i_in ∙ same ∙ sym (get_or-map (λ (c : Chain). c.name) cs k e [] k_in) in
    elim (cases_order i k) [
      | inl is ↦ is
      | inr (inl lt) ↦ absurd (differ i k [] lt (omega (arith, long, k_in)) at)
      | inr (inr lt) ↦ absurd (differ k i [] lt (omega (arith, long, i_in)) (sym at))
    ]

none_kept : {A : Type 0} (p : A → Bool) (xs : List A) → list_any p xs ≡ false → filter p xs ≡ []
none_kept p [] none = refl
none_kept p (x ∷ xs) none =
    elim (cases_Bool (p x)) [
      | inl t ↦ absurd (false≢true (sym none ∙ or_left (p x) (list_any p xs) t))
      | inr f ↦ cond-false (p x) _ _ f ∙ none_kept p xs (ap (λ b. b || list_any p xs) (sym f) ∙ none)
    ]

-- elements other than the one at a place fail a test
none_passes : {A : Type 0} (p : A → Bool) (xs : List A) → ((k : ℕ) (d : A) → k < length xs → p (get_or xs k d) ≡ false) → filter p xs ≡ []
none_passes p [] fails = refl
none_passes p (x ∷ xs) fails = cond-false (p x) _ _ (fails 0 x (omega arith)) ∙ none_passes p xs (λ k d within. fails (suc k) d (omega (arith, within)))

one_passes : {A : Type 0} (p : A → Bool) (xs : List A) (i : ℕ) (d : A) → i < length xs → p (get_or xs i d) ≡ true → ((k : ℕ) (e : A) → k < length xs → (k ≡ i → ⊥) → p (get_or xs k e) ≡ false)
    → filter p xs ≡ get_or xs i d ∷ []
one_passes p [] i d within passes fails = absurd (omega (arith, within))
one_passes p (x ∷ xs) zero d within passes fails =
    cond-true (p x) _ _ passes ∙ ap (λ ys. x ∷ ys) (none_passes p xs (λ k e lt. fails (suc k) e (omega (arith, lt)) (λ is. omega (arith, is))))
one_passes p (x ∷ xs) (suc i) d within passes fails =
    cond-false (p x) _ _ (fails 0 x (omega arith) (λ is. omega (arith, is)))
    ∙ one_passes p xs i d (omega (arith, within)) passes (λ k e lt other. fails (suc k) e (omega (arith, lt)) (λ is. other (omega (arith, is))))

-- the chain of a name alone is listed
one_listed : (t : Table) (name : List ℕ) (place : ℕ) → IsSound t → position (is_named name) t.chains ≡ Some place → listed_chains (Some name) t.chains ≡ chain_at t place ∷ []
one_listed t name place sound at =
    let cs : List Chain = t.chains in
    let d : Chain = empty_chain [] in
    let found = position-Some (is_named name) cs place d at in
    let own : (get_or cs place d).name ≡ name = (bytes_eq-Decides (get_or cs place d).name name).0 found.1 in
    one_passes (is_named name) cs place d found.0 found.1 (λ k e within other.
    elim (cases_Bool (is_named name (get_or cs k e))) [
      | inl is ↦ absurd (other (one_place cs k place e d (names_differ (names_of cs) sound.listed) within found.0 ((bytes_eq-Decides (get_or cs k e).name name).0 is ∙ sym own)))
      | inr no_match ↦ no_match
    ])

-- what `-S` lists of one chain
pub listing_of_one : (t : Table) (name : List ℕ) (place : ℕ) → IsSound t → position (is_named name) t.chains ≡ Some place → rules_listing t (Some name) ≡ head_line t (chain_at t place) ++ rule_lines (chain_at t place)
listing_of_one t name place sound at =
    ap (λ (cs : List Chain). flat_map (head_line t) cs ++ flat_map rule_lines cs) (one_listed t name place sound at)
    ∙ (λ i. append-nil (head_line t (chain_at t place)) i ++ append-nil (rule_lines (chain_at t place)) i)

-- what `-S` lists of a chain that isn't there
pub listing_of_none : (t : Table) (name : List ℕ) → position (is_named name) t.chains ≡ None → rules_listing t (Some name) ≡ []
listing_of_none t name at =
    ap (λ (cs : List Chain). flat_map (head_line t) cs ++ flat_map rule_lines cs)
    (none_kept (is_named name) t.chains (sym (any_is (is_named name) t.chains) ∙ ap (λ (o : Option ℕ). is_some o) at))

-- The policy of a chain

user_has_none : (ps : List Policy) (n : List ℕ) → is_built_in n ≡ false → option_and_then (slice_get ps) (position (bytes_eq n) built_in_names) ≡ None
user_has_none ps n user = ap (option_and_then (slice_get ps)) (is_none-of (position (bytes_eq n) built_in_names) (any_is (bytes_eq n) built_in_names ∙ user))

policy_by : (ps : List Policy) (users : List (List ℕ)) (place : ℕ) → length ps ≡ 3 → All IsUserName users → place < 3 + length users
    → slice_get ps place ≡ option_and_then (slice_get ps) (position (bytes_eq (get_or (built_in_names ++ users) place [])) built_in_names)
policy_by ps users zero three own within = refl
policy_by ps users (suc zero) three own within = refl
policy_by ps users (suc (suc zero)) three own within = refl
policy_by ps users (suc (suc (suc k))) three own within =
    let user : IsUserName (get_or users k []) = All-get_or IsUserName users k [] (omega (arith, within)) own in
    slice_get_past ps (suc (suc (suc k))) (omega (arith, three)) ∙ sym (user_has_none ps (get_or users k []) user.other)

-- the policy at a place is that of the chain there
pub policy_at : (t : Table) (place : ℕ) → IsSound t → place < length t.chains → slice_get t.policies place ≡ policy_of t (chain_at t place).name
policy_at t place sound within =
    let ns : List (List ℕ) = names_of t.chains in
    let users : List (List ℕ) = drop 3 ns in
    let parts : ns ≡ built_in_names ++ users = parted ns sound.listed in
    let counted : length ns ≡ length t.chains = length-map t.chains (λ (c : Chain). c.name) in
    let joined : length ns ≡ suc (suc (suc (length users))) = ap (λ (xs : List (List ℕ)). length xs) parts in
    let name : get_or (built_in_names ++ users) place [] ≡ (chain_at t place).name =
    ap (λ (xs : List (List ℕ)). get_or xs place []) (sym parts) ∙ get_or-map (λ (c : Chain). c.name) t.chains place (empty_chain []) [] within in
    policy_by t.policies users place sound.policies sound.listed.user (omega (arith, counted, joined, within)) ∙ ap (policy_of t) name
