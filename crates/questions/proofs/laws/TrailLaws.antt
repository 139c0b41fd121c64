-- Trails of walks: each rule on one matches its packet, rules put while their needs were open, and who decides at the end.
use Rattle.std.proofs.Common.{◌≡◌, inl, inr, ℕ, zero, suc, ◌+◌, ◌-◌, ◌<◌, true, List, [], ◌∷◌, ◌++◌, length, get_or, refl, sym, ◌∙◌, ap, arith, subst, Option, Some, None, All, Contains, IsTrue, ◌≤◌, Bool, false, cond, map, position, slice_get, IfSome, filter, true≢false, append-nil, length-append}
use Rattle.std.specs.Option.{option_map}
use Rattle.std.proofs.lemmas.Bool.{cases_lt, cases_Bool, cond-false, cond-true}
use Rattle.std.proofs.lemmas.List.{length-map, get_or-map, get_or_default, get_or_past, map-append}
use Rattle.std.proofs.lemmas.List.Elements.{All-nil, All-push, All-contains, Contains-get_or, All-filter, filter-append, filter_passes}
use Rattle.std.proofs.lemmas.Option.{slice_get-get_or, slice_get_within, get_or_from_slice_get, slice_get-map, same_Some, none-some}
use Rattle.std.proofs.Math.Seq.{get_or-append_seam}
use Rattle.std.proofs.lemmas.List.Sums.{count_by-le-length, length-filter}
use Rattle.std.proofs.lemmas.Slice.Eq.{bytes_eq-Decides}
use Rattle.fields.specs.Packet.{PacketView as Packet}
use Rattle.rules.specs.rule.Allows.{matches}
use Rattle.rules.specs.rule.Rules.{Rule, empty_rule}
use Rattle.table.specs.chains.Sound.{IsSound, AreListed, IsUserName}
use Rattle.table.specs.chains.Table.{Chain, Table, chain_at, empty_chain, is_named, names_of, rules_of}
use Rattle.table.specs.declared.verdict.Verdict.{Verdict}
use Rattle.table.specs.declared.walk.trail.Step.{Step}
use Rattle.table.specs.declared.walk.trail.Trail.{Trail}
use Rattle.table.specs.walk.Walk.{Shows, shown, Entry, Next, Ends, GoesOn, Walked, end_verdict, walk}
use Rattle.table.specs.walk.Cases.{Stage, Under, Over, StepsTo, GoesTo, on_by}
use Rattle.table.proofs.laws.chains.KeepLaws.{listed_differ, rules_by_name}
use Rattle.table.proofs.laws.chains.PlaceLaws.{IsPlaced, differing_at, placed_at}
use Rattle.table.proofs.laws.walk.CaseLaws.{walks_by_cases}
use Rattle.questions.specs.Ends.{IsRule, rule_at, decider_of, step_of}
use Rattle.questions.specs.Leaves.{name_at, entry_of, entries_of, walked_of}
use Rattle.questions.specs.Scopes.{Known, entries_by, is_met, IsSurely, walked_by}
use Rattle.questions.specs.declared.walking.task.Pending.{Pending}
use Rattle.questions.specs.steps.Waiting.{entry_before}
use Rattle.questions.specs.Foreign.{Agrees}
use Rattle.questions.specs.declared.walking.task.Leaf.{Leaf}

-- ---- Each rule on the trail of a walk matches its packet.

-- the rule of an entry matches; rules are numbered from 1
abbrev pub IsMatched : List Chain → List ℕ → Entry → Type 0
IsMatched cs values entry = (rule : Rule) × (slice_get (rules_of cs entry.chain) (entry.number - 1) ≡ Some rule) × IsTrue (matches values rule) × (0 < entry.number)

module _ (cs : List Chain) (policy : Verdict) (values : List ℕ) where
  abbrev AreMatched : Stage → Type 0
  AreMatched (Under rests trail) = All (IsMatched cs values) trail
  AreMatched (Over walked) = All (IsMatched cs values) walked.trail

  on_matched : (next : Next) (trail : List Entry) → All (IsMatched cs values) trail → AreMatched (on_by next trail)
  on_matched (Ends v) trail h = h
  on_matched (GoesOn rests) trail h = h

  step_matched : (now next : Stage) → StepsTo cs policy values now next → AreMatched now → AreMatched next
  step_matched (Over walked) next s h = absurd s
  step_matched (Under [] trail) next s h = subst AreMatched (sym s) h
  step_matched (Under (rest ∷ waiting) trail) next (inl p) h = subst AreMatched (sym p.3) h
  step_matched (Under (rest ∷ waiting) trail) next (inr (inl p)) h = subst AreMatched (sym p.4) (All-nil (IsMatched cs values))
  step_matched (Under (rest ∷ waiting) trail) next (inr (inr (inr p))) h = subst AreMatched (sym p.1) h
  step_matched (Under (rest ∷ waiting) trail) next (inr (inr (inl p))) h =
      let entry : Entry = record { chain = rest.chain; number = rest.passed + 1 } in
      let here : IsMatched cs values entry = (p.0, ap (slice_get (rules_of cs rest.chain)) (omega arith) ∙ p.1, p.2, omega arith) in
      subst AreMatched (sym p.4) (on_matched _ (trail ++ entry ∷ []) (All-push (IsMatched cs values) trail entry h here))

  goes_matched : (n : ℕ) (now last : Stage) → GoesTo n cs policy values now last → AreMatched now → AreMatched last
  goes_matched zero now last g h = subst AreMatched g h
  goes_matched (suc n) now last g h = goes_matched n g.0 last g.2 (step_matched now g.0 g.1 h)

pub trail_matches : (t : Table) (p : Packet) → All (IsMatched t.chains p.values) (walk t p).trail
trail_matches t p = let w = walks_by_cases t p in goes_matched t.chains (end_verdict t p) p.values w.0 _ (Over (walk t p)) w.1 (All-nil (IsMatched t.chains p.values))

-- ---- a chain's name stands at one place

no_empty_name : (ns : List (List ℕ)) (j : ℕ) → AreListed ns → j < length ns → get_or ns j [] ≡ [] → ⊥
no_empty_name [] j h lt e = absurd (omega (arith, lt))
no_empty_name (a ∷ []) j h lt e = absurd (omega (arith, ap (λ (xs : List (List ℕ)). length xs) h.built_in))
no_empty_name (a ∷ b ∷ []) j h lt e = absurd (omega (arith, ap (λ (xs : List (List ℕ)). length xs) h.built_in))
no_empty_name (a ∷ b ∷ c ∷ ns) zero h lt e = let is = ap (λ (xs : List (List ℕ)). length (get_or xs 0 [])) h.built_in in omega (arith, is, ap (λ (n : List ℕ). length n) e)
no_empty_name (a ∷ b ∷ c ∷ ns) (suc zero) h lt e = let is = ap (λ (xs : List (List ℕ)). length (get_or xs 1 [])) h.built_in in omega (arith, is, ap (λ (n : List ℕ). length n) e)
no_empty_name (a ∷ b ∷ c ∷ ns) (suc (suc zero)) h lt e = let is = ap (λ (xs : List (List ℕ)). length (get_or xs 2 [])) h.built_in in omega (arith, is, ap (λ (n : List ℕ). length n) e)
no_empty_name (a ∷ b ∷ c ∷ ns) (suc (suc (suc j))) h lt e =
    let own : IsUserName (get_or ns j []) = h.user j [] (omega (arith, lt)) in
    true≢false (sym (rw e at own.form))

pub name_is : (cs : List Chain) (i : ℕ) → name_at cs i ≡ get_or (names_of cs) i []
name_is [] zero = refl
name_is [] (suc i) = refl
name_is (c ∷ cs) zero = refl
name_is (c ∷ cs) (suc i) = name_is cs i

pub one_place : (t : Table) (i j : ℕ) → IsSound t → j < length t.chains → name_at t.chains i ≡ name_at t.chains j → i ≡ j
one_place t i j s lt e =
    let ns : List (List ℕ) = names_of t.chains in
    let long : length ns ≡ length t.chains = length-map t.chains (λ (c : Chain). c.name) in
    let same : get_or ns i [] ≡ get_or ns j [] = sym (name_is t.chains i) ∙ e ∙ name_is t.chains j in
    elim (cases_lt i (length ns)) [
      | inr past ↦ absurd (no_empty_name ns j s.listed (omega (arith, lt, long)) (sym same ∙ get_or_past ns i [] past))
      | inl within ↦ elim (cases_lt i j) [
        | inl below ↦ absurd (differing_at ns i j [] (listed_differ ns s.listed) below (omega (arith, lt, long)) same)
        | inr above ↦ elim (cases_lt j i) [
          | inl less ↦ absurd (differing_at ns j i [] (listed_differ ns s.listed) less within (sym same))
          | inr most ↦ omega (arith, above, most)
        ]
      ]
    ]

-- an entry on the trail that a leaf shows is one of the leaf's steps
pub step_in : (t : Table) (steps : List Step) (step : Step) → IsSound t → step.chain < length t.chains → Contains (entries_of t.chains steps) (entry_of t.chains step) → Contains steps step
step_in t steps step s lt c =
    let within : c.0 < length steps = omega (arith, c.1, length-map steps (entry_of t.chains)) in
    let here : Step = get_or steps c.0 step in
    let same : entry_of t.chains here ≡ entry_of t.chains step = sym (get_or-map (entry_of t.chains) steps c.0 step (entry_of t.chains step) within) ∙ c.2 in
    let chain : here.chain ≡ step.chain = one_place t here.chain step.chain s lt (ap (λ (e : Entry). e.chain) same) in
    let number : here.number ≡ step.number = ap (λ (e : Entry). e.number) same in
    let make : ℕ → ℕ → Step = λ a b. record { chain = a; number = b } in
    (c.0, within, ap (λ a. make a here.number) chain ∙ ap (λ b. make step.chain b) number)

-- a rule on the trail matches
pub rule_matches : (t : Table) (p : Packet) (step : Step) → IsSound t → IsRule t step → Contains (walk t p).trail (entry_of t.chains step) → matches p.values (rule_at t step) ≡ true
rule_matches t p step s is c =
    let own_rules : List Rule = (chain_at t step.chain).rules in
    let m : IsMatched t.chains p.values (entry_of t.chains step) = All-contains (IsMatched t.chains p.values) (walk t p).trail (entry_of t.chains step) (trail_matches t p) c in
    let own : rules_of t.chains (name_at t.chains step.chain) ≡ own_rules = rules_by_name t (chain_at t step.chain) s (Contains-get_or t.chains step.chain (empty_chain []) is.chain) in
    let within : step.number - 1 < length own_rules = omega (arith, is.first, is.last) in
    let one : ◌≡◌ {A = Option Rule} (Some (rule_at t step)) (Some m.0) =
    sym (slice_get-get_or own_rules (step.number - 1) empty_rule within) ∙ sym (ap (λ (rs : List Rule). slice_get rs (step.number - 1)) own) ∙ m.1 in
    ap (matches p.values) (same_Some (rule_at t step) m.0 one) ∙ m.2

-- what holds of each element below a place, and there, holds up to it
pub items_next : {X : Type 0} (P : X → Type 0) (xs : List X) (i : ℕ) (x : X) → i < length xs → x ≡ get_or xs i x → ((k : ℕ) (d : X) → k < i → P (get_or xs k d)) → P x → (k : ℕ) (d : X) → k < i + 1 → P (get_or xs k d)
items_next {X} P xs i x within is below here k d lt =
    elim (cases_lt k i) [
      | inl less ↦ below k d less
      | inr most ↦ (
          let at : k ≡ i = omega (arith, lt, most) in
          subst P (is ∙ get_or_default xs i x d within ∙ ap (λ j. get_or xs j d) (sym at)) here)
    ]

-- ---- a step of a trail that was asked for is an entry of the walk

shown_is : (t : Table) (entry : Entry) (step : Step) → ◌≡◌ {A = Option Step} (shown t.chains entry) (Some step) → entry ≡ entry_of t.chains step
shown_is t entry step e = by_place (position (is_named entry.chain) t.chains) refl e
  where
    make : ℕ → Step
    make place = record { chain = place; number = entry.number }

    by_place : (o : Option ℕ) → position (is_named entry.chain) t.chains ≡ o → ◌≡◌ {A = Option Step} (option_map make o) (Some step) → entry ≡ entry_of t.chains step
    by_place None at e = absurd (none-some step e)
    by_place (Some place) at e =
        let is : make place ≡ step = same_Some (make place) step e in
        let placed : IsPlaced t entry.chain place = placed_at t entry.chain place at in
        let named : entry.chain ≡ name_at t.chains place = sym (placed.named (empty_chain [])) in
        let build : List ℕ → ℕ → Entry = λ n k. record { chain = n; number = k } in
        ap (λ n. build n entry.number) named ∙ ap (entry_of t.chains) is

pub walks_over : (t : Table) (walked : Walked) (trail : Trail) (step : Step) → Shows t.chains walked trail → Contains trail.steps.items step → Contains walked.trail (entry_of t.chains step)
walks_over t walked trail step shows on =
    let k : ℕ = on.0 in
    let long : length walked.trail ≡ length trail.steps.items = sym (length-map walked.trail (shown t.chains)) ∙ ap (λ (os : List (Option Step)). length os) shows.steps ∙ length-map trail.steps.items Some in
    let lt : k < length walked.trail = omega (arith, on.1, long) in
    let entry : Entry = get_or walked.trail k (entry_of t.chains step) in
    let one : ◌≡◌ {A = Option Step} (shown t.chains entry) (Some step) =
    sym (get_or-map (shown t.chains) walked.trail k (entry_of t.chains step) None lt) ∙ ap (λ (os : List (Option Step)). get_or os k None) shows.steps
    ∙ get_or-map Some trail.steps.items k step None on.1 ∙ ap Some on.2 in
    (k, lt, shown_is t entry step one)

-- ---- Trails on which some rules were put while their needs were open.

-- ---- what a filter keeps

kept_of : {X : Type 0} (p : X → Bool) (xs : List X) (x : X) → Contains (filter p xs) x → Contains xs x × (p x ≡ true)
kept_of {X} p xs x on =
    (All-contains (λ (y : X). Contains xs y) (filter p xs) x (All-filter p (λ (y : X). Contains xs y) xs (λ k d lt. Contains-get_or xs k d lt)) on, All-contains (λ (y : X). p y ≡ true) (filter p xs) x (filter_passes p xs) on)

first_of : {X : Type 0} (p : X → Bool) (x : X) (xs : List X) → p x ≡ true → Contains (filter p (x ∷ xs)) x
first_of {X} p x xs h =
    rw (cond-true (p x) (x ∷ filter p xs) (filter p xs) h) (0, omega arith, refl)

later_of : {X : Type 0} (p : X → Bool) (x y : X) (xs : List X) → Contains (filter p xs) y → Contains (filter p (x ∷ xs)) y
later_of {X} p x y xs (k, lt, is) =
    elim (cases_Bool (p x)) [
      | inl h ↦ rw (cond-true (p x) (x ∷ filter p xs) (filter p xs) h) (suc k, omega (arith, lt), is)
      | inr un ↦ rw (cond-false (p x) (x ∷ filter p xs) (filter p xs) un) (k, lt, is)
    ]

pub keeps : {X : Type 0} (p : X → Bool) (xs : List X) (x : X) → Contains xs x → p x ≡ true → Contains (filter p xs) x
keeps p [] x (k, lt, is) h = absurd (omega (arith, lt))
keeps {X} p (y ∷ xs) x (zero, lt, is) h =
    let P : X → Type 0 = λ z. Contains (filter p (z ∷ xs)) x in
    subst P (sym is) (first_of p x xs h)
keeps p (y ∷ xs) x (suc k, lt, is) h = later_of p y x xs (keeps p xs x (k, omega (arith, lt), is) h)

-- ---- the last element

-- one that was added at the end is the last
pub last_pushed : {X : Type 0} (xs : List X) (x : X) → slice_get (xs ++ x ∷ []) (length (xs ++ x ∷ []) - 1) ≡ Some x
last_pushed xs x =
    slice_get-get_or (xs ++ x ∷ []) (length (xs ++ x ∷ []) - 1) x (omega (arith, length-append xs (x ∷ [])))
    ∙ ap Some (ap (λ k. get_or (xs ++ x ∷ []) k x) (omega (arith, length-append xs (x ∷ []))) ∙ get_or-append_seam xs x [] x)

-- one before others isn't
later_last : {X : Type 0} (x : X) (xs : List X) → 0 < length xs → slice_get (x ∷ xs) (length (x ∷ xs) - 1) ≡ slice_get xs (length xs - 1)
later_last x xs some = let at : length (x ∷ xs) - 1 ≡ suc (length xs - 1) = omega (arith, some) in ap (slice_get (x ∷ xs)) at

-- a filter that it passes keeps it
pub last_kept : {X : Type 0} (p : X → Bool) (xs : List X) → IfSome (slice_get xs (length xs - 1)) (λ x. IsTrue (p x)) → slice_get (filter p xs) (length (filter p xs) - 1) ≡ slice_get xs (length xs - 1)
last_kept p [] h = refl
last_kept p (x ∷ []) h = ap (λ ys. slice_get ys (length ys - 1)) (cond-true (p x) (x ∷ []) [] h)
last_kept {X} p (x ∷ y ∷ xs) h =
    let rest : List X = filter p (y ∷ xs) in
    let later = later_last x (y ∷ xs) (omega arith) in
    let same : slice_get rest (length rest - 1) ≡ slice_get (y ∷ xs) (length (y ∷ xs) - 1) = last_kept p (y ∷ xs) (rw later at h) in
    let last : List X → Option X = λ ys. slice_get ys (length ys - 1) in
    elim (cases_Bool (p x)) [
      | inl t ↦ (
          let some = slice_get_within rest (length rest - 1) (get_or (y ∷ xs) (length (y ∷ xs) - 1) y) (same ∙ slice_get-get_or (y ∷ xs) (length (y ∷ xs) - 1) y (omega arith)) in
          ap last (cond-true (p x) (x ∷ rest) rest t) ∙ later_last x rest (omega (arith, some)) ∙ same ∙ sym later)
      | inr f ↦ ap last (cond-false (p x) (x ∷ rest) rest f) ∙ same ∙ sym later
    ]

-- ---- entries

-- the entry of a step of the trail stands there if all holds that its rule needs
pub on_entries_by : (known : Known) (cs : List Chain) (steps : List Step) (step : Step) → Contains steps step → is_met known step ≡ true → Contains (entries_by known cs steps) (entry_of cs step)
on_entries_by known cs steps step on met =
    let (k, lt, is) = keeps (is_met known) steps step on met in
    (k, omega (arith, lt, length-map (filter (is_met known) steps) (entry_of cs)), get_or-map (entry_of cs) (filter (is_met known) steps) k step (entry_of cs step) lt ∙ ap (entry_of cs) is)

-- and only then
pub step_by : (t : Table) (known : Known) (steps : List Step) (step : Step) → IsSound t → step.chain < length t.chains → Contains (entries_by known t.chains steps) (entry_of t.chains step) → Contains steps step × (is_met known step ≡ true)
step_by t known steps step sound lt on = kept_of (is_met known) steps step (step_in t (filter (is_met known) steps) step sound lt on)

-- a trail has no more entries than steps
pub few_entries : (known : Known) (cs : List Chain) (trail : List Step) → length (entries_by known cs trail) ≤ length trail
few_entries known cs trail = omega (arith, length-map (filter (is_met known) trail) (entry_of cs), length-filter (is_met known) trail, count_by-le-length (is_met known) trail)

-- ---- the rule that was just tested

-- its step
abbrev pub step_before : Pending → Step
step_before at = record { chain = at.chain; number = at.passed }

-- its entry stands on the trail if all holds that it needs
pub held_trail : (known : Known) (cs : List Chain) (trail : List Step) (at : Pending) → is_met known (step_before at) ≡ true
    → entries_by known cs (trail ++ step_before at ∷ []) ≡ entries_by known cs trail ++ entry_before cs at ∷ []
held_trail known cs trail at held =
    ap (entries_of cs) (filter-append (is_met known) trail (step_before at ∷ []))
    ∙ map-append (entry_of cs) (filter (is_met known) trail) (filter (is_met known) (step_before at ∷ []))
    ∙ ap (λ (steps : List Step). entries_by known cs trail ++ entries_of cs steps) (cond-true (is_met known (step_before at)) (step_before at ∷ []) [] held)

-- and else it doesn't
pub missed_trail : (known : Known) (cs : List Chain) (trail : List Step) (at : Pending) → is_met known (step_before at) ≡ false
    → entries_by known cs (trail ++ step_before at ∷ []) ≡ entries_by known cs trail
missed_trail known cs trail at missed =
    ap (entries_of cs) (filter-append (is_met known) trail (step_before at ∷ []))
    ∙ map-append (entry_of cs) (filter (is_met known) trail) (filter (is_met known) (step_before at ∷ []))
    ∙ ap (λ (steps : List Step). entries_by known cs trail ++ entries_of cs steps) (cond-false (is_met known (step_before at)) (step_before at ∷ []) [] missed)
    ∙ append-nil (entries_by known cs trail)

-- ---- Who decides the walk that a leaf shows: a rule of the table, or the policy.

pub none_some : {X : Type 0} {x : X} → ◌≡◌ {A = Option X} None (Some x) → ⊥
none_some e = cc

-- where no rule decides the walk that a leaf shows, the policy does
pub by_policy_where : (leaf : Leaf) → step_of leaf ≡ None → leaf.by_policy ≡ true
by_policy_where leaf none =
    elim (cases_Bool leaf.by_policy) [
      | inl t ↦ t
      | inr f ↦ absurd (some_last leaf.trail.items (leaf.decided f) (sym (ap (λ b. cond b None (slice_get leaf.trail.items (length leaf.trail.items - 1))) f) ∙ none))
    ]
  where
    some_last : (steps : List Step) → 0 < length steps → slice_get steps (length steps - 1) ≡ None → ⊥
    some_last [] lt e = absurd (omega (arith, lt))
    some_last (x ∷ xs) lt e = none_some (sym e ∙ slice_get-get_or (x ∷ xs) (length (x ∷ xs) - 1) x (omega arith))

-- ---- the last of a list

abbrev last : {X : Type 0} → List X → Option X
last xs = slice_get xs (length xs - 1)

-- the last entry of a trail is the one of its last step
last_entry : (cs : List Chain) (steps : List Step) → last (entries_of cs steps) ≡ option_map (entry_of cs) (last steps)
last_entry cs steps = ap (λ n. slice_get (map (entry_of cs) steps) (n - 1)) (length-map steps (entry_of cs)) ∙ slice_get-map (entry_of cs) steps (length steps - 1)

-- ---- the decider

-- the decider of the walk that a leaf shows
pub decider_shown : (cs : List Chain) (leaf : Leaf) → decider_of (walked_of cs leaf) ≡ option_map (entry_of cs) (step_of leaf)
decider_shown cs leaf = by_case leaf.by_policy
  where
    by_case : (b : Bool) → cond b None (last (entries_of cs leaf.trail.items)) ≡ option_map (entry_of cs) (cond b None (last leaf.trail.items))
    by_case true = refl
    by_case false = last_entry cs leaf.trail.items

-- the same of one that it shows where its answers are right, if all holds then that the rule needs which decides it
pub decider_under : (known : Known) (cs : List Chain) (leaf : Leaf) → IsSurely known leaf → Agrees known.holds leaf.answers → decider_of (walked_by known cs leaf) ≡ option_map (entry_of cs) (step_of leaf)
decider_under known cs leaf surely agrees = by_case leaf.by_policy (surely agrees)
  where
    steps : List Step
    steps = leaf.trail.items

    by_case : (b : Bool) → IfSome (cond b None (last steps)) (λ step. IsTrue (is_met known step)) → cond b None (last (entries_by known cs steps)) ≡ option_map (entry_of cs) (cond b None (last steps))
    by_case true met = refl
    by_case false met = last_entry cs (filter (is_met known) steps) ∙ ap (option_map (entry_of cs)) (last_kept (is_met known) steps met)

-- a chain that has a rule is there
pub rules_there : (cs : List Chain) (name : List ℕ) (k : ℕ) (rule : Rule) → slice_get (rules_of cs name) k ≡ Some rule → (j : ℕ) × (j < length cs) × (name_at cs j ≡ name)
rules_there [] name k rule e = absurd (none_some e)
rules_there (c ∷ cs) name k rule e =
    elim (cases_Bool (is_named name c)) [
      | inl t ↦ (0, omega arith, (bytes_eq-Decides c.name name).0 t)
      | inr f ↦ (
          let r = rules_there cs name k rule (sym (ap (λ b. slice_get (cond b c.rules (rules_of cs name)) k) f) ∙ e) in
          (suc r.0, omega (arith, r.1), r.2))
    ]

-- the step of an entry on a trail is a rule of the table
pub rule_of_entry : (t : Table) (p : Packet) (step : Step) → IsSound t → IsMatched t.chains p.values (entry_of t.chains step) → IsRule t step
rule_of_entry t p step s m =
    let there = rules_there t.chains (name_at t.chains step.chain) (step.number - 1) m.0 m.1 in
    let at : step.chain ≡ there.0 = one_place t step.chain there.0 s there.1 (sym there.2) in
    let lt : step.chain < length t.chains = omega (arith, at, there.1) in
    let own : rules_of t.chains (name_at t.chains step.chain) ≡ (chain_at t step.chain).rules = rules_by_name t (chain_at t step.chain) s (Contains-get_or t.chains step.chain (empty_chain []) lt) in
    let within : step.number - 1 < length (rules_of t.chains (name_at t.chains step.chain)) = slice_get_within (rules_of t.chains (name_at t.chains step.chain)) (step.number - 1) m.0 m.1 in
    let long : length (rules_of t.chains (name_at t.chains step.chain)) ≡ length (chain_at t step.chain).rules = ap (λ (rs : List Rule). length rs) own in
    record { chain = lt; first = m.3; last = omega (arith, within, long) }

-- so is the one that decides a packet's walk
pub decider_is_rule : (t : Table) (p : Packet) (by : Option Step) → IsSound t → decider_of (walk t p) ≡ option_map (entry_of t.chains) by → IfSome by (IsRule t)
decider_is_rule t p None s e = tt
decider_is_rule t p (Some step) s e = rule_of_entry t p step s (All-contains (IsMatched t.chains p.values) trail entry (trail_matches t p) (on_trail (walk t p).by_policy e))
  where
    trail : List Entry
    trail = (walk t p).trail

    entry : Entry
    entry = entry_of t.chains step

    on_trail : (b : Bool) → cond b None (last trail) ≡ Some entry → Contains trail entry
    on_trail true is = absurd (none_some is)
    on_trail false is = let k : ℕ = length trail - 1 in (k, slice_get_within trail k entry is, get_or_from_slice_get trail k entry entry is)
