-- The walk goes on rule by rule and match by match, and its trail grows with it.
use Rattle.std.proofs.Common.{◌≡◌, inl, inr, ℕ, ◌+◌, ◌<◌, ◌≤◌, Bool, true, false, cond, not, List, ◌∷◌, length, drop, get_or, sym, ◌∙◌, ap, arith, Option, Some, None, [], ◌++◌, map, refl, append_assoc, subst, unwrap_or, zero, suc, ◌-◌, max, reverse}
use Rattle.std.specs.List.{position, position_or_len}
use Rattle.std.specs.Option.{option_map}
use Rattle.std.proofs.Math.Dec.{ltb}
use Rattle.std.proofs.lemmas.Bool.{cases_lt, lt-ltb, le-ltb}
use Rattle.std.proofs.lemmas.List.{drop_more, append-nil, map-append, get_or_default, length-map, length-reverse}
use Rattle.rules.specs.rule.Allows.{matches}
use Rattle.classify.proofs.laws.search.NextLaws.{next_from_first}
use Rattle.rules.specs.rule.Rules.{Rule, empty_rule}
use Rattle.table.specs.chains.Table.{Chain, rules_of, Policy, user_chains}
use Rattle.table.specs.walk.Walk.{Rest, Hit, hit_at, first_hit, Entry, Walked, with_entry, too_long, Next, Ends, GoesOn, next_of, whole, at_end, followed, walk_within, shown, Shows}
use Rattle.table.specs.declared.verdict.Verdict.TheVariants.{TooLong}
use Rattle.table.specs.declared.walk.trail.Step.{Step}
use Rattle.table.specs.declared.walk.trail.Trail.{Trail}
use Rattle.table.specs.steps.Kept.{stored_at, name_at, listed, table_with, IsStored}
use Rattle.table.specs.steps.StoredChains.{StoredChain}
use Rattle.table.specs.steps.Walking.{rest_of, state_of, start, NoRoom, IsState, IsHit}
use Rattle.table.specs.walk.Depth.{stacked, deeper, depth_within}
use Rattle.table.specs.declared.chain.entry.Flow.{Flow}
use Rattle.table.specs.declared.verdict.Verdict.{Verdict}
use Rattle.table.specs.declared.walk.Pending.{Pending}
use Rattle.table.specs.declared.chain.entry.Flow.TheVariants as flow
use Rattle.table.proofs.laws.walk.DepthLaws.{depth_from}

-- ---- The walk goes on rule by rule.

abbrev pub rule_at : List Chain → Rest → Rule
rule_at cs rest = get_or (rules_of cs rest.chain) rest.passed empty_rule

abbrev pub next_rule : Rest → Rest
next_rule rest = record { chain = rest.chain; passed = rest.passed + 1 }

abbrev pub hit_by : List Chain → List ℕ → Rest → List Rest → Option ℕ → Option Hit
hit_by cs values rest stack o = elim o as (λ x. Option Hit) [ None ↦ first_hit cs values stack | Some place ↦ Some (hit_at cs rest.chain stack place) ]

-- nothing is left of the chain: the newest rest on the stack goes on
pub at_an_end : (cs : List Chain) (values : List ℕ) (rest : Rest) (stack : List Rest) → length (rules_of cs rest.chain) ≤ rest.passed → first_hit cs values (rest ∷ stack) ≡ first_hit cs values stack
at_an_end cs values rest stack le =
    ap (hit_by cs values rest stack) (sym (next_from_first (matches values) (rules_of cs rest.chain) rest.passed empty_rule None (λ k ge lt t. absurd (omega arith))))

-- the first rule of the rest matches
pub at_a_match : (cs : List Chain) (values : List ℕ) (rest : Rest) (stack : List Rest) → rest.passed < length (rules_of cs rest.chain) → matches values (rule_at cs rest) ≡ true
    → first_hit cs values (rest ∷ stack) ≡ Some (hit_at cs rest.chain stack rest.passed)
at_a_match cs values rest stack lt t =
    ap (hit_by cs values rest stack) (sym (next_from_first (matches values) (rules_of cs rest.chain) rest.passed empty_rule (Some rest.passed) (omega arith, lt, t, λ k ge below h. absurd (omega arith))))

-- where the first element fails, the search goes on behind it
passed_over : {B : Type 0} (test : B → Bool) (x : B) (xs : List B) (from : ℕ) → test x ≡ false
    → option_map (λ (k : ℕ). from + k) (position test (x ∷ xs)) ≡ option_map (λ (k : ℕ). from + 1 + k) (position test xs)
passed_over test x xs from un =
    let p : ℕ = position_or_len test xs in
    let one : position_or_len test (x ∷ xs) ≡ 1 + p = ap (λ b. cond (not b) (1 + p) 0) un in
    let F : ℕ → Option ℕ = λ n. option_map (λ (k : ℕ). from + k) (cond (ltb n (length (x ∷ xs))) (Some n) None) in
    elim (cases_lt p (length xs)) [
      | inl lt ↦ (
          ap F one
          ∙ ap (λ b. option_map (λ (k : ℕ). from + k) (cond b (Some (1 + p)) None)) (lt-ltb (1 + p) (length (x ∷ xs)) (omega arith))
          ∙ ap Some (omega arith)
          ∙ sym (ap (λ b. option_map (λ (k : ℕ). from + 1 + k) (cond b (Some p) None)) (lt-ltb p (length xs) lt)))
      | inr ge ↦ (
          ap F one
          ∙ ap (λ b. option_map (λ (k : ℕ). from + k) (cond b (Some (1 + p)) None)) (le-ltb (1 + p) (length (x ∷ xs)) (omega arith))
          ∙ sym (ap (λ b. option_map (λ (k : ℕ). from + 1 + k) (cond b (Some p) None)) (le-ltb p (length xs) ge)))
    ]

-- the first rule of the rest doesn't match: what is behind it goes on
pub at_no_match : (cs : List Chain) (values : List ℕ) (rest : Rest) (stack : List Rest) → rest.passed < length (rules_of cs rest.chain) → matches values (rule_at cs rest) ≡ false
    → first_hit cs values (rest ∷ stack) ≡ first_hit cs values (next_rule rest ∷ stack)
at_no_match cs values rest stack lt un =
    let rules : List Rule = rules_of cs rest.chain in
    let test : Rule → Bool = matches values in
    ap (hit_by cs values rest stack) (ap (λ (rs : List Rule). option_map (λ (k : ℕ). rest.passed + k) (position test rs)) (drop_more rules rest.passed empty_rule lt) ∙ passed_over test (rule_at cs rest) (drop (rest.passed + 1) rules) rest.passed un)

-- ---- The trail grows match by match.

-- these entries, and what follows them
abbrev pub with_entries : List Entry → Walked → Walked
with_entries entries walked = record { trail = entries ++ walked.trail; verdict = walked.verdict; by_policy = walked.by_policy }

abbrev pub after : List Entry → Option Walked → Walked
after entries o = unwrap_or (option_map (with_entries entries) o) too_long

pub after_none : (o : Option Walked) → after [] o ≡ unwrap_or o too_long
after_none None = refl
after_none (Some walked) = refl

pub after_one : (entries : List Entry) (entry : Entry) (o : Option Walked) → after entries (option_map (with_entry entry) o) ≡ after (entries ++ entry ∷ []) o
after_one entries entry None = refl
after_one entries entry (Some walked) =
    ap (λ (trail : List Entry). let w : Walked = record { trail = trail; verdict = walked.verdict; by_policy = walked.by_policy } in w) (sym (append_assoc entries (entry ∷ []) walked.trail))

-- the steps show the entries
abbrev pub AreShown : List Chain → List Entry → List Step → Type 0
AreShown cs entries steps = map (shown cs) entries ≡ map Some steps

pub shown_end : (cs : List Chain) (entries : List Entry) (steps : List Step) → AreShown cs entries steps → AreShown cs (entries ++ []) steps
shown_end cs entries steps h = ap (map (shown cs)) (append-nil entries) ∙ h

pub shown_one : (cs : List Chain) (entries : List Entry) (steps new : List Step) (entry : Entry) (step : Step) → AreShown cs entries steps → shown cs entry ≡ Some step → new ≡ steps ++ step ∷ [] → AreShown cs (entries ++ entry ∷ []) new
shown_one cs entries steps new entry step h s e =
    map-append (shown cs) entries (entry ∷ [])
    ∙ ap (λ (os : List (Option Step)). os ++ shown cs entry ∷ []) h
    ∙ ap (λ (o : Option Step). map Some steps ++ o ∷ []) s
    ∙ sym (map-append Some steps (step ∷ []))
    ∙ sym (ap (map Some) e)

-- a walk that ends
pub shows_end : (cs : List Chain) (entries : List Entry) (o : Option Walked) (w all : Walked) (trail given : Trail) → o ≡ Some w → after entries o ≡ all → AreShown cs (entries ++ w.trail) trail.steps.items
    → trail.verdict ≡ w.verdict → trail.by_policy ≡ w.by_policy → given ≡ trail → Shows cs all given
shows_end cs entries o w all trail given e same steps verdict by_policy is =
    let P : Walked → Type 0 = λ x. Shows cs x trail in
    let Q : Trail → Type 0 = λ t. Shows cs all t in
    subst Q (sym is) (subst P (ap (after entries) (sym e) ∙ same) (record { steps = steps; verdict = verdict; by_policy = by_policy }))

-- a walk that is too long
pub shows_long : (cs : List Chain) (entries : List Entry) (o : Option Walked) (all : Walked) (trail given : Trail) → o ≡ None → after entries o ≡ all → trail.steps.items ≡ [] → trail.verdict ≡ TooLong → trail.by_policy ≡ false
    → given ≡ trail → Shows cs all given
shows_long cs entries o all trail given e same steps verdict by_policy is =
    let P : Walked → Type 0 = λ x. Shows cs x trail in
    let Q : Trail → Type 0 = λ t. Shows cs all t in
    subst Q (sym is) (subst P (ap (after entries) (sym e) ∙ same) (record { steps = sym (ap (map Some) steps); verdict = verdict; by_policy = by_policy }))

-- ---- A walk match by match.

-- The walk with room for so many entries

abbrev pub by_hit : ℕ → List Chain → Verdict → List ℕ → Option Hit → Option Walked
by_hit room cs policy values o = elim o as (λ x. Option Walked) [ None ↦ Some (at_end policy) | Some hit ↦ followed (walk_within room cs policy values) hit.entry (next_of hit) ]

abbrev pub at_last : Verdict → Option Hit → Option Walked
at_last policy o = elim o as (λ x. Option Walked) [ None ↦ Some (at_end policy) | Some hit ↦ None ]

pub within_end : (left : ℕ) (cs : List Chain) (policy : Verdict) (values : List ℕ) (rests : List Rest) → first_hit cs values rests ≡ None → walk_within left cs policy values rests ≡ Some (at_end policy)
unfolding walk_within
within_end zero cs policy values rests e = ap (at_last policy) e
within_end (suc left) cs policy values rests e = ap (by_hit left cs policy values) e

pub within_long : (left : ℕ) (cs : List Chain) (policy : Verdict) (values : List ℕ) (rests : List Rest) (hit : Hit) → first_hit cs values rests ≡ Some hit → left ≡ 0 → walk_within left cs policy values rests ≡ None
unfolding walk_within
within_long zero cs policy values rests hit e z = ap (at_last policy) e
within_long (suc left) cs policy values rests hit e z = absurd (omega arith)

pub within_hit : (left : ℕ) (cs : List Chain) (policy : Verdict) (values : List ℕ) (rests : List Rest) (hit : Hit) (next : Next) → first_hit cs values rests ≡ Some hit → next_of hit ≡ next → 0 < left
    → walk_within left cs policy values rests ≡ followed (walk_within (left - 1) cs policy values) hit.entry next
unfolding walk_within
within_hit zero cs policy values rests hit next e n lt = absurd (omega arith)
within_hit (suc left) cs policy values rests hit next e n lt =
    let back : left ≡ suc left - 1 = omega arith in
    ap (by_hit left cs policy values) e ∙ ap (followed (walk_within left cs policy values) hit.entry) n ∙ ap (λ k. followed (walk_within k cs policy values) hit.entry next) back

-- at the end of the built-in chain
pub within_policy : (left : ℕ) (cs : List Chain) (policy : Verdict) (values : List ℕ) (rests : List Rest) (hit : Hit) → first_hit cs values rests ≡ Some hit → next_of hit ≡ GoesOn [] → 0 < left
    → walk_within left cs policy values rests ≡ Some (with_entry hit.entry (at_end policy))
within_policy left cs policy values rests hit e n lt =
    within_hit left cs policy values rests hit (GoesOn []) e n lt ∙ ap (option_map (with_entry hit.entry)) (within_end (left - 1) cs policy values [] refl)

-- the verdict
abbrev pub verdict_in : Option Walked → Verdict
verdict_in o = (unwrap_or o too_long).verdict

pub verdict_after : (entry : Entry) (o : Option Walked) → verdict_in (option_map (with_entry entry) o) ≡ verdict_in o
verdict_after entry None = refl
verdict_after entry (Some walked) = refl

-- The depth

deeper_by : (go : List Rest → ℕ) (rests : List Rest) (next : Next) → stacked rests ≤ deeper go rests next
deeper_by go rests (Ends v) = omega arith
deeper_by go rests (GoesOn more) = omega arith

stacked_by : (go : List Rest → ℕ) (rests : List Rest) (o : Option Hit) → stacked rests ≤ elim o as (λ x. ℕ) [ None ↦ stacked rests | Some hit ↦ deeper go rests (next_of hit) ]
stacked_by go rests None = omega arith
stacked_by go rests (Some hit) = deeper_by go rests (next_of hit)

stacked_in : (room : ℕ) (cs : List Chain) (values : List ℕ) (rests : List Rest) → stacked rests ≤ depth_within room cs values rests
unfolding depth_within
stacked_in zero cs values rests = omega arith
stacked_in (suc room) cs values rests = stacked_by (depth_within room cs values) rests (first_hit cs values rests)

-- no deeper goes what follows a match
pub depth_after : (left n : ℕ) (cs : List Chain) (values : List ℕ) (rests more : List Rest) (hit : Hit) → first_hit cs values rests ≡ Some hit → next_of hit ≡ GoesOn more → 0 < left
    → depth_within left cs values rests ≤ n → depth_within (left - 1) cs values more ≤ n
unfolding depth_within
depth_after zero n cs values rests more hit e g lt le = absurd (omega arith)
depth_after (suc left) n cs values rests more hit e g lt le =
    let by : Option Hit → ℕ = λ o. elim o as (λ x. ℕ) [ None ↦ stacked rests | Some h ↦ deeper (depth_within left cs values) rests (next_of h) ] in
    let is : depth_within (suc left) cs values rests ≡ max (stacked rests) (depth_within left cs values more) = ap by e ∙ ap (deeper (depth_within left cs values) rests) g in
    let back : depth_within (suc left - 1) cs values more ≡ depth_within left cs values more = ap (λ k. depth_within k cs values more) (let q : suc left - 1 ≡ left = omega arith in q) in
    omega (arith, is, back, le)

-- so a stack on which a jump finds no room has fewer places than there may be user chains
pub room_short : (places left : ℕ) (slots : List (Option StoredChain)) (order values : List ℕ) (rests : List Rest) (found : Option Hit) (way : Flow) (at : Pending) (stack : List Pending) → IsHit slots order found way at stack
    → found ≡ first_hit (listed slots order) values rests → 0 < left → depth_within left (listed slots order) values rests ≤ 1024 → NoRoom places way stack → places < 1024
room_short places left slots order values rests found (flow.Decide v) at stack h e lt le full = absurd full
room_short places left slots order values rests found flow.Continue at stack h e lt le full = absurd full
room_short places left slots order values rests found flow.Return at stack h e lt le full = absurd full
room_short places left slots order values rests found (flow.Goto key) at stack h e lt le full = absurd full
room_short places left slots order values rests found (flow.Jump key) at stack h e lt le full =
    let more : List Rest = rest_of slots (start key) ∷ state_of slots at stack in
    let below : depth_within (left - 1) (listed slots order) values more ≤ 1024 = depth_after left 1024 (listed slots order) values rests more h.hit (sym e ∙ h.is) h.next lt le in
    omega (arith, full, below, stacked_in (left - 1) (listed slots order) values more, length-map (reverse stack) (rest_of slots), length-reverse stack)

-- The start

-- the key of the chain at a place of the index
key_is : (order : List ℕ) (hook key : ℕ) → hook < length order → key ≡ get_or order hook key → get_or order hook 0 ≡ key
key_is order hook key lt at = get_or_default order hook 0 key lt ∙ sym at

pub start_state : (order : List ℕ) (hook key : ℕ) (at : Pending) (stack : List Pending) → hook < length order → key ≡ get_or order hook key → at ≡ start key → stack ≡ [] → IsState order at stack
start_state order hook key at stack lt own is e =
    let P : Pending → Type 0 = λ x. IsState order x stack in
    let Q : List Pending → Type 0 = λ xs. IsState order (start key) xs in
    subst P (sym is) (subst Q (sym e) (record { present = (hook, lt, key_is order hook key lt own); waiting = λ k d b. absurd (omega arith) }))

pub start_rests : (slots : List (Option StoredChain)) (order : List ℕ) (hook key : ℕ) (at : Pending) (stack : List Pending) → hook < length order → key ≡ get_or order hook key → at ≡ start key → stack ≡ []
    → state_of slots at stack ≡ whole (name_at slots order hook) ∷ []
start_rests slots order hook key at stack lt own is e =
    ap (λ x. state_of slots x stack) is ∙ ap (state_of slots (start key)) e ∙ ap (λ k. whole (stored_at slots k).name ∷ []) (sym (key_is order hook key lt own))

pub start_depth : (ps : List Policy) (room : ℕ) (slots : List (Option StoredChain)) (order values : List ℕ) (rests : List Rest) (name : List ℕ) → IsStored ps slots order → rests ≡ whole name ∷ [] → depth_within room (listed slots order) values rests ≤ 1024
start_depth ps room slots order values rests name h e =
    let few : length (user_chains (listed slots order)) ≤ 1024 = h.sound.few in
    let is : depth_within room (listed slots order) values rests ≡ depth_within room (listed slots order) values (whole name ∷ []) = ap (depth_within room (listed slots order) values) e in
    omega (arith, few, is, depth_from room (table_with ps slots order) values name h.sound)
