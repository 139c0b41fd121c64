-- What becomes of a packet is read off from each reading of verdicts of targets' own.
use Rattle.std.proofs.Common.{◌≡◌, ℕ, zero, suc, ◌+◌, ◌-◌, Bool, true, false, cond, not, List, [], ◌∷◌, ◌++◌, length, refl, sym, ◌∙◌, ap, subst, arith, drop, Option, None, Some, option_map, unwrap_or}
use Rattle.std.specs.Prelude.{Contains, nat_lt, slice_index_or}
use Rattle.std.specs.List.{position, position_or_len}
use Rattle.std.specs.Str.{bytes_eq}
use Rattle.std.proofs.lemmas.Slice.Eq.{bytes_eq-Decides}
use Rattle.fields.specs.Hook.{name as hook_name}
use Rattle.classify.specs.NextMatch.{next_match}
use Rattle.rules.specs.rule.Allows.{allows, matches}
use Rattle.rules.specs.rule.Crossing.{cross}
use Rattle.rules.specs.rule.Actions.{target_of}
use Rattle.rules.specs.rule.Rules.{Rule, empty_rule}
use Rattle.rules.specs.declared.rule.action.Action.TheVariants as action
use Rattle.rules.specs.declared.rule.target.Target.{Target}
use Rattle.rules.specs.declared.rule.target.Target.TheVariants as target
use Rattle.table.specs.chains.Table.{Chain, Table, is_named, rules_of}
use Rattle.table.specs.declared.verdict.Verdict.{Verdict}
use Rattle.table.specs.declared.verdict.Verdict.TheVariants as verdict
use Rattle.table.specs.walk.Walk.{Rest, Entry, Hit, hit_at, first_hit, Walked, Next, Ends, GoesOn, after_match, next_of, at_end, decided, with_entry, followed, end_verdict, too_long, walk_within, whole}
use Rattle.table.proofs.laws.walk.WalkLaws.{by_hit, at_last}
use Rattle.rulesets.specs.OwnVerdicts.{Reading, read_rule, read_rules, read_chains, own_in, owned_of, own_at, Given, Read, Own, last_of, given_as, given_at, given_by, given, as_read, ReadingsAreFaithful, AreTelling, IsAmong, ReadingsTell}

abbrev Words : Type 0
Words = List ℕ

abbrev Owned : Type 0
Owned = List (List (Option Words))

-- the target as it is read
abbrev read_target : Reading → Option Words → Option Target → Option Target
read_target r None t = t
read_target r (Some words) t = Some (cond (r words) target.Accept target.Drop)

matches_same : (r : Reading) (own : Option Words) (rule : Rule) (values : List ℕ) → matches values (read_rule r own rule) ≡ matches values rule
unfolding allows cross
matches_same r None rule values = refl
matches_same r (Some words) rule values = refl

deciding : (rule : Rule) (b : Bool) → target_of (record { option_values = rule.option_values; matches = rule.matches; action = Some (cond b action.Accept action.Drop); target_options = [] }) ≡ Some (cond b target.Accept target.Drop)
deciding rule true = refl
deciding rule false = refl

target_read : (r : Reading) (own : Option Words) (rule : Rule) → target_of (read_rule r own rule) ≡ read_target r own (target_of rule)
target_read r None rule = refl
target_read r (Some words) rule = deciding rule (r words)

-- the rule at a place has the target that is read
target_at : (r : Reading) (owned : List (Option Words)) (rules : List Rule) (place : ℕ)
    → target_of (slice_index_or (read_rules r owned rules) place empty_rule) ≡ read_target r (own_in owned rules place) (target_of (slice_index_or rules place empty_rule))
target_at r [] [] place = refl
target_at r [] (rule ∷ rules) place = refl
target_at r (own ∷ owned) [] place = refl
target_at r (own ∷ owned) (rule ∷ rules) zero = target_read r own rule
target_at r (own ∷ owned) (rule ∷ rules) (suc place) = target_at r owned rules place

-- the same rules match
length_same : (r : Reading) (owned : List (Option Words)) (rules : List Rule) → length (read_rules r owned rules) ≡ length rules
length_same r [] [] = refl
length_same r [] (rule ∷ rules) = refl
length_same r (own ∷ owned) [] = refl
length_same r (own ∷ owned) (rule ∷ rules) = ap suc (length_same r owned rules)

first_same : (r : Reading) (owned : List (Option Words)) (rules : List Rule) (values : List ℕ) → position_or_len (matches values) (read_rules r owned rules) ≡ position_or_len (matches values) rules
first_same r [] [] values = refl
first_same r [] (rule ∷ rules) values = refl
first_same r (own ∷ owned) [] values = refl
first_same r (own ∷ owned) (rule ∷ rules) values =
    ap (λ b. cond (not b) (1 + position_or_len (matches values) (read_rules r owned rules)) 0) (matches_same r own rule values)
    ∙ ap (λ n. cond (not (matches values rule)) (1 + n) 0) (first_same r owned rules values)

position_same : (r : Reading) (owned : List (Option Words)) (rules : List Rule) (values : List ℕ) → position (matches values) (read_rules r owned rules) ≡ position (matches values) rules
position_same r owned rules values =
    ap (λ (n : ℕ). cond (nat_lt n (length (read_rules r owned rules))) (Some n) None) (first_same r owned rules values)
    ∙ ap (λ (m : ℕ). cond (nat_lt (position_or_len (matches values) rules) m) (Some (position_or_len (matches values) rules)) None) (length_same r owned rules)

read_none : (r : Reading) (rules : List Rule) → read_rules r [] rules ≡ rules
read_none r [] = refl
read_none r (rule ∷ rules) = refl

drop_read : (r : Reading) (owned : List (Option Words)) (rules : List Rule) (n : ℕ) → drop n (read_rules r owned rules) ≡ read_rules r (drop n owned) (drop n rules)
drop_read r owned rules zero = refl
drop_read r [] [] (suc n) = refl
drop_read r [] (rule ∷ rules) (suc n) = sym (read_none r (drop n rules))
drop_read r (own ∷ owned) [] (suc n) = refl
drop_read r (own ∷ owned) (rule ∷ rules) (suc n) = drop_read r owned rules n

next_same : (r : Reading) (owned : List (Option Words)) (rules : List Rule) (values : List ℕ) (from : ℕ) → next_match (matches values) (read_rules r owned rules) from ≡ next_match (matches values) rules from
next_same r owned rules values from =
    ap (λ rs. option_map (λ (k : ℕ). from + k) (position (matches values) rs)) (drop_read r owned rules from)
    ∙ ap (option_map (λ (k : ℕ). from + k)) (position_same r (drop from owned) (drop from rules) values)

-- the rules of a chain by its name
rules_read : (r : Reading) (owned : Owned) (chains : List Chain) (name : Words) → rules_of (read_chains r owned chains) name ≡ read_rules r (owned_of owned chains name) (rules_of chains name)
rules_read r [] [] name = refl
rules_read r [] (chain ∷ chains) name = sym (read_none r (rules_of (chain ∷ chains) name))
rules_read r (own ∷ owned) [] name = refl
rules_read r (own ∷ owned) (chain ∷ chains) name = go (is_named name chain) (rules_read r owned chains name)
  where
    go : (b : Bool) → rules_of (read_chains r owned chains) name ≡ read_rules r (owned_of owned chains name) (rules_of chains name)
        → cond b (read_rules r own chain.rules) (rules_of (read_chains r owned chains) name) ≡ read_rules r (cond b own (owned_of owned chains name)) (cond b chain.rules (rules_of chains name))
    go true rest = refl
    go false rest = rest

module _ (owned : Owned) (chains : List Chain) where
  -- the chains as they are read
  abbrev shown : Reading → List Chain
  shown r = read_chains r owned chains

  -- a rule that matched, as it is read
  abbrev read_hit : Reading → Hit → Hit
  read_hit r hit = record { entry = hit.entry; target = read_target r (own_at owned chains hit.entry) hit.target; own = hit.own; stack = hit.stack }

  back : (n : ℕ) → (n + 1) - 1 ≡ n
  back n = omega arith

  hit_read : (r : Reading) (name : Words) (stack : List Rest) (place : ℕ) → hit_at (shown r) name stack place ≡ read_hit r (hit_at chains name stack place)
  hit_read r name stack place =
      let rules = rules_of chains name in
      let listed = owned_of owned chains name in
      let is : target_of (slice_index_or (rules_of (shown r) name) place empty_rule) ≡ read_target r (own_in listed rules ((place + 1) - 1)) (target_of (slice_index_or rules place empty_rule)) =
      ap (λ (rs : List Rule). target_of (slice_index_or rs place empty_rule)) (rules_read r owned chains name) ∙ target_at r listed rules place
      ∙ ap (λ (n : ℕ). read_target r (own_in listed rules n) (target_of (slice_index_or rules place empty_rule))) (sym (back place)) in
      ap (λ (t : Option Target). record { entry = record { chain = name; number = place + 1 }; target = t; own = record { chain = name; passed = place + 1 }; stack = stack }) is

  module _ (values : List ℕ) (policy : Verdict) where
    abbrev by_next : List Chain → Rest → List Rest → Option ℕ → Option Hit
    by_next cs rest stack o = elim o [ None ↦ first_hit cs values stack | Some place ↦ Some (hit_at cs rest.chain stack place) ]

    first_read : (r : Reading) (rests : List Rest) → first_hit (shown r) values rests ≡ option_map (read_hit r) (first_hit chains values rests)
    first_read r [] = refl
    first_read r (rest ∷ stack) =
        ap (by_next (shown r) rest stack)
        (ap (λ (rs : List Rule). next_match (matches values) rs rest.passed) (rules_read r owned chains rest.chain) ∙ next_same r (owned_of owned chains rest.chain) (rules_of chains rest.chain) values rest.passed)
        ∙ go (first_read r stack) (next_match (matches values) (rules_of chains rest.chain) rest.passed)
      where
        go : first_hit (shown r) values stack ≡ option_map (read_hit r) (first_hit chains values stack) → (o : Option ℕ) → by_next (shown r) rest stack o ≡ option_map (read_hit r) (by_next chains rest stack o)
        go more None = more
        go more (Some place) = ap Some (hit_read r rest.chain stack place)

    -- a walk in one reading, and the same where all verdicts of targets' own drop
    data Told (r : Reading) : Option Walked → Option Walked → Type 0 where
      Neither : Told r None None
      ByPolicy : (trail : List Entry) (v : Verdict)
          → Told r (Some (record { trail = trail; verdict = v; by_policy = true })) (Some (record { trail = trail; verdict = v; by_policy = true }))
      ByRule : (before : List Entry) (entry : Entry) (v : Verdict) → own_at owned chains entry ≡ None
          → Told r (Some (record { trail = before ++ entry ∷ []; verdict = v; by_policy = false })) (Some (record { trail = before ++ entry ∷ []; verdict = v; by_policy = false }))
      ByOwn : (before : List Entry) (entry : Entry) (words : Words) → own_at owned chains entry ≡ Some words
          → Told r (Some (record { trail = before ++ entry ∷ []; verdict = cond (r words) verdict.Accept verdict.Drop; by_policy = false }))
          (Some (record { trail = before ++ entry ∷ []; verdict = verdict.Drop; by_policy = false }))

    entered : (r : Reading) (entry : Entry) (a b : Option Walked) → Told r a b → Told r (option_map (with_entry entry) a) (option_map (with_entry entry) b)
    entered r entry a b Neither = Neither
    entered r entry a b (ByPolicy trail v) = ByPolicy (entry ∷ trail) v
    entered r entry a b (ByRule before last v none) = ByRule (entry ∷ before) last v none
    entered r entry a b (ByOwn before last words some) = ByOwn (entry ∷ before) last words some

    -- what a rule that matched makes of it
    leaves : (r : Reading) (room : ℕ) → ((rests : List Rest) → Told r (walk_within room (shown r) policy values rests) (walk_within room (shown (λ _. false)) policy values rests))
        → (hit : Hit) (next : Next) → own_at owned chains hit.entry ≡ None
        → Told r (followed (walk_within room (shown r) policy values) hit.entry next) (followed (walk_within room (shown (λ _. false)) policy values) hit.entry next)
    leaves r room more hit (Ends v) none = ByRule [] hit.entry v none
    leaves r room more hit (GoesOn rests) none =
        entered r hit.entry (walk_within room (shown r) policy values rests) (walk_within room (shown (λ _. false)) policy values rests) (more rests)

    -- where the walk is left by a rule whose target is read so
    abbrev left_by : (r : Reading) → ℕ → Hit → Reading → Option Words → Option Walked
    left_by r room hit s own = followed (walk_within room (shown s) policy values) hit.entry (after_match (read_target s own hit.target) hit.own hit.stack)

    ends_own : (W : List Rest → Option Walked) (hit : Hit) (b : Bool) → followed W hit.entry (after_match (Some (cond b target.Accept target.Drop)) hit.own hit.stack) ≡ Some (decided hit.entry (cond b verdict.Accept verdict.Drop))
    ends_own W hit true = refl
    ends_own W hit false = refl

    matched : (r : Reading) (room : ℕ) → ((rests : List Rest) → Told r (walk_within room (shown r) policy values rests) (walk_within room (shown (λ _. false)) policy values rests))
        → (hit : Hit) (own : Option Words) → own_at owned chains hit.entry ≡ own → Told r (left_by r room hit r own) (left_by r room hit (λ _. false) own)
    matched r room more hit None none = leaves r room more hit (next_of hit) none
    matched r room more hit (Some words) some =
        subst (λ (a : Option Walked). Told r a (Some (decided hit.entry verdict.Drop))) (sym (ends_own (walk_within room (shown r) policy values) hit (r words)))
        (ByOwn [] hit.entry words some)

    walks_told : (r : Reading) (room : ℕ) (rests : List Rest) → Told r (walk_within room (shown r) policy values rests) (walk_within room (shown (λ _. false)) policy values rests)
    unfolding walk_within
    walks_told r zero rests =
        subst (λ a. Told r (at_last policy a) (at_last policy (first_hit (shown (λ _. false)) values rests))) (sym (first_read r rests))
        (subst (λ b. Told r (at_last policy (option_map (read_hit r) (first_hit chains values rests))) (at_last policy b)) (sym (first_read (λ _. false) rests))
        (go (first_hit chains values rests)))
      where
        go : (o : Option Hit) → Told r (at_last policy (option_map (read_hit r) o)) (at_last policy (option_map (read_hit (λ _. false)) o))
        go None = ByPolicy [] policy
        go (Some hit) = Neither
    walks_told r (suc room) rests =
        subst (λ a. Told r (by_hit room (shown r) policy values a) (by_hit room (shown (λ _. false)) policy values (first_hit (shown (λ _. false)) values rests))) (sym (first_read r rests))
        (subst (λ b. Told r (by_hit room (shown r) policy values (option_map (read_hit r) (first_hit chains values rests))) (by_hit room (shown (λ _. false)) policy values b))
        (sym (first_read (λ _. false) rests)) (go (walks_told r room) (first_hit chains values rests)))
      where
        go : ((more : List Rest) → Told r (walk_within room (shown r) policy values more) (walk_within room (shown (λ _. false)) policy values more)) → (o : Option Hit)
            → Told r (by_hit room (shown r) policy values (option_map (read_hit r) o)) (by_hit room (shown (λ _. false)) policy values (option_map (read_hit (λ _. false)) o))
        go more None = ByPolicy [] policy
        go more (Some hit) = matched r room more hit (own_at owned chains hit.entry) refl

    last_is : (before : List Entry) (entry : Entry) → last_of (before ++ entry ∷ []) ≡ Some entry
    last_is [] entry = refl
    last_is (e ∷ []) entry = refl
    last_is (e ∷ (f ∷ before)) entry = last_is (f ∷ before) entry

    -- what becomes of the packet of such a walk
    read_off : (r : Reading) (a b : Option Walked) → Told r a b → (unwrap_or a too_long).verdict ≡ as_read r (given_by owned chains (unwrap_or b too_long))
    read_off r a b Neither = refl
    read_off r a b (ByPolicy trail v) = refl
    read_off r a b (ByRule before entry v none) =
        sym (ap (λ o. as_read r (given_at owned chains v o)) (last_is before entry) ∙ ap (λ own. as_read r (given_as v own)) none)
    read_off r a b (ByOwn before entry words some) =
        sym (ap (λ o. as_read r (given_at owned chains verdict.Drop o)) (last_is before entry) ∙ ap (λ own. as_read r (given_as verdict.Drop own)) some)

pub readings_are_faithful : ReadingsAreFaithful
readings_are_faithful r owned t p =
    let policy = end_verdict t p in
    let rests = whole (hook_name p.hook) ∷ [] in
    read_off owned t.chains p.values policy r (walk_within 65536 (read_chains r owned t.chains) policy p.values rests)
    (walk_within 65536 (read_chains (λ _. false) owned t.chains) policy p.values rests) (walks_told owned t.chains p.values policy r 65536 rests)

same_choice : (a b : Bool) → cond a verdict.Accept verdict.Drop ≡ cond b verdict.Accept verdict.Drop → a ≡ b
same_choice true true e = refl
same_choice true false e = absurd (cc)
same_choice false true e = absurd (cc)
same_choice false false e = refl

-- a verdict that the program reads isn't a target's own
not_own : (words : List Words) (rs : List Reading) (telling : AreTelling words rs) (v : Verdict) (w : Words) → Contains words w → v ≡ verdict.Drop
    → ((r : Reading) → Contains rs r → v ≡ cond (r w) verdict.Accept verdict.Drop) → ⊥
not_own words rs telling v w among dropped same =
    let (r, has, accepts) = telling.accepted w among in
    let accepted : verdict.Drop ≡ verdict.Accept = sym dropped ∙ same r has ∙ ap (λ b. cond b verdict.Accept verdict.Drop) accepts in
    absurd (cc)

told_apart : (words : List Words) (rs : List Reading) → AreTelling words rs → (g h : Given) → IsAmong words g → IsAmong words h
    → as_read (λ _. false) g ≡ as_read (λ _. false) h → ((r : Reading) → Contains rs r → as_read r g ≡ as_read r h) → g ≡ h
told_apart words rs telling (Read v) (Read w) among_g among_h dropped same = ap Read dropped
told_apart words rs telling (Read v) (Own w) among_g among_h dropped same = absurd (not_own words rs telling v w among_h dropped same)
told_apart words rs telling (Own w) (Read v) among_g among_h dropped same = absurd (not_own words rs telling v w among_g (sym dropped) (λ r has. sym (same r has)))
told_apart words rs telling (Own w) (Own v) among_g among_h dropped same = go (bytes_eq w v) refl
  where
    go : (b : Bool) → bytes_eq w v ≡ b → Own w ≡ Own v
    go true e = ap Own ((bytes_eq-Decides w v).0 e)
    go false e =
        let (r, has, apart) = telling.apart w v among_g among_h (λ p. let is = (bytes_eq-Decides w v).1 p in absurd (cc)) in
        absurd (apart (same_choice (r w) (r v) (same r has)))

pub readings_tell : ReadingsTell
readings_tell words rs a b s t p telling among_a among_b dropped same =
    told_apart words rs telling (given a s p) (given b t p) among_a among_b
    (sym (readings_are_faithful (λ _. false) a s p) ∙ dropped ∙ readings_are_faithful (λ _. false) b t p)
    (λ r has. sym (readings_are_faithful r a s p) ∙ same r has ∙ readings_are_faithful r b t p)
