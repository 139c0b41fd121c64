-- Chains and rules once it is known which conditions hold: each keeps its place or never matches, and without needs nothing changes.
use Rattle.std.proofs.Common.{◌≡◌, inl, inr, ℕ, Bool, true, false, ◌&&◌, List, refl, ◌∙◌, ap, arith, Some, zero, suc, ◌+◌, ◌-◌, ◌<◌, cond, not, ◌||◌, ◌⊎◌, [], ◌∷◌, length, get_or, drop, sym, None, All, Contains, nat_le, true≢false}
use Rattle.std.specs.Fmt.{digits}
use Rattle.std.proofs.lemmas.Bool.Decides.{leb_tells}
use Rattle.std.proofs.lemmas.List.Folds.{list_all_at}
use Rattle.std.specs.List.{list_any, position, position_or_len}
use Rattle.std.specs.Str.{bytes_eq}
use Rattle.std.proofs.Math.Dec.{ltb}
use Rattle.std.proofs.lemmas.Bool.{cases_Bool, cond-false, cond-true}
use Rattle.std.proofs.lemmas.List.{length-map}
use Rattle.fields.specs.numbers.Field.{all_fields, number_on}
use Rattle.fields.specs.numbers.Spans.{SpanSet}
use Rattle.fields.specs.text.Number.{number_of, number_to}
use Rattle.fields.specs.values.IpRange.{ip_range_of}
use Rattle.fields.specs.values.Prefix.{address_of}
use Rattle.rules.specs.options.Matches.{kind_of}
use Rattle.rules.specs.options.Options.{option_of}
use Rattle.rules.specs.options.OptionValues.{value_of}
use Rattle.rules.specs.Printing.{TextReadsBack}
use Rattle.rules.specs.reading.Steps.{option_words_at, match_for, rule_of, step, with_match, with_option, with_option_at}
use Rattle.rules.specs.rule.Allows.{allows, matches}
use Rattle.rules.specs.rule.Crossing.{cross}
use Rattle.rules.proofs.laws.printing.RoundTripLaws.{text_reads_back}
use Rattle.table.specs.chains.Table.{chain_named_by, Chain, Table, chain_at, empty_chain, is_named, is_user, names_of, rules_of, user_chains}
use Rattle.fields.specs.declared.packet.hook.Hook.{Hook}
use Rattle.fields.specs.Packet.{PacketView as Packet}
use Rattle.rules.specs.rule.Rules.{Rule, empty_rule}
use Rattle.table.specs.declared.walk.trail.Step.{Step}
use Rattle.table.specs.walk.Walk.{Entry}
use Rattle.fields.specs.declared.numbers.field.Field.TheVariants as field
use Rattle.questions.specs.Foreign.{never, AreWithoutNeeds, Assignment, all_hold, needs_at, resolved, resolved_chains, resolved_rule, resolved_rules}
use Rattle.questions.specs.boxes.Cut.{IsApart}
use Rattle.questions.specs.Ends.{IsRule, rule_at}
use Rattle.questions.specs.Leaves.{entry_of}
use Rattle.questions.specs.asked.Laws.{ChainsKeepPlaces}
use Rattle.questions.specs.declared.foreign.need.Need.{Need}
use Rattle.questions.specs.declared.walking.front.Front.{Front}
use Rattle.questions.specs.declared.walking.task.Pending.{Pending}
use Rattle.questions.specs.steps.Takers.{IsMatchedAt}
use Rattle.questions.specs.steps.Waiting.{AllThere, IsThere}

-- ---- The rule that matches no packet.

no_address : (n : ℕ) → (nat_le 1 n && nat_le n 0) ≡ false
no_address n =
    elim (leb_tells 1 n) [
      | inl (some, low) ↦ elim (leb_tells n 0) [
        | inl (none, high) ↦ absurd (omega (arith, low, high))
        | inr (none, high) ↦ ap (λ (b : Bool). b && nat_le n 0) some ∙ none
      ]
      | inr (none, low) ↦ ap (λ (b : Bool). b && nat_le n 0) none
    ]

source_refused : (n : ℕ) → allows never field.Source n ≡ false
unfolding allows
source_refused n = ap (λ (b : Bool). (b && true) && true) (no_address n)

pub never_matches : (numbers : List ℕ) → matches numbers never ≡ false
never_matches numbers =
    ap (λ (b : Bool). b && cross numbers never)
    (list_all_at (λ f. allows never f (number_on numbers f)) all_fields 0 field.Source (omega arith) (source_refused (number_on numbers field.Source)))

pub never_apart : (box : List SpanSet) → IsApart never box
never_apart box = record { none = λ numbers point has. never_matches numbers }

pub never_reads_back : TextReadsBack never
unfolding rule_of option_words_at option_of step kind_of with_match match_for with_option_at with_option value_of ip_range_of digits address_of number_to number_of
never_reads_back = text_reads_back never refl

pub never_names_nothing : (name : List ℕ) → chain_named_by never ≡ Some name → ⊥
never_names_nothing name is = cc

-- ---- Chains and rules once it is known which conditions hold: each keeps its place, and without needs nothing changes.

-- ---- a rule

pub resolved_is : (a : Assignment) (needs : List Need) (rule : Rule) → all_hold a needs ≡ true → resolved_rule a needs rule ≡ rule
resolved_is a needs rule h = cond-true (all_hold a needs) rule never h

pub resolved_not : (a : Assignment) (needs : List Need) (rule : Rule) → all_hold a needs ≡ false → resolved_rule a needs rule ≡ never
resolved_not a needs rule h = cond-false (all_hold a needs) rule never h

-- it is still there, or the one that matches nothing stands in its place
pub is_or_never : (a : Assignment) (needs : List Need) (rule : Rule) → (resolved_rule a needs rule ≡ rule) ⊎ (resolved_rule a needs rule ≡ never)
is_or_never a needs rule = elim (cases_Bool (all_hold a needs)) [ inl h ↦ inl (resolved_is a needs rule h) | inr h ↦ inr (resolved_not a needs rule h) ]

-- ---- the rules of a chain

pub rules_length : (needs : List (List Need)) (a : Assignment) (rules : List Rule) → length (resolved_rules a needs rules) ≡ length rules
rules_length needs a [] = refl
rules_length [] a (r ∷ rules) = ap suc (rules_length [] a rules)
rules_length (own ∷ needs) a (r ∷ rules) = ap suc (rules_length needs a rules)

pub rule_resolved : (needs : List (List Need)) (a : Assignment) (rules : List Rule) (k : ℕ) (r : Rule) → k < length rules → get_or (resolved_rules a needs rules) k r ≡ resolved_rule a (get_or needs k []) (get_or rules k r)
rule_resolved needs a [] k r lt = absurd (omega (arith, lt))
rule_resolved [] a (x ∷ rules) zero r lt = refl
rule_resolved (own ∷ needs) a (x ∷ rules) zero r lt = refl
rule_resolved [] a (x ∷ rules) (suc k) r lt = rule_resolved [] a rules k r (omega (arith, lt))
rule_resolved (own ∷ needs) a (x ∷ rules) (suc k) r lt = rule_resolved needs a rules k r (omega (arith, lt))

pub rule_there : (needs : List (List Need)) (a : Assignment) (rules : List Rule) (x : Rule) → Contains (resolved_rules a needs rules) x → (x ≡ never) ⊎ Contains rules x
rule_there needs a rules x (k, lt, is) =
    let within : k < length rules = omega (arith, lt, rules_length needs a rules) in
    let here = rule_resolved needs a rules k x within in
    elim (is_or_never a (get_or needs k []) (get_or rules k x)) [ inl same ↦ inr (k, within, sym same ∙ sym here ∙ is) | inr gone ↦ inl (sym is ∙ here ∙ gone) ]

-- without needs
rules_stay : (needs : List (List Need)) (a : Assignment) (rules : List Rule) → ((k : ℕ) → get_or needs k [] ≡ []) → resolved_rules a needs rules ≡ rules
rules_stay needs a [] none = refl
rules_stay [] a (r ∷ rules) none = ap (λ (rs : List Rule). r ∷ rs) (rules_stay [] a rules none)
rules_stay (own ∷ needs) a (r ∷ rules) none =
    ap (λ (x : Rule). x ∷ resolved_rules a needs rules) (ap (λ (needed : List Need). resolved_rule a needed r) (none 0))
    ∙ ap (λ (rs : List Rule). r ∷ rs) (rules_stay needs a rules (λ k. none (suc k)))

-- ---- the chains

pub names_same : (needs : List (List (List Need))) (a : Assignment) (chains : List Chain) → names_of (resolved_chains a needs chains) ≡ names_of chains
names_same needs a [] = refl
names_same [] a (c ∷ chains) = ap (λ (ns : List (List ℕ)). c.name ∷ ns) (names_same [] a chains)
names_same (own ∷ needs) a (c ∷ chains) = ap (λ (ns : List (List ℕ)). c.name ∷ ns) (names_same needs a chains)

pub length_same : (needs : List (List (List Need))) (a : Assignment) (chains : List Chain) → length (resolved_chains a needs chains) ≡ length chains
length_same needs a [] = refl
length_same [] a (c ∷ chains) = ap suc (length_same [] a chains)
length_same (own ∷ needs) a (c ∷ chains) = ap suc (length_same needs a chains)

pub chain_named : (needs : List (List (List Need))) (a : Assignment) (chains : List Chain) (k : ℕ) (c : Chain) → (get_or (resolved_chains a needs chains) k c).name ≡ (get_or chains k c).name
chain_named needs a [] k c = refl
chain_named [] a (x ∷ chains) zero c = refl
chain_named (own ∷ needs) a (x ∷ chains) zero c = refl
chain_named [] a (x ∷ chains) (suc k) c = chain_named [] a chains k c
chain_named (own ∷ needs) a (x ∷ chains) (suc k) c = chain_named needs a chains k c

pub chain_resolved : (needs : List (List (List Need))) (a : Assignment) (chains : List Chain) (k : ℕ) (c : Chain) → k < length chains → (get_or (resolved_chains a needs chains) k c).rules ≡ resolved_rules a (get_or needs k []) (get_or chains k c).rules
chain_resolved needs a [] k c lt = absurd (omega (arith, lt))
chain_resolved [] a (x ∷ chains) zero c lt = sym (rules_stay [] a x.rules (λ k. refl))
chain_resolved (own ∷ needs) a (x ∷ chains) zero c lt = refl
chain_resolved [] a (x ∷ chains) (suc k) c lt = chain_resolved [] a chains k c (omega (arith, lt))
chain_resolved (own ∷ needs) a (x ∷ chains) (suc k) c lt = chain_resolved needs a chains k c (omega (arith, lt))

pub rules_by_name : (needs : List (List (List Need))) (a : Assignment) (chains : List Chain) (name : List ℕ) → (own : List (List Need)) × (rules_of (resolved_chains a needs chains) name ≡ resolved_rules a own (rules_of chains name))
rules_by_name needs a [] name = ([], refl)
rules_by_name [] a (c ∷ chains) name =
    elim (cases_Bool (is_named name c)) [
      | inl here ↦ ([], cond-true (is_named name c) c.rules _ here ∙ sym (rules_stay [] a c.rules (λ k. refl)) ∙ ap (resolved_rules a []) (sym (cond-true (is_named name c) c.rules _ here)))
      | inr un ↦ (let (own, is) = rules_by_name [] a chains name in (own, cond-false (is_named name c) _ _ un ∙ is ∙ ap (resolved_rules a own) (sym (cond-false (is_named name c) _ _ un))))
    ]
rules_by_name (own ∷ needs) a (c ∷ chains) name =
    elim (cases_Bool (is_named name c)) [
      | inl here ↦ (own, cond-true (is_named name c) _ _ here ∙ ap (resolved_rules a own) (sym (cond-true (is_named name c) c.rules _ here)))
      | inr un ↦ (let (more, is) = rules_by_name needs a chains name in (more, cond-false (is_named name c) _ _ un ∙ is ∙ ap (resolved_rules a more) (sym (cond-false (is_named name c) _ _ un))))
    ]

pub has_same : (needs : List (List (List Need))) (a : Assignment) (name : List ℕ) (chains : List Chain) → list_any (is_named name) (resolved_chains a needs chains) ≡ list_any (is_named name) chains
has_same needs a name [] = refl
has_same [] a name (c ∷ chains) = ap (λ (b : Bool). is_named name c || b) (has_same [] a name chains)
has_same (own ∷ needs) a name (c ∷ chains) = ap (λ (b : Bool). is_named name c || b) (has_same needs a name chains)

one_more : (b : Bool) (x y : Chain) (xs ys : List Chain) → length xs ≡ length ys → length (cond b (x ∷ xs) xs) ≡ length (cond b (y ∷ ys) ys)
one_more true x y xs ys e = ap suc e
one_more false x y xs ys e = e

pub users_same : (needs : List (List (List Need))) (a : Assignment) (chains : List Chain) → length (user_chains (resolved_chains a needs chains)) ≡ length (user_chains chains)
users_same needs a [] = refl
users_same [] a (c ∷ chains) = one_more (is_user c) c c (user_chains (resolved_chains a [] chains)) (user_chains chains) (users_same [] a chains)
users_same (own ∷ needs) a (c ∷ chains) =
    one_more (is_user c) (record { name = c.name; rules = resolved_rules a own c.rules }) c (user_chains (resolved_chains a needs chains)) (user_chains chains) (users_same needs a chains)

-- without needs
chains_stay : (needs : List (List (List Need))) (a : Assignment) (chains : List Chain) → AreWithoutNeeds needs → resolved_chains a needs chains ≡ chains
chains_stay needs a [] none = refl
chains_stay [] a (c ∷ chains) none = ap (λ (cs : List Chain). c ∷ cs) (chains_stay [] a chains none)
chains_stay (own ∷ needs) a (c ∷ chains) none =
    ap (λ (rules : List Rule). with_rules c rules ∷ resolved_chains a needs chains) (rules_stay own a c.rules (none 0))
    ∙ ap (λ (cs : List Chain). c ∷ cs) (chains_stay needs a chains (λ place. none (suc place)))
  where
    with_rules : Chain → List Rule → Chain
    with_rules x rules = record { name = x.name; rules = rules }

-- ---- the table

-- without needs it is the table itself, whatever holds
pub resolved_without_needs : (needs : List (List (List Need))) (a : Assignment) (t : Table) → AreWithoutNeeds needs → resolved needs a t ≡ t
resolved_without_needs needs a t none = ap (λ (chains : List Chain). record { policies = t.policies; chains = chains }) (chains_stay needs a t.chains none)

-- ---- places

module _ (needs : List (List (List Need))) (a : Assignment) (t : Table) where
  abbrev left : Table
  left = resolved needs a t

  pub there_left : (place : ℕ) → place < length t.chains → place < length left.chains
  there_left place lt = omega (arith, lt, length_same needs a t.chains)

  pub count_left : (place : ℕ) → place < length t.chains → length (chain_at left place).rules ≡ length (chain_at t place).rules
  count_left place lt =
      ap (λ (rs : List Rule). length rs) (chain_resolved needs a t.chains place (empty_chain []) lt) ∙ rules_length (get_or needs place []) a (chain_at t place).rules

  pub all_left : (rests : List Pending) → All (IsThere t.chains) rests → All (IsThere left.chains) rests
  all_left rests all = λ k d lt. there_left (get_or rests k d).chain (all k d lt)

  pub front_back : (front : Front) → AllThere left.chains front → AllThere t.chains front
  front_back front all = λ k d lt j e less. omega (arith, length_same needs a t.chains, all k d lt j e less)

  module _ (place passed : ℕ) (there : place < length t.chains) (within : passed < length (chain_at t place).rules) where
    pub passed_left : passed < length (chain_at left place).rules
    passed_left = omega (arith, count_left place there, within)

    -- at each place there is the rule by its needs
    pub rule_left : (other : Rule) → get_or (chain_at left place).rules passed other ≡ resolved_rule a (needs_at needs place passed) (get_or (chain_at t place).rules passed other)
    rule_left other =
        ap (λ (rs : List Rule). get_or rs passed other) (chain_resolved needs a t.chains place (empty_chain []) there)
        ∙ rule_resolved (get_or needs place []) a (chain_at t place).rules passed other within

    pub rule_stays : (rule : Rule) → rule ≡ get_or (chain_at t place).rules (passed + 1 - 1) rule → all_hold a (needs_at needs place passed) ≡ true → rule ≡ get_or (chain_at left place).rules (passed + 1 - 1) rule
    rule_stays rule is h =
        let same : passed ≡ passed + 1 - 1 = omega arith in
        is ∙ sym (resolved_is a (needs_at needs place passed) (get_or (chain_at t place).rules (passed + 1 - 1) rule) h)
        ∙ ap (λ (k : ℕ). resolved_rule a (needs_at needs place passed) (get_or (chain_at t place).rules k rule)) (sym same)
        ∙ sym (rule_left rule) ∙ ap (λ (k : ℕ). get_or (chain_at left place).rules k rule) same

    pub rule_goes : all_hold a (needs_at needs place passed) ≡ false → never ≡ get_or (chain_at left place).rules (passed + 1 - 1) never
    rule_goes h =
        let same : passed ≡ passed + 1 - 1 = omega arith in
        sym (resolved_not a (needs_at needs place passed) (get_or (chain_at t place).rules passed never) h)
        ∙ sym (rule_left never) ∙ ap (λ (k : ℕ). get_or (chain_at left place).rules k never) same

pub chain_left : ChainsKeepPlaces
chain_left needs a t place there = record {
  name = chain_named needs a t.chains place (empty_chain []);
  count = count_left needs a t place there;
  rules = λ k other within. rule_left needs a t place k there within other;
}

-- ---- names

place_or_end : (name : List ℕ) (cs ds : List Chain) → names_of cs ≡ names_of ds → position_or_len (is_named name) cs ≡ position_or_len (is_named name) ds
place_or_end name [] [] same = refl
place_or_end name [] (d ∷ ds) same = absurd (omega (arith, ap (λ (ns : List (List ℕ)). length ns) same))
place_or_end name (c ∷ cs) [] same = absurd (omega (arith, ap (λ (ns : List (List ℕ)). length ns) same))
place_or_end name (c ∷ cs) (d ∷ ds) same =
    let first : c.name ≡ d.name = ap (λ (ns : List (List ℕ)). get_or ns 0 []) same in
    ap (λ (n : List ℕ). cond (not (bytes_eq n name)) (1 + position_or_len (is_named name) cs) 0) first
    ∙ ap (λ (k : ℕ). cond (not (bytes_eq d.name name)) (1 + k) 0) (place_or_end name cs ds (ap (λ (ns : List (List ℕ)). drop 1 ns) same))

-- in chains of the same names each is at the same place
pub same_position : (name : List ℕ) (cs ds : List Chain) → names_of cs ≡ names_of ds → position (is_named name) cs ≡ position (is_named name) ds
same_position name cs ds same =
    let long : length cs ≡ length ds = sym (length-map cs (λ (c : Chain). c.name)) ∙ ap (λ (ns : List (List ℕ)). length ns) same ∙ length-map ds (λ (c : Chain). c.name) in
    ap (λ (n : ℕ). cond (ltb n (length cs)) (Some n) None) (place_or_end name cs ds same)
    ∙ ap (λ (m : ℕ). cond (ltb (position_or_len (is_named name) ds) m) (Some (position_or_len (is_named name) ds)) None) long

-- ---- rules that match no more

-- a rule that matches nothing of a box still matches nothing
pub resolved_apart : (a : Assignment) (needs : List Need) (rule : Rule) (numbers : List ℕ) → matches numbers rule ≡ false → matches numbers (resolved_rule a needs rule) ≡ false
resolved_apart a needs rule numbers un =
    elim (is_or_never a needs rule) [ inl same ↦ rw (← same) at un | inr gone ↦ rw (← gone) at (never_matches numbers) ]

-- one that matches is the rule itself, and all holds that it needs
pub resolved_matches : (a : Assignment) (needs : List Need) (rule : Rule) (numbers : List ℕ) → matches numbers (resolved_rule a needs rule) ≡ true → resolved_rule a needs rule ≡ rule
resolved_matches a needs rule numbers m =
    elim (is_or_never a needs rule) [ inl same ↦ same | inr gone ↦ absurd (true≢false (sym (rw gone at m) ∙ never_matches numbers)) ]

-- ---- the rule of a step

module _ (needs : List (List (List Need))) (a : Assignment) (t : Table) (step : Step) (is : IsRule t step) where
  within : step.number - 1 < length (chain_at t step.chain).rules
  within = omega (arith, is.first, is.last)

  -- it is still there
  pub rule_left_there : IsRule (resolved needs a t) step
  rule_left_there = record {
    chain = there_left needs a t step.chain is.chain;
    first = is.first;
    last = omega (arith, count_left needs a t step.chain is.chain, is.last);
  }

  -- by what it needs
  pub rule_at_left : rule_at (resolved needs a t) step ≡ resolved_rule a (needs_at needs step.chain (step.number - 1)) (rule_at t step)
  rule_at_left = rule_left needs a t step.chain (step.number - 1) is.chain within empty_rule

-- and its entry is the same
pub entry_left : (needs : List (List (List Need))) (a : Assignment) (t : Table) (step : Step) → entry_of (resolved needs a t).chains step ≡ entry_of t.chains step
entry_left needs a t step =
    let make : List ℕ → Entry = λ n. record { chain = n; number = step.number } in
    ap make (chain_named needs a t.chains step.chain (empty_chain []))

-- what it still matches it matched
pub matched_before : (needs : List (List (List Need))) (a : Assignment) (t : Table) (step : Step) (hook : Hook) (p : Packet) → IsRule t step → IsMatchedAt (resolved needs a t) step hook p → IsMatchedAt t step hook p
matched_before needs a t step hook p is at =
    let own : List Need = needs_at needs step.chain (step.number - 1) in
    let m : matches p.values (resolved_rule a own (rule_at t step)) ≡ true = rw (rule_at_left needs a t step is) at at.matched in
    record { can = at.can; there = at.there; matched = rw (resolved_matches a own (rule_at t step) p.values m) at m }

-- and then all holds that it needs
pub held_before : (needs : List (List (List Need))) (a : Assignment) (t : Table) (step : Step) (hook : Hook) (p : Packet) → IsRule t step → IsMatchedAt (resolved needs a t) step hook p → all_hold a (needs_at needs step.chain (step.number - 1)) ≡ true
held_before needs a t step hook p is at =
    let own : List Need = needs_at needs step.chain (step.number - 1) in
    elim (cases_Bool (all_hold a own)) [
      | inl held ↦ held
      | inr not_held ↦ absurd (true≢false (sym (rw (rule_at_left needs a t step is ∙ resolved_not a own (rule_at t step) not_held) at at.matched) ∙ never_matches p.values))
    ]

-- a rule that is still there was there
pub rule_back : (needs : List (List (List Need))) (a : Assignment) (t : Table) (step : Step) → IsRule (resolved needs a t) step → IsRule t step
rule_back needs a t step is =
    let there : step.chain < length t.chains = omega (arith, is.chain, length_same needs a t.chains) in
    record { chain = there; first = is.first; last = omega (arith, is.last, count_left needs a t step.chain there) }
