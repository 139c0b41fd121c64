-- The walk by keys is that of the table: its stack, the first rule that matches, and its policy.
use Rattle.std.proofs.Common.{◌≡◌, ℕ, ◌+◌, ◌<◌, List, [], ◌∷◌, ◌++◌, length, get_or, map, refl, sym, ◌∙◌, ap, arith, subst, Option, Some, None, option_map, unwrap_or, All, Contains, Bool, true, false}
use Rattle.std.proofs.Math.ListN.{get_or-map as get_or-mapped}
use Rattle.std.proofs.lemmas.List.{get_or_default, get_or-map, length-map, reverse-append, get_or_append_left, get_or_push, length_push}
use Rattle.std.proofs.lemmas.List.Elements.{All-contains, All-push}
use Rattle.std.specs.List.{position}
use Rattle.std.proofs.lemmas.Bool.{false≢true}
use Rattle.rules.specs.rule.Allows.{allows_each, matches}
use Rattle.rules.specs.rule.Crossing.{cross}
use Rattle.rules.specs.rule.Rules.{empty_rule, Rule}
use Rattle.classify.specs.NextMatch.{next_match}
use Rattle.classify.proofs.laws.search.NextLaws.{both_here, both_later, by_answers, none_of_both}
use Rattle.rules.specs.rule.Actions.{target_of}
use Rattle.rules.specs.declared.rule.target.Target.{Target}
use Rattle.fields.specs.Hook.{name as hook_name}
use Rattle.fields.specs.Packet.{PacketView}
use Rattle.fields.specs.declared.packet.hook.Hook.{Hook}
use Rattle.fields.specs.declared.packet.hook.Hook.TheVariants.{Input, Forward, Output}
use Rattle.rules.specs.declared.rule.target.Target.TheVariants as target
use Rattle.table.specs.chains.Table.{Policy, Chain, is_named, rules_of, chain_in, Table, Accept, policy_of}
use Rattle.table.specs.steps.Kept.{blank, slot_at, stored_at, name_at, listed_at, listed, table_with, IsIn, IsLinked, IsStored, IsUser, LinksTo, hook_index, table_of, AreStored}
use Rattle.table.specs.steps.StoredChains.{StoredChain, rules_in, rule_in, flow_of}
use Rattle.table.specs.steps.Walking.{entry_before, rest_of, rests_of, state_of, start, IsState, next_by, LeadsIn, IsHit, walk_at}
use Rattle.table.specs.walk.Walk.{shown, Hit, GoesOn, hit_at, first_hit, after_match, whole, walk_within, walk_to, end_verdict, policy_verdict, too_long}
use Rattle.table.specs.declared.chain.entry.Entry.{Entry}
use Rattle.table.specs.declared.walk.Pending.{Pending}
use Rattle.table.specs.declared.walk.trail.Step.{Step}
use Rattle.table.specs.declared.chain.entry.Flow.{Flow}
use Rattle.table.specs.declared.parts.Parts.{Parts}
use Rattle.table.specs.declared.verdict.Verdict.{Verdict}
use Rattle.table.proofs.laws.chains.KeepLaws.{rules_by_name}
use Rattle.table.proofs.laws.chains.StoreLaws.{place_is, built_in_at}
use Rattle.table.proofs.laws.walk.WalkLaws.{hit_by}

-- ---- The stack of a walk over keys, and the chain under a key.

-- The stack

pub rests_push : (slots : List (Option StoredChain)) (stack : List Pending) (x : Pending) → rests_of slots (stack ++ x ∷ []) ≡ rest_of slots x ∷ rests_of slots stack
rests_push slots stack x = ap (map (rest_of slots)) (reverse-append stack (x ∷ []))

pub rests_pop : (slots : List (Option StoredChain)) (old new : List Pending) (x : Pending) → old ≡ new ++ x ∷ [] → rests_of slots old ≡ state_of slots x new
rests_pop slots old new x e = ap (rests_of slots) e ∙ rests_push slots new x

pub state_pop : (order : List ℕ) (now x : Pending) (old new : List Pending) → old ≡ new ++ x ∷ [] → IsState order now old → IsState order x new
state_pop order now x old new e h =
    let all : length old ≡ length new + 1 = ap (λ (xs : List Pending). length xs) e ∙ length_push new x in
    let P : Pending → Type 0 = λ (y : Pending). IsIn order y.chain in
    record {
      present = subst P (ap (λ (xs : List Pending). get_or xs (length new) x) e ∙ get_or_push new x x (length new) refl) (h.waiting (length new) x (omega arith));
      waiting = λ k d lt. subst P (ap (λ (xs : List Pending). get_or xs k d) e ∙ get_or_append_left new (x ∷ []) d k lt) (h.waiting k d (omega arith));
    }

pub state_push : (order : List ℕ) (now at : Pending) (key : ℕ) (old new : List Pending) → new ≡ old ++ now ∷ [] → at ≡ start key → IsIn order key → IsState order now old → IsState order at new
state_push order now at key old new e is to h =
    let P : Pending → Type 0 = λ x. IsState order x new in
    let Q : List Pending → Type 0 = λ xs. IsState order (start key) xs in
    subst P (sym is) (subst Q (sym e) (record { present = to; waiting = All-push (λ (x : Pending). IsIn order x.chain) old now h.waiting h.present }))

-- The chain under a key

pub stored_is : (slots : List (Option StoredChain)) (key : ℕ) (stored_chain : StoredChain) → slot_at slots key ≡ Some stored_chain → stored_at slots key ≡ stored_chain
stored_is slots key stored_chain e = ap (λ (o : Option StoredChain). unwrap_or o blank) e

-- it is the listed chain of its name
pub rules_under : (ps : List Policy) (slots : List (Option StoredChain)) (order : List ℕ) (key : ℕ) → IsStored ps slots order → IsIn order key → rules_of (listed slots order) (stored_at slots key).name ≡ rules_in (stored_at slots key)
rules_under ps slots order key h at =
    let c : Chain = listed_at slots key in
    let there : Contains (listed slots order) c = (at.0, omega (arith, at.1, length-map order (listed_at slots)), get_or-map (listed_at slots) order at.0 0 c at.1 ∙ ap (listed_at slots) at.2) in
    rules_by_name (table_with ps slots order) c h.sound there

pub linked_under : (ps : List Policy) (slots : List (Option StoredChain)) (order : List ℕ) (key : ℕ) (e : Entry) → IsStored ps slots order → IsIn order key → Contains (stored_at slots key).entries e → IsLinked slots order e
linked_under ps slots order key e h at own =
    let P : ℕ → Type 0 = λ k. All (IsLinked slots order) (stored_at slots k).entries in
    All-contains (IsLinked slots order) (stored_at slots key).entries e (subst P at.2 (h.linked at.0 at.1)) own

-- it stands in the listing
pub place_under : (ps : List Policy) (slots : List (Option StoredChain)) (order : List ℕ) (key : ℕ) (stored_chain : StoredChain) (name : List ℕ) → IsStored ps slots order → IsIn order key → slot_at slots key ≡ Some stored_chain → name ≡ stored_chain.name
    → position (is_named name) (listed slots order) ≡ None → ⊥
place_under ps slots order key stored_chain name h at is e none =
    let own : name_at slots order at.0 ≡ name = ap (λ k. (stored_at slots k).name) at.2 ∙ ap (λ (r : StoredChain). r.name) (stored_is slots key stored_chain is) ∙ sym e in
    let some : Some at.0 ≡ None = sym (place_is ps slots order name at.0 h at.1 own) ∙ none in
    cc

-- the rule before a place in the chain at a place of the listing, whose key is looked at
pub step_there : (ps : List Policy) (slots : List (Option StoredChain)) (order : List ℕ) (place key : ℕ) (at : Pending) → IsStored ps slots order → place < length order → at.chain ≡ key → key ≡ get_or order place key
    → shown (listed slots order) (entry_before slots at) ≡ Some (record { chain = place; number = at.passed })
step_there ps slots order place key at h lt same is =
    let name : ℕ → List ℕ = λ k. (stored_at slots k).name in
    let step : ℕ → Step = λ k. record { chain = k; number = at.passed } in
    ap (option_map step) (place_is ps slots order (name at.chain) place h lt (ap name (get_or_default order place 0 key lt ∙ sym (same ∙ is))))

-- ---- The candidates of a chain are asked in turn: the first whose conditions on several fields at once hold is the next match.

module _ (values : List ℕ) (inside chain : StoredChain) (candidates : List Bool) (is : inside ≡ chain) (given : candidates ≡ map (allows_each values) (rules_in chain)) (from : ℕ) where
  -- there is none
  pub asked_none : None ≡ next_match (λ bit. bit) candidates from → None ≡ next_match (matches values) (rules_in chain) from
  asked_none none = none_of_both (allows_each values) (cross values) (rules_in chain) empty_rule from (by_answers (allows_each values) (rules_in chain) candidates from None given none)

  module _ (place : ℕ) (e : Entry) (found : Some place ≡ next_match (λ bit. bit) candidates from) (at : e ≡ get_or inside.entries place e) where
    -- the rule that is asked is that at the place
    asked : get_or (rules_in chain) place (rule_in e) ≡ rule_in e
    asked = sym (ap (λ (r : StoredChain). get_or (rules_in r) place (rule_in e)) is) ∙ get_or-mapped rule_in inside.entries place e ∙ sym (ap rule_in at)

    -- its conditions hold
    pub asked_holds : true ≡ cross values e.rule → Some place ≡ next_match (matches values) (rules_in chain) from
    asked_holds holds =
        both_here (allows_each values) (cross values) (rules_in chain) e.rule from place (by_answers (allows_each values) (rules_in chain) candidates from (Some place) given found) (ap (cross values) asked ∙ sym holds)

    -- they don't, and the search goes on after it
    pub asked_fails : false ≡ cross values e.rule → next_match (matches values) (rules_in chain) from ≡ next_match (matches values) (rules_in chain) (place + 1)
    asked_fails fails =
        both_later (allows_each values) (cross values) (rules_in chain) e.rule from place (by_answers (allows_each values) (rules_in chain) candidates from (Some place) given found) (ap (cross values) asked ∙ sym fails)

-- ---- The first rule that matches, by the classifiers of the chains under keys.

-- the first hit is the next match in the chain under the key, if there is one
found_under : (ps : List Policy) (slots : List (Option StoredChain)) (order values : List ℕ) (at : Pending) (stack : List Pending) (o : Option ℕ) → IsStored ps slots order → IsState order at stack
    → o ≡ next_match (matches values) (rules_in (stored_at slots at.chain)) at.passed → first_hit (listed slots order) values (state_of slots at stack) ≡ hit_by (listed slots order) values (rest_of slots at) (rests_of slots stack) o
found_under ps slots order values at stack o h s e =
    ap (hit_by (listed slots order) values (rest_of slots at) (rests_of slots stack)) (ap (λ (rs : List Rule). next_match (matches values) rs at.passed) (rules_under ps slots order at.chain h s.present) ∙ sym e)

-- none in the present chain
pub past_chain : (ps : List Policy) (slots : List (Option StoredChain)) (order values : List ℕ) (at : Pending) (stack : List Pending) → IsStored ps slots order → IsState order at stack
    → None ≡ next_match (matches values) (rules_in (stored_at slots at.chain)) at.passed → first_hit (listed slots order) values (state_of slots at stack) ≡ first_hit (listed slots order) values (rests_of slots stack)
past_chain ps slots order values at stack h s e = found_under ps slots order values at stack None h s e

-- Where a rule leaves the walk

next_is : (slots : List (Option StoredChain)) (order : List ℕ) (o : Option Target) (key : ℕ) (at : Pending) (stack : List Pending) → LinksTo slots order key (chain_in o)
    → after_match o (rest_of slots at) (rests_of slots stack) ≡ next_by slots (flow_of o key) at stack
next_is slots order None key at stack l = refl
next_is slots order (Some target.Log) key at stack l = refl
next_is slots order (Some target.Accept) key at stack l = refl
next_is slots order (Some target.Drop) key at stack l = refl
next_is slots order (Some (target.Reject kind)) key at stack l = refl
next_is slots order (Some target.Return) key at stack l = refl
next_is slots order (Some (target.Jump name)) key at stack l = ap (λ n. GoesOn (whole n ∷ state_of slots at stack)) (sym l.1)
next_is slots order (Some (target.Goto name)) key at stack l = ap (λ n. GoesOn (whole n ∷ rests_of slots stack)) (sym l.1)

user_in : (order : List ℕ) (key : ℕ) → IsUser order key → IsIn order key
user_in order key u = (u.0, u.2, u.3)

leads_in : (slots : List (Option StoredChain)) (order : List ℕ) (o : Option Target) (key : ℕ) → LinksTo slots order key (chain_in o) → LeadsIn order (flow_of o key)
leads_in slots order None key l = tt
leads_in slots order (Some target.Log) key l = tt
leads_in slots order (Some target.Accept) key l = tt
leads_in slots order (Some target.Drop) key l = tt
leads_in slots order (Some (target.Reject kind)) key l = tt
leads_in slots order (Some target.Return) key l = tt
leads_in slots order (Some (target.Jump name)) key l = user_in order key l.0
leads_in slots order (Some (target.Goto name)) key l = user_in order key l.0

-- a match in the present chain
pub hit_under : (ps : List Policy) (slots : List (Option StoredChain)) (order values : List ℕ) (at : Pending) (stack : List Pending) (stored_chain : StoredChain) (place : ℕ) (e : Entry) (flow : Flow) (found : Option Hit) → IsStored ps slots order → IsState order at stack
    → slot_at slots at.chain ≡ Some stored_chain → Some place ≡ next_match (matches values) (rules_in (stored_at slots at.chain)) at.passed → place < length (stored_at slots at.chain).entries → e ≡ get_or stored_chain.entries place e → flow ≡ e.flow
    → found ≡ first_hit (listed slots order) values (state_of slots at stack) → IsHit slots order found flow (record { chain = at.chain; passed = place + 1 }) stack
hit_under ps slots order values at stack stored_chain place e flow found h s is next lt own by same =
    let now : Pending = record { chain = at.chain; passed = place + 1 } in
    let cs : List Chain = listed slots order in
    let here : StoredChain = stored_at slots at.chain in
    let here_own : e ≡ get_or here.entries place e = own ∙ ap (λ (r : StoredChain). get_or r.entries place e) (sym (stored_is slots at.chain stored_chain is)) in
    let link : IsLinked slots order e = linked_under ps slots order at.chain e h s.present (place, lt, sym here_own) in
    let rules : rules_of cs here.name ≡ rules_in here = rules_under ps slots order at.chain h s.present in
    let rule : get_or (rules_of cs here.name) place empty_rule ≡ e.rule = ap (λ (rs : List Rule). get_or rs place empty_rule) rules ∙ get_or-map rule_in here.entries place e empty_rule lt ∙ ap rule_in (sym here_own) in
    let Q : Flow → Type 0 = λ (c : Flow). LeadsIn order c in
    let way : e.flow ≡ flow_of (target_of e.rule) link.0 = link.1 in
    record {
      hit = hit_at cs here.name (rests_of slots stack) place;
      is = same ∙ found_under ps slots order values at stack (Some place) h s next;
      entry = refl;
      next = ap (λ (r : Rule). after_match (target_of r) (rest_of slots now) (rests_of slots stack)) rule
          ∙ next_is slots order (target_of e.rule) link.0 now stack link.2
          ∙ ap (λ (c : Flow). next_by slots c now stack) (sym (by ∙ way));
      leads = subst Q (sym (by ∙ way)) (leads_in slots order (target_of e.rule) link.0 link.2);
      state = record { present = s.present; waiting = s.waiting };
    }

-- the stack is empty where nothing comes off it
pub none_left : (xs : List Pending) → (0 < length xs → false ≡ true) → xs ≡ []
none_left [] h = refl
none_left (x ∷ xs) h = absurd (false≢true (h (omega arith)))

-- ---- The walk by keys is that of the table.

-- the chain at a hook's place has its name
pub hook_named : (ps : List Policy) (slots : List (Option StoredChain)) (order : List ℕ) (h : Hook) → IsStored ps slots order → name_at slots order (hook_index h) ≡ hook_name h
hook_named ps slots order Input s = built_in_at ps slots order s 0 (omega arith)
hook_named ps slots order Forward s = built_in_at ps slots order s 1 (omega arith)
hook_named ps slots order Output s = built_in_at ps slots order s 2 (omega arith)

-- and its policy is the one at that place
policy_at : (ps : List Policy) (slots : List (Option StoredChain)) (order : List ℕ) (h : Hook) (d : Policy) → length ps ≡ 3 → get_or ps (hook_index h) d ≡ unwrap_or (policy_of (table_with ps slots order) (hook_name h)) Accept
policy_at [] slots order h d three = absurd (omega (arith, three))
policy_at (a ∷ []) slots order h d three = absurd (omega (arith, three))
policy_at (a ∷ b ∷ []) slots order h d three = absurd (omega (arith, three))
policy_at (a ∷ b ∷ c ∷ ps) slots order Input d three = refl
policy_at (a ∷ b ∷ c ∷ ps) slots order Forward d three = refl
policy_at (a ∷ b ∷ c ∷ ps) slots order Output d three = refl

-- the walk from a packet's hook
pub walk_with : (room : ℕ) (parts : Parts) (p : PacketView) (k : ℕ) (v : Verdict) (d : Policy) → AreStored parts → k ≡ hook_index p.hook → v ≡ policy_verdict (get_or parts.policies k d)
    → walk_at room parts.chains.slots parts.order.items k v p.values ≡ walk_to room (table_of parts) p
walk_with room parts p k v d s at is =
    let slots : List (Option StoredChain) = parts.chains.slots in
    let order : List ℕ = parts.order.items in
    let t : Table = table_of parts in
    let policy : v ≡ end_verdict t p = is ∙ ap (λ j. policy_verdict (get_or parts.policies j d)) at ∙ ap policy_verdict (policy_at parts.policies slots order p.hook d s.sound.policies) in
    let named : name_at slots order k ≡ hook_name p.hook = ap (name_at slots order) at ∙ hook_named parts.policies slots order p.hook s in
    ap (λ (u : Verdict). unwrap_or (walk_within room (listed slots order) u p.values (whole (name_at slots order k) ∷ [])) too_long) policy
    ∙ ap (λ (n : List ℕ). unwrap_or (walk_within room (listed slots order) (end_verdict t p) p.values (whole n ∷ [])) too_long) named
