-- Where walks come to: to the chains that jumps and gotos lead to, and never to those of hooks.
use Rattle.std.proofs.Common.{◌≡◌, inl, inr, ℕ, zero, suc, ◌+◌, ◌-◌, ◌<◌, ◌≤◌, Bool, true, false, List, [], ◌∷◌, ◌++◌, length, get_or, refl, sym, ◌∙◌, ap, arith, subst, Option, Some, None, All, Contains, ◌↔◌, option_and_then, IsTrue, replicate, take, true≢false, get_or-set_same, get_or-set_other, length-set}
use Rattle.std.specs.List.{position}
use Rattle.std.proofs.Math.ListN.{set}
use Rattle.std.proofs.lemmas.Bool.{cases_eq, cases_lt}
use Rattle.std.proofs.lemmas.List.{get_or_default, get_or-replicate, get_or_past, length-replicate}
use Rattle.std.proofs.lemmas.List.Elements.{All-cons, All-contains, All-head, All-nil, All-push, All-tail, Contains-get_or}
use Rattle.std.proofs.lemmas.Option.{get_or_from_slice_get, slice_get-get_or, slice_get_within, same_Some}
use Rattle.std.proofs.lemmas.Slice.Eq.{bytes_eq-Decides}
use Rattle.fields.specs.declared.packet.hook.Hook.{Hook}
use Rattle.fields.specs.Hook.{name as hook_name}
use Rattle.fields.specs.Packet.{PacketView as Packet}
use Rattle.rules.specs.declared.rule.target.Target.{Target}
use Rattle.rules.specs.rule.Actions.{target_of}
use Rattle.rules.specs.rule.Rules.{Rule, empty_rule}
use Rattle.table.specs.chains.Sound.{IsSound, Leads, Names, Path, IsSoundChain, MayStand}
use Rattle.table.specs.chains.Table.{Chain, Table, chain_at, chain_in, chain_named_by, empty_chain, is_named, rules_of, built_in_names, is_built_in, names_of}
use Rattle.table.specs.declared.verdict.Verdict.{Verdict}
use Rattle.table.specs.declared.walk.trail.Step.{Step}
use Rattle.table.specs.steps.Kept.{hook_index}
use Rattle.table.specs.walk.Cases.{Stage, Under, Over, StepsTo, GoesTo, on_by}
use Rattle.table.specs.walk.Walk.{Entry, Next, Ends, GoesOn, Rest, after_match, end_verdict, walk, whole}
use Rattle.table.proofs.laws.chains.KeepLaws.{rules_by_name}
use Rattle.table.proofs.laws.chains.PlaceLaws.{IsPlaced, placed_at, any_none, has_at}
use Rattle.table.proofs.laws.walk.CaseLaws.{walks_by_cases}
use Rattle.rules.specs.declared.rule.target.Target.TheVariants as target
use Rattle.questions.specs.Ends.{IsRule, rule_at}
use Rattle.questions.specs.Leaves.{name_at}
use Rattle.questions.specs.boxes.Calls.{AreCalls, IsCall, place_named}
use Rattle.questions.specs.declared.seeking.calls.Call.{Call}
use Rattle.questions.specs.declared.walking.task.Pending.{Pending}
use Rattle.questions.specs.steps.Leading.{AllLead, AreClosed, AreLeading, AreSpread, Counts, IsClosedBy, IsMarked, IsMarkedName, LeadsOn, NamesMarked, PathBy, Spreads, unmarked}
use Rattle.questions.proofs.laws.WayLaws.{listed, own_position}
use Rattle.questions.proofs.laws.TrailLaws.{none_some, rules_there, items_next, one_place}
use Rattle.questions.proofs.laws.WaitLaws.{named_first}

-- ---- Where walks come to: to the chains that jumps and gotos lead to.

-- ---- walks stay in a set of chains that has the hook's chain and, with a chain, each that its rules name

module _ (cs : List Chain) (policy : Verdict) (values : List ℕ) (In : List ℕ → Type 0) (closed : (a b : List ℕ) → In a → Names cs a b → In b) where
  abbrev IsInside : Rest → Type 0
  IsInside rest = In rest.chain

  abbrev IsOf : Entry → Type 0
  IsOf entry = In entry.chain

  abbrev AreInside : Stage → Type 0
  AreInside (Under rests trail) = All IsInside rests × All IsOf trail
  AreInside (Over walked) = All IsOf walked.trail

  abbrev GoesInside : Next → Type 0
  GoesInside (Ends v) = Unit {0}
  GoesInside (GoesOn rests) = All IsInside rests

  on_inside : (next : Next) (trail : List Entry) → GoesInside next → All IsOf trail → AreInside (on_by next trail)
  on_inside (Ends v) trail n h = h
  on_inside (GoesOn rests) trail n h = (n, h)

  by_target : (o : Option Target) (own : Rest) (stack : List Rest) → ((name : List ℕ) → chain_in o ≡ Some name → In name) → IsInside own → All IsInside stack → GoesInside (after_match o own stack)
  by_target None own stack f h hs = All-cons IsInside own stack h hs
  by_target (Some target.Log) own stack f h hs = All-cons IsInside own stack h hs
  by_target (Some target.Accept) own stack f h hs = tt
  by_target (Some target.Drop) own stack f h hs = tt
  by_target (Some (target.Reject kind)) own stack f h hs = tt
  by_target (Some target.Return) own stack f h hs = hs
  by_target (Some (target.Jump chain)) own stack f h hs = All-cons IsInside (whole chain) (own ∷ stack) (f chain refl) (All-cons IsInside own stack h hs)
  by_target (Some (target.Goto chain)) own stack f h hs = All-cons IsInside (whole chain) stack (f chain refl) hs

  step_inside : (now next : Stage) → StepsTo cs policy values now next → AreInside now → AreInside next
  step_inside (Over walked) next s h = absurd s
  step_inside (Under [] trail) next s h = subst AreInside (sym s) h.1
  step_inside (Under (rest ∷ waiting) trail) next (inl p) h =
      let own : IsInside rest = All-head IsInside rest waiting h.0 in
      subst AreInside (sym p.3) (All-cons IsInside (record { chain = rest.chain; passed = rest.passed + 1 }) waiting own (All-tail IsInside rest waiting h.0), h.1)
  step_inside (Under (rest ∷ waiting) trail) next (inr (inl p)) h = subst AreInside (sym p.4) (All-nil IsOf)
  step_inside (Under (rest ∷ waiting) trail) next (inr (inr (inr p))) h = subst AreInside (sym p.1) (All-tail IsInside rest waiting h.0, h.1)
  step_inside (Under (rest ∷ waiting) trail) next (inr (inr (inl p))) h =
      let own : IsInside rest = All-head IsInside rest waiting h.0 in
      let entry : Entry = record { chain = rest.chain; number = rest.passed + 1 } in
      let behind : Rest = record { chain = rest.chain; passed = rest.passed + 1 } in
      subst AreInside (sym p.4) (on_inside _ (trail ++ entry ∷ [])
      (by_target (target_of p.0) behind waiting (λ name e. closed rest.chain name own (p.0, (rest.passed, slice_get_within (rules_of cs rest.chain) rest.passed p.0 p.1, get_or_from_slice_get (rules_of cs rest.chain) rest.passed p.0 p.0 p.1), e)) own (All-tail IsInside rest waiting h.0))
      (All-push IsOf trail entry h.1 own))

  goes_inside : (n : ℕ) (now last : Stage) → GoesTo n cs policy values now last → AreInside now → AreInside last
  goes_inside zero now last g h = subst AreInside g h
  goes_inside (suc n) now last g h = goes_inside n g.0 last g.2 (step_inside now g.0 g.1 h)

pub stays_inside : (t : Table) (p : Packet) (In : List ℕ → Type 0) → ((a b : List ℕ) → In a → Names t.chains a b → In b) → In (hook_name p.hook) → (entry : Entry) → Contains (walk t p).trail entry → In entry.chain
stays_inside t p In closed first entry on =
    let w = walks_by_cases t p in
    let own : Entry → Type 0 = λ (e : Entry). In e.chain in
    let rests : Rest → Type 0 = λ (r : Rest). In r.chain in
    All-contains own (walk t p).trail entry
    (goes_inside t.chains (end_verdict t p) p.values In closed w.0 _ (Over (walk t p)) w.1 (All-cons rests (whole (hook_name p.hook)) [] first (All-nil rests), All-nil own)) on

-- ---- so they come only where jumps and gotos lead

path_more : (cs : List Chain) (n : ℕ) (a b c : List ℕ) → Path cs n a b → Names cs b c → Path cs (suc n) a c
path_more cs zero a b c e h = let P : List ℕ → Type 0 = λ x. Names cs x c in (c, subst P (sym e) h, refl)
path_more cs (suc n) a b c path h = (path.0, path.1, path_more cs n path.0 b c path.2 h)

pub entry_led : (t : Table) (p : Packet) (entry : Entry) → Contains (walk t p).trail entry → Leads t.chains (hook_name p.hook) entry.chain
entry_led t p entry on =
    stays_inside t p (λ chain. Leads t.chains (hook_name p.hook) chain) (λ a b led h. (suc led.0, path_more t.chains led.0 (hook_name p.hook) a b led.1 h)) (0, refl) entry on

-- ---- marks

-- a name by its place
pub marked_name : (t : Table) (marks : List Bool) (name : List ℕ) (place : ℕ) → IsSound t → Some place ≡ position (is_named name) t.chains → IsMarkedName t.chains marks name → IsMarked marks place
marked_name t marks name place s e h =
    let placed : IsPlaced t name place = placed_at t name place (sym e) in
    let same : place ≡ h.0 = one_place t place h.0 s h.1 (placed.named (empty_chain []) ∙ sym h.3) in
    rw (← same) at h.2

pub name_marked : (t : Table) (marks : List Bool) (name : List ℕ) (place : ℕ) → Some place ≡ position (is_named name) t.chains → IsMarked marks place → IsMarkedName t.chains marks name
name_marked t marks name place e h =
    let placed : IsPlaced t name place = placed_at t name place (sym e) in
    (place, placed.within, h, placed.named (empty_chain []))

pub no_name : (t : Table) (marks : List Bool) (name : List ℕ) → None ≡ position (is_named name) t.chains → IsMarkedName t.chains marks name → ⊥
no_name t marks name e h =
    true≢false (sym (has_at t.chains name h.0 (empty_chain []) h.1 ((bytes_eq-Decides (name_at t.chains h.0) name).1 h.3)) ∙ any_none (is_named name) t.chains (sym e))

-- a rule that names a chain names a marked one where the name is one's
pub naming : (cs : List Chain) (marks : List Bool) (rule : Rule) (name : List ℕ) (b : Bool) → chain_named_by rule ≡ Some name → IsTrue b ↔ IsMarkedName cs marks name → IsTrue b ↔ NamesMarked cs marks rule
naming cs marks rule name b e iff = (λ h. (name, e, iff.0 h), λ w. (let P : List ℕ → Type 0 = λ n. IsMarkedName cs marks n in iff.1 (subst P (same_Some w.0 name (sym w.1 ∙ e)) w.2)))

-- a rule of the chain at a place is one of those that its name has
rule_of_name : (t : Table) (place : ℕ) (rule : Rule) → IsSound t → place < length t.chains → Contains (chain_at t place).rules rule → Contains (rules_of t.chains (name_at t.chains place)) rule
rule_of_name t place rule s lt there =
    let own : rules_of t.chains (name_at t.chains place) ≡ (chain_at t place).rules = rules_by_name t (chain_at t place) s (Contains-get_or t.chains place (empty_chain []) lt) in
    rw (← own) at there

-- no rule goes to its own chain
pub not_gone_to : (t : Table) (at : Pending) (rule : Rule) (name : List ℕ) → IsSound t → at.chain < length t.chains → at.passed < length (chain_at t at.chain).rules
    → rule ≡ get_or (chain_at t at.chain).rules (at.passed + 1 - 1) rule → target_of rule ≡ Some (target.Goto name) → position (is_named name) t.chains ≡ Some at.chain → ⊥
not_gone_to t at rule name s lt within is to there =
    let rules : List Rule = (chain_at t at.chain).rules in
    let own : List ℕ = name_at t.chains at.chain in
    let on : Contains rules rule = (at.passed, within, sym (is ∙ ap (λ j. get_or rules j rule) (omega arith))) in
    let same : name ≡ own = sym ((placed_at t name at.chain there).named (empty_chain [])) in
    s.no_loop 0 own (own, (rule, rule_of_name t at.chain rule s lt on, ap chain_in to ∙ ap Some same), refl)

-- one mark more, for a chain with a rule that counts and names a marked one
pub spread_by : (t : Table) (own : Option Rule) (marks : List Bool) (place : ℕ) → IsSound t → length marks ≡ length t.chains → place < length t.chains → LeadsOn t own marks place → Spreads t own marks (set marks place true)
spread_by t own marks place s long lt on = record {
  long = length-set marks place true;
  kept = λ k h. elim (cases_eq k place) [ inl e ↦ marked_here k e | inr ne ↦ get_or-set_other marks place k true false ne ∙ h ];
  each = λ name all k within h. elim (cases_eq k place) [
    | inl e ↦ (
        let next = on.2.2 in
        let led : (n : ℕ) × PathBy t own n (name_at t.chains next.0) name = all next.0 next.1 next.2 in
        let names : chain_named_by on.0 ≡ Some (name_at t.chains next.0) = on.2.1 ∙ ap Some (sym next.3) in
        rw e (suc led.0, (name_at t.chains next.0, (on.0, rule_of_name t place on.0 s lt on.1, names, on.3), led.1)))
    | inr ne ↦ all k within (sym (get_or-set_other marks place k true false ne) ∙ h)
  ];
}
  where
    marked_here : (k : ℕ) → k ≡ place → IsMarked (set marks place true) k
    marked_here k e = let P : ℕ → Type 0 = λ j. IsMarked (set marks place true) j in subst P (sym e) (get_or-set_same marks place true false (omega (arith, lt, long)))

-- then fewer are not marked
pub unmarked_less : (marks : List Bool) (place : ℕ) → place < length marks → get_or marks place false ≡ false → unmarked (set marks place true) < unmarked marks
unmarked_less [] place lt off = absurd (omega (arith, lt))
unmarked_less (true ∷ ms) zero lt off = absurd (true≢false off)
unmarked_less (false ∷ ms) zero lt off = omega arith
unmarked_less (true ∷ ms) (suc k) lt off = unmarked_less ms k (omega (arith, lt)) off
unmarked_less (false ∷ ms) (suc k) lt off = let h = unmarked_less ms k (omega (arith, lt)) off in omega (arith, h)

pub spread_on : (t : Table) (own : Option Rule) (a b c : List Bool) → Spreads t own a b → Spreads t own b c → Spreads t own a c
spread_on t own a b c one two = record { long = two.long ∙ one.long; kept = λ k h. two.kept k (one.kept k h); each = λ name h. two.each name (one.each name h) }

-- what a name leads to, if it is a chain's
some_named : (cs : List Chain) (o : Option (List ℕ)) (to : ℕ) → option_and_then (λ name. position (is_named name) cs) o ≡ Some to → (name : List ℕ) × (o ≡ Some name) × (position (is_named name) cs ≡ Some to)
some_named cs None to e = absurd (none_some e)
some_named cs (Some name) to e = (name, refl, e)

-- the rule of a call leads on, if it counts and the chain is marked to which it leads
pub call_leads : (t : Table) (own : Option Rule) (marks : List Bool) (call : Call) → IsCall t call → IsMarked marks call.to → Counts own (rule_at t call.by) → LeadsOn t own marks call.by.chain
call_leads t own marks call is marked counts =
    let rules : List Rule = (chain_at t call.by.chain).rules in
    let named = some_named t.chains (chain_named_by (rule_at t call.by)) call.to is.names in (
      rule_at t call.by,
      Contains-get_or rules (call.by.number - 1) empty_rule (omega (arith, is.there.first, is.there.last)),
      (named.0, named.1, name_marked t marks named.0 call.to (sym named.2) marked),
      counts,
    )

-- the chain is there to which it leads
pub call_within : (t : Table) (call : Call) → IsCall t call → call.to < length t.chains
call_within t call is =
    let named = some_named t.chains (chain_named_by (rule_at t call.by)) call.to is.names in
    (placed_at t named.0 call.to named.2).within

-- of the first so many calls
abbrev pub AreClosedBelow : Table → Option Rule → List Bool → List Call → ℕ → Type 0
AreClosedBelow t own marks calls count = (k : ℕ) (d : Call) → k < count → IsClosedBy t own marks (get_or calls k d)

-- one more was looked at
pub closed_next : (t : Table) (own : Option Rule) (old new : List Bool) (calls : List Call) (i : ℕ) (call : Call) → new ≡ old → i < length calls → call ≡ get_or calls i call
    → AreClosedBelow t own old calls i → IsClosedBy t own old call → AreClosedBelow t own new calls (i + 1)
closed_next t own old new calls i call same within is below here =
    let Q : Call → Type 0 = λ c. IsClosedBy t own old c in
    rw (← same) at (items_next Q calls i call within is below here)

-- all were
pub closed_all : (t : Table) (own : Option Rule) (marks : List Bool) (calls : List Call) (count : ℕ) → IsSound t → AreCalls t calls → length calls ≤ count
    → AreClosedBelow t own marks calls count → AreClosed t own marks
closed_all t own marks calls count s all most below k lt (rule, there, (name, names, (j, within, marked, same)), counts) =
    let rules : List Rule = (chain_at t k).rules in
    let by : Step = record { chain = k; number = there.0 + 1 } in
    let is : IsRule t by = record { chain = lt; first = omega arith; last = omega (arith, there.1) } in
    let passed : there.0 + 1 - 1 ≡ there.0 = omega arith in
    let here : rule_at t by ≡ rule = ap (λ n. get_or rules n empty_rule) passed ∙ get_or_default rules there.0 empty_rule rule there.1 ∙ there.2 in
    let call : Call = record { to = j; by = by } in
    let on = listed t calls by j all is (ap (λ (r : Rule). place_named t.chains (target_of r)) here
    ∙ ap (λ (o : Option (List ℕ)). option_and_then (λ n. position (is_named n) t.chains) o) names ∙ own_position t j name s within same) in
    (rw on.2 at (below on.0 call (omega (arith, on.1, most)))) marked (rw (← here) at counts)

-- where the marks are closed, each chain is marked from which a path leads to one that is marked
module _ (t : Table) (s : IsSound t) (marks : List Bool) (place : ℕ) (lt : place < length t.chains) (own : IsMarked marks place) (closed : AreClosed t None marks) where
  chain_of : (n : ℕ) (name : List ℕ) → Path t.chains n name (name_at t.chains place) → (j : ℕ) × (j < length t.chains) × (name_at t.chains j ≡ name)
  chain_of zero name e = (place, lt, sym e)
  chain_of (suc n) name path =
      let on = path.1.1 in
      rules_there t.chains name on.0 path.1.0 (slice_get-get_or (rules_of t.chains name) on.0 path.1.0 on.1 ∙ ap Some on.2)

  is_marked : (n k : ℕ) → k < length t.chains → Path t.chains n (name_at t.chains k) (name_at t.chains place) → IsMarked marks k
  is_marked zero k within e = let P : ℕ → Type 0 = λ j. IsMarked marks j in subst P (sym (one_place t k place s lt e)) own
  is_marked (suc n) k within path =
      let rule : Rule = path.1.0 in
      let next = chain_of n path.0 path.2 in
      let there : IsMarked marks next.0 = is_marked n next.0 next.1 (rw (← next.2) at path.2) in
      let rules : rules_of t.chains (name_at t.chains k) ≡ (chain_at t k).rules = rules_by_name t (chain_at t k) s (Contains-get_or t.chains k (empty_chain []) within) in
      closed k within (rule, rw rules at path.1.1, (path.0, path.1.2, (next.0, next.1, there, next.2)), tt)

-- a path of rules that count is one
path_of : (t : Table) (own : Option Rule) (n : ℕ) (a b : List ℕ) → PathBy t own n a b → Path t.chains n a b
path_of t own zero a b path = path
path_of t own (suc n) a b path = (path.0, (path.1.0, path.1.1, path.1.2), path_of t own n path.0 b path.2)

-- where each rule counts, the marks are those of all chains that lead to the first one
pub leading_of : (t : Table) (marks : List Bool) (place : ℕ) → IsSound t → place < length t.chains → AreSpread t None place marks → AreLeading t (name_at t.chains place) marks
leading_of t marks place s lt spread = record {
  long = spread.long;
  each = λ k within h. (let led = spread.each k within h in (led.0, path_of t None led.0 (name_at t.chains k) (name_at t.chains place) led.1));
  all = λ k within led. is_marked t s marks place lt spread.there spread.closed led.0 k within led.1;
}

-- at first the chain itself is marked, and no other
pub first_leads : (t : Table) (own : Option Rule) (marks : List Bool) (place : ℕ) → ((k : ℕ) → get_or marks k false ≡ false) → AllLead t own (name_at t.chains place) (set marks place true)
first_leads t own marks place none k within h = elim (cases_eq k place) [
  | inl e ↦ (0, ap (name_at t.chains) e)
  | inr ne ↦ absurd (true≢false (sym h ∙ get_or-set_other marks place k true false ne ∙ none k))
]

-- ---- hooks

-- the chain of a hook is marked just where a path leads from it
pub hook_leads : (t : Table) (name : List ℕ) (marks : List Bool) (hook : Hook) → IsSound t → AreLeading t name marks → IsMarked marks (hook_index hook) → Leads t.chains (hook_name hook) name
hook_leads t name marks hook s leading h =
    let named = named_first t.chains hook s.listed.built_in in
    rw named.0 at (leading.each (hook_index hook) named.1 h)

pub hook_led : (t : Table) (name : List ℕ) (marks : List Bool) (hook : Hook) → IsSound t → AreLeading t name marks → Leads t.chains (hook_name hook) name → IsMarked marks (hook_index hook)
hook_led t name marks hook s leading h =
    let named = named_first t.chains hook s.listed.built_in in
    leading.all (hook_index hook) named.1 (rw (← named.0) at h)

-- ---- The chains of hooks, to which no jumps and gotos lead.

-- no rule names a built-in chain
names_user : (t : Table) (place : ℕ) (rule : Rule) (name : List ℕ) → IsSound t → place < length t.chains → Contains (chain_at t place).rules rule → chain_named_by rule ≡ Some name → is_built_in name ≡ true → ⊥
names_user t place rule name s lt there names built =
    let own : Chain = chain_at t place in
    let sound : IsSoundChain t own = s.chains place (empty_chain []) lt in
    let stands : MayStand t own.name rule = All-contains (MayStand t own.name) own.rules rule sound.rules there in
    true≢false (sym built ∙ (stands.target name names).user)

-- the first three chains are built in
first_built_in : (cs : List Chain) (place : ℕ) → take 3 (names_of cs) ≡ built_in_names → place < 3 → is_built_in (name_at cs place) ≡ true
first_built_in [] place e lt = absurd (omega (arith, ap (λ (ns : List (List ℕ)). length ns) e))
first_built_in (a ∷ []) place e lt = absurd (omega (arith, ap (λ (ns : List (List ℕ)). length ns) e))
first_built_in (a ∷ b ∷ []) place e lt = absurd (omega (arith, ap (λ (ns : List (List ℕ)). length ns) e))
first_built_in (a ∷ b ∷ c ∷ cs) zero e lt = ap (λ (ns : List (List ℕ)). is_built_in (get_or ns 0 [])) e
first_built_in (a ∷ b ∷ c ∷ cs) (suc zero) e lt = ap (λ (ns : List (List ℕ)). is_built_in (get_or ns 1 [])) e
first_built_in (a ∷ b ∷ c ∷ cs) (suc (suc zero)) e lt = ap (λ (ns : List (List ℕ)). is_built_in (get_or ns 2 [])) e
first_built_in (a ∷ b ∷ c ∷ cs) (suc (suc (suc k))) e lt = absurd (omega (arith, lt))

-- ---- marks

pub none_marked : (marks : List Bool) (n : ℕ) → marks ≡ replicate n false → (k : ℕ) → get_or marks k false ≡ false
none_marked marks n is k =
    rw is (elim (cases_lt k n) [
      | inl lt ↦ get_or-replicate n k false false lt
      | inr past ↦ get_or_past (replicate n false) k false (omega (arith, past, length-replicate n false))
    ])

-- the only chain that leads to one is itself
pub first_spread : (t : Table) (own : Option Rule) (marks : List Bool) (place : ℕ) → IsSound t → place < 3 → place < length t.chains → length marks ≡ length t.chains → ((k : ℕ) → get_or marks k false ≡ false) → AreSpread t own place (set marks place true)
first_spread t own marks place s first lt long none = record {
  long = length-set marks place true ∙ long;
  there = get_or-set_same marks place true false (omega (arith, lt, long));
  each = first_leads t own marks place none;
  closed = λ k within (rule, there, (name, names, (j, less, marked, same)), counts). elim (cases_eq j place) [
    | inr ne ↦ absurd (true≢false (sym marked ∙ get_or-set_other marks place j true false ne ∙ none j))
    | inl e ↦ absurd (names_user t k rule name s within there names (ap is_built_in (sym same ∙ ap (name_at t.chains) e) ∙ first_built_in t.chains place s.listed.built_in first))
  ];
}
