-- How many rules match in a walk at most, by a number for each chain.
use Rattle.std.proofs.Common.{◌≡◌, inl, inr, ℕ, zero, suc, ◌+◌, ◌-◌, ◌<◌, ◌≤◌, Bool, true, false, cond, List, [], ◌∷◌, ◌++◌, length, get_or, drop, take, refl, sym, ◌∙◌, ap, arith, subst, Option, Some, None, min, ◌≢◌, replicate, true≢false, get_or-set_other, get_or-set_same, length-append, length-set}
use Rattle.std.proofs.Math.ListN.{set}
use Rattle.std.specs.List.{position}
use Rattle.std.proofs.lemmas.Bool.{cases_eq, cases_lt, cond-false, cond-true}
use Rattle.std.proofs.lemmas.List.{drop_more, get_or-replicate, get_or_past, length-replicate, take_more}
use Rattle.std.proofs.lemmas.Slice.Eq.{bytes_eq-Decides}
use Rattle.std.proofs.lemmas.Option.{get_or_from_slice_get, slice_get_within}
use Rattle.fields.specs.declared.packet.hook.Hook.{Hook}
use Rattle.fields.specs.Hook.{name as hook_name}
use Rattle.fields.specs.Packet.{PacketView as Packet}
use Rattle.rules.specs.declared.rule.target.Target.{Target}
use Rattle.rules.specs.declared.rule.target.Target.TheVariants as target
use Rattle.rules.specs.rule.Actions.{target_of}
use Rattle.rules.specs.rule.Allows.{matches}
use Rattle.rules.specs.rule.Rules.{Rule}
use Rattle.table.specs.chains.Sound.{IsSound}
use Rattle.table.specs.chains.Table.{Chain, Table, chain_at, empty_chain, is_named, rules_of}
use Rattle.table.specs.declared.policy.Policy.{Policy}
use Rattle.table.specs.declared.policy.Policy.TheVariants.{Accept, Drop}
use Rattle.table.specs.declared.verdict.Verdict.{Verdict}
use Rattle.table.specs.declared.verdict.Verdict.TheVariants.{TooLong}
use Rattle.table.specs.steps.Kept.{hook_index}
use Rattle.table.specs.walk.Cases.{Stage, Under, Over, StepsTo, GoesTo, behind, next_rule, on_by}
use Rattle.table.specs.walk.Walk.{Entry, Rest, after_match, end_verdict, policy_verdict, walk}
use Rattle.table.proofs.laws.chains.PlaceLaws.{IsPlaced, any_none, has_at, placed_at}
use Rattle.table.proofs.laws.walk.CaseLaws.{walks_by_cases}
use Rattle.questions.specs.Foreign.{Assignment, never, resolved, resolved_rule, resolved_rules}
use Rattle.questions.specs.Leaves.{name_at}
use Rattle.questions.specs.declared.foreign.need.Need.{Need}
use Rattle.questions.specs.steps.Lengths.{AreBelow, AreBounds, Raises, added, added_at, all_added, number_of, room_left}
use Rattle.questions.proofs.laws.ResolvedLaws.{never_matches, is_or_never, rules_by_name}
use Rattle.questions.proofs.laws.TrailLaws.{one_place}
use Rattle.questions.proofs.laws.WaitLaws.{named_first, no_rules}

-- ---- what rules add that match

-- by how much a rule lengthens the walk of a packet
abbrev adds : List ℕ → (List ℕ → ℕ) → Rule → ℕ
adds values number rule = cond (matches values rule) (added number (target_of rule)) 0

abbrev all_add : List ℕ → (List ℕ → ℕ) → List Rule → ℕ
all_add values number [] = 0
all_add values number (rule ∷ rules) = adds values number rule + all_add values number rules

-- by how much the rules of what is left of chains do
abbrev left_in : List Chain → List ℕ → (List ℕ → ℕ) → Rest → ℕ
left_in cs values number rest = all_add values number (drop rest.passed (rules_of cs rest.chain))

abbrev all_left : List Chain → List ℕ → (List ℕ → ℕ) → List Rest → ℕ
all_left cs values number [] = 0
all_left cs values number (rest ∷ rests) = left_in cs values number rest + all_left cs values number rests

module _ (cs : List Chain) (policy : Verdict) (values : List ℕ) (number : List ℕ → ℕ)
    (bound : (name : List ℕ) → number name < 65536 → all_add values number (rules_of cs name) ≤ number name) (short : policy ≢ TooLong) where
  -- with what is left to be added, the trail stays short
  abbrev IsShort : Stage → Type 0
  IsShort (Under rests trail) = all_left cs values number rests + length trail < 65536
  IsShort (Over walked) = walked.verdict ≢ TooLong

  opened : (rest : Rest) (rule : Rule) → next_rule cs rest ≡ Some rule → left_in cs values number rest ≡ adds values number rule + left_in cs values number (behind rest)
  opened rest rule e =
      let rules : List Rule = rules_of cs rest.chain in
      let within : rest.passed < length rules = slice_get_within rules rest.passed rule e in
      ap (all_add values number) (drop_more rules rest.passed rule within)
      ∙ ap (λ (r : Rule). adds values number r + left_in cs values number (behind rest)) (get_or_from_slice_get rules rest.passed rule rule e)

  by_target : (o : Option Target) (own : Rest) (stack : List Rest) (trail : List Entry) (entry : Entry)
      → added number o + left_in cs values number own + all_left cs values number stack + length trail < 65536 → IsShort (on_by (after_match o own stack) (trail ++ entry ∷ []))
  by_target None own stack trail entry h = omega (arith, h, length-append trail (entry ∷ []))
  by_target (Some target.Log) own stack trail entry h = omega (arith, h, length-append trail (entry ∷ []))
  by_target (Some target.Accept) own stack trail entry h = λ e. cc
  by_target (Some target.Drop) own stack trail entry h = λ e. cc
  by_target (Some (target.Reject kind)) own stack trail entry h = λ e. cc
  by_target (Some target.Return) own stack trail entry h = omega (arith, h, length-append trail (entry ∷ []))
  by_target (Some (target.Jump name)) own stack trail entry h =
      let le : all_add values number (rules_of cs name) ≤ number name = bound name (omega (arith, h)) in
      omega (arith, h, le, length-append trail (entry ∷ []))
  by_target (Some (target.Goto name)) own stack trail entry h =
      let le : all_add values number (rules_of cs name) ≤ number name = bound name (omega (arith, h)) in
      omega (arith, h, le, length-append trail (entry ∷ []))

  step_short : (now next : Stage) → StepsTo cs policy values now next → IsShort now → IsShort next
  step_short (Over walked) next s h = absurd s
  step_short (Under [] trail) next s h = subst IsShort (sym s) short
  step_short (Under (rest ∷ waiting) trail) next (inl p) h =
      let e = opened rest p.0 p.1 in
      let less : all_left cs values number (behind rest ∷ waiting) + length trail < 65536 = omega (arith, e, h) in
      subst IsShort (sym p.3) less
  step_short (Under (rest ∷ waiting) trail) next (inr (inl p)) h = absurd (omega (arith, h, p.3))
  step_short (Under (rest ∷ waiting) trail) next (inr (inr (inl p))) h =
      let e = opened rest p.0 p.1 in
      let on : adds values number p.0 ≡ added number (target_of p.0) = cond-true (matches values p.0) (added number (target_of p.0)) 0 p.2 in
      let entry : Entry = record { chain = rest.chain; number = rest.passed + 1 } in
      subst IsShort (sym p.4) (by_target (target_of p.0) (behind rest) waiting trail entry (omega (arith, e, on, h)))
  step_short (Under (rest ∷ waiting) trail) next (inr (inr (inr p))) h =
      let less : all_left cs values number waiting + length trail < 65536 = omega (arith, h) in
      subst IsShort (sym p.1) less

  stays_short : (n : ℕ) (now last : Stage) → GoesTo n cs policy values now last → IsShort now → IsShort last
  stays_short zero now last g h = subst IsShort g h
  stays_short (suc n) now last g h = stays_short n g.0 last g.2 (step_short now g.0 g.1 h)

-- ---- the rules that are left under an assignment

adds_less : (b : Bool) (n : ℕ) → cond b n 0 ≤ n
adds_less true n = omega arith
adds_less false n = omega arith

rule_adds : (values : List ℕ) (number : List ℕ → ℕ) (a : Assignment) (needs : List Need) (rule : Rule) → adds values number (resolved_rule a needs rule) ≤ added number (target_of rule)
rule_adds values number a needs rule =
    let P : Rule → Type 0 = λ r. adds values number r ≤ added number (target_of rule) in
    elim (is_or_never a needs rule) [
      | inl same ↦ subst P (sym same) (adds_less (matches values rule) (added number (target_of rule)))
      | inr gone ↦ (
          let none : adds values number never ≡ 0 = cond-false (matches values never) (added number (target_of never)) 0 (never_matches values) in
          subst P (sym gone) (omega (arith, none)))
    ]

rules_add : (values : List ℕ) (number : List ℕ → ℕ) (a : Assignment) (needs : List (List Need)) (rules : List Rule) → all_add values number (resolved_rules a needs rules) ≤ all_added number rules
rules_add values number a needs [] = omega arith
rules_add values number a [] (rule ∷ rules) =
    let one = adds_less (matches values rule) (added number (target_of rule)) in
    let more = rules_add values number a [] rules in
    omega (arith, one, more)
rules_add values number a (own ∷ needs) (rule ∷ rules) =
    let one = rule_adds values number a own rule in
    let more = rules_add values number a needs rules in
    omega (arith, one, more)

-- ---- numbers by names

module _ (t : Table) (numbers : List ℕ) (bounds : AreBounds t numbers (length t.chains)) where
  of_place : (name : List ℕ) (o : Option ℕ) → position (is_named name) t.chains ≡ o → number_of t.chains numbers name < 65536 → all_added (number_of t.chains numbers) (rules_of t.chains name) ≤ number_of t.chains numbers name
  of_place name None e less =
      let none : rules_of t.chains name ≡ [] = no_rules t.chains name (any_none (is_named name) t.chains e) in
      let n = ap (all_added (number_of t.chains numbers)) none in
      omega (arith, n)
  of_place name (Some place) e less =
      let placed : IsPlaced t name place = placed_at t name place e in
      let is : number_of t.chains numbers name ≡ get_or numbers place 0 = ap (λ (o : Option ℕ). elim o as (λ x. ℕ) [ None ↦ 0 | Some k ↦ get_or numbers k 0 ]) e in
      let same = ap (all_added (number_of t.chains numbers)) (placed.rules (empty_chain [])) in
      let own = bounds place placed.within in
      omega (arith, less, is, same, own)

-- by which number a name's place goes
abbrev pub by_place : List ℕ → Option ℕ → ℕ
by_place numbers o = elim o as (λ x. ℕ) [ None ↦ 0 | Some place ↦ get_or numbers place 0 ]

-- the number of a hook's chain
pub hook_number : (t : Table) (numbers : List ℕ) (hook : Hook) (o : Option ℕ) → IsSound t → position (is_named (hook_name hook)) t.chains ≡ o → number_of t.chains numbers (hook_name hook) ≡ get_or numbers (hook_index hook) 0
hook_number t numbers hook None s e =
    let named = named_first t.chains hook s.listed.built_in in
    let there = has_at t.chains (hook_name hook) (hook_index hook) (empty_chain []) named.1 ((bytes_eq-Decides (name_at t.chains (hook_index hook)) (hook_name hook)).1 named.0) in
    absurd (true≢false (sym there ∙ any_none (is_named (hook_name hook)) t.chains e))
hook_number t numbers hook (Some place) s e =
    let named = named_first t.chains hook s.listed.built_in in
    let placed : IsPlaced t (hook_name hook) place = placed_at t (hook_name hook) place e in
    let same : place ≡ hook_index hook = one_place t place (hook_index hook) s named.1 (placed.named (empty_chain []) ∙ sym named.0) in
    ap (by_place numbers) e ∙ ap (λ (k : ℕ). get_or numbers k 0) same

policy_ends : (policy : Policy) → policy_verdict policy ≢ TooLong
policy_ends Accept e = cc
policy_ends Drop e = cc

-- where the numbers are bounds, and the one of the hook's chain is small, no walk from there is too long, whatever holds
pub none_too_long : (needs : List (List (List Need))) (t : Table) (numbers : List ℕ) (hook : Hook) → IsSound t → AreBounds t numbers (length t.chains) → get_or numbers (hook_index hook) 0 < 65536
    → (a : Assignment) (p : Packet) → p.hook ≡ hook → (walk (resolved needs a t) p).verdict ≢ TooLong
none_too_long needs t numbers hook s bounds small a p at =
    let left : Table = resolved needs a t in
    let number : List ℕ → ℕ = number_of t.chains numbers in
    let name : List ℕ = hook_name p.hook in
    let bound : (name : List ℕ) → number name < 65536 → all_add p.values number (rules_of left.chains name) ≤ number name = λ name less. (
    let own = rules_by_name needs a t.chains name in
    let is = ap (all_add p.values number) own.1 in
    let le = rules_add p.values number a own.0 (rules_of t.chains name) in
    let here = of_place t numbers bounds name (position (is_named name) t.chains) refl less in
    omega (arith, is, le, here)) in
    let first : number name < 65536 =
    omega (arith, small, ap (λ (h : Hook). number_of t.chains numbers (hook_name h)) at, hook_number t numbers hook (position (is_named (hook_name hook)) t.chains) s refl) in
    let le = bound name first in
    let w = walks_by_cases left p in
    stays_short left.chains (end_verdict left p) p.values number bound (policy_ends _) w.0 _ (Over (walk left p)) w.1 (omega (arith, le, first))

pub short_by : (needs : List (List (List Need))) (t : Table) (numbers : List ℕ) (hook : Hook) (place : ℕ) → IsSound t → AreBounds t numbers (length t.chains) → place ≡ hook_index hook → get_or numbers place 0 < 65536
    → (a : Assignment) (p : Packet) → p.hook ≡ hook → (walk (resolved needs a t) p).verdict ≢ TooLong
short_by needs t numbers hook place s bounds at less =
    none_too_long needs t numbers hook s bounds (rw (at) at less)

-- ---- numbers that are raised

adds_more : (f g : List ℕ → ℕ) → ((name : List ℕ) → f name ≤ g name) → (o : Option Target) → added f o ≤ added g o
adds_more f g le None = omega arith
adds_more f g le (Some target.Log) = omega arith
adds_more f g le (Some target.Accept) = omega arith
adds_more f g le (Some target.Drop) = omega arith
adds_more f g le (Some (target.Reject kind)) = omega arith
adds_more f g le (Some target.Return) = omega arith
adds_more f g le (Some (target.Jump name)) = let h = le name in omega (arith, h)
adds_more f g le (Some (target.Goto name)) = let h = le name in omega (arith, h)

all_more : (f g : List ℕ → ℕ) → ((name : List ℕ) → f name ≤ g name) → (rules : List Rule) → all_added f rules ≤ all_added g rules
all_more f g le [] = omega arith
all_more f g le (rule ∷ rules) =
    let one = adds_more f g le (target_of rule) in
    let more = all_more f g le rules in
    omega (arith, one, more)

more_at : (t : Table) (a b : List ℕ) (place : ℕ) → AreBelow a b → added_at t a place ≤ added_at t b place
more_at t a b place below =
    let le = all_more (number_of t.chains a) (number_of t.chains b) (λ name. elim (position (is_named name) t.chains) as (λ o. by_place a o ≤ by_place b o) [ None ↦ omega arith | Some place ↦ below place ]) (chain_at t place).rules in
    omega (arith, le)

-- a number that is raised to what the rules of its chain add
pub raised : (t : Table) (old : List ℕ) (place : ℕ) → place < length t.chains → place < length old → Raises t old (set old place (added_at t old place))
raised t old place within there = record {
  long = length-set old place (added_at t old place);
  below = λ bounds are below k. elim (cases_eq k place) [
    | inl e ↦ (
        let own = get_or-set_same old place (added_at t old place) 0 there in
        let le = more_at t old bounds place below in
        let bound = are place within in
        rw e (omega (arith, own, le, bound)))
    | inr ne ↦ (
        let same = get_or-set_other old place k (added_at t old place) 0 ne in
        let le = below k in
        omega (arith, same, le))
  ];
}

-- then less room is left
pub room_less : (numbers : List ℕ) (place n : ℕ) → place < length numbers → get_or numbers place 0 < n → n ≤ 65536 → room_left (set numbers place n) < room_left numbers
room_less [] place n lt more le = absurd (omega (arith, lt))
room_less (m ∷ numbers) zero n lt more le = omega (arith, more, le)
room_less (m ∷ numbers) (suc k) n lt more le = let h = room_less numbers k n (omega (arith, lt)) more le in omega (arith, h)

-- one chain more
pub bounds_next : (t : Table) (old new : List ℕ) (place : ℕ) → new ≡ old → AreBounds t old place → added_at t old place ≤ get_or old place 0 → AreBounds t new (place + 1)
bounds_next t old new place same below here =
    rw same (λ k lt. elim (cases_eq k place) [
      | inl e ↦ (let Q : ℕ → Type 0 = λ j. added_at t old j ≤ get_or old j 0 in subst Q (sym e) here)
      | inr ne ↦ below k (omega (arith, lt, ne))
    ])

-- noughts are below all
abbrev pub noughts : ℕ → List ℕ
noughts n = replicate n 0

nought_at : (n k : ℕ) → get_or (noughts n) k 0 ≡ 0
nought_at n k = elim (cases_lt k n) [
  | inl lt ↦ get_or-replicate n k 0 0 lt
  | inr past ↦ get_or_past (noughts n) k 0 (omega (arith, past, length-replicate n zero))
]

pub noughts_below : (n : ℕ) (numbers bounds : List ℕ) → numbers ≡ noughts n → AreBelow numbers bounds
noughts_below n numbers bounds e k =
    let at : get_or numbers k 0 ≡ get_or (noughts n) k 0 = ap (λ (ns : List ℕ). get_or ns k 0) e in
    omega (arith, at, nought_at n k)

-- ---- rule after rule

all_pushed : (number : List ℕ → ℕ) (rules : List Rule) (rule : Rule) → all_added number (rules ++ rule ∷ []) ≡ all_added number rules + added number (target_of rule)
all_pushed number [] rule = omega arith
all_pushed number (r ∷ rules) rule = let h = all_pushed number rules rule in omega (arith, h)

pub sum_next : (number : List ℕ → ℕ) (rules : List Rule) (k : ℕ) (rule : Rule) (sum more all : ℕ) → k < length rules → rule ≡ get_or rules (k + 1 - 1) rule
    → sum ≡ min 65536 (all_added number (take k rules)) → min 65536 more ≡ min 65536 (added number (target_of rule)) → all ≡ min 65536 (sum + more) → all ≡ min 65536 (all_added number (take (k + 1) rules))
sum_next number rules k rule sum more all lt is own one e =
    let here : rule ≡ get_or rules k rule = is ∙ ap (λ (j : ℕ). get_or rules j rule) (omega arith) in
    let grown : all_added number (take (k + 1) rules) ≡ all_added number (take k rules) + added number (target_of rule) =
    ap (all_added number) (take_more rules k rule lt) ∙ all_pushed number (take k rules) (get_or rules k rule) ∙ ap (λ (r : Rule). all_added number (take k rules) + added number (target_of r)) (sym here) in
    omega (arith, own, one, e, grown)
