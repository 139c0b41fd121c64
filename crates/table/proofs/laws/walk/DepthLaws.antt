-- No more rests wait on the stack of a walk than there are user chains.
use Rattle.std.proofs.Common.{◌≡◌, inl, inr, ℕ, zero, suc, ◌+◌, ◌≤◌, true, false, not, List, [], ◌∷◌, length, get_or, refl, sym, ◌∙◌, ap, arith, subst, Option, Some, None, Contains}
use Rattle.std.proofs.lemmas.Option.{same_Some, none-some}
use Rattle.std.specs.List.{list_any}
use Rattle.std.proofs.Math.Nat.{max-le}
use Rattle.std.proofs.lemmas.Bool.{cases_Bool, cases_lt, cond-true, cond-false, false≢true, or_cases}
use Rattle.std.proofs.lemmas.List.{get_or_default, get_or_past, length-map}
use Rattle.std.proofs.lemmas.List.Elements.{All-contains}
use Rattle.std.proofs.lemmas.Slice.Eq.{bytes_eq-Decides}
use Rattle.classify.specs.NextMatch.{next_match}
use Rattle.rules.specs.rule.Allows.{matches}
use Rattle.fields.specs.Hook.{name as hook_name}
use Rattle.rules.specs.rule.Actions.{target_of}
use Rattle.rules.specs.rule.Rules.{Rule, empty_rule}
use Rattle.rules.specs.declared.rule.target.Target.{Target}
use Rattle.rules.specs.declared.rule.target.Target.TheVariants as target
use Rattle.table.specs.chains.Table.{Chain, names_of, Table, rules_of, chain_in, chain_named_by, is_built_in, is_named, is_user, user_chains}
use Rattle.table.specs.chains.Sound.{Names, Path, HasNoLoop, IsTarget, MayStand, IsSoundChain, IsSound}
use Rattle.table.specs.walk.Walk.{Rest, Hit, hit_at, first_hit, Next, Ends, GoesOn, after_match, next_of, whole}
use Rattle.table.specs.walk.Depth.{stacked, deeper, depth_within, DepthIsBounded}
use Rattle.table.proofs.laws.chains.SoundLaws.{Mem, Differing, pigeon}

-- a path of at least one step
abbrev LeadsOn : List Chain → List ℕ → List ℕ → Type 0
LeadsOn cs a b = (n : ℕ) × Path cs (suc n) a b

path_on : (cs : List Chain) (n : ℕ) (a b c : List ℕ) → Path cs n a b → LeadsOn cs b c → LeadsOn cs a c
path_on cs zero a b c p e = let P : List ℕ → Type 0 = λ x. LeadsOn cs x c in subst P (sym p) e
path_on cs (suc n) a b c p e = let q : LeadsOn cs p.0 c = path_on cs n p.0 b c p.2 e in (suc q.0, (p.0, p.1, q.1))

-- a user chain's name
abbrev IsUserName : List Chain → List ℕ → Type 0
IsUserName cs name = Mem name (names_of (user_chains cs))

-- each rest but the oldest is of a user chain, to which a path leads from the one below it
abbrev IsStack : List Chain → List Rest → Type 0
IsStack cs [] = Unit {0}
IsStack cs (r ∷ []) = Unit {0}
IsStack cs (r ∷ s ∷ rests) = IsUserName cs r.chain × LeadsOn cs s.chain r.chain × IsStack cs (s ∷ rests)

below : (cs : List Chain) (r : Rest) (rests : List Rest) → IsStack cs (r ∷ rests) → IsStack cs rests
below cs r [] h = tt
below cs r (s ∷ rests) h = h.2

-- the rests may be of any numbers
moved_on : (cs : List Chain) (r : Rest) (k : ℕ) (rests : List Rest) → IsStack cs (r ∷ rests) → IsStack cs (record { chain = r.chain; passed = k } ∷ rests)
moved_on cs r k [] h = tt
moved_on cs r k (s ∷ rests) h = h

-- The length of such a stack

abbrev chains_of : List Rest → List (List ℕ)
chains_of [] = []
chains_of (r ∷ rests) = r.chain ∷ chains_of rests

-- all but the oldest
abbrev front : List Rest → List (List ℕ)
front [] = []
front (r ∷ []) = []
front (r ∷ s ∷ rests) = r.chain ∷ front (s ∷ rests)

front_mem : (rests : List Rest) (x : List ℕ) → Mem x (front rests) → Mem x (chains_of rests)
front_mem [] x h = absurd h
front_mem (r ∷ []) x h = absurd h
front_mem (r ∷ s ∷ rests) x (inl e) = inl e
front_mem (r ∷ s ∷ rests) x (inr h) = inr (front_mem (s ∷ rests) x h)

to_top : (cs : List Chain) (r : Rest) (rests : List Rest) → IsStack cs (r ∷ rests) → (x : List ℕ) → Mem x (chains_of rests) → LeadsOn cs x r.chain
to_top cs r [] h x m = absurd m
to_top cs r (s ∷ rests) h x (inl e) = let P : List ℕ → Type 0 = λ y. LeadsOn cs y r.chain in subst P (sym e) h.1
to_top cs r (s ∷ rests) h x (inr m) = let p : LeadsOn cs x s.chain = to_top cs s rests h.2 x m in path_on cs (suc p.0) x s.chain r.chain p.1 h.1

front_differs : (cs : List Chain) (rests : List Rest) → HasNoLoop cs → IsStack cs rests → Differing (front rests)
front_differs cs [] loops h = tt
front_differs cs (r ∷ []) loops h = tt
front_differs cs (r ∷ s ∷ rests) loops h =
    (λ m. let p : LeadsOn cs r.chain r.chain = to_top cs r (s ∷ rests) h r.chain (front_mem (s ∷ rests) r.chain m) in loops p.0 r.chain p.1, front_differs cs (s ∷ rests) loops h.2)

front_users : (cs : List Chain) (rests : List Rest) → IsStack cs rests → (x : List ℕ) → Mem x (front rests) → IsUserName cs x
front_users cs [] h x m = absurd m
front_users cs (r ∷ []) h x m = absurd m
front_users cs (r ∷ s ∷ rests) h x (inl e) = let P : List ℕ → Type 0 = λ y. IsUserName cs y in subst P (sym e) h.0
front_users cs (r ∷ s ∷ rests) h x (inr m) = front_users cs (s ∷ rests) h.2 x m

length-front : (rests : List Rest) → length (front rests) ≡ stacked rests
length-front [] = refl
length-front (r ∷ []) = refl
length-front (r ∷ s ∷ rests) = omega (arith, length-front (s ∷ rests))

stack_bound : (cs : List Chain) (rests : List Rest) → HasNoLoop cs → IsStack cs rests → stacked rests ≤ length (user_chains cs)
stack_bound cs rests loops h =
    let le : length (front rests) ≤ length (names_of (user_chains cs)) = pigeon (front rests) (names_of (user_chains cs)) (front_differs cs rests loops h) (front_users cs rests h) in
    omega (arith, le, length-front rests, length-map (user_chains cs) (λ (c : Chain). c.name))

-- A rule of a sound table names a user chain

user_named : (cs : List Chain) (name : List ℕ) → list_any (is_named name) cs ≡ true → is_built_in name ≡ false → IsUserName cs name
user_named [] name there user = absurd (false≢true there)
user_named (c ∷ cs) name there user =
    elim (or_cases (is_named name c) (list_any (is_named name) cs) there) [
      | inl here ↦ (
          let e = (bytes_eq-Decides c.name name).0 here in
          let u : is_user c ≡ true = ap not (ap is_built_in e ∙ user) in
          let P : List Chain → Type 0 = λ (xs : List Chain). Mem name (names_of xs) in
          subst P (sym (cond-true (is_user c) _ _ u)) (inl (sym e)))
      | inr more ↦ (
          let rest : IsUserName cs name = user_named cs name more user in
          let P : List Chain → Type 0 = λ (xs : List Chain). Mem name (names_of xs) in
          elim (cases_Bool (is_user c)) [
            | inl u ↦ subst P (sym (cond-true (is_user c) _ _ u)) (inr rest)
            | inr un ↦ subst P (sym (cond-false (is_user c) _ _ un)) rest
          ])
    ]

rules_in : (cs : List Chain) (a : List ℕ) (r : Rule) → Contains (rules_of cs a) r → (c : Chain) × Contains cs c × Contains c.rules r
rules_in [] a r h = absurd (omega (arith, h.1))
rules_in (c ∷ cs) a r h =
    let P : List Rule → Type 0 = λ (rs : List Rule). Contains rs r in
    elim (cases_Bool (is_named a c)) [
      | inl here ↦ (c, (0, omega arith, refl), subst P (cond-true (is_named a c) _ _ here) h)
      | inr un ↦ (let q = rules_in cs a r (subst P (cond-false (is_named a c) _ _ un) h) in (q.0, (suc q.1.0, omega (arith, q.1.1), q.1.2), q.2))
    ]

target_user : (t : Table) (a : List ℕ) (r : Rule) (name : List ℕ) → IsSound t → Contains (rules_of t.chains a) r → chain_named_by r ≡ Some name → IsUserName t.chains name
target_user t a r name s at e =
    let c = rules_in t.chains a r at in
    let own : IsSoundChain t c.0 = All-contains (IsSoundChain t) t.chains c.0 s.chains c.1 in
    let may : MayStand t c.0.name r = All-contains (MayStand t c.0.name) c.0.rules r own.rules c.2 in
    let to : IsTarget t name = may.target name e in
    user_named t.chains name to.there to.user

-- One step of a walk

-- the rule of a hit stands in the chain where it was found, if it names a chain
named_at : (cs : List Chain) (a : List ℕ) (place : ℕ) (name : List ℕ) → chain_in (target_of (get_or (rules_of cs a) place empty_rule)) ≡ Some name
    → (r : Rule) × Contains (rules_of cs a) r × (chain_named_by r ≡ Some name)
named_at cs a place name e =
    elim (cases_lt place (length (rules_of cs a))) [
      | inl lt ↦ (let r : Rule = get_or (rules_of cs a) place empty_rule in (r, (place, lt, get_or_default (rules_of cs a) place r empty_rule lt), e))
      | inr past ↦ absurd (none-some _ (ap chain_named_by (sym (get_or_past (rules_of cs a) place empty_rule past)) ∙ e))
    ]

record IsFound (cs : List Chain) (hit : Hit) : Type 0 where
  stack : IsStack cs (hit.own ∷ hit.stack)
  named : (name : List ℕ) → chain_in hit.target ≡ Some name → (r : Rule) × Contains (rules_of cs hit.own.chain) r × (chain_named_by r ≡ Some name)

found_by : (cs : List Chain) (values : List ℕ) (rest : Rest) (stack : List Rest) (o : Option ℕ) (hit : Hit) → IsStack cs (rest ∷ stack) → (IsStack cs stack → first_hit cs values stack ≡ Some hit → IsFound cs hit)
    → elim o as (λ x. Option Hit) [ None ↦ first_hit cs values stack | Some place ↦ Some (hit_at cs rest.chain stack place) ] ≡ Some hit → IsFound cs hit
found_by cs values rest stack None hit h below_it e = below_it (below cs rest stack h) e
found_by cs values rest stack (Some place) hit h below_it e =
    let P : Hit → Type 0 = λ x. IsFound cs x in
    subst P (same_Some _ _ e) (record { stack = moved_on cs rest (place + 1) stack h; named = λ name is. named_at cs rest.chain place name is })

found : (cs : List Chain) (values : List ℕ) (rests : List Rest) (hit : Hit) → IsStack cs rests → first_hit cs values rests ≡ Some hit → IsFound cs hit
found cs values [] hit h e = absurd (none-some _ e)
found cs values (rest ∷ stack) hit h e =
    found_by cs values rest stack (next_match (matches values) (rules_of cs rest.chain) rest.passed) hit h (λ s i. found cs values stack hit s i) e

abbrev IsNext : List Chain → Next → Type 0
IsNext cs (Ends v) = Unit {0}
IsNext cs (GoesOn rests) = IsStack cs rests

went : (cs : List Chain) (own : Rest) (name : List ℕ) (stack : List Rest) → IsUserName cs name → Names cs own.chain name → IsStack cs (own ∷ stack) → IsStack cs (whole name ∷ stack)
went cs own name [] user e h = tt
went cs own name (s ∷ stack) user e h = (user, path_on cs (suc h.1.0) s.chain own.chain name h.1.1 (0, (name, e, refl)), h.2)

next_stack : (t : Table) (o : Option Target) (own : Rest) (stack : List Rest) → IsSound t → IsStack t.chains (own ∷ stack)
    → ((name : List ℕ) → chain_in o ≡ Some name → (r : Rule) × Contains (rules_of t.chains own.chain) r × (chain_named_by r ≡ Some name)) → IsNext t.chains (after_match o own stack)
next_stack t None own stack s h named = h
next_stack t (Some target.Log) own stack s h named = h
next_stack t (Some target.Accept) own stack s h named = tt
next_stack t (Some target.Drop) own stack s h named = tt
next_stack t (Some (target.Reject kind)) own stack s h named = tt
next_stack t (Some target.Return) own stack s h named = below t.chains own stack h
next_stack t (Some (target.Jump name)) own stack s h named =
    let r = named name refl in (target_user t own.chain r.0 name s r.1 r.2, (0, (name, r, refl)), h)
next_stack t (Some (target.Goto name)) own stack s h named =
    let r = named name refl in went t.chains own name stack (target_user t own.chain r.0 name s r.1 r.2) r h

-- The depth

depth_by : (t : Table) (rests : List Rest) (go : List Rest → ℕ) (next : Next) → stacked rests ≤ length (user_chains t.chains) → ((more : List Rest) → IsStack t.chains more → go more ≤ length (user_chains t.chains)) → IsNext t.chains next
    → deeper go rests next ≤ length (user_chains t.chains)
depth_by t rests go (Ends v) le more h = le
depth_by t rests go (GoesOn next) le more h = max-le le (more next h)

depth_found : (t : Table) (rests : List Rest) (go : List Rest → ℕ) (o : Option Hit) → IsSound t → stacked rests ≤ length (user_chains t.chains) → ((more : List Rest) → IsStack t.chains more → go more ≤ length (user_chains t.chains))
    → ((hit : Hit) → o ≡ Some hit → IsFound t.chains hit) → elim o as (λ x. ℕ) [ None ↦ stacked rests | Some hit ↦ deeper go rests (next_of hit) ] ≤ length (user_chains t.chains)
depth_found t rests go None s le more is = le
depth_found t rests go (Some hit) s le more is =
    let f = is hit refl in depth_by t rests go (next_of hit) le more (next_stack t hit.target hit.own hit.stack s f.stack f.named)

depth_bound : (room : ℕ) (t : Table) (values : List ℕ) (rests : List Rest) → IsSound t → IsStack t.chains rests → depth_within room t.chains values rests ≤ length (user_chains t.chains)
unfolding depth_within
depth_bound zero t values rests s h = stack_bound t.chains rests s.no_loop h
depth_bound (suc room) t values rests s h =
    depth_found t rests (depth_within room t.chains values) (first_hit t.chains values rests) s (stack_bound t.chains rests s.no_loop h) (λ more m. depth_bound room t values more s m) (λ hit e. found t.chains values rests hit h e)

pub depth_from : (room : ℕ) (t : Table) (values : List ℕ) (chain : List ℕ) → IsSound t → depth_within room t.chains values (whole chain ∷ []) ≤ length (user_chains t.chains)
depth_from room t values chain s = depth_bound room t values (whole chain ∷ []) s tt

pub depth_bounded : DepthIsBounded
depth_bounded t packet s = depth_from 65536 t packet.values (hook_name packet.hook) s
