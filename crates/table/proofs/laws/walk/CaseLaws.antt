-- A packet's walk goes by its cases, and ends in one way.
use Rattle.std.proofs.Common.{◌≡◌, inl, inr, ℕ, zero, suc, ◌+◌, ◌<◌, ◌≤◌, true, false, cond, List, [], ◌∷◌, ◌++◌, length, refl, sym, ◌∙◌, ap, arith, subst, Option, Some, None}
use Rattle.std.proofs.Math.Dec.{ltb}
use Rattle.std.proofs.lemmas.Bool.{cases_Bool, cases_lt, cond-true, cond-false, lt-ltb, le-ltb}
use Rattle.std.proofs.lemmas.List.{append-nil, length-append}
use Rattle.std.proofs.lemmas.Option.{slice_get_past, slice_get-get_or}
use Rattle.fields.specs.Hook.{name as hook_name}
use Rattle.rules.specs.rule.Actions.{target_of}
use Rattle.rules.specs.rule.Allows.{matches}
use Rattle.rules.specs.rule.Rules.{Rule, empty_rule}
use Rattle.fields.specs.Packet.{PacketView}
use Rattle.table.specs.chains.Table.{Chain, Table, rules_of}
use Rattle.table.specs.declared.verdict.Verdict.{Verdict}
use Rattle.table.specs.walk.Walk.{Rest, Entry, Hit, hit_at, first_hit, Walked, Next, Ends, GoesOn, after_match, next_of, at_end, followed, end_verdict, too_long, walk, walk_within, whole}
use Rattle.table.specs.walk.Cases.{Stage, Under, Over, next_rule, behind, with_next, on_by, StepsTo, GoesTo, Walks, WalksByCases, WalksInOneWay}
use Rattle.table.proofs.laws.walk.WalkLaws.{rule_at, at_an_end, at_a_match, at_no_match, by_hit, at_last, within_end, within_long, after, after_none, after_one}

module _ (cs : List Chain) (policy : Verdict) (values : List ℕ) where
  -- Each stage has at most one next stage

  -- by the next rule, if one is left
  abbrev stage_by : Option Rule → Rest → List Rest → List Entry → Stage
  stage_by None rest waiting trail = Under waiting trail
  stage_by (Some rule) rest waiting trail =
      cond (matches values rule) (cond (ltb (length trail) 65536) (on_by (after_match (target_of rule) (behind rest) waiting) (with_next trail rest)) (Over too_long))
      (Under (behind rest ∷ waiting) trail)

  step_is : (rest : Rest) (waiting : List Rest) (trail : List Entry) (next : Stage) → StepsTo cs policy values (Under (rest ∷ waiting) trail) next → next ≡ stage_by (next_rule cs rest) rest waiting trail
  step_is rest waiting trail next (inl p) =
      p.3 ∙ sym (ap (λ o. stage_by o rest waiting trail) p.1 ∙ cond-false (matches values p.0) _ _ p.2)
  step_is rest waiting trail next (inr (inl p)) =
      p.4 ∙ sym (ap (λ o. stage_by o rest waiting trail) p.1 ∙ cond-true (matches values p.0) _ _ p.2 ∙ cond-false (ltb (length trail) 65536) _ _ (le-ltb (length trail) 65536 p.3))
  step_is rest waiting trail next (inr (inr (inl p))) =
      p.4 ∙ sym (ap (λ o. stage_by o rest waiting trail) p.1 ∙ cond-true (matches values p.0) _ _ p.2 ∙ cond-true (ltb (length trail) 65536) _ _ (lt-ltb (length trail) 65536 p.3))
  step_is rest waiting trail next (inr (inr (inr p))) = p.1 ∙ sym (ap (λ o. stage_by o rest waiting trail) p.0)

  one_step : (now a b : Stage) → StepsTo cs policy values now a → StepsTo cs policy values now b → a ≡ b
  one_step (Under [] trail) a b p q = p ∙ sym q
  one_step (Under (rest ∷ waiting) trail) a b p q = step_is rest waiting trail a p ∙ sym (step_is rest waiting trail b q)
  one_step (Over walked) a b p q = absurd p

  over_same : (a b : Walked) → Over a ≡ Over b → a ≡ b
  over_same a b e = cc

  -- a walk that is over goes nowhere
  stays_over : (now next : Stage) (a : Walked) → now ≡ Over a → StepsTo cs policy values now next → ⊥
  stays_over now next a e p = let P : Stage → Type 0 = λ s. StepsTo cs policy values s next in subst P e p

  one_end : (n m : ℕ) (now : Stage) (a b : Walked) → GoesTo n cs policy values now (Over a) → GoesTo m cs policy values now (Over b) → a ≡ b
  one_end zero zero now a b p q = over_same a b (sym p ∙ q)
  one_end zero (suc m) now a b p q = absurd (stays_over now q.0 a p q.1)
  one_end (suc n) zero now a b p q = absurd (stays_over now p.0 b q p.1)
  one_end (suc n) (suc m) now a b p q =
      let P : Stage → Type 0 = λ s. GoesTo m cs policy values s (Over b) in
      one_end n m p.0 a b p.2 (subst P (sym (one_step now p.0 q.0 p.1 q.1)) q.2)

  -- Each walk ends, with what the search for the next match gives

  -- some steps end the walk with this
  abbrev EndsWith : Stage → Walked → Type 0
  EndsWith now walked = (n : ℕ) × GoesTo n cs policy values now (Over walked)

  step_on : (now next : Stage) (walked : Walked) → StepsTo cs policy values now next → EndsWith next walked → EndsWith now walked
  step_on now next walked p q = (suc q.0, (next, p, q.1))

  over : (now : Stage) (walked all : Walked) → StepsTo cs policy values now (Over walked) → walked ≡ all → EndsWith now all
  over now walked all p e = let P : Walked → Type 0 = λ w. EndsWith now w in subst P e (1, (Over walked, p, refl))

  -- what is left of a walk with room for so many more entries
  abbrev left_of : ℕ → List Rest → List Entry → Walked
  left_of room rests trail = after trail (walk_within room cs policy values rests)

  within_same : (room : ℕ) (a b : List Rest) → first_hit cs values a ≡ first_hit cs values b → walk_within room cs policy values a ≡ walk_within room cs policy values b
  unfolding walk_within
  within_same zero a b e = ap (at_last policy) e
  within_same (suc room) a b e = ap (by_hit room cs policy values) e

  within_next : (room : ℕ) (rests : List Rest) (hit : Hit) → first_hit cs values rests ≡ Some hit → walk_within (suc room) cs policy values rests ≡ followed (walk_within room cs policy values) hit.entry (next_of hit)
  unfolding walk_within
  within_next room rests hit e = ap (by_hit room cs policy values) e

  -- with so much room, all walks end
  abbrev AllEnd : ℕ → Type 0
  AllEnd room = (rests : List Rest) (trail : List Entry) → room + length trail ≡ 65536 → EndsWith (Under rests trail) (left_of room rests trail)

  -- with less room by one, if there is room
  abbrev AllEndBefore : ℕ → Type 0
  AllEndBefore zero = Unit {0}
  AllEndBefore (suc room) = AllEnd room

  -- after a match
  go_on : (room : ℕ) (next : Next) (entry : Entry) (trail : List Entry) → AllEnd room → suc room + length trail ≡ 65536
      → EndsWith (on_by next (trail ++ entry ∷ [])) (after trail (followed (walk_within room cs policy values) entry next))
  go_on room (Ends v) entry trail h long = (0, refl)
  go_on room (GoesOn rests) entry trail h long =
      let P : Walked → Type 0 = λ w. EndsWith (Under rests (trail ++ entry ∷ [])) w in
      subst P (sym (after_one trail entry (walk_within room cs policy values rests))) (h rests (trail ++ entry ∷ []) (omega (arith, long, length-append trail (entry ∷ []))))

  -- at a match
  at_match : (room : ℕ) (rest : Rest) (waiting : List Rest) (trail : List Entry) → AllEndBefore room → room + length trail ≡ 65536
      → next_rule cs rest ≡ Some (rule_at cs rest) → matches values (rule_at cs rest) ≡ true → first_hit cs values (rest ∷ waiting) ≡ Some (hit_at cs rest.chain waiting rest.passed)
      → EndsWith (Under (rest ∷ waiting) trail) (left_of room (rest ∷ waiting) trail)
  at_match zero rest waiting trail h long is t e =
      over (Under (rest ∷ waiting) trail) too_long _ (inr (inl (rule_at cs rest, is, t, omega (arith, long), refl)))
      (sym (ap (after trail) (within_long 0 cs policy values (rest ∷ waiting) (hit_at cs rest.chain waiting rest.passed) e refl)))
  at_match (suc room) rest waiting trail h long is t e =
      let hit : Hit = hit_at cs rest.chain waiting rest.passed in
      let P : Walked → Type 0 = λ w. EndsWith (Under (rest ∷ waiting) trail) w in
      subst P (sym (ap (after trail) (within_next room (rest ∷ waiting) hit e)))
      (step_on (Under (rest ∷ waiting) trail) (on_by (next_of hit) (with_next trail rest)) _ (inr (inr (inl (rule_at cs rest, is, t, omega (arith, long), refl))))
      (go_on room (next_of hit) hit.entry trail h long))

  -- at the end of a chain
  at_chain_end : (room : ℕ) (rest : Rest) (waiting : List Rest) (trail : List Entry) → length (rules_of cs rest.chain) ≤ rest.passed
      → EndsWith (Under waiting trail) (left_of room waiting trail) → EndsWith (Under (rest ∷ waiting) trail) (left_of room (rest ∷ waiting) trail)
  at_chain_end room rest waiting trail past more =
      let P : Walked → Type 0 = λ w. EndsWith (Under (rest ∷ waiting) trail) w in
      subst P (sym (ap (after trail) (within_same room (rest ∷ waiting) waiting (at_an_end cs values rest waiting past))))
      (step_on (Under (rest ∷ waiting) trail) (Under waiting trail) _ (inr (inr (inr (slice_get_past (rules_of cs rest.chain) rest.passed past, refl)))) more)

  -- at a rule that doesn't match
  at_other : (room : ℕ) (rest : Rest) (waiting : List Rest) (trail : List Entry) → rest.passed < length (rules_of cs rest.chain) → matches values (rule_at cs rest) ≡ false
      → EndsWith (Under (behind rest ∷ waiting) trail) (left_of room (behind rest ∷ waiting) trail) → EndsWith (Under (rest ∷ waiting) trail) (left_of room (rest ∷ waiting) trail)
  at_other room rest waiting trail lt un more =
      let P : Walked → Type 0 = λ w. EndsWith (Under (rest ∷ waiting) trail) w in
      subst P (sym (ap (after trail) (within_same room (rest ∷ waiting) (behind rest ∷ waiting) (at_no_match cs values rest waiting lt un))))
      (step_on (Under (rest ∷ waiting) trail) (Under (behind rest ∷ waiting) trail) _ (inl (rule_at cs rest, slice_get-get_or (rules_of cs rest.chain) rest.passed empty_rule lt, un, refl)) more)

  -- in a chain of which at most so many rules are left
  in_chain : (k room : ℕ) (rest : Rest) (waiting : List Rest) (trail : List Entry) → AllEndBefore room → room + length trail ≡ 65536 → length (rules_of cs rest.chain) ≤ k + rest.passed
      → EndsWith (Under waiting trail) (left_of room waiting trail) → EndsWith (Under (rest ∷ waiting) trail) (left_of room (rest ∷ waiting) trail)
  in_chain zero room rest waiting trail h long few more = at_chain_end room rest waiting trail (omega (arith, few)) more
  in_chain (suc k) room rest waiting trail h long few more =
      elim (cases_lt rest.passed (length (rules_of cs rest.chain))) [
        | inr past ↦ at_chain_end room rest waiting trail past more
        | inl lt ↦ elim (cases_Bool (matches values (rule_at cs rest))) [
          | inl t ↦ at_match room rest waiting trail h long (slice_get-get_or (rules_of cs rest.chain) rest.passed empty_rule lt) t (at_a_match cs values rest waiting lt t)
          | inr un ↦ at_other room rest waiting trail lt un (in_chain k room (behind rest) waiting trail h long (omega (arith, few)) more)
        ]
      ]

  in_chains : (room : ℕ) → AllEndBefore room → AllEnd room
  in_chains room h [] trail long =
      let same : left_of room [] trail ≡ after trail (Some (at_end policy)) = ap (after trail) (within_end room cs policy values [] refl) in
      let bare : Walked = record { trail = trail; verdict = policy; by_policy = true } in
      let e : after trail (Some (at_end policy)) ≡ bare = ap (λ (entries : List Entry). let w : Walked = record { trail = entries; verdict = policy; by_policy = true } in w) (append-nil trail) in
      over (Under [] trail) bare (left_of room [] trail) refl (sym (same ∙ e))
  in_chains room h (rest ∷ waiting) trail long =
      in_chain (length (rules_of cs rest.chain)) room rest waiting trail h long (omega arith) (in_chains room h waiting trail long)

  all_end : (room : ℕ) → AllEnd room
  all_end zero = in_chains zero tt
  all_end (suc room) = in_chains (suc room) (all_end room)

-- a packet's walk goes by its cases
pub walks_by_cases : WalksByCases
walks_by_cases t packet =
    let cs = t.chains in
    let policy = end_verdict t packet in
    let rests : List Rest = whole (hook_name packet.hook) ∷ [] in
    let P : Walked → Type 0 = λ w. EndsWith cs policy packet.values (Under rests []) w in
    subst P (after_none (walk_within 65536 cs policy packet.values rests)) (all_end cs policy packet.values 65536 rests [] (omega arith))

-- and ends in one way
pub walks_in_one_way : WalksInOneWay
walks_in_one_way t packet a b p q = one_end t.chains (end_verdict t packet) packet.values p.0 q.0 (Under (whole (hook_name packet.hook) ∷ []) []) a b p.1 q.1

-- so what goes by the cases is what `walk` says
pub walk_is : (t : Table) (packet : PacketView) (w : Walked) → Walks t packet w → walk t packet ≡ w
walk_is t packet w p = walks_in_one_way t packet (walk t packet) w (walks_by_cases t packet) p
