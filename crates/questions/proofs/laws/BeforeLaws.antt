-- A packet comes to a rule if all that it may meet before leaves it where it may be.
use Rattle.std.proofs.Common.{◌≡◌, ◌⊎◌, inl, inr, ℕ, zero, suc, ◌+◌, ◌-◌, ◌<◌, ◌≤◌, true, List, [], ◌∷◌, length, get_or, refl, sym, ◌∙◌, ap, arith, subst, Option, Some, None, Contains, IsTrue, ◌≢◌, IsFalse, ◌&&◌, eqb-true, true≢false}
use Rattle.questions.proofs.laws.LengthLaws.{by_place, hook_number}
use Rattle.std.specs.List.{position}
use Rattle.std.proofs.Math.Dec.{eqb}
use Rattle.std.proofs.lemmas.Bool.{and_parts, cases_Bool, cases_lt}
use Rattle.std.proofs.lemmas.List.Elements.{Contains-append_left, Contains-push}
use Rattle.std.proofs.lemmas.Option.{get_or_from_slice_get, slice_get-get_or, slice_get_within}
use Rattle.fields.specs.Hook.{name as hook_name}
use Rattle.fields.specs.Packet.{PacketView as Packet}
use Rattle.rules.specs.declared.rule.target.Target.{Target}
use Rattle.rules.specs.declared.rule.target.Target.TheVariants as target
use Rattle.rules.specs.rule.Actions.{target_of}
use Rattle.rules.specs.rule.Allows.{matches}
use Rattle.rules.specs.rule.Rules.{Rule, empty_rule}
use Rattle.table.specs.chains.Sound.{IsSound}
use Rattle.table.specs.chains.Table.{Chain, Table, chain_at, empty_chain, is_named, rules_of}
use Rattle.table.specs.declared.verdict.Verdict.{Verdict}
use Rattle.table.specs.declared.verdict.Verdict.TheVariants.{TooLong}
use Rattle.table.specs.declared.walk.trail.Step.{Step}
use Rattle.table.specs.steps.Kept.{hook_index}
use Rattle.table.specs.walk.Cases.{Stage, Under, Over, next_rule, behind, on_by, with_next, StepsTo, GoesTo}
use Rattle.table.specs.walk.Walk.{Rest, Entry, Next, Ends, GoesOn, after_match, end_verdict, walk}
use Rattle.table.proofs.laws.chains.PlaceLaws.{IsPlaced, placed_at}
use Rattle.table.proofs.laws.walk.CaseLaws.{walks_by_cases}
use Rattle.questions.specs.Ends.{IsRule, rule_at}
use Rattle.questions.specs.Foreign.{Agrees, Assignment, all_hold}
use Rattle.questions.specs.Leaves.{entry_of, name_at}
use Rattle.questions.specs.Scopes.{answered, table_of}
use Rattle.questions.specs.asked.Necessary.{AreEnough}
use Rattle.questions.specs.declared.foreign.answers.Answer.{Answer}
use Rattle.questions.specs.declared.foreign.need.Need.{Need}
use Rattle.questions.specs.declared.foreign.subject.Subject.{Subject}
use Rattle.questions.specs.steps.Before.{AreMetBefore, IsMetThere, LeavesThere, StaysThere, step_at, IsSought}
use Rattle.questions.specs.steps.Lengths.{number_of}
use Rattle.questions.specs.steps.Takers.{needs_of}
use Rattle.questions.specs.steps.Straying.{place_of}
use Rattle.questions.proofs.laws.TrailLaws.{none_some}
use Rattle.questions.proofs.laws.ResolvedLaws.{never_matches, count_left, entry_left, names_same, resolved_is, resolved_not, rule_at_left, same_position}

-- ---- one packet's walk

module _ (cs : List Chain) (policy : Verdict) (values : List ℕ) (entry : Entry) (first : 0 < entry.number) (far back : List ℕ → ℕ)
    (stays : (at : Rest) → at.passed < far at.chain → StaysThere cs values (place_of entry) far back at) where
  -- the packet is where it may be; and if it may be back from there, it is where it may be again
  abbrev AreThere : List Rest → Type 0
  AreThere [] = ⊥
  AreThere (rest ∷ waiting) = (rest.passed < far rest.chain) × (0 < back rest.chain → AreThere waiting)

  -- it has come to the rule, or is where it may be
  abbrev IsOnWay : Stage → Type 0
  IsOnWay (Under rests trail) = Contains trail entry ⊎ AreThere rests
  IsOnWay (Over walked) = Contains walked.trail entry ⊎ (walked.verdict ≡ TooLong)

  has_come : (next : Next) (trail : List Entry) → Contains trail entry → IsOnWay (on_by next trail)
  has_come (Ends v) trail c = inl c
  has_come (GoesOn rests) trail c = inl c

  by_target : (o : Option Target) (rest : Rest) (waiting : List Rest) (trail : List Entry) → LeavesThere far back (far rest.chain) (back rest.chain) (rest.passed + 1) o
      → AreThere (rest ∷ waiting) → IsOnWay (on_by (after_match o (behind rest) waiting) trail)
  by_target None rest waiting trail on h = inr (on, h.1)
  by_target (Some target.Log) rest waiting trail on h = inr (on, h.1)
  by_target (Some target.Accept) rest waiting trail on h = absurd on
  by_target (Some target.Drop) rest waiting trail on h = absurd on
  by_target (Some (target.Reject kind)) rest waiting trail on h = absurd on
  by_target (Some target.Return) rest waiting trail on h = inr (h.1 on)
  by_target (Some (target.Jump chain)) rest waiting trail on h = inr (on.0, λ b. (on.1 b, h.1))
  by_target (Some (target.Goto chain)) rest waiting trail on h = inr (on.0, λ b. h.1 (on.1 b))

  -- the rule itself, which matches
  own_entry : (rest : Rest) (trail : List Entry) → rest ≡ place_of entry → Contains (with_next trail rest) entry
  own_entry rest trail e =
      let make : List ℕ → ℕ → Entry = λ c n. record { chain = c; number = n } in
      let passed : rest.passed ≡ entry.number - 1 = ap (λ (r : Rest). r.passed) e in
      let number : rest.passed + 1 ≡ entry.number = omega (arith, passed, first) in
      let same : make rest.chain (rest.passed + 1) ≡ entry = ap (λ c. make c (rest.passed + 1)) (ap (λ (r : Rest). r.chain) e) ∙ ap (make entry.chain) number in
      let P : Entry → Type 0 = λ x. Contains (with_next trail rest) x in
      subst P same (Contains-push trail (make rest.chain (rest.passed + 1)))

  step_on : (now next : Stage) → StepsTo cs policy values now next → IsOnWay now → IsOnWay next
  step_on (Over walked) next s h = absurd s
  step_on (Under [] trail) next s (inl c) = subst IsOnWay (sym s) (inl c)
  step_on (Under [] trail) next s (inr w) = absurd w
  step_on (Under (rest ∷ waiting) trail) next (inl p) (inl c) = subst IsOnWay (sym p.3) (inl c)
  step_on (Under (rest ∷ waiting) trail) next (inl p) (inr w) = subst IsOnWay (sym p.3) (inr ((stays rest w.0).passed p.0 p.1 p.2, w.1))
  step_on (Under (rest ∷ waiting) trail) next (inr (inl p)) h = subst IsOnWay (sym p.4) (inr refl)
  step_on (Under (rest ∷ waiting) trail) next (inr (inr (inl p))) (inl c) =
      subst IsOnWay (sym p.4) (has_come (after_match (target_of p.0) (behind rest) waiting) (with_next trail rest) (Contains-append_left trail _ entry c))
  step_on (Under (rest ∷ waiting) trail) next (inr (inr (inl p))) (inr w) =
      subst IsOnWay (sym p.4) (elim ((stays rest w.0).matched p.0 p.1 p.2) [
        | inl own ↦ has_come (after_match (target_of p.0) (behind rest) waiting) (with_next trail rest) (own_entry rest trail own)
        | inr on ↦ by_target (target_of p.0) rest waiting (with_next trail rest) on w
      ])
  step_on (Under (rest ∷ waiting) trail) next (inr (inr (inr p))) (inl c) = subst IsOnWay (sym p.1) (inl c)
  step_on (Under (rest ∷ waiting) trail) next (inr (inr (inr p))) (inr w) = subst IsOnWay (sym p.1) (inr (w.1 ((stays rest w.0).ended p.0)))

  goes_on : (n : ℕ) (now last : Stage) → GoesTo n cs policy values now last → IsOnWay now → IsOnWay last
  goes_on zero now last g h = subst IsOnWay g h
  goes_on (suc n) now last g h = goes_on n g.0 last g.2 (step_on now g.0 g.1 h)

-- a packet that may not be back from the hook's chain comes to the rule
comes_to : (t : Table) (p : Packet) (entry : Entry) (far back : List ℕ → ℕ) → 0 < entry.number → ((at : Rest) → at.passed < far at.chain → StaysThere t.chains p.values (place_of entry) far back at)
    → 0 < far (hook_name p.hook) → back (hook_name p.hook) ≡ 0 → IsSought t entry p
comes_to t p entry far back first stays begins never =
    let w = walks_by_cases t p in
    goes_on t.chains (end_verdict t p) p.values entry first far back stays w.0 _ (Over (walk t p)) w.1 (inr (begins, λ b. absurd (omega (arith, b, never))))

-- ---- a table under an assignment

module _ (s : Subject) (p : Packet) (answers : List Answer) (wanted : Step) (far back : List ℕ) (rule : IsRule (table_of s) wanted)
    (met : AreMetBefore s p answers wanted far back) (a : Assignment) (agrees : Agrees a answers) where
  abbrev own : Table
  own = table_of s

  abbrev left : Table
  left = answered s a

  abbrev FarBy : List ℕ → ℕ
  FarBy = number_of own.chains far

  abbrev BackBy : List ℕ → ℕ
  BackBy = number_of own.chains back

  -- a rule of what is left of the table, at a place where the packet may be
  module _ (at : Rest) (place : ℕ) (found : position (is_named at.chain) own.chains ≡ Some place) (there : at.passed < get_or far place 0) where
    placed : IsPlaced left at.chain place
    placed = placed_at left at.chain place (same_position at.chain left.chains own.chains (names_same s.needs.now a own.chains) ∙ found)

    placed_before : IsPlaced own at.chain place
    placed_before = placed_at own at.chain place found

    far_is : FarBy at.chain ≡ get_or far place 0
    far_is = ap (by_place far) found

    back_is : BackBy at.chain ≡ get_or back place 0
    back_is = ap (by_place back) found

    count : length (chain_at left place).rules ≡ length (chain_at own place).rules
    count = count_left s.needs.now a own place placed_before.within

    own_rules : rules_of left.chains at.chain ≡ (chain_at left place).rules
    own_rules = placed.rules (empty_chain [])

    ended : next_rule left.chains at ≡ None → 0 < BackBy at.chain
    ended none =
        let past : length (chain_at own place).rules ≤ at.passed = elim (cases_lt at.passed (length (rules_of left.chains at.chain))) [
          | inl within ↦ absurd (none_some (sym none ∙ slice_get-get_or (rules_of left.chains at.chain) at.passed empty_rule within))
          | inr past ↦ omega (arith, past, ap (λ (rules : List Rule). length rules) own_rules, count)
        ] in
        let more = (met place placed_before.within).end (omega (arith, past, there)) in
        omega (arith, more, back_is)

    module _ (r : Rule) (is : next_rule left.chains at ≡ Some r) where
      within : at.passed < length (chain_at own place).rules
      within = omega (arith, slice_get_within (rules_of left.chains at.chain) at.passed r is, ap (λ (rules : List Rule). length rules) own_rules, count)

      abbrev by : Step
      by = step_at place at.passed

      known : IsMetThere s p answers wanted far back by
      known = (met place placed_before.within).rules at.passed there within

      by_rule : IsRule own by
      by_rule = record { chain = placed_before.within; first = omega arith; last = omega (arith, within) }

      rule_is : r ≡ rule_at left by
      rule_is =
          let same : at.passed ≡ at.passed + 1 - 1 = omega arith in
          sym (get_or_from_slice_get (rules_of left.chains at.chain) at.passed r empty_rule is)
          ∙ ap (λ (rules : List Rule). get_or rules at.passed empty_rule) own_rules
          ∙ ap (λ (k : ℕ). get_or (chain_at left place).rules k empty_rule) same

      abbrev needed : List Need
      needed = needs_of s.needs.now by

      -- a rule that is left is itself, where all holds that it needs
      holds : IsTrue (matches p.values r) → IsTrue (all_hold a needed)
      holds on =
          elim (cases_Bool (all_hold a needed)) [
            | inl held ↦ held
            | inr fails ↦ absurd (true≢false (sym (rw (rule_is ∙ rule_at_left s.needs.now a own by by_rule ∙ resolved_not a needed (rule_at own by) fails) at on) ∙ never_matches p.values))
          ]

      same_rule : IsTrue (all_hold a needed) → r ≡ rule_at own by
      same_rule held = rule_is ∙ rule_at_left s.needs.now a own by by_rule ∙ resolved_is a needed (rule_at own by) held

      passed_on : IsFalse (matches p.values r) → at.passed + 1 < FarBy at.chain
      passed_on un =
          let lt = known.passed a agrees (λ both. true≢false (sym both.0 ∙ ap (matches p.values) (sym (same_rule both.1)) ∙ un)) in
          omega (arith, lt, far_is)

      place_is : by ≡ wanted → at ≡ place_of (entry_of left.chains wanted)
      place_is is_wanted =
          let make : List ℕ → ℕ → Rest = λ c n. record { chain = c; passed = n } in
          let here : at ≡ place_of (entry_of left.chains by) =
          ap (λ c. make c at.passed) (sym (placed.named (empty_chain []))) ∙ ap (make (name_at left.chains place)) (omega arith) in
          here ∙ ap (λ (w : Step). place_of (entry_of left.chains w)) is_wanted

      matched_on : IsTrue (matches p.values r) → (at ≡ place_of (entry_of left.chains wanted)) ⊎ LeavesThere FarBy BackBy (FarBy at.chain) (BackBy at.chain) (at.passed + 1) (target_of r)
      matched_on on =
          let held = holds on in
          let same = same_rule held in
          let P : ℕ → ℕ → Option Target → Type 0 = λ f b o. LeavesThere FarBy BackBy f b (at.passed + 1) o in
          elim (known.matched a agrees (ap (matches p.values) (sym same) ∙ on) held) [
            | inl is_wanted ↦ inl (place_is is_wanted)
            | inr leaves ↦ inr (subst (λ f. P f (BackBy at.chain) (target_of r)) (sym far_is) (subst (λ b. P (get_or far place 0) b (target_of r)) (sym back_is) (subst (λ o. P (get_or far place 0) (get_or back place 0) o) (ap target_of (sym same)) leaves)))
          ]

  stays_at : (at : Rest) (o : Option ℕ) → position (is_named at.chain) own.chains ≡ o → at.passed < FarBy at.chain → StaysThere left.chains p.values (place_of (entry_of left.chains wanted)) FarBy BackBy at
  stays_at at None none lt = absurd (omega (arith, lt, ap (by_place far) none))
  stays_at at (Some place) found lt =
      let there : at.passed < get_or far place 0 = omega (arith, lt, ap (by_place far) found) in
      record { ended = ended at place found there; passed = passed_on at place found there; matched = matched_on at place found there }

  sought : IsSound own → 0 < get_or far (hook_index p.hook) 0 → get_or back (hook_index p.hook) 0 ≡ 0 → IsSought left (entry_of left.chains wanted) p
  sought sound begins never =
      let o = position (is_named (hook_name p.hook)) own.chains in
      let far_first = hook_number own far p.hook o sound refl in
      let back_first = hook_number own back p.hook o sound refl in
      comes_to left p (entry_of left.chains wanted) FarBy BackBy rule.first (λ at lt. stays_at at (position (is_named at.chain) own.chains) refl lt) (omega (arith, begins, far_first)) (omega (arith, never, back_first))

-- the packet comes to the rule, unless its walk is too long
pub surely_sought : (s : Subject) (p : Packet) (answers : List Answer) (wanted : Step) (far back : List ℕ) (place : ℕ) → IsSound (table_of s) → IsRule (table_of s) wanted → AreMetBefore s p answers wanted far back
    → place ≡ hook_index p.hook → 0 < get_or far place 0 → get_or back place 0 ≡ 0 → (a : Assignment) → Agrees a answers → IsSought (answered s a) (entry_of (answered s a).chains wanted) p
surely_sought s p answers wanted far back place sound rule met at begins never a agrees =
    sought s p answers wanted far back rule met a agrees sound (rw (at) at begins) (rw (at) at never)

-- and then the answers suffice
pub sought_enough : (s : Subject) (p : Packet) (answers : List Answer) (wanted : Step) → ((a : Assignment) → Agrees a answers → IsSought (answered s a) (entry_of (answered s a).chains wanted) p)
    → ((a : Assignment) → (walk (answered s a) p).verdict ≢ TooLong) → AreEnough s wanted p answers
sought_enough s p answers wanted comes short a agrees =
    elim (comes a agrees) [ inl on ↦ rw (entry_left s.needs.now a (table_of s) wanted) at on | inr long ↦ absurd (short a long) ]

-- ---- what is known of one rule

-- the rule of a step, looked at with what it needs
module _ (s : Subject) (p : Packet) (answers : List Answer) (wanted : Step) (far back : List ℕ) (by : Step) (rule : Rule) (needs : List Need) (is : rule ≡ rule_at (table_of s) by) (needed : needs ≡ needs_of s.needs.now by) where
  abbrev Leaves : Option Target → Type 0
  Leaves o = LeavesThere (number_of (table_of s).chains far) (number_of (table_of s).chains back) (get_or far by.chain 0) (get_or back by.chain 0) by.number o

  pub met_by : ((a : Assignment) → Agrees a answers → ((matches p.values rule ≡ true) × IsTrue (all_hold a needs) → ⊥) → by.number < get_or far by.chain 0)
      → ((a : Assignment) → Agrees a answers → matches p.values rule ≡ true → IsTrue (all_hold a needs) → (by ≡ wanted) ⊎ Leaves (target_of rule)) → IsMetThere s p answers wanted far back by
  met_by passed matched =
      let P : Rule → List Need → Type 0 = λ r n. (a : Assignment) → Agrees a answers → ((matches p.values r ≡ true) × IsTrue (all_hold a n) → ⊥) → by.number < get_or far by.chain 0 in
      let Q : Rule → List Need → Type 0 = λ r n. (a : Assignment) → Agrees a answers → matches p.values r ≡ true → IsTrue (all_hold a n) → (by ≡ wanted) ⊎ Leaves (target_of r) in
      let own : Rule = rule_at (table_of s) by in
      record { passed = subst (λ n. P own n) needed (subst (λ r. P r needs) is passed); matched = subst (λ n. Q own n) needed (subst (λ r. Q r needs) is matched) }

-- two steps are the same where both their numbers are
pub same_step : (one other : Step) → (eqb one.chain other.chain && eqb one.number other.number) ≡ true → one ≡ other
same_step one other e =
    let (chain, number) = and_parts (eqb one.chain other.chain) (eqb one.number other.number) e in
    let make : ℕ → ℕ → Step = λ c n. record { chain = c; number = n } in
    ap (λ c. make c one.number) (eqb-true one.chain other.chain chain) ∙ ap (make other.chain) (eqb-true one.number other.number number)
