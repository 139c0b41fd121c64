-- A packet comes to a rule only by an open way.
use Rattle.std.proofs.Common.{◌≡◌, inl, inr, ℕ, zero, suc, ◌+◌, List, [], ◌∷◌, ◌++◌, length, refl, sym, ◌∙◌, ap, arith, subst, Option, Some, None, All, Contains, IsTrue, true≢false}
use Rattle.std.proofs.lemmas.Bool.{cases_lt, cases_eq}
use Rattle.std.proofs.lemmas.List.Elements.{All-nil, All-push, All-contains}
use Rattle.std.proofs.lemmas.Option.{slice_get-get_or, slice_get_past, same_Some}
use Rattle.fields.specs.Hook.{name as hook_name}
use Rattle.fields.specs.Packet.{PacketView as Packet}
use Rattle.rules.specs.declared.rule.target.Target.{Target}
use Rattle.rules.specs.declared.rule.target.Target.TheVariants as target
use Rattle.rules.specs.rule.Actions.{target_of}
use Rattle.rules.specs.rule.Allows.{matches}
use Rattle.rules.specs.rule.Rules.{Rule, empty_rule}
use Rattle.table.specs.chains.Table.{Chain, Table, chain_in, rules_of}
use Rattle.table.specs.declared.verdict.Verdict.{Verdict}
use Rattle.table.specs.walk.Cases.{Stage, Under, Over, next_rule, behind, on_by, StepsTo, GoesTo}
use Rattle.table.specs.walk.Walk.{Rest, Entry, Next, Ends as EndsWith, GoesOn, after_match, end_verdict, walk, whole}
use Rattle.table.proofs.laws.walk.CaseLaws.{walks_by_cases}
use Rattle.questions.specs.steps.Straying.{Decides, Ends, Hits, IsEnded, IsLedAway, IsOpenWay, LeadsAway, TakesOut, place_of}
use Rattle.questions.proofs.laws.TrailLaws.{none_some}

module _ (cs : List Chain) (policy : Verdict) (values : List ℕ) (first : List ℕ) where
  -- a chain that an open way leads into, and a place of it before which nothing leads away
  abbrev IsCome : Rest → Type 0
  IsCome rest = ((above : List Rest) × IsOpenWay cs values first rest.chain above) × (IsLedAway cs values rest → ⊥)

  -- the rests of a walk: one that waits is come to, unless one before it ends the walk
  abbrev AreCome : List Rest → Type 0
  AreCome [] = Unit {0}
  AreCome (rest ∷ waiting) = IsCome rest × ((IsEnded cs values rest → ⊥) → AreCome waiting)

  abbrev IsGood : Entry → Type 0
  IsGood entry = IsCome (place_of entry)

  abbrev AreGood : Stage → Type 0
  AreGood (Under rests trail) = AreCome rests × All IsGood trail
  AreGood (Over walked) = All IsGood walked.trail

  -- what is known of a rule that matches, and what of one that doesn't
  hits_same : (rest : Rest) (rule : Rule) (o : Option Target) → next_rule cs rest ≡ Some rule → Hits cs values rest o → o ≡ target_of rule
  hits_same rest rule o is h = sym h.3 ∙ ap target_of (same_Some h.0 rule (sym h.1 ∙ is))

  ends_hits : (rest : Rest) (path : List Rest) → Ends cs values rest path → (o : Option Target) × Hits cs values rest o
  ends_hits rest [] e = (e.0, e.1)
  ends_hits rest (next ∷ path) e = (e.0, e.1)

  -- one rule further nothing led away, unless this one did
  not_led_on : (rest : Rest) → (IsLedAway cs values rest → ⊥) → (LeadsAway cs values rest → ⊥) → IsLedAway cs values (behind rest) → ⊥
  not_led_on rest before here led =
      elim (cases_eq led.0 rest.passed) [
        | inl e ↦ (let P : ℕ → Type 0 = λ k. LeadsAway cs values (record { chain = rest.chain; passed = k }) in here (subst P e led.2))
        | inr ne ↦ before (led.0, omega (arith, led.1, ne), led.2)
      ]

  -- where the walk ends from here on, it does from the next rule on, unless this one ends it or takes the packet out
  ended_on : (rest : Rest) → ((path : List Rest) → Ends cs values rest path → ⊥) → IsEnded cs values rest → IsEnded cs values (behind rest)
  ended_on rest here ended =
      elim (cases_eq ended.0 rest.passed) [
        | inl e ↦ (let P : ℕ → Type 0 = λ k. Ends cs values (record { chain = rest.chain; passed = k }) ended.3.0 in absurd (here ended.3.0 (subst P e ended.3.1)))
        | inr ne ↦ (ended.0, omega (arith, ended.1, ne), λ k o low high h l. ended.2 k o (omega (arith, low)) high h l, ended.3)
      ]

  -- at a rule that takes the packet out, nothing behind it ends the walk
  not_ended_out : (rest : Rest) (o : Option Target) → ((path : List Rest) → Ends cs values rest path → ⊥) → Hits cs values rest o → TakesOut o → IsEnded cs values rest → ⊥
  not_ended_out rest o here h l ended =
      elim (cases_eq ended.0 rest.passed) [
        | inl e ↦ (let P : ℕ → Type 0 = λ k. Ends cs values (record { chain = rest.chain; passed = k }) ended.3.0 in here ended.3.0 (subst P e ended.3.1))
        | inr ne ↦ ended.2 rest.passed o (omega arith) (omega (arith, ended.1, ne)) h l
      ]

  -- a rule ends never walk that neither decides nor enters a chain
  ends_none : (rest : Rest) (rule : Rule) (o : Option Target) → target_of rule ≡ o → (Decides o → ⊥) → chain_in o ≡ None → next_rule cs rest ≡ Some rule → (path : List Rest) → Ends cs values rest path → ⊥
  ends_none rest rule o to never none is [] e = let same : e.0 ≡ o = hits_same rest rule e.0 is e.1 ∙ to in never (subst Decides same e.2)
  ends_none rest rule o to never none is (next ∷ path) e =
      let same : e.0 ≡ o = hits_same rest rule e.0 is e.1 ∙ to in
      none_some (sym none ∙ sym (ap chain_in same) ∙ e.2)

  -- and one that enters a chain only where that ends it
  ends_entered : (rest : Rest) (rule : Rule) (o : Option Target) (chain : List ℕ) → target_of rule ≡ o → (Decides o → ⊥) → chain_in o ≡ Some chain → next_rule cs rest ≡ Some rule → (path : List Rest) → Ends cs values rest path
      → IsEnded cs values (whole chain)
  ends_entered rest rule o chain to never into is [] e = let same : e.0 ≡ o = hits_same rest rule e.0 is e.1 ∙ to in absurd (never (subst Decides same e.2))
  ends_entered rest rule o chain to never into is (next ∷ path) e =
      let same : e.0 ≡ o = hits_same rest rule e.0 is e.1 ∙ to in
      let name : next.chain ≡ chain = same_Some next.chain chain (sym e.2 ∙ ap chain_in same ∙ into) in
      rw (← name) (next.passed, omega arith, e.3, (path, e.4))

  -- a rule that neither ends the walk nor takes the packet out doesn't lead away
  not_away : (rest : Rest) (rule : Rule) (o : Option Target) → target_of rule ≡ o → (TakesOut o → ⊥) → next_rule cs rest ≡ Some rule → ((path : List Rest) → Ends cs values rest path → ⊥) → LeadsAway cs values rest → ⊥
  not_away rest rule o to stays is none (inl e) = none e.0 e.1
  not_away rest rule o to stays is none (inr l) = let same : l.0 ≡ o = hits_same rest rule l.0 is l.1 ∙ to in stays (subst TakesOut same l.2)

  -- the place after a rule that leaves the packet in its chain
  come_on : (rest : Rest) (waiting : List Rest) → AreCome (rest ∷ waiting) → (LeadsAway cs values rest → ⊥) → AreCome (behind rest ∷ waiting)
  come_on rest waiting come never =
      ((come.0.0, not_led_on rest come.0.1 never), λ on. come.1 (λ ended. on (ended_on rest (λ path e. never (inl (path, e))) ended)))

  -- the first place of a chain that a rule enters
  come_into : (rest : Rest) (chain : List ℕ) (o : Option Target) → IsCome rest → Hits cs values rest o → chain_in o ≡ Some chain → IsCome (whole chain)
  come_into rest chain o come h into = ((rest ∷ come.0.0, (o, h, into, come.1, come.0.1)), λ led. absurd (omega (arith, led.1)))

  abbrev GoesGood : Next → Type 0
  GoesGood (EndsWith v) = Unit {0}
  GoesGood (GoesOn rests) = AreCome rests

  on_good : (next : Next) (trail : List Entry) → GoesGood next → All IsGood trail → AreGood (on_by next trail)
  on_good (EndsWith v) trail n h = h
  on_good (GoesOn rests) trail n h = (n, h)

  abbrev AtMatch : Rest → Rule → Option Target → Type 0
  AtMatch rest rule o = (target_of rule ≡ o) × (next_rule cs rest ≡ Some rule) × IsTrue (matches values rule)

  hit : (rest : Rest) (rule : Rule) (o : Option Target) → AtMatch rest rule o → Hits cs values rest o
  hit rest rule o m = (rule, m.1, m.2, m.0)

  by_target : (rest : Rest) (rule : Rule) (waiting : List Rest) (o : Option Target) → AtMatch rest rule o → AreCome (rest ∷ waiting) → GoesGood (after_match o (behind rest) waiting)
  by_target rest rule waiting None m come =
      come_on rest waiting come (not_away rest rule None m.0 (λ l. l) m.1 (ends_none rest rule None m.0 (λ d. d) refl m.1))
  by_target rest rule waiting (Some target.Log) m come =
      come_on rest waiting come (not_away rest rule (Some target.Log) m.0 (λ l. l) m.1 (ends_none rest rule (Some target.Log) m.0 (λ d. d) refl m.1))
  by_target rest rule waiting (Some target.Accept) m come = tt
  by_target rest rule waiting (Some target.Drop) m come = tt
  by_target rest rule waiting (Some (target.Reject kind)) m come = tt
  by_target rest rule waiting (Some target.Return) m come =
      come.1 (not_ended_out rest (Some target.Return) (ends_none rest rule (Some target.Return) m.0 (λ d. d) refl m.1) (hit rest rule (Some target.Return) m) tt)
  by_target rest rule waiting (Some (target.Jump chain)) m come =
      let o : Option Target = Some (target.Jump chain) in (
        come_into rest chain o come.0 (hit rest rule o m) refl,
        λ on. come_on rest waiting come (not_away rest rule o m.0 (λ l. l) m.1 (λ path e. on (ends_entered rest rule o chain m.0 (λ d. d) refl m.1 path e))),
      )
  by_target rest rule waiting (Some (target.Goto chain)) m come =
      let o : Option Target = Some (target.Goto chain) in (
        come_into rest chain o come.0 (hit rest rule o m) refl,
        λ on. come.1 (not_ended_out rest o (λ path e. on (ends_entered rest rule o chain m.0 (λ d. d) refl m.1 path e)) (hit rest rule o m) tt),
      )

  step_good : (now next : Stage) → StepsTo cs policy values now next → AreGood now → AreGood next
  step_good (Over walked) next s h = absurd s
  step_good (Under [] trail) next s h = subst AreGood (sym s) h.1
  step_good (Under (rest ∷ waiting) trail) next (inl p) h =
      let un : (o : Option Target) → Hits cs values rest o → ⊥ = λ o. (λ h. true≢false (sym h.2 ∙ ap (matches values) (same_Some h.0 p.0 (sym h.1 ∙ p.1)) ∙ p.2)) in
      let never : LeadsAway cs values rest → ⊥ = λ away. elim away [ inl e ↦ (let on = ends_hits rest e.0 e.1 in un on.0 on.1) | inr l ↦ un l.0 l.1 ] in
      subst AreGood (sym p.3) (come_on rest waiting h.0 never, h.1)
  step_good (Under (rest ∷ waiting) trail) next (inr (inl p)) h = subst AreGood (sym p.4) (All-nil IsGood)
  step_good (Under (rest ∷ waiting) trail) next (inr (inr (inr p))) h = subst AreGood (sym p.1) (h.0.1 (λ ended. no_rule ended), h.1)
    where
      no_rule : IsEnded cs values rest → ⊥
      no_rule ended =
          let on = ends_hits (record { chain = rest.chain; passed = ended.0 }) ended.3.0 ended.3.1 in
          elim (cases_lt rest.passed (length (rules_of cs rest.chain))) [
            | inl lt ↦ none_some (sym p.0 ∙ slice_get-get_or (rules_of cs rest.chain) rest.passed empty_rule lt)
            | inr past ↦ none_some (sym (slice_get_past (rules_of cs rest.chain) ended.0 (omega (arith, past, ended.1))) ∙ on.1.1)
          ]
  step_good (Under (rest ∷ waiting) trail) next (inr (inr (inl p))) h =
      let entry : Entry = record { chain = rest.chain; number = rest.passed + 1 } in
      let P : ℕ → Type 0 = λ k. IsCome (record { chain = rest.chain; passed = k }) in
      subst AreGood (sym p.4) (on_good _ (trail ++ entry ∷ [])
      (by_target rest p.0 waiting (target_of p.0) (refl, p.1, p.2) h.0)
      (All-push IsGood trail entry h.1 (subst P (omega arith) h.0.0)))

  goes_good : (n : ℕ) (now last : Stage) → GoesTo n cs policy values now last → AreGood now → AreGood last
  goes_good zero now last g h = subst AreGood g h
  goes_good (suc n) now last g h = goes_good n g.0 last g.2 (step_good now g.0 g.1 h)

pub comes_by_way : (t : Table) (p : Packet) (entry : Entry) → Contains (walk t p).trail entry
    → ((above : List Rest) × IsOpenWay t.chains p.values (hook_name p.hook) entry.chain above) × (IsLedAway t.chains p.values (place_of entry) → ⊥)
comes_by_way t p entry on =
    let w = walks_by_cases t p in
    let first : List ℕ = hook_name p.hook in
    let own : Entry → Type 0 = IsGood t.chains (end_verdict t p) p.values first in
    let begin : IsCome t.chains (end_verdict t p) p.values first (whole first) = (([], refl), λ led. absurd (omega (arith, led.1))) in
    All-contains own (walk t p).trail entry
    (goes_good t.chains (end_verdict t p) p.values first w.0 _ (Over (walk t p)) w.1 ((begin, λ never. tt), All-nil own)) on
