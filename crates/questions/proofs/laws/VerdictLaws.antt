-- A rule on a trail that gives a verdict decides the walk, and a verdict that isn't the policy's is given by a rule on the trail.
use Rattle.std.proofs.Common.{◌≡◌, ◌⊎◌, inl, inr, ℕ, zero, suc, ◌+◌, ◌-◌, false, List, [], ◌∷◌, ◌++◌, length, refl, sym, ◌∙◌, ap, arith, subst, Option, Some, None, All, Contains, slice_get}
use Rattle.std.proofs.lemmas.List.Elements.{All-contains, All-nil, All-push, Contains-push, Contains-push_cases}
use Rattle.std.proofs.lemmas.Option.{same_Some}
use Rattle.fields.specs.Packet.{PacketView as Packet}
use Rattle.rules.specs.rule.Actions.{target_of}
use Rattle.rules.specs.rule.Rules.{Rule}
use Rattle.rules.specs.declared.rule.target.Target.{Target}
use Rattle.rules.specs.declared.rule.target.Target.TheVariants as target
use Rattle.table.specs.chains.Table.{Chain, Table, rules_of}
use Rattle.table.specs.declared.verdict.Verdict.{Verdict}
use Rattle.table.specs.declared.verdict.Verdict.TheVariants as verdict
use Rattle.table.specs.walk.Cases.{GoesTo, Over, Stage, StepsTo, Under, on_by}
use Rattle.table.specs.walk.Walk.{Entry, Rest, Walked, after_match, end_verdict, walk}
use Rattle.table.proofs.laws.walk.CaseLaws.{walks_by_cases}
use Rattle.questions.specs.Ends.{verdict_given}
use Rattle.questions.proofs.laws.TrailLaws.{none_some}

-- the rule of an entry
abbrev pub IsRuleOf : List Chain → Entry → Rule → Type 0
IsRuleOf cs entry rule = slice_get (rules_of cs entry.chain) (entry.number - 1) ≡ Some rule

-- it gives no verdict
abbrev GivesNone : List Chain → Entry → Type 0
GivesNone cs entry = (rule : Rule) → IsRuleOf cs entry rule → verdict_given (target_of rule) ≡ None

-- a walk is over: by the policy; since it is too long; or by its last rule, before which none gives a verdict
record IsGivenBy (cs : List Chain) (walked : Walked) : Type 0 where
  init : List Entry
  entry : Entry
  rule : Rule
  trail : walked.trail ≡ init ++ entry ∷ []
  before : All (GivesNone cs) init
  own : IsRuleOf cs entry rule
  gives : verdict_given (target_of rule) ≡ Some walked.verdict

abbrev IsEnding : List Chain → Verdict → Walked → Type 0
IsEnding cs policy walked =
    ((walked.verdict ≡ policy) × All (GivesNone cs) walked.trail) ⊎ (((walked.verdict ≡ verdict.TooLong) × (walked.trail ≡ [])) ⊎ IsGivenBy cs walked)

module _ (cs : List Chain) (policy : Verdict) (values : List ℕ) where
  abbrev AreEnding : Stage → Type 0
  AreEnding (Under rests trail) = All (GivesNone cs) trail
  AreEnding (Over walked) = IsEnding cs policy walked

  module _ (rest : Rest) (waiting : List Rest) (trail : List Entry) (rule : Rule) (before : All (GivesNone cs) trail) where
    abbrev entry : Entry
    entry = record { chain = rest.chain; number = rest.passed + 1 }

    abbrev own : Rest
    own = record { chain = rest.chain; passed = rest.passed + 1 }

    passes : IsRuleOf cs entry rule → verdict_given (target_of rule) ≡ None → All (GivesNone cs) (trail ++ entry ∷ [])
    passes is none =
        let here : GivesNone cs entry = λ r other. (let V : Rule → Type 0 = λ x. verdict_given (target_of x) ≡ None in subst V (same_Some rule r (sym is ∙ other)) none) in
        All-push (GivesNone cs) trail entry before here

    ends : IsRuleOf cs entry rule → (v : Verdict) → verdict_given (target_of rule) ≡ Some v → IsEnding cs policy (record { trail = trail ++ entry ∷ []; verdict = v; by_policy = false })
    ends is v gives = inr (inr (record { init = trail; entry = entry; rule = rule; trail = refl; before = before; own = is; gives = gives }))

    by_target : IsRuleOf cs entry rule → (o : Option Target) → target_of rule ≡ o → AreEnding (on_by (after_match o own waiting) (trail ++ entry ∷ []))
    by_target is None e = passes is (ap verdict_given e)
    by_target is (Some target.Log) e = passes is (ap verdict_given e)
    by_target is (Some target.Accept) e = ends is verdict.Accept (ap verdict_given e)
    by_target is (Some target.Drop) e = ends is verdict.Drop (ap verdict_given e)
    by_target is (Some (target.Reject kind)) e = ends is (verdict.Reject kind) (ap verdict_given e)
    by_target is (Some target.Return) e = passes is (ap verdict_given e)
    by_target is (Some (target.Jump chain)) e = passes is (ap verdict_given e)
    by_target is (Some (target.Goto chain)) e = passes is (ap verdict_given e)

  step_ending : (now next : Stage) → StepsTo cs policy values now next → AreEnding now → AreEnding next
  step_ending (Over walked) next s h = absurd s
  step_ending (Under [] trail) next s h = subst AreEnding (sym s) (inl (refl, h))
  step_ending (Under (rest ∷ waiting) trail) next (inl p) h = subst AreEnding (sym p.3) h
  step_ending (Under (rest ∷ waiting) trail) next (inr (inl p)) h = subst AreEnding (sym p.4) (inr (inl (refl, refl)))
  step_ending (Under (rest ∷ waiting) trail) next (inr (inr (inr p))) h = subst AreEnding (sym p.1) h
  step_ending (Under (rest ∷ waiting) trail) next (inr (inr (inl p))) h =
      subst AreEnding (sym p.4) (by_target rest waiting trail p.0 h (ap (slice_get (rules_of cs rest.chain)) (omega arith) ∙ p.1) (target_of p.0) refl)

  goes_ending : (n : ℕ) (now last : Stage) → GoesTo n cs policy values now last → AreEnding now → AreEnding last
  goes_ending zero now last g h = subst AreEnding g h
  goes_ending (suc n) now last g h = goes_ending n g.0 last g.2 (step_ending now g.0 g.1 h)

ending : (t : Table) (p : Packet) → IsEnding t.chains (end_verdict t p) (walk t p)
ending t p = let w = walks_by_cases t p in goes_ending t.chains (end_verdict t p) p.values w.0 _ (Over (walk t p)) w.1 (All-nil (GivesNone t.chains))

-- a rule on the trail that gives a verdict gives that of the walk
pub decides_there : (t : Table) (p : Packet) (entry : Entry) (rule : Rule) (v : Verdict) → Contains (walk t p).trail entry → IsRuleOf t.chains entry rule → verdict_given (target_of rule) ≡ Some v
    → (walk t p).verdict ≡ v
decides_there t p entry rule v on is gives = elim (ending t p) [
  | inl by ↦ absurd (none_some (sym (All-contains (GivesNone t.chains) (walk t p).trail entry by.1 on rule is) ∙ gives))
  | inr other ↦ elim other [
    | inl long ↦ absurd (omega (arith, on.1, ap (λ (es : List Entry). length es) long.1))
    | inr by ↦ elim (Contains-push_cases by.init by.entry entry (rw by.trail at on)) [
      | inl before ↦ absurd (none_some (sym (All-contains (GivesNone t.chains) by.init entry by.before before rule is) ∙ gives))
      | inr same ↦ (
          let O : Entry → Type 0 = λ e. IsRuleOf t.chains e by.rule in
          let own : IsRuleOf t.chains entry by.rule = subst O same by.own in
          let V : Rule → Type 0 = λ x. verdict_given (target_of x) ≡ Some v in
          same_Some (walk t p).verdict v (sym by.gives ∙ subst V (same_Some rule by.rule (sym is ∙ own)) gives))
    ]
  ]
]

-- the verdict is the policy's, or the walk is too long, or a rule on the trail gives it
pub decided_by : (t : Table) (p : Packet) → ((walk t p).verdict ≡ end_verdict t p) ⊎ (((walk t p).verdict ≡ verdict.TooLong)
    ⊎ ((entry : Entry) × (rule : Rule) × Contains (walk t p).trail entry × IsRuleOf t.chains entry rule × (verdict_given (target_of rule) ≡ Some (walk t p).verdict)))
decided_by t p = elim (ending t p) [
  | inl by ↦ inl by.0
  | inr other ↦ elim other [
    | inl long ↦ inr (inl long.0)
    | inr by ↦ inr (inr (by.entry, by.rule, rw (← by.trail) at (Contains-push by.init by.entry), by.own, by.gives))
  ]
]
