-- A walk through a table without its dead rules.
use Rattle.std.proofs.Common.{◌≡◌, ◌≢◌, inl, inr, ℕ, zero, suc, ◌+◌, ◌<◌, Bool, true, false, cond, List, [], ◌∷◌, ◌++◌, length, map, refl, sym, ◌∙◌, ap, arith, subst, Option, Some, None, Contains, slice_get, IsTrue, IsFalse, length-append}
use Rattle.std.proofs.lemmas.Option.{none-some}
use Rattle.std.proofs.Math.Numerals.{add-one}
use Rattle.std.proofs.lemmas.Bool.{cases_Bool, cond-true, cond-false}
use Rattle.std.proofs.lemmas.List.Elements.{Contains-append_left, Contains-push}
use Rattle.std.proofs.lemmas.Slice.Eq.{bytes_eq-Decides}
use Rattle.fields.specs.Hook.{name as hook_name}
use Rattle.rules.specs.rule.Actions.{target_of}
use Rattle.rules.specs.rule.Allows.{matches}
use Rattle.rules.specs.rule.Rules.{Rule}
use Rattle.rules.specs.declared.rule.target.Target.{Target}
use Rattle.rules.specs.declared.rule.target.Target.TheVariants as target
use Rattle.table.specs.chains.Table.{Chain, is_named, rules_of}
use Rattle.table.specs.declared.verdict.Verdict.{Verdict}
use Rattle.table.specs.declared.verdict.Verdict.TheVariants.{TooLong}
use Rattle.table.specs.walk.Cases.{Stage, Under, Over, next_rule, behind, with_next, on_by, StepsTo, GoesTo}
use Rattle.table.specs.walk.Walk.{Rest, Entry, Walked, Next, Ends, GoesOn, after_match, end_verdict, too_long, walk, whole}
use Rattle.table.proofs.laws.walk.CaseLaws.{walks_by_cases, walk_is}
use Rattle.questions.specs.asked.Laws.{DeadRulesCanGo}
use Rattle.questions.specs.asked.Without.{chain_without, goes_of, staying, without}

-- ---- rules that stay

-- how many of the first k rules stay, where so many stand before them
abbrev kept : (ℕ → Bool) → ℕ → ℕ → List Rule → ℕ
kept goes before zero rules = 0
kept goes before (suc k) [] = 0
kept goes before (suc k) (rule ∷ rules) = cond (goes (before + 1)) (kept goes (before + 1) k rules) (suc (kept goes (before + 1) k rules))

module _ (goes : ℕ → Bool) where
  -- the rule at a place goes: as many stay before it as behind it
  pub gone : (before k : ℕ) (rules : List Rule) (rule : Rule) → slice_get rules k ≡ Some rule → goes (before + k + 1) ≡ true → kept goes before (suc k) rules ≡ kept goes before k rules
  gone before k [] rule at is = absurd (none-some rule at)
  gone before zero (r ∷ rs) rule at is = cond-true (goes (before + 1)) _ _ (ap goes (omega arith) ∙ is)
  gone before (suc k) (r ∷ rs) rule at is =
      let later : kept goes (before + 1) (suc k) rs ≡ kept goes (before + 1) k rs = gone (before + 1) k rs rule at (ap goes (omega arith) ∙ is) in
      ap (λ n. cond (goes (before + 1)) n (suc n)) later

  -- it stays: behind those that stay before it
  pub there : (before k : ℕ) (rules : List Rule) (rule : Rule) → slice_get rules k ≡ Some rule → goes (before + k + 1) ≡ false → slice_get (staying goes before rules) (kept goes before k rules) ≡ Some rule
  there before k [] rule at un = absurd (none-some rule at)
  there before zero (r ∷ rs) rule at un = ap (λ xs. slice_get xs 0) (cond-false (goes (before + 1)) _ _ (ap goes (omega arith) ∙ un)) ∙ at
  there before (suc k) (r ∷ rs) rule at un =
      let later : slice_get (staying goes (before + 1) rs) (kept goes (before + 1) k rs) ≡ Some rule = there (before + 1) k rs rule at (ap goes (omega arith) ∙ un) in
      elim (goes (before + 1)) as (λ b. slice_get (cond b (staying goes (before + 1) rs) (r ∷ staying goes (before + 1) rs)) (cond b (kept goes (before + 1) k rs) (suc (kept goes (before + 1) k rs))) ≡ Some rule) [
        | true ↦ later
        | false ↦ later
      ]

  -- and one more stays with it
  pub one_more : (before k : ℕ) (rules : List Rule) (rule : Rule) → slice_get rules k ≡ Some rule → goes (before + k + 1) ≡ false → kept goes before (suc k) rules ≡ suc (kept goes before k rules)
  one_more before k [] rule at un = absurd (none-some rule at)
  one_more before zero (r ∷ rs) rule at un = cond-false (goes (before + 1)) _ _ (ap goes (omega arith) ∙ un)
  one_more before (suc k) (r ∷ rs) rule at un =
      let later : kept goes (before + 1) (suc k) rs ≡ suc (kept goes (before + 1) k rs) = one_more (before + 1) k rs rule at (ap goes (omega arith) ∙ un) in
      elim (goes (before + 1)) as (λ b. cond b (kept goes (before + 1) (suc k) rs) (suc (kept goes (before + 1) (suc k) rs)) ≡ suc (cond b (kept goes (before + 1) k rs) (suc (kept goes (before + 1) k rs)))) [
        | true ↦ later
        | false ↦ ap (λ n. suc n) later
      ]

  -- none is left at a place: nor is one of those that stay
  pub none_left : (before k : ℕ) (rules : List Rule) → slice_get rules k ≡ None → slice_get (staying goes before rules) (kept goes before k rules) ≡ None
  none_left before zero [] at = refl
  none_left before (suc k) [] at = refl
  none_left before zero (r ∷ rs) at = absurd (none-some r (sym at))
  none_left before (suc k) (r ∷ rs) at =
      let later : slice_get (staying goes (before + 1) rs) (kept goes (before + 1) k rs) ≡ None = none_left (before + 1) k rs at in
      elim (goes (before + 1)) as (λ b. slice_get (cond b (staying goes (before + 1) rs) (r ∷ staying goes (before + 1) rs)) (cond b (kept goes (before + 1) k rs) (suc (kept goes (before + 1) k rs))) ≡ None) [
        | true ↦ later
        | false ↦ later
      ]

-- the rules of a chain, by its name
pub rules_without : (goes : Entry → Bool) (cs : List Chain) (name : List ℕ) → rules_of (map (chain_without goes) cs) name ≡ staying (goes_of goes name) 0 (rules_of cs name)
rules_without goes [] name = refl
rules_without goes (c ∷ cs) name =
    let own : List ℕ → List Rule = λ n. staying (goes_of goes n) 0 c.rules in
    elim (cases_Bool (is_named name c)) [
      | inl is ↦ cond-true (is_named name c) (own c.name) _ is ∙ ap own ((bytes_eq-Decides c.name name).0 is) ∙ sym (ap (staying (goes_of goes name) 0) (cond-true (is_named name c) c.rules (rules_of cs name) is))
      | inr un ↦ cond-false (is_named name c) (own c.name) _ un ∙ rules_without goes cs name ∙ sym (ap (staying (goes_of goes name) 0) (cond-false (is_named name c) c.rules (rules_of cs name) un))
    ]

-- ---- a walk that is over

module _ (cs : List Chain) (policy : Verdict) (values : List ℕ) where
  pub under_over : (rests : List Rest) (trail : List Entry) (w : Walked) → Under rests trail ≡ Over w → ⊥
  under_over rests trail w e = cc

  -- it stays what it is
  pub ended : (n : ℕ) (a w : Walked) → GoesTo n cs policy values (Over a) (Over w) → a ≡ w
  ended zero a w g = cc
  ended (suc n) a w g = absurd g.1

  -- from a stage that is another one
  pub from : (n : ℕ) (one two : Stage) (w : Walked) → one ≡ two → GoesTo n cs policy values one (Over w) → GoesTo n cs policy values two (Over w)
  from n one two w e g = let P : Stage → Type 0 = λ s. GoesTo n cs policy values s (Over w) in subst P e g

  -- ---- what is on the trail stays there, but where the walk is too long

  -- the trail of a walk that is over has what a trail has
  abbrev Has : List Entry → Walked → Type 0
  Has trail w = (entry : Entry) → Contains trail entry → Contains w.trail entry

  -- and walks from any stage with so many steps do
  abbrev AllHave : ℕ → Type 0
  AllHave n = (rests : List Rest) (trail : List Entry) (w : Walked) → w.verdict ≢ TooLong → GoesTo n cs policy values (Under rests trail) (Over w) → Has trail w

  on_has : (n : ℕ) (next : Next) (trail : List Entry) (w : Walked) → AllHave n → w.verdict ≢ TooLong → GoesTo n cs policy values (on_by next trail) (Over w) → Has trail w
  on_has n (Ends v) trail w all short g entry c =
      let P : Walked → Type 0 = λ x. Contains x.trail entry in
      subst P (ended n (record { trail = trail; verdict = v; by_policy = false }) w g) c
  on_has n (GoesOn rests) trail w all short g entry c = all rests trail w short g entry c

  has : (n : ℕ) → AllHave n
  has zero rests trail w short g = absurd (under_over rests trail w g)
  has (suc n) [] trail w short g = λ entry c.
      (let P : Walked → Type 0 = λ x. Contains x.trail entry in
      subst P (ended n (record { trail = trail; verdict = policy; by_policy = true }) w (from n g.0 _ w g.1 g.2)) c)
  has (suc n) (rest ∷ waiting) trail w short g =
      elim g.1 [
        | inl p ↦ has n (behind rest ∷ waiting) trail w short (from n g.0 _ w p.3 g.2)
        | inr q ↦ elim q [
          | inl p ↦ absurd (short (ap (λ (x : Walked). x.verdict) (sym (ended n too_long w (from n g.0 _ w p.4 g.2)))))
          | inr r ↦ elim r [
            | inl p ↦ λ entry c.
                on_has n (after_match (target_of p.0) (behind rest) waiting) (with_next trail rest) w (has n) short (from n g.0 _ w p.4 g.2) entry
                (Contains-append_left trail (record { chain = rest.chain; number = rest.passed + 1 } ∷ []) entry c)
            | inr p ↦ has n waiting trail w short (from n g.0 _ w p.1 g.2)
          ]
        ]
      ]

-- ---- the same walk without the rules that go

module _ (cs : List Chain) (goes : Entry → Bool) (policy : Verdict) (values : List ℕ) where
  -- the chains without them
  abbrev pub left : List Chain
  left = map (chain_without goes) cs

  -- what is left of a chain there
  abbrev pub moved : Rest → Rest
  moved rest = record { chain = rest.chain; passed = kept (goes_of goes rest.chain) 0 rest.passed (rules_of cs rest.chain) }

  abbrev pub moved_next : Next → Next
  moved_next (Ends v) = Ends v
  moved_next (GoesOn rests) = GoesOn (map moved rests)

  pub after_moved : (to : Option Target) (own : Rest) (waiting : List Rest) → after_match to (moved own) (map moved waiting) ≡ moved_next (after_match to own waiting)
  after_moved None own waiting = refl
  after_moved (Some target.Log) own waiting = refl
  after_moved (Some target.Accept) own waiting = refl
  after_moved (Some target.Drop) own waiting = refl
  after_moved (Some (target.Reject kind)) own waiting = refl
  after_moved (Some target.Return) own waiting = refl
  after_moved (Some (target.Jump chain)) own waiting = refl
  after_moved (Some (target.Goto chain)) own waiting = refl

  pub next_left : (rest : Rest) → next_rule left (moved rest) ≡ slice_get (staying (goes_of goes rest.chain) 0 (rules_of cs rest.chain)) (kept (goes_of goes rest.chain) 0 rest.passed (rules_of cs rest.chain))
  next_left rest = ap (λ (rules : List Rule). slice_get rules (kept (goes_of goes rest.chain) 0 rest.passed (rules_of cs rest.chain))) (rules_without goes cs rest.chain)

  -- the next rule, if it stays
  pub next_stays : (rest : Rest) (rule : Rule) → next_rule cs rest ≡ Some rule → goes_of goes rest.chain (rest.passed + 1) ≡ false → next_rule left (moved rest) ≡ Some rule
  next_stays rest rule at un = next_left rest ∙ there (goes_of goes rest.chain) 0 rest.passed (rules_of cs rest.chain) rule at (ap (goes_of goes rest.chain) (omega arith) ∙ un)

  pub behind_stays : (rest : Rest) (rule : Rule) → next_rule cs rest ≡ Some rule → goes_of goes rest.chain (rest.passed + 1) ≡ false → moved (behind rest) ≡ behind (moved rest)
  behind_stays rest rule at un =
      let goes_here : ℕ → Bool = goes_of goes rest.chain in
      let rules : List Rule = rules_of cs rest.chain in
      let to : ℕ → Rest = λ n. record { chain = rest.chain; passed = n } in
      ap to (ap (λ k. kept goes_here 0 k rules) (add-one rest.passed) ∙ one_more goes_here 0 rest.passed rules rule at (ap goes_here (omega arith) ∙ un) ∙ sym (add-one (kept goes_here 0 rest.passed rules)))

  pub behind_goes : (rest : Rest) (rule : Rule) → next_rule cs rest ≡ Some rule → goes_of goes rest.chain (rest.passed + 1) ≡ true → moved (behind rest) ≡ moved rest
  behind_goes rest rule at is =
      let goes_here : ℕ → Bool = goes_of goes rest.chain in
      let rules : List Rule = rules_of cs rest.chain in
      let to : ℕ → Rest = λ n. record { chain = rest.chain; passed = n } in
      ap to (ap (λ k. kept goes_here 0 k rules) (add-one rest.passed) ∙ gone goes_here 0 rest.passed rules rule at (ap goes_here (omega arith) ∙ is))

  -- some steps there end with the same verdict
  abbrev pub Follows : Stage → Walked → Type 0
  Follows stage w = (n : ℕ) × (x : Walked) × GoesTo n left policy values stage (Over x) × (x.verdict ≡ w.verdict)

  pub follow_same : (one two : Stage) (w : Walked) → one ≡ two → Follows one w → Follows two w
  follow_same one two w e f = let P : Stage → Type 0 = λ s. Follows s w in subst P e f

  pub follow_step : (one two : Stage) (w : Walked) → StepsTo left policy values one two → Follows two w → Follows one w
  follow_step one two w s f = (suc f.0, f.1, (two, s, f.2), f.3)

  -- no rule that goes is on the trail of a walk
  abbrev Spares : Walked → Type 0
  Spares w = (entry : Entry) → IsTrue (goes entry) → Contains w.trail entry → ⊥

  -- walks of so many steps are followed, by trails that are as long
  abbrev AllFollow : ℕ → Type 0
  AllFollow n = (rests : List Rest) (trail other : List Entry) (w : Walked) → length other ≡ length trail → w.verdict ≢ TooLong → Spares w
      → GoesTo n cs policy values (Under rests trail) (Over w) → Follows (Under (map moved rests) other) w

  on_follows : (n : ℕ) (next : Next) (trail other : List Entry) (w : Walked) → AllFollow n → length other ≡ length trail → w.verdict ≢ TooLong → Spares w
      → GoesTo n cs policy values (on_by next trail) (Over w) → Follows (on_by (moved_next next) other) w
  on_follows n (Ends v) trail other w all long short spares g =
      (0, record { trail = other; verdict = v; by_policy = false }, refl, ap (λ (x : Walked). x.verdict) (ended cs policy values n (record { trail = trail; verdict = v; by_policy = false }) w g))
  on_follows n (GoesOn rests) trail other w all long short spares g = all rests trail other w long short spares g

  pub as_long : (trail other : List Entry) (a b : Entry) → length other ≡ length trail → length (other ++ a ∷ []) ≡ length (trail ++ b ∷ [])
  as_long trail other a b long = length-append other (a ∷ []) ∙ ap (λ n. n + 1) long ∙ sym (length-append trail (b ∷ []))

  -- at a rule that matches
  matched : (n : ℕ) (rest : Rest) (waiting : List Rest) (trail other : List Entry) (w : Walked) (rule : Rule) → AllFollow n → length other ≡ length trail → w.verdict ≢ TooLong → Spares w
      → next_rule cs rest ≡ Some rule → IsTrue (matches values rule) → length trail < 65536
      → GoesTo n cs policy values (on_by (after_match (target_of rule) (behind rest) waiting) (with_next trail rest)) (Over w) → Follows (Under (moved rest ∷ map moved waiting) other) w
  matched n rest waiting trail other w rule all long short spares at m room g =
      let next : Next = after_match (target_of rule) (behind rest) waiting in
      let entry : Entry = record { chain = rest.chain; number = rest.passed + 1 } in
      let on : Contains w.trail entry = on_has cs policy values n next (with_next trail rest) w (has cs policy values n) short g entry (Contains-push trail entry) in
      elim (cases_Bool (goes entry)) [
        | inl is ↦ absurd (spares entry is on)
        | inr un ↦
            (let to : Next = after_match (target_of rule) (behind (moved rest)) (map moved waiting) in
            let same : moved_next next ≡ to = sym (after_moved (target_of rule) (behind rest) waiting) ∙ ap (λ (own : Rest). after_match (target_of rule) own (map moved waiting)) (behind_stays rest rule at un) in
            follow_step (Under (moved rest ∷ map moved waiting) other) (on_by to (with_next other (moved rest))) w
            (inr (inr (inl (rule, next_stays rest rule at un, m, omega (arith, long, room), refl))))
            (follow_same (on_by (moved_next next) (with_next other (moved rest))) (on_by to (with_next other (moved rest))) w (ap (λ (x : Next). on_by x (with_next other (moved rest))) same)
            (on_follows n next (with_next trail rest) (with_next other (moved rest)) w all (as_long trail other _ entry long) short spares g)))
      ]

  -- at one that doesn't
  pub passed : (rest : Rest) (waiting : List Rest) (other : List Entry) (w : Walked) (rule : Rule) → next_rule cs rest ≡ Some rule → IsFalse (matches values rule)
      → Follows (Under (moved (behind rest) ∷ map moved waiting) other) w → Follows (Under (moved rest ∷ map moved waiting) other) w
  passed rest waiting other w rule at unmet f =
      let under : Rest → Stage = λ r. Under (r ∷ map moved waiting) other in
      elim (cases_Bool (goes_of goes rest.chain (rest.passed + 1))) [
        | inl is ↦ follow_same (under (moved (behind rest))) (under (moved rest)) w (ap under (behind_goes rest rule at is)) f
        | inr un ↦ follow_step (under (moved rest)) (under (behind (moved rest))) w (inl (rule, next_stays rest rule at un, unmet, refl))
            (follow_same (under (moved (behind rest))) (under (behind (moved rest))) w (ap under (behind_stays rest rule at un)) f)
      ]

  pub follows : (n : ℕ) → AllFollow n
  follows zero rests trail other w long short spares g = absurd (under_over cs policy values rests trail w g)
  follows (suc n) [] trail other w long short spares g =
      (1, record { trail = other; verdict = policy; by_policy = true }, (_, refl, refl), ap (λ (x : Walked). x.verdict) (ended cs policy values n (record { trail = trail; verdict = policy; by_policy = true }) w (from cs policy values n g.0 _ w g.1 g.2)))
  follows (suc n) (rest ∷ waiting) trail other w long short spares g =
      elim g.1 [
        | inl p ↦ passed rest waiting other w p.0 p.1 p.2 (follows n (behind rest ∷ waiting) trail other w long short spares (from cs policy values n g.0 _ w p.3 g.2))
        | inr q ↦ elim q [
          | inl p ↦ absurd (short (ap (λ (x : Walked). x.verdict) (sym (ended cs policy values n too_long w (from cs policy values n g.0 _ w p.4 g.2)))))
          | inr r ↦ elim r [
            | inl p ↦ matched n rest waiting trail other w p.0 (follows n) long short spares p.1 p.2 p.3 (from cs policy values n g.0 _ w p.4 g.2)
            | inr p ↦ follow_step (Under (moved rest ∷ map moved waiting) other) (Under (map moved waiting) other) w
                (inr (inr (inr (next_left rest ∙ none_left (goes_of goes rest.chain) 0 rest.passed (rules_of cs rest.chain) p.0, refl))))
                (follows n waiting trail other w long short spares (from cs policy values n g.0 _ w p.1 g.2))
          ]
        ]
      ]

-- so dead rules can go
pub dead_can_go : DeadRulesCanGo
dead_can_go t goes dead p can short =
    let walks = walks_by_cases t p in
    let followed = follows t.chains goes (end_verdict t p) p.values walks.0 (whole (hook_name p.hook) ∷ []) [] [] (walk t p) refl short (λ entry is on. dead entry is p can on) walks.1 in
    sym (ap (λ (w : Walked). w.verdict) (walk_is (without goes t) p followed.1 (followed.0, followed.2)) ∙ followed.3)
