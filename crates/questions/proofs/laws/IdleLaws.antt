-- Jumps that make no difference to the end of a packet's walk.
use Rattle.std.proofs.Common.{◌≡◌, ◌⊎◌, inl, inr, ℕ, zero, suc, ◌+◌, ◌<◌, ◌≤◌, Bool, true, false, List, [], ◌∷◌, ◌++◌, length, get_or, refl, sym, ◌∙◌, ap, arith, subst, Option, Some, None, All, Contains, IsTrue, take, map, not, Vec, Global, ◌↔◌, position, slice_get, Any, true≢false, length-append}
use Rattle.questions.proofs.laws.WithoutLaws.{ended, under_over}
use Rattle.std.specs.Option.{option_map}
use Rattle.std.proofs.lemmas.Bool.{cases_Bool, cases_lt}
use Rattle.std.proofs.lemmas.List.{get_or_append_left, get_or_past, get_or_push, length-map, map-append}
use Rattle.std.proofs.lemmas.List.Elements.{All-nil, All-push, Contains-get_or}
use Rattle.std.proofs.lemmas.List.Quantifiers.{Any-push}
use Rattle.std.proofs.lemmas.Option.{slice_get-get_or, slice_get_past, slice_get_within, same_Some}
use Rattle.fields.specs.Hook.{name as hook_name}
use Rattle.fields.specs.Packet.{PacketView as Packet}
use Rattle.rules.specs.rule.Actions.{target_of}
use Rattle.rules.specs.rule.Allows.{matches}
use Rattle.rules.specs.rule.Rules.{Rule, empty_rule}
use Rattle.rules.specs.declared.rule.target.Target.{Target}
use Rattle.rules.specs.declared.rule.target.Target.TheVariants as target
use Rattle.table.specs.chains.Sound.{IsSound}
use Rattle.table.specs.chains.Table.{Table, chain_at, empty_chain, is_named, rules_of}
use Rattle.table.specs.declared.walk.trail.Step.{Step}
use Rattle.table.specs.declared.verdict.Verdict.{Verdict}
use Rattle.table.specs.declared.verdict.Verdict.TheVariants.{TooLong}
use Rattle.table.specs.walk.Cases.{Stage, Under, Over, GoesTo, next_rule, on_by, with_next}
use Rattle.table.specs.walk.Walk.{Rest, Entry, Walked, Next, Ends, GoesOn, after_match, end_verdict, too_long, walk, whole}
use Rattle.table.proofs.laws.chains.KeepLaws.{rules_by_name}
use Rattle.table.proofs.laws.chains.PlaceLaws.{IsPlaced, any_none, placed_at}
use Rattle.table.proofs.laws.walk.CaseLaws.{walk_is, walks_by_cases}
use Rattle.questions.specs.Ends.{EndsBy, decider_of, step_of}
use Rattle.questions.specs.Foreign.{Agrees, AreAsked, Assignment, IsNeeded, needs_at, resolved, resolved_rule, resolved_rules}
use Rattle.questions.specs.Leaves.{entry_of, name_at}
use Rattle.questions.specs.Scopes.{IsSurely, answered, known_by, table_of, walked_by}
use Rattle.questions.specs.asked.Idle.{AreEnds, AreIdle, AreSpared, AsksFor, ComesBack, IsIdleJump, IsSpared}
use Rattle.questions.specs.asked.Walks.{AreWalks, ShowsWalk}
use Rattle.questions.specs.declared.asked.ends.End.{End}
use Rattle.questions.specs.declared.foreign.answers.Answer.{Answer}
use Rattle.questions.specs.declared.foreign.subject.Subject.{Subject}
use Rattle.questions.specs.declared.walking.task.Leaf.{Leaf}
use Rattle.questions.specs.steps.Ending.{AreIdleMarks, AreShown, AreSparedIn, IsEndOf, items_in, listed}
use Rattle.questions.specs.declared.foreign.need.Need.{Need}
use Rattle.questions.specs.steps.Waiting.{Reaches}
use Rattle.questions.proofs.laws.ForeignLaws.{left_sound}
use Rattle.questions.proofs.laws.ResolvedLaws.{chain_named, count_left, entry_left, length_same, never_matches, resolved_not, rule_left, rule_resolved, rules_length, there_left, resolved_matches, rules_by_name as rules_left}
use Rattle.questions.proofs.laws.ReachLaws.{any_left}
use Rattle.questions.proofs.laws.TrailLaws.{decider_under, last_pushed, none_some, rules_there}
use Rattle.questions.proofs.laws.WaitLaws.{no_rules, reaches_more}

-- ---- a list that grows by one

-- what holds of each element by its place, and of one more, holds with that
pub each_pushed : {X : Type 0} (P : ℕ → X → Type 0) (xs : List X) (x e : X) → ((k : ℕ) → k < length xs → P k (get_or xs k e)) → P (length xs) x
    → (k : ℕ) → k < length (xs ++ x ∷ []) → P k (get_or (xs ++ x ∷ []) k e)
each_pushed {X} P xs x e each own k lt =
    elim (cases_lt k (length xs)) [
      | inl less ↦ subst (P k) (sym (get_or_append_left xs (x ∷ []) e k less)) (each k less)
      | inr ge ↦ (
          let at : k ≡ length xs = omega (arith, ge, lt, length-append xs (x ∷ [])) in
          subst (P k) (sym (get_or_push xs x e k (sym at))) (subst (λ (j : ℕ). P j x) (sym at) own))
    ]

-- ---- the rule that is next, once it is known which conditions hold

module _ (t : Table) (sound : IsSound t) (a : Assignment) where
  -- it has a place in the table
  pub record HasPlace (rest : Rest) : Type 0 where
    pub place : ℕ
    pub there : place < length t.chains
    pub named : name_at t.chains place ≡ rest.chain
    pub passed : rest.passed < length (chain_at t place).rules

  module _ (needs : List (List (List Need))) where
    abbrev left : Table
    left = resolved needs a t

    own_rules : (place : ℕ) → place < length t.chains → rules_of left.chains (name_at left.chains place) ≡ (chain_at left place).rules
    own_rules place there = rules_by_name left (chain_at left place) (left_sound needs a t sound) (Contains-get_or left.chains place (empty_chain []) (there_left needs a t place there))

    pub next_has_place : (rest : Rest) (rule : Rule) → next_rule left.chains rest ≡ Some rule → HasPlace rest
    next_has_place rest rule is =
        let (place, within, named) = rules_there left.chains rest.chain rest.passed rule is in
        let there : place < length t.chains = omega (arith, within, length_same needs a t.chains) in
        let long : length (rules_of left.chains rest.chain) ≡ length (chain_at t place).rules =
        ap (λ (name : List ℕ). length (rules_of left.chains name)) (sym named) ∙ ap (λ (rs : List Rule). length rs) (own_rules place there) ∙ count_left needs a t place there in
        record {
          place = place;
          there = there;
          named = sym (chain_named needs a t.chains place (empty_chain [])) ∙ named;
          passed = omega (arith, long, slice_get_within (rules_of left.chains rest.chain) rest.passed rule is);
        }

    -- and there it is by its needs
    pub next_by_needs : (rest : Rest) (at : HasPlace rest)
        → next_rule left.chains rest ≡ Some (resolved_rule a (needs_at needs at.place rest.passed) (get_or (chain_at t at.place).rules rest.passed empty_rule))
    next_by_needs rest at =
        let named : name_at left.chains at.place ≡ rest.chain = chain_named needs a t.chains at.place (empty_chain []) ∙ at.named in
        let within : rest.passed < length (chain_at left at.place).rules = omega (arith, at.passed, count_left needs a t at.place at.there) in
        ap (λ (name : List ℕ). slice_get (rules_of left.chains name) rest.passed) (sym named)
        ∙ ap (λ (rs : List Rule). slice_get rs rest.passed) (own_rules at.place at.there)
        ∙ slice_get-get_or (chain_at left at.place).rules rest.passed empty_rule within
        ∙ ap Some (rule_left needs a t at.place rest.passed at.there at.passed empty_rule)

-- ---- targets

-- after a match a packet that comes back is in the rest of the chain, or out of it
back_by : (to : Option Target) (own : Rest) (stack : List Rest) → ComesBack to → (after_match to own stack ≡ GoesOn (own ∷ stack)) ⊎ (after_match to own stack ≡ GoesOn stack)
back_by None own stack back = inl refl
back_by (Some target.Log) own stack back = inl refl
back_by (Some target.Return) own stack back = inr refl
back_by (Some target.Accept) own stack back = absurd back
back_by (Some target.Drop) own stack back = absurd back
back_by (Some (target.Reject kind)) own stack back = absurd back
back_by (Some (target.Jump name)) own stack back = absurd back
back_by (Some (target.Goto name)) own stack back = absurd back

-- ---- ends

-- two walks end alike
pub record EndsAlike (one other : Walked) : Type 0 where
  pub verdict : one.verdict ≡ other.verdict
  pub by_policy : one.by_policy ≡ other.by_policy
  pub decider : decider_of one ≡ decider_of other

-- the same verdict, by the policy or by the last rule
same_end : (e : Entry) (one other : List Entry) (v : Verdict) → EndsAlike (record { trail = one ++ e ∷ []; verdict = v; by_policy = false }) (record { trail = other ++ e ∷ []; verdict = v; by_policy = false })
same_end e one other v = record { verdict = refl; by_policy = refl; decider = last_pushed one e ∙ sym (last_pushed other e) }

alike_with : (one other last w : Walked) → one ≡ last → w ≡ other → EndsAlike one other → EndsAlike last w
alike_with one other last w is at alike = subst (λ (x : Walked). EndsAlike x w) is (subst (λ (x : Walked). EndsAlike one x) (sym at) alike)

-- ---- the walk of a packet, where idle jumps ask nothing

module _ (t : Table) (sound : IsSound t) (a : Assignment) (p : Packet) (needs : List (List (List Need))) where
  abbrev mine : Table
  mine = resolved needs a t

  abbrev policy : Verdict
  policy = end_verdict mine p

  abbrev own : Walked
  own = walk mine p

  module _ (short : own.verdict ≡ TooLong → ⊥) where
    -- so each match has room
    goes_on : (rest : Rest) (waiting : List Rest) (trail : List Entry) (rule : Rule) → next_rule mine.chains rest ≡ Some rule → matches p.values rule ≡ true → Reaches mine p (Under (rest ∷ waiting) trail)
        → Reaches mine p (on_by (after_match (target_of rule) (record { chain = rest.chain; passed = rest.passed + 1 }) waiting) (with_next trail rest))
    goes_on rest waiting trail rule is m reaches =
        elim (cases_lt (length trail) 65536) [
          | inl room ↦ reaches_more mine p (Under (rest ∷ waiting) trail) _ reaches (inr (inr (inl (rule, is, m, room, refl))))
          | inr full ↦ absurd (short (ap (λ (w : Walked). w.verdict) (walk_is mine p too_long (reaches_more mine p (Under (rest ∷ waiting) trail) (Over too_long) reaches (inr (inl (rule, is, m, full, refl)))))))
        ]

    -- the rules of a chain by its name
    by_name : (name : List ℕ) → (needed : List (List Need)) × (rules_of mine.chains name ≡ resolved_rules a needed (rules_of t.chains name))
    by_name name = rules_left needs a t.chains name

    next_in : (name : List ℕ) (k : ℕ) → k < length (rules_of t.chains name)
        → next_rule mine.chains (record { chain = name; passed = k }) ≡ Some (resolved_rule a (get_or (by_name name).0 k []) (get_or (rules_of t.chains name) k empty_rule))
    next_in name k within =
        let rules : List Rule = rules_of t.chains name in
        let (needed, are) = by_name name in
        ap (λ (rs : List Rule). slice_get rs k) are ∙ slice_get-get_or (resolved_rules a needed rules) k empty_rule (omega (arith, within, rules_length needed a rules))
        ∙ ap Some (rule_resolved needed a rules k empty_rule within)

    past_in : (name : List ℕ) (k : ℕ) → length (rules_of t.chains name) ≤ k → next_rule mine.chains (record { chain = name; passed = k }) ≡ None
    past_in name k le =
        let (needed, are) = by_name name in
        slice_get_past (rules_of mine.chains name) k (omega (arith, le, ap (λ (rs : List Rule). length rs) are, rules_length needed a (rules_of t.chains name)))

    -- a packet comes back from a chain whose rules are idle
    comes : (name : List ℕ) → AreIdle p.values (rules_of t.chains name) → (n k : ℕ) → length (rules_of t.chains name) ≤ k + n → (waiting : List Rest) (trail : List Entry)
        → Reaches mine p (Under (record { chain = name; passed = k } ∷ waiting) trail) → (more : List Entry) × Reaches mine p (Under waiting more)
    comes name idle zero k le waiting trail reaches =
        (trail, reaches_more mine p (Under (record { chain = name; passed = k } ∷ waiting) trail) (Under waiting trail) reaches (inr (inr (inr (past_in name k (omega (arith, le)), refl)))))
    comes name idle (suc n) k le waiting trail reaches =
        let rule : Rule = get_or (rules_of t.chains name) k empty_rule in
        let needed : List Need = get_or (by_name name).0 k [] in
        let here : Rest = record { chain = name; passed = k } in
        let later : Rest = record { chain = name; passed = k + 1 } in
        elim (cases_lt k (length (rules_of t.chains name))) [
          | inr over ↦ (trail, reaches_more mine p (Under (here ∷ waiting) trail) (Under waiting trail) reaches (inr (inr (inr (past_in name k over, refl)))))
          | inl within ↦ elim (cases_Bool (matches p.values (resolved_rule a needed rule))) [
            | inr un ↦ comes name idle n (k + 1) (omega (arith, le)) waiting trail
                (reaches_more mine p (Under (here ∷ waiting) trail) (Under (later ∷ waiting) trail) reaches (inl (resolved_rule a needed rule, next_in name k within, un, refl)))
            | inl m ↦ (
                let is : resolved_rule a needed rule ≡ rule = resolved_matches a needed rule p.values m in
                let back : ComesBack (target_of rule) = idle k empty_rule within (ap (matches p.values) (sym is) ∙ m) in
                let more : List Entry = with_next trail here in
                let on : Reaches mine p (on_by (after_match (target_of rule) later waiting) more) =
                subst (λ (r : Rule). Reaches mine p (on_by (after_match (target_of r) later waiting) more)) is (goes_on here waiting trail (resolved_rule a needed rule) (next_in name k within) m reaches) in
                elim (back_by (target_of rule) later waiting back) [
                  | inl stays ↦ comes name idle n (k + 1) (omega (arith, le)) waiting more (subst (λ (x : Next). Reaches mine p (on_by x more)) stays on)
                  | inr leaves ↦ (more, subst (λ (x : Next). Reaches mine p (on_by x more)) leaves on)
                ])
          ]
        ]

    module _ (others : List (List (List Need))) (spared : AreSpared t p.values needs others) where
      abbrev other : Table
      other = resolved others a t

      -- a rule that matches is the same in both
      same_rule : (rest : Rest) (rule : Rule) → next_rule other.chains rest ≡ Some rule → matches p.values rule ≡ true → next_rule mine.chains rest ≡ Some rule
      same_rule rest rule is m =
          let at : HasPlace t sound a rest = next_has_place t sound a others rest rule is in
          let was : Rule = get_or (chain_at t at.place).rules rest.passed empty_rule in
          let one : List Need = needs_at needs at.place rest.passed in
          let two : List Need = needs_at others at.place rest.passed in
          let by : rule ≡ resolved_rule a two was = same_Some rule (resolved_rule a two was) (sym is ∙ next_by_needs t sound a others rest at) in
          elim (spared at.place rest.passed at.there at.passed) [
            | inl same ↦ next_by_needs t sound a needs rest at ∙ ap (λ (ns : List Need). Some (resolved_rule a ns was)) (sym same.0) ∙ ap Some (sym by)
            | inr idle ↦ absurd (true≢false (sym m ∙ ap (matches p.values) (by ∙ resolved_not a two was (idle.1 a)) ∙ never_matches p.values))
          ]

      -- past a rule that doesn't match in the other table, the walk goes on behind it in this one, too
      goes_behind : (rest : Rest) (waiting : List Rest) (trail : List Entry) (rule : Rule) → next_rule other.chains rest ≡ Some rule → matches p.values rule ≡ false → Reaches mine p (Under (rest ∷ waiting) trail)
          → (more : List Entry) × Reaches mine p (Under (record { chain = rest.chain; passed = rest.passed + 1 } ∷ waiting) more)
      goes_behind rest waiting trail rule is un reaches =
          let at : HasPlace t sound a rest = next_has_place t sound a others rest rule is in
          let was : Rule = get_or (chain_at t at.place).rules rest.passed empty_rule in
          let one : List Need = needs_at needs at.place rest.passed in
          let here : Rule = resolved_rule a one was in
          let next : next_rule mine.chains rest ≡ Some here = next_by_needs t sound a needs rest at in
          let later : Rest = record { chain = rest.chain; passed = rest.passed + 1 } in
          elim (cases_Bool (matches p.values here)) [
            | inr off ↦ (trail, reaches_more mine p (Under (rest ∷ waiting) trail) (Under (later ∷ waiting) trail) reaches (inl (here, next, off, refl)))
            | inl on ↦ elim (spared at.place rest.passed at.there at.passed) [
              | inl same ↦ absurd (true≢false (sym on ∙ ap (matches p.values) (same_Some here rule (sym (ap (λ (ns : List Need). Some (resolved_rule a ns was)) same.0) ∙ sym (next_by_needs t sound a others rest at) ∙ is)) ∙ un))
              | inr idle ↦ (
                  let jump = idle.0 in
                  let to : target_of here ≡ Some (target.Jump jump.0) = ap target_of (resolved_matches a one was p.values on) ∙ jump.1 in
                  let more : List Entry = with_next trail rest in
                  let entered : Reaches mine p (Under (whole jump.0 ∷ later ∷ waiting) more) =
                  subst (λ (o : Option Target). Reaches mine p (on_by (after_match o later waiting) more)) to (goes_on rest waiting trail here next on reaches) in
                  comes jump.0 jump.2 (length (rules_of t.chains jump.0)) 0 (omega arith) (later ∷ waiting) more entered)
            ]
          ]

      -- a chain that is at its end in the other table is at its end
      ends_too : (rest : Rest) → next_rule other.chains rest ≡ None → next_rule mine.chains rest ≡ None
      ends_too rest none = by_next (next_rule mine.chains rest) refl
        where
          by_next : (o : Option Rule) → next_rule mine.chains rest ≡ o → o ≡ None
          by_next None is = refl
          by_next (Some rule) is = absurd (none_some (sym none ∙ next_by_needs t sound a others rest (next_has_place t sound a needs rest rule is)))

      -- a match that ends the walks ends them alike
      by_next : (rest : Rest) (trail more : List Entry) (last : Walked) (n : ℕ) (on : Next) → GoesTo n other.chains policy p.values (on_by on (with_next trail rest)) (Over last) → Reaches mine p (on_by on (with_next more rest))
          → ((rests : List Rest) → GoesTo n other.chains policy p.values (Under rests (with_next trail rest)) (Over last) → Reaches mine p (Under rests (with_next more rest)) → EndsAlike last own) → EndsAlike last own
      by_next rest trail more last n (GoesOn rests) goes on later = later rests goes on
      by_next rest trail more last n (Ends v) goes on later =
          let here : Walked = record { trail = with_next trail rest; verdict = v; by_policy = false } in
          let there : Walked = record { trail = with_next more rest; verdict = v; by_policy = false } in
          alike_with here there last own (ended other.chains policy p.values n here last goes) (walk_is mine p there on) (same_end (record { chain = rest.chain; number = rest.passed + 1 }) trail more v)

      -- the walks end alike
      alike : (n : ℕ) (rests : List Rest) (trail more : List Entry) (last : Walked) → GoesTo n other.chains policy p.values (Under rests trail) (Over last) → (last.verdict ≡ TooLong → ⊥) → Reaches mine p (Under rests more) → EndsAlike last own
      alike zero rests trail more last goes ends reaches = absurd (under_over other.chains policy p.values rests trail last goes)
      alike (suc n) [] trail more last (next, step, goes) ends reaches =
          let here : Walked = record { trail = trail; verdict = policy; by_policy = true } in
          let there : Walked = record { trail = more; verdict = policy; by_policy = true } in
          let is : here ≡ last = ended other.chains policy p.values n here last (subst (λ (s : Stage). GoesTo n other.chains policy p.values s (Over last)) step goes) in
          let at : own ≡ there = walk_is mine p there (reaches_more mine p (Under [] more) (Over there) reaches refl) in
          alike_with here there last own is at (record { verdict = refl; by_policy = refl; decider = refl })
      alike (suc n) (rest ∷ waiting) trail more last (next, inl (rule, is, un, to), goes) ends reaches =
          let later : Rest = record { chain = rest.chain; passed = rest.passed + 1 } in
          let (further, on) = goes_behind rest waiting more rule is un reaches in
          alike n (later ∷ waiting) trail further last (subst (λ (s : Stage). GoesTo n other.chains policy p.values s (Over last)) to goes) ends on
      alike (suc n) (rest ∷ waiting) trail more last (next, inr (inl (rule, is, m, full, to)), goes) ends reaches =
          let long : too_long ≡ last = ended other.chains policy p.values n too_long last (subst (λ (s : Stage). GoesTo n other.chains policy p.values s (Over last)) to goes) in
          absurd (ends (ap (λ (w : Walked). w.verdict) (sym long)))
      alike (suc n) (rest ∷ waiting) trail more last (next, inr (inr (inr (none, to))), goes) ends reaches =
          alike n waiting trail more last (subst (λ (s : Stage). GoesTo n other.chains policy p.values s (Over last)) to goes) ends
          (reaches_more mine p (Under (rest ∷ waiting) more) (Under waiting more) reaches (inr (inr (inr (ends_too rest none, refl)))))
      alike (suc n) (rest ∷ waiting) trail more last (next, inr (inr (inl (rule, is, m, room, to))), goes) ends reaches =
          let later : Rest = record { chain = rest.chain; passed = rest.passed + 1 } in
          by_next rest trail more last n (after_match (target_of rule) later waiting) (subst (λ (s : Stage). GoesTo n other.chains policy p.values s (Over last)) to goes)
          (goes_on rest waiting more rule (same_rule rest rule is m) m reaches) (λ rests goes on. alike n rests (with_next trail rest) (with_next more rest) last goes ends on)

      -- so do the walks of a packet
      pub walks_end_alike : ((walk other p).verdict ≡ TooLong → ⊥) → EndsAlike (walk other p) own
      walks_end_alike ends =
          let w = walks_by_cases other p in
          alike w.0 (whole (hook_name p.hook) ∷ []) [] [] (walk other p) w.1 ends (0, refl)

-- ---- The ends of the walks that leaves show.

-- the entry of a rule is the same in both
entry_same : (t : Table) (needs others : List (List (List Need))) (a : Assignment) (by : Option Step) → option_map (entry_of (resolved others a t).chains) by ≡ option_map (entry_of (resolved needs a t).chains) by
entry_same t needs others a None = refl
entry_same t needs others a (Some step) = ap Some (entry_left others a t step ∙ sym (entry_left needs a t step))

module _ (t : Table) (sound : IsSound t) (p : Packet) (needs others : List (List (List Need))) (spared : AreSpared t p.values needs others)
    (short : (a : Assignment) → (walk (resolved needs a t) p).verdict ≡ TooLong → ⊥) where
  -- a leaf of the walks where idle jumps ask nothing says how the packet's walk ends
  ends_by : (a : Assignment) (leaf : Leaf) → walk (resolved others a t) p ≡ walked_by (record { needs = others; holds = a }) (resolved others a t).chains leaf → IsSurely (record { needs = others; holds = a }) leaf → Agrees a leaf.answers
      → EndsBy (resolved needs a t) p leaf.verdict (step_of leaf)
  ends_by a leaf walked surely agrees =
      let alike : EndsAlike (walk (resolved others a t) p) (walk (resolved needs a t) p) =
      walks_end_alike t sound a p needs (short a) others spared (λ long. leaf.short (sym (ap (λ (w : Walked). w.verdict) walked) ∙ long)) in
      record {
        gives = sym alike.verdict ∙ ap (λ (w : Walked). w.verdict) walked;
        decides = sym alike.decider ∙ ap decider_of walked ∙ decider_under (record { needs = others; holds = a }) (resolved others a t).chains leaf surely agrees ∙ entry_same t needs others a (step_of leaf);
      }

  -- so does the end that is made of it
  end_is : (a : Assignment) (leaf : Leaf) (end : End) → IsEndOf leaf end → EndsBy (resolved needs a t) p leaf.verdict (step_of leaf) → EndsBy (resolved needs a t) p end.verdict end.by
  end_is a leaf end is ends =
      subst (λ (by : Option Step). EndsBy (resolved needs a t) p end.verdict by) (sym is.by) (subst (λ (v : Verdict). EndsBy (resolved needs a t) p v (step_of leaf)) (sym is.verdict) ends)

pub are_ends : (s others : Subject) (p : Packet) (answers : List Answer) (leaves : List Leaf) (ends : List End) → IsSound (table_of s) → table_of others ≡ table_of s → AreSpared (table_of s) p.values s.needs.now others.needs.now
    → ((a : Assignment) → (walk (answered s a) p).verdict ≡ TooLong → ⊥) → AreWalks others p answers leaves → AreShown leaves ends → AreEnds s p answers ends
are_ends s others p answers leaves ends sound same spared short walks shown = record {
  complete = λ a agrees.
      let (k, leaf, lt, at, both) = walks.complete a agrees in
      let (j, end, less, here, is) = subst (λ (l : Leaf). Any (IsEndOf l) ends) at (shown.all k leaf lt) in (
        j,
        end,
        less,
        here,
        (
          subst (λ (given : List Answer). Agrees a given) (sym is.answers) both.0,
          end_is (table_of s) sound p s.needs.now others.needs.now spared short a leaf end is
              (by_leaf a leaf both.1 (subst (λ (l : Leaf). IsSurely (known_by others a) l) at (walks.decided a k leaf lt)) both.0),
        ),
      );
  exact = λ a j end less agrees.
      let here : End = get_or ends j end in
      let (k, leaf, lt, at, is) = shown.only j end less in
      let agree : Agrees a leaf.answers = subst (λ (given : List Answer). Agrees a given) is.answers agrees in
      let both = subst (λ (l : Leaf). Agrees a l.answers → Agrees a answers × ShowsWalk others p a l) at (walks.exact a k leaf lt) agree in
      (both.0, end_is (table_of s) sound p s.needs.now others.needs.now spared short a leaf here is (by_leaf a leaf both.1 (subst (λ (l : Leaf). IsSurely (known_by others a) l) at (walks.decided a k leaf lt)) agree));
  given = λ j end less. let (k, leaf, lt, at, is) = shown.only j end less in is.consistent;
}
  where
    by_leaf : (a : Assignment) (leaf : Leaf) → ShowsWalk others p a leaf → IsSurely (known_by others a) leaf → Agrees a leaf.answers → EndsBy (answered s a) p leaf.verdict (step_of leaf)
    by_leaf a leaf walked surely agree =
        ends_by (table_of s) sound p s.needs.now others.needs.now spared short a leaf
        (subst (λ (t : Table). walk (resolved others.needs.now a t) p ≡ walked_by (record { needs = others.needs.now; holds = a }) (resolved others.needs.now a t).chains leaf) same walked) surely agree

-- ---- an end for each leaf

pub shown_none : (leaves : List Leaf) (ends : List End) → ends ≡ [] → AreShown (take 0 leaves) ends
shown_none leaves ends none = record { all = All-nil (λ leaf. Any (IsEndOf leaf) ends); only = subst (λ (es : List End). All (λ end. Any (λ leaf. IsEndOf leaf end) (take 0 leaves)) es) (sym none) (All-nil (λ end. Any (λ leaf. IsEndOf leaf end) (take 0 leaves))) }

pub shown_more : (before : List Leaf) (leaf : Leaf) (ends : List End) (end : End) → IsEndOf leaf end → AreShown before ends → AreShown (before ++ leaf ∷ []) (ends ++ end ∷ [])
shown_more before leaf ends end is shown = record {
  all = All-push (λ l. Any (IsEndOf l) more) before leaf (λ k d lt. any_left (IsEndOf (get_or before k d)) ends (end ∷ []) (shown.all k d lt)) (Any-push (IsEndOf leaf) ends end is);
  only = All-push (λ e. Any (λ l. IsEndOf l e) leaves) ends end (λ k d lt. any_left (λ l. IsEndOf l (get_or ends k d)) before (leaf ∷ []) (shown.only k d lt)) (Any-push (λ l. IsEndOf l end) before leaf is);
}
  where
    more : List End
    more = ends ++ end ∷ []

    leaves : List Leaf
    leaves = before ++ leaf ∷ []

-- the ends ask for no other condition, either
pub ends_asked : (needs others : List (List (List Need))) (given : List Answer) (leaves : List Leaf) (ends : List End) → All (λ (leaf : Leaf). AreAsked others given leaf.answers) leaves
    → ((condition : ℕ) → IsNeeded others condition → IsNeeded needs condition) → AreShown leaves ends → All (λ (end : End). AreAsked needs given end.answers) ends
ends_asked needs others given leaves ends asked more shown j end less =
    let (k, leaf, lt, at, is) = shown.only j end less in
    let before : AreAsked others given leaf.answers = subst (λ (l : Leaf). AreAsked others given l.answers) at (asked k leaf lt) in
    let Asked : Answer → Type 0 = λ answer. Contains given answer ⊎ IsNeeded needs answer.condition in
    let all : All Asked leaf.answers = λ i answer within. elim (before i answer within) [
      | inl here ↦ inl here
      | inr needed ↦ inr (more (get_or leaf.answers i answer).condition needed)
    ] in
    subst (All Asked) (sym is.answers) all

-- ---- marks and needs

-- a jump to a marked chain is idle
pub jump_marked : (t : Table) (values : List ℕ) (marks : List Bool) (rule : Rule) (name : List ℕ) (place : ℕ) → AreIdleMarks t values marks → target_of rule ≡ Some (target.Jump name) → position (is_named name) t.chains ≡ Some place
    → IsTrue (get_or marks place false) ↔ IsIdleJump t values rule
jump_marked t values marks rule name place are to at =
    let placed : IsPlaced t name place = placed_at t name place at in
    let each = are.each place placed.within in
    let rules : rules_of t.chains name ≡ (chain_at t place).rules = placed.rules (empty_chain []) in
    (λ marked. (name, to, subst (AreIdle values) (sym rules) (each.0 marked)), λ idle. each.1 (subst (AreIdle values) (subst (λ (n : List ℕ). rules_of t.chains n ≡ (chain_at t place).rules) (name_of idle.0 (sym to ∙ idle.1)) rules) idle.2))
  where
    name_of : (other : List ℕ) → ◌≡◌ {A = Option Target} (Some (target.Jump name)) (Some (target.Jump other)) → name ≡ other
    name_of other e = cc

-- one to a chain that isn't there is, too
pub jump_nowhere : (t : Table) (values : List ℕ) (rule : Rule) (name : List ℕ) → target_of rule ≡ Some (target.Jump name) → position (is_named name) t.chains ≡ None → IsIdleJump t values rule
jump_nowhere t values rule name to none =
    (name, to, subst (AreIdle values) (sym (no_rules t.chains name (any_none (is_named name) t.chains none))) (All-nil (λ (r : Rule). IsTrue (matches values r) → ComesBack (target_of r))))

-- what the rules of a chain need, rule by rule
module _ (t : Table) (values : List ℕ) (needs : List (List (List Need))) where
  abbrev pub IsSparedAt : ℕ → ℕ → List Need → Type 0
  IsSparedAt place passed own = IsSpared t values (get_or (chain_at t place).rules passed empty_rule) (needs_at needs place passed) own

  abbrev pub AreSparedTo : ℕ → List (List Need) → Type 0
  AreSparedTo place lists = (passed : ℕ) → passed < length lists → IsSparedAt place passed (get_or lists passed [])

  pub spared_more : (place : ℕ) (lists more : List (Vec Need Global)) (own : Vec Need Global) → more ≡ lists ++ own ∷ [] → IsSparedAt place (length lists) own.items → AreSparedTo place (map items_in lists) → AreSparedTo place (map items_in more)
  spared_more place lists more own is here before =
      let listed : map items_in more ≡ map items_in lists ++ own.items ∷ [] = ap (map items_in) is ∙ map-append items_in lists (own ∷ []) in
      let last : IsSparedAt place (length (map items_in lists)) own.items = subst (λ (k : ℕ). IsSparedAt place k own.items) (sym (length-map lists items_in)) here in
      subst (AreSparedTo place) (sym listed) (each_pushed (IsSparedAt place) (map items_in lists) own.items [] before last)

  -- chain by chain
  abbrev pub AreSparedBelow : List (List (List Need)) → Type 0
  AreSparedBelow chains = (place : ℕ) → place < length chains → AreSparedIn t values needs place (get_or chains place [])

  pub chains_more : (chains more : List (Vec (Vec Need Global) Global)) (own : Vec (Vec Need Global) Global) → more ≡ chains ++ own ∷ [] → AreSparedIn t values needs (length chains) (map items_in own.items) → AreSparedBelow (listed chains) → AreSparedBelow (listed more)
  chains_more chains more own is here before =
      let lists : Vec (Vec Need Global) Global → List (List Need) = λ chain. map items_in chain.items in
      let all : listed more ≡ listed chains ++ lists own ∷ [] = ap listed is ∙ map-append lists chains (own ∷ []) in
      let last : AreSparedIn t values needs (length (listed chains)) (lists own) = subst (λ (k : ℕ). AreSparedIn t values needs k (lists own)) (sym (length-map chains lists)) here in
      subst AreSparedBelow (sym all) (each_pushed (AreSparedIn t values needs) (listed chains) (lists own) [] before last)

  -- all of them
  pub spared_all : (chains : List (List (List Need))) → length chains ≡ length t.chains → AreSparedBelow chains → AreSpared t values needs chains
  spared_all chains long each place passed there within =
      let own = each place (omega (arith, there, long)) in
      own.each passed (omega (arith, within, own.long))

  -- no other condition is asked
  pub asked_before : (chains : List (List (List Need))) → AreSparedBelow chains → (condition : ℕ) → IsNeeded chains condition → IsNeeded needs condition
  asked_before chains each condition (place, passed, asks) =
      elim (cases_lt place (length chains)) [
        | inr past ↦ absurd (none_asks (ap (λ (lists : List (List Need)). get_or lists passed []) (get_or_past chains place [] past)) asks)
        | inl there ↦ (
            let own = each place there in
            elim (cases_lt passed (length (get_or chains place []))) [
              | inr past ↦ absurd (none_asks (get_or_past (get_or chains place []) passed [] past) asks)
              | inl within ↦ elim (own.each passed within) [
                | inl same ↦ (place, passed, subst (AsksFor condition) same.0 asks)
                | inr idle ↦ (place, passed, idle.2 condition asks)
              ]
            ])
      ]
    where
      none_asks : {own : List Need} → own ≡ [] → AsksFor condition own → ⊥
      none_asks none asks = let (k, need, lt, at, is) = subst (AsksFor condition) none asks in absurd (omega (arith, lt))

-- what is never met asks for the condition of the first need
pub asks_first : (needs : List Need) (need : Need) (condition : ℕ) → Contains needs need → AsksFor condition (need ∷ record { condition = need.condition; inverted = not need.inverted } ∷ []) → AsksFor condition needs
asks_first needs need condition (j, less, here) (k, other, lt, is, at) = (j, need, less, here, by_place k lt is)
  where
    pair : List Need
    pair = need ∷ record { condition = need.condition; inverted = not need.inverted } ∷ []

    by_place : (k : ℕ) → k < length pair → get_or pair k other ≡ other → need.condition ≡ condition
    by_place zero lt is = ap (λ (n : Need). n.condition) is ∙ at
    by_place (suc zero) lt is = ap (λ (n : Need). n.condition) is ∙ at
    by_place (suc (suc k)) lt is = absurd (omega (arith, lt))
