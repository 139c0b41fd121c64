-- What becomes of the packets of a box at a rule and at the rules ahead of it in a chain.
use Rattle.std.proofs.Common.{◌≡◌, ◌⊎◌, inl, inr, ℕ, zero, suc, ◌+◌, ◌-◌, ◌<◌, ◌≤◌, false, List, [], ◌∷◌, ◌++◌, length, refl, sym, ◌∙◌, ap, arith, subst, Option, Some, None, get_or, Vec, Global, true, IsTrue, slice_get, IsFalse, true≢false}
use Rattle.std.proofs.lemmas.Bool.{cases_lt, cases_Bool}
use Rattle.std.proofs.lemmas.List.{get_or_default}
use Rattle.std.proofs.lemmas.List.Elements.{Contains-get_or, Contains-push}
use Rattle.std.proofs.lemmas.Option.{slice_get-get_or, get_or_from_slice_get}
use Rattle.rules.specs.rule.Allows.{matches}
use Rattle.rules.specs.rule.Rules.{Rule, empty_rule}
use Rattle.table.specs.chains.Table.{Chain, Table, rules_of, chain_at, empty_chain}
use Rattle.table.specs.walk.Cases.{Stage, Under, on_by}
use Rattle.table.specs.walk.Walk.{Rest, Entry, GoesOn, Next, after_match}
use Rattle.fields.specs.numbers.Spans.{SpanSet}
use Rattle.fields.specs.Packet.{PacketView as Packet}
use Rattle.table.specs.chains.Sound.{IsSound}
use Rattle.table.specs.declared.walk.trail.Step.{Step}
use Rattle.table.proofs.laws.chains.KeepLaws.{rules_by_name}
use Rattle.rules.specs.declared.rule.target.Target.{Target}
use Rattle.rules.specs.rule.Actions.{target_of}
use Rattle.table.specs.declared.verdict.Verdict.{Verdict}
use Rattle.rules.specs.declared.rule.target.Target.TheVariants as target
use Rattle.questions.specs.steps.Straying.{NoneMatches, PassesAtOnce, IsApartIn, Stays, CanFollow}
use Rattle.questions.specs.steps.Waiting.{Reaches, IsThere, rest_of, rule_ahead, WaitsIn, rests_of, Moves, PassesOver, behind, entry_before}
use Rattle.questions.specs.Foreign.{Assignment, needs_at, resolved, Agrees, all_hold, never}
use Rattle.questions.specs.Leaves.{name_at}
use Rattle.questions.specs.boxes.Boxes.{IsAtHook, IsIn}
use Rattle.questions.specs.declared.foreign.need.Need.{Need}
use Rattle.questions.specs.declared.walking.scope.Scope.{Scope}
use Rattle.questions.specs.declared.walking.task.Pending.{Pending}
use Rattle.questions.specs.Scopes.{Known, entries_by, answered, is_met, known_by, table_of, under}
use Rattle.questions.specs.declared.walking.task.Task.{Task}
use Rattle.questions.specs.boxes.Cut.{IsApart, IsCut, IsPartedFor, MatchesAll}
use Rattle.questions.specs.declared.foreign.answers.Answer.{Answer}
use Rattle.questions.specs.declared.foreign.subject.Subject.{Subject}
use Rattle.questions.specs.declared.walking.front.Front.{Front}
use Rattle.questions.proofs.laws.AreaLaws.{none_in, whole_cut}
use Rattle.questions.proofs.laws.WaitLaws.{reaches_more, rests_push, apart_moves, cut_moves, cut_parts, handed_moves, keeps_all, moves_same, never_parts, only_one, parted_moves, wrong_moves, wrong_passes}
use Rattle.questions.proofs.laws.ForeignLaws.{left_sound}
use Rattle.questions.proofs.laws.ResolvedLaws.{resolved_apart, rule_left, there_left, passed_left, rule_goes, rule_stays, never_apart, never_matches}
use Rattle.questions.proofs.laws.TrailLaws.{few_entries, held_trail, missed_trail, step_before}

-- ---- Rules ahead of a walk in a chain that are passed at once.

-- a place of a list has an element, or is past its end
here_or_past : (rules : List Rule) (k : ℕ) → k < length rules → (rule : Rule) × (slice_get rules k ≡ Some rule)
here_or_past rules k lt = (_, slice_get-get_or rules k empty_rule lt)

-- ---- rules that don't match

passes_some : (t : Table) (p : Packet) (chain : List ℕ) (waiting : List Rest) (trail : List Entry) (n : ℕ) (passed : ℕ) → passed + n ≤ length (rules_of t.chains chain)
    → NoneMatches t.chains p.values (record { chain = chain; passed = passed }) (passed + n) → Reaches t p (Under (record { chain = chain; passed = passed } ∷ waiting) trail)
    → Reaches t p (Under (record { chain = chain; passed = passed + n } ∷ waiting) trail)
passes_some t p chain waiting trail zero passed le none r =
    let to : ℕ → Stage = λ k. Under (record { chain = chain; passed = k } ∷ waiting) trail in
    let P : ℕ → Type 0 = λ k. Reaches t p (to k) in
    subst P (omega arith) r
passes_some t p chain waiting trail (suc n) passed le none r =
    let to : ℕ → Stage = λ k. Under (record { chain = chain; passed = k } ∷ waiting) trail in
    let P : ℕ → Type 0 = λ k. Reaches t p (to k) in
    let next = here_or_past (rules_of t.chains chain) passed (omega (arith, le)) in
    let step : Reaches t p (to (passed + 1)) = reaches_more t p (to passed) (to (passed + 1)) r (inl (next.0, next.1, none passed next.0 (omega arith) (omega arith) next.1, refl)) in
    subst P (omega arith) (passes_some t p chain waiting trail n (passed + 1) (omega (arith, le)) (λ k rule low high at. none k rule (omega (arith, low)) (omega (arith, high)) at) step)

pub passes_at_once : PassesAtOnce
passes_at_once t p rest place waiting trail low high none r =
    let n : ℕ = place - rest.passed in
    let e : rest.passed + n ≡ place = omega (arith, low) in
    let to : ℕ → Stage = λ k. Under (record { chain = rest.chain; passed = k } ∷ waiting) trail in
    rw e at (passes_some t p rest.chain waiting trail n rest.passed (omega (arith, e, high)) (λ k rule lo hi at. none k rule lo (omega (arith, e, hi)) at) r)

-- ---- the next rule

-- a rule that was asked for is the next one
pub rule_here : (t : Table) (at : Pending) (rule : Rule) → at.passed < length (chain_at t at.chain).rules → rule ≡ get_or (chain_at t at.chain).rules (at.passed + 1 - 1) rule → rule ≡ rule_ahead t at
rule_here t at rule lt is =
    is ∙ ap (λ j. get_or (chain_at t at.chain).rules j rule) (omega arith) ∙ get_or_default (chain_at t at.chain).rules at.passed rule empty_rule lt

-- rules of a chain, once it is known which conditions hold
module _ (needs : List (List (List Need))) (a : Assignment) (t : Table) (at : Pending) (sound : IsSound t) (there : IsThere t.chains at) where
  abbrev left : Table
  left = resolved needs a t

  abbrev own : List Rule
  own = (chain_at left at.chain).rules

  abbrev next : ℕ → Pending
  next k = record { chain = at.chain; passed = k }

  same : rules_of left.chains (name_at left.chains at.chain) ≡ own
  same = rules_by_name left (chain_at left at.chain) (left_sound needs a t sound) (Contains-get_or left.chains at.chain (empty_chain []) (there_left needs a t at.chain there))

  -- one that matches none of two boxes still matches none
  pub still_apart : (start box : List SpanSet) (k : ℕ) → k < length (chain_at t at.chain).rules → IsApartIn (rule_ahead t (next k)) start box → IsApartIn (rule_ahead left (next k)) start box
  still_apart start box k within apart = λ numbers point first has.
      (let P : Rule → Type 0 = λ r. matches numbers r ≡ false in
      subst P (sym (rule_left needs a t at.chain k there within empty_rule)) (resolved_apart a (needs_at needs at.chain k) (rule_ahead t (next k)) numbers (apart numbers point first has)))

-- what holds from a place up to another one, and there
pub below_next : (P : ℕ → Type 0) (low n : ℕ) → ((k : ℕ) → low ≤ k → k < n → P k) → P n → (k : ℕ) → low ≤ k → k < n + 1 → P k
below_next P low n below here k lo hi = elim (cases_lt k n) [ inl lt ↦ below k lo lt | inr le ↦ subst P (omega (arith, le, hi)) here ]

-- and up to the next one, where it holds in between
pub past_next : (P : ℕ → Type 0) (low n next : ℕ) → ((k : ℕ) → low ≤ k → k < n + 1 → P k) → ((k : ℕ) → n + 1 ≤ k → k < next → P k) → (k : ℕ) → low ≤ k → k < next → P k
past_next P low n next below between k lo hi = elim (cases_lt k (n + 1)) [ inl lt ↦ below k lo lt | inr le ↦ between k le hi ]

-- ---- the newest rest

under_rest : (cs : List Chain) (rests init : List Pending) (at : Pending) (es : List Entry) → rests ≡ init ++ at ∷ [] → Under (rests_of cs rests) es ≡ Under (rest_of cs at ∷ rests_of cs init) es
under_rest cs rests init at es e = ap (λ (rs : List Rest). Under rs es) (ap (rests_of cs) e ∙ rests_push cs init at)

-- the newest rest goes on to a rule, past others that match no packet that the task's box and another one have
pub advances : (t : Table) (known : Known) (start : List SpanSet) (p : Packet) (sound : IsSound t) (task next : Task) (init : List Pending) (at : Pending) (passed : ℕ) → IsThere t.chains at → IsAtHook p → IsIn start p → task.rests.items ≡ init ++ at ∷ []
    → next.rests.items ≡ init ++ record { chain = at.chain; passed = passed } ∷ [] → next.scope ≡ task.scope → next.trail ≡ task.trail → at.passed ≤ passed → (passed ≡ at.passed) ⊎ (passed ≤ length (chain_at t at.chain).rules)
    → ((k : ℕ) → at.passed ≤ k → k < passed → IsApartIn (rule_ahead t (record { chain = at.chain; passed = k })) start task.scope.area) → WaitsIn t known p task → WaitsIn t known p next
advances t known start p sound task next init at passed there can inside before after scope trail low high none waits =
    let own : List Rule = (chain_at t at.chain).rules in
    let same : rules_of t.chains (name_at t.chains at.chain) ≡ own = rules_by_name t (chain_at t at.chain) sound (Contains-get_or t.chains at.chain (empty_chain []) there) in
    let es : List Entry = entries_by known t.chains task.trail.items in
    let apart : (k : ℕ) (rule : Rule) → at.passed ≤ k → k < passed → slice_get (rules_of t.chains (name_at t.chains at.chain)) k ≡ Some rule → IsFalse (matches p.values rule) =
    λ k rule lo hi found.
    (let is : get_or own k empty_rule ≡ rule = get_or_from_slice_get own k rule empty_rule (sym (ap (λ (rs : List Rule). slice_get rs k) same) ∙ found) in
    rw is at (none k lo hi p.values can.packet.within inside waits.own.inside)) in
    let moved : Reaches t p (Under (rest_of t.chains (record { chain = at.chain; passed = passed }) ∷ rests_of t.chains init) es) =
    (let stands : Reaches t p (Under (rest_of t.chains at ∷ rests_of t.chains init) es) = rw (under_rest t.chains task.rests.items init at es before) at waits.reaches in
    elim high [
      | inl still ↦
          (let S : ℕ → Type 0 = λ j. Reaches t p (Under (rest_of t.chains (record { chain = at.chain; passed = j }) ∷ rests_of t.chains init) es) in
          subst S (sym still) stands)
      | inr le ↦ passes_at_once t p (rest_of t.chains at) passed (rests_of t.chains init) es low (omega (arith, le, ap (λ (rs : List Rule). length rs) same)) apart stands
    ]) in
    let there_now : Reaches t p (Under (rests_of t.chains next.rests.items) es) = rw (← under_rest t.chains next.rests.items init (record { chain = at.chain; passed = passed }) es after) at moved in
    record {
      own = rw (← scope) at waits.own;
      reaches = rw (ap (λ (steps : List Step). Under (rests_of t.chains next.rests.items) (entries_by known t.chains steps)) (sym (ap items_of trail))) at there_now;
    }
  where
    items_of : Vec Step Global → List Step
    items_of v = v.items

pub high_left : (at passed count left : ℕ) → left ≡ count → (passed ≡ at) ⊎ (passed ≤ count) → (passed ≡ at) ⊎ (passed ≤ left)
high_left at passed count left same (inl is) = inl is
high_left at passed count left same (inr le) = inr (omega (arith, le, same))

-- ---- What becomes of the packets of a box at a rule, once it is known which conditions hold.

-- ---- targets that leave a packet where it is

stays_or_not : (to : Option Target) → Stays to ⊎ (Stays to → ⊥)
stays_or_not None = inl tt
stays_or_not (Some target.Log) = inl tt
stays_or_not (Some target.Accept) = inr (λ x. x)
stays_or_not (Some target.Drop) = inr (λ x. x)
stays_or_not (Some (target.Reject kind)) = inr (λ x. x)
stays_or_not (Some target.Return) = inr (λ x. x)
stays_or_not (Some (target.Jump name)) = inr (λ x. x)
stays_or_not (Some (target.Goto name)) = inr (λ x. x)

stays_there : (to : Option Target) (own : Rest) (waiting : List Rest) → Stays to → after_match to own waiting ≡ GoesOn (own ∷ waiting)
stays_there None own waiting stays = refl
stays_there (Some target.Log) own waiting stays = refl
stays_there (Some target.Accept) own waiting stays = absurd stays
stays_there (Some target.Drop) own waiting stays = absurd stays
stays_there (Some (target.Reject kind)) own waiting stays = absurd stays
stays_there (Some target.Return) own waiting stays = absurd stays
stays_there (Some (target.Jump name)) own waiting stays = absurd stays
stays_there (Some (target.Goto name)) own waiting stays = absurd stays

-- where it is another one, what holds unless it leaves a packet where it is holds
pub not_staying : {P : Type 0} (target to : Option Target) → target ≡ to → (Stays to → ⊥) → P ⊎ Stays target → P
not_staying target to is leads (inl h) = h
not_staying target to is leads (inr stays) = absurd (leads (subst Stays is stays))

-- ---- one box that goes on

one_passes : (t : Table) (known : Known) (policy : Verdict) (box : List SpanSet) (answers : List Answer) (stage : Stage) (old new : Front) → Moves t known policy (under box answers) stage old new → PassesOver t known policy (box ∷ []) answers stage old new
one_passes t known policy box answers stage old new h = record {
  passed = λ p asked some reaches. h.moved p asked (record { own = record { inside = only_one box p.values some.inside; agrees = some.agrees }; reaches = reaches });
  fits = λ start p asked fit. h.fits start p asked (λ of. fit (record { inside = (box, Contains-push [] box, of.inside); agrees = of.agrees }));
  keeps = h.keeps;
}

-- no box does
none_passes : (t : Table) (known : Known) (policy : Verdict) (answers : List Answer) (stage : Stage) (front : Front) → PassesOver t known policy [] answers stage front front
none_passes t known policy answers stage front = record {
  passed = λ p asked some reaches. absurd (none_in [] p.values refl some.inside);
  fits = λ start p asked fit before. before;
  keeps = keeps_all t known front;
}

-- ---- a rule that is followed

-- its step is met if all holds that it needs
met_is : (s : Subject) (a : Assignment) (at : Pending) → is_met (known_by s a) (step_before (behind at)) ≡ all_hold a (needs_at s.needs.now at.chain at.passed)
met_is s a at = ap (λ (k : ℕ). all_hold a (needs_at s.needs.now at.chain k)) (omega arith)

-- where the answers are right, that is so of one that can be followed, unless its target leaves a packet where it is
pub met_or_stays : (s : Subject) (a : Assignment) (at : Pending) (answers : List Answer) (to : Option Target) → CanFollow (needs_at s.needs.now at.chain at.passed) answers to → Agrees a answers
    → IsTrue (is_met (known_by s a) (step_before (behind at))) ⊎ Stays to
met_or_stays s a at answers to can agrees = elim (can a agrees) [ inl held ↦ inl (met_is s a at ∙ held) | inr stays ↦ inr stays ]

-- ---- a rule that is tested

module _ (s : Subject) (a : Assignment) (sound : IsSound (table_of s)) (policy : Verdict) (at : Pending) (there : IsThere (table_of s).chains at) (rule : Rule) (passed : at.passed < length (chain_at (table_of s) at.chain).rules) (is : rule ≡ get_or (chain_at (table_of s) at.chain).rules (at.passed + 1 - 1) rule)
    (waiting : List Rest) (trail : List Step) where
  abbrev t : Table
  t = answered s a

  abbrev known : Known
  known = known_by s a

  abbrev needs : List Need
  needs = needs_at s.needs.now at.chain at.passed

  abbrev es : List Entry
  es = entries_by known t.chains trail

  abbrev here : Stage
  here = Under (rest_of t.chains at ∷ waiting) es

  abbrev after : Stage
  after = Under (rest_of t.chains (behind at) ∷ waiting) es

  still : IsSound t
  still = left_sound s.needs.now a (table_of s) sound

  at_left : IsThere t.chains at
  at_left = there_left s.needs.now a (table_of s) at.chain there

  few : at.passed < length (chain_at t at.chain).rules
  few = passed_left s.needs.now a (table_of s) at.chain at.passed there passed

  stays : all_hold a needs ≡ true → rule ≡ get_or (chain_at t at.chain).rules (at.passed + 1 - 1) rule
  stays h = rule_stays s.needs.now a (table_of s) at.chain at.passed there passed rule is h

  goes : all_hold a needs ≡ false → never ≡ get_or (chain_at t at.chain).rules (at.passed + 1 - 1) never
  goes h = rule_goes s.needs.now a (table_of s) at.chain at.passed there passed h

  -- it matches none of the box
  pub apart_on : (scope : Scope) (old new : Front) → IsApart rule scope.area → Moves t known policy scope after old new → Moves t known policy scope here old new
  apart_on scope old new apart h =
      elim (cases_Bool (all_hold a needs)) [
        | inl held ↦ apart_moves t known still policy at at_left rule few (stays held) waiting es scope old new apart h
        | inr un ↦ apart_moves t known still policy at at_left never few (goes un) waiting es scope old new (never_apart scope.area) h
      ]

  -- something that it needs fails
  pub passed_on : (scope : Scope) (old new : Front) → ((other : Assignment) → Agrees other scope.answers → all_hold other needs ≡ false) → Moves t known policy scope after old new → Moves t known policy scope here old new
  passed_on scope old new fails h =
      elim (cases_Bool (all_hold a needs)) [
        | inl held ↦ (let wrong : Agrees a scope.answers → ⊥ = λ agrees. true≢false (sym held ∙ fails a agrees) in wrong_moves t known policy scope scope here after old new wrong wrong h)
        | inr un ↦ apart_moves t known still policy at at_left never few (goes un) waiting es scope old new (never_apart scope.area) h
      ]

  -- parts are tested again
  pub parted_on : (box : List SpanSet) (answers : List Answer) (again outside : List (List SpanSet)) (old mid new : Front) → IsPartedFor rule box again outside → PassesOver t known policy outside answers after old mid
      → PassesOver t known policy again answers here mid new → Moves t known policy (under box answers) here old new
  parted_on box answers again outside old mid new parted over once =
      elim (cases_Bool (all_hold a needs)) [
        | inl held ↦ parted_moves t known still policy at at_left rule few (stays held) waiting es box answers again outside old mid new parted over once
        | inr un ↦ parted_moves t known still policy at at_left never few (goes un) waiting es box answers again outside old mid new (never_parts rule box again outside parted) over once
      ]

  -- the part that it would match is tested again
  pub split_on : (box inside : List SpanSet) (answers : List Answer) (outside : List (List SpanSet)) (old mid new : Front) → IsCut rule box inside outside → PassesOver t known policy outside answers after old mid
      → Moves t known policy (under inside answers) here mid new → Moves t known policy (under box answers) here old new
  split_on box inside answers outside old mid new cut over h =
      parted_on box answers (inside ∷ []) outside old mid new (cut_parts rule box inside outside cut) over (one_passes t known policy inside answers here mid new h)

  -- the part that it would match follows its target
  abbrev followed : Stage
  followed = on_by (after_match (target_of rule) (rest_of t.chains (behind at)) waiting) (entries_by known t.chains (trail ++ step_before (behind at) ∷ []))

  hands : (box inside : List SpanSet) (answers : List Answer) (outside : List (List SpanSet)) (old mid new : Front) → IsCut rule box inside outside → all_hold a needs ≡ false → Stays (target_of rule) → PassesOver t known policy outside answers after old mid
      → Moves t known policy (under inside answers) followed mid new → Moves t known policy (under box answers) here old new
  hands box inside answers outside old mid new cut un stays over h =
      let to : followed ≡ after =
      ap (λ (next : Next). on_by next (entries_by known t.chains (trail ++ step_before (behind at) ∷ []))) (stays_there (target_of rule) (rest_of t.chains (behind at)) waiting stays)
      ∙ ap (λ (entries : List Entry). Under (rest_of t.chains (behind at) ∷ waiting) entries) (missed_trail known t.chains trail (behind at) (met_is s a at ∙ un)) in
      handed_moves t known still policy at at_left never few (goes un) waiting es box inside answers outside old mid new never_matches (never_parts rule box (inside ∷ []) outside (cut_parts rule box inside outside cut)) over
      (moves_same t known policy (under inside answers) mid new followed after to h)

  pub followed_on : (box inside : List SpanSet) (answers : List Answer) (outside : List (List SpanSet)) (old mid new : Front) → IsCut rule box inside outside → CanFollow needs answers (target_of rule) → length trail < 65536
      → PassesOver t known policy outside answers after old mid → Moves t known policy (under inside answers) followed mid new → Moves t known policy (under box answers) here old new
  followed_on box inside answers outside old mid new cut can room over h =
      elim (cases_Bool (all_hold a needs)) [
        | inl held ↦ cut_moves t known still policy at at_left rule few (stays held) waiting es box inside answers outside old mid new cut (omega (arith, room, few_entries known t.chains trail)) over
            (moves_same t known policy (under inside answers) mid new followed (on_by (after_match (target_of rule) (rest_of t.chains (behind at)) waiting) (es ++ entry_before t.chains (behind at) ∷ []))
            (ap (λ (entries : List Entry). on_by (after_match (target_of rule) (rest_of t.chains (behind at)) waiting) entries) (held_trail known t.chains trail (behind at) (met_is s a at ∙ held))) h)
        | inr un ↦ elim (stays_or_not (target_of rule)) [
          | inl there ↦ hands box inside answers outside old mid new cut un there over h
          | inr leads ↦ (
              let wrong : Agrees a answers → ⊥ = λ agrees. elim (can a agrees) [ inl held ↦ true≢false (sym held ∙ un) | inr there ↦ leads there ] in
              wrong_passes t known policy (under box answers) (under inside answers) outside here after followed old mid new wrong wrong over h)
        ]
      ]

  -- a rule that matches all of the box is followed by it
  pub followed_all : (box : List SpanSet) (answers : List Answer) (old new : Front) → MatchesAll rule box → CanFollow needs answers (target_of rule) → length trail < 65536
      → Moves t known policy (under box answers) followed old new → Moves t known policy (under box answers) here old new
  followed_all box answers old new all can room h =
      followed_on box box answers [] old old new (whole_cut rule box all) can room (none_passes t known policy answers after old) h
