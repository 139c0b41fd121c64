-- Two tables compared: what they have in common, and the rules in which they differ.
use Rattle.std.proofs.Common.{◌≡◌, inl, inr, ℕ, ◌+◌, ◌<◌, ◌≤◌, get_or, arith, subst, List, [], sym, ◌∙◌, ap, All, ◌⊎◌, ◌≢◌, Bool, true, Contains, Any, IsFalse, true≢false}
use Rattle.questions.proofs.laws.DifferLaws.{some_or_all}
use Rattle.std.proofs.lemmas.Bool.{cases_lt, cases_Bool}
use Rattle.std.proofs.lemmas.List.{get_or_default}
use Rattle.std.proofs.lemmas.List.Elements.{All-contains, Contains-get_or}
use Rattle.fields.specs.declared.packet.hook.Hook.{Hook}
use Rattle.fields.specs.declared.packet.hook.Hook.TheVariants.{Input, Forward, Output}
use Rattle.fields.specs.Hook.{all_hooks}
use Rattle.table.specs.declared.walk.trail.Step.{Step}
use Rattle.table.specs.walk.Walk.{Walked, Entry, end_verdict, walk}
use Rattle.table.specs.chains.Table.{Table}
use Rattle.fields.specs.Packet.{PacketView as Packet}
use Rattle.rules.specs.rule.Allows.{matches}
use Rattle.table.specs.declared.verdict.Verdict.TheVariants.{TooLong}
use Rattle.questions.specs.Ends.{IsRule, rule_at}
use Rattle.questions.specs.Foreign.{AreConsistent, Assignment}
use Rattle.questions.specs.asked.Verdicts.{IsOtherAt, IsSameAt, IsAlike}
use Rattle.questions.specs.Scopes.{AreExactUnder, AreLeavesUnder, IsOf, ShowsUnder, answered, known_by, scope_of, table_of, whole_of, Whole}
use Rattle.questions.specs.asked.Alike.{HoldsWith, IsAlwaysSettled, IsGivenBy, IsOfOther, IsSameOn, SaysIf, IsAlwaysSameAt}
use Rattle.questions.specs.asked.Differing.{IsUnclearIf, MayDiffer, IsOfRule, MayDifferOn}
use Rattle.questions.specs.boxes.Boxes.{IsAtHook, IsBoth}
use Rattle.questions.specs.declared.asked.likeness.Likeness.{Likeness}
use Rattle.questions.specs.declared.asked.other.Shown.{Shown}
use Rattle.questions.specs.declared.foreign.answers.Answer.{Answer}
use Rattle.questions.specs.declared.foreign.subject.Subject.{Subject}
use Rattle.questions.specs.declared.walking.scope.Scope.{Scope}
use Rattle.questions.specs.declared.walking.task.Leaf.{Leaf}
use Rattle.questions.specs.steps.Answered.{MeetsNever}
use Rattle.questions.specs.steps.Compared.{AreWalked, IsSettled, MayDifferOf}
use Rattle.questions.specs.steps.Takers.{IsScopeAt, needs_of, IsMatchedAt}
use Rattle.questions.specs.asked.Changes.{AreChanges, AreChangesUnder, AreThese, IsUntouched}
use Rattle.questions.specs.declared.asked.changes.Changes.{Changes}
use Rattle.questions.specs.Leaves.{entry_of}
use Rattle.questions.specs.declared.asked.likeness.Likeness.TheVariants as likeness
use Rattle.questions.proofs.laws.PacketLaws.{written_at_hooks}
use Rattle.questions.proofs.laws.PlainLaws.{gives_none}
use Rattle.questions.proofs.laws.ResolvedLaws.{held_before, matched_before, entry_left, rule_back, rule_left_there}
use Rattle.questions.proofs.laws.ElsewhereLaws.{off_the_walk}
use Rattle.questions.proofs.laws.SharedLaws.{are_off, matches_none}

-- ---- What is said of each hook is said of all.

pub each_hook : (P : Hook → Type 0) (n : ℕ) → 3 ≤ n → ((k : ℕ) (h : Hook) → k < n → P (get_or all_hooks k h)) → (h : Hook) → P h
each_hook P n le each Input = each 0 Input (omega (arith, le))
each_hook P n le each Forward = each 1 Forward (omega (arith, le))
each_hook P n le each Output = each 2 Output (omega (arith, le))

-- hook after hook
pub hooks_next : (P : Hook → Type 0) (n : ℕ) → n < 3 → P (get_or all_hooks n Input) → ((k : ℕ) (h : Hook) → k < n → P (get_or all_hooks k h)) → (k : ℕ) (h : Hook) → k < n + 1 → P (get_or all_hooks k h)
hooks_next P n lt here below k h less =
    elim (cases_lt k n) [
      | inl before ↦ below k h before
      | inr past ↦ (
          let same : n ≡ k = omega (arith, less, past) in
          rw same at (subst P (get_or_default all_hooks n Input h (omega (arith, lt))) here))
    ]

-- ---- What two tables have in common, whatever holds that their rules need.

-- exact leaves give their verdicts
pub given_all : (s : Subject) (hook : Hook) (start : Scope) (found : List Leaf) → ((a : Assignment) → AreExactUnder (answered s a) (known_by s a) hook start found) → All (IsGivenBy s hook) found
given_all s hook start found exact k d lt a p can there own = ap (λ (w : Walked). w.verdict) (exact a p can there k d lt own).1

-- a packet of a leaf gets the verdict that all leaves have in which its packets are
pub given_in : (new : Subject) (hook : Hook) (leaf : Leaf) (found : List Leaf) → AreWalked (whole_of new) hook (scope_of leaf) found → All (λ other. other.verdict ≡ leaf.verdict) found → IsGivenBy new hook leaf
given_in new hook leaf found walked alike a p can there own =
    let (k, other, lt, is, ends) = walked.leaves a p can there own in
    ap (λ (w : Walked). w.verdict) ends.walked ∙ All-contains (λ (o : Leaf). o.verdict ≡ leaf.verdict) found other alike (k, lt, is)

-- a packet that a line writes, of a leaf there with another verdict, gets two verdicts
pub other_in : (old new : Subject) (hook : Hook) (leaf : Leaf) (start : Scope) (found : List Leaf) (shown : Shown) → IsBoth leaf.area leaf.area start.area → start.answers ≡ leaf.answers → IsGivenBy old hook leaf
    → ((a : Assignment) → AreExactUnder (answered new a) (known_by new a) hook start found) → IsOfOther hook leaf.verdict found shown → HoldsWith shown.answers (λ a. IsOtherAt (answered old a) (answered new a) hook shown.words)
other_in old new hook leaf start found shown copy same given exact (k, other, lt, is, (differs, answers, (p, sample))) =
    record {
      consistent = (let C : List Answer → Type 0 = λ l. AreConsistent l in subst C (sym answers) other.consistent);
      each = rw answers (λ a agrees.
          let can : IsAtHook p = written_at_hooks shown.words p sample.writes in
          let shows : ShowsUnder (answered new a) (known_by new a) start p other = All-contains (ShowsUnder (answered new a) (known_by new a) start p) found other (exact a p can sample.there) (k, lt, is) in
          let (own, walked) = shows (record { inside = sample.inside; agrees = agrees }) in
          let before : IsOf (known_by old a) p (scope_of leaf) = record { inside = copy.first p.values can.packet.within own.inside; agrees = rw same at own.agrees } in
          (p, sample.writes, sample.there, λ one. differs (sym (ap (λ (w : Walked). w.verdict) walked) ∙ sym one ∙ given a p can sample.there before)));
    }

-- each packet of a scope is in some leaf of the first table; where both tables give the leaf's verdict, they give the same one
pub same_on : (old new : Subject) (hook : Hook) (start : Scope) (found : List Leaf) → ((a : Assignment) → AreLeavesUnder (answered old a) (known_by old a) hook start found) → All (IsGivenBy new hook) found → IsSameOn old new hook start
same_on old new hook start found cover given a p can there own =
    let (k, leaf, lt, is, ends) = cover a p can there own in
    let of : IsOf (known_by new a) p (scope_of leaf) = record { inside = ends.own.inside; agrees = ends.own.agrees } in
    ap (λ (w : Walked). w.verdict) ends.walked ∙ sym (All-contains (IsGivenBy new hook) found leaf given (k, lt, is) a p can there of)

-- ---- one answer for another

-- what is said with one fact for "the same" is said with any that follows from it
pub said_as : (P Q : Type 0) (old new : Subject) (hook : Hook) (said : Likeness) → (P → Q) → SaysIf P old new hook said → SaysIf Q old new hook said
said_as P Q old new hook likeness.Same f h = f h
said_as P Q old new hook (likeness.Differ words answers) f h = h
said_as P Q old new hook likeness.Unclear f h = tt

-- so is where alone it may be unclear
pub unclear_as : (P Q : Type 0) (said : Likeness) → (P → Q) → IsUnclearIf P said → IsUnclearIf Q said
unclear_as P Q likeness.Same f h = tt
unclear_as P Q (likeness.Differ words answers) f h = tt
unclear_as P Q likeness.Unclear f h = f h

-- ---- the packets that a rule matches

-- where the packets of its scope get the same verdict, those that it matches do
pub settled_on : (own old new : Subject) (hook : Hook) (step : Step) (scope : Scope) → IsRule (table_of own) step → IsScopeAt (table_of own) own.needs.now step hook scope → IsSameOn old new hook scope → IsAlwaysSettled own old new hook step
settled_on own old new hook step scope is (given, boxed, same, meets) on a =
    inl (λ p at.
    let before : IsMatchedAt (table_of own) step hook p = matched_before own.needs.now a (table_of own) step hook p is at in
    on a p at.can at.there (record { inside = rw same at (boxed.all p before); agrees = meets.all a (gives_none a) (held_before own.needs.now a (table_of own) step hook p is at) }))

-- where no assignment meets what it needs, it matches none
pub settled_never : (own old new : Subject) (hook : Hook) (step : Step) → IsRule (table_of own) step → MeetsNever (needs_of own.needs.now step) [] → IsAlwaysSettled own old new hook step
settled_never own old new hook step is never a =
    inl (λ p at. absurd (true≢false (sym (held_before own.needs.now a (table_of own) step hook p is at) ∙ never a (gives_none a))))

-- ---- Two tables compared by the rules in which they differ.

-- some of the rules matches the packet, or none does
some_or_none : (t : Table) (p : Packet) (steps : List Step) → ((step : Step) × Contains steps step × (matches p.values (rule_at t step) ≡ true)) ⊎ ((step : Step) → Contains steps step → IsFalse (matches p.values (rule_at t step)))
some_or_none t p steps =
    let Un : Step → Type 0 = λ step. IsFalse (matches p.values (rule_at t step)) in
    elim (some_or_all (λ step. matches p.values (rule_at t step) ≡ true) Un steps (λ k d lt. cases_Bool (matches p.values (rule_at t (get_or steps k d))))) [
      | inl (k, step, lt, is, on) ↦ inl (step, (k, lt, is), on)
      | inr none ↦ inr (λ step c. All-contains Un steps step none c)
    ]

-- the rule is off the packet's walk if it matches the packet
abbrev OffIf : Table → Packet → Step → Type 0
OffIf t p step = matches p.values (rule_at t step) ≡ true → Contains (walk t p).trail (entry_of t.chains step) → ⊥

-- by what is said of some rules of a table, it gives the packet the same verdict as the other table, or none of them touches the packet
settled : (t old new : Table) (these : Entry → Bool) (hook : Hook) (steps : List Step) (p : Packet) → AreThese t these steps → All (IsSettled t old new hook) steps → IsAtHook p → p.hook ≡ hook → IsAlike old new p ⊎ IsUntouched t these p
settled t old new these hook steps p are all can there =
    elim (some_or_none t p steps) [
      | inr none ↦ inr (inl (matches_none t these steps p are none))
      | inl w ↦ elim (each w.0 w.1 w.2) [
        | inl alike ↦ inl alike
        | inr short ↦ elim (some_or_all (λ step. IsAlike old new p) (OffIf t p) steps alike_or_off) [
          | inl one ↦ inl one.4
          | inr off ↦ inr (inr (are_off t these steps p are short.1 (λ step c. All-contains (OffIf t p) steps step off c)))
        ]
      ]
    ]
  where
    each : (step : Step) → Contains steps step → matches p.values (rule_at t step) ≡ true → IsAlike old new p ⊎ ((Contains (walk t p).trail (entry_of t.chains step) → ⊥) × ((walk t p).verdict ≢ TooLong))
    each step c m =
        let at : IsMatchedAt t step hook p = record { can = can; there = there; matched = m } in
        elim (All-contains (IsSettled t old new hook) steps step all c) [ inl same ↦ inl (same p at) | inr dead ↦ inr (dead.0 p can there, dead.1 p at) ]

    -- each of these rules that matches is off the walk, or gives the same verdict
    alike_or_off : All (λ step. IsAlike old new p ⊎ OffIf t p step) steps
    alike_or_off k d lt =
        let step : Step = get_or steps k d in
        elim (cases_Bool (matches p.values (rule_at t step))) [
          | inr un ↦ inr (λ m. absurd (true≢false (sym m ∙ un)))
          | inl m ↦ elim (each step (Contains-get_or steps k d lt) m) [ inl alike ↦ inl alike | inr off ↦ inr (λ _. off.0) ]
        ]

-- what is said of each changed rule is so, and so all packets at the hook get the same verdict
same_at : (old new : Table) (hook : Hook) (changes : Changes) → AreChanges old new changes → ((p : Packet) → p.hook ≡ hook → end_verdict old p ≡ end_verdict new p)
    → All (IsSettled old old new hook) changes.went.items → All (IsSettled new old new hook) changes.came.items → IsSameAt old new hook
same_at old new hook changes are ends went came p can there =
    elim (settled old old new are.went hook changes.went.items p are.first went can there) [
      | inl alike ↦ alike
      | inr untouched ↦ elim (settled new old new are.came hook changes.came.items p are.second came can there) [
        | inl alike ↦ alike
        | inr neither ↦ off_the_walk old new are.went are.came p are.shared (ends p there) untouched neither
      ]
    ]

-- these rules of a table are these of what is left of it
these_left : (s : Subject) (a : Assignment) (these : Entry → Bool) (steps : List Step) → AreThese (table_of s) these steps → AreThese (answered s a) these steps
these_left s a these steps are = record {
  all = λ step (rule, is). are.all step (rule_back s.needs.now a (table_of s) step rule, ap these (sym (entry_left s.needs.now a (table_of s) step)) ∙ is);
  only = λ step c. (let (rule, is) = are.only step c in (rule_left_there s.needs.now a (table_of s) step rule, ap these (entry_left s.needs.now a (table_of s) step) ∙ is));
}

-- so are the changes
pub changes_left : (old new : Subject) (changes : Changes) → AreChangesUnder (whole_of old) (whole_of new) changes → (a : Assignment) → AreChanges (answered old a) (answered new a) changes
changes_left old new changes are a = record {
  went = are.went;
  came = are.came;
  shared = are.changed.shared a;
  first = these_left old a are.went changes.went.items are.first;
  second = these_left new a are.came changes.came.items are.second;
}

-- so they do, whatever holds
pub same_always : (old new : Subject) (hook : Hook) (changes : Changes) → AreChangesUnder (whole_of old) (whole_of new) changes
    → ((p : Packet) → p.hook ≡ hook → end_verdict (table_of old) p ≡ end_verdict (table_of new) p) → All (IsAlwaysSettled old old new hook) changes.went.items → All (IsAlwaysSettled new old new hook) changes.came.items → IsAlwaysSameAt old new hook
same_always old new hook changes are ends went came a =
    same_at (answered old a) (answered new a) hook changes (changes_left old new changes are a) ends (λ k d lt. went k d lt a) (λ k d lt. came k d lt a)

-- the scope of a changed rule whose packets may get two verdicts
changed : (own old new : Whole) (these : Entry → Bool) (hook : Hook) (budget : ℕ) (steps : List Step) → AreThese own.table these steps → Any (MayDifferOf own old new hook budget) steps
    → (scope : Scope) × IsOfRule own these hook budget scope × MayDifferOn old new hook budget scope
changed own old new these hook budget steps are (k, step, lt, at, (live, (scope, boxed, may))) =
    let (rule, this) = are.only step (k, lt, at) in
    (scope, (step, rule, this, live, boxed), may)

pub went_differs : (old new : Whole) (hook : Hook) (budget : ℕ) (changes : Changes) → AreChangesUnder old new changes → Any (MayDifferOf old old new hook budget) changes.went.items → MayDiffer old new hook budget
went_differs old new hook budget changes are some =
    let (scope, of, differs) = changed old old new are.went hook budget changes.went.items are.first some in
    (scope, inr (are.went, are.came, are.changed, inl of), differs)

pub came_differs : (old new : Whole) (hook : Hook) (budget : ℕ) (changes : Changes) → AreChangesUnder old new changes → Any (MayDifferOf new old new hook budget) changes.came.items → MayDiffer old new hook budget
came_differs old new hook budget changes are some =
    let (scope, of, differs) = changed new old new are.came hook budget changes.came.items are.second some in
    (scope, inr (are.went, are.came, are.changed, inr of), differs)

-- the changed rules are rules of their table
pub are_rules : (t : Table) (these : Entry → Bool) (steps : List Step) → AreThese t these steps → All (IsRule t) steps
are_rules t these steps are = λ k d lt. (are.only (get_or steps k d) (Contains-get_or steps k d lt)).0
