-- The rules that name a chain, those by which packets come into the marked chains, and ways that are tried, one after another.
use Rattle.std.proofs.Common.{◌≡◌, inl, inr, ℕ, ◌+◌, ◌<◌, ◌≤◌, Bool, true, false, List, [], ◌∷◌, ◌++◌, length, refl, sym, ◌∙◌, ap, arith, subst, Option, Some, None, All, Contains, zero, suc, ◌-◌, get_or, ◌==◌, ◌&&◌, eq-eqb, eqb-true, true≢false, append-nil, append_assoc}
use Rattle.std.proofs.lemmas.Option.{same_Some}
use Rattle.std.specs.List.{list_any, position, list_all}
use Rattle.std.proofs.lemmas.Bool.{and_parts, cases_eq, cases_Bool, or_left, or_right}
use Rattle.std.proofs.lemmas.List.Folds.{Any-from_list_any, list_any-append}
use Rattle.std.proofs.lemmas.Slice.Eq.{bytes_eq-Decides}
use Rattle.std.proofs.lemmas.List.Elements.{Contains-get_or, All-append, All-contains, All-nil, All-push}
use Rattle.std.proofs.Math.Numerals.{add-one}
use Rattle.rules.specs.rule.Actions.{target_of}
use Rattle.table.specs.chains.Sound.{IsSound}
use Rattle.table.specs.chains.Table.{Table, chain_at, empty_chain, is_named, Chain}
use Rattle.table.specs.declared.walk.trail.Step.{Step}
use Rattle.table.proofs.laws.chains.PlaceLaws.{any_none, has_at, placed_at}
use Rattle.fields.specs.declared.packet.hook.Hook.{Hook}
use Rattle.rules.specs.rule.Allows.{allows_each, matches}
use Rattle.rules.specs.rule.Crossing.{cross}
use Rattle.rules.specs.rule.Rules.{Rule}
use Rattle.classify.specs.Classifier.{IsPoint, box_allows, box_matches}
use Rattle.table.specs.steps.Kept.{hook_index}
use Rattle.fields.specs.declared.numbers.field.Field.{Field}
use Rattle.fields.specs.numbers.Field.{all_fields, number_on}
use Rattle.fields.specs.numbers.Spans.{SpanSet}
use Rattle.fields.specs.Packet.{PacketView as Packet}
use Rattle.questions.specs.Ends.{IsRule, rule_at}
use Rattle.questions.specs.Leaves.{name_at}
use Rattle.questions.specs.boxes.Calls.{AreCalls, IsCalled, is_call, place_named}
use Rattle.questions.specs.declared.seeking.calls.Call.{Call}
use Rattle.questions.specs.asked.Reason.{Enters, IsExcluded}
use Rattle.questions.specs.steps.Leading.{AreSpread, IsMarked, IsMarkedName, ShareNumbers, IsOpen, IsWay, marked_names}
use Rattle.questions.specs.steps.Candidates.{AddsRules}
use Rattle.questions.specs.Scopes.{Whole}
use Rattle.questions.specs.boxes.Boxes.{Has, IsIn, IsNarrower}
use Rattle.questions.specs.boxes.Cut.{IsInSome, AreMet}
use Rattle.questions.specs.declared.seeking.way.Way.{Way}
use Rattle.questions.specs.declared.walking.scope.Scope.{Scope}
use Rattle.questions.specs.steps.Seeking.{IsBoxUnder, IsForOne, AddsWays, AreTries, IsLess, IsTry, IsWayFor}
use Rattle.questions.proofs.laws.TrailLaws.{none_some, one_place}
use Rattle.questions.proofs.laws.BoxesLaws.{AreAll, AreBefore, adds_as, rule_last}
use Rattle.questions.proofs.laws.WaitLaws.{named_first}
use Rattle.questions.proofs.laws.AreaLaws.{on_field}

-- ---- The rules that name a chain, listed one after another.

-- what is listed stays
pub still_called : (t : Table) (calls new more : List Call) (by : Step) → new ≡ calls ++ more → IsCalled t calls by → IsCalled t new by
still_called t calls new more by e h to is names =
    ap (list_any (is_call to by)) e ∙ list_any-append (is_call to by) calls more ∙ or_left (list_any (is_call to by) calls) (list_any (is_call to by) more) (h to is names)

-- a call is the one that it is told to be
call_is : (to : ℕ) (by : Step) (call : Call) → is_call to by call ≡ true → call ≡ record { to = to; by = by }
call_is to by call t =
    let parts = and_parts (call.to == to) ((call.by.chain == by.chain) && (call.by.number == by.number)) t in
    let more = and_parts (call.by.chain == by.chain) (call.by.number == by.number) parts.1 in
    let make : ℕ → ℕ → ℕ → Call = λ a b c. record { to = a; by = record { chain = b; number = c } } in
    ap (λ a. make a call.by.chain call.by.number) (eqb-true call.to to parts.0) ∙ ap (λ b. make to b call.by.number) (eqb-true call.by.chain by.chain more.0)
    ∙ ap (make to by.chain) (eqb-true call.by.number by.number more.1)

-- each rule is in the list that names a chain
pub listed : (t : Table) (calls : List Call) (by : Step) (to : ℕ) → AreCalls t calls → IsRule t by → place_named t.chains (target_of (rule_at t by)) ≡ Some to → Contains calls (record { to = to; by = by })
listed t calls by to all is names =
    let any = Any-from_list_any (is_call to by) calls (all.all by to is names) in
    rw (← call_is to by any.1 any.4) (any.0, any.2, any.3)

-- the place of a chain's own name
pub own_position : (t : Table) (k : ℕ) (name : List ℕ) → IsSound t → k < length t.chains → name_at t.chains k ≡ name → position (is_named name) t.chains ≡ Some k
own_position t k name s lt e = by_case (position (is_named name) t.chains) refl
  where
    by_case : (o : Option ℕ) → position (is_named name) t.chains ≡ o → position (is_named name) t.chains ≡ Some k
    by_case None none = absurd (true≢false (sym (has_at t.chains name k (empty_chain []) lt ((bytes_eq-Decides (name_at t.chains k) name).1 e)) ∙ any_none (is_named name) t.chains none))
    by_case (Some j) is = is ∙ ap Some (one_place t j k s lt ((placed_at t name j is).named (empty_chain []) ∙ sym e))

-- a rule that is listed
pub now_called : (t : Table) (calls new : List Call) (by : Step) (to : ℕ) → new ≡ calls ++ record { to = to; by = by } ∷ [] → place_named t.chains (target_of (rule_at t by)) ≡ Some to → IsCalled t new by
now_called t calls new by to e own other is names =
    let same : to ≡ other = same_Some to other (sym own ∙ names) in
    let mine : List Call = record { to = to; by = by } ∷ [] in
    rw same at (ap (list_any (is_call to by)) e ∙ list_any-append (is_call to by) calls mine ∙ or_right (list_any (is_call to by) calls) (list_any (is_call to by) mine) (rw (eq-eqb to to refl, eq-eqb by.chain by.chain refl, eq-eqb by.number by.number refl)))

-- one that names no chain is listed as it has to be
pub not_called : (t : Table) (calls : List Call) (by : Step) → place_named t.chains (target_of (rule_at t by)) ≡ None → IsCalled t calls by
not_called t calls by none to is names = absurd (none_some (sym none ∙ names))

-- of the first so many rules of the chain
abbrev pub AreCalledBelow : Table → ℕ → ℕ → List Call → Type 0
AreCalledBelow t place count calls = (by : Step) → by.chain ≡ place → by.number ≤ count → IsCalled t calls by

pub called_next : (t : Table) (place count : ℕ) (old new : List Call) → ((by : Step) → IsCalled t old by → IsCalled t new by) → IsCalled t new (record { chain = place; number = count + 1 }) → AreCalledBelow t place count old → AreCalledBelow t place (count + 1) new
called_next t place count old new kept here below by at le =
    elim (cases_eq by.number (count + 1)) [
      | inr ne ↦ kept by (below by at (omega (arith, ne, le)))
      | inl e ↦ (
          let make : ℕ → ℕ → Step = λ c n. record { chain = c; number = n } in
          let same : by ≡ make place (count + 1) = ap (λ c. make c by.number) at ∙ ap (λ n. make place n) e in
          let P : Step → Type 0 = λ s. IsCalled t new s in
          subst P (sym same) here)
    ]

pub all_called : (t : Table) (place count : ℕ) (calls : List Call) → length (chain_at t place).rules ≤ count → AreCalledBelow t place count calls → (by : Step) → by.chain ≡ place → IsCalled t calls by
all_called t place count calls all below by at to is names =
    let within : by.number ≤ length (chain_at t place).rules = rw (at) at is.last in
    below by at (omega (arith, within, all)) to is names

-- ---- The rules by which packets come into the marked chains, one after another.

-- ---- the names of the marked chains

pub marked_is : (cs : List Chain) (marks : List Bool) (name : List ℕ) → Contains (marked_names cs marks) name → IsMarkedName cs marks name
marked_is [] marks name c = absurd (omega (arith, c.1))
marked_is (chain ∷ cs) [] name c = absurd (omega (arith, c.1))
marked_is (chain ∷ cs) (true ∷ ms) name (zero, lt, e) = (0, omega arith, refl, e)
marked_is (chain ∷ cs) (true ∷ ms) name (suc k, lt, e) =
    let w = marked_is cs ms name (k, omega (arith, lt), e) in
    (suc w.0, omega (arith, w.1), w.2, w.3)
marked_is (chain ∷ cs) (false ∷ ms) name c =
    let w = marked_is cs ms name c in
    (suc w.0, omega (arith, w.1), w.2, w.3)

pub is_among : (cs : List Chain) (marks : List Bool) (j : ℕ) → j < length cs → IsMarked marks j → Contains (marked_names cs marks) (name_at cs j)
is_among [] marks j lt h = absurd (omega (arith, lt))
is_among (chain ∷ cs) [] j lt h = absurd (true≢false (sym h))
is_among (chain ∷ cs) (true ∷ ms) zero lt h = (0, omega arith, refl)
is_among (chain ∷ cs) (false ∷ ms) zero lt h = absurd (true≢false (sym h))
is_among (chain ∷ cs) (true ∷ ms) (suc j) lt h =
    let c = is_among cs ms j (omega (arith, lt)) h in
    (suc c.0, omega (arith, c.1), c.2)
is_among (chain ∷ cs) (false ∷ ms) (suc j) lt h = is_among cs ms j (omega (arith, lt)) h

-- ---- chain after chain

module _ (t : Table) (marks : List Bool) where
  -- a rule of a chain that isn't marked names a marked one
  abbrev pub IsWayIn : Step → Type 0
  IsWayIn by = (get_or marks by.chain false ≡ false) × IsWay t marks by

  pub way_first : (by : Step) → IsWay t marks by → 0 < by.number
  way_first by way = way.rule.first

  pub way_last : (place count : ℕ) → length (chain_at t place).rules ≤ count → (by : Step) → by.chain ≡ place → IsWay t marks by → by.number ≤ count
  way_last place count le by at way = rule_last t place count le by at way.rule

  -- of a chain that isn't marked
  pub ways_in : (place : ℕ) (old new : List Step) → get_or marks place false ≡ false → AddsRules (IsWay t marks) place old new → AddsRules IsWayIn place old new
  ways_in place old new off adds =
      adds_as (IsWay t marks) IsWayIn place old new (λ by at way. (rw (← at) at off, way)) (λ by at way. way.1) adds

  -- a marked chain has none
  pub none_in : (place : ℕ) → IsMarked marks place → (by : Step) → by.chain ≡ place → IsWayIn by → ⊥
  none_in place on by at way = let P : ℕ → Type 0 = λ k. get_or marks k false ≡ false in true≢false (sym on ∙ subst P at way.0)

-- ---- of all chains

module _ (t : Table) (step : Step) (marks : List Bool) (s : IsSound t) (is : IsRule t step) (spread : AreSpread t (Some (rule_at t step)) step.chain marks) where
  -- the names are those of marked chains alone
  name_on : (j : ℕ) → j < length t.chains → Contains (marked_names t.chains marks) (name_at t.chains j) → IsMarked marks j
  name_on j lt c =
      let w = marked_is t.chains marks (name_at t.chains j) c in
      rw (one_place t w.0 j s lt w.3) at w.2

  -- a path from a built-in chain whose rules all allow numbers that the rule allows too
  pub open_of : (hook : Hook) → IsMarked marks (hook_index hook) → IsOpen t step
  open_of hook on =
      let named = named_first t.chains hook s.listed.built_in in
      let w = spread.each (hook_index hook) named.1 on in
      (hook, w.0, rw named.0 at w.1)

  -- a rule of a chain that isn't marked allows nothing that the rule allows
  apart : (by : Step) → IsWay t marks by → get_or marks by.chain false ≡ false → (numbers : List ℕ) → IsPoint numbers → matches numbers (rule_at t by) ≡ true → matches numbers (rule_at t step) ≡ true → ⊥
  apart by way off numbers point one two =
      let rules : List Rule = (chain_at t by.chain).rules in
      let there : Contains rules (rule_at t by) = Contains-get_or rules (by.number - 1) _ (omega (arith, way.rule.first, way.rule.last)) in
      let share : ShareNumbers (rule_at t step) (rule_at t by) = (numbers, point, (and_parts (allows_each numbers (rule_at t step)) (cross numbers (rule_at t step)) two).0, (and_parts (allows_each numbers (rule_at t by)) (cross numbers (rule_at t by)) one).0) in
      true≢false (sym (spread.closed by.chain way.rule.chain (rule_at t by, there, way.names, share)) ∙ off)

  pub excluded_of : (ways : List Step) (place : ℕ) → ((hook : Hook) → get_or marks (hook_index hook) false ≡ false) → length t.chains ≤ place → AreBefore (IsWayIn t marks) place ways → AreAll (IsWayIn t marks) ways → IsExcluded t step ways
  excluded_of ways place none le before only = record {
    within = marked_names t.chains marks;
    own = is_among t.chains marks step.chain is.chain spread.there;
    inner = λ hook c. (
        let named = named_first t.chains hook s.listed.built_in in
        true≢false (sym (name_on (hook_index hook) named.1 (rw (← named.0) at c)) ∙ none hook));
    all = λ by enters. before by (omega (arith, enters.rule.chain, le)) (off by enters, way by enters);
    each = λ k d lt. enters (get_or ways k d) (only (get_or ways k d) (Contains-get_or ways k d lt));
    none = λ p can by enters one. (
        elim (cases_Bool (matches p.values (rule_at t step))) [
          | inl two ↦ absurd (apart by (way by enters) (off by enters) p.values can.packet.within one two)
          | inr f ↦ f
        ]);
  }
    where
      way : (by : Step) → Enters t (marked_names t.chains marks) by → IsWay t marks by
      way by e = record { rule = e.rule; names = (e.names.0, e.names.1, marked_is t.chains marks e.names.0 e.names.2) }

      off : (by : Step) → Enters t (marked_names t.chains marks) by → get_or marks by.chain false ≡ false
      off by e = elim (cases_Bool (get_or marks by.chain false)) [ inl on ↦ absurd (e.outside (is_among t.chains marks by.chain e.rule.chain on)) | inr f ↦ f ]

      enters : (by : Step) → (get_or marks by.chain false ≡ false) × IsWay t marks by → Enters t (marked_names t.chains marks) by
      enters by w =
          let marked = w.1.names.2 in
          record {
            rule = w.1.rule;
            outside = λ c. true≢false (sym (name_on by.chain w.1.rule.chain c) ∙ w.0);
            names = (w.1.names.0, w.1.names.1, rw marked.3 at (is_among t.chains marks marked.0 marked.1 marked.2));
          }

-- ---- Ways that are tried, one after another.

-- ---- ways that are put there

module _ (P : Way → Type 0) where
  pub adds_none : (ways : List Way) → AddsWays P ways ways
  adds_none ways = ([], sym (append-nil ways), All-nil P)

  pub adds_one : (old new : List Way) (way : Way) → new ≡ old ++ way ∷ [] → P way → AddsWays P old new
  adds_one old new way e is = (way ∷ [], e, All-push P [] way (All-nil P) is)

  pub adds_on : (old mid new : List Way) → AddsWays P old mid → AddsWays P mid new → AddsWays P old new
  adds_on old mid new (one, e, all) (two, f, too) = (one ++ two, f ∙ ap (λ (ways : List Way). ways ++ two) e ∙ append_assoc old one two, All-append P one two all too)

  pub adds_more : (old mid new : List Way) (way : Way) → new ≡ mid ++ way ∷ [] → P way → AddsWays P old mid → AddsWays P old new
  adds_more old mid new way e is adds = adds_on old mid new adds (adds_one mid new way e is)

  pub adds_ways_as : (Q : Way → Type 0) (old new : List Way) → ((way : Way) → P way → Q way) → AddsWays P old new → AddsWays Q old new
  adds_ways_as Q old new holds (more, e, all) = (more, e, λ k d lt. holds (get_or more k d) (all k d lt))

-- the first one is there
pub first_in : {X : Type 0} (x : X) (xs : List X) → Contains (x ∷ xs) x
first_in x xs = (0, omega arith, refl)

-- ---- ways for scopes

pub one_less : (way : Way) (scopes : List Scope) → All (IsLess way.scope) scopes → (part : Way) → IsForOne way scopes part → IsWayFor way part
one_less way scopes all part is = record { wanted = is.wanted; places = is.places; less = All-contains (IsLess way.scope) scopes part.scope all is.scope }

-- one more try
pub tries_next : (n : ℕ) (t : Whole) (first mid new : List Way) → AreTries n t first mid → IsTry t mid new → AreTries (n + 1) t first new
tries_next n t first mid new tries one = let P : ℕ → Type 0 = λ m. AreTries m t first new in subst P (sym (add-one n)) (mid, tries, one)

-- ---- a box without another one

some_fails : (p : Field → Bool) (fields : List Field) → list_all p fields ≡ false → (f : Field) × (p f ≡ false)
some_fails p [] e = absurd (true≢false e)
some_fails p (f ∷ fields) e = elim (cases_Bool (p f)) [ inr un ↦ (f, un) | inl t ↦ some_fails p fields (sym (ap (λ b. b && list_all p fields) t) ∙ e) ]

-- a box that lacks numbers of another one is narrower
narrower_of : (box other : List SpanSet) (numbers : List ℕ) → IsPoint numbers → Has box numbers → (Has other numbers → ⊥) → IsNarrower box other
narrower_of box other numbers point has lacks =
    elim (cases_Bool (box_matches numbers other)) [
      | inl t ↦ absurd (lacks (record { each = t }))
      | inr un ↦ (
          let (f, off) = some_fails (λ g. box_allows other g (number_on numbers g)) all_fields un in
          (f, number_on numbers f, point f, on_field box numbers f has.each, off))
    ]

-- two boxes that have the packet meet
pub met_by : (p : Packet) (own other : List SpanSet) → IsPoint p.values → IsIn own p → IsIn other p → AreMet own other
met_by p own other point one two f = (number_on p.values f, point f, on_field own p.values f one.each, on_field other p.values f two.each)

-- the scopes of its parts are smaller, since a packet of the other box is gone
pub but_less : (p : Packet) (whole : Scope) (own : List SpanSet) (parts : List (List SpanSet)) (scopes : List Scope) → IsPoint p.values → IsIn whole.area p → IsIn own p
    → ((numbers : List ℕ) → IsPoint numbers → IsInSome parts numbers → Has whole.area numbers × (Has own numbers → ⊥)) → All (IsBoxUnder parts whole.answers) scopes → All (IsLess whole) scopes
but_less p whole own parts scopes point there inside only all k d lt =
    let part : Scope = get_or scopes k d in
    let is : IsBoxUnder parts whole.answers part = all k d lt in
    record {
      inside = λ numbers at has. (only numbers at (part.area, is.area, has)).0;
      less = inl (narrower_of whole.area part.area p.values point there (λ here. (only p.values point (part.area, is.area, here)).1 inside));
    }
