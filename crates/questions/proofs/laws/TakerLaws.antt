-- Who decides the packets that a rule matches where all holds that it needs.
use Rattle.std.proofs.Common.{◌≡◌, ◌⊎◌, inl, inr, ℕ, ◌+◌, ◌-◌, ◌<◌, Bool, true, false, List, [], length, get_or, refl, sym, ◌∙◌, ap, arith, subst, Option, Some, None, All, Contains, Any, IfOk, IsTrue, MatchOption, Result, true≢false}
use Rattle.std.specs.declared.alloc.AllocError.{AllocError}
use Rattle.std.specs.Option.{option_map}
use Rattle.std.proofs.lemmas.Bool.{and_from, cases_Bool}
use Rattle.std.proofs.lemmas.Result.{IfOk-weaker}
use Rattle.std.proofs.lemmas.List.{get_or_default}
use Rattle.std.proofs.lemmas.List.Elements.{All-contains, All-nil, Contains-get_or}
use Rattle.fields.specs.declared.numbers.field.Field.{Field}
use Rattle.fields.specs.declared.numbers.field.Field.TheVariants as field
use Rattle.fields.specs.declared.packet.hook.Hook.{Hook}
use Rattle.fields.specs.declared.packet.hook.Hook.TheVariants.{Input}
use Rattle.fields.specs.Hook.{all_hooks, name as hook_name}
use Rattle.fields.specs.numbers.Spans.{SpanSet, has}
use Rattle.fields.specs.Packet.{PacketView as Packet, IsPacket, point}
use Rattle.rules.specs.Boxed.{IsBoxOf, set_on}
use Rattle.rules.specs.rule.Allows.{allows_each, matches}
use Rattle.rules.specs.rule.Crossing.{cross}
use Rattle.table.specs.chains.Sound.{IsSound, Path}
use Rattle.table.specs.chains.Table.{Table, empty_chain}
use Rattle.table.specs.declared.walk.trail.Step.{Step}
use Rattle.table.specs.walk.Walk.{Entry, Walked, walk}
use Rattle.questions.specs.Ends.{IsRule, decider_of, rule_at, step_of}
use Rattle.questions.specs.Foreign.{Assignment, all_hold, needs_at, resolved_rule}
use Rattle.questions.specs.Leaves.{entry_of}
use Rattle.questions.specs.Scopes.{EndsUnder, IsOf, IsSurely, Known, answered, known_by, scope_of, table_of, under}
use Rattle.questions.specs.asked.Always.{IsAlwaysDead, IsAlwaysDeadAt}
use Rattle.questions.specs.asked.Reason.{IsDecidedAmong, IsDecidedBy, IsImpossible, IsLed, IsUnreached, HasLetInUnder, HasPacketUnder, IsAtStakeUnder, IsMeantUnder, IsTakenUnder}
use Rattle.questions.specs.asked.Unknown.{IsUndecidedUnder}
use Rattle.questions.specs.boxes.Boxes.{Has, HasOwnInterfaces, IsAtHook, IsBoth, IsIn}
use Rattle.questions.specs.declared.asked.reach.Given.{Given}
use Rattle.questions.specs.declared.asked.takers.Takers.{Takers}
use Rattle.questions.specs.declared.foreign.answers.Answer.{Answer}
use Rattle.questions.specs.declared.foreign.need.Need.{Need}
use Rattle.questions.specs.declared.foreign.subject.Subject.{Subject}
use Rattle.questions.specs.declared.walking.scope.Scope.{Scope}
use Rattle.questions.specs.declared.walking.task.Leaf.{Leaf}
use Rattle.questions.specs.steps.Answered.{IsMeeting, MeetsNever}
use Rattle.questions.specs.steps.Deciding.{AllTake, AreBefore, AreTakersOf, EndsAs, IsAsked, IsMatchedUnder, IsTakenAt, IsWalked, TakesOne}
use Rattle.questions.specs.steps.Exact.{AreExactWalksUnder, IsExactUnder}
use Rattle.questions.specs.steps.Takers.{IsScopeAt, IsScopeBy, needs_of, Grows, IsAmong, IsBoxAt, IsBoxBy, IsByThis, IsLetBy, Takes, TakesAll}
use Rattle.questions.proofs.laws.AnswerLaws.{some_assignment_gives}
use Rattle.questions.proofs.laws.AreaLaws.{box_of_rule, has_of_rule, on_field}
use Rattle.questions.proofs.laws.TrailLaws.{by_policy_where, decider_is_rule, decider_under, step_by, items_next, rule_matches}
use Rattle.questions.proofs.laws.ForeignLaws.{left_sound, path_kept}
use Rattle.questions.proofs.laws.LeadLaws.{entry_led}
use Rattle.questions.proofs.laws.ResolvedLaws.{never_matches, chain_named, entry_left, resolved_is, resolved_not, rule_at_left, rule_back, rule_left_there, there_left}
use Rattle.questions.proofs.laws.PlainLaws.{gives_none}
use Rattle.questions.proofs.laws.ReachLaws.{packet_with, with_inside, with_packet}

-- ---- a rule on a walk

-- it is one that matches, and all holds that it needs
pub met_on : (s : Subject) (a : Assignment) (p : Packet) (step : Step) (hook : Hook) → IsSound (table_of s) → IsRule (table_of s) step → IsAtHook p → p.hook ≡ hook → Contains (walk (answered s a) p).trail (entry_of (answered s a).chains step)
    → IsMatchedUnder s a step hook p
met_on s a p step hook sound is can there on =
    let needs = s.needs.now in
    let t = table_of s in
    let own : List Need = needs_at needs step.chain (step.number - 1) in
    let m : matches p.values (resolved_rule a own (rule_at t step)) ≡ true =
    rw (rule_at_left needs a t step is) at (rule_matches (answered s a) p step (left_sound needs a t sound) (rule_left_there needs a t step is) on) in
    elim (cases_Bool (all_hold a own)) [
      | inl held ↦ record { matched = record { can = can; there = there; matched = rw (resolved_is a own (rule_at t step) held) at m }; held = held }
      | inr un ↦ absurd (true≢false (sym (rw (resolved_not a own (rule_at t step) un) at m) ∙ never_matches p.values))
    ]

-- an entry of the rule in the table is one in what is left of it
pub on_left : (s : Subject) (a : Assignment) (p : Packet) (step : Step) → Contains (walk (answered s a) p).trail (entry_of (table_of s).chains step) → Contains (walk (answered s a) p).trail (entry_of (answered s a).chains step)
on_left s a p step on = let P : Entry → Type 0 = λ entry. Contains (walk (answered s a) p).trail entry in subst P (sym (entry_left s.needs.now a (table_of s) step)) on

-- ---- a set of a rule's box without numbers

pub impossible_of : (t : Table) (step : Step) (box : List SpanSet) (f : Field) → IsBoxOf (rule_at t step) box → set_on f box ≡ [] → IsImpossible (rule_at t step) f
impossible_of t step box f boxed none p can = sym (boxed f (point p f) (can.packet.within f)) ∙ ap (λ ss. has ss (point p f)) none

pub dead_of : (s : Subject) (step : Step) (box : List SpanSet) (f : Field) → IsSound (table_of s) → IsRule (table_of s) step → IsBoxOf (rule_at (table_of s) step) box → set_on f box ≡ [] → IsAlwaysDead s (entry_of (table_of s).chains step)
dead_of s step box f sound is boxed none a p can on =
    let met : IsMatchedUnder s a step p.hook p = met_on s a p step p.hook sound is can refl (on_left s a p step on) in
    let own : Has box p.values = has_of_rule (rule_at (table_of s) step) box p.values boxed can.packet.within met.matched.matched in
    true≢false (sym (on_field box p.values f own.each) ∙ ap (λ ss. has ss (point p f)) none)

-- ---- chains to which nothing leads

module _ (s : Subject) (a : Assignment) where
  -- what is left names no more chains
  -- a rule on a walk is one to whose chain jumps and gotos lead
  led_on : (p : Packet) (step : Step) → Contains (walk (answered s a) p).trail (entry_of (answered s a).chains step) → IsLed (table_of s) step p.hook
  led_on p step on =
      let (n, path) = entry_led (answered s a) p (entry_of (answered s a).chains step) on in
      let P : List ℕ → Type 0 = λ name. Path (table_of s).chains n (hook_name p.hook) name in
      (n, subst P (chain_named s.needs.now a (table_of s).chains step.chain (empty_chain [])) (path_kept s.needs.now a (table_of s) n _ _ path))

pub unled_dead : (s : Subject) (step : Step) (hook : Hook) → (IsLed (table_of s) step hook → ⊥) → IsAlwaysDeadAt s step hook
unled_dead s step hook none a p can e on = let P : Hook → Type 0 = λ h. IsLed (table_of s) step h in none (subst P e (led_on s a p step on))

pub unreached_dead : (s : Subject) (step : Step) → IsUnreached (table_of s) step → IsAlwaysDead s (entry_of (table_of s).chains step)
unreached_dead s step none a p can on = none p.hook (led_on s a p step (on_left s a p step on))

-- ---- the packets that a rule matches

pub box_at : (t : Table) (step : Step) (hook : Hook) (there box area : List SpanSet) → IsBoxOf (rule_at t step) box → ((p : Packet) → IsAtHook p → p.hook ≡ hook → IsIn there p) → ((p : Packet) → IsPacket p → p.hook ≡ hook → IsIn there p → HasOwnInterfaces p)
    → IsBoth there box area → IsBoxAt t step hook (record { hook = hook; area = area })
box_at t step hook there box area boxed all only both = record {
  there = refl;
  all = λ p m. both.all p.values m.can.packet.within (all p m.can m.there) (has_of_rule (rule_at t step) box p.values boxed m.can.packet.within m.matched);
  only = λ p is e inside.
      (only p is e (both.first p.values is.within inside), sym (box_of_rule (rule_at t step) box p.values boxed is.within) ∙ (both.second p.values is.within inside).each);
}

-- the box of a rule's scope, and its answers
pub boxed_scope : (t : Table) (needs : List (List (List Need))) (step : Step) (hook : Hook) (scope : Scope) → IsScopeAt t needs step hook scope
    → (let given : Given = record { hook = hook; area = scope.area } in IsBoxAt t step hook given × IsMeeting (needs_of needs step) [] scope.answers)
boxed_scope t needs step hook scope (given, box, same, meets) =
    let P : Hook → List SpanSet → Type 0 = λ h area. IsBoxAt t step hook (record { hook = h; area = area }) in
    (subst (λ (area : List SpanSet). P hook area) same (subst (λ (h : Hook). P h given.area) box.there box), meets)

-- those of them that another rule lets in: all of them where none is given
pub scope_of_all : (t : Table) (needs : List (List (List Need))) (step : Step) (hook : Hook) (scope : Scope) → IsScopeAt t needs step hook scope → IsScopeBy t needs step None hook scope
scope_of_all t needs step hook scope (given, box, same, meets) =
    (given, record { there = box.there; all = λ p m let_in. box.all p m; only = λ p is e inside. (let (own, allowed) = box.only p is e inside in (own, allowed, tt)) }, same, meets)

pub scope_of_some : (t : Table) (needs : List (List (List Need))) (step by : Step) (hook : Hook) (scope : Scope) (other area : List SpanSet) → IsScopeAt t needs step hook scope → IsBoxOf (rule_at t by) other → IsBoth scope.area other area
    → IsScopeBy t needs step (Some by) hook (record { area = area; answers = scope.answers })
scope_of_some t needs step by hook scope other area at boxed both =
    let (box, meets) = boxed_scope t needs step hook scope at in (
      record { hook = hook; area = area },
      record {
        there = refl;
        all = λ p m let_in. both.all p.values m.can.packet.within (box.all p m) (record { each = box_of_rule (rule_at t by) other p.values boxed m.can.packet.within ∙ let_in });
        only = λ p is e inside.
            (let (own, allowed) = box.only p is e (both.first p.values is.within inside) in
            (own, allowed, sym (box_of_rule (rule_at t by) other p.values boxed is.within) ∙ (both.second p.values is.within inside).each));
      },
      refl,
      meets,
    )

pub boxed_by : (t : Table) (needs : List (List (List Need))) (step : Step) (by : Option Step) (hook : Hook) (scope : Scope) → IsScopeBy t needs step by hook scope
    → (let given : Given = record { hook = hook; area = scope.area } in IsBoxBy t step by hook given × IsMeeting (needs_of needs step) [] scope.answers)
boxed_by t needs step by hook scope (given, box, same, meets) =
    let P : Hook → List SpanSet → Type 0 = λ h area. IsBoxBy t step by hook (record { hook = h; area = area }) in
    (subst (λ (area : List SpanSet). P hook area) same (subst (λ (h : Hook). P h given.area) box.there box), meets)

-- a packet of a leaf is decided as the leaf is, where that is sure
ends_as : (t : Table) (known : Known) (p : Packet) (leaf : Leaf) → IsSurely known leaf → EndsUnder t known p leaf → EndsAs t p leaf
ends_as t known p leaf surely ends = record {
  decides = ap decider_of ends.walked ∙ decider_under known t.chains leaf surely ends.own.agrees;
  policy = ap (λ (w : Walked). w.by_policy) ends.walked;
}

module _ (s : Subject) (step : Step) (hook : Hook) (sound : IsSound (table_of s)) (is : IsRule (table_of s) step) where
  abbrev own : List Need
  own = needs_at s.needs.now step.chain (step.number - 1)

  -- what the rule needs is never met
  pub never_before : (Asked : Packet → Type 0) → MeetsNever own [] → AreBefore s step Asked hook []
  never_before Asked never = record {
    dead = λ a p can e asked on. unmet a (met_on s a p step hook sound is can e on).held;
    all = λ a p m asked. absurd (unmet a m.held);
    each = All-nil (IsWalked s step Asked hook);
  }
    where
      unmet : (a : Assignment) → all_hold a own ≡ true → ⊥
      unmet a held = true≢false (sym held ∙ never a (gives_none a))

  module _ (by : Option Step) (given : Given) (box : IsBoxBy (table_of s) step by hook given) (answers : List Answer) (meets : IsMeeting own [] answers) where
    abbrev start : Scope
    start = under given.area answers

    -- a packet of an exact leaf
    walked_in : ((numbers : List ℕ) → cross numbers (rule_at (table_of s) step) ≡ true) → (leaf : Leaf) → ((a : Assignment) → IsExactUnder (answered s a) (known_by s a) hook start leaf) → IsWalked s step (IsLetBy (table_of s) by) hook leaf
    walked_in alone leaf all =
        let (a, agrees) = some_assignment_gives leaf.answers leaf.consistent in
        let ex : IsExactUnder (answered s a) (known_by s a) hook start leaf = all a in
        let n = ex.some field.Source in
        let p : Packet = packet_with hook leaf.area ex.some field.Source n.0 n.1 n.2 in
        let packet : IsPacket p = with_packet hook leaf.area ex.some field.Source n.0 n.1 n.2 in
        let inside : IsIn leaf.area p = with_inside hook leaf.area ex.some field.Source n.0 n.1 n.2 in
        let rule = rule_at (table_of s) step in
        let (interfaces, allowed, let_in) = box.only p packet refl (ex.inside p.values packet.within inside) in
        let can : IsAtHook p = ex.can p packet interfaces inside in
        let of : IsOf (known_by s a) p (scope_of leaf) = record { inside = inside; agrees = agrees } in
        let (there, walked) = ex.shown.walked p can refl of in (
          a,
          p,
          record {
            matched = record { can = can; there = refl; matched = and_from (allows_each p.values rule) (cross p.values rule) allowed (alone p.values) };
            held = (meets.own a there.agrees).1;
          },
          let_in,
          ends_as (answered s a) (known_by s a) p leaf ex.shown.decided (record { own = of; walked = walked }),
        )

    module _ (exact : List Leaf) (walks : (a : Assignment) → AreExactWalksUnder (answered s a) (known_by s a) hook start exact) where
      -- the leaf of a packet that the rule matches
      in_leaf : (a : Assignment) (p : Packet) → IsMatchedUnder s a step hook p → IsLetBy (table_of s) by p → Any (λ (leaf : Leaf). IsSurely (known_by s a) leaf × EndsUnder (answered s a) (known_by s a) p leaf) exact
      in_leaf a p m let_in =
          let of : IsOf (known_by s a) p start = record { inside = box.all p m.matched let_in; agrees = meets.all a (gives_none a) m.held } in
          let (k, leaf, lt, at, inside) = (walks a).all p m.matched.can m.matched.there of in
          let ex : IsExactUnder (answered s a) (known_by s a) hook start leaf = All-contains (IsExactUnder (answered s a) (known_by s a) hook start) exact leaf (walks a).each (k, lt, at) in
          (k, leaf, lt, at, (ex.shown.decided, record { own = inside; walked = (ex.shown.walked p m.matched.can m.matched.there inside).1 }))

      pub before_of : ((numbers : List ℕ) → cross numbers (rule_at (table_of s) step) ≡ true) → All (λ leaf. Contains leaf.trail.items step → ⊥) exact → AreBefore s step (IsLetBy (table_of s) by) hook exact
      before_of alone none = record {
        dead = λ a p can e let_in on.
            (let (k, leaf, lt, at, (surely, ends)) = in_leaf a p (met_on s a p step hook sound is can e on) let_in in
            let t = answered s a in
            let lt_left = there_left s.needs.now a (table_of s) step.chain is.chain in
            let (there, met) = step_by t (known_by s a) leaf.trail.items step (left_sound s.needs.now a (table_of s) sound) lt_left (rw ends.walked at on) in
            All-contains (λ (l : Leaf). Contains l.trail.items step → ⊥) exact leaf none (k, lt, at) there);
        all = λ a p m let_in.
            (let (k, leaf, lt, at, (surely, ends)) = in_leaf a p m let_in in
            (k, leaf, lt, at, ends_as (answered s a) (known_by s a) p leaf surely ends));
        each = λ k d lt. walked_in alone (get_or exact k d) (λ a. (walks a).each k d lt);
      }

-- ---- who decides them

pub grows_same : (takers : Takers) → Grows takers takers
grows_same takers = record { kept = λ hook by h. h; once = λ h. h; apart = λ h. h }

pub grows_on : (a b c : Takers) → Grows a b → Grows b c → Grows a c
grows_on a b c first then = record { kept = λ hook by h. then.kept hook by (first.kept hook by h); once = λ h. then.once (first.once h); apart = λ h. then.apart (first.apart h) }

-- leaf after leaf
module _ (own : Hook) (leaves : List Leaf) (i : ℕ) (leaf : Leaf) (lt : i < length leaves) (is : leaf ≡ get_or leaves i leaf) (first old new : Takers) (takes : Takes own leaf old new) where
  abbrev Own : Takers → Leaf → Type 0
  Own takers l = IsAmong takers own (step_of l)

  pub added_next : ((k : ℕ) (d : Leaf) → k < i → IsAmong old own (step_of (get_or leaves k d))) → (k : ℕ) (d : Leaf) → k < i + 1 → IsAmong new own (step_of (get_or leaves k d))
  added_next below = items_next (Own new) leaves i leaf lt is (λ k d less. takes.grows.kept own (step_of (get_or leaves k d)) (below k d less)) takes.added

  pub only_next : ((hook : Hook) (by : Option Step) → IsAmong old hook by → IsAmong first hook by ⊎ Any (λ (l : Leaf). IsByThis own l hook by) leaves) → (hook : Hook) (by : Option Step) → IsAmong new hook by
      → IsAmong first hook by ⊎ Any (λ (l : Leaf). IsByThis own l hook by) leaves
  only_next below hook by h = elim (takes.only hook by h) [ inl before ↦ below hook by before | inr e ↦ inr (i, leaf, lt, sym is, e) ]

-- ---- of which packets, and at which hooks

module _ (s : Subject) (step : Step) where
  -- who decides a packet
  abbrev Decides : Assignment → Packet → Option Step → Type 0
  Decides a p by = MatchOption by (IsTrue (walk (answered s a) p).by_policy) (λ taker. IsRule (table_of s) taker × IsDecidedBy (answered s a) p taker)

  module _ (sound : IsSound (table_of s)) where
    -- a packet that is decided as a leaf is decided by whom the leaf shows
    shown_by : (a : Assignment) (p : Packet) (leaf : Leaf) (by : Option Step) → EndsAs (answered s a) p leaf → step_of leaf ≡ by → Decides a p by
    shown_by a p leaf None ends e = ends.policy ∙ by_policy_where leaf e
    shown_by a p leaf (Some x) ends e =
        let decides : IsDecidedBy (answered s a) p x = ends.decides ∙ ap (option_map (entry_of (answered s a).chains)) e in
        (rule_back s.needs.now a (table_of s) x (decider_is_rule (answered s a) p (Some x) (left_sound s.needs.now a (table_of s) sound) decides), decides)

    among_of : (a : Assignment) (p : Packet) (takers : Takers) (by : Option Step) → Decides a p by → IsAmong takers p.hook by → IsDecidedAmong (answered s a) takers p
    among_of a p takers None shown h = inl (h, shown)
    among_of a p takers (Some x) shown h = inr (h.0, x, h.1, h.2, shown.1)

    module _ (Region : Packet → Type 0) (hook : Hook) (leaves : List Leaf) (old new : Takers) (before : AreBefore s step Region hook leaves) (takes : TakesAll hook leaves old new) where
      pub taken_at : IsTakenAt s step Region new hook
      taken_at = record {
        dead = before.dead;
        decided = λ led a p m here.
            (let w = before.all a p m here in
            let there : IsAmong new hook (step_of w.1) = All-contains (λ (l : Leaf). IsAmong new hook (step_of l)) leaves w.1 takes.added (w.0, w.2, w.3) in
            among_of a p new (step_of w.1) (shown_by a p w.1 (step_of w.1) w.4 refl) (rw (← m.matched.there) at there));
      }

      -- a packet of a leaf that this decides
      meant_there : IsLed (table_of s) step hook → (a : Assignment) (p : Packet) → IsMatchedUnder s a step hook p → IsMeantUnder s a step p
      meant_there led a p m =
          record { meant = record { can = m.matched.can; led = rw (← m.matched.there) at led; matched = m.matched.matched }; held = m.held }

      module _ (Asked : Packet → Type 0) (asked : (p : Packet) → p.hook ≡ hook → Region p → Asked p) where
        taken_by : (at : Hook) (by : Option Step) (leaf : Leaf) → IsLed (table_of s) step hook → IsByThis hook leaf at by → IsWalked s step Region hook leaf → TakesOne s step Asked at by
        taken_by at None leaf led is (a, p, m, here, ends) = (a, p, meant_there led a p m, asked p m.matched.there here, (m.matched.there ∙ sym (is.there refl), shown_by a p leaf None ends is.decides))
        taken_by at (Some x) leaf led is (a, p, m, here, ends) = (a, p, meant_there led a p m, asked p m.matched.there here, shown_by a p leaf (Some x) ends is.decides)

        pub all_take : IsLed (table_of s) step hook → AllTake s step Asked old → AllTake s step Asked new
        all_take led below at by h = elim (takes.only at by h) [
          | inl there ↦ below at by there
          | inr w ↦ taken_by at by w.1 led w.4 (All-contains (IsWalked s step Region hook) leaves w.1 before.each (w.0, w.2, w.3))
        ]

  module _ (Asked : Packet → Type 0) where
    pub nobody_takes : (takers : Takers) → takers.rules.items ≡ [] → takers.policies.items ≡ [] → AllTake s step Asked takers
    nobody_takes takers none off hook None h = absurd (omega (arith, h.1, ap (λ (xs : List Hook). length xs) off))
    nobody_takes takers none off hook (Some x) h = absurd (omega (arith, h.1, ap (λ (xs : List Step). length xs) none))

    -- a hook from which nothing leads to the rule's chain
    pub unled_at : (takers : Takers) (hook : Hook) → (IsLed (table_of s) step hook → ⊥) → IsTakenAt s step Asked takers hook
    unled_at takers hook none = record { dead = λ a p can e asked on. unled_dead s step hook none a p can e on; decided = λ led. absurd (none led) }

    pub taken_on : (hook : Hook) (old new : Takers) → Grows old new → IsTakenAt s step Asked old hook → IsTakenAt s step Asked new hook
    taken_on hook old new g at = record {
      dead = at.dead;
      decided = λ led a p m asked. elim (at.decided led a p m asked) [
        | inl policy ↦ inl (g.kept p.hook None policy.0, policy.1)
        | inr w ↦ (let c = g.kept p.hook (Some w.1) (w.0, w.2, w.3) in inr (c.0, w.1, c.1, c.2, w.4))
      ];
    }

    pub hooks_next : (old new : Takers) (i : ℕ) (d : Hook) → i < 3 → Grows old new → IsTakenAt s step Asked new (get_or all_hooks i d) → ((k : ℕ) (h : Hook) → k < i → IsTakenAt s step Asked old (get_or all_hooks k h))
        → (k : ℕ) (h : Hook) → k < i + 1 → IsTakenAt s step Asked new (get_or all_hooks k h)
    hooks_next old new i d lt grows here below =
        let hook : Hook = get_or all_hooks i d in
        items_next (IsTakenAt s step Asked new) all_hooks i hook lt (get_or_default all_hooks i d hook lt) (λ k h less. taken_on (get_or all_hooks k h) old new grows (below k h less)) here

-- ---- what is said

-- takers that decide something have a packet
pub packet_of : (s : Subject) (step : Step) (takers : Takers) → IsTakenUnder s step takers → (0 < length takers.rules.items) ⊎ (0 < length takers.policies.items) → HasPacketUnder s step
packet_of s step takers is (inl rules) = let (a, p, stake, own) = is.each 0 step rules in (a, p, stake.meant)
packet_of s step takers is (inr policies) = let (a, p, stake, there, own) = is.policies 0 Input policies in (a, p, stake.meant)

-- no packet is decided by nobody
nobody_decides : (t : Table) (takers : Takers) (p : Packet) → takers.rules.items ≡ [] → takers.policies.items ≡ [] → IsDecidedAmong t takers p → ⊥
nobody_decides t takers p none off (inl policy) = absurd (omega (arith, policy.0.1, ap (λ (xs : List Hook). length xs) off))
nobody_decides t takers p none off (inr own) = absurd (omega (arith, own.2, ap (λ (xs : List Step). length xs) none))

pub no_packet : (s : Subject) (step : Step) (takers : Takers) → IsTakenUnder s step takers → takers.rules.items ≡ [] → takers.policies.items ≡ [] → HasPacketUnder s step → ⊥
no_packet s step takers is none off (a, p, meant) =
    let never : (b : Assignment) (q : Packet) → IsAtStakeUnder s b step q → ⊥ = λ b q stake. nobody_decides (answered s b) takers q none off (is.all b q stake) in
    never a p (record { meant = meant; near = inr (λ h. never h.0 h.1 (record { meant = h.2; near = inl h.3 })) })

module _ (s : Subject) (step : Step) (near : Bool) (takers : Takers) (of : AreTakersOf s step near takers) where
  -- those that are named
  pub rule_takes : (k : ℕ) (d : Step) → k < length takers.rules.items → TakesOne s step (IsAsked (table_of s) step near) Input (Some (get_or takers.rules.items k d))
  rule_takes k d lt = of.each Input (Some (get_or takers.rules.items k d)) (Contains-get_or takers.rules.items k d lt)

  pub policy_takes : (k : ℕ) (d : Hook) → k < length takers.policies.items → TakesOne s step (IsAsked (table_of s) step near) (get_or takers.policies.items k d) None
  policy_takes k d lt = of.each (get_or takers.policies.items k d) None (Contains-get_or takers.policies.items k d lt)

  -- if just the packets at stake are asked about
  pub taken_of : ((a : Assignment) (p : Packet) → IsAtStakeUnder s a step p → IsAsked (table_of s) step near p) → ((a : Assignment) (p : Packet) → IsMeantUnder s a step p → IsAsked (table_of s) step near p → IsAtStakeUnder s a step p) → IsTakenUnder s step takers
  taken_of asked stake = record {
    all = λ a p at. of.all a p at.meant (asked a p at);
    each = λ k d lt. (let (a, p, meant, ask, own) = rule_takes k d lt in (a, p, stake a p meant ask, own.1));
    policies = λ k d lt. (let (a, p, meant, ask, own) = policy_takes k d lt in (a, p, stake a p meant ask, own.0, own.1));
    rules = λ k d lt. (rule_takes k d lt).4.0;
    once = of.once;
    apart = of.apart;
  }

-- the packets that may come to the rule's chain, where there are some
pub near_taken : (s : Subject) (step : Step) (takers : Takers) → AreTakersOf s step true takers → (0 < length takers.rules.items) ⊎ (0 < length takers.policies.items) → IsTakenUnder s step takers
near_taken s step takers of some =
    let has : HasLetInUnder s step = elim some [
      | inl rules ↦ (let (a, p, meant, ask, own) = rule_takes s step true takers of 0 step rules in (a, p, meant, ask refl))
      | inr policies ↦ (let (a, p, meant, ask, own) = policy_takes s step true takers of 0 Input policies in (a, p, meant, ask refl))
    ] in
    taken_of s step true takers of (λ a p at. elim at.near [
      | inl here ↦ λ _. here
      | inr none ↦ absurd (none has)
    ]) (λ a p meant ask. record { meant = meant; near = inl (ask refl) })

-- else all of them
pub all_taken : (s : Subject) (step : Step) (near takers : Takers) → AreTakersOf s step true near → near.rules.items ≡ [] → near.policies.items ≡ [] → AreTakersOf s step false takers → IsTakenUnder s step takers
all_taken s step near takers none rules policies of =
    let never : HasLetInUnder s step → ⊥ = λ h. nobody_decides (answered s h.0) near h.1 rules policies (none.all h.0 h.1 h.2 (λ _. h.3)) in
    taken_of s step false takers of (λ a p at e. absurd (true≢false (sym e))) (λ a p meant ask. record { meant = meant; near = inr never })

-- of a call's answer
pub all_found : (s : Subject) (step : Step) (budget : ℕ) (near : Takers) → AreTakersOf s step true near → near.rules.items ≡ [] → near.policies.items ≡ [] → (result : Result (Option Takers) AllocError)
    → IfOk result (λ found. MatchOption found (IsUndecidedUnder s step budget) (λ takers. IsAlwaysDead s (entry_of (table_of s).chains step) × AreTakersOf s step false takers))
    → IfOk result (λ found. MatchOption found (IsUndecidedUnder s step budget) (λ takers. IsAlwaysDead s (entry_of (table_of s).chains step) × IsTakenUnder s step takers))
all_found s step budget near none rules policies result h =
    IfOk-weaker result (λ found. MatchOption found (IsUndecidedUnder s step budget) (λ takers. IsAlwaysDead s (entry_of (table_of s).chains step) × AreTakersOf s step false takers))
    (λ found. MatchOption found (IsUndecidedUnder s step budget) (λ takers. IsAlwaysDead s (entry_of (table_of s).chains step) × IsTakenUnder s step takers)) one h
  where
    one : (found : Option Takers) → MatchOption found (IsUndecidedUnder s step budget) (λ takers. IsAlwaysDead s (entry_of (table_of s).chains step) × AreTakersOf s step false takers)
        → MatchOption found (IsUndecidedUnder s step budget) (λ takers. IsAlwaysDead s (entry_of (table_of s).chains step) × IsTakenUnder s step takers)
    one None h = h
    one (Some takers) h = (h.0, all_taken s step near takers none rules policies h.1)
