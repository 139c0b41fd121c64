-- Leaves that have only packets which can be at their hook.
use Rattle.std.proofs.Common.{◌≡◌, ℕ, zero, suc, inl, inr, Any, ◌+◌, ◌-◌, ◌<◌, ◌≤◌, Bool, true, false, cond, List, [], ◌∷◌, ◌++◌, length, get_or, refl, sym, ◌∙◌, ap, arith, subst, Option, None, All, IfSome, slice_get}
use Rattle.std.proofs.lemmas.List.{get_or_default}
use Rattle.std.proofs.lemmas.List.Elements.{All-append, All-contains, Contains-append_cases, Contains-append_left, Contains-append_right}
use Rattle.std.proofs.lemmas.List.Quantifiers.{Any-push}
use Rattle.fields.specs.declared.packet.hook.Hook.{Hook}
use Rattle.fields.specs.numbers.Spans.{SpanSet}
use Rattle.fields.specs.Packet.{PacketView as Packet, IsPacket}
use Rattle.classify.specs.Classifier.{IsPoint}
use Rattle.table.specs.chains.Table.{Chain, Table}
use Rattle.table.specs.declared.verdict.Verdict.{Verdict}
use Rattle.table.specs.declared.walk.trail.Step.{Step}
use Rattle.table.specs.walk.Walk.{Walked}
use Rattle.questions.specs.Ends.{step_of}
use Rattle.questions.specs.Foreign.{Agrees, Assignment, resolved}
use Rattle.questions.specs.Leaves.{AreExactOn}
use Rattle.questions.specs.Scopes.{AreExactUnder, AreLeavesUnder, IsOf, IsSurely, Known, entries_by, is_met, scope_of, unasked, walked_by}
use Rattle.questions.specs.boxes.Boxes.{Has, HasOwnInterfaces, IsAtHook, IsBoth, IsIn}
use Rattle.questions.specs.declared.asked.reach.Given.{Given}
use Rattle.questions.specs.declared.foreign.answers.Answer.{Answer}
use Rattle.questions.specs.declared.foreign.need.Need.{Need}
use Rattle.questions.specs.declared.walking.scope.Scope.{Scope}
use Rattle.questions.specs.declared.walking.task.Leaf.{Leaf}
use Rattle.questions.specs.declared.boxes.transport.Transport.{Transport}
use Rattle.questions.specs.declared.boxes.transport.Transport.TheVariants.{Tcp}
use Rattle.questions.specs.steps.Exact.{AddsExact, AreExact, AreExactIn, AreExactWalks, AreExactWalksUnder, IsCovered, IsExactIn, IsExactUnder, IsInAny, IsMet, IsPartIn, IsShare, IsShown}
use Rattle.questions.specs.steps.Transports.{HasTransport, IsWithTransport, all_transports}
use Rattle.questions.proofs.laws.BoxesLaws.{Pair, pair_more}
use Rattle.questions.proofs.laws.ReachLaws.{any_left}
use Rattle.questions.proofs.laws.PlainLaws.{exact_plain, gives_none}
use Rattle.questions.proofs.laws.TrailLaws.{items_next}
use Rattle.questions.proofs.laws.TransportLaws.{at_hook_of, fits_of, some_transport}

-- the packets of a box that can be at a hook
pub met_of : (given : Given) (there area : List SpanSet) → ((p : Packet) → IsAtHook p → p.hook ≡ given.hook → IsIn there p) → ((p : Packet) → IsPacket p → p.hook ≡ given.hook → IsIn there p → HasOwnInterfaces p) → IsBoth there given.area area
    → IsMet given (record { hook = given.hook; area = area })
met_of given there area all only both = record {
  there = refl;
  all = λ p meant. both.all p.values meant.can.packet.within (all p meant.can meant.there) meant.inside;
  own = λ p is e inside. only p is e (both.first p.values is.within inside);
  only = λ p is inside. both.second p.values is.within inside;
}

-- ---- the packets of a box by their transport headers

abbrev pub Transports : List SpanSet → List (List SpanSet) → ℕ → Type 0
Transports box boxes n = Pair (λ transport own. IsWithTransport transport box own) all_transports boxes n

-- those of a copy of the box
pub transport_next : (box copy own : List SpanSet) (boxes more : List (List SpanSet)) (n : ℕ) → n < length all_transports → IsBoth box box copy → more ≡ boxes ++ own ∷ [] → IsWithTransport (get_or all_transports n Tcp) copy own → Transports box boxes n
    → Transports box more (n + 1)
transport_next box copy own boxes more n lt both is with pairs =
    pair_more (λ transport one. IsWithTransport transport box one) all_transports boxes more own n is pairs
    (λ transport.
    (let P : Transport → Type 0 = λ x. IsWithTransport x box own in
    subst P (get_or_default all_transports n Tcp transport lt)
    (record {
      all = λ numbers point h fit. with.all numbers point (both.all numbers point h h) fit;
      own = λ numbers point h. both.first numbers point (with.own numbers point h);
      with = with.with;
    })))

-- ---- the parts of a leaf

-- a part shows the same walk, with the same decider
module _ (leaf part : Leaf) (own : List SpanSet) (share : IsShare leaf own part) where
  part_walk : (known : Known) (cs : List Chain) → walked_by known cs part ≡ walked_by known cs leaf
  part_walk known cs =
      ap (λ steps. shows steps part.verdict part.by_policy) share.trail ∙ ap (λ v. shows leaf.trail.items v part.by_policy) share.verdict ∙ ap (shows leaf.trail.items leaf.verdict) share.by_policy
    where
      shows : List Step → Verdict → Bool → Walked
      shows steps verdict by_policy = record { trail = entries_by known cs steps; verdict = verdict; by_policy = by_policy }

  part_decider : step_of part ≡ step_of leaf
  part_decider = ap (decides part.by_policy) share.trail ∙ ap (λ b. decides b leaf.trail.items) share.by_policy
    where
      decides : Bool → List Step → Option Step
      decides b steps = cond b None (slice_get steps (length steps - 1))

module _ (scope : Scope) (leaf : Leaf) (transport : Transport) (own : List SpanSet) (with : IsWithTransport transport scope.area own) where
  same_answers : (known : Known) (part : Leaf) → IsShare leaf own part → Agrees known.holds part.answers → Agrees known.holds leaf.answers
  same_answers known part share agrees = let A : List Answer → Type 0 = λ answers. Agrees known.holds answers in subst A share.answers agrees

  part_shown : (t : Table) (known : Known) (hook : Hook) (part : Leaf) → IsShown t known hook scope leaf → IsShare leaf own part → IsShown t known hook scope part
  part_shown t known hook part shown share = record {
    walked = λ p can there is.
        (let (of, walked) = shown.walked p can there (record { inside = share.both.first p.values can.packet.within is.inside; agrees = same_answers known part share is.agrees }) in
        (of, walked ∙ sym (part_walk leaf part own share known t.chains)));
    decided = λ agrees.
        (let Met : Option Step → Type 0 = λ o. IfSome o (λ step. is_met known step ≡ true) in
        subst Met (sym (part_decider leaf part own share)) (shown.decided (same_answers known part share agrees)));
  }

  -- it has only packets that can be at the hook
  pub exact_part : (t : Table) (known : Known) (hook : Hook) (part : Leaf) → IsShown t known hook scope leaf → IsShare leaf own part → IsExactUnder t known hook scope part
  exact_part t known hook part shown share =
      let in_own : (numbers : List ℕ) → IsPoint numbers → Has part.area numbers → Has own numbers = share.both.second in
      record {
        inside = λ numbers point h. with.own numbers point (in_own numbers point h);
        can = λ p is mine h. at_hook_of transport p is mine (with.with p.values is.within (in_own p.values is.within h));
        some = share.some;
        shown = part_shown t known hook part shown share;
      }

  -- it has each packet with the transport header that the leaf and the scope share
  shared : (p : Packet) → IsAtHook p → HasTransport transport p → IsIn scope.area p → IsIn own p
  shared p can h inside = with.all p.values can.packet.within inside (fits_of transport p can h)

  pub part_has : (known : Known) (part : Leaf) → IsShare leaf own part → (p : Packet) → IsAtHook p → HasTransport transport p → IsOf known p scope → IsOf known p (scope_of leaf) → IsOf known p (scope_of part)
  part_has known part share p can h of there =
      record { inside = share.both.all p.values can.packet.within there.inside (shared p can h of.inside); agrees = rw (← share.answers) at there.agrees }

  -- where it has none there are none
  pub part_none : (known : Known) → IsPartIn leaf own None → (p : Packet) → IsAtHook p → HasTransport transport p → IsOf known p scope → IsOf known p (scope_of leaf) → ⊥
  part_none known none p can h of there = none p.values can.packet.within there.inside (shared p can h of.inside)

-- ---- transport header after transport header

module _ (known : Known) (scope : Scope) (leaf : Leaf) where
  -- the packets with one of them
  abbrev AreShared : List Leaf → Transport → Type 0
  AreShared exact transport = (p : Packet) → IsAtHook p → HasTransport transport p → IsOf known p scope → IsOf known p (scope_of leaf) → IsInAny known p exact

  -- with one of the first so many
  abbrev pub AreSharedBelow : List Leaf → ℕ → Type 0
  AreSharedBelow exact count = (k : ℕ) (d : Transport) → k < count → AreShared exact (get_or all_transports k d)

  pub shared_begins : (exact : List Leaf) → AreSharedBelow exact 0
  shared_begins exact k d lt = absurd (omega (arith, lt))

  module _ (i : ℕ) (lt : i < length all_transports) where
    abbrev here : Transport
    here = get_or all_transports i Tcp

    next : (exact : List Leaf) → AreSharedBelow exact i → AreShared exact here → AreSharedBelow exact (i + 1)
    next exact below own = items_next (AreShared exact) all_transports i here lt (get_or_default all_transports i Tcp here lt) below own

    pub shared_nobody : (exact : List Leaf) → AreSharedBelow exact i → ((p : Packet) → IsAtHook p → HasTransport here p → IsOf known p scope → IsOf known p (scope_of leaf) → ⊥) → AreSharedBelow exact (i + 1)
    shared_nobody exact below none = next exact below (λ p can h of there. absurd (none p can h of there))

    pub shared_one : (exact : List Leaf) (own : Leaf) → AreSharedBelow exact i → ((p : Packet) → IsAtHook p → HasTransport here p → IsOf known p scope → IsOf known p (scope_of leaf) → IsOf known p (scope_of own))
        → AreSharedBelow (exact ++ own ∷ []) (i + 1)
    shared_one exact own below shared =
        next (exact ++ own ∷ []) (λ k d less p can h of there. any_left (λ (l : Leaf). IsOf known p (scope_of l)) exact (own ∷ []) (below k d less p can h of there))
        (λ p can h of there. Any-push (λ (l : Leaf). IsOf known p (scope_of l)) exact own (shared p can h of there))

  -- with any of them
  pub shared_all : (exact : List Leaf) (i : ℕ) → 5 ≤ i → AreSharedBelow exact i → IsCovered known scope exact leaf
  shared_all exact i le below p can of there =
      let w = some_transport p can.packet in
      below w.0 Tcp (omega (arith, w.1, le)) p can w.2 of there

-- ---- leaf after leaf

module _ (t : Table) (known : Known) (hook : Hook) (scope : Scope) (found : List Leaf) (i : ℕ) (leaf : Leaf) (lt : i < length found) (is : leaf ≡ get_or found i leaf) where
  pub covered_next : (old new : List Leaf) → AddsExact t known hook scope leaf old new → ((k : ℕ) (d : Leaf) → k < i → IsCovered known scope old (get_or found k d)) → (k : ℕ) (d : Leaf) → k < i + 1
      → IsCovered known scope new (get_or found k d)
  covered_next old new adds below = items_next (IsCovered known scope new) found i leaf lt is (λ k d less p can of there. adds.kept p (below k d less p can of there)) adds.covered

  -- what is shown by each is shown by one
  pub shown_at : All (IsShown t known hook scope) found → IsShown t known hook scope leaf
  shown_at all = let P : Leaf → Type 0 = λ l. IsShown t known hook scope l in subst P (sym is) (all i leaf lt)

module _ (t : Table) (known : Known) (hook : Hook) (scope : Scope) (found : List Leaf) where
  -- leaves show the walks of their packets
  pub all_shown : AreExactUnder t known hook scope found → All (IsSurely known) found → All (IsShown t known hook scope) found
  all_shown exact surely k d lt = record { walked = λ p can there. exact p can there k d lt; decided = surely k d lt }

  -- the exact leaves of all leaves
  pub exact_walks_of : (exact : List Leaf) → AreLeavesUnder t known hook scope found → AreExact t known hook scope found exact → AreExactWalksUnder t known hook scope exact
  exact_walks_of exact leaves is = record {
    each = is.each;
    all = λ p can there of.
        (let w = leaves p can there of in
        let own : IsCovered known scope exact w.1 = All-contains (IsCovered known scope exact) found w.1 is.all (w.0, w.2, w.3) in
        own p can of w.4.own);
  }

-- ---- where no rule needs anything

pub exact_walks_plain : (t : Table) (needs : List (List (List Need))) → needs ≡ [] → (hook : Hook) (box : List SpanSet) (exact : List Leaf)
    → ((a : Assignment) → AreExactWalksUnder (resolved needs a t) (record { needs = needs; holds = a }) hook (unasked box) exact) → AreExactWalks t (record { hook = hook; area = box }) exact
exact_walks_plain t needs none hook box exact all =
    let any : Assignment = λ condition. false in
    let shown : AreExactOn t hook box exact = exact_plain t needs none hook box exact (λ a p can there k d lt. ((all a).each k d lt).shown.walked p can there) in
    record {
      each = λ k d lt.
          (let is = (all any).each k d lt in
          record { inside = is.inside; can = is.can; some = is.some; walked = λ p can there inside. (shown p can there k d lt inside).1 });
      all = λ p can there inside.
          (let (k, leaf, lt, is, of) = (all any).all p can there (record { inside = inside; agrees = gives_none any }) in
          (k, leaf, lt, is, of.inside));
    }

-- ---- the packets of some boxes

-- those of one box
pub exact_in_box : (t : Table) (needs : List (List (List Need))) → needs ≡ [] → (given met : Given) (m : IsMet given met) (exact : List Leaf)
    → ((a : Assignment) → AreExactWalksUnder (resolved needs a t) (record { needs = needs; holds = a }) met.hook (unasked met.area) exact) → AreExactIn t given.hook (given.area ∷ []) exact
exact_in_box t needs none given met m exact all =
    let walks : AreExactWalks t met exact = exact_walks_plain t needs none met.hook met.area exact all in
    record {
      each = λ k d lt. record { box = given.area; among = (0, omega arith, refl); met = met; of = m; exact = walks.each k d lt };
      all = λ p can there some.
          (let inside = any_one (λ (box : List SpanSet). IsIn box p) given.area some in
          walks.all p can (there ∙ sym m.there) (m.all p (record { can = can; there = there; inside = inside })));
    }
  where
    any_one : {X : Type 0} (P : X → Type 0) (x : X) → Any P (x ∷ []) → P x
    any_one P x (zero, y, lt, at, h) = subst P (sym at) h
    any_one P x (suc k, y, lt, at, h) = absurd (omega (arith, lt))

-- and those of further boxes
module _ (t : Table) (hook : Hook) (boxes more : List (List SpanSet)) (old new : List Leaf) (first : AreExactIn t hook boxes old) (rest : AreExactIn t hook more new) where
  left : (leaf : Leaf) → IsExactIn t hook boxes leaf → IsExactIn t hook (boxes ++ more) leaf
  left leaf is = record { box = is.box; among = Contains-append_left boxes more is.box is.among; met = is.met; of = is.of; exact = is.exact }

  right : (leaf : Leaf) → IsExactIn t hook more leaf → IsExactIn t hook (boxes ++ more) leaf
  right leaf is = record { box = is.box; among = Contains-append_right boxes more is.box is.among; met = is.met; of = is.of; exact = is.exact }

  pub exact_in_more : AreExactIn t hook (boxes ++ more) (old ++ new)
  exact_in_more = record {
    each = All-append (IsExactIn t hook (boxes ++ more)) old new (λ k d lt. left (get_or old k d) (first.each k d lt)) (λ k d lt. right (get_or new k d) (rest.each k d lt));
    all = λ p can there (k, box, lt, at, h).
        elim (Contains-append_cases boxes more box (k, lt, at)) [
          | inl (j, less, is) ↦ any_left (λ (leaf : Leaf). Has leaf.area p.values) old new (first.all p can there (j, box, less, is, h))
          | inr (j, less, is) ↦ any_right (λ (leaf : Leaf). Has leaf.area p.values) old new (rest.all p can there (j, box, less, is, h))
        ];
  }
    where
      any_right : {X : Type 0} (P : X → Type 0) (xs ys : List X) → Any P ys → Any P (xs ++ ys)
      any_right P xs ys (k, x, lt, at, h) = (let c = Contains-append_right xs ys x (k, lt, at) in (c.0, x, c.1, c.2, h))
