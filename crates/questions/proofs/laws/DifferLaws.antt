-- Where alone a comparison may be unclear: packets that can be at the hook, and the verdicts that they get.
use Rattle.std.proofs.Common.{◌≡◌, ◌≢◌, ◌⊎◌, inl, inr, ℕ, zero, suc, ◌<◌, false, List, [], ◌∷◌, length, get_or, refl, sym, ◌∙◌, ap, arith, subst, All, Any}
use Rattle.std.proofs.lemmas.List.Elements.{All-contains}
use Rattle.fields.specs.declared.numbers.field.Field.TheVariants as field
use Rattle.fields.specs.declared.packet.hook.Hook.{Hook}
use Rattle.fields.specs.numbers.Spans.{SpanSet}
use Rattle.fields.specs.Packet.{PacketView as Packet, IsPacket}
use Rattle.classify.specs.Classifier.{IsPoint}
use Rattle.table.specs.declared.walk.trail.Step.{Step}
use Rattle.table.specs.walk.Walk.{Walked}
use Rattle.questions.specs.Foreign.{Agrees, Assignment}
use Rattle.questions.specs.Scopes.{AreExactUnder, AreLeavesUnder, IsOf, IsSurely, ShowsUnder, Whole, answered, known_by, known_under, left_under, scope_of, under, whole_of}
use Rattle.questions.specs.asked.Alike.{IsGivenBy}
use Rattle.questions.specs.asked.Always.{MayLive, SaysAt}
use Rattle.questions.specs.asked.Differing.{AreWrittenAlike, HasPackets, IsNotDead, IsOtherOn, MayDifferOn}
use Rattle.questions.specs.asked.Unclear.{IsUnclearAt}
use Rattle.questions.specs.boxes.Boxes.{Has, HasNumbers, HasOwnInterfaces, IsAtHook, IsBoth, IsIn}
use Rattle.questions.specs.declared.asked.reach.Given.{Given}
use Rattle.questions.specs.declared.asked.rule.Life.{Life}
use Rattle.questions.specs.declared.asked.rule.Life.TheVariants as life
use Rattle.questions.specs.declared.boxes.transport.Transport.{Transport}
use Rattle.questions.specs.declared.boxes.transport.Transport.TheVariants.{Tcp}
use Rattle.questions.specs.declared.foreign.answers.Answer.{Answer}
use Rattle.questions.specs.declared.foreign.subject.Subject.{Subject}
use Rattle.questions.specs.declared.walking.scope.Scope.{Scope}
use Rattle.questions.specs.declared.walking.task.Leaf.{Leaf}
use Rattle.questions.specs.steps.Compared.{AreWalked, CantBeFollowed, GivesWritten, IsOtherIn, IsUnwritten, MayDifferAmong, MayDifferIn}
use Rattle.questions.specs.steps.Exact.{AreExact, AreExactWalksUnder, IsExactUnder, IsMet, IsShown}
use Rattle.questions.specs.steps.Transports.{AreByTransport, IsWithTransport, all_transports}
use Rattle.questions.proofs.laws.AnswerLaws.{some_assignment_gives}
use Rattle.questions.proofs.laws.ExactLaws.{exact_walks_of}
use Rattle.questions.proofs.laws.PacketLaws.{written_at_hooks}
use Rattle.questions.proofs.laws.ReachLaws.{packet_with, with_inside, with_packet}
use Rattle.questions.proofs.laws.TransportLaws.{at_hook_of, fits_of, some_transport}

-- the packets of a box at a hook
abbrev given_at : Hook → List SpanSet → Given
given_at hook box = record { hook = hook; area = box }

-- ---- packets that can be at the hook

module _ (hook : Hook) (box there : List SpanSet) (met : IsMet (given_at hook box) (given_at hook there)) where
  -- a box with numbers, inside of what can be there, has a packet
  has_one : (part : List SpanSet) → HasNumbers part → ((numbers : List ℕ) → IsPoint numbers → Has part numbers → Has there numbers) → ((p : Packet) → IsPacket p → HasOwnInterfaces p → IsIn part p → IsAtHook p)
      → (p : Packet) × IsAtHook p × (p.hook ≡ hook) × IsIn part p × IsIn box p
  has_one part some inside can =
      let n = some field.Source in
      let p : Packet = packet_with hook part some field.Source n.0 n.1 n.2 in
      let is : IsPacket p = with_packet hook part some field.Source n.0 n.1 n.2 in
      let own : IsIn part p = with_inside hook part some field.Source n.0 n.1 n.2 in
      let within : IsIn there p = inside p.values is.within own in
      (p, can p is (met.own p is refl within) own, refl, own, met.only p is within)

  part_one : (transport : Transport) (part : List SpanSet) → IsWithTransport transport there part → HasNumbers part → HasPackets hook box
  part_one transport part with some =
      let w = has_one part some with.own (λ p is own inside. at_hook_of transport p is own (with.with p.values is.within inside)) in
      (w.0, w.1, w.2, w.4)

  pub some_there : (boxes : List (List SpanSet)) → AreByTransport there boxes → Any HasNumbers boxes → HasPackets hook box
  some_there boxes are (k, part, lt, is, some) =
      let transport : Transport = get_or all_transports k Tcp in
      part_one transport part (rw is at (are.each k Tcp part (omega (arith, lt, are.long)))) some

  pub none_there : (boxes : List (List SpanSet)) → AreByTransport there boxes → All (λ (part : List SpanSet). (numbers : List ℕ) → Has part numbers → ⊥) boxes → HasPackets hook box → ⊥
  none_there boxes are none (p, can, at, inside) =
      let w = some_transport p can.packet in
      let within : IsIn there p = met.all p (record { can = can; there = at; inside = inside }) in
      let lt : w.0 < length all_transports = omega (arith, w.1) in
      none w.0 [] (omega (arith, w.1, are.long)) p.values ((are.each w.0 Tcp [] lt).all p.values can.packet.within within (fits_of (get_or all_transports w.0 Tcp) p can w.2))

  -- ---- leaves, cut into boxes of such packets

  module _ (t : Whole) (answers : List Answer) (found exact : List Leaf) (walked : AreWalked t hook (under box answers) found) where
    abbrev Cut : Type 0
    Cut = (a : Assignment) → All (IsShown (left_under t a) (known_under t a) hook (under there answers)) found → AreExact (left_under t a) (known_under t a) hook (under there answers) found exact

    -- a packet of the box that can be there is of the smaller one, and the other way round
    inner : (a : Assignment) (p : Packet) → IsAtHook p → p.hook ≡ hook → IsOf (known_under t a) p (under box answers) → IsOf (known_under t a) p (under there answers)
    inner a p can at own = record { inside = met.all p (record { can = can; there = at; inside = own.inside }); agrees = own.agrees }

    outer : (a : Assignment) (p : Packet) → IsAtHook p → IsOf (known_under t a) p (under there answers) → IsOf (known_under t a) p (under box answers)
    outer a p can own = record { inside = met.only p can.packet own.inside; agrees = own.agrees }

    shown : (a : Assignment) → All (IsShown (left_under t a) (known_under t a) hook (under there answers)) found
    shown a k d lt = record {
      walked = λ p can at own. (let (of, is) = walked.exact a p can at k d lt own in (inner a p can at of, is));
      decided = walked.decided a k d lt;
    }

    exact_walks : Cut → (a : Assignment) → AreExactWalksUnder (left_under t a) (known_under t a) hook (under there answers) exact
    exact_walks cut a = exact_walks_of (left_under t a) (known_under t a) hook (under there answers) found exact (λ p can at own. walked.leaves a p can at (outer a p can own)) (cut a (shown a))

    pub walked_exact : Cut → AreWalked t hook (under box answers) exact
    walked_exact cut = record {
      leaves = λ a p can at own.
          (let (k, leaf, lt, is, of) = (exact_walks cut a).all p can at (inner a p can at own) in
          let ex : IsExactUnder (left_under t a) (known_under t a) hook (under there answers) leaf = All-contains (IsExactUnder (left_under t a) (known_under t a) hook (under there answers)) exact leaf (exact_walks cut a).each (k, lt, is) in
          (k, leaf, lt, is, record { own = of; walked = (ex.shown.walked p can at of).1 }));
      exact = λ a p can at k d lt own. (let (of, is) = ((exact_walks cut a).each k d lt).shown.walked p can at own in (outer a p can of, is));
      decided = λ a k d lt. ((exact_walks cut a).each k d lt).shown.decided;
    }

    pub each_has : Cut → All (λ (leaf : Leaf). HasPackets hook leaf.area) exact
    each_has cut k d lt =
        let ex = (exact_walks cut (λ condition. false)).each k d lt in
        let w = has_one (get_or exact k d).area ex.some ex.inside ex.can in
        (w.0, w.1, w.2, w.3)

-- ---- the packets of a leaf in the second table

-- the walk of a copy of the leaf's packets is that of the leaf's
pub walked_from : (new : Subject) (hook : Hook) (leaf : Leaf) (start : Scope) (found : List Leaf) → IsBoth leaf.area leaf.area start.area → start.answers ≡ leaf.answers
    → ((a : Assignment) → AreLeavesUnder (answered new a) (known_by new a) hook start found) → ((a : Assignment) → AreExactUnder (answered new a) (known_by new a) hook start found) → ((a : Assignment) → All (IsSurely (known_by new a)) found)
    → AreWalked (whole_of new) hook (scope_of leaf) found
walked_from new hook leaf start found copy same leaves exact decided = record {
  leaves = λ a p can at own.
      (let A : List Answer → Type 0 = λ l. Agrees a l in
      leaves a p can at (record { inside = copy.all p.values can.packet.within own.inside own.inside; agrees = subst A (sym same) own.agrees }));
  exact = λ a p can at k d lt own.
      (let A : List Answer → Type 0 = λ l. Agrees a l in
      let (of, is) = exact a p can at k d lt own in
      (record { inside = copy.first p.values can.packet.within of.inside; agrees = subst A same of.agrees }, is));
  decided = decided;
}

pub other_there : (t : Whole) (hook : Hook) (leaf : Leaf) (exact : List Leaf) → AreWalked t hook (scope_of leaf) exact → All (λ (l : Leaf). HasPackets hook l.area) exact → Any (λ (l : Leaf). l.verdict ≢ leaf.verdict) exact → IsOtherIn t hook leaf
other_there t hook leaf exact walked has (k, other, lt, is, differs) =
    let (a, agrees) = some_assignment_gives other.answers other.consistent in
    let (p, can, at, inside) = All-contains (λ (l : Leaf). HasPackets hook l.area) exact other has (k, lt, is) in
    let shows : ShowsUnder (left_under t a) (known_under t a) (scope_of leaf) p other = All-contains (ShowsUnder (left_under t a) (known_under t a) (scope_of leaf) p) exact other (walked.exact a p can at) (k, lt, is) in
    let (of, walks) = shows (record { inside = inside; agrees = agrees }) in
    (a, p, can, at, of, λ e. differs (sym (ap (λ (w : Walked). w.verdict) walks) ∙ e))

pub written_given : (t : Whole) (hook : Hook) (leaf : Leaf) (found : List Leaf) → AreWalked t hook (scope_of leaf) found → All (IsUnwritten hook leaf.verdict) found → GivesWritten t hook leaf
written_given t hook leaf found walked none a p written at own =
    let (k, other, lt, is, ends) = walked.leaves a p (written_at_hooks written.0 p written.1) at own in
    elim (All-contains (IsUnwritten hook leaf.verdict) found other none (k, lt, is)) [
      | inl same ↦ ap (λ (w : Walked). w.verdict) ends.walked ∙ same
      | inr unwritten ↦ absurd (unwritten p written at ends.own.inside)
    ]

pub given_written : (new : Subject) (hook : Hook) (leaf : Leaf) → IsGivenBy new hook leaf → GivesWritten (whole_of new) hook leaf
given_written new hook leaf given a p written at own = given a p (written_at_hooks written.0 p written.1) at own

-- ---- leaf after leaf

-- what is told of each
abbrev pub IsTold : Whole → Hook → ℕ → Leaf → Type 0
IsTold t hook budget leaf = CantBeFollowed t hook budget leaf ⊎ GivesWritten t hook leaf

pub told : (t : Whole) (hook : Hook) (budget : ℕ) (leaf : Leaf) → MayDifferIn t hook budget leaf → IsTold t hook budget leaf
told t hook budget leaf may = elim may [ inl cant ↦ inl cant | inr both ↦ inr both.1 ]

-- for one item the first holds, or for all the second does
pub some_or_all : {X : Type 0} (P Q : X → Type 0) (xs : List X) → All (λ x. P x ⊎ Q x) xs → Any P xs ⊎ All Q xs
some_or_all P Q [] all = inr (λ k d lt. absurd (omega (arith, lt)))
some_or_all {X} P Q (x ∷ xs) all =
    elim (all 0 x (omega arith)) [
      | inl here ↦ inl (0, x, omega arith, refl, here)
      | inr own ↦ elim (some_or_all P Q xs (λ k d lt. all (suc k) d (omega (arith, lt)))) [
        | inl w ↦ inl (suc w.0, w.1, omega (arith, w.2), w.3, w.4)
        | inr rest ↦ inr (each own rest)
      ]
    ]
  where
    each : Q x → All Q xs → (k : ℕ) (d : X) → k < length (x ∷ xs) → Q (get_or (x ∷ xs) k d)
    each own rest zero d lt = own
    each own rest (suc k) d lt = rest k d (omega (arith, lt))

pub may_among : (t : Whole) (hook : Hook) (budget : ℕ) (found : List Leaf) → All (IsTold t hook budget) found → Any (MayDifferIn t hook budget) found → MayDifferAmong t hook budget found
may_among t hook budget found all (k, leaf, lt, is, may) =
    elim may [
      | inl cant ↦ inl (k, leaf, lt, is, cant)
      | inr both ↦ elim (some_or_all (CantBeFollowed t hook budget) (GivesWritten t hook) found all) [
        | inl some ↦ inl some
        | inr written ↦ inr ((k, leaf, lt, is, both.0), written)
      ]
    ]

-- ---- the packets of a scope

module _ (old new : Subject) (hook : Hook) (start : Scope) (found : List Leaf) (leaves : (a : Assignment) → AreLeavesUnder (answered old a) (known_by old a) hook start found)
    (exact : (a : Assignment) → AreExactUnder (answered old a) (known_by old a) hook start found) where
  shows_in : (a : Assignment) (p : Packet) → IsAtHook p → p.hook ≡ hook → (k : ℕ) (leaf : Leaf) → k < length found → get_or found k leaf ≡ leaf → ShowsUnder (answered old a) (known_by old a) start p leaf
  shows_in a p can at k leaf lt is = All-contains (ShowsUnder (answered old a) (known_by old a) start p) found leaf (exact a p can at) (k, lt, is)

  other_on : Any (IsOtherIn (whole_of new) hook) found → IsOtherOn (whole_of old) (whole_of new) hook start
  other_on (k, leaf, lt, is, (a, p, can, at, own, differs)) =
      let (of, walks) = shows_in a p can at k leaf lt is (record { inside = own.inside; agrees = own.agrees }) in
      (a, p, can, at, of, λ alike. differs (sym alike ∙ ap (λ (w : Walked). w.verdict) walks))

  written_on : All (GivesWritten (whole_of new) hook) found → AreWrittenAlike (whole_of old) (whole_of new) hook start
  written_on all a p written at own =
      let (k, leaf, lt, is, ends) = leaves a p (written_at_hooks written.0 p written.1) at own in
      ap (λ (w : Walked). w.verdict) ends.walked
      ∙ sym (All-contains (GivesWritten (whole_of new) hook) found leaf all (k, lt, is) a p written at (record { inside = ends.own.inside; agrees = ends.own.agrees }))

  pub may_on : (budget : ℕ) → MayDifferAmong (whole_of new) hook budget found → MayDifferOn (whole_of old) (whole_of new) hook budget start
  may_on budget may =
      elim may [
        | inl some ↦ inr (inl (
          some.1,
          some.4.1.0,
          record { some = some.4.0; shown = λ a p can at. shows_in a p can at some.0 some.1 some.2 some.3 },
          some.4.1.1,
          some.4.1.2,
          some.4.1.3,
        ))
        | inr both ↦ inr (inr (other_on both.0, written_on both.1))
      ]

-- ---- a rule that isn't known to be dead

-- a live one isn't, nor is one of which nothing is known
pub not_dead : (s : Subject) (step : Step) (hook : Hook) (budget : ℕ) (said : Life) → (said ≡ life.Dead → ⊥) → SaysAt s step hook said → IsUnclearAt (MayLive s step budget hook) said → IsNotDead (whole_of s) step hook budget
not_dead s step hook budget life.Dead other says may = absurd (other refl)
not_dead s step hook budget (life.Live words answers) other says may =
    inl (λ dead.
    (let (a, agrees) = some_assignment_gives answers says.0 in
    let (p, writes, there, on) = says.1 a agrees in
    dead a p (written_at_hooks words p writes) there on))
not_dead s step hook budget life.Unclear other says may = inr may
