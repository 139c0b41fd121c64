-- Claims about the verdicts of packets.
use Rattle.std.proofs.Common.{◌≡◌, ◌⊎◌, inl, inr, ℕ, List, Ok, sym, ap, ◌∙◌, subst, All, Any, Contains}
use Rattle.std.proofs.lemmas.List.Elements.{All-contains, All-nil}
use Rattle.fields.specs.declared.numbers.field.Field.TheVariants as field
use Rattle.fields.specs.numbers.Spans.{SpanSet}
use Rattle.fields.specs.Packet.{PacketView as Packet, IsPacket, packet_of}
use Rattle.table.specs.declared.verdict.Verdict.{Verdict}
use Rattle.table.specs.walk.Walk.{Walked, walk}
use Rattle.questions.specs.Foreign.{AreConsistent, Assignment}
use Rattle.questions.specs.Scopes.{IsOf, Whole, answered, known_under, left_under, scope_of, unasked, whole_of}
use Rattle.questions.specs.asked.Alike.{HoldsWith}
use Rattle.questions.specs.asked.Claims.{CantBeWalked, IsAgainst, IsKept, IsShownAgainst, IsUnwritten, OneCantBeWalked}
use Rattle.questions.specs.asked.Reach.{IsMeant}
use Rattle.questions.specs.boxes.Boxes.{IsAtHook, IsIn}
use Rattle.questions.specs.declared.asked.other.Shown.{Shown}
use Rattle.questions.specs.declared.asked.reach.Given.{Given}
use Rattle.questions.specs.declared.asked.reach.GivenPackets.{GivenPackets}
use Rattle.questions.specs.declared.foreign.answers.Answer.{Answer}
use Rattle.questions.specs.declared.foreign.subject.Subject.{Subject}
use Rattle.questions.specs.declared.walking.task.Leaf.{Leaf}
use Rattle.questions.specs.steps.Claimed.{AreWalked, HasNoneOf, HasOne, IsFree, IsOfForbidden, IsOne, IsPassing, MayFail}
use Rattle.questions.specs.steps.Exact.{IsExactUnder, IsMet}
use Rattle.questions.proofs.laws.AnswerLaws.{some_assignment_gives}
use Rattle.questions.proofs.laws.DifferLaws.{some_or_all}
use Rattle.questions.proofs.laws.PacketLaws.{written_at_hooks}
use Rattle.questions.proofs.laws.ReachLaws.{packet_with, with_inside, with_packet}

-- ---- the packets of a box, by their leaves

module _ (t : Whole) (given : Given) (forbidden : List Verdict) (exact : List Leaf) (walked : AreWalked t given exact) where
  abbrev met : Given
  met = walked.0

  is_met : IsMet given met
  is_met = walked.1

  leaf_at : (a : Assignment) (leaf : Leaf) → Contains exact leaf → IsExactUnder (left_under t a) (known_under t a) met.hook (unasked met.area) leaf
  leaf_at a leaf c = All-contains (IsExactUnder (left_under t a) (known_under t a) met.hook (unasked met.area)) exact leaf (walked.2 a).each c

  -- a packet of a leaf is one of the box's, and gets the leaf's verdict
  of_leaf : (a : Assignment) (leaf : Leaf) → Contains exact leaf → (p : Packet) → IsAtHook p → p.hook ≡ given.hook → IsOf (known_under t a) p (scope_of leaf)
      → IsMeant given p × ((walk (left_under t a) p).verdict ≡ leaf.verdict)
  of_leaf a leaf c p can there own =
      let (of, shows) = (leaf_at a leaf c).shown.walked p can (there ∙ sym is_met.there) own in
      (record { can = can; there = there; inside = is_met.only p can.packet of.inside }, ap (λ (w : Walked). w.verdict) shows)

  -- each packet of the box is one of a leaf's
  in_leaf : (a : Assignment) (p : Packet) → IsMeant given p → Any (λ (leaf : Leaf). IsOf (known_under t a) p (scope_of leaf)) exact
  in_leaf a p meant =
      (walked.2 a).all p meant.can (meant.there ∙ sym is_met.there) (record { inside = is_met.all p meant; agrees = All-nil (λ (answer : Answer). a answer.condition ≡ answer.holds) })

  pub none_is : All (λ (leaf : Leaf). Contains forbidden leaf.verdict → ⊥) exact → (a : Assignment) (p : Packet) → IsOne (left_under t a) given forbidden p → ⊥
  none_is none a p one =
      let (k, leaf, lt, at, own) = in_leaf a p one.meant in
      let (meant, verdict) = of_leaf a leaf (k, lt, at) p one.meant.can one.meant.there own in
      All-contains (λ (l : Leaf). Contains forbidden l.verdict → ⊥) exact leaf none (k, lt, at) (rw verdict at one.gets)

  pub fails_by : (shown : Shown) → IsOfForbidden given.hook forbidden exact shown
      → HoldsWith shown.answers (λ a. (p : Packet) × (packet_of shown.words ≡ Ok p) × IsOne (left_under t a) given forbidden p)
  fails_by shown (k, leaf, lt, at, (has, answers, (p, sample))) = record {
    consistent = (let C : List Answer → Type 0 = λ l. AreConsistent l in subst C (sym answers) leaf.consistent);
    each = rw answers (λ a agrees.
        let (meant, verdict) = of_leaf a leaf (k, lt, at) p (written_at_hooks shown.words p sample.writes) sample.there (record { inside = sample.inside; agrees = agrees }) in
        let V : Verdict → Type 0 = λ v. Contains forbidden v in
        (p, sample.writes, record { meant = meant; gets = subst V (sym verdict) has }));
  }

  pub some_is : Any (λ (leaf : Leaf). Contains forbidden leaf.verdict) exact → HasOne t given forbidden
  some_is (k, leaf, lt, at, has) =
      let (a, agrees) = some_assignment_gives leaf.answers leaf.consistent in
      let ex = leaf_at a leaf (k, lt, at) in
      let n = ex.some field.Source in
      let p : Packet = packet_with met.hook leaf.area ex.some field.Source n.0 n.1 n.2 in
      let is : IsPacket p = with_packet met.hook leaf.area ex.some field.Source n.0 n.1 n.2 in
      let own : IsIn leaf.area p = with_inside met.hook leaf.area ex.some field.Source n.0 n.1 n.2 in
      let within : IsIn met.area p = ex.inside p.values is.within own in
      let can : IsAtHook p = ex.can p is (is_met.own p is is_met.there within) own in
      let (meant, verdict) = of_leaf a leaf (k, lt, at) p can is_met.there (record { inside = own; agrees = agrees }) in
      let V : Verdict → Type 0 = λ v. Contains forbidden v in
      (a, p, record { meant = meant; gets = subst V (sym verdict) has })

  pub none_written : All (IsPassing given.hook forbidden) exact → HasNoneOf t given forbidden
  none_written passing a p written one =
      let (k, leaf, lt, at, own) = in_leaf a p one.meant in
      let (meant, verdict) = of_leaf a leaf (k, lt, at) p one.meant.can one.meant.there own in
      elim (All-contains (IsPassing given.hook forbidden) exact leaf passing (k, lt, at)) [
        | inl none ↦ none (rw verdict at one.gets)
        | inr unwritten ↦ unwritten p written one.meant.there own.inside
      ]

-- ---- the packets of all boxes

module _ (s : Subject) (given : GivenPackets) (forbidden : List Verdict) where
  abbrev pub box_at : List SpanSet → Given
  box_at box = record { hook = given.hook; area = box }

  -- one that is against the claim is one of some box
  one_of : (a : Assignment) (p : Packet) → IsAgainst (answered s a) given forbidden p → Any (λ (box : List SpanSet). IsOne (answered s a) (box_at box) forbidden p) given.boxes.items
  one_of a p against =
      let among = against.among in
      let (k, box, lt, at, inside) = among.inside in
      (k, box, lt, at, record { meant = record { can = among.can; there = among.there; inside = inside }; gets = against.gets })

  pub against_of : (a : Assignment) (p : Packet) (box : List SpanSet) → Contains given.boxes.items box → IsOne (answered s a) (box_at box) forbidden p → IsAgainst (answered s a) given forbidden p
  against_of a p box (k, lt, at) one = record {
    among = record { can = one.meant.can; there = one.meant.there; inside = (k, box, lt, at, one.meant.inside) };
    gets = one.gets;
  }

  pub kept_all : All (λ (box : List SpanSet). IsFree s (box_at box) forbidden) given.boxes.items → IsKept s given forbidden
  kept_all all a p against =
      let (k, box, lt, at, one) = one_of a p against in
      All-contains (λ (b : List SpanSet). IsFree s (box_at b) forbidden) given.boxes.items box all (k, lt, at) a p one

  pub fails_in : (box : List SpanSet) (words : List (List ℕ)) (answers : List Answer) → Contains given.boxes.items box
      → HoldsWith answers (λ a. (p : Packet) × (packet_of words ≡ Ok p) × IsOne (answered s a) (box_at box) forbidden p) → HoldsWith answers (λ a. IsShownAgainst (answered s a) given forbidden words)
  fails_in box words answers c with = record {
    consistent = with.consistent;
    each = λ a agrees. (let (p, writes, one) = with.each a agrees in (p, writes, against_of a p box c one));
  }

  -- if none of a box's packets is against it, none that a line writes is
  pub free_none : (box : List SpanSet) → IsFree s (box_at box) forbidden → HasNoneOf (whole_of s) (box_at box) forbidden
  free_none box free a p written one = free a p one

  -- what is told of each box so far
  abbrev pub IsTold : ℕ → List SpanSet → Type 0
  IsTold budget box = CantBeWalked (whole_of s) (box_at box) budget ⊎ HasNoneOf (whole_of s) (box_at box) forbidden

  pub unclear_all : (budget : ℕ) → All (IsTold budget) given.boxes.items → Any (λ (box : List SpanSet). MayFail (whole_of s) (box_at box) forbidden budget) given.boxes.items
      → OneCantBeWalked (whole_of s) given budget ⊎ IsUnwritten (whole_of s) given forbidden
  unclear_all budget told (k, box, lt, at, may) =
      elim (some_or_all (λ (b : List SpanSet). CantBeWalked (whole_of s) (box_at b) budget) (λ (b : List SpanSet). HasNoneOf (whole_of s) (box_at b) forbidden) given.boxes.items told) [
        | inl one ↦ inl one
        | inr none ↦ elim may [
          | inl cant ↦ inl (k, box, lt, at, cant)
          | inr fails ↦ inr (record {
            some = (let (a, p, one) = fails.0 in (a, p, against_of a p box (k, lt, at) one));
            none = λ a p written against.
                (let (j, other, less, is, one) = one_of a p against in
                All-contains (λ (b : List SpanSet). HasNoneOf (whole_of s) (box_at b) forbidden) given.boxes.items other none (j, less, is) a p written one);
          })
        ]
      ]
