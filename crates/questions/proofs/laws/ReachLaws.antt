-- From exact leaves to what becomes of some packets, and the numbers of leaves on a field.
use Rattle.std.proofs.Common.{◌≡◌, inl, inr, ℕ, ◌+◌, ◌<◌, ◌≤◌, true, List, [], ◌∷◌, ◌++◌, length, get_or, refl, sym, subst, Option, All, cond, map, ◌∙◌, ap, Some, None, Any, IfSome, eq-eqb, eqb-true}
use Rattle.std.proofs.lemmas.Option.{same_Some}
use Rattle.std.proofs.lemmas.List.Elements.{All-push, Contains-append_left, All-contains}
use Rattle.std.proofs.lemmas.List.Quantifiers.{Any-push, all_pairs_push}
use Rattle.std.specs.Option.{option_map}
use Rattle.std.proofs.Math.Dec.{eqb}
use Rattle.std.proofs.lemmas.Bool.{cond_both}
use Rattle.fields.specs.declared.numbers.field.Field.{Field}
use Rattle.fields.specs.numbers.Field.{top, all_fields, index}
use Rattle.fields.specs.numbers.Spans.{SpanSet, has}
use Rattle.table.specs.declared.verdict.Verdict.{Verdict}
use Rattle.table.specs.declared.walk.trail.Step.{Step}
use Rattle.fields.specs.declared.packet.hook.Hook.{Hook}
use Rattle.fields.specs.Packet.{PacketView as Packet, IsPacket, point}
use Rattle.rules.proofs.laws.BoxLaws.{here_is}
use Rattle.classify.specs.Classifier.{box_allows}
use Rattle.table.specs.chains.Sound.{IsSound}
use Rattle.table.specs.chains.Table.{Table}
use Rattle.table.specs.walk.Walk.{Entry, Walked, walk}
use Rattle.questions.specs.Ends.{step_of, EndsBy, IsRule, decider_of}
use Rattle.questions.specs.declared.asked.reached.Reached.{Reached}
use Rattle.questions.specs.declared.walking.task.Leaf.{Leaf}
use Rattle.questions.specs.steps.Groups.{GivesNumber, HasEnd, IsGroup, IsJoined, IsListed, IsNamed, IsNumbersOf, Lists, AreGroups}
use Rattle.questions.specs.Leaves.{entry_of, walked_of}
use Rattle.questions.specs.asked.Reach.{Gets, HasItsNumber, IsAmong, IsReach, IsReached}
use Rattle.questions.specs.boxes.Boxes.{HasNumbers, IsIn}
use Rattle.questions.specs.declared.asked.reach.GivenPackets.{GivenPackets}
use Rattle.questions.specs.steps.Exact.{AnyHas, AreExactIn, IsExactIn}
use Rattle.questions.proofs.laws.TrailLaws.{items_next, one_place, decider_is_rule, decider_shown, none_some}
use Rattle.questions.proofs.laws.AreaLaws.{from_fields, on_field}
use Rattle.questions.proofs.laws.PacketLaws.{at_index}

-- ---- The numbers of leaves on a field, leaf after leaf.

pub numbers_next : (f : Field) (verdict : Verdict) (by : Option Step) (leaves : List Leaf) (i : ℕ) (leaf : Leaf) (old new : SpanSet) → i < length leaves → leaf ≡ get_or leaves i leaf → IsJoined f verdict by leaf old new
    → ((k : ℕ) (d : Leaf) → k < i → (x : ℕ) → x ≤ top f → GivesNumber f verdict by x (get_or leaves k d) → has old.intervals x ≡ true)
    → ((x : ℕ) → x ≤ top f → has old.intervals x ≡ true → Any (GivesNumber f verdict by x) leaves)
    → ((k : ℕ) (d : Leaf) → k < i + 1 → (x : ℕ) → x ≤ top f → GivesNumber f verdict by x (get_or leaves k d) → has new.intervals x ≡ true)
    × ((x : ℕ) → x ≤ top f → has new.intervals x ≡ true → Any (GivesNumber f verdict by x) leaves)
numbers_next f verdict by leaves i leaf old new lt is joined all only =
    let P : Leaf → Type 0 = λ l. (x : ℕ) → x ≤ top f → GivesNumber f verdict by x l → has new.intervals x ≡ true in (
      items_next P leaves i leaf lt is (λ k d less x le g. joined.kept x le (all k d less x le g)) joined.added,
      λ x le on. elim (joined.only x le on) [ inl before ↦ only x le before | inr gives ↦ (i, leaf, lt, sym is, gives) ],
    )

pub any_left : {X : Type 0} (P : X → Type 0) (xs ys : List X) → Any P xs → Any P (xs ++ ys)
any_left P xs ys w = (let c = Contains-append_left xs ys w.1 (w.0, w.2, w.3) in (c.0, w.1, c.1, c.2, w.4))

-- a new entry for a leaf
pub listed_now : (f : Field) (leaves : List Leaf) (leaf : Leaf) (reached : List Reached) (by : Option Step) (set : SpanSet) → by ≡ step_of leaf → IsNumbersOf f leaves leaf.verdict by set → All (λ entry. IsNamed leaf.verdict by entry → ⊥) reached
    → Lists f leaves leaf reached (reached ++ record { verdict = leaf.verdict; by = by; numbers = set } ∷ [])
listed_now f leaves leaf reached by set is numbers none =
    let entry : Reached = record { verdict = leaf.verdict; by = by; numbers = set } in
    record {
      each = λ some h. All-push (IsGroup f leaves) reached entry h (record { numbers = numbers; some = rw (← is) at some });
      kept = λ other h. any_left (IsNamed other.verdict (step_of other)) reached (entry ∷ []) h;
      added = Any-push (IsNamed leaf.verdict (step_of leaf)) reached entry (refl, is);
      one = λ h. all_pairs_push (λ a b. IsNamed b.verdict b.by a → ⊥) reached entry h none;
    }

pub listed_next : (leaves : List Leaf) (i : ℕ) (leaf : Leaf) (old new : List Reached) → i < length leaves → leaf ≡ get_or leaves i leaf → ((k : ℕ) (d : Leaf) → k < i → IsListed old (get_or leaves k d))
    → ((other : Leaf) → IsListed old other → IsListed new other) → IsListed new leaf → (k : ℕ) (d : Leaf) → k < i + 1 → IsListed new (get_or leaves k d)
listed_next leaves i leaf old new lt is below kept here = items_next (IsListed new) leaves i leaf lt is (λ k d less. kept (get_or leaves k d) (below k d less)) here

-- ---- From exact leaves to what becomes of some packets.

-- ---- a packet of a box with a number that its set on a field has

module _ (hook : Hook) (box : List SpanSet) (some : HasNumbers box) (f : Field) (x : ℕ) (le : x ≤ top f) (on : box_allows box f x ≡ true) where
  abbrev pick : Field → ℕ
  pick g = cond (eqb (index g) (index f)) x (some g).0

  same_field : (g : Field) → eqb (index g) (index f) ≡ true → f ≡ g
  same_field g e = sym (here_is f f) ∙ ap (λ k. get_or all_fields k f) (sym (eqb-true (index g) (index f) e)) ∙ here_is g f

  pick_within : (g : Field) → pick g ≤ top g
  pick_within g =
      let P : ℕ → Type 0 = λ n. n ≤ top g in
      cond_both (eqb (index g) (index f)) x (some g).0 P (λ e. rw (same_field g e) at le) (λ e. (some g).1)

  pick_allowed : (g : Field) → box_allows box g (pick g) ≡ true
  pick_allowed g =
      let P : ℕ → Type 0 = λ n. box_allows box g n ≡ true in
      cond_both (eqb (index g) (index f)) x (some g).0 P (λ e. rw (same_field g e) at on) (λ e. (some g).2)

  abbrev pub packet_with : Packet
  packet_with = record { hook = hook; values = map pick all_fields }

  pub with_packet : IsPacket packet_with
  with_packet = record { whole = refl; within = λ g. (let P : ℕ → Type 0 = λ n. n ≤ top g in subst P (sym (at_index pick g)) (pick_within g)) }

  pub with_inside : IsIn box packet_with
  with_inside = from_fields box packet_with.values (λ g. (let P : ℕ → Type 0 = λ n. box_allows box g n ≡ true in subst P (sym (at_index pick g)) (pick_allowed g)))

  pub with_number : point packet_with f ≡ x
  with_number = at_index pick f ∙ ap (λ b. cond b x (some f).0) (eq-eqb (index f) (index f) refl)

-- ---- the answer

module _ (t : Table) (s : IsSound t) (given : GivenPackets) (f : Field) (exact : List Leaf) (reached : List Reached) (walks : AreExactIn t given.hook given.boxes.items exact) (groups : AreGroups f exact reached) where
  abbrev Exact : Leaf → Type 0
  Exact = IsExactIn t given.hook given.boxes.items

  ends_as : (p : Packet) (leaf : Leaf) (verdict : Verdict) (by : Option Step) → walk t p ≡ walked_of t.chains leaf → leaf.verdict ≡ verdict → step_of leaf ≡ by → EndsBy t p verdict by
  ends_as p leaf verdict by e v d = record {
    gives = ap (λ (w : Walked). w.verdict) e ∙ v;
    decides = ap decider_of e ∙ decider_shown t.chains leaf ∙ ap (option_map (entry_of t.chains)) d;
  }

  -- the packet of an exact leaf with a number of its set
  gets_in : (entry : Reached) (x : ℕ) (leaf : Leaf) → Exact leaf → HasEnd entry.verdict entry.by leaf → x ≤ top f → box_allows leaf.area f x ≡ true → (p : Packet) × Gets t given f entry x p
  gets_in entry x leaf one end le on =
      let ex = one.exact in
      let m = one.of in
      let p : Packet = packet_with given.hook leaf.area ex.some f x le on in
      let is : IsPacket p = with_packet given.hook leaf.area ex.some f x le on in
      let inside : IsIn leaf.area p = with_inside given.hook leaf.area ex.some f x le on in
      let met_in : IsIn one.met.area p = ex.inside p.values is.within inside in
      let (k, lt, at) = one.among in
      let meant : IsAmong given p = record { can = ex.can p is (m.own p is refl met_in) inside; there = refl; inside = (k, one.box, lt, at, m.only p is met_in) } in
      let walked : walk t p ≡ walked_of t.chains leaf = ex.walked p meant.can (sym m.there) inside in
      (p, record { meant = meant; number = with_number given.hook leaf.area ex.some f x le on; ends = ends_as p leaf entry.verdict entry.by walked end.0 end.1 })

  reached_by : (entry : Reached) → IsGroup f exact entry → IsReached t given f entry
  reached_by entry group =
      let w = group.some in
      let ex : Exact w.1 = All-contains Exact exact w.1 walks.each (w.0, w.2, w.3) in
      let n = ex.exact.some f in
      let one = gets_in entry n.0 w.1 ex w.4 n.1 n.2 in
      record {
        greatest = group.numbers.greatest;
        some = (n.0, n.1, group.numbers.all n.0 n.1 (w.0, w.1, w.2, w.3, (w.4, n.2)));
        each = λ x le on. (
            let g = group.numbers.only x le on in
            gets_in entry x g.1 (All-contains Exact exact g.1 walks.each (g.0, g.2, g.3)) g.4.0 le g.4.1);
        rule = decider_is_rule t one.0 entry.by s one.1.ends.decides;
      }

  all_reached : All (IsReached t given f) reached
  all_reached k d lt = reached_by (get_or reached k d) (groups.each k d lt)

  -- the entry of a packet of an exact leaf
  number_of : (p : Packet) → IsAmong given p → AnyHas p.values exact → Any (HasItsNumber t f p) reached
  number_of p meant w =
      let ex : Exact w.1 = All-contains Exact exact w.1 walks.each (w.0, w.2, w.3) in
      let walked : walk t p ≡ walked_of t.chains w.1 = ex.exact.walked p meant.can (meant.there ∙ sym ex.of.there) w.4 in
      let e = All-contains (IsListed reached) exact w.1 groups.all (w.0, w.2, w.3) in
      let group : IsGroup f exact e.1 = All-contains (IsGroup f exact) reached e.1 groups.each (e.0, e.2, e.3) in (
        e.0,
        e.1,
        e.2,
        e.3,
        record {
          number = group.numbers.all (point p f) (meant.can.packet.within f) (w.0, w.1, w.2, w.3, ((sym e.4.0, sym e.4.1), on_field w.1.area p.values f w.4.each));
          ends = ends_as p w.1 e.1.verdict e.1.by walked (sym e.4.0) (sym e.4.1);
        },
      )

  same_step : (a b : Step) → IsRule t b → entry_of t.chains a ≡ entry_of t.chains b → a ≡ b
  same_step a b is e =
      let chain : a.chain ≡ b.chain = one_place t a.chain b.chain s is.chain (ap (λ (n : Entry). n.chain) e) in
      let number : a.number ≡ b.number = ap (λ (n : Entry). n.number) e in
      let make : ℕ → ℕ → Step = λ c n. record { chain = c; number = n } in
      ap (λ c. make c a.number) chain ∙ ap (λ n. make b.chain n) number

  same_by : (a b : Option Step) → IfSome b (IsRule t) → option_map (entry_of t.chains) a ≡ option_map (entry_of t.chains) b → a ≡ b
  same_by None None is e = refl
  same_by None (Some b) is e = absurd (none_some e)
  same_by (Some a) None is e = absurd (none_some (sym e))
  same_by (Some a) (Some b) is e = ap Some (same_step a b is (same_Some (entry_of t.chains a) (entry_of t.chains b) e))

  pub reach_of : IsReach t given f reached
  reach_of = record {
    each = all_reached;
    all = λ p meant. number_of p meant (walks.all p meant.can meant.there meant.inside);
    one = λ i j d below lt same. groups.one i j d below lt (same.verdict, same_by (get_or reached i d).by (get_or reached j d).by (all_reached j d lt).rule same.decider);
  }
