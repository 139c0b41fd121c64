-- The walks of one packet, for all assignments, and those that may come to a rule.
use Rattle.std.proofs.Common.{◌≡◌, inl, inr, ℕ, Bool, ◌&&◌, true, false, List, get_or, refl, ◌∙◌, ap, arith, subst, sym, Option, Some, None, All, Vec, Global, Ok, Contains, IfSome, MatchOption, filter, nat_le, Any, true≢false}
use Rattle.std.proofs.lemmas.Bool.Decides.{leb_tells}
use Rattle.std.proofs.lemmas.List.Elements.{All-filter, filter_passes}
use Rattle.classify.specs.Classifier.{box_matches, box_allows}
use Rattle.fields.specs.Packet.{PacketView as Packet, packet_of}
use Rattle.fields.specs.declared.numbers.field.Field.{Field}
use Rattle.fields.specs.declared.packet.hook.Hook.{Hook}
use Rattle.fields.specs.numbers.Field.{number_on}
use Rattle.fields.specs.numbers.Spans.{SpanSet}
use Rattle.table.specs.chains.Sound.{IsSound}
use Rattle.table.specs.walk.Walk.{Walked, walk}
use Rattle.table.specs.declared.walk.trail.Step.{Step}
use Rattle.questions.specs.Foreign.{Agrees, Assignment, AreConsistent}
use Rattle.questions.specs.Scopes.{AreExactUnder, AreLeavesUnder, IsOf, IsSurely, answered, known_by, scope_of, whole_of, table_of, walked_by}
use Rattle.questions.specs.asked.Unclear.{IsUnended}
use Rattle.questions.specs.asked.Walks.{AreWalks, AreWalksUnder, ShowsWalk}
use Rattle.questions.specs.boxes.Boxes.{IsAtHook, IsOnly, Has, IsBoth, IsIn}
use Rattle.questions.specs.declared.foreign.answers.Answer.{Answer}
use Rattle.questions.specs.declared.foreign.subject.Subject.{Subject}
use Rattle.questions.specs.declared.walking.scope.Scope.{Scope}
use Rattle.questions.specs.declared.walking.task.Leaf.{Leaf}
use Rattle.questions.specs.steps.Taken.{IsFinishedUnder, IsUnfinishedUnder}
use Rattle.questions.specs.Leaves.{entry_of}
use Rattle.questions.specs.Ends.{IsRule}
use Rattle.questions.specs.asked.Always.{SaysAt}
use Rattle.questions.specs.asked.Rule.{IsLiveAt}
use Rattle.questions.specs.declared.asked.rule.Life.TheVariants.{Live}
use Rattle.questions.specs.declared.seeking.way.Way.{Way}
use Rattle.questions.specs.steps.Takers.{needs_of}
use Rattle.questions.specs.steps.Tried.{TakesAllBut, TakesOn, IsCome, IsGone}
use Rattle.questions.proofs.laws.AnswerLaws.{some_assignment_gives}
use Rattle.questions.proofs.laws.TrailLaws.{keeps, on_entries_by, step_by}
use Rattle.questions.proofs.laws.AreaLaws.{from_fields, on_field}
use Rattle.questions.proofs.laws.ForeignLaws.{left_sound}
use Rattle.questions.proofs.laws.ResolvedLaws.{there_left}
use Rattle.questions.proofs.laws.SeekLaws.{point_of}

-- ---- The walks of one packet, for all assignments.

-- the walks of a box that has just the packet are the packet's
pub walks_known : (s : Subject) (start : Scope) (budget : ℕ) (found : Option (Vec Leaf Global)) (p : Packet) (answers : List Answer) → IsOnly start.area p → start.answers ≡ answers → IsAtHook p
    → IfSome found (λ leaves. (b : Assignment) → AreLeavesUnder (answered s b) (known_by s b) p.hook start leaves.items) → IfSome found (λ leaves. (b : Assignment) → AreExactUnder (answered s b) (known_by s b) p.hook start leaves.items)
    → IfSome found (λ leaves. (b : Assignment) → All (IsSurely (known_by s b)) leaves.items)
    → MatchOption found (IsUnfinishedUnder (whole_of s) p.hook start budget) (λ leaves. IsFinishedUnder (whole_of s) p.hook start budget leaves.items)
    → MatchOption found (IsUnended (whole_of s) p.hook budget answers p) (λ leaves. (a : Assignment) → AreWalksUnder (answered s a) (known_by s a) p answers leaves.items)
walks_known s start budget None p answers only same can leaves exact decided long = (start, only, same, long)
walks_known s start budget (Some found) p answers only same can leaves exact decided ended = λ a. record {
  complete = λ agrees. leaves a p can refl (record { inside = only.inside; agrees = rw same agrees });
  exact = λ k d lt own. let (of, walked) = exact a p can refl k d lt own in (subst (Agrees a) same of.agrees, walked);
  decided = decided a;
}

-- those of the leaves that have the packet show its walks
pub walks_shown : (s : Subject) (p : Packet) (answers : List Answer) (found own : List Leaf) → own ≡ filter (λ (leaf : Leaf). box_matches p.values leaf.area) found
    → ((a : Assignment) → AreWalksUnder (answered s a) (known_by s a) p answers found) → AreWalks s p answers own
walks_shown s p answers found own same walks =
    let has : Leaf → Bool = λ leaf. box_matches p.values leaf.area in
    subst (AreWalks s p answers) (sym same) (record {
      complete = λ a agrees.
          let (k, leaf, lt, is, ends) = (walks a).complete agrees in
          let (j, less, at) = keeps has found leaf (k, lt, is) ends.own.inside.each in
          (j, leaf, less, at, (ends.own.agrees, ends.walked));
      exact = λ a k d lt agrees.
          let shown = All-filter has (λ (leaf : Leaf). IsOf (known_by s a) p (scope_of leaf) → Agrees a answers × ShowsWalk s p a leaf) found (walks a).exact k d lt in
          shown (record { inside = record { each = filter_passes has found k d lt }; agrees = agrees });
      decided = λ a. All-filter has (IsSurely (known_by s a)) found (walks a).decided;
      given = All-filter has (λ (leaf : Leaf). (a : Assignment) × Agrees a leaf.answers) found (λ k d lt. let leaf = get_or found k d in some_assignment_gives leaf.answers leaf.consistent);
    })

-- a number is from itself to itself
pub within_itself : (n x : ℕ) → n ≡ x → (nat_le n x && nat_le x n) ≡ true
within_itself n x same =
    elim (leb_tells n x) [
      | inr (un, more) ↦ absurd (omega (arith, same, more))
      | inl (low, le) ↦ elim (leb_tells x n) [
        | inr (un, more) ↦ absurd (omega (arith, same, more))
        | inl (high, ge) ↦ ap (λ (b : Bool). b && nat_le x n) low ∙ high
      ]
    ]

-- and no other number is
pub itself_within : (n x : ℕ) → (nat_le n x && nat_le x n) ≡ true → x ≡ n
itself_within n x is =
    elim (leb_tells n x) [
      | inr (un, more) ↦ absurd (true≢false (sym is ∙ ap (λ (b : Bool). b && nat_le x n) un))
      | inl (low, le) ↦ elim (leb_tells x n) [
        | inr (un, more) ↦ absurd (true≢false (sym is ∙ ap (λ (b : Bool). nat_le n x && b) un ∙ and_none (nat_le n x)))
        | inl (high, ge) ↦ omega (arith, le, ge)
      ]
    ]
  where
    and_none : (b : Bool) → (b && false) ≡ false
    and_none true = refl
    and_none false = refl

-- ---- The walks of one packet that may come to a rule.

-- the same numbers on each field are in the same boxes
same_in : (box : List SpanSet) (xs ys : List ℕ) → ((f : Field) → number_on xs f ≡ number_on ys f) → Has box xs → Has box ys
same_in box xs ys same has = from_fields box ys (λ f. let P : ℕ → Type 0 = λ n. box_allows box f n ≡ true in subst P (same f) (on_field box xs f has.each))

-- a copy of such a box is one, too
pub only_of : (own copy : List SpanSet) (p : Packet) → IsAtHook p → IsOnly own p → IsBoth own own copy → IsOnly copy p
only_of own copy p can only both = record { inside = both.all p.values (point_of p can) only.inside only.inside; only = λ numbers point has f. only.only numbers point (both.first numbers point has) f }

module _ (s : Subject) (sound : IsSound (table_of s)) (step : Step) (is : IsRule (table_of s) step) (hook : Hook) (start : Scope) (found : List Leaf) where
  -- a leaf shows that the rule is on the packet's walk
  pub come_live : (p : Packet) (words : List (List ℕ)) (answers : List Answer) → ((a : Assignment) → AreExactUnder (answered s a) (known_by s a) hook start found) → Any (IsCome (needs_of s.needs.now step) step p answers) found
      → IsAtHook p → p.hook ≡ hook → packet_of words ≡ Ok p → AreConsistent answers → SaysAt s step hook (Live words answers)
  come_live p words answers exact (k, leaf, lt, here, come) can there writes consistent = (consistent, live)
    where
      live : (a : Assignment) → Agrees a answers → IsLiveAt (answered s a) (entry_of (answered s a).chains step) hook words
      live a agrees =
          let (own, held) = come.more.own a agrees in
          let Shows : Leaf → Type 0 = λ (l : Leaf). IsOf (known_by s a) p (scope_of l) → IsOf (known_by s a) p start × (walk (answered s a) p ≡ walked_by (known_by s a) (answered s a).chains l) in
          let shown = subst Shows here (exact a p can there k leaf lt) (record { inside = come.inside; agrees = own }) in
          let On : Walked → Type 0 = λ (w : Walked). Contains w.trail (entry_of (answered s a).chains step) in
          (p, writes, there, subst On (sym shown.1) (on_entries_by (known_by s a) (answered s a).chains leaf.trail.items step come.on held))

  -- no leaf shows it of a packet with the same numbers
  pub gone_never : (p q : Packet) (a : Assignment) → ((b : Assignment) → AreLeavesUnder (answered s b) (known_by s b) hook start found) → All (IsGone (needs_of s.needs.now step) step p) found → IsAtHook p → IsAtHook q → q.hook ≡ hook
      → IsOnly start.area p → IsIn start.area q → Agrees a start.answers → Contains (walk (answered s a) q).trail (entry_of (answered s a).chains step) → ⊥
  gone_never p q a leaves gone can too there only here agrees on =
      let (k, leaf, lt, same, ends) = leaves a q too there (record { inside = here; agrees = agrees }) in
      let On : Walked → Type 0 = λ (w : Walked). Contains w.trail (entry_of (answered s a).chains step) in
      let (trail, met) = step_by (answered s a) (known_by s a) leaf.trail.items step (left_sound s.needs.now a (table_of s) sound) (there_left s.needs.now a (table_of s) step.chain is.chain) (subst On ends.walked on) in
      let Gone : Leaf → Type 0 = IsGone (needs_of s.needs.now step) step p in
      let never = subst Gone same (gone k leaf lt) (same_in leaf.area q.values p.values (λ f. only.only q.values (point_of q too) here f ∙ sym (only.only p.values (point_of p can) only.inside f)) ends.own.inside) in
      true≢false (sym met ∙ never trail a ends.own.agrees)

  -- so all packets of a way are taken on, but those of the packet's own box, none of which comes
  pub taken_on : (way : Way) (own : List SpanSet) (p : Packet) (old new : List Way) → way.wanted ≡ step → start.answers ≡ way.scope.answers → IsBoth own own start.area → IsOnly own p → IsAtHook p
      → ((b : Assignment) → AreLeavesUnder (answered s b) (known_by s b) hook start found) → All (IsGone (needs_of s.needs.now step) step p) found → TakesAllBut own way old new → TakesOn s hook way old new
  taken_on way own p old new wanted answers copy only can leaves gone takes = record {
    kept = λ a q h. takes.kept s a q h;
    wanted = takes.wanted;
    taken = λ a q too there on may. takes.taken s a q too may (λ here.
        let Given : List Answer → Type 0 = λ given. Agrees a given in
        let On : Step → Type 0 = λ w. Contains (walk (answered s a) q).trail (entry_of (answered s a).chains w) in
        gone_never p q a leaves gone can too there (only_of own start.area p can only copy) (copy.all q.values (point_of q too) here here) (subst Given (sym answers) may.here.1) (subst On wanted on));
  }
