-- Which answers suffice for a rule to be on a packet's walk, which of them are necessary, and how they are listed by their conditions.
use Rattle.std.proofs.Common.{◌≡◌, ◌≢◌, ◌⊎◌, inl, inr, ℕ, ◌+◌, ◌<◌, ◌≤◌, Bool, true, false, cond, not, List, [], ◌∷◌, length, get_or, refl, sym, ◌∙◌, ap, arith, subst, All, Any, Contains, Ok, Option, Some, None, ◌==◌, IfOk, IfNone, IfSome, true≢false, get_or-set_other, get_or-set_same}
use Rattle.std.proofs.lemmas.Bool.{cases_lt, cases_eq}
use Rattle.std.proofs.lemmas.Bool.Decides.{eqb_tells}
use Rattle.std.proofs.lemmas.List.{get_or_default}
use Rattle.std.proofs.lemmas.List.Elements.{All-contains, All-filter, Contains-get_or, filter_passes}
use Rattle.std.proofs.lemmas.List.Folds.{list_all_at}
use Rattle.std.proofs.lemmas.Result.{IfOk-at_ok}
use Rattle.std.proofs.Math.ListN.{set}
use Rattle.std.proofs.lemmas.List.Kept.{AllPairs-filter}
use Rattle.fields.specs.Packet.{PacketView as Packet, packet_of}
use Rattle.table.specs.chains.Sound.{IsSound}
use Rattle.table.specs.declared.walk.trail.Step.{Step}
use Rattle.table.specs.walk.Walk.{Entry, Walked, walk}
use Rattle.questions.specs.Ends.{IsRule}
use Rattle.questions.specs.Foreign.{Agrees, AreConsistent, Assignment, IsGiven, IsUnanswered, all_hold, need_holds}
use Rattle.questions.specs.Leaves.{entry_of}
use Rattle.questions.specs.Scopes.{IsOf, answered, entries_by, known_by, scope_of, table_of, walked_by}
use Rattle.questions.specs.asked.Always.{IsLiveWith}
use Rattle.questions.specs.asked.Necessary.{AreEnough, AreNecessary, IsNecessary, MayNotSuffice}
use Rattle.questions.specs.asked.Walks.{AreWalksUnder}
use Rattle.questions.specs.boxes.Boxes.{IsIn}
use Rattle.questions.specs.declared.foreign.answers.Answer.{Answer}
use Rattle.questions.specs.declared.foreign.need.Need.{Need}
use Rattle.questions.specs.declared.foreign.subject.Subject.{Subject}
use Rattle.questions.specs.declared.walking.front.Front.{Front}
use Rattle.questions.specs.declared.walking.scope.Scope.{Scope}
use Rattle.questions.specs.declared.walking.task.Leaf.{Leaf}
use Rattle.questions.specs.steps.Answered.{IsOpen, answers_but, others_than, AreIndexed, answer_in}
use Rattle.questions.specs.steps.Takers.{IsMissed, IsSurelyOn, needs_of}
use Rattle.questions.specs.steps.Waiting.{IsFitting}
use Rattle.questions.proofs.laws.AnswerLaws.{agrees_before, either_is_given}
use Rattle.questions.proofs.laws.ForeignLaws.{left_sound}
use Rattle.questions.proofs.laws.TrailLaws.{keeps, on_entries_by, step_by, none_some}
use Rattle.questions.proofs.laws.ResolvedLaws.{entry_left, length_same}

-- ---- Which answers suffice for a rule to be on a packet's walk, and which of them are necessary.

-- a rule that is surely on each leaf which has the packet is on the packet's walk, where the answers are right
pub surely_enough : (s : Subject) (found : List Leaf) (p : Packet) (step : Step) (answers : List Answer) → ((a : Assignment) → AreWalksUnder (answered s a) (known_by s a) p answers found)
    → All (λ (leaf : Leaf). IsIn leaf.area p → IsSurelyOn (needs_of s.needs.now step) step leaf) found → AreEnough s step p answers
surely_enough s found p step answers walks all a agrees =
    let (k, leaf, lt, is, ends) = (walks a).complete agrees in
    let (on, held) = All-contains (λ (leaf : Leaf). IsIn leaf.area p → IsSurelyOn (needs_of s.needs.now step) step leaf) found leaf all (k, lt, is) ends.own.inside in
    let here : Contains (entries_by (known_by s a) (answered s a).chains leaf.trail.items) (entry_of (answered s a).chains step) = on_entries_by (known_by s a) (answered s a).chains leaf.trail.items step on (held a ends.own.agrees) in
    let P : Walked → Type 0 = λ w. Contains w.trail (entry_of (answered s a).chains step) in
    let Q : Entry → Type 0 = λ entry. Contains (walk (answered s a) p).trail entry in
    subst Q (entry_left s.needs.now a (table_of s) step) (subst P (sym ends.walked) here)

-- where a leaf that has the packet misses the rule, and each leaf shows the packet's walk, some assignment gives the answers and has the rule off the walk
pub missed_by : (s : Subject) (found : List Leaf) (p : Packet) (step : Step) (answers : List Answer) → IsSound (table_of s) → IsRule (table_of s) step
    → ((a : Assignment) → All (λ (leaf : Leaf). IsOf (known_by s a) p (scope_of leaf) → Agrees a answers × (walk (answered s a) p ≡ walked_by (known_by s a) (answered s a).chains leaf)) found)
    → Any (λ (leaf : Leaf). IsIn leaf.area p × IsMissed (needs_of s.needs.now step) step leaf) found
    → (a : Assignment) × Agrees a answers × (Contains (walk (answered s a) p).trail (entry_of (table_of s).chains step) → ⊥)
missed_by s found p step answers sound rule exact (k, leaf, lt, is, missed) =
    let (inside, lapse) = missed in
    let (a, agrees, unmet) = lapse in
    let Shown : Leaf → Type 0 = λ leaf. IsOf (known_by s a) p (scope_of leaf) → Agrees a answers × (walk (answered s a) p ≡ walked_by (known_by s a) (answered s a).chains leaf) in
    let (given, walked) = All-contains Shown found leaf (exact a) (k, lt, is) (record { inside = inside; agrees = agrees }) in
    let within : step.chain < length (answered s a).chains = omega (arith, rule.chain, length_same s.needs.now a (table_of s).chains) in (
      a,
      given,
      λ on.
          let (there, met) = step_by (answered s a) (known_by s a) leaf.trail.items step (left_sound s.needs.now a (table_of s) sound) within (rw walked at (rw (← entry_left s.needs.now a (table_of s) step) at on)) in
          absurd (true≢false (sym met ∙ unmet there)),
    )

-- so it does where all walks are known
pub missed_off : (s : Subject) (found : List Leaf) (p : Packet) (step : Step) (answers : List Answer) → IsSound (table_of s) → IsRule (table_of s) step → ((a : Assignment) → AreWalksUnder (answered s a) (known_by s a) p answers found)
    → Any (λ (leaf : Leaf). IsIn leaf.area p × IsMissed (needs_of s.needs.now step) step leaf) found
    → (a : Assignment) × Agrees a answers × (Contains (walk (answered s a) p).trail (entry_of (table_of s).chains step) → ⊥)
missed_off s found p step answers sound rule walks any = missed_by s found p step answers sound rule (λ a. (walks a).exact) any

-- and where one of those is missed that are known so far
pub missed_soon : (s : Subject) (front : Front) (p : Packet) (step : Step) (start : Scope) → IsSound (table_of s) → IsRule (table_of s) step → ((a : Assignment) → IsFitting (answered s a) (known_by s a) start p front)
    → Any (λ (leaf : Leaf). IsIn leaf.area p × IsMissed (needs_of s.needs.now step) step leaf) front.leaves.items
    → (a : Assignment) × Agrees a start.answers × (Contains (walk (answered s a) p).trail (entry_of (table_of s).chains step) → ⊥)
missed_soon s front p step start sound rule fits any =
    missed_by s front.leaves.items p step start.answers sound rule (λ a k d lt own. let (of, walked) = (fits a).leaves k d lt own in (of.agrees, walked)) any

-- ---- a rule that is live by answers

live_enough : (s : Subject) (step : Step) (words : List (List ℕ)) (p : Packet) (answers : List Answer) → packet_of words ≡ Ok p → IsLiveWith s (entry_of (table_of s).chains step) words answers → AreEnough s step p answers
live_enough s step words p answers is live a agrees =
    let (own, same, on) = live.live a agrees in
    let P : Packet → Type 0 = λ q. Contains (walk (answered s a) q).trail (entry_of (table_of s).chains step) in
    IfOk-at_ok P is (subst (λ r. IfOk r P) (sym same) on)

pub enough_live : (s : Subject) (step : Step) (words : List (List ℕ)) (p : Packet) (answers more : List Answer) → packet_of words ≡ Ok p → AreConsistent more → (AreEnough s step p answers → AreEnough s step p more)
    → IsLiveWith s (entry_of (table_of s).chains step) words answers → IsLiveWith s (entry_of (table_of s).chains step) words more
enough_live s step words p answers more is apart enough live = record {
  consistent = apart;
  live = λ a agrees. (p, is, enough (live_enough s step words p answers is live) a agrees);
}

-- ---- a leaf misses a rule

-- a need fails that hangs on an open condition, under some assignment
pub open_missed : (needs : List Need) (answers : List Answer) (condition : ℕ) → AreConsistent answers → IsOpen needs answers condition → (a : Assignment) × Agrees a answers × (all_hold a needs ≡ false)
open_missed needs answers condition apart open_at =
    let (k, need, lt, is, same) = open_at.needed in
    let (a, agrees, holds) = either_is_given answers condition need.inverted apart open_at.unanswered in
    let fails : need_holds a need ≡ false = unmet need (a need.condition) (ap a same ∙ holds) in
    let Fails : Need → Type 0 = λ x. need_holds a x ≡ false in
    (a, agrees, list_all_at (need_holds a) needs k need lt (subst Fails (sym is) fails))
  where
    turned : (inverted value : Bool) → value ≡ inverted → cond inverted (not value) value ≡ false
    turned true true h = refl
    turned true false h = absurd (true≢false (sym h))
    turned false true h = absurd (true≢false h)
    turned false false h = refl

    unmet : (need : Need) (value : Bool) → value ≡ need.inverted → cond need.inverted (not value) value ≡ false
    unmet need value h = turned need.inverted value h

-- an assignment that gives one answer more gives the others, too
pub given_agrees : (a : Assignment) (condition : ℕ) (holds is_new : Bool) (old new : List Answer) → IsGiven condition holds is_new old new → Agrees a new → Agrees a old
given_agrees a condition holds true old new given agrees =
    agrees_before a old (record { condition = condition; holds = holds } ∷ []) (subst (λ (l : List Answer). Agrees a l) given.1 agrees)
given_agrees a condition holds false old new given agrees = subst (λ (l : List Answer). Agrees a l) given.1 agrees

-- ---- answers are left out one by one

-- no answer is left to the condition of the one that was left out
pub but_unanswered : (condition : ℕ) (answers : List Answer) → IsUnanswered (answers_but condition answers) condition
but_unanswered condition answers k d lt = λ same.
    true≢false (sym (filter_passes (others_than condition) answers k d lt) ∙ own_out (get_or (answers_but condition answers) k d).condition condition same)
  where
    own_out : (x y : ℕ) → x ≡ y → not (x == y) ≡ false
    own_out x y same = elim (eqb_tells x y) [ inl (is, at) ↦ ap not is | inr (un, apart) ↦ absurd (apart same) ]

-- all others are
pub but_has_others : (condition : ℕ) (answers : List Answer) → All (λ (other : Answer). other.condition ≢ condition → Contains (answers_but condition answers) other) answers
but_has_others condition answers k d lt = λ apart.
    let x = get_or answers k d in
    keeps (others_than condition) answers x (Contains-get_or answers k d lt) (elim (eqb_tells x.condition condition) [ inl (is, at) ↦ absurd (apart at) | inr (un, more) ↦ ap not un ])

module _ (s : Subject) (step : Step) (p : Packet) (budget : ℕ) where
  abbrev Necessary : List Answer → Answer → Type 0
  Necessary answers answer = IsNecessary s step p budget answers answer

  -- each answer is necessary, or is one that is still to be tried: one of these, from a place
  abbrev pub AreTried : List Answer → ℕ → List Answer → Type 0
  AreTried all place answers = (x : Answer) → Contains answers x → Necessary answers x ⊎ ((j : ℕ) × (place ≤ j) × (j < length all) × (get_or all j x ≡ x))

  -- none was tried
  pub none_tried : (all : List Answer) → AreTried all 0 all
  none_tried all x (j, lt, is) = inr (j, omega arith, lt, is)

  -- all were
  pub all_tried : (all answers : List Answer) (place : ℕ) → length all ≤ place → AreTried all place answers → AreNecessary s step p budget answers
  all_tried all answers place most tried k d lt =
      elim (tried (get_or answers k d) (Contains-get_or answers k d lt)) [
        | inl is ↦ is
        | inr (j, after, within, same) ↦ absurd (omega (arith, most, after, within))
      ]

  module _ (all answers : List Answer) (place : ℕ) (d : Answer) (within : place < length all) (tried : AreTried all place answers) where
    abbrev tested : Answer
    tested = get_or all place d

    -- one that has to stay
    pub one_stays : AreConsistent (answers_but tested.condition answers) → MayNotSuffice s step p budget (answers_but tested.condition answers) → AreTried all (place + 1) answers
    one_stays consistent may x on =
        elim (tried x on) [
          | inl is ↦ inl is
          | inr (j, after, less, same) ↦ elim (cases_lt place j) [
            | inl more ↦ inr (j, omega (arith, more), less, same)
            | inr most ↦ (
                let here : j ≡ place = omega (arith, after, most) in
                let is : x ≡ tested = sym same ∙ ap (λ (i : ℕ). get_or all i x) here ∙ get_or_default all place x d within in
                inl (rw is (record {
                  others = answers_but tested.condition answers;
                  consistent = consistent;
                  without = but_unanswered tested.condition answers;
                  all = but_has_others tested.condition answers;
                  insufficient = may;
                })))
          ]
        ]

    -- one that is left out
    pub one_goes : AreTried all (place + 1) (answers_but tested.condition answers)
    one_goes x on =
        let rest = answers_but tested.condition answers in
        let own : All (λ (y : Answer). Contains answers y) rest = All-filter (others_than tested.condition) (λ (y : Answer). Contains answers y) answers (λ k d lt. Contains-get_or answers k d lt) in
        let apart : x.condition ≢ tested.condition = All-contains (λ (y : Answer). y.condition ≢ tested.condition) rest x (but_unanswered tested.condition answers) on in
        elim (tried x (All-contains (λ (y : Answer). Contains answers y) rest x own on)) [
          | inl is ↦ inl (record {
            others = is.others;
            consistent = is.consistent;
            without = is.without;
            all = All-filter (others_than tested.condition) (λ (other : Answer). other.condition ≢ x.condition → Contains is.others other) answers is.all;
            insufficient = is.insufficient;
          })
          | inr (j, after, less, same) ↦ elim (cases_lt place j) [
            | inl more ↦ inr (j, omega (arith, more), less, same)
            | inr most ↦ (
                let here : j ≡ place = omega (arith, after, most) in
                let is : x ≡ tested = sym same ∙ ap (λ (i : ℕ). get_or all i x) here ∙ get_or_default all place x d within in
                absurd (apart (ap (λ (y : Answer). y.condition) is)))
          ]
        ]

-- the packet is the one that the words write
pub few_necessary : (s : Subject) (step : Step) (words : List (List ℕ)) (p : Packet) (budget : ℕ) (answers : List Answer) → packet_of words ≡ Ok p → AreNecessary s step p budget answers
    → (q : Packet) → packet_of words ≡ Ok q → AreNecessary s step q budget answers
few_necessary s step words p budget answers is all q same =
    let P : Packet → Type 0 = λ x. AreNecessary s step x budget answers in
    IfOk-at_ok P same (subst (λ r. IfOk r P) (sym is) all)

-- ---- Answers, listed by their conditions.

-- what the list says of a condition
pub to_answered : (index : List (Option Bool)) (answers : List Answer) (condition : ℕ) (o : Option Bool) → AreIndexed index answers → answer_in index condition ≡ o
    → IfSome o (λ (holds : Bool). Contains answers (record { condition = condition; holds = holds }))
to_answered index answers condition None are e = tt
to_answered index answers condition (Some holds) are e = are.only condition holds e

pub to_unanswered : (index : List (Option Bool)) (answers : List Answer) (condition : ℕ) (o : Option Bool) → AreIndexed index answers → answer_in index condition ≡ o → IfNone o (IsUnanswered answers condition)
to_unanswered index answers condition (Some holds) are e = tt
to_unanswered index answers condition None are e = λ k d lt same. none_some (sym e ∙ ap (answer_in index) (sym same) ∙ are.each k d lt)

-- one answer less, in a list that has none at its condition
module _ (index new : List (Option Bool)) (answers : List Answer) (condition : ℕ) where
  pub index_less : AreIndexed index answers → ((other : ℕ) → other ≢ condition → answer_in new other ≡ answer_in index other) → answer_in new condition ≡ None → AreIndexed new (answers_but condition answers)
  index_less are others none =
      let kept : List Answer = answers_but condition answers in
      let own : All (λ (answer : Answer). answer_in index answer.condition ≡ Some answer.holds) kept =
      All-filter (others_than condition) (λ (answer : Answer). answer_in index answer.condition ≡ Some answer.holds) answers are.each in
      record {
        consistent = AllPairs-filter (λ (a b : Answer). a.condition ≢ b.condition) (others_than condition) answers are.consistent;
        each = λ k d lt. others (get_or kept k d).condition (but_unanswered condition answers k d lt) ∙ own k d lt;
        only = λ other value is. elim (cases_eq other condition) [
          | inl same ↦ absurd (none_some (sym none ∙ ap (answer_in new) (sym same) ∙ is))
          | inr apart ↦ (
              let x : Answer = record { condition = other; holds = value } in
              All-contains (λ (y : Answer). y.condition ≢ condition → Contains kept y) answers x (but_has_others condition answers) (are.only other value (sym (others other apart) ∙ is)) apart)
        ];
      }

-- a list that is set to none there, if it is that long
pub set_none : (index : List (Option Bool)) (condition : ℕ) → condition < length index → ((other : ℕ) → other ≢ condition → answer_in (set index condition None) other ≡ answer_in index other) × (answer_in (set index condition None) condition ≡ None)
set_none index condition within = (λ other apart. get_or-set_other index condition other None None apart, get_or-set_same index condition None None within)
