-- Answers: which assignments give them, which conditions they are about, and what they tell of a rule's needs.
use Rattle.std.proofs.Common.{◌≡◌, ◌≢◌, ℕ, zero, suc, ◌+◌, ◌<◌, List, [], ◌∷◌, ◌++◌, length, get_or, take, refl, sym, ◌∙◌, ap, arith, subst, ◌⊎◌, inl, inr, ◌≤◌, Bool, true, false, cond, not, Option, Some, None, Any, Contains, All, nat_eq, get_or-take, length-take, length-append, true≢false}
use Rattle.std.proofs.lemmas.List.{get_or_default, get_or_append_left}
use Rattle.std.specs.Option.{option_or}
use Rattle.std.proofs.Math.Bool.{beq}
use Rattle.std.proofs.lemmas.Bool.{cases_Bool, cond-false, cond-true}
use Rattle.std.proofs.lemmas.Bool.Decides.{eqb_tells}
use Rattle.std.proofs.lemmas.List.Elements.{All-contains, All-push, Contains-push, All-cons, All-nil, Contains-get_or}
use Rattle.std.proofs.lemmas.List.Quantifiers.{all_pairs_push}
use Rattle.std.proofs.lemmas.List.Folds.{list_all_at}
use Rattle.std.proofs.lemmas.List.Sums.{list_all-from_AllPass}
use Rattle.fields.specs.declared.packet.hook.Hook.{Hook}
use Rattle.questions.specs.Foreign.{AreConsistent, IsUnanswered, Agrees, Assignment, all_hold, need_holds, AreAsked, IsNeeded}
use Rattle.questions.specs.declared.foreign.answers.Answer.{Answer}
use Rattle.questions.specs.declared.foreign.need.Need.{Need}
use Rattle.questions.specs.declared.foreign.need.Standing.TheVariants.{Holds, Open}
use Rattle.questions.specs.steps.Answered.{IsMet, IsStanding, MeetsNever}
use Rattle.questions.specs.steps.Waiting.{AllAsked}
use Rattle.questions.specs.declared.walking.front.Front.{Front}
use Rattle.questions.specs.declared.walking.scope.Scope.{Scope}
use Rattle.questions.specs.declared.walking.task.Leaf.{Leaf}
use Rattle.questions.specs.declared.walking.task.Task.{Task}
use Rattle.questions.specs.steps.Taken.{IsFirst}
use Rattle.questions.proofs.laws.TrailLaws.{items_next}

-- ---- The first elements of a list, and the first of some answers.

-- the first of them, so many, are consistent
pub first_consistent : (answers : List Answer) (n : ℕ) → AreConsistent answers → AreConsistent (take n answers)
first_consistent answers n apart k i e before lt =
    let in_n : i < n = omega (arith, lt, length-take n answers) in
    let in_all : i < length answers = omega (arith, lt, length-take n answers) in
    rw (← get_or-take n answers k e (omega (arith, before, in_n))) at (subst (λ (answer : Answer). (get_or answers k e).condition ≢ answer.condition) (sym (get_or-take n answers i e in_n)) (apart k i e before in_all))

-- the next one is about another condition than those before it
pub next_unanswered : (answers : List Answer) (i : ℕ) (d : Answer) → AreConsistent answers → i < length answers → IsUnanswered (take i answers) (get_or answers i d).condition
next_unanswered answers i d apart lt k e less =
    let before : k < i = omega (arith, less, length-take i answers) in
    rw (← get_or-take i answers k e before) at (subst (λ (answer : Answer). (get_or answers k e).condition ≢ answer.condition) (get_or_default answers i e d lt) (apart k i e before lt))

-- ---- Answers: which assignments give them, and what they tell of a rule's needs.

-- an answer
abbrev about : ℕ → Bool → Answer
about condition holds = record { condition = condition; holds = holds }

-- ---- an answer is given

pub is_given : (a : Assignment) (answers : List Answer) (condition : ℕ) (holds : Bool) → Agrees a answers → Contains answers (about condition holds) → a condition ≡ holds
is_given a answers condition holds agrees on = All-contains (λ (answer : Answer). a answer.condition ≡ answer.holds) answers (about condition holds) agrees on

pub agrees_with_one_more : (a : Assignment) (answers : List Answer) (condition : ℕ) (holds : Bool) → Agrees a answers → a condition ≡ holds → Agrees a (answers ++ about condition holds ∷ [])
agrees_with_one_more a answers condition holds agrees is = All-push (λ (answer : Answer). a answer.condition ≡ answer.holds) answers (about condition holds) agrees is

pub agrees_before : (a : Assignment) (answers more : List Answer) → Agrees a (answers ++ more) → Agrees a answers
agrees_before a answers more agrees k d lt =
    rw (get_or_append_left answers more d k lt) at (agrees k d (omega (arith, lt, length-append answers more)))

-- ---- some assignment gives the answers

-- a condition holds as the first answer about it says, and not without an answer
abbrev giving : List Answer → Assignment
giving [] condition = false
giving (answer ∷ answers) condition = cond (nat_eq answer.condition condition) answer.holds (giving answers condition)

first_gives : (answer : Answer) (answers : List Answer) → giving (answer ∷ answers) answer.condition ≡ answer.holds
first_gives answer answers =
    elim (eqb_tells answer.condition answer.condition) [
      | inl (same, is) ↦ cond-true (nat_eq answer.condition answer.condition) answer.holds _ same
      | inr (other, apart) ↦ absurd (apart refl)
    ]

other_gives : (answer : Answer) (answers : List Answer) (condition : ℕ) → answer.condition ≢ condition → giving (answer ∷ answers) condition ≡ giving answers condition
other_gives answer answers condition apart =
    elim (eqb_tells answer.condition condition) [
      | inl (same, is) ↦ absurd (apart is)
      | inr (other, un) ↦ cond-false (nat_eq answer.condition condition) answer.holds _ other
    ]

giving_agrees : (answers : List Answer) → AreConsistent answers → Agrees (giving answers) answers
giving_agrees [] apart k d lt = absurd (omega (arith, lt))
giving_agrees (answer ∷ answers) apart zero d lt = first_gives answer answers
giving_agrees (answer ∷ answers) apart (suc k) d lt =
    let within : k < length answers = omega (arith, lt) in
    let rest : AreConsistent answers = λ i j e less there. apart (suc i) (suc j) e (omega (arith, less)) (omega (arith, there)) in
    other_gives answer answers (get_or answers k d).condition (apart 0 (suc k) d (omega arith) lt) ∙ giving_agrees answers rest k d within

pub some_assignment_gives : (answers : List Answer) → AreConsistent answers → (a : Assignment) × Agrees a answers
some_assignment_gives answers apart = (giving answers, giving_agrees answers apart)

-- so a condition without an answer may hold, and may not
pub either_is_given : (answers : List Answer) (condition : ℕ) (holds : Bool) → AreConsistent answers → IsUnanswered answers condition → (a : Assignment) × Agrees a answers × (a condition ≡ holds)
either_is_given answers condition holds apart unanswered =
    let more : List Answer = answers ++ about condition holds ∷ [] in
    let (a, agrees) = some_assignment_gives more (all_pairs_push (λ (one other : Answer). one.condition ≢ other.condition) answers (about condition holds) apart unanswered) in
    (a, agrees_before a answers (about condition holds ∷ []) agrees, is_given a more condition holds agrees (Contains-push answers (about condition holds)))

-- ---- what is known of needs

met_by : (inverted value holds : Bool) → value ≡ holds → beq holds inverted ≡ false → cond inverted (not value) value ≡ true
met_by true true true e h = absurd (true≢false h)
met_by true true false e h = absurd (true≢false e)
met_by true false true e h = absurd (true≢false (sym e))
met_by true false false e h = refl
met_by false true holds e h = refl
met_by false false true e h = absurd (true≢false (sym e))
met_by false false false e h = absurd (true≢false h)

pub is_met : (answers : List Answer) (need : Need) (holds : Bool) → Contains answers (about need.condition holds) → beq holds need.inverted ≡ false → IsMet answers need
is_met answers need holds on h a agrees = met_by need.inverted (a need.condition) holds (is_given a answers need.condition holds agrees on) h

-- what is known once the first so many needs were looked at: with none of them open all are met, and else the first open one is known
abbrev pub IsSoFar : List Need → List Answer → ℕ → Option ℕ → Type 0
IsSoFar needs answers seen None = (k : ℕ) (d : Need) → k < seen → IsMet answers (get_or needs k d)
IsSoFar needs answers seen (Some condition) =
    Any (λ (need : Need). need.condition ≡ condition) needs × IsUnanswered answers condition
    × ((k : ℕ) (d : Need) → k < seen → IsUnanswered answers (get_or needs k d).condition ⊎ IsMet answers (get_or needs k d))

module _ (needs : List Need) (answers : List Answer) (seen : ℕ) (d : Need) (within : seen < length needs) where
  -- the need that is looked at
  abbrev need : Need
  need = get_or needs seen d

  -- what holds of those before it, and of it, holds of one more
  one_more : (P : Need → Type 0) → ((k : ℕ) (d : Need) → k < seen → P (get_or needs k d)) → P need → (k : ℕ) (d : Need) → k < seen + 1 → P (get_or needs k d)
  one_more P before here = items_next P needs seen need within (get_or_default needs seen d need within) before here

  abbrev IsEither : Need → Type 0
  IsEither x = IsUnanswered answers x.condition ⊎ IsMet answers x

  pub met_so_far : (found : Option ℕ) → IsSoFar needs answers seen found → IsMet answers need → IsSoFar needs answers (seen + 1) found
  met_so_far None met here = one_more (IsMet answers) met here
  met_so_far (Some condition) (needed, unanswered, others) here = (needed, unanswered, one_more IsEither others (inr here))

  pub open_so_far : (found : Option ℕ) → IsSoFar needs answers seen found → IsUnanswered answers need.condition → IsSoFar needs answers (seen + 1) (option_or found (Some need.condition))
  open_so_far None met here = ((seen, need, within, sym (get_or_default needs seen d need within), refl), here, one_more IsEither (λ k e lt. inr (met k e lt)) (inl here))
  open_so_far (Some condition) (needed, unanswered, others) here = (needed, unanswered, one_more IsEither others (inl here))

pub all_are_met : (needs : List Need) (answers : List Answer) (seen : ℕ) → length needs ≤ seen → IsSoFar needs answers seen None → IsStanding needs answers Holds
all_are_met needs answers seen all met a agrees = list_all-from_AllPass (need_holds a) needs (λ k d lt. met k d (omega (arith, lt, all)) a agrees)

pub one_is_open : (needs : List Need) (answers : List Answer) (seen condition : ℕ) → length needs ≤ seen → IsSoFar needs answers seen (Some condition) → IsStanding needs answers (Open condition)
one_is_open needs answers seen condition all (needed, unanswered, others) = record { needed = needed; unanswered = unanswered; others = λ k d lt. others k d (omega (arith, lt, all)) }

-- ---- needs that are met by more answers

-- each need holds where all do
pub each_holds : (a : Assignment) (needs : List Need) → all_hold a needs ≡ true → (k : ℕ) (d : Need) → k < length needs → need_holds a (get_or needs k d) ≡ true
each_holds a needs all k d lt =
    elim (cases_Bool (need_holds a (get_or needs k d))) [ inl h ↦ h | inr un ↦ absurd (true≢false (sym all ∙ list_all_at (need_holds a) needs k d lt un)) ]

pub unmet_by : (inverted value holds : Bool) → value ≡ holds → beq holds inverted ≡ true → cond inverted (not value) value ≡ false
unmet_by true true true e h = refl
unmet_by true true false e h = absurd (true≢false e)
unmet_by true false true e h = absurd (true≢false (sym e))
unmet_by true false false e h = absurd (true≢false (sym h))
unmet_by false true true e h = absurd (true≢false (sym h))
unmet_by false true false e h = absurd (true≢false e)
unmet_by false false holds e h = refl

needed : (inverted value : Bool) → cond inverted (not value) value ≡ true → value ≡ not inverted
needed true true h = absurd (true≢false (sym h))
needed true false h = refl
needed false true h = refl
needed false false h = absurd (true≢false (sym h))

as_needed : (inverted value : Bool) → value ≡ not inverted → cond inverted (not value) value ≡ true
as_needed true true h = absurd (true≢false h)
as_needed true false h = refl
as_needed false true h = refl
as_needed false false h = absurd (true≢false (sym h))

module _ (needs : List Need) (before answers : List Answer) (seen : ℕ) (d : Need) (within : seen < length needs)
    (all : (a : Assignment) → Agrees a before → ((k : ℕ) (e : Need) → k < seen → need_holds a (get_or needs k e) ≡ true) → Agrees a answers) where
  abbrev looked : Need
  looked = get_or needs seen d

  -- an answer is against it
  pub never_met : (holds : Bool) → Contains answers (about looked.condition holds) → beq holds looked.inverted ≡ true → MeetsNever needs before
  never_met holds on against a agrees =
      elim (cases_Bool (all_hold a needs)) [
        | inr un ↦ un
        | inl held ↦ (
            let each : (k : ℕ) (e : Need) → k < length needs → need_holds a (get_or needs k e) ≡ true = each_holds a needs held in
            let given : Agrees a answers = all a agrees (λ k e lt. each k e (omega (arith, lt, within))) in
            absurd (true≢false (sym (each seen d within) ∙ unmet_by looked.inverted (a looked.condition) holds (is_given a answers looked.condition holds given on) against)))
      ]

  -- where it holds, too, the answer that it wants is right
  pub all_more : (a : Assignment) → Agrees a before → ((k : ℕ) (e : Need) → k < seen + 1 → need_holds a (get_or needs k e) ≡ true) → Agrees a (answers ++ about looked.condition (not looked.inverted) ∷ [])
  all_more a agrees each =
      agrees_with_one_more a answers looked.condition (not looked.inverted) (all a agrees (λ k e lt. each k e (omega (arith, lt))))
      (needed looked.inverted (a looked.condition) (each seen d (omega arith)))

-- it holds, and those before it do
pub one_holds : (a : Assignment) (needs : List Need) (seen : ℕ) (d : Need) → seen < length needs → ((k : ℕ) (e : Need) → k < seen → need_holds a (get_or needs k e) ≡ true) → need_holds a (get_or needs seen d) ≡ true
    → (k : ℕ) (e : Need) → k < seen + 1 → need_holds a (get_or needs k e) ≡ true
one_holds a needs seen d within before here =
    items_next (λ (x : Need). need_holds a x ≡ true) needs seen (get_or needs seen d) within (get_or_default needs seen d (get_or needs seen d) within) before here

-- it holds where the answer that it wants is right
pub wanted_holds : (a : Assignment) (need : Need) (answers : List Answer) → Agrees a (answers ++ about need.condition (not need.inverted) ∷ []) → need_holds a need ≡ true
wanted_holds a need answers agrees =
    as_needed need.inverted (a need.condition) (is_given a (answers ++ about need.condition (not need.inverted) ∷ []) need.condition (not need.inverted) agrees (Contains-push answers (about need.condition (not need.inverted))))

-- ---- Answers that were given, or are about conditions that some rule needs.

-- with one answer more
pub asked_more : (needs : List (List (List Need))) (given answers more : List Answer) (answer : Answer) → more ≡ answers ++ answer ∷ [] → AreAsked needs given answers → IsNeeded needs answer.condition → AreAsked needs given more
asked_more needs given answers more answer is own need =
    let Asked : Answer → Type 0 = λ a. Contains given a ⊎ IsNeeded needs a.condition in
    subst (All Asked) (sym is) (All-push Asked answers answer own (inr need))

-- a box at the first rule of a hook's chain
pub asked_first : (needs : List (List (List Need))) (hook : Hook) (start : Scope) (front : Front) → IsFirst hook start front → AllAsked needs start.answers front
asked_first needs hook start front first =
    let Tasks : Task → Type 0 = λ task. AreAsked needs start.answers task.scope.answers in
    let Leaves : Leaf → Type 0 = λ leaf. AreAsked needs start.answers leaf.answers in
    let P : Scope → Type 0 = λ scope. AreAsked needs start.answers scope.answers in
    let own : Tasks first.task = subst P (sym first.stands) (λ k d lt. inl (Contains-get_or start.answers k d lt)) in
    record {
      tasks = subst (All Tasks) (sym first.tasks) (All-cons Tasks first.task [] own (All-nil Tasks));
      leaves = subst (All Leaves) (sym first.leaves) (All-nil Leaves);
    }

-- needs that ask that a condition holds, and that it doesn't, are never met
pub contrary : (a : Assignment) (needs : List Need) (condition : ℕ) → Contains needs (record { condition = condition; inverted = false }) → Contains needs (record { condition = condition; inverted = true }) → all_hold a needs ≡ false
contrary a needs condition (k, lt, is) (j, less, at) =
    elim (cases_Bool (a condition)) [
      | inl held ↦ list_all_at (need_holds a) needs j _ less (ap (need_holds a) at ∙ ap not held)
      | inr un ↦ list_all_at (need_holds a) needs k _ lt (ap (need_holds a) is ∙ un)
    ]
