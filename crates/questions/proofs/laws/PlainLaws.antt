-- Where no rule needs anything, the table that is left is the table itself, and a leaf shows its whole trail.
use Rattle.std.proofs.Common.{◌≡◌, inl, inr, ℕ, zero, suc, Bool, false, List, [], ◌∷◌, get_or, refl, All, Vec, Global, true, sym, ◌∙◌, ap, subst, ◌↔◌, map, IsTrue, filter}
use Rattle.std.proofs.lemmas.Bool.{cases_Bool, cond-true}
use Rattle.std.proofs.lemmas.List.Elements.{All-cons, All-head, All-nil, All-tail}
use Rattle.fields.specs.declared.packet.hook.Hook.{Hook}
use Rattle.fields.specs.numbers.Spans.{SpanSet}
use Rattle.table.specs.chains.Table.{Chain, Table}
use Rattle.table.specs.walk.Walk.{Entry, Walked}
use Rattle.questions.specs.Foreign.{AreWithoutNeeds, Agrees, Assignment, resolved}
use Rattle.questions.specs.declared.foreign.need.Need.{Need}
use Rattle.questions.specs.Leaves.{AreExactOn, entries_of, walked_of}
use Rattle.questions.specs.Scopes.{AreExactUnder, Known, answered, is_met, table_of, unasked, walked_by}
use Rattle.questions.specs.declared.foreign.subject.Subject.{Subject}
use Rattle.questions.specs.declared.foreign.answers.Answer.{Answer}
use Rattle.questions.specs.declared.walking.task.Leaf.{Leaf}
use Rattle.questions.proofs.laws.AnswerLaws.{some_assignment_gives}
use Rattle.questions.proofs.laws.ResolvedLaws.{resolved_without_needs}

-- ---- Tables in which no rule needs anything.

-- a rule needs nothing
abbrev IsEmpty : Vec Need Global → Type 0
IsEmpty needs = needs.items ≡ []

-- nor does one of a chain
abbrev pub AreEmpty : List (Vec Need Global) → Type 0
AreEmpty chain = All IsEmpty chain

abbrev items_of : List (Vec Need Global) → List (List Need)
items_of chain = map (λ (needs : Vec Need Global). needs.items) chain

empty_at : (chain : List (Vec Need Global)) → AreEmpty chain → (passed : ℕ) → get_or (items_of chain) passed [] ≡ []
empty_at [] all passed = refl
empty_at (needs ∷ chain) all zero = All-head IsEmpty needs chain all
empty_at (needs ∷ chain) all (suc passed) = empty_at chain (All-tail IsEmpty needs chain all) passed

at_empty : (chain : List (Vec Need Global)) → ((passed : ℕ) → get_or (items_of chain) passed [] ≡ []) → AreEmpty chain
at_empty [] each = All-nil IsEmpty
at_empty (needs ∷ chain) each = All-cons IsEmpty needs chain (each zero) (at_empty chain (λ passed. each (suc passed)))

-- ---- chain by chain

abbrev pub IsFree : Vec (Vec Need Global) Global → Type 0
IsFree chain = AreEmpty chain.items

abbrev listed : List (Vec (Vec Need Global) Global) → List (List (List Need))
listed chains = map (λ (chain : Vec (Vec Need Global) Global). items_of chain.items) chains

pub free_without : (chains : List (Vec (Vec Need Global) Global)) → All IsFree chains → AreWithoutNeeds (listed chains)
free_without [] all place passed = refl
free_without (chain ∷ chains) all zero passed = empty_at chain.items (All-head IsFree chain chains all) passed
free_without (chain ∷ chains) all (suc place) passed = free_without chains (All-tail IsFree chain chains all) place passed

pub without_free : (chains : List (Vec (Vec Need Global) Global)) → AreWithoutNeeds (listed chains) → All IsFree chains
without_free [] none = All-nil IsFree
without_free (chain ∷ chains) none = All-cons IsFree chain chains (at_empty chain.items (λ passed. none zero passed)) (without_free chains (λ place passed. none (suc place) passed))

-- what is told of the lists is true of what they say
pub told_free : (chains : List (Vec (Vec Need Global) Global)) (told : Bool) → (IsTrue told → All IsFree chains) → (told ≡ false → All IsFree chains → ⊥) → IsTrue told ↔ AreWithoutNeeds (listed chains)
told_free chains told free some = (
  λ is. free_without chains (free is),
  λ none. elim (cases_Bool told) [ inl is ↦ is | inr off ↦ absurd (some off (without_free chains none)) ],
)

-- ---- Where no rule needs anything, the table that is left is the table itself, and a leaf shows its whole trail.

all_stay : {X : Type 0} (p : X → Bool) (xs : List X) → ((x : X) → p x ≡ true) → filter p xs ≡ xs
all_stay p [] all = refl
all_stay {X} p (x ∷ xs) all = cond-true (p x) (x ∷ filter p xs) (filter p xs) (all x) ∙ ap (λ (ys : List X). x ∷ ys) (all_stay p xs all)

-- what is known, where nothing is needed
abbrev pub knowing : Assignment → Known
knowing a = record { needs = []; holds = a }

walked_plain : (a : Assignment) (cs : List Chain) (leaf : Leaf) → walked_by (knowing a) cs leaf ≡ walked_of cs leaf
walked_plain a cs leaf = ap (λ (entries : List Entry). shows entries) (ap (entries_of cs) (all_stay (is_met (knowing a)) leaf.trail.items (λ step. refl)))
  where
    shows : List Entry → Walked
    shows entries = record { trail = entries; verdict = leaf.verdict; by_policy = leaf.by_policy }

-- every assignment gives no answers
pub gives_none : (a : Assignment) → Agrees a []
gives_none a = All-nil (λ (answer : Answer). a answer.condition ≡ answer.holds)

module _ (t : Table) (needs : List (List (List Need))) (none : needs ≡ []) (hook : Hook) (box : List SpanSet) where
  -- what is known, and the table that is left
  abbrev known : Assignment → Known
  known a = record { needs = needs; holds = a }

  as_plain : (P : Table → Known → Type 0) (a : Assignment) → P (resolved needs a t) (known a) → P t (knowing a)
  as_plain P a h =
      rw (resolved_without_needs [] a t (λ place passed. refl)) at (rw none at h)

  pub exact_plain : (leaves : List Leaf) → ((a : Assignment) → AreExactUnder (resolved needs a t) (known a) hook (unasked box) leaves) → AreExactOn t hook box leaves
  exact_plain leaves all p can e k d lt inside =
      let leaf : Leaf = get_or leaves k d in
      let (a, agrees) = some_assignment_gives leaf.answers leaf.consistent in
      let (own, walked) = as_plain (λ u v. AreExactUnder u v hook (unasked box) leaves) a (all a) p can e k d lt (record { inside = inside; agrees = agrees }) in
      (own.inside, walked ∙ walked_plain a t.chains leaf)

-- what holds of the table holds of the table that is left
pub from_whole : (s : Subject) → AreWithoutNeeds s.needs.now → (P : Table → Type 0) (a : Assignment) → P (table_of s) → P (answered s a)
from_whole s none P a h = subst P (sym (resolved_without_needs s.needs.now a (table_of s) none)) h
