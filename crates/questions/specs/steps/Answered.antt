-- What answers tell of the needs of a rule, which conditions they are about, and what is left of the needs.
use Rattle.std.specs.Prelude.{◌≡◌, ◌⊎◌, ◌==◌, ℕ, Bool, not, List, filter, slice_index_or, Option, Some, None, All, Any, Contains, IsTrue, IsFalse, [], ◌∷◌, Vec}
use Rattle.std.specs.Global.{Global}
use Rattle.questions.specs.Foreign.{Agrees, AreConsistent, Assignment, IsUnanswered, all_hold, need_holds, AgreeOnOpen}
use Rattle.questions.specs.declared.foreign.need.Need.{Need}
use Rattle.questions.specs.declared.foreign.answers.Answer.{Answer}
use Rattle.questions.specs.declared.foreign.need.Standing.{Standing}
use Rattle.questions.specs.declared.foreign.need.Standing.TheVariants.{Holds, Fails, Open}

-- ---- What answers tell of the needs of a rule.

-- what a condition was answered, by a list of that for all conditions, from the first on; those behind have no answer
abbrev pub answer_in : List (Option Bool) → ℕ → Option Bool
answer_in index condition = slice_index_or index condition None

-- two lists have the same answers
abbrev pub AreSameIndex : List (Option Bool) → List (Option Bool) → Type 0
AreSameIndex old new = (condition : ℕ) → answer_in new condition ≡ answer_in old condition

-- Such a list has the answers, no two of which are about one condition, and no others.
pub record AreIndexed (index : List (Option Bool)) (answers : List Answer) : Type 0 where
  pub consistent : AreConsistent answers
  pub each : All (λ (answer : Answer). answer_in index answer.condition ≡ Some answer.holds) answers
  pub only : (condition : ℕ) (holds : Bool) → answer_in index condition ≡ Some holds → Contains answers (record { condition = condition; holds = holds })

-- an answer is to another condition
abbrev pub others_than : ℕ → Answer → Bool
others_than condition answer = not (answer.condition == condition)

-- the answers but one, to a condition
abbrev pub answers_but : ℕ → List Answer → List Answer
answers_but condition answers = filter (others_than condition) answers

-- each assignment that gives the answers meets the need
abbrev pub IsMet : List Answer → Need → Type 0
IsMet answers need = (a : Assignment) → Agrees a answers → IsTrue (need_holds a need)

-- The answers leave a condition open that is needed, and meet each need that they don't leave open.
pub record IsOpen (needs : List Need) (answers : List Answer) (condition : ℕ) : Type 0 where
  pub needed : Any (λ (need : Need). need.condition ≡ condition) needs
  pub unanswered : IsUnanswered answers condition
  pub others : All (λ (need : Need). IsUnanswered answers need.condition ⊎ IsMet answers need) needs

-- what is known of a rule's needs: each assignment that gives the answers meets them all; or each fails one; or a condition is open
abbrev pub IsStanding : List Need → List Answer → Standing → Type 0
IsStanding needs answers Holds = (a : Assignment) → Agrees a answers → IsTrue (all_hold a needs)
IsStanding needs answers Fails = (a : Assignment) → Agrees a answers → IsFalse (all_hold a needs)
IsStanding needs answers (Open condition) = IsOpen needs answers condition

-- no assignment that gives the answers meets all needs
abbrev pub MeetsNever : List Need → List Answer → Type 0
MeetsNever needs answers = (a : Assignment) → Agrees a answers → IsFalse (all_hold a needs)

-- no two of these answers are about one condition, and an assignment gives them just if it gives the others and meets all needs
pub record IsMeeting (needs : List Need) (answers more : List Answer) : Type 0 where
  pub consistent : AreConsistent more
  pub all : (a : Assignment) → Agrees a answers → IsTrue (all_hold a needs) → Agrees a more
  pub own : (a : Assignment) → Agrees a more → Agrees a answers × IsTrue (all_hold a needs)

-- ---- Needs that hold together with others, where answers are right.

-- where the answers are right, all of some needs hold just if all of the others do
abbrev pub AreAlike : List Answer → List Need → List Need → Type 0
AreAlike answers needs others = (a : Assignment) → Agrees a answers → all_hold a others ≡ all_hold a needs

-- some needs ask no condition that has an answer, unless they can't be met: assignments that agree on each other condition meet all of them both, or
-- neither does
abbrev pub AreFree : List Answer → List Need → Type 0
AreFree answers needs = (a b : Assignment) → AgreeOnOpen answers a b → all_hold a needs ≡ all_hold b needs

-- the same of the needs of the rules of a chain
abbrev pub AreFreeInChain : List Answer → List (Vec Need Global) → Type 0
AreFreeInChain answers chain = All (λ (needs : Vec Need Global). AreFree answers needs.items) chain

-- and of all chains
abbrev pub AreFreeInAll : List Answer → List (Vec (Vec Need Global) Global) → Type 0
AreFreeInAll answers chains = All (λ (chain : Vec (Vec Need Global) Global). AreFreeInChain answers chain.items) chains

-- two lists are as long, and what is at each place is alike
abbrev pub AreAlikeInTurn : {X : Type 0} → (X → X → Type 0) → List X → List X → Type 0
AreAlikeInTurn alike [] [] = Unit {0}
AreAlikeInTurn alike [] (other ∷ others) = ⊥
AreAlikeInTurn alike (one ∷ ones) [] = ⊥
AreAlikeInTurn alike (one ∷ ones) (other ∷ others) = alike one other × AreAlikeInTurn alike ones others

-- the same of the needs of the rules of a chain, rule by rule
abbrev pub AreAlikeInChain : List Answer → List (Vec Need Global) → List (Vec Need Global) → Type 0
AreAlikeInChain answers = AreAlikeInTurn (λ (needs other : Vec Need Global). AreAlike answers needs.items other.items)

-- the same of all chains, chain by chain
abbrev pub AreAlikeInAll : List Answer → List (Vec (Vec Need Global) Global) → List (Vec (Vec Need Global) Global) → Type 0
AreAlikeInAll answers = AreAlikeInTurn (λ (chain other : Vec (Vec Need Global) Global). AreAlikeInChain answers chain.items other.items)
