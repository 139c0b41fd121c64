-- What is left of needs where answers are right.
use Rattle.std.proofs.Common.{◌≡◌, ◌&&◌, ℕ, ◌+◌, ◌<◌, Bool, true, false, cond, not, List, [], ◌∷◌, ◌++◌, length, get_or, take, map, refl, sym, ◌∙◌, ap, Contains, Vec, Global}
use Rattle.std.proofs.Math.Bool.{beq}
use Rattle.std.proofs.lemmas.List.Elements.{All-head, All-tail}
use Rattle.std.proofs.lemmas.List.Folds.{list_all-append, list_all_more, list_all_at}
use Rattle.rules.specs.rule.Rules.{Rule}
use Rattle.table.specs.chains.Table.{Chain, Table}
use Rattle.questions.specs.Foreign.{AgreeOnOpen, Agrees, Assignment, IsUnanswered, all_hold, need_holds, resolved, resolved_chains, resolved_rules}
use Rattle.questions.specs.declared.foreign.answers.Answer.{Answer}
use Rattle.questions.specs.declared.foreign.need.Need.{Need}
use Rattle.questions.proofs.laws.AnswerLaws.{is_given, unmet_by}
use Rattle.questions.specs.steps.Answered.{AreAlikeInAll, AreAlikeInChain, AreAlikeInTurn, AreFree, AreFreeInAll, AreFreeInChain}

and_true : (b : Bool) → (b && true) ≡ b
and_true true = refl
and_true false = refl

-- one more at the end of each
pub one_more : {X : Type 0} (alike : X → X → Type 0) (ones others : List X) (one other : X) → AreAlikeInTurn alike ones others → alike one other → AreAlikeInTurn alike (ones ++ one ∷ []) (others ++ other ∷ [])
one_more alike [] [] one other h new = (new, tt)
one_more alike [] (y ∷ others) one other h new = absurd h
one_more alike (x ∷ ones) [] one other h new = absurd h
one_more alike (x ∷ ones) (y ∷ others) one other h new = (h.0, one_more alike ones others one other h.1 new)

-- what one need more says, where it is answered as it is needed
pub met_more : (a : Assignment) (needs left : List Need) (i : ℕ) (d : Need) → i < length needs → all_hold a left ≡ all_hold a (take i needs) → need_holds a (get_or needs i d) ≡ true → all_hold a left ≡ all_hold a (take (i + 1) needs)
met_more a needs left i d lt same met = same ∙ sym (list_all_more (need_holds a) needs i d lt ∙ (λ j. all_hold a (take i needs) && met j) ∙ and_true (all_hold a (take i needs)))

-- where it is left open
pub open_more : (a : Assignment) (needs left : List Need) (i : ℕ) (d : Need) → i < length needs → all_hold a left ≡ all_hold a (take i needs) → all_hold a (left ++ get_or needs i d ∷ []) ≡ all_hold a (take (i + 1) needs)
open_more a needs left i d lt same =
    list_all-append (need_holds a) left (get_or needs i d ∷ []) ∙ (λ j. same j && (need_holds a (get_or needs i d) && true)) ∙ (λ j. all_hold a (take i needs) && and_true (need_holds a (get_or needs i d)) j) ∙ sym (list_all_more (need_holds a) needs i d lt)

rules_alike : (answers : List Answer) (a : Assignment) → Agrees a answers → (chain others : List (Vec Need Global)) → AreAlikeInChain answers chain others → (rules : List Rule)
    → resolved_rules a (map (λ (needs : Vec Need Global). needs.items) others) rules ≡ resolved_rules a (map (λ (needs : Vec Need Global). needs.items) chain) rules
rules_alike answers a agrees [] [] h rules = refl
rules_alike answers a agrees [] (o ∷ others) h rules = absurd h
rules_alike answers a agrees (n ∷ chain) [] h rules = absurd h
rules_alike answers a agrees (n ∷ chain) (o ∷ others) h [] = refl
rules_alike answers a agrees (n ∷ chain) (o ∷ others) h (rule ∷ rules) = rw (h.0 a agrees, rules_alike answers a agrees chain others h.1 rules) refl

chains_alike : (answers : List Answer) (a : Assignment) → Agrees a answers → (kept left : List (Vec (Vec Need Global) Global)) → AreAlikeInAll answers kept left → (chains : List Chain)
    → resolved_chains a (map (λ (own : Vec (Vec Need Global) Global). map (λ (needs : Vec Need Global). needs.items) own.items) left) chains ≡ resolved_chains a (map (λ (own : Vec (Vec Need Global) Global). map (λ (needs : Vec Need Global). needs.items) own.items) kept) chains
chains_alike answers a agrees [] [] h chains = refl
chains_alike answers a agrees [] (o ∷ left) h chains = absurd h
chains_alike answers a agrees (n ∷ kept) [] h chains = absurd h
chains_alike answers a agrees (n ∷ kept) (o ∷ left) h [] = refl
chains_alike answers a agrees (n ∷ kept) (o ∷ left) h (chain ∷ chains) = rw (rules_alike answers a agrees n.items o.items h.0 chain.rules, chains_alike answers a agrees kept left h.1 chains) refl

-- an assignment that gives the answers leaves the same of a table
pub left_alike : (answers : List Answer) (a : Assignment) → Agrees a answers → (kept left : List (Vec (Vec Need Global) Global)) → AreAlikeInAll answers kept left → (t : Table)
    → resolved (map (λ (own : Vec (Vec Need Global) Global). map (λ (needs : Vec Need Global). needs.items) own.items) left) a t ≡ resolved (map (λ (own : Vec (Vec Need Global) Global). map (λ (needs : Vec Need Global). needs.items) own.items) kept) a t
left_alike answers a agrees kept left h t = ap (λ (chains : List Chain). record { policies = t.policies; chains = chains }) (chains_alike answers a agrees kept left h t.chains)

-- a need and the same inverted are never met together
pub never_both : (a : Assignment) (need : Need) → all_hold a (need ∷ record { condition = need.condition; inverted = not need.inverted } ∷ []) ≡ false
never_both a need = both (a need.condition) need.inverted
  where
    both : (holds inverted : Bool) → (cond inverted (not holds) holds && (cond (not inverted) (not holds) holds && true)) ≡ false
    both true true = refl
    both true false = refl
    both false true = refl
    both false false = refl

-- a need that is answered otherwise fails, and so does what can't be met
pub unmet_alike : (a : Assignment) (answers : List Answer) (needs : List Need) (i : ℕ) (d other : Need) (holds : Bool) → i < length needs → Agrees a answers
    → Contains answers (record { condition = (get_or needs i d).condition; holds = holds }) → beq holds (get_or needs i d).inverted ≡ true
    → all_hold a (other ∷ record { condition = other.condition; inverted = not other.inverted } ∷ []) ≡ all_hold a needs
unmet_alike a answers needs i d other holds lt agrees on against =
    let need = get_or needs i d in
    never_both a other ∙ sym (list_all_at (need_holds a) needs i d lt (unmet_by need.inverted (a need.condition) holds (is_given a answers need.condition holds agrees on) against))

-- ---- needs that ask no condition with an answer

-- one more that asks none
pub free_more : (answers : List Answer) (left : List Need) (need : Need) → AreFree answers left → IsUnanswered answers need.condition → AreFree answers (left ++ need ∷ [])
free_more answers left need free un a b agree =
    list_all-append (need_holds a) left (need ∷ []) ∙ (λ j. free a b agree j && ((ap (λ h. cond need.inverted (not h) h) (agree need.condition un)) j && true)) ∙ sym (list_all-append (need_holds b) left (need ∷ []))

abbrev Frees : List Answer → Vec Need Global → Type 0
Frees answers needs = AreFree answers needs.items

rules_free : (answers : List Answer) (a b : Assignment) → AgreeOnOpen answers a b → (chain : List (Vec Need Global)) → AreFreeInChain answers chain → (rules : List Rule)
    → resolved_rules a (map (λ (needs : Vec Need Global). needs.items) chain) rules ≡ resolved_rules b (map (λ (needs : Vec Need Global). needs.items) chain) rules
rules_free answers a b agree chain free [] = refl
rules_free answers a b agree [] free (rule ∷ rules) = ap (λ (rest : List Rule). rule ∷ rest) (rules_free answers a b agree [] free rules)
rules_free answers a b agree (own ∷ chain) free (rule ∷ rules) =
    rw (All-head (Frees answers) own chain free a b agree, rules_free answers a b agree chain (All-tail (Frees answers) own chain free) rules) refl

abbrev FreesAll : List Answer → Vec (Vec Need Global) Global → Type 0
FreesAll answers chain = AreFreeInChain answers chain.items

chains_free : (answers : List Answer) (a b : Assignment) → AgreeOnOpen answers a b → (left : List (Vec (Vec Need Global) Global)) → AreFreeInAll answers left → (chains : List Chain)
    → resolved_chains a (map (λ (own : Vec (Vec Need Global) Global). map (λ (needs : Vec Need Global). needs.items) own.items) left) chains ≡ resolved_chains b (map (λ (own : Vec (Vec Need Global) Global). map (λ (needs : Vec Need Global). needs.items) own.items) left) chains
chains_free answers a b agree left free [] = refl
chains_free answers a b agree [] free (chain ∷ chains) = ap (λ (rest : List Chain). chain ∷ rest) (chains_free answers a b agree [] free chains)
chains_free answers a b agree (own ∷ left) free (chain ∷ chains) =
    rw (rules_free answers a b agree own.items (All-head (FreesAll answers) own left free) chain.rules, chains_free answers a b agree left (All-tail (FreesAll answers) own left free) chains) refl

-- assignments that agree on each condition without an answer leave the same of a table
pub left_free : (answers : List Answer) (a b : Assignment) → AgreeOnOpen answers a b → (left : List (Vec (Vec Need Global) Global)) → AreFreeInAll answers left → (t : Table)
    → resolved (map (λ (own : Vec (Vec Need Global) Global). map (λ (needs : Vec Need Global). needs.items) own.items) left) a t ≡ resolved (map (λ (own : Vec (Vec Need Global) Global). map (λ (needs : Vec Need Global). needs.items) own.items) left) b t
left_free answers a b agree left free t = ap (λ (chains : List Chain). record { policies = t.policies; chains = chains }) (chains_free answers a b agree left free t.chains)
