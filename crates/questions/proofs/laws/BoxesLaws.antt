-- The rules of a table, collected chain by chain, and the boxes of all of them.
use Rattle.std.proofs.Common.{◌≡◌, ◌⊎◌, inl, inr, ℕ, ◌+◌, ◌<◌, ◌≤◌, List, [], ◌∷◌, ◌++◌, length, sym, ◌∙◌, ap, arith, subst, Contains, zero, suc, ◌-◌, get_or, take, map, Vec, vec_len, Global, length-append}
use Rattle.std.proofs.lemmas.Bool.{cases_eq, cases_lt}
use Rattle.std.proofs.lemmas.List.Elements.{Contains-append_left, Contains-push, Contains-push_cases}
use Rattle.std.proofs.Math.Numerals.{add-one}
use Rattle.std.proofs.lemmas.List.{get_or_append_left, get_or_default, get_or_push, get_or-map, length-map}
use Rattle.table.specs.chains.Table.{Table, chain_at, Chain, empty_chain}
use Rattle.table.specs.declared.walk.trail.Step.{Step}
use Rattle.fields.specs.numbers.Spans.{SpanSet}
use Rattle.rules.specs.Boxed.{IsBoxOf}
use Rattle.rules.specs.rule.Rules.{Rule, empty_rule}
use Rattle.questions.specs.Ends.{IsRule}
use Rattle.questions.specs.steps.Candidates.{AddsRules}
use Rattle.questions.specs.boxes.Boxes.{AreBoxesOf, AreBoxesOfRules, rules_in}

-- ---- Rules that are collected one after another, chain by chain.

-- the number of a rule of the chain
pub rule_last : (t : Table) (place count : ℕ) → length (chain_at t place).rules ≤ count → (by : Step) → by.chain ≡ place → IsRule t by → by.number ≤ count
rule_last t place count le by at is =
    let within : by.number ≤ length (chain_at t place).rules = rw (at) at is.last in
    omega (arith, within, le)

-- ---- rule after rule

module _ (Holds : Step → Type 0) (place : ℕ) where
  -- of the first so many rules of the chain those are there of which it holds
  abbrev pub AreBelow : ℕ → List Step → Type 0
  AreBelow count found = (by : Step) → by.chain ≡ place → by.number ≤ count → Holds by → Contains found by

  -- and no others of the chain
  abbrev pub AreOnly : List Step → List Step → Type 0
  AreOnly old new = (by : Step) → Contains new by → Contains old by ⊎ ((by.chain ≡ place) × Holds by)

  pub none_below : (found : List Step) → ((by : Step) → Holds by → 0 < by.number) → AreBelow 0 found
  none_below found first by at le holds = absurd (omega (arith, le, first by holds))

  abbrev at_number : ℕ → Step
  at_number number = record { chain = place; number = number }

  last_is : (by : Step) (count : ℕ) → by.chain ≡ place → by.number ≡ count + 1 → by ≡ at_number (count + 1)
  last_is by count at e =
      let make : ℕ → ℕ → Step = λ c n. record { chain = c; number = n } in
      ap (λ c. make c by.number) at ∙ ap (λ n. make place n) e

  -- one of which it doesn't hold
  pub below_pass : (count : ℕ) (found : List Step) → AreBelow count found → (Holds (at_number (count + 1)) → ⊥) → AreBelow (count + 1) found
  below_pass count found below none by at le holds =
      elim (cases_eq by.number (count + 1)) [
        | inr ne ↦ below by at (omega (arith, ne, le)) holds
        | inl e ↦ absurd (none (subst Holds (last_is by count at e) holds))
      ]

  -- one that is added
  pub below_take : (count : ℕ) (found : List Step) → AreBelow count found → AreBelow (count + 1) (found ++ at_number (count + 1) ∷ [])
  below_take count found below by at le holds =
      elim (cases_eq by.number (count + 1)) [
        | inr ne ↦ Contains-append_left found (at_number (count + 1) ∷ []) by (below by at (omega (arith, ne, le)) holds)
        | inl e ↦ (
            let P : Step → Type 0 = λ s. Contains (found ++ at_number (count + 1) ∷ []) s in
            subst P (sym (last_is by count at e)) (Contains-push found (at_number (count + 1))))
      ]

  pub only_take : (count : ℕ) (old found : List Step) → AreOnly old found → Holds (at_number (count + 1)) → AreOnly old (found ++ at_number (count + 1) ∷ [])
  only_take count old found only holds by c =
      elim (Contains-push_cases found (at_number (count + 1)) by c) [
        | inl before ↦ only by before
        | inr same ↦ inr (ap (λ (s : Step). s.chain) (sym same), subst Holds same holds)
      ]

  -- all of them
  pub all_below : (count : ℕ) (found : List Step) → ((by : Step) → by.chain ≡ place → Holds by → by.number ≤ count) → AreBelow count found → (by : Step) → by.chain ≡ place → Holds by → Contains found by
  all_below count found within below by at holds = below by at (within by at holds) holds

-- ---- chain after chain

module _ (Holds : Step → Type 0) where
  -- of the first so many chains the rules are there of which it holds
  abbrev pub AreBefore : ℕ → List Step → Type 0
  AreBefore place found = (by : Step) → by.chain < place → Holds by → Contains found by

  -- and no others
  abbrev pub AreAll : List Step → Type 0
  AreAll found = (by : Step) → Contains found by → Holds by

  pub before_next : (place : ℕ) (old new : List Step) → AddsRules Holds place old new → AreBefore place old → AreBefore (place + 1) new
  before_next place old new adds below by lt holds =
      elim (cases_eq by.chain place) [ inl e ↦ adds.added by e holds | inr ne ↦ adds.kept by (below by (omega (arith, ne, lt)) holds) ]

  pub all_next : (place : ℕ) (old new : List Step) → AddsRules Holds place old new → AreAll old → AreAll new
  all_next place old new adds all by c = elim (adds.only by c) [ inl before ↦ all by before | inr here ↦ here.1 ]

  -- a chain of whose rules it holds of none
  pub before_skip : (place : ℕ) (found : List Step) → ((by : Step) → by.chain ≡ place → Holds by → ⊥) → AreBefore place found → AreBefore (place + 1) found
  before_skip place found none below by lt holds =
      elim (cases_eq by.chain place) [ inl e ↦ absurd (none by e holds) | inr ne ↦ below by (omega (arith, ne, lt)) holds ]

-- what is the same of the rules of the chain holds of them, too
pub adds_as : (P Q : Step → Type 0) (place : ℕ) (old new : List Step) → ((by : Step) → by.chain ≡ place → P by → Q by) → ((by : Step) → by.chain ≡ place → Q by → P by) → AddsRules P place old new → AddsRules Q place old new
adds_as P Q place old new to from adds = record {
  kept = adds.kept;
  added = λ by at q. adds.added by at (from by at q);
  only = λ by c.
      elim (adds.only by c) [ inl before ↦ inl before | inr here ↦ inr (here.0, to by here.0 here.1) ];
}

-- ---- The boxes of all rules of a table.

-- ---- made one after another

-- each of the first n of one list goes with what stands at its place in another, which has so many
pub record Pair {X Y : Type 0} (P : X → Y → Type 0) (xs : List X) (ys : List Y) (n : ℕ) : Type 0 where
  pub long : length ys ≡ n
  pub each : (k : ℕ) (a : X) (b : Y) → k < n → P (get_or xs k a) (get_or ys k b)

pub pair_none : {X Y : Type 0} (P : X → Y → Type 0) (xs : List X) (ys : List Y) → ys ≡ [] → Pair P xs ys 0
pair_none P xs ys e = record { long = ap length e; each = λ k a b lt. absurd (omega (arith, lt)) }

-- and one more
pub pair_more : {X Y : Type 0} (P : X → Y → Type 0) (xs : List X) (ys more : List Y) (y : Y) (n : ℕ) → more ≡ ys ++ y ∷ [] → Pair P xs ys n → ((a : X) → P (get_or xs n a) y) → Pair P xs more (n + 1)
pair_more {X} {Y} P xs ys more y n is pairs here = record {
  long = ap length is ∙ length-append ys (y ∷ []) ∙ ap (λ m. m + 1) pairs.long;
  each = λ k a b lt.
      (let Q : List Y → Type 0 = λ zs. P (get_or xs k a) (get_or zs k b) in
      subst Q (sym is)
      (elim (cases_lt k n) [
        | inl less ↦ rw (← get_or_append_left ys (y ∷ []) b k (omega (arith, less, pairs.long))) at (pairs.each k a b less)
        | inr past ↦ (
            let same : k ≡ n = omega (arith, lt, past) in
            rw (← (get_or_push ys y b k (pairs.long ∙ sym same))) at (rw (← same) at (here a)))
      ]));
}

-- a chain's rules with their boxes
abbrev pub RulePairs : List Rule → List (List SpanSet) → ℕ → Type 0
RulePairs rules boxes n = Pair IsBoxOf rules boxes n

-- the chain's rules have these boxes
abbrev pub HasBoxes : Chain → Vec (List SpanSet) Global → Type 0
HasBoxes chain boxes = AreBoxesOfRules chain.rules boxes.items

-- the chains with the boxes of their rules
abbrev pub ChainPairs : List Chain → List (Vec (List SpanSet) Global) → ℕ → Type 0
ChainPairs chains boxes n = Pair HasBoxes chains boxes n

pub next_chain : (t : Table) (k : ℕ) (boxes : Vec (List SpanSet) Global) → k < length t.chains → AreBoxesOfRules (chain_at t k).rules boxes.items → (a : Chain) → HasBoxes (get_or t.chains k a) boxes
next_chain t k boxes lt h a =
    let P : Chain → Type 0 = λ c. HasBoxes c boxes in subst P (get_or_default t.chains k (empty_chain []) a lt) h

abbrev items_of : Vec (List SpanSet) Global → List (List SpanSet)
items_of v = v.items

pub all_chains : (chains : List Chain) (boxes : List (Vec (List SpanSet) Global)) (n : ℕ) → n ≡ length chains → ChainPairs chains boxes n → AreBoxesOf chains (map (λ (v : Vec (List SpanSet) Global). v.items) boxes)
all_chains chains boxes n all pairs = record {
  long = length-map boxes items_of ∙ pairs.long ∙ all;
  each = λ k c bs lt.
      (let there : k < length boxes = omega (arith, lt, all, pairs.long) in
      rw (← get_or-map items_of boxes k (empty k there) bs there) at (pairs.each k c (empty k there) (omega (arith, lt, all))));
}
  where
    some : (xs : List (Vec (List SpanSet) Global)) (k : ℕ) → k < length xs → Vec (List SpanSet) Global
    some [] k lt = absurd (omega (arith, lt))
    some (x ∷ xs) k lt = x

    empty : (k : ℕ) → k < length boxes → Vec (List SpanSet) Global
    empty k lt = some boxes k lt

-- ---- counted

-- the first so many chains have so many rules
rules_next : (cs : List Chain) (k : ℕ) → k < length cs → rules_in (take (suc k) cs) ≡ rules_in (take k cs) + length (get_or cs k (empty_chain [])).rules
rules_next [] k lt = absurd (omega (arith, lt))
rules_next (c ∷ cs) zero lt = omega arith
rules_next (c ∷ cs) (suc k) lt =
    let more : rules_in (take (suc k) cs) ≡ rules_in (take k cs) + length (get_or cs k (empty_chain [])).rules = rules_next cs k (omega (arith, lt)) in
    ap (λ n. length c.rules + n) more ∙ omega arith

pub rules_more : (cs : List Chain) (k : ℕ) → k < length cs → rules_in (take (k + 1) cs) ≡ rules_in (take k cs) + length (get_or cs k (empty_chain [])).rules
rules_more cs k lt = ap (λ j. rules_in (take j cs)) (add-one k) ∙ rules_next cs k lt

-- ---- asked for

module _ (t : Table) (boxes : List (Vec (List SpanSet) Global)) (are : AreBoxesOf t.chains (map (λ (v : Vec (List SpanSet) Global). v.items) boxes)) (place number : ℕ) (lt : place < length t.chains) (first : 0 < number) (last : number ≤ length (chain_at t place).rules) where
  own : (v : Vec (List SpanSet) Global) → v ≡ get_or boxes place v → AreBoxesOfRules (chain_at t place).rules v.items
  own v e =
      rw (← e) at (rw (get_or-map items_of boxes place v [] (omega (arith, lt, are.long, length-map boxes items_of))) at (are.each place (empty_chain []) [] lt))

  pub rule_there : (v : Vec (List SpanSet) Global) → v ≡ get_or boxes place v → number - 1 < vec_len v
  rule_there v e = omega (arith, first, last, (own v e).long, v.ok.0)

  pub box_there : (v : Vec (List SpanSet) Global) (b : List SpanSet) → v ≡ get_or boxes place v → b ≡ get_or v.items (number - 1) b → IsBoxOf (get_or (chain_at t place).rules (number - 1) empty_rule) b
  box_there v b e is =
      rw (← is) at ((own v e).each (number - 1) empty_rule b (omega (arith, first, last)))

-- the box of a rule that was asked for too
pub own_box : (rules : List Rule) (k : ℕ) (rule : Rule) (boxed : List SpanSet) → k < length rules → rule ≡ get_or rules k rule → IsBoxOf (get_or rules k empty_rule) boxed → IsBoxOf rule boxed
own_box rules k rule boxed lt is h =
    rw (get_or_default rules k empty_rule rule lt ∙ sym is) at h
