-- The rules of a table that may match packets of a box.
use Rattle.std.proofs.Common.{◌≡◌, ◌⊎◌, inl, inr, ℕ, ◌+◌, ◌-◌, ◌<◌, ◌≤◌, List, [], ◌∷◌, ◌++◌, length, get_or, map, sym, ◌∙◌, ap, arith, subst, Vec, Global, slice_index, length-append}
use Rattle.std.proofs.lemmas.Bool.{cases_eq, cases_lt}
use Rattle.std.proofs.lemmas.List.{get_or_append_left, get_or_default, get_or_past, get_or_push, get_or-map, length-map}
use Rattle.fields.specs.numbers.Spans.{SpanSet}
use Rattle.rules.specs.rule.Rules.{Rule, empty_rule}
use Rattle.classify.specs.Classifier.{IsPoint}
use Rattle.table.specs.chains.Table.{Chain, Table, chain_at, empty_chain}
use Rattle.questions.specs.boxes.Boxes.{Has}
use Rattle.questions.specs.boxes.Cut.{IsApart}
use Rattle.questions.specs.declared.boxes.candidates.Candidates.{Candidates}
use Rattle.questions.specs.steps.Candidates.{AreCandidates, AreFor, AreNexts, nexts_at}
use Rattle.questions.proofs.laws.BoxesLaws.{Pair, pair_more, pair_none}

-- ---- a chain, from its last rule on

-- of the last so many places of a chain none is passed over at which something doesn't hold, in a list that begins with the last place and goes on with this
pub record PassesOver (P : ℕ → Type 0) (count : ℕ) (nexts : List ℕ) (next done : ℕ) : Type 0 where
  pub long : length nexts ≡ done
  pub each : (back k : ℕ) → back < done → count ≤ k + 1 + back → k < slice_index nexts back → P k
  pub last : (k : ℕ) → count ≤ k + done → k < next → P k

pub passes_none : (P : ℕ → Type 0) (count : ℕ) (nexts : List ℕ) (next : ℕ) → nexts ≡ [] → next ≡ count → PassesOver P count nexts next 0
passes_none P count nexts next e is = record { long = ap length e; each = λ back k lt. absurd (omega (arith, lt)); last = λ k le lt. absurd (omega (arith, le, lt, is)) }

-- one place more
pub passes_more : (P : ℕ → Type 0) (count : ℕ) (nexts more : List ℕ) (next new done : ℕ) → done < count → more ≡ nexts ++ new ∷ [] → ((new ≡ next) × P (count - 1 - done)) ⊎ (new ≡ count - 1 - done) → PassesOver P count nexts next done
    → PassesOver P count more new (done + 1)
passes_more P count nexts more next new done within is here before = record {
  long = ap length is ∙ length-append nexts (new ∷ []) ∙ ap (λ m. m + 1) before.long;
  each = λ back k lt le less.
      (let Q : List ℕ → Type 0 = λ xs. k < get_or xs back 0 in
      let there : k < get_or (nexts ++ new ∷ []) back 0 = subst Q is less in
      elim (cases_lt back done) [
        | inl early ↦ (
            before.each back k early le (rw (get_or_append_left nexts (new ∷ []) 0 back (omega (arith, early, before.long))) at there))
        | inr late ↦ (
            last k (omega (arith, le, lt)) (rw (get_or_push nexts new 0 back (omega (arith, lt, late, before.long))) at there))
      ]);
  last = last;
}
  where
    last : (k : ℕ) → count ≤ k + (done + 1) → k < new → P k
    last k le lt =
        elim here [
          | inr is_here ↦ absurd (omega (arith, is_here, le, lt, within))
          | inl past ↦ elim (cases_eq k (count - 1 - done)) [
            | inl same ↦ subst P (sym same) past.1
            | inr ne ↦ before.last k (omega (arith, ne, le, within)) (omega (arith, lt, past.0))
          ]
        ]

-- all of them
pub passes_all : (rules : List Rule) (box : List SpanSet) (nexts : List ℕ) (next done : ℕ) → length rules ≤ done → done ≤ length rules → PassesOver (λ k. IsApart (get_or rules k empty_rule) box) (length rules) nexts next done → AreNexts rules box nexts
passes_all rules box nexts next done all most passes back k lt le less = passes.each back k (omega (arith, lt, passes.long)) (omega (arith, le, passes.long, all, most)) less

-- ---- a table

-- the first so many chains have these lists
abbrev pub NextsOfChains : Table → List SpanSet → List (Vec ℕ Global) → ℕ → Type 0
NextsOfChains t box chains n = Pair (λ (chain : Chain) (nexts : Vec ℕ Global). AreNexts chain.rules box nexts.items) t.chains chains n

pub chain_none : (t : Table) (box : List SpanSet) (chains : List (Vec ℕ Global)) → chains ≡ [] → NextsOfChains t box chains 0
chain_none t box chains e = pair_none (λ (chain : Chain) (nexts : Vec ℕ Global). AreNexts chain.rules box nexts.items) t.chains chains e

pub chain_more : (t : Table) (box : List SpanSet) (chains more : List (Vec ℕ Global)) (nexts : Vec ℕ Global) (n : ℕ) → n < length t.chains → more ≡ chains ++ nexts ∷ [] → NextsOfChains t box chains n → AreNexts (chain_at t n).rules box nexts.items
    → NextsOfChains t box more (n + 1)
chain_more t box chains more nexts n lt is pairs own =
    pair_more (λ (chain : Chain) (ns : Vec ℕ Global). AreNexts chain.rules box ns.items) t.chains chains more nexts n is pairs
    (λ a.
    (let P : Chain → Type 0 = λ c. AreNexts c.rules box nexts.items in
    subst P (get_or_default t.chains n (empty_chain []) a lt) own))

abbrev items_of : Vec ℕ Global → List ℕ
items_of nexts = nexts.items

pub all_candidates : (t : Table) (looks : ℕ) (box : List SpanSet) (chains : Vec (Vec ℕ Global) Global) (n : ℕ) → NextsOfChains t box chains.items n → AreCandidates t box (record { looks = looks; start = box; chains = chains })
all_candidates t looks box chains n pairs place =
    elim (cases_lt place n) [
      | inl lt ↦ rw (← get_or-map items_of chains.items place (within place lt) [] (omega (arith, lt, pairs.long))) at (pairs.each place (empty_chain []) (within place lt) lt)
      | inr le ↦ rw (get_or_past (map items_of chains.items) place [] (omega (arith, le, pairs.long, length-map chains.items items_of))) (λ back k lt. absurd (omega (arith, lt)))
    ]
  where
    within : (k : ℕ) → k < n → Vec ℕ Global
    within k lt = some chains.items (omega (arith, lt, pairs.long))
      where
        some : (xs : List (Vec ℕ Global)) → 0 < length xs → Vec ℕ Global
        some [] none = absurd (omega (arith, none))
        some (x ∷ xs) there = x

-- all rules are candidates
pub all_for : (t : Table) (looks : ℕ) (box start : List SpanSet) (chains : Vec (Vec ℕ Global) Global) → chains.items ≡ [] → ((numbers : List ℕ) → IsPoint numbers → Has box numbers → Has start numbers) → AreFor t box (record { looks = looks; start = start; chains = chains })
all_for t looks box start chains none within = record {
  within = within;
  others = λ place.
      (let P : List (Vec ℕ Global) → Type 0 = λ cs. AreNexts (chain_at t place).rules box (get_or (map items_of cs) place []) in
      subst P (sym none) (λ back k lt. absurd (omega (arith, lt))));
}

-- what holds of the packets of a box holds of those of a part of it
nexts_within : (t : Table) (box part : List SpanSet) (candidates : Candidates) → ((numbers : List ℕ) → IsPoint numbers → Has part numbers → Has box numbers) → AreCandidates t box candidates → AreCandidates t part candidates
nexts_within t box part candidates inside are place back k lt le less =
    let apart = are place back k lt le less in record { none = λ numbers point has. apart.none numbers point (inside numbers point has) }

-- those that were found for the candidates' box are those of a box that it has
pub found_for : (t : Table) (looks : ℕ) (start box : List SpanSet) (chains : Vec (Vec ℕ Global) Global) → ((numbers : List ℕ) → IsPoint numbers → Has box numbers → Has start numbers) → AreCandidates t start (record { looks = looks; start = start; chains = chains })
    → AreFor t box (record { looks = looks; start = start; chains = chains })
found_for t looks start box chains within are = record { within = within; others = nexts_within t start box (record { looks = looks; start = start; chains = chains }) within are }

-- the next candidate in a chain
pub next_candidate : (t : Table) (box : List SpanSet) (candidates : Candidates) (chain passed : ℕ) (nexts : List ℕ) → AreFor t box candidates → nexts ≡ nexts_at candidates chain → passed < length nexts → (k : ℕ) → passed ≤ k → k < slice_index nexts (length nexts - 1 - passed)
    → IsApart (get_or (chain_at t chain).rules k empty_rule) box
next_candidate t box candidates chain passed nexts are is within k le less =
    (rw (← is) at (are.others chain)) (length nexts - 1 - passed) k (omega (arith, within)) (omega (arith, within, le)) less
