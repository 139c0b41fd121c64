-- Chains of one name beside each other, the rules that both have, and the rules that aren't paired.
use Rattle.std.proofs.Common.{◌≡◌, ◌≢◌, inl, inr, ℕ, zero, suc, ◌+◌, ◌-◌, ◌<◌, Bool, true, false, List, [], ◌∷◌, ◌++◌, cond, length, get_or, refl, sym, ◌∙◌, ap, ap₂, arith, subst, Option, Some, None, Contains, All, Any, IsFalse, IsTrue, slice_get, true≢false, length-append}
use Rattle.std.specs.List.{AllByRecursion}
use Rattle.std.specs.Str.{bytes_eq}
use Rattle.std.proofs.lemmas.Bool.{cases_Bool, cases_lt, cond-false, cond-true}
use Rattle.std.proofs.lemmas.List.{get_or_default, get_or_past}
use Rattle.std.proofs.lemmas.List.Elements.{All-contains, Contains-append_left, Contains-get_or, Contains-push, recursion_from_All}
use Rattle.std.proofs.lemmas.Option.{get_or_from_slice_get, none-some, slice_get_within}
use Rattle.std.proofs.lemmas.Slice.Eq.{bytes_eq-Decides}
use Rattle.fields.specs.Packet.{PacketView as Packet}
use Rattle.rules.specs.rule.Allows.{matches}
use Rattle.rules.specs.rule.Rules.{Rule, empty_rule}
use Rattle.table.specs.chains.Sound.{IsSound}
use Rattle.table.specs.chains.Table.{Chain, Table, chain_at, empty_chain, is_named, rules_of, has_chain}
use Rattle.table.specs.declared.walk.trail.Step.{Step}
use Rattle.table.specs.declared.verdict.Verdict.TheVariants.{TooLong}
use Rattle.table.specs.walk.Walk.{Entry, walk}
use Rattle.table.proofs.laws.chains.KeepLaws.{rules_by_name}
use Rattle.table.proofs.laws.chains.PlaceLaws.{has_at}
use Rattle.questions.specs.Ends.{rule_at}
use Rattle.questions.specs.Leaves.{entry_of, name_at}
use Rattle.questions.specs.Foreign.{Assignment, resolved_rule}
use Rattle.questions.specs.Scopes.{Whole, answered, table_of, whole_of}
use Rattle.questions.specs.asked.Changes.{AreOff, AreThese, IsThis, MatchesNone, ShareOthers, AreMarks, AreUnpaired, IsAligned, IsPairOf, IsTakenBy, is_this, passed_by}
use Rattle.questions.specs.asked.Without.{staying}
use Rattle.questions.specs.declared.foreign.need.Need.{Need}
use Rattle.questions.specs.declared.foreign.subject.Subject.{Subject}
use Rattle.questions.specs.declared.asked.pairs.Next.{Next}
use Rattle.questions.specs.declared.asked.pairs.Pair.{Pair}
use Rattle.questions.specs.declared.asked.pairs.Places.{Places}
use Rattle.questions.specs.declared.asked.pairs.Side.{Side}
use Rattle.questions.specs.steps.Candidates.{AddsRules}
use Rattle.questions.specs.steps.Shared.{Adds, AreEqualAt, AreSameAt, AreThere, HaveNext, IsAhead, IsNext, NoneAhead, HasPlace, IsBeside, IsMarkedRule, IsPaired, is_marked, marks_on, name_of, pair_named, unmarked, unshared}
use Rattle.questions.specs.declared.asked.pairs.Next.TheVariants as next
use Rattle.questions.specs.declared.asked.pairs.Side.TheVariants as side
use Rattle.questions.proofs.laws.BoxesLaws.{adds_as}
use Rattle.questions.proofs.laws.ForeignLaws.{left_sound}
use Rattle.questions.proofs.laws.ResolvedLaws.{chain_named, length_same, rule_left, there_left}
use Rattle.questions.proofs.laws.TrailLaws.{IsMatched, trail_matches, one_place}

-- ---- Chains of one name beside each other, and the rules that both have.

-- ---- one more mark

unmarked_more : (ms : List Bool) (xs : List Rule) → unmarked (ms ++ true ∷ []) xs ≡ unmarked ms xs
unmarked_more [] [] = refl
unmarked_more [] (x ∷ xs) = refl
unmarked_more (m ∷ ms) [] = refl
unmarked_more (true ∷ ms) (x ∷ xs) = unmarked_more ms xs
unmarked_more (false ∷ ms) (x ∷ xs) = ap (λ (rs : List Rule). x ∷ rs) (unmarked_more ms xs)

unmarked_one : (ms : List Bool) (xs : List Rule) (d : Rule) → length ms < length xs → unmarked (ms ++ false ∷ []) xs ≡ unmarked ms xs ++ get_or xs (length ms) d ∷ []
unmarked_one [] [] d lt = absurd (omega (arith, lt))
unmarked_one [] (x ∷ xs) d lt = refl
unmarked_one (m ∷ ms) [] d lt = absurd (omega (arith, lt))
unmarked_one (true ∷ ms) (x ∷ xs) d lt = unmarked_one ms xs d (omega (arith, lt))
unmarked_one (false ∷ ms) (x ∷ xs) d lt = ap (λ (rs : List Rule). x ∷ rs) (unmarked_one ms xs d (omega (arith, lt)))

-- rules that are equal and need the same are equal in what is left of the tables
pub same_left : (s other : Subject) (chains passed : Places) → HaveNext (table_of s) (table_of other) chains passed → AreSameAt (whole_of s) (whole_of other) chains passed
    → (a : Assignment) → AreEqualAt (answered s a) (answered other a) chains passed
same_left s other chains passed have same a d =
    let xs : List Rule = (chain_at (table_of s) chains.old).rules in
    let ys : List Rule = (chain_at (table_of other) chains.new).rules in
    let rules_same : get_or xs passed.old d ≡ get_or ys passed.new d =
    get_or_default xs passed.old d empty_rule have.first ∙ same.rules ∙ get_or_default ys passed.new empty_rule d have.second in
    rule_left s.needs.now a (table_of s) chains.old passed.old have.there.first have.first d
    ∙ ap₂ (λ (needs : List Need) (rule : Rule). resolved_rule a needs rule) same.needs rules_same
    ∙ sym (rule_left other.needs.now a (table_of other) chains.new passed.new have.there.second have.second d)

-- what stands next, where it is shared
pub next_shared : (s other : Whole) (chains passed : Places) (what : Next) → what ≡ next.Shared → IsNext s other chains passed what → AreSameAt s other chains passed
next_shared s other chains passed what e is = let P : Next → Type 0 = λ n. IsNext s other chains passed n in subst P e is

-- none stands so many rules further on, nor before
neither : (s other : Whole) (chains passed : Places) (n : ℕ) (own : Side) → (IsAhead s other chains passed side.Went n → ⊥) → (IsAhead s other chains passed side.Came n → ⊥)
    → IsAhead s other chains passed own n → ⊥
neither s other chains passed n side.Went went came is = went is
neither s other chains passed n side.Came went came is = came is

pub none_next : (s other : Whole) (chains passed : Places) (n : ℕ) → NoneAhead s other chains passed (n - 1) → (IsAhead s other chains passed side.Went n → ⊥)
    → (IsAhead s other chains passed side.Came n → ⊥) → NoneAhead s other chains passed (n + 1 - 1)
none_next s other chains passed n before went came own k first last is =
    elim (cases_lt k n) [
      | inl lt ↦ before own k first (omega arith) is
      | inr le ↦ (let e : k ≡ n = omega arith in neither s other chains passed n own went came (rw e at is))
    ]

-- one of the pairs is of the chain at a place
abbrev pub IsAmong : List Pair → ℕ → Type 0
IsAmong pairs place = Any (λ (pair : Pair). pair.place ≡ place) pairs

pub among_more : (pairs : List Pair) (pair : Pair) (place : ℕ) → IsAmong pairs place → IsAmong (pairs ++ pair ∷ []) place
among_more pairs pair place (k, x, lt, is, same) = let on = Contains-append_left pairs (pair ∷ []) x (k, lt, is) in (on.0, x, on.1, on.2, same)

pub among_new : (pairs : List Pair) (pair : Pair) (place : ℕ) → pair.place ≡ place → IsAmong (pairs ++ pair ∷ []) place
among_new pairs pair place same = let on = Contains-push pairs pair in (on.0, pair, on.1, on.2, same)

pub adds_place : (what : Next) (old new : Pair) → Adds what old new → new.place ≡ old.place
adds_place next.Shared old new adds = adds.0
adds_place next.Went old new adds = adds.0
adds_place next.Came old new adds = adds.0

-- what is shared so far stays shared behind what stands next
pub shared_next : (xs ys : List Rule) (what : Next) (old new : Pair) → Adds what old new → length old.went.items < length xs → length old.came.items < length ys
    → (what ≡ next.Shared → (d : Rule) → get_or xs (length old.went.items) d ≡ get_or ys (length old.came.items) d) → unmarked old.went.items xs ≡ unmarked old.came.items ys → unmarked new.went.items xs ≡ unmarked new.came.items ys
shared_next xs ys next.Shared old new adds lt too same shared =
    let with_one : List Rule → Rule → List Rule = λ rs r. rs ++ r ∷ [] in
    ap (λ ms. unmarked ms xs) adds.1 ∙ unmarked_one old.went.items xs empty_rule lt ∙ ap₂ with_one shared (same refl empty_rule)
    ∙ sym (ap (λ ms. unmarked ms ys) adds.2 ∙ unmarked_one old.came.items ys empty_rule too)
shared_next xs ys next.Went old new adds lt too same shared =
    ap (λ ms. unmarked ms xs) adds.1 ∙ unmarked_more old.went.items xs ∙ shared ∙ ap (λ ms. unmarked ms ys) (sym adds.2)
shared_next xs ys next.Came old new adds lt too same shared =
    ap (λ ms. unmarked ms xs) adds.1 ∙ shared ∙ sym (ap (λ ms. unmarked ms ys) adds.2 ∙ unmarked_more old.came.items ys)

-- the rule at a place
pub rule_there : (xs : List Rule) (k : ℕ) (x d : Rule) → k < length xs → x ≡ get_or xs (k + 1 - 1) x → get_or xs k d ≡ x
rule_there xs k x d lt is = get_or_default xs k d x lt ∙ ap (λ j. get_or xs j x) (omega arith) ∙ sym is

-- ---- chains by their names

own_rules : (t : Table) (place : ℕ) → IsSound t → place < length t.chains → rules_of t.chains (name_at t.chains place) ≡ (chain_at t place).rules
own_rules t place s lt = rules_by_name t (chain_at t place) s (Contains-get_or t.chains place (empty_chain []) lt)

pub paired : (old new : Table) (chains : Places) (pair : Pair) → IsSound old → IsSound new → AreThere old new chains → name_at new.chains chains.new ≡ name_at old.chains chains.old → IsBeside old new chains pair → IsPaired old new pair
paired old new chains pair s s' there named is =
    let at : name_of old.chains pair ≡ name_at old.chains chains.old = ap (name_at old.chains) is.place in
    record {
      placed = rw (← is.place) at there.first;
      shared = ap (λ n. unmarked pair.went.items (rules_of old.chains n)) at
          ∙ ap (unmarked pair.went.items) (own_rules old chains.old s there.first)
          ∙ is.shared
          ∙ ap (unmarked pair.came.items) (sym (own_rules new chains.new s' there.second))
          ∙ ap (λ n. unmarked pair.came.items (rules_of new.chains n)) (named ∙ sym at);
    }

-- ---- so the tables share all rules but the marked ones

-- rules that stay, by marks
staying_marks : (g : ℕ → Bool) (ms : List Bool) (before : ℕ) (rules : List Rule) → ((k : ℕ) → g (before + 1 + k) ≡ get_or ms k true) → staying g before rules ≡ unmarked ms rules
staying_marks g [] before [] at = refl
staying_marks g (m ∷ ms) before [] at = refl
staying_marks g [] before (r ∷ rs) at =
    cond-true (g (before + 1)) _ _ (ap g (omega arith) ∙ at 0) ∙ staying_marks g [] (before + 1) rs (λ k. ap g (omega arith) ∙ at (suc k))
staying_marks g (true ∷ ms) before (r ∷ rs) at =
    cond-true (g (before + 1)) _ _ (ap g (omega arith) ∙ at 0) ∙ staying_marks g ms (before + 1) rs (λ k. ap g (omega arith) ∙ at (suc k))
staying_marks g (false ∷ ms) before (r ∷ rs) at =
    cond-false (g (before + 1)) _ _ (ap g (omega arith) ∙ at 0) ∙ ap (λ (rules : List Rule). r ∷ rules) (staying_marks g ms (before + 1) rs (λ k. ap g (omega arith) ∙ at (suc k)))

module _ (old new : Table) where
  -- the chains of a name, by the first pair of it
  shared_of : (name : List ℕ) (pairs : List Pair) → AllByRecursion (IsPaired old new) pairs
      → unmarked (marks_on side.Went (pair_named old.chains pairs name)) (rules_of old.chains name) ≡ unmarked (marks_on side.Came (pair_named old.chains pairs name)) (rules_of new.chains name)
  shared_of name [] all = refl
  shared_of name (pair ∷ pairs) all =
      let own : List ℕ = name_of old.chains pair in
      let P : Option Pair → Type 0 = λ o. unmarked (marks_on side.Went o) (rules_of old.chains name) ≡ unmarked (marks_on side.Came o) (rules_of new.chains name) in
      let Q : List ℕ → Type 0 = λ n. unmarked pair.went.items (rules_of old.chains n) ≡ unmarked pair.came.items (rules_of new.chains n) in
      elim (cases_Bool (bytes_eq own name)) [
        | inl on ↦ subst P (sym (cond-true (bytes_eq own name) (Some pair) _ on)) (subst Q ((bytes_eq-Decides own name).0 on) all.0.shared)
        | inr off ↦ subst P (sym (cond-false (bytes_eq own name) (Some pair) _ off)) (shared_of name pairs all.1)
      ]

-- the marked rules of a chain are those of its name
pub unshared_in : (t : Table) (own : Side) (chains : List Chain) (pairs : List Pair) (marks : List Bool) (place : ℕ) (before after : List Step) → marks ≡ marks_on own (pair_named chains pairs (name_at t.chains place))
    → AddsRules (IsMarkedRule t marks) place before after → AddsRules (IsThis t (unshared own chains pairs)) place before after
unshared_in t own chains pairs marks place before after are adds =
    let named : ℕ → List Bool = λ k. marks_on own (pair_named chains pairs (name_at t.chains k)) in
    let number : ℕ → List Bool → Bool = λ n ms. is_marked ms n in
    adds_as (IsMarkedRule t marks) (IsThis t (unshared own chains pairs)) place before after
    (λ by at h. (h.0, ap (number by.number) (ap named at ∙ sym are) ∙ h.1))
    (λ by at h. (h.0, ap (number by.number) (are ∙ ap named (sym at)) ∙ h.1)) adds

-- ---- what is left of the tables

-- the chains of a name are found by it, whatever their rules
pair_kept : (cs ds : List Chain) (pairs : List Pair) (name : List ℕ) → ((place : ℕ) → name_at cs place ≡ name_at ds place) → pair_named cs pairs name ≡ pair_named ds pairs name
pair_kept cs ds [] name same = refl
pair_kept cs ds (pair ∷ pairs) name same =
    ap (λ (n : List ℕ). cond (bytes_eq n name) (Some pair) (pair_named cs pairs name)) (same pair.place)
    ∙ ap (λ (found : Option Pair). cond (bytes_eq (name_of ds pair) name) (Some pair) found) (pair_kept cs ds pairs name same)

-- so without the marked rules what is left of the tables is the same
pub share_left : (old new : Subject) (a : Assignment) (pairs : List Pair) → All (IsPaired (answered old a) (answered new a)) pairs
    → ShareOthers (answered old a) (unshared side.Went (table_of old).chains pairs) (answered new a) (unshared side.Came (table_of old).chains pairs)
share_left old new a pairs all name =
    let cs : List Chain = (table_of old).chains in
    let left : Table = answered old a in
    let other : Table = answered new a in
    let one : Option Pair = pair_named cs pairs name in
    let same : one ≡ pair_named left.chains pairs name = pair_kept cs left.chains pairs name (λ place. sym (chain_named old.needs.now a cs place (empty_chain []))) in
    let went : List Bool = marks_on side.Went one in
    let came : List Bool = marks_on side.Came one in
    staying_marks (λ n. get_or went (n - 1) true) went 0 (rules_of left.chains name) (λ k. ap (λ j. get_or went j true) (omega arith))
    ∙ (rw (← same) at (shared_of left other name pairs (recursion_from_All (IsPaired left other) pairs all)))
    ∙ sym (staying_marks (λ n. get_or came (n - 1) true) came 0 (rules_of other.chains name) (λ k. ap (λ j. get_or came j true) (omega arith)))

-- chains of one name beside each other, in what is left
pub paired_left : (old new : Subject) (chains : Places) (pair : Pair) → IsSound (table_of old) → IsSound (table_of new) → AreThere (table_of old) (table_of new) chains
    → name_at (table_of new).chains chains.new ≡ name_at (table_of old).chains chains.old → ((a : Assignment) → IsBeside (answered old a) (answered new a) chains pair) → (a : Assignment) → IsPaired (answered old a) (answered new a) pair
paired_left old new chains pair s s' there named is a =
    let t : Table = table_of old in
    let u : Table = table_of new in
    paired (answered old a) (answered new a) chains pair (left_sound old.needs.now a t s) (left_sound new.needs.now a u s')
    (record { first = there_left old.needs.now a t chains.old there.first; second = there_left new.needs.now a u chains.new there.second })
    (chain_named new.needs.now a u.chains chains.new (empty_chain []) ∙ named ∙ sym (chain_named old.needs.now a t.chains chains.old (empty_chain []))) (is a)

pub all_placed : (old new : Subject) (pairs : List Pair) → All (λ pair. (a : Assignment) → IsPaired (answered old a) (answered new a) pair) pairs → All (HasPlace (table_of old)) pairs
all_placed old new pairs all k d lt =
    let a : Assignment = λ condition. false in
    omega (arith, (all k d lt a).placed, length_same old.needs.now a (table_of old).chains)

-- ---- a packet that matches none of them

-- a rule of a chain by its name is one by its place
placed_rule : (cs : List Chain) (name : List ℕ) (place : ℕ) (rule : Rule) → slice_get (rules_of cs name) place ≡ Some rule
    → (c : ℕ) × (c < length cs) × (name_at cs c ≡ name) × (slice_get (get_or cs c (empty_chain [])).rules place ≡ Some rule)
placed_rule [] name place rule e = absurd (none-some rule e)
placed_rule (x ∷ cs) name place rule e =
    elim (cases_Bool (is_named name x)) [
      | inl on ↦ (0, omega arith, (bytes_eq-Decides x.name name).0 on, rw (cond-true (is_named name x) x.rules _ on) at e)
      | inr off ↦ (
          let w = placed_rule cs name place rule (rw (cond-false (is_named name x) x.rules _ off) at e) in
          (suc w.0, omega (arith, w.1), w.2, w.3))
    ]

-- one of these rules, by its chain's name, is one of the steps
these_step : (t : Table) (these : Entry → Bool) (steps : List Step) (name : List ℕ) (place : ℕ) (rule : Rule) → AreThese t these steps → slice_get (rules_of t.chains name) place ≡ Some rule → IsTrue (these (record { chain = name; number = place + 1 }))
    → (step : Step) × Contains steps step × (rule_at t step ≡ rule) × (entry_of t.chains step ≡ record { chain = name; number = place + 1 })
these_step t these steps name place rule are e is =
    let w = placed_rule t.chains name place rule e in
    let step : Step = record { chain = w.0; number = place + 1 } in
    let entry : List ℕ → Entry = λ n. record { chain = n; number = place + 1 } in
    let own : List Rule = (chain_at t w.0).rules in
    let within : place < length own = slice_get_within own place rule w.3 in
    let this : IsThis t these step = (record { chain = w.1; first = omega arith; last = omega (arith, within) }, ap these (ap entry w.2) ∙ is) in
    (step, are.all step this, ap (λ k. get_or own k empty_rule) (omega arith) ∙ get_or_from_slice_get own place rule empty_rule w.3, ap entry w.2)

pub matches_none : (t : Table) (these : Entry → Bool) (steps : List Step) (p : Packet) → AreThese t these steps → ((step : Step) → Contains steps step → IsFalse (matches p.values (rule_at t step))) → MatchesNone t these p
matches_none t these steps p are off name place rule e is =
    let w = these_step t these steps name place rule are e is in
    rw w.2 at (off w.0 w.1)

-- where each of the steps that matches is off the walk, which isn't too long, they all are
pub are_off : (t : Table) (these : Entry → Bool) (steps : List Step) (p : Packet) → AreThese t these steps → (walk t p).verdict ≢ TooLong
    → ((step : Step) → Contains steps step → matches p.values (rule_at t step) ≡ true → Contains (walk t p).trail (entry_of t.chains step) → ⊥) → AreOff t these p
are_off t these steps p are short off = record {
  short = short;
  off = λ entry is on.
      (let m : IsMatched t.chains p.values entry = All-contains (IsMatched t.chains p.values) (walk t p).trail entry (trail_matches t p) on in
      let make : ℕ → Entry = λ k. record { chain = entry.chain; number = k } in
      let same : entry ≡ make (entry.number - 1 + 1) = ap make (omega (arith, m.3)) in
      let w = these_step t these steps entry.chain (entry.number - 1) m.0 are m.1 (sym (ap these same) ∙ is) in
      off w.0 w.1 (ap (matches p.values) w.2 ∙ m.2) (rw (same ∙ sym w.3) at on));
}

-- ---- Chains of one name, aligned: the rules that aren't paired.

-- ---- a step further

abbrev one_more : (b : Bool) (old new : List Bool) → new ≡ old ++ b ∷ [] → length new ≡ length old + 1
one_more b old new e = ap (λ (ms : List Bool). length ms) e ∙ length-append old (b ∷ [])

-- fewer rules are left
pub fewer_left : (what : Next) (old new : Pair) (m n : ℕ) → Adds what old new → length old.went.items < m → length old.came.items < n
    → (m - length new.went.items) + (n - length new.came.items) < (m - length old.went.items) + (n - length old.came.items)
fewer_left next.Shared old new m n adds lt too = omega (arith, lt, too, one_more false old.went.items new.went.items adds.1, one_more false old.came.items new.came.items adds.2)
fewer_left next.Went old new m n adds lt too = omega (arith, lt, too, one_more true old.went.items new.went.items adds.1, ap (λ (ms : List Bool). length ms) adds.2)
fewer_left next.Came old new m n adds lt too = omega (arith, lt, too, ap (λ (ms : List Bool). length ms) adds.1, one_more true old.came.items new.came.items adds.2)

-- without marks no rule is shared
pub none_marked : (rules : List Rule) → unmarked [] rules ≡ []
none_marked [] = refl
none_marked (rule ∷ rules) = refl

-- the marks, with those of what stands next
pub marks_next : (old new : Whole) (chains passed : Places) (n : ℕ) (before after : Pair) (what : Next) → passed ≡ passed_by before → AreMarks old new chains n before → HaveNext old.table new.table chains passed
    → IsNext old new chains passed what → Adds what before after → AreMarks old new chains (suc n) after
marks_next old new chains passed n before after what at marks have is adds =
    (before, what, marks, rw (at) at have, rw (at) at is, adds)

-- ---- pairs by their names

module _ (cs : List Chain) (name : List ℕ) where
  -- what is found is a pair of the name; where none is found there is none
  abbrev IsFound : List Pair → Option Pair → Type 0
  IsFound pairs None = (pair : Pair) → Contains pairs pair → name_of cs pair ≡ name → ⊥
  IsFound pairs (Some pair) = Contains pairs pair × (name_of cs pair ≡ name)

  -- one pair more, of another name
  none_more : (first : Pair) (pairs : List Pair) → (name_of cs first ≡ name → ⊥) → ((pair : Pair) → Contains pairs pair → name_of cs pair ≡ name → ⊥) → (pair : Pair) → Contains (first ∷ pairs) pair → name_of cs pair ≡ name → ⊥
  none_more first pairs other none pair (zero, lt, is) same = let P : Pair → Type 0 = λ p. name_of cs p ≡ name in other (subst P (sym is) same)
  none_more first pairs other none pair (suc k, lt, is) same = none pair (k, omega (arith, lt), is) same

  found_more : (first : Pair) (pairs : List Pair) (o : Option Pair) → (name_of cs first ≡ name → ⊥) → IsFound pairs o → IsFound (first ∷ pairs) o
  found_more first pairs None other is = none_more first pairs other is
  found_more first pairs (Some pair) other is = ((suc is.0.0, omega (arith, is.0.1), is.0.2), is.1)

  pub found : (pairs : List Pair) → IsFound pairs (pair_named cs pairs name)
  found [] = λ pair on same. absurd (omega (arith, on.1))
  found (first ∷ pairs) =
      let own : List ℕ = name_of cs first in
      let P : Option Pair → Type 0 = λ o. IsFound (first ∷ pairs) o in
      elim (cases_Bool (bytes_eq own name)) [
        | inl on ↦ subst P (sym (cond-true (bytes_eq own name) (Some first) _ on)) ((0, omega arith, refl), (bytes_eq-Decides own name).0 on)
        | inr off ↦ subst P (sym (cond-false (bytes_eq own name) (Some first) _ off))
            (found_more first pairs (pair_named cs pairs name) (λ e. true≢false (sym ((bytes_eq-Decides own name).1 e) ∙ off)) (found pairs))
      ]

-- a chain of the name at a place is there
has_named : (t : Table) (place : ℕ) (name : List ℕ) → place < length t.chains → name_at t.chains place ≡ name → has_chain t name ≡ true
has_named t place name lt e = has_at t.chains name place (empty_chain []) lt ((bytes_eq-Decides (name_at t.chains place) name).1 e)

module _ (old new : Whole) (s : IsSound old.table) (s' : IsSound new.table) (pairs : List Pair) (aligned : All (IsPairOf old new) pairs)
    (all : (place : ℕ) → place < length old.table.chains → has_chain new.table (name_at old.table.chains place) ≡ true → IsAmong pairs place) where
  -- by the first pair of a name its rules are taken
  abbrev these : Side → Entry → Bool
  these own = unshared own old.table.chains pairs

  abbrev marked : Side → ℕ → Option Pair → Bool
  marked own number o = is_marked (marks_on own o) number

  both_by : (chains : Places) → AreThere old.table new.table chains → name_at new.table.chains chains.new ≡ name_at old.table.chains chains.old → (o : Option Pair)
      → pair_named old.table.chains pairs (name_at old.table.chains chains.old) ≡ o → IsFound old.table.chains (name_at old.table.chains chains.old) pairs o
      → (pair : Pair) × IsAligned old new chains pair × IsTakenBy pair (name_at old.table.chains chains.old) (these side.Went) (these side.Came)
  both_by chains there named None e none =
      let w = all chains.old there.first (has_named new.table chains.new (name_at old.table.chains chains.old) there.second named) in
      absurd (none w.1 (w.0, w.2, w.3) (ap (name_at old.table.chains) w.4))
  both_by chains there named (Some q) e found =
      let p : IsPairOf old new q = All-contains (IsPairOf old new) pairs q aligned found.0 in
      let first : p.chains.old ≡ chains.old = one_place old.table p.chains.old chains.old s there.first (ap (name_at old.table.chains) (sym p.place) ∙ found.1) in
      let second : p.chains.new ≡ chains.new = one_place new.table p.chains.new chains.new s' there.second (p.named ∙ ap (name_at old.table.chains) first ∙ sym named) in
      let make : ℕ → ℕ → Places = λ x y. record { old = x; new = y } in
      let at : p.chains ≡ chains = ap (λ x. make x p.chains.new) first ∙ ap (λ y. make chains.old y) second in
      (q, rw (at) at p.aligned, record { first = λ number. ap (marked side.Went number) e; second = λ number. ap (marked side.Came number) e })

  -- where there is no pair of a name, all rules are taken
  alone_by : (own : Side) (name : List ℕ) (number : ℕ) (o : Option Pair) → pair_named old.table.chains pairs name ≡ o → ((pair : Pair) → Contains pairs pair → name_of old.table.chains pair ≡ name → ⊥)
      → IsFound old.table.chains name pairs o → is_this (these own) name number ≡ true
  alone_by own name number None e none found = ap (marked own number) e ∙ get_or_past [] (number - 1) true (omega arith)
  alone_by own name number (Some q) e none found = absurd (none q found.0 found.1)

  alone : (own : Side) (name : List ℕ) (number : ℕ) → ((pair : Pair) → Contains pairs pair → name_of old.table.chains pair ≡ name → ⊥) → is_this (these own) name number ≡ true
  alone own name number none = alone_by own name number (pair_named old.table.chains pairs name) refl none (found old.table.chains name pairs)

  pub unpaired_of : AreUnpaired old new (these side.Went) (these side.Came)
  unpaired_of = record {
    both = λ chains there named.
        both_by chains there named (pair_named old.table.chains pairs (name_at old.table.chains chains.old)) refl (found old.table.chains (name_at old.table.chains chains.old) pairs);
    alone = λ name off number.
        alone side.Went name number (λ pair on same.
        (let p : IsPairOf old new pair = All-contains (IsPairOf old new) pairs pair aligned on in
        true≢false (sym (has_named new.table p.chains.new name p.there.second (p.named ∙ ap (name_at old.table.chains) (sym p.place) ∙ same)) ∙ off)));
    added = λ name off number.
        alone side.Came name number (λ pair on same.
        (let p : IsPairOf old new pair = All-contains (IsPairOf old new) pairs pair aligned on in
        true≢false (sym (has_named old.table p.chains.old name p.there.first (ap (name_at old.table.chains) (sym p.place) ∙ same)) ∙ off)));
  }
