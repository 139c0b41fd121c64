-- What matches ask of the source and the destination port at once, and sets of ports.
use Rattle.std.proofs.Common.{◌≡◌, ℕ, Option, Some, None, map, ◌+◌, ◌<◌, ◌≤◌, Bool, true, false, ◌&&◌, ◌==◌, List, [], ◌∷◌, length, take, get_or, refl, sym, ◌∙◌, ap, arith, subst, ◌||◌, is_some}
use Rattle.std.specs.List.{Any, list_all, list_any}
use Rattle.std.specs.Option.{IfSome}
use Rattle.std.proofs.Math.Dec.{leb}
use Rattle.std.proofs.lemmas.Bool.{and_from, and_parts, le-leb, or_left, true≢false}
use Rattle.std.proofs.lemmas.List.{get_or-map, length-map}
use Rattle.std.proofs.lemmas.List.Folds.{list_all_at, list_all_more, list_all-map}
use Rattle.fields.specs.declared.numbers.spans.Interval.{Interval}
use Rattle.fields.specs.numbers.Spans.{AreSpansFrom, SpanSet, has}
use Rattle.fields.specs.values.PortRange.{Ports}
use Rattle.rules.specs.rule.Crossing.{HasMember, HavePorts, SaysOf, has_both, is_both, match_crosses, option_value_crosses, ports_cross}
use Rattle.rules.specs.declared.rule.port_sets.Crossing.{Crossing}
use Rattle.rules.specs.declared.rule.port_sets.Crossing.TheVariants.{Holds, Fails, BySource, ByDestination}
use Rattle.rules.specs.options.Values.{both_ports_in}
use Rattle.rules.specs.declared.options.option_value.OptionValue.{OptionValue}
use Rattle.rules.specs.declared.rule.spec.Match.{Match}
use Rattle.rules.specs.steps.Views.{view_match, view_matches}
use Rattle.rules.specs.rule.Rules as viewed

-- ---- Sets of ports: what a list has of one, and what is said of all packets whose ports are in two.

-- ---- numbers of a set

first_of : (top low : ℕ) (ss : List Interval) → AreSpansFrom top low ss → (ss ≡ [] → ⊥) → (x : ℕ) × (x ≤ top) × (has ss x ≡ true)
first_of top low [] h ne = absurd (ne refl)
first_of top low (s ∷ ss) h ne =
    (s.first, omega (arith, h.1, h.2), or_left (leb s.first s.first && leb s.first s.last) _ (and_from (leb s.first s.first) (leb s.first s.last) (le-leb s.first s.first (omega arith)) (le-leb s.first s.last h.1)))

-- a set with an interval has a number
pub first_number : (s : SpanSet) (b : Bool) → AreSpansFrom s.top 0 s.intervals → b ≡ (length s.intervals == 0) → b ≡ false → (x : ℕ) × HasMember s x
first_number s b h e f =
    let m = first_of s.top 0 s.intervals h (λ none. true≢false (sym (ap (λ (ss : List Interval). length ss == 0) none) ∙ sym e ∙ f)) in
    (m.0, (m.1, m.2))

-- a number that a set and another one have
pub shared_number : (own other shared : SpanSet) → shared.top ≡ own.top → ((x : ℕ) → has shared.intervals x ≡ (has own.intervals x && has other.intervals x)) → (x : ℕ) × HasMember shared x
    → (x : ℕ) × HasMember own x × (has other.intervals x ≡ true)
shared_number own other shared top members m =
    let both = and_parts (has own.intervals m.0) (has other.intervals m.0) (sym (members m.0) ∙ m.1.1) in
    (m.0, (omega (arith, m.1.0, top), both.0), both.1)

-- ---- what is said

-- of a test that passes the same numbers
pub says_alike : (p q : List ℕ → Bool) (source destination : SpanSet) (said : Crossing) → ((numbers : List ℕ) → p numbers ≡ q numbers) → SaysOf p source destination said → SaysOf q source destination said
says_alike p q source destination Holds same h = λ numbers ports. sym (same numbers) ∙ h numbers ports
says_alike p q source destination Fails same h = λ numbers ports. sym (same numbers) ∙ h numbers ports
says_alike p q source destination (BySource listed) same h = h
says_alike p q source destination (ByDestination listed) same h = h

-- of several tests at once, where it is said of one that they don't all hold
pub says_of_all : {A : Type 0} (test : List ℕ → A → Bool) (xs : List A) (k : ℕ) (d : A) (source destination : SpanSet) (said : Crossing) → k < length xs → (said ≡ Holds → ⊥)
    → SaysOf (λ numbers. test numbers (get_or xs k d)) source destination said → SaysOf (λ numbers. list_all (test numbers) xs) source destination said
says_of_all test xs k d source destination Holds lt ne h = absurd (ne refl)
says_of_all test xs k d source destination Fails lt ne h = λ numbers ports. list_all_at (test numbers) xs k d lt (h numbers ports)
says_of_all test xs k d source destination (BySource listed) lt ne h = h
says_of_all test xs k d source destination (ByDestination listed) lt ne h = h

-- one test more that holds
pub says_more : {A : Type 0} (test : List ℕ → A → Bool) (xs : List A) (k : ℕ) (d : A) (source destination : SpanSet) (said : Crossing) → k < length xs → said ≡ Holds
    → ((numbers : List ℕ) → HavePorts source destination numbers → list_all (test numbers) (take k xs) ≡ true) → SaysOf (λ numbers. test numbers (get_or xs k d)) source destination said
    → (numbers : List ℕ) → HavePorts source destination numbers → list_all (test numbers) (take (k + 1) xs) ≡ true
says_more {A} test xs k d source destination said lt is before h numbers ports =
    let P : Crossing → Type 0 = λ c. SaysOf (λ ns. test ns (get_or xs k d)) source destination c in
    let here : test numbers (get_or xs k d) ≡ true = subst P is h numbers ports in
    list_all_more (test numbers) xs k d lt ∙ (λ i. before numbers ports i && here i)

-- what holds of the ports by which packets are parted, and of one element, holds of them and some element
pub any_there : {A : Type 0} (P : SpanSet → A → Type 0) (xs : List A) (k : ℕ) (x : A) (ports : Option SpanSet) → k < length xs → x ≡ get_or xs k x
    → IfSome ports (λ set. P set x) → IfSome ports (λ set. Any (P set) xs)
any_there P xs k x None within is h = h
any_there P xs k x (Some set) within is h = (k, x, within, sym is, h)

-- the same of the elements, and of what they are made into
pub any_made : {A B : Type 0} (P : SpanSet → B → Type 0) (f : A → B) (xs : List A) (ports : Option SpanSet) → IfSome ports (λ set. Any (λ x. P set (f x)) xs) → IfSome ports (λ set. Any (P set) (map f xs))
any_made P f xs None h = h
any_made P f xs (Some set) h =
    (h.0, f h.1, omega (arith, h.2, length-map xs f), get_or-map f xs h.0 h.1 (f h.1) h.2 ∙ ap f h.3, h.4)

-- ---- What matches ask of several fields at once, as the code keeps them.

pub each_viewed : (numbers : List ℕ) (ms : List Match) → list_all (λ m. match_crosses numbers (view_match m)) ms ≡ list_all (match_crosses numbers) (view_matches ms)
each_viewed numbers ms = sym (list_all-map (match_crosses numbers) view_match ms)

-- an option that is no condition on both ports holds
free_ports : (inverted : Bool) (list : Option (List Ports)) (numbers : List ℕ) → is_some list ≡ false → ports_cross inverted list numbers ≡ true
free_ports inverted None numbers is = refl
free_ports inverted (Some list) numbers is = absurd (true≢false is)

-- of a list of which none is so, each is otherwise
free_all : {A : Type 0} (p q : A → Bool) (xs : List A) → ((x : A) → p x ≡ false → q x ≡ true) → list_any p xs ≡ false → list_all q xs ≡ true
free_all p q [] each is = refl
free_all p q (x ∷ xs) each is =
    elim (p x) as (λ b. p x ≡ b → (b || list_any p xs) ≡ false → (q x && list_all q xs) ≡ true) [
      | true ↦ λ at h. absurd (true≢false h)
      | false ↦ λ at h. ap (λ b. b && list_all q xs) (each x at) ∙ free_all p q xs each h
    ] refl is

free_match : (numbers : List ℕ) (m : viewed.Match) → has_both m ≡ false → match_crosses numbers m ≡ true
free_match numbers m = free_all is_both (option_value_crosses numbers) m.option_values (λ (s : OptionValue). free_ports s.inverted (both_ports_in s.value) numbers)

-- one of a list that is made of another is so
pub any_mapped : {A B : Type 0} (p : B → Bool) (f : A → B) (xs : List A) → list_any p (map f xs) ≡ list_any (λ x. p (f x)) xs
any_mapped p f [] = refl
any_mapped p f (x ∷ xs) = ap (λ b. p (f x) || b) (any_mapped p f xs)

-- matches of which one asks several fields at once, as the code keeps them
pub any_viewed : (ms : List Match) → list_any (λ m. has_both (view_match m)) ms ≡ list_any has_both (view_matches ms)
any_viewed ms = sym (any_mapped has_both view_match ms)

-- of matches of which none does, each holds of every packet
pub free_matches : (numbers : List ℕ) (ms : List viewed.Match) → list_any has_both ms ≡ false → list_all (match_crosses numbers) ms ≡ true
free_matches numbers ms = free_all has_both (match_crosses numbers) ms (free_match numbers)
