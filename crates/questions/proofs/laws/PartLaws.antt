-- Parts of a box: what two boxes have in common, and that the parts have numbers and share none.
use Rattle.std.proofs.Common.{◌≡◌, inl, inr, ℕ, zero, suc, ◌+◌, ◌<◌, ◌≤◌, true, false, ◌||◌, List, [], ◌∷◌, length, get_or, refl, ◌∙◌, ap, arith, Bool, sym, subst, below_more, max, min, map, ◌++◌, ◌-◌, not, reverse, All, AllPairs, le-leb, leb-true, true≢false, length-append}
use Rattle.std.proofs.lemmas.Bool.{and_from, and_parts, cases_Bool, cases_lt, or_right, cases_eq}
use Rattle.std.proofs.Math.Dec.{leb}
use Rattle.std.proofs.lemmas.List.{get_or_default, reverse-append}
use Rattle.std.proofs.lemmas.List.Elements.{Contains-push, All-append, All-cons, All-map, All-nil, All-push, Contains-append_cases, Contains-get_or}
use Rattle.std.proofs.lemmas.List.Kept.{AllPairs-cons}
use Rattle.std.proofs.lemmas.List.Quantifiers.{all_pairs_push}
use Rattle.fields.specs.declared.numbers.spans.Interval.{Interval}
use Rattle.fields.specs.numbers.Spans.{AreSpansFrom, has, in_span, SpanSet}
use Rattle.fields.proofs.laws.numbers.SpanLaws.{none_below, has_first}
use Rattle.fields.specs.declared.numbers.field.TheConstants.{FIELDS}
use Rattle.fields.specs.numbers.Field.{index, top, all_fields, number_on}
use Rattle.rules.specs.Boxed.{IsBox, IsBoxOf}
use Rattle.rules.proofs.laws.BoxLaws.{index-lt, box_long, top_on}
use Rattle.classify.proofs.laws.classifier.ClassifierLaws.{field_at}
use Rattle.fields.specs.declared.numbers.field.Field.{Field}
use Rattle.rules.specs.rule.Rules.{Rule}
use Rattle.classify.specs.Classifier.{IsPoint, box_allows}
use Rattle.rules.specs.rule.Allows.{matches}
use Rattle.rules.specs.rule.Crossing.{IsListedByRule}
use Rattle.fields.specs.declared.packet.hook.Hook.TheVariants as hook
use Rattle.questions.specs.boxes.Boxes.{HasNumbers, Has, IsBoth}
use Rattle.questions.specs.boxes.Cut.{AreMet, HaveCommon, IsWhole, IsCut, IsInSome, IsAllowedIn, AreDisjoint, IsPortPart, IsSideOf, ShareNone}
use Rattle.questions.specs.steps.Sides.{no_set, AddsLeaving, IsPart, IsSide, LeavesAt, has_at, takes}
use Rattle.questions.specs.steps.Leading.{ShareNumbers}
use Rattle.questions.proofs.laws.AreaLaws.{box_of_rule, from_fields, at_place, on_field, part_at, takes_after, takes_at, takes_below}
use Rattle.questions.proofs.laws.PacketLaws.{at_index}
use Rattle.questions.proofs.laws.ReachLaws.{packet_with, with_inside, with_number, with_packet}

-- ---- Intervals that lie in a set, or don't.

out_of : (x : ℕ) (s : Interval) → (s.first ≤ x → x ≤ s.last → ⊥) → in_span x s ≡ false
out_of x s out =
    elim (cases_Bool (in_span x s)) [
      | inl t ↦ (let both = and_parts (leb s.first x) (leb x s.last) t in absurd (out (leb-true s.first x both.0) (leb-true x s.last both.1)))
      | inr f ↦ f
    ]

not_has : (x : ℕ) (s : Interval) (spans : List Interval) → (s.first ≤ x → x ≤ s.last → ⊥) → has spans x ≡ false → has (s ∷ spans) x ≡ false
not_has x s spans out none = ap (λ b. b || has spans x) (out_of x s out) ∙ none

-- numbers from one to another of which no interval of the set has all: some isn't in the set, since there is a gap between each two intervals
pub some_missing : (top low : ℕ) (spans : List Interval) (first last : ℕ) → AreSpansFrom top low spans → first ≤ last → ((k : ℕ) (d : Interval) → k < length spans → (get_or spans k d).first ≤ first → last ≤ (get_or spans k d).last → ⊥)
    → (x : ℕ) × (first ≤ x) × (x ≤ last) × (has spans x ≡ false)
some_missing top low [] first last rise le none = (first, omega arith, le, refl)
some_missing top low (s ∷ spans) first last (lower, upward, high, rise) le none =
    elim (cases_lt first s.first) [
      | inl before ↦ (first, omega arith, le, not_has first s spans (λ from to. omega (arith, before, from)) (none_below top (s.last + 2) first spans rise (omega (arith, before, upward))))
      | inr from ↦ elim (cases_lt s.last last) [
        | inr within ↦ absurd (none 0 s (omega arith) from within)
        | inl beyond ↦ elim (cases_lt (s.last + 1) first) [
          | inl later ↦ (
              let (x, low_x, high_x, off) = some_missing top (s.last + 2) spans first last rise le (λ k d lt. none (suc k) d (omega (arith, lt))) in
              (x, low_x, high_x, not_has x s spans (λ from_x to. omega (arith, later, low_x, to)) off))
          | inr near ↦ (s.last + 1, near, omega (arith, beyond), not_has (s.last + 1) s spans (λ from_x to. omega (arith, to)) (none_below top (s.last + 2) (s.last + 1) spans rise (omega arith)))
        ]
      ]
    ]

-- an interval of a set goes from a number to one that isn't less, and not beyond the set's top
pub interval_of : (top low : ℕ) (spans : List Interval) (k : ℕ) (d : Interval) → AreSpansFrom top low spans → k < length spans → ((get_or spans k d).first ≤ (get_or spans k d).last) × ((get_or spans k d).last ≤ top)
interval_of top low [] k d rise lt = absurd (omega (arith, lt))
interval_of top low (s ∷ spans) zero d (lower, upward, high, rise) lt = (upward, high)
interval_of top low (s ∷ spans) (suc k) d (lower, upward, high, rise) lt = interval_of top (s.last + 2) spans k d rise (omega (arith, lt))

-- the set has its numbers
pub has_interval : (spans : List Interval) (k : ℕ) (d : Interval) (x : ℕ) → k < length spans → (get_or spans k d).first ≤ x → x ≤ (get_or spans k d).last → has spans x ≡ true
has_interval [] k d x lt from to = absurd (omega (arith, lt))
has_interval (s ∷ spans) zero d x lt from to = ap (λ b. b || has spans x) (and_from (leb s.first x) (leb x s.last) (le-leb s.first x from) (le-leb x s.last to))
has_interval (s ∷ spans) (suc k) d x lt from to = elim (cases_Bool (in_span x s)) [
  | inl t ↦ ap (λ b. b || has spans x) t
  | inr f ↦ ap (λ b. b || has spans x) f ∙ has_interval spans k d x (omega (arith, lt)) from to
]

-- ---- What two boxes have in common, by their sets.

-- the numbers of one list of intervals are in another
abbrev pub AreOf : List Interval → List Interval → Type 0
AreOf some all = (x : ℕ) → has some x ≡ true → has all x ≡ true

-- those behind the first interval are
pub of_behind : (s : Interval) (ss some all : List Interval) → some ≡ s ∷ ss → AreOf some all → AreOf ss all
of_behind s ss some all e h x there =
    let P : List Interval → Type 0 = λ l. has l x ≡ true in
    h x (subst P (sym e) (or_right (in_span x s) (has ss x) there))

-- a set with one interval has the numbers of that
pub has_only : (set : SpanSet) (s : Interval) (x : ℕ) → set.intervals ≡ s ∷ [] → has set.intervals x ≡ in_span x s
has_only set s x e = ap (λ (ss : List Interval). has ss x) e ∙ or_nothing (in_span x s)
  where
    or_nothing : (b : Bool) → (b || false) ≡ b
    or_nothing true = refl
    or_nothing false = refl

-- two first intervals that meet have a number in common
pub common_of : (own other : SpanSet) (left right ss ts : List Interval) (s t : Interval) (first last : ℕ) → AreSpansFrom own.top 0 left → left ≡ s ∷ ss → right ≡ t ∷ ts → AreOf left own.intervals → AreOf right other.intervals
    → first ≡ max s.first t.first → last ≡ min s.last t.last → first ≤ last → HaveCommon own other
common_of own other left right ss ts s t first last rise l r in_own in_other f e le =
    let Q : List Interval → Type 0 = λ is. AreSpansFrom own.top 0 is in
    let rises = subst Q l rise in
    let P : List Interval → Type 0 = λ is. has is first ≡ true in
    (first, omega (arith, rises.2, f, e, le), in_own first (subst P (sym l) (has_first s ss first (omega (arith, f)) (omega (arith, f, e, le)))), in_other first (subst P (sym r) (has_first t ts first (omega (arith, f)) (omega (arith, f, e, le)))))

-- of the sets at each of the first so many places a number is in both
abbrev pub MetBelow : List SpanSet → List SpanSet → ℕ → Type 0
MetBelow own other n = (k : ℕ) → k < n → HaveCommon (get_or own k no_set) (get_or other k no_set)

-- and at one more
pub met_next : (own other : List SpanSet) (k : ℕ) (a b : SpanSet) → IsBox own → IsBox other → k < FIELDS → a ≡ get_or own k a → b ≡ get_or other k b → HaveCommon a b → MetBelow own other k → MetBelow own other (k + 1)
met_next own other k a b is too lt ia ib here below j less =
    elim (cases_lt j k) [
      | inl before ↦ below j before
      | inr past ↦ (
          let same : k ≡ j = omega (arith, less, past) in
          let P : SpanSet → SpanSet → Type 0 = λ x y. HaveCommon x y in
          let one : a ≡ get_or own k no_set = ia ∙ get_or_default own k a no_set (omega (arith, lt, box_long own is)) in
          let two : b ≡ get_or other k no_set = ib ∙ get_or_default other k b no_set (omega (arith, lt, box_long other too)) in
          rw same at (subst (P (get_or own k no_set)) two (subst (λ (x : SpanSet). P x b) one here)))
    ]

-- and at one more where the second box has all numbers
pub met_whole : (own other : List SpanSet) (k : ℕ) → IsBox own → IsBox other → k < FIELDS → HasNumbers own → IsWhole (get_or other k no_set) → MetBelow own other k → MetBelow own other (k + 1)
met_whole own other k is too lt some whole below j less =
    let (f, at) = field_at k lt in
    let (x, le, on) = some f in
    let P : ℕ → Type 0 = λ i. has (get_or own i no_set).intervals x ≡ true in
    let one : (get_or own k no_set).top ≡ top f = top_on own is f k no_set (sym at) in
    let two : (get_or other k no_set).top ≡ top f = top_on other too f k no_set (sym at) in
    below_more (λ i. HaveCommon (get_or own i no_set) (get_or other i no_set)) k below (x, omega (arith, le, one), subst P at on, whole x (omega (arith, le, two))) j less

-- so it is on each field
pub met_on_all : (own other : List SpanSet) (n : ℕ) → IsBox own → FIELDS ≤ n → MetBelow own other n → AreMet own other
met_on_all own other n is le below f =
    let h = below (index f) (omega (arith, index-lt f, le)) in
    (h.0, omega (arith, h.1, top_on own is f (index f) no_set refl), h.2, h.3)

-- ---- Rules that allow some numbers both, by their boxes.

module _ (own other : Rule) (a b : List SpanSet) (is : IsBoxOf own a) (too : IsBoxOf other b) where
  pub share_of : AreMet a b → ShareNumbers own other
  share_of met =
      let pick : Field → ℕ = λ f. (met f).0 in
      let numbers : List ℕ = map pick all_fields in
      let point : IsPoint numbers = λ f. (let P : ℕ → Type 0 = λ n. n ≤ top f in subst P (sym (at_index pick f)) (met f).1) in
      let first : Has a numbers = from_fields a numbers (λ f. (let P : ℕ → Type 0 = λ n. box_allows a f n ≡ true in subst P (sym (at_index pick f)) (met f).2)) in
      let second : Has b numbers = from_fields b numbers (λ f. (let P : ℕ → Type 0 = λ n. box_allows b f n ≡ true in subst P (sym (at_index pick f)) (met f).3)) in
      (numbers, point, sym (box_of_rule own a numbers is point) ∙ first.each, sym (box_of_rule other b numbers too point) ∙ second.each)

  pub not_share : ((numbers : List ℕ) → Has a numbers → Has b numbers → ⊥) → ShareNumbers own other → ⊥
  not_share none w = none w.0 (record { each = box_of_rule own a w.0 is w.1 ∙ w.2 }) (record { each = box_of_rule other b w.0 too w.1 ∙ w.3 })

-- ---- Boxes that a rule parts: what it may match of them.

-- the part that it matches, alone
pub whole_inside : (rule : Rule) (box inside : List SpanSet) (outside : List (List SpanSet)) (numbers : List ℕ) → IsCut rule box inside outside → IsPoint numbers → matches numbers rule ≡ true → Has box numbers → IsInSome ([] ++ inside ∷ []) numbers
whole_inside rule box inside outside numbers cut point m has = (inside, Contains-push [] inside, cut.matched numbers point has m)

-- ---- Parts of a box: that they have numbers, and share none.

-- two boxes that meet have numbers in common
pub common_numbers : (own other : List SpanSet) → AreMet own other → (numbers : List ℕ) × IsPoint numbers × Has own numbers × Has other numbers
common_numbers own other met =
    let pick : Field → ℕ = λ g. (met g).0 in
    let numbers : List ℕ = map pick all_fields in
    let point : IsPoint numbers = λ g. (let P : ℕ → Type 0 = λ n. n ≤ top g in subst P (sym (at_index pick g)) (met g).1) in
    let first : Has own numbers = from_fields own numbers (λ g. (let P : ℕ → Type 0 = λ n. box_allows own g n ≡ true in subst P (sym (at_index pick g)) (met g).2)) in
    let second : Has other numbers = from_fields other numbers (λ g. (let P : ℕ → Type 0 = λ n. box_allows other g n ≡ true in subst P (sym (at_index pick g)) (met g).3)) in
    (numbers, point, first, second)

-- what they have in common has numbers
pub met_numbers : (own other both : List SpanSet) → AreMet own other → IsBoth own other both → HasNumbers both
met_numbers own other both met is f =
    let (numbers, point, first, second) = common_numbers own other met in
    let here : Has both numbers = is.all numbers point first second in
    (number_on numbers f, point f, on_field both numbers f here.each)

-- a box that meets a rule's box has numbers that the rule allows
pub allowed_of : (rule : Rule) (area box : List SpanSet) → IsBoxOf rule box → AreMet area box → IsAllowedIn rule area
allowed_of rule area box is met =
    let (numbers, point, first, second) = common_numbers area box met in
    (numbers, point, first, sym (box_of_rule rule box numbers is point) ∙ second.each)

-- a box has numbers with this one on a field
pub numbers_with : (box : List SpanSet) (f : Field) (x : ℕ) → HasNumbers box → x ≤ top f → box_allows box f x ≡ true → (numbers : List ℕ) × IsPoint numbers × Has box numbers × (number_on numbers f ≡ x)
numbers_with box f x some le on =
    let p = packet_with hook.Input box some f x le on in
    (p.values, (with_packet hook.Input box some f x le on).within, with_inside hook.Input box some f x le on, with_number hook.Input box some f x le on)

-- a box that has some numbers together has some on each field
pub numbers_of : (box : List SpanSet) (numbers : List ℕ) → IsPoint numbers → Has box numbers → HasNumbers box
numbers_of box numbers point inside f = (number_on numbers f, point f, on_field box numbers f inside.each)

-- a box that has all numbers of another one has some if that has
pub numbers_kept : (box same : List SpanSet) → ((numbers : List ℕ) → IsPoint numbers → Has box numbers → Has same numbers) → HasNumbers box → HasNumbers same
numbers_kept box same all some f =
    let (numbers, point, inside, is) = numbers_with box f (some f).0 some (some f).1 (some f).2 in
    numbers_of same numbers point (all numbers point inside) f

-- a part that has only listed numbers on a field, or only others, is a side of the box, if the box has some of those that it hasn't
pub side_of : (field : Field) (listed : SpanSet) (box part : List SpanSet) (side : Bool) (x : ℕ) → HasNumbers box → x ≤ top field → box_allows box field x ≡ true → has listed.intervals x ≡ not side
    → ((numbers : List ℕ) → IsPoint numbers → Has part numbers → has listed.intervals (number_on numbers field) ≡ side) → IsSideOf field listed box part
side_of field listed box part side x some le on off here =
    let (numbers, point, inside, is) = numbers_with box field x some le on in
    record { side = side; here = here; other = (numbers, point, inside, ap (has listed.intervals) is ∙ off) }

-- a side of a part of a box is one of the box
pub side_in : (field : Field) (listed : SpanSet) (box inside part : List SpanSet) → ((numbers : List ℕ) → IsPoint numbers → Has inside numbers → Has box numbers) → IsSideOf field listed inside part → IsSideOf field listed box part
side_in field listed box inside part all side =
    let (numbers, point, there, off) = side.other in
    record { side = side.side; here = side.here; other = (numbers, point, all numbers point there, off) }

-- what isn't the opposite
pub not_other : (a b : Bool) → a ≡ true → a ≡ not b → b ≡ false
not_other a true on is = absurd (true≢false (sym on ∙ is))
not_other a false on is = refl

-- sides of a part of a box are parts by ports that the rule lists
pub port_parts : (rule : Rule) (field : Field) (listed : SpanSet) (box inside : List SpanSet) (parts : List (List SpanSet)) → IsListedByRule listed rule → ((numbers : List ℕ) → IsPoint numbers → Has inside numbers → Has box numbers)
    → All (IsSideOf field listed inside) parts → All (IsPortPart rule box) parts
port_parts rule field listed box inside parts asked all sides k d lt =
    record { field = field; listed = listed; asked = asked; side = side_in field listed box inside (get_or parts k d) all (sides k d lt) }

-- ---- boxes that share no numbers

-- pairs of two lists
pub joined_pairs : {X : Type 0} (R : X → X → Type 0) (xs ys : List X) → AllPairs R xs → AllPairs R ys → All (λ x. All (R x) ys) xs → AllPairs R (xs ++ ys)
joined_pairs R [] ys here there cross = there
joined_pairs R (x ∷ xs) ys here there cross =
    AllPairs-cons R x (xs ++ ys) (All-append (R x) xs ys (λ j d lt. here 0 (suc j) d (omega arith) (omega (arith, lt))) (cross 0 x (omega arith)))
    (joined_pairs R xs ys (λ i j d lt within. here (suc i) (suc j) d (omega (arith, lt)) (omega (arith, within))) there (λ k d lt. cross (suc k) d (omega (arith, lt))))

-- of what a function makes of a list
pub mapped_pairs : {X Y : Type 0} (R : Y → Y → Type 0) (f : X → Y) (xs : List X) → AllPairs (λ a b. R (f a) (f b)) xs → AllPairs R (map f xs)
mapped_pairs R f [] h = λ i j d lt within. absurd (omega (arith, within))
mapped_pairs R f (x ∷ xs) h =
    AllPairs-cons R (f x) (map f xs) (All-map (R (f x)) f xs (λ j d lt. h 0 (suc j) d (omega arith) (omega (arith, lt))))
    (mapped_pairs R f xs (λ i j d lt within. h (suc i) (suc j) d (omega (arith, lt)) (omega (arith, within))))

-- of a list from its end
pub all_reversed : {X : Type 0} (P : X → Type 0) (xs : List X) → All P xs → All P (reverse xs)
all_reversed P [] h = h
all_reversed P (x ∷ xs) h =
    subst (All P) (sym (reverse-append (x ∷ []) xs)) (All-append P (reverse xs) (x ∷ []) (all_reversed P xs (λ k d lt. h (suc k) d (omega (arith, lt)))) (All-cons P x [] (h 0 x (omega arith)) (All-nil P)))

pub reversed_pairs : {X : Type 0} (R : X → X → Type 0) → ((a b : X) → R a b → R b a) → (xs : List X) → AllPairs R xs → AllPairs R (reverse xs)
reversed_pairs R turn [] h = h
reversed_pairs {X} R turn (x ∷ xs) h =
    let before : All (λ y. R y x) (reverse xs) = all_reversed (λ y. R y x) xs (λ j d lt. turn x (get_or xs j d) (h 0 (suc j) d (omega arith) (omega (arith, lt)))) in
    subst (AllPairs R) (sym (reverse-append (x ∷ []) xs))
    (all_pairs_push R (reverse xs) x (reversed_pairs R turn xs (λ i j d lt within. h (suc i) (suc j) d (omega (arith, lt)) (omega (arith, within)))) before)

pub none_disjoint : (boxes : List (List SpanSet)) → boxes ≡ [] → AreDisjoint boxes
none_disjoint boxes none = subst AreDisjoint (sym none) (record { some = All-nil HasNumbers; apart = λ i j d lt within. absurd (omega (arith, within)) })

-- one box more
pub one_disjoint : (boxes : List (List SpanSet)) (box : List SpanSet) → HasNumbers box → All (ShareNone box) boxes → AreDisjoint boxes → AreDisjoint (box ∷ boxes)
one_disjoint boxes box some apart are = record { some = All-cons HasNumbers box boxes some are.some; apart = AllPairs-cons ShareNone box boxes apart are.apart }

-- some boxes, and others
pub both_disjoint : (one other : List (List SpanSet)) → AreDisjoint one → AreDisjoint other → All (λ box. All (ShareNone box) other) one → AreDisjoint (one ++ other)
both_disjoint one other here there apart = record { some = All-append HasNumbers one other here.some there.some; apart = joined_pairs ShareNone one other here.apart there.apart apart }

-- boxes that lie in one box share nothing with boxes that have none of its numbers
pub inside_outside : (bound : List SpanSet) (one other : List (List SpanSet)) → ((numbers : List ℕ) → IsPoint numbers → IsInSome one numbers → Has bound numbers) → ((numbers : List ℕ) → IsPoint numbers → IsInSome other numbers → Has bound numbers → ⊥)
    → All (λ box. All (ShareNone box) other) one
inside_outside bound one other inside out i d lt j e less numbers point here there =
    out numbers point (get_or other j e, Contains-get_or other j e less, there) (inside numbers point (get_or one i d, Contains-get_or one i d lt, here))

-- numbers of some boxes or of others are in a box that both lie in
pub parted_only : (one other : List (List SpanSet)) (box : List SpanSet) (numbers : List ℕ) → IsPoint numbers → ((numbers : List ℕ) → IsPoint numbers → IsInSome one numbers → Has box numbers)
    → ((numbers : List ℕ) → IsPoint numbers → IsInSome other numbers → Has box numbers) → IsInSome (one ++ other) numbers → Has box numbers
parted_only one other box numbers point first second (part, on, inside) = elim (Contains-append_cases one other part on) [
  | inl here ↦ first numbers point (part, here, inside)
  | inr there ↦ second numbers point (part, there, inside)
]

-- ---- the parts that leave a box, place by place

-- the part that leaves a box at a place has numbers, where the boxes meet and the box lacks one there
pub part_numbers : (at : ℕ) (own other part : List SpanSet) (a b : SpanSet) → IsBox own → IsBox other → at < FIELDS → IsPart at own other part → AreMet own other → a ≡ get_or own at a → b ≡ get_or other at b
    → (x : ℕ) × (x ≤ a.top) × (has a.intervals x ≡ true) × (has b.intervals x ≡ false) → HasNumbers part
part_numbers at own other part a b is too lt h met ia ib (y, low, on, off) f =
    elim (cases_lt (index f) at) [
      | inl before ↦ taken (met f).0 (met f).1 (met f).2 (takes_below at (index f) (there (met f).0) before ∙ (met f).3)
      | inr later ↦ elim (cases_eq (index f) at) [
        | inl same ↦ taken y
            (omega (arith, low, ap (λ (s : SpanSet). s.top) ia, top_on own is f at a (sym same)))
            (ap (λ k. has (get_or own k no_set).intervals y) same ∙ sym (here own a is ia) ∙ on)
            (ap (λ k. takes at k (there y)) same ∙ takes_at at (there y) ∙ ap not (ap (λ k. has (get_or other k no_set).intervals y) same ∙ sym (here other b too ib) ∙ off))
        | inr ne ↦ taken (met f).0 (met f).1 (met f).2 (takes_after at (index f) (there (met f).0) (omega (arith, later, ne)))
      ]
    ]
  where
    there : ℕ → Bool
    there x = has (get_or other (index f) no_set).intervals x

    here : (box : List SpanSet) (s : SpanSet) → IsBox box → s ≡ get_or box at s → has s.intervals y ≡ has (get_or box at no_set).intervals y
    here box s of e = ap (λ (t : SpanSet). has t.intervals y) (e ∙ get_or_default box at s no_set (omega (arith, lt, box_long box of)))

    taken : (x : ℕ) → x ≤ top f → box_allows own f x ≡ true → takes at (index f) (there x) ≡ true → (x : ℕ) × (x ≤ top f) × (box_allows part f x ≡ true)
    taken x le in_own passes =
        let side : IsSide at (index f) (get_or own (index f) no_set) (get_or other (index f) no_set) (get_or part (index f) no_set) = h (index f) no_set no_set no_set (index-lt f) in
        (x, le, side.members x (omega (arith, le, top_on own is f (index f) no_set refl)) ∙ and_from (has (get_or own (index f) no_set).intervals x) (takes at (index f) (there x)) in_own passes)

-- its numbers leave the box at that place
pub part_leaves : (at : ℕ) (own other part : List SpanSet) (numbers : List ℕ) → IsBox own → at < FIELDS → IsPart at own other part → IsPoint numbers → Has part numbers → LeavesAt at other numbers
part_leaves at own other part numbers is lt h point there = record { before = before; here = lacks }
  where
    both : (k : ℕ) → k < FIELDS → (has_at own numbers k ≡ true) × (takes at k (has_at other numbers k) ≡ true)
    both k less = and_parts (has_at own numbers k) (takes at k (has_at other numbers k)) (sym (part_at at own other part is h numbers k point less) ∙ at_place part numbers k less there.each)

    before : (k : ℕ) → k < at → has_at other numbers k ≡ true
    before k less = sym (takes_below at k (has_at other numbers k) less) ∙ (both k (omega (arith, less, lt))).1

    lacks : has_at other numbers at ≡ false
    lacks = elim (cases_Bool (has_at other numbers at)) [
      | inl t ↦ absurd (true≢false (sym (sym (takes_at at (has_at other numbers at)) ∙ (both at lt).1) ∙ ap not t))
      | inr f ↦ f
    ]

-- the parts that leave a box at the last so many places are as many at most, share no numbers, and have the numbers of the box at the places before
pub record AreLeft (done : ℕ) (other : List SpanSet) (parts : List (List SpanSet)) : Type 0 where
  pub few : length parts ≤ done
  pub disjoint : AreDisjoint parts
  pub before : All (λ part. (numbers : List ℕ) (k : ℕ) → IsPoint numbers → Has part numbers → k + done < FIELDS → has_at other numbers k ≡ true) parts

pub none_left : (other : List SpanSet) (parts : List (List SpanSet)) → parts ≡ [] → AreLeft 0 other parts
none_left other parts none = record {
  few = omega (arith, ap (λ (ps : List (List SpanSet)). length ps) none);
  disjoint = none_disjoint parts none;
  before = λ i d lt. absurd (omega (arith, lt, ap (λ (ps : List (List SpanSet)). length ps) none));
}

-- one place more
pub left_next : (done : ℕ) (other : List SpanSet) (old new : List (List SpanSet)) → done < FIELDS → AddsLeaving (FIELDS - 1 - done) other old new → AreLeft done other old → AreLeft (done + 1) other new
left_next done other old new lt adds are = by_case adds
  where
    Before : ℕ → List SpanSet → Type 0
    Before n part = (numbers : List ℕ) (k : ℕ) → IsPoint numbers → Has part numbers → k + n < FIELDS → has_at other numbers k ≡ true

    later : All (Before (done + 1)) old
    later i d less numbers k point inside within = are.before i d less numbers k point inside (omega (arith, within))

    by_case : AddsLeaving (FIELDS - 1 - done) other old new → AreLeft (done + 1) other new
    by_case (inl same) = subst (AreLeft (done + 1) other) (sym same) (record { few = omega (arith, are.few); disjoint = are.disjoint; before = later })
    by_case (inr (part, more, some, leaves)) =
        let one : AreDisjoint (part ∷ []) = one_disjoint [] part some (All-nil (ShareNone part)) (none_disjoint [] refl) in
        let apart : All (λ box. All (ShareNone box) (part ∷ [])) old = λ i d less.
        (let box = get_or old i d in
        All-cons (ShareNone box) part []
        (λ numbers point here there. true≢false (sym (are.before i d less numbers (FIELDS - 1 - done) point here (omega (arith, lt))) ∙ (leaves numbers point there).here)) (All-nil (ShareNone box))) in
        subst (AreLeft (done + 1) other) (sym more) (record {
          few = omega (arith, are.few, length-append old (part ∷ []));
          disjoint = both_disjoint old (part ∷ []) are.disjoint one apart;
          before = All-push (Before (done + 1)) old part later (λ numbers k point inside within. (leaves numbers point inside).before k (omega (arith, within, lt)));
        })

-- of two parts that are put into a list
pub both_parts : (P : List SpanSet → Type 0) (one other : List SpanSet) (none first both : List (List SpanSet)) → none ≡ [] → first ≡ none ++ one ∷ [] → both ≡ first ++ other ∷ [] → P one → P other → All P both
both_parts P one other none first both n f b here there =
    let is : both ≡ one ∷ other ∷ [] = b ∙ ap (λ (bs : List (List SpanSet)). bs ++ other ∷ []) (f ∙ ap (λ (bs : List (List SpanSet)). bs ++ one ∷ []) n) in
    subst (All P) (sym is) (All-cons P one (other ∷ []) here (All-cons P other [] there (All-nil P)))

-- they are disjoint, if they have numbers each and share none
pub two_disjoint : (one other : List SpanSet) (none first both : List (List SpanSet)) → none ≡ [] → first ≡ none ++ one ∷ [] → both ≡ first ++ other ∷ [] → HasNumbers one → HasNumbers other → ShareNone one other → AreDisjoint both
two_disjoint one other none first both n f b here there apart =
    let is : both ≡ one ∷ other ∷ [] = b ∙ ap (λ (bs : List (List SpanSet)). bs ++ other ∷ []) (f ∙ ap (λ (bs : List (List SpanSet)). bs ++ one ∷ []) n) in
    let alone : AreDisjoint (other ∷ []) = one_disjoint [] other there (All-nil (ShareNone other)) (none_disjoint [] refl) in
    subst AreDisjoint (sym is) (one_disjoint (other ∷ []) one here (All-cons (ShareNone one) other [] apart (All-nil (ShareNone one))) alone)

pub two_parts_long : (one other : List SpanSet) (none first both : List (List SpanSet)) → none ≡ [] → first ≡ none ++ one ∷ [] → both ≡ first ++ other ∷ [] → length both ≡ 2
two_parts_long one other none first both n f b = ap (λ (bs : List (List SpanSet)). length bs) (b ∙ ap (λ (bs : List (List SpanSet)). bs ++ other ∷ []) (f ∙ ap (λ (bs : List (List SpanSet)). bs ++ one ∷ []) n))
