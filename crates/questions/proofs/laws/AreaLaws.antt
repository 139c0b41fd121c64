-- Boxes of packets, place by place.
use Rattle.std.proofs.Common.{◌≡◌, ◌≢◌, inl, inr, ℕ, zero, suc, ◌+◌, ◌-◌, ◌<◌, ◌≤◌, Bool, true, false, cond, ◌&&◌, not, ◌==◌, ◌||◌, List, [], ◌∷◌, ◌++◌, length, get_or, map, refl, sym, ◌∙◌, ap, arith, subst, ◌⊎◌, below_more, slice_index, lt-ltb, le-ltb, le-leb, leb-true, eq-eqb, ne_eqb, eqb-true, true≢false, get_or-set_same, get_or-set_other}
use Rattle.std.specs.List.{list_all}
use Rattle.std.proofs.Math.Dec.{eqb, leb}
use Rattle.std.proofs.Math.ListN.{set}
use Rattle.std.proofs.lemmas.Bool.{cases_Bool, cases_eq, and_from, and_parts, cases_lt}
use Rattle.std.proofs.lemmas.List.{get_or-map, length-map, get_or_default, same_lists}
use Rattle.std.proofs.lemmas.List.Elements.{Contains-push_cases}
use Rattle.std.proofs.lemmas.List.Sums.{AllPass-from_list_all}
use Rattle.fields.specs.declared.numbers.field.TheConstants.{FIELDS}
use Rattle.fields.specs.declared.numbers.field.Field.{Field}
use Rattle.fields.specs.declared.numbers.field.Field.TheVariants as field
use Rattle.fields.specs.declared.numbers.spans.Interval.{Interval}
use Rattle.fields.specs.declared.packet.hook.Hook.{Hook}
use Rattle.fields.specs.numbers.Field.{all_fields, index, number_on, top}
use Rattle.fields.specs.numbers.Spans.{AreSpansFrom, SpanSet, has}
use Rattle.fields.specs.Packet.{comes_in, goes_out, PacketView, IsPacket, point}
use Rattle.rules.specs.Boxed.{IsBox, IsBoxOf, set_on}
use Rattle.rules.specs.rule.Allows.{allows, allows_each, matches}
use Rattle.rules.specs.rule.Crossing.{cross, HavePorts}
use Rattle.rules.specs.rule.Rules.{Rule}
use Rattle.rules.proofs.laws.BoxLaws.{index-lt, here_is, box_long, top_on}
use Rattle.rules.proofs.laws.rule.CrossLaws as ports
use Rattle.classify.specs.Classifier.{IsPoint, box_allows, box_matches}
use Rattle.classify.proofs.laws.classifier.ClassifierLaws.{field_at}
use Rattle.questions.specs.boxes.Boxes.{Has, HasNumbers, HasOwnInterfaces, IsAtHook, IsBoth, IsIn, IsNarrowed, may_have, is_without}
use Rattle.questions.specs.boxes.Cut.{IsInSome, IsApart, IsCut, IsPartedFor, MatchesAll}
use Rattle.questions.specs.steps.Sides.{no_set, has_at, takes, HasOne, IsSide, IsPart, IsBeginning, LeavesAt}

pub same_truth : (a b : Bool) → (a ≡ true → b ≡ true) → (b ≡ true → a ≡ true) → a ≡ b
same_truth true b there back = sym (there refl)
same_truth false true there back = back refl
same_truth false false there back = refl

all_true : {A : Type 0} (p : A → Bool) (xs : List A) → ((x : A) → p x ≡ true) → list_all p xs ≡ true
all_true p [] h = refl
all_true p (x ∷ xs) h = and_from (p x) (list_all p xs) (h x) (all_true p xs h)

all_alike : {A : Type 0} (p q : A → Bool) (xs : List A) → ((x : A) → p x ≡ q x) → list_all p xs ≡ list_all q xs
all_alike p q [] same = refl
all_alike p q (x ∷ xs) same = ap (λ b. b && list_all p xs) (same x) ∙ ap (λ b. q x && b) (all_alike p q xs same)

-- what holds at each place below one, and of what is put there, holds at each place up to it
pub set_next : {X : Type 0} (P : ℕ → X → Type 0) (xs : List X) (k : ℕ) (v : X) → k < length xs → ((j : ℕ) (d : X) → j < k → P j (get_or xs j d)) → P k v → (j : ℕ) (d : X) → j < k + 1 → P j (get_or (set xs k v) j d)
set_next {X} P xs k v lt below here j d less =
    elim (cases_eq j k) [
      | inl e ↦ (
          let Q : ℕ → Type 0 = λ i. P i (get_or (set xs k v) i d) in
          let R : X → Type 0 = λ x. P k x in
          subst Q (sym e) (subst R (sym (get_or-set_same xs k v d lt)) here))
      | inr ne ↦ (
          let R : X → Type 0 = λ x. P j x in
          let other : j ≢ k = ne in
          subst R (sym (get_or-set_other xs k j v d other)) (below j d (omega arith)))
    ]

-- a box that has some numbers has each at its place
pub on_field : (box : List SpanSet) (numbers : List ℕ) (f : Field) → box_matches numbers box ≡ true → box_allows box f (number_on numbers f) ≡ true
on_field box numbers f h =
    let p : Field → Bool = λ g. box_allows box g (number_on numbers g) in
    rw (here_is f f) at (AllPass-from_list_all p all_fields h (index f) f (index-lt f))

pub at_place : (box : List SpanSet) (numbers : List ℕ) (k : ℕ) → k < FIELDS → box_matches numbers box ≡ true → has_at box numbers k ≡ true
at_place box numbers k lt h =
    let f = field_at k lt in
    let P : ℕ → Type 0 = λ j. has_at box numbers j ≡ true in
    subst P f.1 (on_field box numbers f.0 h)

-- the set at a field's place has the numbers that the box allows on the field
pub set_at : (box : List SpanSet) (k : ℕ) (f : Field) (s : SpanSet) (x : ℕ) → IsBox box → k ≡ index f → s ≡ get_or box k s → has s.intervals x ≡ box_allows box f x
set_at box k f s x is at own =
    ap (λ (y : SpanSet). has y.intervals x) ((rw (at) at own) ∙ get_or_default box (index f) s no_set (omega (arith, index-lt f, box_long box is)))

-- the set at a field's place has the number on it
pub set_has : (box : List SpanSet) (numbers : List ℕ) (k : ℕ) (f : Field) (s : SpanSet) → IsBox box → k ≡ index f → s ≡ get_or box k s → Has box numbers → has s.intervals (number_on numbers f) ≡ true
set_has box numbers k f s is at own inside = set_at box k f s (number_on numbers f) is at own ∙ on_field box numbers f inside.each

-- and the other way round
pub from_places : (box : List SpanSet) (numbers : List ℕ) → ((k : ℕ) → k < FIELDS → has_at box numbers k ≡ true) → box_matches numbers box ≡ true
from_places box numbers h = all_true (λ g. box_allows box g (number_on numbers g)) all_fields (λ g. h (index g) (index-lt g))

-- the same by fields
pub from_fields : (box : List SpanSet) (numbers : List ℕ) → ((f : Field) → box_allows box f (number_on numbers f) ≡ true) → Has box numbers
from_fields box numbers h = record { each = all_true (λ g. box_allows box g (number_on numbers g)) all_fields h }

-- so does the set at a place have the numbers that the box has there
pub place_set : (box : List SpanSet) (numbers : List ℕ) (k : ℕ) (s : SpanSet) → s ≡ get_or box k s → IsBox box → k < FIELDS → has_at box numbers k ≡ has s.intervals (slice_index numbers k)
place_set box numbers k s own is lt =
    ap (λ (y : SpanSet). has y.intervals (slice_index numbers k)) (sym (own ∙ get_or_default box k s no_set (omega (arith, lt, box_long box is))))

-- numbers are within the tops of the sets
pub within_top : (box : List SpanSet) (numbers : List ℕ) (k : ℕ) (d : SpanSet) → IsBox box → IsPoint numbers → k < FIELDS → slice_index numbers k ≤ (get_or box k d).top
within_top box numbers k d is point lt =
    let f = field_at k lt in
    let here : number_on numbers f.0 ≤ top f.0 = point f.0 in
    let same : (get_or box k d).top ≡ top f.0 = top_on box is f.0 k d (sym f.1) in
    omega (arith, here, same, ap (λ j. slice_index numbers j) f.1)

pub same_tops : (own other : List SpanSet) (k : ℕ) (d e : SpanSet) → IsBox own → IsBox other → k < FIELDS → (get_or own k d).top ≡ (get_or other k e).top
same_tops own other k d e is too lt =
    let f = field_at k lt in top_on own is f.0 k d (sym f.1) ∙ sym (top_on other too f.0 k e (sym f.1))

-- ---- the parts of a box

module _ (at : ℕ) (own other part : List SpanSet) (is : IsBox own) (h : IsPart at own other part) where
  pub part_at : (numbers : List ℕ) (k : ℕ) → IsPoint numbers → k < FIELDS → has_at part numbers k ≡ (has_at own numbers k && takes at k (has_at other numbers k))
  part_at numbers k point lt =
      let one : IsSide at k (get_or own k no_set) (get_or other k no_set) (get_or part k no_set) = h k no_set no_set no_set lt in
      one.members (slice_index numbers k) (within_top own numbers k no_set is point lt)

  pub box_of_part : length part ≡ FIELDS → IsBox part
  box_of_part long =
      let tops : List SpanSet → List ℕ = map (λ (s : SpanSet). s.top) in
      let one : length (tops part) ≡ length (tops own) = length-map part (λ (s : SpanSet). s.top) ∙ long ∙ sym (box_long own is) ∙ sym (length-map own (λ (s : SpanSet). s.top)) in
      let same : tops part ≡ tops own = same_lists (tops part) (tops own) one (λ k d lt.
      (let within : k < length part = omega (arith, lt, length-map part (λ (s : SpanSet). s.top)) in
      let under : k < FIELDS = omega (arith, within, long) in
      let there : k < length own = omega (arith, under, box_long own is) in
      let side : IsSide at k (get_or own k no_set) (get_or other k no_set) (get_or part k no_set) = h k no_set no_set no_set under in
      get_or-map (λ (s : SpanSet). s.top) part k no_set d within ∙ side.top ∙ sym (get_or-map (λ (s : SpanSet). s.top) own k no_set d there))) in
      same ∙ is

pub takes_below : (at k : ℕ) (b : Bool) → k < at → takes at k b ≡ b
takes_below at k b lt = ap (λ t. cond t b (cond (eqb k at) (not b) true)) (lt-ltb k at lt)

-- the numbers that are in both
pub within_both : (own other part : List SpanSet) → IsBox own → IsPart FIELDS own other part → IsBoth own other part
within_both own other part is h =
    let at : (numbers : List ℕ) → IsPoint numbers → (k : ℕ) → k < FIELDS → has_at part numbers k ≡ (has_at own numbers k && has_at other numbers k) =
    λ numbers point k lt. part_at FIELDS own other part is h numbers k point lt ∙ ap (λ b. has_at own numbers k && b) (takes_below FIELDS k (has_at other numbers k) lt) in
    record {
      all = λ numbers point a b. record { each = from_places part numbers (λ k lt. at numbers point k lt ∙ and_from (has_at own numbers k) (has_at other numbers k) (at_place own numbers k lt a.each) (at_place other numbers k lt b.each)) };
      first = λ numbers point e. record { each = from_places own numbers (λ k lt. (and_parts (has_at own numbers k) (has_at other numbers k) (sym (at numbers point k lt) ∙ at_place part numbers k lt e.each)).0) };
      second = λ numbers point e. record { each = from_places other numbers (λ k lt. (and_parts (has_at own numbers k) (has_at other numbers k) (sym (at numbers point k lt) ∙ at_place part numbers k lt e.each)).1) };
    }

-- a set without numbers leaves a box without packets
pub no_numbers : (box : List SpanSet) (numbers : List ℕ) (k : ℕ) (d : SpanSet) → IsBox box → k < length box → (get_or box k d).intervals ≡ [] → Has box numbers → ⊥
no_numbers box numbers k d is lt none h =
    let under : k < FIELDS = omega (arith, lt, box_long box is) in
    let here : has_at box numbers k ≡ false = ap (λ (s : SpanSet). has s.intervals (slice_index numbers k)) (get_or_default box k no_set d lt) ∙ ap (λ (ss : List Interval). has ss (slice_index numbers k)) none in
    true≢false (sym (at_place box numbers k under h.each) ∙ here)

-- two boxes whose sets at a place have nothing in common have no packet in common
pub nothing_shared : (own other : List SpanSet) (numbers : List ℕ) (k : ℕ) (a b : SpanSet) → IsBox own → IsBox other → k < FIELDS → a ≡ get_or own k a → b ≡ get_or other k b
    → ((x : ℕ) → (has a.intervals x && has b.intervals x) ≡ false) → Has own numbers → Has other numbers → ⊥
nothing_shared own other numbers k a b is too lt ia ib none h g =
    let x : ℕ = slice_index numbers k in
    let there : (box : List SpanSet) (s : SpanSet) → IsBox box → s ≡ get_or box k s → Has box numbers → has s.intervals x ≡ true =
    λ box s of e in_box. ap (λ (t : SpanSet). has t.intervals x) (e ∙ get_or_default box k s no_set (omega (arith, lt, box_long box of))) ∙ at_place box numbers k lt in_box.each in
    true≢false (sym (and_from (has a.intervals x) (has b.intervals x) (there own a is ia h) (there other b too ib g)) ∙ none x)

-- a set with an interval has a number
pub first_number : (s : SpanSet) (b : Bool) → AreSpansFrom s.top 0 s.intervals → b ≡ (length s.intervals == 0) → b ≡ false → HasOne s
first_number s b h e f = let m = ports.first_number s b h e f in (m.0, m.1.0, m.1.1)

-- where each set has a number, so has each field
pub numbers_from : (box : List SpanSet) → IsBox box → ((k : ℕ) (d : SpanSet) → k < FIELDS → HasOne (get_or box k d)) → HasNumbers box
numbers_from box is h f =
    let one : HasOne (get_or box (index f) no_set) = h (index f) no_set (index-lt f) in
    (one.0, omega (arith, one.1, top_on box is f (index f) no_set refl), one.2)

-- ---- a set in the place of a field's

module _ (box : List SpanSet) (f : Field) (v wanted : SpanSet) (is : IsBox box) (members : (x : ℕ) → has v.intervals x ≡ (has (set_on f box) x && has wanted.intervals x)) where
  narrow_here : (numbers : List ℕ) → has_at (set box (index f) v) numbers (index f) ≡ (has_at box numbers (index f) && has wanted.intervals (number_on numbers f))
  narrow_here numbers =
      let lt : index f < length box = omega (arith, index-lt f, box_long box is) in
      ap (λ (s : SpanSet). has s.intervals (number_on numbers f)) (get_or-set_same box (index f) v no_set lt) ∙ members (number_on numbers f)

  narrow_there : (numbers : List ℕ) (k : ℕ) → (k ≡ index f → ⊥) → has_at (set box (index f) v) numbers k ≡ has_at box numbers k
  narrow_there numbers k ne =
      let other : k ≢ index f = ne in
      ap (λ (s : SpanSet). has s.intervals (slice_index numbers k)) (get_or-set_other box (index f) k v no_set other)

  narrow_at : IsNarrowed f wanted box (set box (index f) v)
  narrow_at = record {
    all = λ numbers point own ok. record {
      each = from_places (set box (index f) v) numbers (λ k lt. elim (cases_eq k (index f)) [
        | inl e ↦ (
            let P : ℕ → Type 0 = λ j. has_at (set box (index f) v) numbers j ≡ true in
            let two : (has_at box numbers (index f) && has wanted.intervals (number_on numbers f)) ≡ true = and_from (has_at box numbers (index f)) (has wanted.intervals (number_on numbers f)) (at_place box numbers (index f) (index-lt f) own.each) ok in
            subst P (sym e) (narrow_here numbers ∙ two))
        | inr ne ↦ narrow_there numbers k ne ∙ at_place box numbers k lt own.each
      ]);
    };
    own = λ numbers point new. record {
      each = from_places box numbers (λ k lt. elim (cases_eq k (index f)) [
        | inl e ↦ (let P : ℕ → Type 0 = λ j. has_at box numbers j ≡ true in subst P (sym e) (both numbers new).0)
        | inr ne ↦ sym (narrow_there numbers k ne) ∙ at_place (set box (index f) v) numbers k lt new.each
      ]);
    };
    members = λ numbers point new. (both numbers new).1;
  }
    where
      both : (numbers : List ℕ) → Has (set box (index f) v) numbers → (has_at box numbers (index f) ≡ true) × (has wanted.intervals (number_on numbers f) ≡ true)
      both numbers new = and_parts (has_at box numbers (index f)) (has wanted.intervals (number_on numbers f)) (sym (narrow_here numbers) ∙ at_place (set box (index f) v) numbers (index f) (index-lt f) new.each)

  pub narrowed_to : (k : ℕ) → k ≡ index f → IsNarrowed f wanted box (set box k v)
  narrowed_to k at = let P : ℕ → Type 0 = λ j. IsNarrowed f wanted box (set box j v) in subst P (sym at) narrow_at

-- one number alone is from it to it
pub only_one : (n x : ℕ) → (leb n x && leb x n) ≡ (x == n)
only_one n x = same_truth (leb n x && leb x n) (x == n) (λ t. (let both = and_parts (leb n x) (leb x n) t in eq-eqb x n (omega (arith, leb-true n x both.0, leb-true x n both.1))))
    (λ t. and_from (leb n x) (leb x n) (le-leb n x (omega (arith, eqb-true x n t))) (le-leb x n (omega (arith, eqb-true x n t))))

-- ---- the packets at a hook

-- what a packet at a hook has on a field it may have
pub may_be : (p : PacketView) (hook : Hook) (f : Field) → IsAtHook p → p.hook ≡ hook → may_have hook f (point p f) ≡ true
may_be p hook f at e = by_field f
  where
    by_test : (b : Bool) (x : ℕ) → (b ≡ false → x ≡ 0) → (not (not b) || (x == 0)) ≡ true
    by_test true x h = refl
    by_test false x h = ap (λ y. y == 0) (h refl)

    by_field : (g : Field) → may_have hook g (point p g) ≡ true
    by_field field.InIface = by_test (comes_in hook) (point p field.InIface) (λ n. at.carried field.InIface (ap comes_in e ∙ n))
    by_field field.OutIface = by_test (goes_out hook) (point p field.OutIface) (λ n. at.carried field.OutIface (ap goes_out e ∙ n))
    by_field _ = refl

module _ (hook : Hook) (sets : List SpanSet) (h : (k : ℕ) (f : Field) (d : SpanSet) → k < FIELDS → IsBeginning hook (get_or all_fields k f) (get_or sets k d)) where
  on_its_field : (f : Field) (d : SpanSet) → IsBeginning hook f (get_or sets (index f) d)
  on_its_field f d =
      let P : Field → Type 0 = λ g. IsBeginning hook g (get_or sets (index f) d) in subst P (here_is f f) (h (index f) f d (index-lt f))

  pub box_of_hook : length sets ≡ FIELDS → IsBox sets
  box_of_hook long =
      let same : length (map (λ (s : SpanSet). s.top) sets) ≡ length (map top all_fields) = length-map sets (λ (s : SpanSet). s.top) ∙ long in
      same_lists (map (λ (s : SpanSet). s.top) sets) (map top all_fields) same (λ k d lt.
      (let within : k < length sets = omega (arith, lt, length-map sets (λ (s : SpanSet). s.top)) in
      let under : k < FIELDS = omega (arith, within, long) in
      let one : IsBeginning hook (get_or all_fields k field.Source) (get_or sets k no_set) = h k field.Source no_set under in
      get_or-map (λ (s : SpanSet). s.top) sets k no_set d within ∙ one.greatest ∙ sym (get_or-map top all_fields k field.Source d under)))

  pub all_at_hook : (p : PacketView) → IsAtHook p → p.hook ≡ hook → IsIn sets p
  all_at_hook p at e = record {
    each =
        all_true (λ g. box_allows sets g (number_on p.values g)) all_fields
        (λ g. (on_its_field g no_set).members (point p g) (at.packet.within g) ∙ may_be p hook g at e);
  }

  pub only_at_hook : (p : PacketView) → IsPacket p → p.hook ≡ hook → IsIn sets p → HasOwnInterfaces p
  only_at_hook p is e inside = record {
    came = λ out. missing field.InIface (ap not (ap comes_in (sym e) ∙ out));
    goes = λ for_here. missing field.OutIface (ap not (ap goes_out (sym e) ∙ for_here));
  }
    where
      missing : (f : Field) → is_without hook f ≡ true → point p f ≡ 0
      missing f t =
          let has_it : has_at sets p.values (index f) ≡ true = at_place sets p.values (index f) (index-lt f) inside.each in
          let is_zero : may_have hook f (point p f) ≡ (point p f == 0) = ap (λ b. not b || (point p f == 0)) t in
          eqb-true (point p f) 0 (sym is_zero ∙ sym ((on_its_field f no_set).members (point p f) (is.within f)) ∙ has_it)

-- ---- rules

-- the box of a rule has the numbers that the rule allows
pub box_of_rule : (rule : Rule) (box : List SpanSet) (numbers : List ℕ) → IsBoxOf rule box → IsPoint numbers → box_matches numbers box ≡ allows_each numbers rule
box_of_rule rule box numbers is point = all_alike (λ f. box_allows box f (number_on numbers f)) (λ f. allows rule f (number_on numbers f)) all_fields (λ f. is f (number_on numbers f) (point f))

-- ---- the loops

pub side_at : (at k : ℕ) (own other : List SpanSet) (a b side : SpanSet) → a ≡ get_or own k a → b ≡ get_or other k b → k < length own → k < length other → IsSide at k a b side
    → (d e : SpanSet) → IsSide at k (get_or own k d) (get_or other k e) side
side_at at k own other a b side is too lt less h d e =
    rw (too ∙ get_or_default other k b e less) at (rw (is ∙ get_or_default own k a d lt) at h)

pub sides_next : (at : ℕ) (own other sets : List SpanSet) (k : ℕ) (v a b : SpanSet) → IsBox own → IsBox other → length sets ≡ FIELDS → k < FIELDS → a ≡ get_or own k a → b ≡ get_or other k b
    → ((place : ℕ) (d e f : SpanSet) → place < k → IsSide at place (get_or own place d) (get_or other place e) (get_or sets place f)) → IsSide at k a b v
    → (place : ℕ) (d e f : SpanSet) → place < k + 1 → IsSide at place (get_or own place d) (get_or other place e) (get_or (set sets k v) place f)
sides_next at own other sets k v a b is too long lt ia ib below here place d e f less =
    let P : ℕ → SpanSet → Type 0 = λ j s. (x y : SpanSet) → IsSide at j (get_or own j x) (get_or other j y) s in
    set_next P sets k v (omega arith) (λ j s below' x y. below j x y s below') (side_at at k own other a b v ia ib (omega (arith, box_long own is)) (omega (arith, box_long other too)) here) place f less d e

pub begins_next : (hook : Hook) (sets : List SpanSet) (k : ℕ) (v : SpanSet) → length sets ≡ FIELDS → k < FIELDS
    → ((place : ℕ) (f : Field) (d : SpanSet) → place < k → IsBeginning hook (get_or all_fields place f) (get_or sets place d)) → ((f : Field) → IsBeginning hook (get_or all_fields k f) v)
    → (place : ℕ) (f : Field) (d : SpanSet) → place < k + 1 → IsBeginning hook (get_or all_fields place f) (get_or (set sets k v) place d)
begins_next hook sets k v long lt below here place f d less =
    let P : ℕ → SpanSet → Type 0 = λ j s. (g : Field) → IsBeginning hook (get_or all_fields j g) s in
    set_next P sets k v (omega arith) (λ j s lt' g. below j g s lt') here place d less f

-- ---- the parts that leave a box

some_lack : (box : List SpanSet) (numbers : List ℕ) (n : ℕ) → ((k : ℕ) → k < n → has_at box numbers k ≡ true) ⊎ ((at : ℕ) × (at < n) × LeavesAt at box numbers)
some_lack box numbers zero = inl (λ k lt. absurd (omega (arith, lt)))
some_lack box numbers (suc n) =
    elim (some_lack box numbers n) [
      | inr found ↦ inr (found.0, omega (arith, found.1), found.2)
      | inl below ↦ elim (cases_Bool (has_at box numbers n)) [
        | inl t ↦ inl (λ k lt. below_more (λ j. has_at box numbers j ≡ true) n below t k (omega (arith, lt)))
        | inr f ↦ inr (n, omega arith, record { before = below; here = f })
      ]
    ]

-- numbers that a box hasn't leave it somewhere
pub leaves_somewhere : (box : List SpanSet) (numbers : List ℕ) → (Has box numbers → ⊥) → (at : ℕ) × (at < FIELDS) × LeavesAt at box numbers
leaves_somewhere box numbers lacks =
    elim (some_lack box numbers FIELDS) [ inl all ↦ absurd (lacks (record { each = from_places box numbers all })) | inr found ↦ found ]

pub takes_at : (at : ℕ) (b : Bool) → takes at at b ≡ not b
takes_at at b = ap (λ t. cond t b (cond (eqb at at) (not b) true)) (le-ltb at at (omega arith)) ∙ ap (λ t. cond t (not b) true) (eq-eqb at at refl)

pub takes_after : (at k : ℕ) (b : Bool) → at < k → takes at k b ≡ true
takes_after at k b lt = let ne : k ≢ at = omega (arith, lt) in ap (λ t. cond t b (cond (eqb k at) (not b) true)) (le-ltb k at (omega (arith, lt))) ∙ ap (λ t. cond t (not b) true) (ne_eqb k at ne)

-- they are in the part that leaves it there
pub in_part : (at : ℕ) (own other part : List SpanSet) (numbers : List ℕ) → IsBox own → IsPart at own other part → IsPoint numbers → Has own numbers → LeavesAt at other numbers → Has part numbers
in_part at own other part numbers is h point there leaves = record {
  each = from_places part numbers (λ k lt.
      part_at at own other part is h numbers k point lt ∙ and_from (has_at own numbers k) (takes at k (has_at other numbers k)) (at_place own numbers k lt there.each) (taken k));
}
  where
    taken : (k : ℕ) → takes at k (has_at other numbers k) ≡ true
    taken k = elim (cases_lt k at) [
      | inl before ↦ takes_below at k (has_at other numbers k) before ∙ leaves.before k before
      | inr later ↦ elim (cases_eq k at) [
        | inl same ↦ (
            let P : ℕ → Type 0 = λ j. takes at j (has_at other numbers j) ≡ true in
            subst P (sym same) (takes_at at (has_at other numbers at) ∙ ap not leaves.here))
        | inr ne ↦ takes_after at k (has_at other numbers k) (omega (arith, later, ne))
      ]
    ]

-- it has only numbers of the box, and none of the other one
pub part_only : (at : ℕ) (own other part : List SpanSet) (numbers : List ℕ) → IsBox own → at < FIELDS → IsPart at own other part → IsPoint numbers → Has part numbers → Has own numbers × (Has other numbers → ⊥)
part_only at own other part numbers is lt h point there = (record { each = from_places own numbers (λ k less. (both k less).0) }, λ gone. true≢false (sym (at_place other numbers at lt gone.each) ∙ lacks))
  where
    both : (k : ℕ) → k < FIELDS → (has_at own numbers k ≡ true) × (takes at k (has_at other numbers k) ≡ true)
    both k less = and_parts (has_at own numbers k) (takes at k (has_at other numbers k)) (sym (part_at at own other part is h numbers k point less) ∙ at_place part numbers k less there.each)

    lacks : has_at other numbers at ≡ false
    lacks = elim (cases_Bool (has_at other numbers at)) [
      | inl t ↦ absurd (true≢false (sym (sym (takes_at at (has_at other numbers at)) ∙ (both at lt).1) ∙ ap not t))
      | inr f ↦ f
    ]

-- where a set is part of the other one, nothing leaves there
pub nothing_left : (at : ℕ) (own other : List SpanSet) (a b : SpanSet) (numbers : List ℕ) → IsBox own → IsBox other → at < FIELDS → a ≡ get_or own at a → b ≡ get_or other at b
    → ((x : ℕ) → has a.intervals x ≡ true → has b.intervals x ≡ true) → Has own numbers → LeavesAt at other numbers → ⊥
nothing_left at own other a b numbers is too lt ia ib part there leaves =
    let x : ℕ = slice_index numbers at in
    let first : has a.intervals x ≡ true = ap (λ (s : SpanSet). has s.intervals x) (ia ∙ get_or_default own at a no_set (omega (arith, lt, box_long own is))) ∙ at_place own numbers at lt there.each in
    let second : has b.intervals x ≡ false = ap (λ (s : SpanSet). has s.intervals x) (ib ∙ get_or_default other at b no_set (omega (arith, lt, box_long other too))) ∙ leaves.here in
    true≢false (sym (part x first) ∙ second)

-- what leaves at each of the last so many places, and at the one before them, is in some part
pub parts_next : (other own : List SpanSet) (old new : List (List SpanSet)) (done : ℕ) → done < FIELDS → ((numbers : List ℕ) → IsInSome old numbers → IsInSome new numbers)
    → ((numbers : List ℕ) → IsPoint numbers → Has own numbers → LeavesAt (FIELDS - 1 - done) other numbers → IsInSome new numbers)
    → ((numbers : List ℕ) (k : ℕ) → k < FIELDS → FIELDS ≤ k + done → IsPoint numbers → Has own numbers → LeavesAt k other numbers → IsInSome old numbers)
    → (numbers : List ℕ) (k : ℕ) → k < FIELDS → FIELDS ≤ k + (done + 1) → IsPoint numbers → Has own numbers → LeavesAt k other numbers → IsInSome new numbers
parts_next other own old new done within kept added last numbers k lt le point has leaves =
    elim (cases_eq k (FIELDS - 1 - done)) [
      | inl same ↦ (let P : ℕ → Type 0 = λ j. LeavesAt j other numbers in added numbers point has (subst P same leaves))
      | inr ne ↦ kept numbers (last numbers k lt (omega (arith, lt, le, ne, within)) point has leaves)
    ]

-- numbers of some boxes, of which one is taken out, are in it or in those that are left
pub some_left : (boxes left : List (List SpanSet)) (box : List SpanSet) (numbers : List ℕ) → boxes ≡ left ++ box ∷ [] → IsInSome boxes numbers → IsInSome left numbers ⊎ Has box numbers
some_left boxes left box numbers e a =
    elim (Contains-push_cases left box a.0 (rw e at a.1)) [ inl c ↦ inl (a.0, c, a.2) | inr same ↦ inr (rw (← same) at a.2) ]

pub none_in : (boxes : List (List SpanSet)) (numbers : List ℕ) → boxes ≡ [] → IsInSome boxes numbers → ⊥
none_in boxes numbers e some = absurd (omega (arith, some.1.1, ap (λ (bs : List (List SpanSet)). length bs) e))

-- ---- what a rule makes of a box

-- a rule that matches all of a box leaves nothing outside
pub whole_cut : (rule : Rule) (box : List SpanSet) → MatchesAll rule box → IsCut rule box box []
whole_cut rule box all = record {
  matched = λ numbers point has m. has;
  others = λ numbers point has un. absurd (true≢false (sym (all numbers point has) ∙ un));
  only = λ numbers point has. (has, all numbers point has);
  rest = λ numbers point some. absurd (none_in [] numbers refl some);
}

-- it matches all of a box that lies in its own, if it asks no two fields at once
pub all_of_box : (rule : Rule) (area box : List SpanSet) → IsBoxOf rule box → ((numbers : List ℕ) → IsPoint numbers → Has area numbers → Has box numbers)
    → ((numbers : List ℕ) → cross numbers rule ≡ true) → MatchesAll rule area
all_of_box rule area box is inside holds = λ numbers point here.
    and_from (allows_each numbers rule) (cross numbers rule) (sym (box_of_rule rule box numbers is point) ∙ (inside numbers point here).each) (holds numbers)

pub has_of_rule : (rule : Rule) (box : List SpanSet) (numbers : List ℕ) → IsBoxOf rule box → IsPoint numbers → matches numbers rule ≡ true → Has box numbers
has_of_rule rule box numbers is point m = record { each = box_of_rule rule box numbers is point ∙ (and_parts (allows_each numbers rule) (cross numbers rule) m).0 }

pub apart_of : (rule : Rule) (area box : List SpanSet) → IsBoxOf rule box → ((numbers : List ℕ) → IsPoint numbers → Has area numbers → Has box numbers → ⊥) → IsApart rule area
apart_of rule area box is none = record {
  none = λ numbers point has.
      elim (cases_Bool (matches numbers rule)) [ inl m ↦ absurd (none numbers point has (has_of_rule rule box numbers is point m)) | inr f ↦ f ];
}

module _ (rule : Rule) (area box inside : List SpanSet) (is : IsBoxOf rule box) (both : IsBoth area box inside) where
  -- a packet that isn't inside is not in the rule's box, and one that is has what the rule allows
  by_box : (numbers : List ℕ) → IsPoint numbers → Has area numbers → (Has inside numbers × (allows_each numbers rule ≡ true)) ⊎ ((Has box numbers → ⊥) × (allows_each numbers rule ≡ false))
  by_box numbers point has =
      elim (cases_Bool (allows_each numbers rule)) [
        | inl t ↦ inl (both.all numbers point has (record { each = box_of_rule rule box numbers is point ∙ t }), t)
        | inr f ↦ inr (λ h. true≢false (sym (sym (box_of_rule rule box numbers is point) ∙ h.each) ∙ f), f)
      ]

  -- a rule that fails all that are inside matches none
  pub fails_all : ((numbers : List ℕ) → IsPoint numbers → Has inside numbers → cross numbers rule ≡ false) → IsApart rule area
  fails_all fails = record {
    none = λ numbers point has.
        elim (by_box numbers point has) [
          | inl here ↦ ap (λ b. b && cross numbers rule) here.1 ∙ fails numbers point here.0
          | inr out ↦ ap (λ b. b && cross numbers rule) out.1
        ];
  }

  module _ (outside : List (List SpanSet)) (out : (numbers : List ℕ) → IsPoint numbers → Has area numbers → (Has box numbers → ⊥) → IsInSome outside numbers)
      (left : (numbers : List ℕ) → IsPoint numbers → IsInSome outside numbers → Has area numbers × (Has box numbers → ⊥)) where
    -- the rule matches none that is outside
    unmatched : (numbers : List ℕ) → IsPoint numbers → IsInSome outside numbers → Has area numbers × (matches numbers rule ≡ false)
    unmatched numbers point some =
        let own = left numbers point some in
        let none : matches numbers rule ≡ false = elim (by_box numbers point own.0) [
          | inl here ↦ absurd (own.1 (both.second numbers point here.0))
          | inr gone ↦ ap (λ b. b && cross numbers rule) gone.1
        ] in
        (own.0, none)

    pub cut_of : ((numbers : List ℕ) → IsPoint numbers → Has inside numbers → cross numbers rule ≡ true) → IsCut rule area inside outside
    cut_of holds = record {
      matched = λ numbers point has m. both.all numbers point has (has_of_rule rule box numbers is point m);
      others = λ numbers point has m.
          elim (by_box numbers point has) [
            | inl here ↦ absurd (true≢false (sym (ap (λ b. b && cross numbers rule) here.1 ∙ holds numbers point here.0) ∙ m))
            | inr gone ↦ out numbers point has gone.0
          ];
      only = λ numbers point here. (
        both.first numbers point here,
        and_from (allows_each numbers rule) (cross numbers rule) (sym (box_of_rule rule box numbers is point) ∙ (both.second numbers point here).each) (holds numbers point here),
      );
      rest = unmatched;
    }

    pub parted_of : (again : List (List SpanSet)) → ((numbers : List ℕ) → IsPoint numbers → Has inside numbers → IsInSome again numbers) → ((numbers : List ℕ) → IsPoint numbers → IsInSome again numbers → Has inside numbers)
        → IsPartedFor rule area again outside
    parted_of again parts whole = record {
      matched = λ numbers point has m. parts numbers point (both.all numbers point has (has_of_rule rule box numbers is point m));
      others = λ numbers point has m.
          elim (by_box numbers point has) [ inl here ↦ inl (parts numbers point here.0) | inr gone ↦ inr (out numbers point has gone.0) ];
      only = λ numbers point some. both.first numbers point (whole numbers point some);
      rest = unmatched;
    }

-- numbers that are in one of two boxes, which were put into a list one after the other
pub two_parts : (numbers : List ℕ) (one other : List SpanSet) (none first both : List (List SpanSet)) → none ≡ [] → first ≡ none ++ one ∷ [] → both ≡ first ++ other ∷ [] → Has one numbers ⊎ Has other numbers → IsInSome both numbers
two_parts numbers one other none first both n f b h =
    let is : both ≡ one ∷ other ∷ [] = b ∙ ap (λ (bs : List (List SpanSet)). bs ++ other ∷ []) (f ∙ ap (λ (bs : List (List SpanSet)). bs ++ one ∷ []) n) in
    rw is (elim h [ inl l ↦ (one, (0, omega arith, refl), l) | inr r ↦ (other, (1, omega arith, refl), r) ])

-- and no others are in these
pub two_only : (numbers : List ℕ) (one other : List SpanSet) (none first both : List (List SpanSet)) → none ≡ [] → first ≡ none ++ one ∷ [] → both ≡ first ++ other ∷ [] → IsInSome both numbers → Has one numbers ⊎ Has other numbers
two_only numbers one other none first both n f b some =
    elim (some_left both first other numbers b some) [
      | inr second ↦ inr second
      | inl before ↦ elim (some_left first none one numbers f before) [ inl nowhere ↦ absurd (none_in none numbers n nowhere) | inr here ↦ inl here ]
    ]

-- what is said of a test of the ports in a box is said of the box's packets
pub in_ports : (box : List SpanSet) (source destination : SpanSet) (numbers : List ℕ) → source.top ≡ top field.SourcePort → source.intervals ≡ set_on field.SourcePort box
    → destination.top ≡ top field.DestinationPort → destination.intervals ≡ set_on field.DestinationPort box → IsPoint numbers → Has box numbers → HavePorts source destination numbers
in_ports box source destination numbers from at to there point here = record {
  from = (omega (arith, point field.SourcePort, from), ap (λ (ss : List Interval). has ss (number_on numbers field.SourcePort)) at ∙ on_field box numbers field.SourcePort here.each);
  to = (omega (arith, point field.DestinationPort, to), ap (λ (ss : List Interval). has ss (number_on numbers field.DestinationPort)) there ∙ on_field box numbers field.DestinationPort here.each);
}

pub begun_here : (hook : Hook) (k : ℕ) (f : Field) (v : SpanSet) → k < FIELDS → IsBeginning hook (get_or all_fields k field.Source) v → IsBeginning hook (get_or all_fields k f) v
begun_here hook k f v lt h = let P : Field → Type 0 = λ g. IsBeginning hook g v in subst P (get_or_default all_fields k field.Source f lt) h
