-- Conditions and their numbers.
use Rattle.std.proofs.Common.{◌≡◌, ◌⊎◌, inl, inr, ℕ, zero, suc, ◌+◌, ◌<◌, Bool, true, false, ◌&&◌, ◌||◌, ◌==◌, cond, List, [], ◌∷◌, ◌++◌, length, take, drop, get_or, map, Option, None, Some, option_map, MatchOption, refl, sym, ap, subst, ◌∙◌, arith, add-zero, zero-add, append_assoc}
use Rattle.std.proofs.lemmas.Bool.{cases_order}
use Rattle.std.proofs.lemmas.List.Elements.{All-nil, All-cons, filter-append}
use Rattle.std.specs.Bool.{Decides}
use Rattle.std.specs.List.{list_any, slice_get, filter, flat_map, IsDistinct}
use Rattle.std.specs.Str.{bytes_eq}
use Rattle.std.specs.Global.{Vec}
use Rattle.std.specs.declared.cmp.Ordering.{Ordering}
use Rattle.std.specs.declared.cmp.Ordering.TheVariants.{Less, Equal, Greater}
use Rattle.std.specs.Ordering.{is_eq, nat_cmp, ordering_then}
use Rattle.std.specs.Cmp.Lexicographic.{slice_cmp}
use Rattle.std.specs.Option.{option_cmp, unwrap_or}
use Rattle.std.specs.BTreeMap.{BTreeMap, get, is_at}
use Rattle.std.proofs.lemmas.Cmp.{nat_list_cmp_total, tied_itself}
use Rattle.std.proofs.lemmas.Map.Lookups.{exact_bytes}
use Rattle.std.proofs.lemmas.Slice.Eq.{bytes_eq-Decides}
use Rattle.std.proofs.lemmas.Bool.Decides.{same_from_decides, Decides-eqb, nat_tests}
use Rattle.std.proofs.lemmas.List.{take_more, drop_more, map_push, map-append, append-nil, length-append}
use Rattle.std.proofs.lemmas.List.Concat.{flat_map-append}
use Rattle.std.proofs.lemmas.List.Sums.{sum_by-append}
use Rattle.std.proofs.lemmas.List.Folds.{list_any-append}
use Rattle.std.proofs.lemmas.Map.Keys.{IsDistinct-push, apart_from_distinct}
use Rattle.std.specs.Cmp.{IsEquivalence}
use Rattle.std.specs.Map.{lookup}
use Rattle.dumps.specs.Foreign.{Needed, ReadRule, is_in, needed_in, needs_in, rule_in, inversions, inversions_of}
use Rattle.dumps.specs.Views.{inversions_in, all_inversions_in, identity_in, key_place_in, text_cmp, place_cmp, key_cmp, IsIndex, count_in, AreCounts, numbers_of, numbers_in, needs_within, AreNeedsNumbered, AreNumberedSoFar}
use Rattle.dumps.specs.declared.reading.foreign.NeededText.{NeededText}
use Rattle.dumps.specs.declared.reading.foreign.ForeignRule.{ForeignRule}
use Rattle.dumps.specs.Numbers.{Identity, Asked, Place, Numbers, identity_of, identities, is_one, is_one_place, has, with_one, with_all, added, identity_at, told, asked, asked_by_rule, asked_from, in_one_list, count_of, is_of_place, AreApart, AreOfOnePlace, place_identity, OneNumberIsOneCondition, NumbersStay, EachHasNumber, NumbersTellConditions}
use Rattle.dumps.specs.declared.conditions.ForeignNeed.{ForeignNeed}
use Rattle.dumps.specs.declared.conditions.Key.{Key}

-- the index's order tells the identities apart
eq-then : (o p : Ordering) → is_eq (ordering_then o p) ≡ (is_eq o && is_eq p)
eq-then Less p = refl
eq-then Equal p = refl
eq-then Greater p = refl

bytes-decided : (xs ys : List ℕ) → Decides (is_eq (slice_cmp nat_cmp xs ys)) (xs ≡ ys)
bytes-decided xs ys = (λ e. exact_bytes xs ys (is (slice_cmp nat_cmp xs ys) e), λ e. ap is_eq (ap (slice_cmp nat_cmp xs) (sym e) ∙ tied_itself nat_list_cmp_total xs))
  where
    is : (o : Ordering) → is_eq o ≡ true → o ≡ Equal
    is Less e = cc
    is Equal e = refl
    is Greater e = cc

bytes-eq : (xs ys : List ℕ) → is_eq (slice_cmp nat_cmp xs ys) ≡ bytes_eq xs ys
bytes-eq xs ys = same_from_decides (is_eq (slice_cmp nat_cmp xs ys)) (bytes_eq xs ys) (bytes-decided xs ys) (bytes_eq-Decides xs ys)

nat-eq : (m n : ℕ) → is_eq (nat_cmp m n) ≡ (m == n)
nat-eq m n = grind (arith, nat_tests)

place-eq : (p q : Option (Vec ℕ × ℕ)) → is_eq (option_cmp place_cmp p q) ≡ is_one_place (key_place_in p) (key_place_in q)
place-eq None None = refl
place-eq None (Some q) = refl
place-eq (Some p) None = refl
place-eq (Some p) (Some q) =
    eq-then (slice_cmp nat_cmp p.0.items q.0.items) (nat_cmp p.1 q.1)
    ∙ ap (λ t. t && is_eq (nat_cmp p.1 q.1)) (bytes-eq p.0.items q.0.items)
    ∙ ap (λ t. bytes_eq p.0.items q.0.items && t) (nat-eq p.1 q.1)

pub key-eq : (a b : Key) → is_eq (key_cmp a b) ≡ is_one (identity_in a) (identity_in b)
key-eq a b =
    eq-then (slice_cmp nat_cmp a.text.items b.text.items) (option_cmp place_cmp a.place b.place)
    ∙ ap (λ t. t && is_eq (option_cmp place_cmp a.place b.place)) (bytes-eq a.text.items b.text.items)
    ∙ ap (λ t. bytes_eq a.text.items b.text.items && t) (place-eq a.place b.place)

-- `is_one` says that two identities are the same
and_true : (a b : Bool) → (a && b) ≡ true → (a ≡ true) × (b ≡ true)
and_true true b e = (refl, e)
and_true false b e = absurd (cc)

or_right : (a b : Bool) → b ≡ true → (a || b) ≡ true
or_right true b e = refl
or_right false b e = e

both_true : (a b : Bool) → a ≡ true → b ≡ true → (a && b) ≡ true
both_true a b e f = ap (λ t. t && b) e ∙ f

place-is : (p q : Option (List ℕ × ℕ)) → is_one_place p q ≡ true → p ≡ q
place-is None None e = refl
place-is None (Some q) e = absurd (cc)
place-is (Some p) None e = absurd (cc)
place-is (Some p) (Some q) e =
    let (chain, count) = and_true (bytes_eq p.0 q.0) (p.1 == q.1) e in
    let chain_is : p.0 ≡ q.0 = (bytes_eq-Decides p.0 q.0).0 chain in
    let count_is : p.1 ≡ q.1 = (Decides-eqb p.1 q.1).0 count in
    ap (λ (c : List ℕ). Some (c, p.1)) chain_is ∙ ap (λ (n : ℕ). Some (q.0, n)) count_is

place-itself : (p : Option (List ℕ × ℕ)) → is_one_place p p ≡ true
place-itself None = refl
place-itself (Some p) = both_true (bytes_eq p.0 p.0) (p.1 == p.1) ((bytes_eq-Decides p.0 p.0).1 refl) ((Decides-eqb p.1 p.1).1 refl)

pub is-one : (a b : Identity) → is_one a b ≡ true → a ≡ b
is-one a b e =
    let (text, place) = and_true (bytes_eq a.text b.text) (is_one_place a.place b.place) e in
    let text_is : a.text ≡ b.text = (bytes_eq-Decides a.text b.text).0 text in
    ap (λ (t : List ℕ). let x : Identity = record { text = t; place = a.place } in x) text_is
    ∙ ap (λ (p : Option (List ℕ × ℕ)). let x : Identity = record { text = b.text; place = p } in x) (place-is a.place b.place place)

pub one-itself : (a : Identity) → is_one a a ≡ true
one-itself a = both_true (bytes_eq a.text a.text) (is_one_place a.place a.place) ((bytes_eq-Decides a.text a.text).1 refl) (place-itself a.place)

one-decided : (a b : Identity) → Decides (is_one a b) (a ≡ b)
one-decided a b = (is-one a b, λ e. ap (is_one a) (sym e) ∙ one-itself a)

one-equivalent : IsEquivalence is_one
one-equivalent =
    record {
      refl = one-itself;
      symm = λ a b. same_from_decides (is_one a b) (is_one b a) (one-decided a b) (λ e. sym (is-one b a e), λ e. ap (is_one b) e ∙ one-itself b);
      congr = λ a b c e. ap (λ (x : Identity). is_one x c) (is-one a b e);
    }

-- numbers stay where conditions are added behind
pub at-more : (all more : List Asked) (n : ℕ) (id : Identity) → identity_at all n ≡ Some id → identity_at (all ++ more) n ≡ Some id
at-more [] more n id e = absurd (cc)
at-more (x ∷ xs) more zero id e = e
at-more (x ∷ xs) more (suc n) id e = at-more xs more n id e

at-last : (all : List Asked) (one : Asked) → identity_at (all ++ one ∷ []) (length all) ≡ Some (identity_of one)
at-last [] one = refl
at-last (x ∷ xs) one = at-last xs one

has-pushed : (all : List Asked) (one : Asked) (id : Identity) → has all id ≡ false → is_one id (identity_of one) ≡ false → has (all ++ one ∷ []) id ≡ false
has-pushed all one id e f =
    ap (list_any (is_one id)) (map_push identity_of all one)
    ∙ list_any-append (is_one id) (identities all) (identity_of one ∷ [])
    ∙ ap (λ t. t || (is_one id (identity_of one) || false)) e
    ∙ ap (λ t. t || false) f

pub apart-pushed : (all : List Asked) (one : Asked) → AreApart all → has all (identity_of one) ≡ false → AreApart (all ++ one ∷ [])
apart-pushed all one apart new =
    subst (IsDistinct is_one) (sym (map_push identity_of all one)) (IsDistinct-push one-equivalent (identities all) (identity_of one) apart new)

found-pushed : (all : List Asked) (one : Asked) (id : Identity) (before : Option ℕ)
    → MatchOption before (has all id ≡ false) (λ n. identity_at all n ≡ Some id)
    → MatchOption (cond (is_one (identity_of one) id) (Some (length all)) before) (has (all ++ one ∷ []) id ≡ false) (λ n. identity_at (all ++ one ∷ []) n ≡ Some id)
found-pushed all one id before h = go (is_one (identity_of one) id) refl
  where
    found : Option ℕ → Type 0
    found at = MatchOption at (has (all ++ one ∷ []) id ≡ false) (λ n. identity_at (all ++ one ∷ []) n ≡ Some id)

    old : (at : Option ℕ) → MatchOption at (has all id ≡ false) (λ n. identity_at all n ≡ Some id) → is_one (identity_of one) id ≡ false → found at
    old None h f = has-pushed all one id h (one-equivalent.symm id (identity_of one) ∙ f)
    old (Some n) h f = at-more all (one ∷ []) n id h

    go : (t : Bool) → is_one (identity_of one) id ≡ t → found (cond t (Some (length all)) before)
    go true e = at-last all one ∙ ap (λ (x : Identity). Some x) (is-one (identity_of one) id e)
    go false e = old before h e

-- an index of conditions, and of one more
pub index_pushed : (old new : BTreeMap Key ℕ) (all : List Asked) (one : Asked) (key : Key) → IsIndex old all → identity_of one ≡ identity_in key → has all (identity_in key) ≡ false
    → ((q : Key) → get key_cmp new q ≡ cond (is_at (key_cmp key) q) (Some (length all)) (get key_cmp old q)) → IsIndex new (all ++ one ∷ [])
index_pushed old new all one key index same fresh puts =
    record {
      found = λ q.
          subst (λ at. MatchOption at (has (all ++ one ∷ []) (identity_in q) ≡ false) (λ n. identity_at (all ++ one ∷ []) n ≡ Some (identity_in q)))
          (sym (puts q ∙ ap (λ t. cond t (Some (length all)) (get key_cmp old q)) (key-eq key q ∙ ap (λ (x : Identity). is_one x (identity_in q)) (sym same))))
          (found-pushed all one (identity_in q) (get key_cmp old q) (index.found q));
      apart = apart-pushed all one index.apart (ap (has all) same ∙ fresh);
    }

pub index_empty : (numbers : BTreeMap Key ℕ) → numbers.entries ≡ [] → IsIndex numbers []
unfolding IsDistinct
index_empty numbers e =
    record {
      found = λ key. subst (λ at. MatchOption at (has [] (identity_in key) ≡ false) (λ n. identity_at [] n ≡ Some (identity_in key))) (sym (ap (lookup (is_at (key_cmp key))) e)) refl;
      apart = tt;
    }

-- what a search in the index found
pub index_found : (numbers : BTreeMap Key ℕ) (all : List Asked) (key : Key) (at : Option ℕ) → IsIndex numbers all → at ≡ get key_cmp numbers key
    → MatchOption at (has all (identity_in key) ≡ false) (λ n. identity_at all n ≡ Some (identity_in key))
index_found numbers all key at index e =
    subst (λ at. MatchOption at (has all (identity_in key) ≡ false) (λ n. identity_at all n ≡ Some (identity_in key))) (sym e) (index.found key)

-- an index with the same entries
pub index_same : (old new : BTreeMap Key ℕ) (all : List Asked) → new.entries ≡ old.entries → IsIndex old all → IsIndex new all
index_same old new all e index =
    record {
      found = λ key.
          subst (λ at. MatchOption at (has all (identity_in key) ≡ false) (λ n. identity_at all n ≡ Some (identity_in key)))
          (sym (ap (lookup (is_at (key_cmp key))) e)) (index.found key);
      apart = index.apart;
    }

-- a count of one text more
pub counts_more : (old new : BTreeMap (Vec ℕ) ℕ) (text : Vec ℕ) (n : ℕ) → n ≡ count_in old text + 1
    → ((q : Vec ℕ) → get text_cmp new q ≡ cond (is_at (text_cmp text) q) (Some n) (get text_cmp old q))
    → (other : Vec ℕ) → count_in new other ≡ count_in old other + cond (bytes_eq text.items other.items) 1 0
counts_more old new text n more puts other = go (bytes_eq text.items other.items) refl
  where
    at : count_in new other ≡ unwrap_or (cond (bytes_eq text.items other.items) (Some n) (get text_cmp old other)) 0
    at = ap (λ (o : Option ℕ). unwrap_or o 0) (puts other ∙ ap (λ t. cond t (Some n) (get text_cmp old other)) (bytes-eq text.items other.items))

    same : text.items ≡ other.items → count_in old text ≡ count_in old other
    same e = ap (λ (items : List ℕ). unwrap_or (lookup (λ (k : Vec ℕ). is_eq (slice_cmp nat_cmp items k.items)) old.entries) 0) e

    go : (t : Bool) → bytes_eq text.items other.items ≡ t → count_in new other ≡ count_in old other + cond (bytes_eq text.items other.items) 1 0
    go true e =
        at ∙ ap (λ t. unwrap_or (cond t (Some n) (get text_cmp old other)) 0) e ∙ more
        ∙ ap (λ m. m + 1) (same ((bytes_eq-Decides text.items other.items).0 e)) ∙ ap (λ t. count_in old other + cond t 1 0) (sym e)
    go false e =
        at ∙ ap (λ t. unwrap_or (cond t (Some n) (get text_cmp old other)) 0) e
        ∙ sym (add-zero (count_in old other)) ∙ ap (λ t. count_in old other + cond t 1 0) (sym e)

-- a map of counts after one need more, where it is counted
pub counts_pushed : (sets : List (List ℕ)) (before : List Needed) (need : Needed) (old new : BTreeMap (Vec ℕ) ℕ) → is_of_place sets need ≡ true
    → ((other : Vec ℕ) → count_in new other ≡ count_in old other + cond (bytes_eq need.text other.items) 1 0)
    → AreCounts sets before old → AreCounts sets (before ++ need ∷ []) new
counts_pushed sets before need old new placed more h other =
    more other
    ∙ ap (λ n. n + cond (bytes_eq need.text other.items) 1 0) (h other)
    ∙ ap (λ n. count_of sets other.items before + n) (sym (zero-add (cond (bytes_eq need.text other.items) 1 0)) ∙ ap (λ t. 0 + cond (t && bytes_eq need.text other.items) 1 0) (sym placed))
    ∙ sym (sum_by-append (λ (n : Needed). cond (is_of_place sets n && bytes_eq n.text other.items) 1 0) before (need ∷ []))

-- and where it isn't
pub counts_stay : (sets : List (List ℕ)) (before : List Needed) (need : Needed) (counts : BTreeMap (Vec ℕ) ℕ) → is_of_place sets need ≡ false
    → AreCounts sets before counts → AreCounts sets (before ++ need ∷ []) counts
counts_stay sets before need counts placed h other =
    h other ∙ sym (add-zero (count_of sets other.items before))
    ∙ ap (λ t. count_of sets other.items before + (0 + cond (t && bytes_eq need.text other.items) 1 0)) (sym placed)
    ∙ sym (sum_by-append (λ (n : Needed). cond (is_of_place sets n && bytes_eq n.text other.items) 1 0) before (need ∷ []))

pub counts_none : (sets : List (List ℕ)) (counts : BTreeMap (Vec ℕ) ℕ) → counts.entries ≡ [] → AreCounts sets [] counts
counts_none sets counts e other = ap (λ (es : List (Vec ℕ × ℕ)). unwrap_or (lookup (is_at (text_cmp other)) es) 0) e

-- a condition that has a number is there
pub has-at : (all : List Asked) (n : ℕ) (id : Identity) → identity_at all n ≡ Some id → has all id ≡ true
has-at [] n id e = absurd (cc)
has-at (x ∷ xs) zero id e =
    let same : identity_of x ≡ id = (cc) in
    ap (λ (i : Identity). is_one id i || has xs id) same ∙ ap (λ t. t || has xs id) (one-itself id)
has-at (x ∷ xs) (suc n) id e = or_right (is_one id (identity_of x)) (has xs id) (has-at xs n id e)

pub added_there : (old : Numbers) (one : Asked) (n : ℕ) → identity_at old.all n ≡ told one → old ≡ added old (one ∷ [])
added_there old one n e =
    ap (λ t. let x : Numbers = record { sets = old.sets; all = cond t old.all (old.all ++ one ∷ []) } in x) (sym (has-at old.all n (identity_of one) e))

-- one after others
with_all_both : (all a b : List Asked) → with_all all (a ++ b) ≡ with_all (with_all all a) b
with_all_both all [] b = refl
with_all_both all (x ∷ a) b = with_all_both (with_one all x) a b

pub added_both : (old : Numbers) (a b : List Asked) → added old (a ++ b) ≡ added (added old a) b
added_both old a b = ap (λ (l : List Asked). let x : Numbers = record { sets = old.sets; all = l } in x) (with_all_both old.all a b)

with_one-stays : (all : List Asked) (one : Asked) (n : ℕ) (id : Identity) → identity_at all n ≡ Some id → identity_at (with_one all one) n ≡ Some id
with_one-stays all one n id e = go (has all (identity_of one))
  where
    go : (t : Bool) → identity_at (cond t all (all ++ one ∷ [])) n ≡ Some id
    go true = e
    go false = at-more all (one ∷ []) n id e

with_all-stays : (all more : List Asked) (n : ℕ) (id : Identity) → identity_at all n ≡ Some id → identity_at (with_all all more) n ≡ Some id
with_all-stays all [] n id e = e
with_all-stays all (x ∷ more) n id e = with_all-stays (with_one all x) more n id (with_one-stays all x n id e)

-- numbers stand for what they stood for
pub each-stays : (all more : List Asked) (numbers : List ℕ) (ones : List Asked) → map (identity_at all) numbers ≡ map told ones → map (identity_at (with_all all more)) numbers ≡ map told ones
each-stays all more [] [] e = refl
each-stays all more [] (x ∷ xs) e = absurd (cc)
each-stays all more (n ∷ ns) [] e = absurd (cc)
each-stays all more (n ∷ ns) (x ∷ xs) e =
    let first : identity_at all n ≡ told x = (cc) in
    let rest : map (identity_at all) ns ≡ map told xs = (cc) in
    ap (λ (o : Option Identity). o ∷ map (identity_at (with_all all more)) ns) (with_all-stays all more n (identity_of x) first)
    ∙ ap (λ (l : List (Option Identity)). told x ∷ l) (each-stays all more ns xs rest)

all-stay : (all more : List Asked) (numbers : List (List ℕ)) (ones : List (List Asked)) → map (map (identity_at all)) numbers ≡ map (map told) ones
    → map (map (identity_at (with_all all more))) numbers ≡ map (map told) ones
all-stay all more [] [] e = refl
all-stay all more [] (x ∷ xs) e = absurd (cc)
all-stay all more (n ∷ ns) [] e = absurd (cc)
all-stay all more (n ∷ ns) (x ∷ xs) e =
    let first : map (identity_at all) n ≡ map told x = (cc) in
    let rest : map (map (identity_at all)) ns ≡ map (map told) xs = (cc) in
    ap (λ (o : List (Option Identity)). o ∷ map (map (identity_at (with_all all more))) ns) (each-stays all more n x first)
    ∙ ap (λ (l : List (List (Option Identity))). map told x ∷ l) (all-stay all more ns xs rest)

-- the needs of a rule, some after others
asked-both : (sets : List (List ℕ)) (chain : List ℕ) (rule : ℕ) (before a b : List Needed)
    → asked_by_rule sets chain rule before (a ++ b) ≡ asked_by_rule sets chain rule before a ++ asked_by_rule sets chain rule (before ++ a) b
asked-both sets chain rule before [] b = ap (λ (l : List Needed). asked_by_rule sets chain rule l b) (sym (append-nil before))
asked-both sets chain rule before (x ∷ a) b =
    ap (λ (l : List Asked). asked sets chain rule before x ∷ l)
    (asked-both sets chain rule (before ++ x ∷ []) a b
    ∙ ap (λ (l : List Needed). asked_by_rule sets chain rule (before ++ x ∷ []) a ++ asked_by_rule sets chain rule l b) (append_assoc before (x ∷ []) a))

sets-added : (old new : Numbers) (more : List Asked) → new ≡ added old more → new.sets ≡ old.sets
sets-added old new more e = ap (λ (v : Numbers). v.sets) e

pub needs_both : (chain : List ℕ) (rule : ℕ) (before a b : List Needed) (first mid new : Numbers) (m n : List ℕ)
    → AreNeedsNumbered chain rule before a first mid m → AreNeedsNumbered chain rule (before ++ a) b mid new n
    → AreNeedsNumbered chain rule before (a ++ b) first new (m ++ n)
needs_both chain rule before a b first mid new m n h k =
    let asked_a = asked_by_rule first.sets chain rule before a in
    let asked_b = asked_by_rule first.sets chain rule (before ++ a) b in
    let sets : mid.sets ≡ first.sets = sets-added first mid asked_a h.after in
    let both = asked-both first.sets chain rule before a b in
    let after : new ≡ added mid asked_b = subst (λ (s : List (List ℕ)). new ≡ added mid (asked_by_rule s chain rule (before ++ a) b)) sets k.after in
    let each : map (identity_at new.all) n ≡ map told asked_b = subst (λ (s : List (List ℕ)). map (identity_at new.all) n ≡ map told (asked_by_rule s chain rule (before ++ a) b)) sets k.each in
    let all : new.all ≡ with_all mid.all asked_b = ap (λ (v : Numbers). v.all) after in
    let old_each : map (identity_at new.all) m ≡ map told asked_a = ap (λ (l : List Asked). map (identity_at l) m) all ∙ each-stays mid.all asked_b m asked_a h.each in
    record {
      after = after ∙ ap (λ (v : Numbers). added v asked_b) h.after ∙ sym (added_both first asked_a asked_b) ∙ ap (added first) (sym both);
      each = map-append (identity_at new.all) m n ∙ ap (λ (l : List (Option Identity)). l ++ map (identity_at new.all) n) old_each ∙ ap (λ (l : List (Option Identity)). map told asked_a ++ l) each
          ∙ sym (map-append told asked_a asked_b) ∙ ap (map told) (sym both);
    }

-- the needs of the rules of a chain, and of one rule more
asked_from-more : (sets : List (List ℕ)) (chain : List ℕ) (n : ℕ) (before : List Needed) (rules : List ReadRule) (rule : ReadRule)
    → asked_from sets chain n before (rules ++ rule ∷ [])
    ≡ asked_from sets chain n before rules ++ asked_by_rule sets chain (n + length rules) (before ++ flat_map (λ (r : ReadRule). r.needs) rules) rule.needs ∷ []
asked_from-more sets chain n before [] rule =
    ap (λ (m : ℕ). asked_by_rule sets chain m before rule.needs ∷ []) (sym (add-zero n))
    ∙ ap (λ (l : List Needed). asked_by_rule sets chain (n + 0) l rule.needs ∷ []) (sym (append-nil before))
asked_from-more sets chain n before (r ∷ rules) rule =
    let needs = flat_map (λ (r : ReadRule). r.needs) rules in
    let count : suc n + length rules ≡ n + suc (length rules) = omega arith in
    ap (λ (l : List (List Asked)). asked_by_rule sets chain n before r.needs ∷ l)
    (asked_from-more sets chain (suc n) (before ++ r.needs) rules rule
    ∙ ap (λ (m : ℕ). asked_from sets chain (suc n) (before ++ r.needs) rules ++ asked_by_rule sets chain m ((before ++ r.needs) ++ needs) rule.needs ∷ []) count
    ∙ ap (λ (l : List Needed). asked_from sets chain (suc n) (before ++ r.needs) rules ++ asked_by_rule sets chain (n + suc (length rules)) l rule.needs ∷ []) (append_assoc before r.needs needs))

in_one_list-more : (rules : List (List Asked)) (rule : List Asked) → in_one_list (rules ++ rule ∷ []) ≡ in_one_list rules ++ rule
in_one_list-more rules rule = flat_map-append (λ (r : List Asked). r) rules (rule ∷ []) ∙ ap (λ (l : List Asked). in_one_list rules ++ l) (append-nil rule)

filter-out : (chain : List ℕ) (done : List ReadRule) (rule : ReadRule) → is_in chain rule ≡ false → filter (is_in chain) (done ++ rule ∷ []) ≡ filter (is_in chain) done
filter-out chain done rule e =
    filter-append (is_in chain) done (rule ∷ []) ∙ ap (λ t. filter (is_in chain) done ++ cond t (rule ∷ []) []) e ∙ append-nil (filter (is_in chain) done)

filter-in : (chain : List ℕ) (done : List ReadRule) (rule : ReadRule) → is_in chain rule ≡ true → filter (is_in chain) (done ++ rule ∷ []) ≡ filter (is_in chain) done ++ rule ∷ []
filter-in chain done rule e = filter-append (is_in chain) done (rule ∷ []) ∙ ap (λ t. filter (is_in chain) done ++ cond t (rule ∷ []) []) e

-- one that isn't there
pub added_last : (old : Numbers) (one : Asked) → has old.all (identity_of one) ≡ false → added old (one ∷ []) ≡ (let x : Numbers = record { sets = old.sets; all = old.all ++ one ∷ [] } in x)
added_last old one e = ap (λ t. let x : Numbers = record { sets = old.sets; all = cond t old.all (old.all ++ one ∷ []) } in x) e

pub at-end : (all : List Asked) (one : Asked) (n : ℕ) → n ≡ length all → identity_at (all ++ one ∷ []) n ≡ told one
at-end all one n e = ap (identity_at (all ++ one ∷ [])) e ∙ at-last all one

-- no need so far has a number
pub needs_none : (chain : List ℕ) (rule : ℕ) (before : List Needed) (numbers : Numbers) → AreNeedsNumbered chain rule before [] numbers numbers []
needs_none chain rule before numbers = record { after = refl; each = refl }

-- the rules of a chain so far
pub so_far_none : (chain : List ℕ) (numbers : Numbers) (counts : BTreeMap (Vec ℕ) ℕ) → counts.entries ≡ [] → AreNumberedSoFar chain [] numbers numbers [] counts
so_far_none chain numbers counts e =
    record { numbered = record { after = refl; each = refl }; counted = counts_none numbers.sets counts e; lengths = refl }

-- and a rule of another chain
pub so_far_other : (chain : List ℕ) (done : List ReadRule) (rule : ReadRule) (first now : Numbers) (rules : List (Vec ForeignNeed)) (counts : BTreeMap (Vec ℕ) ℕ)
    → is_in chain rule ≡ false → AreNumberedSoFar chain done first now rules counts → AreNumberedSoFar chain (done ++ rule ∷ []) first now rules counts
so_far_other chain done rule first now rules counts e h =
    let same : filter (is_in chain) done ≡ filter (is_in chain) (done ++ rule ∷ []) = sym (filter-out chain done rule e) in
    record {
      numbered =
          record {
            after = h.numbered.after ∙ ap (λ (l : List ReadRule). added first (in_one_list (asked_from first.sets chain 1 [] l))) same;
            each = h.numbered.each ∙ ap (λ (l : List ReadRule). map (map told) (asked_from first.sets chain 1 [] l)) same;
          };
      counted = λ text. h.counted text ∙ ap (λ (l : List ReadRule). count_of first.sets text.items (flat_map (λ (r : ReadRule). r.needs) l)) same;
      lengths = h.lengths ∙ ap length same;
    }

-- and one of the chain
pub so_far_more : (chain : List ℕ) (done : List ReadRule) (rule : ReadRule) (first mid new : Numbers) (rules : List (Vec ForeignNeed)) (made : Vec ForeignNeed) (old counts : BTreeMap (Vec ℕ) ℕ) (n : ℕ)
    → is_in chain rule ≡ true → n ≡ length rules + 1 → AreNumberedSoFar chain done first mid rules old
    → (AreCounts mid.sets (needs_within chain done) old → AreNeedsNumbered chain n (needs_within chain done) rule.needs mid new (numbers_of made.items))
    → (AreCounts mid.sets (needs_within chain done) old → AreCounts mid.sets (needs_within chain done ++ rule.needs) counts)
    → AreNumberedSoFar chain (done ++ rule ∷ []) first new (rules ++ made ∷ []) counts
so_far_more chain done rule first mid new rules made old counts n e number h numbered counted =
    let before = needs_within chain done in
    let within = filter (is_in chain) done in
    let so_far = asked_from first.sets chain 1 [] within in
    let sets : mid.sets ≡ first.sets = sets-added first mid (in_one_list so_far) h.numbered.after in
    let old_counts : AreCounts mid.sets before old = λ text. h.counted text ∙ ap (λ (s : List (List ℕ)). count_of s text.items before) (sym sets) in
    let k = numbered old_counts in
    let rule_is : n ≡ 1 + length within = number ∙ ap (λ m. m + 1) h.lengths ∙ (let c : length within + 1 ≡ 1 + length within = omega arith in c) in
    let here = asked_by_rule first.sets chain (1 + length within) before rule.needs in
    let here_is : asked_by_rule mid.sets chain n before rule.needs ≡ here =
    ap (λ (s : List (List ℕ)). asked_by_rule s chain n before rule.needs) sets ∙ ap (λ m. asked_by_rule first.sets chain m before rule.needs) rule_is in
    let more : asked_from first.sets chain 1 [] (filter (is_in chain) (done ++ rule ∷ [])) ≡ so_far ++ here ∷ [] =
    ap (asked_from first.sets chain 1 []) (filter-in chain done rule e) ∙ asked_from-more first.sets chain 1 [] within rule in
    let after : new ≡ added mid here = k.after ∙ ap (added mid) here_is in
    let all : new.all ≡ with_all mid.all here = ap (λ (v : Numbers). v.all) after in
    let old_each : map (map (identity_at new.all)) (numbers_in rules) ≡ map (map told) so_far =
    ap (λ (l : List Asked). map (map (identity_at l)) (numbers_in rules)) all ∙ all-stay mid.all here (numbers_in rules) so_far h.numbered.each in
    let each : map (identity_at new.all) (numbers_of made.items) ≡ map told here = k.each ∙ ap (map told) here_is in
    let numbers : numbers_in (rules ++ made ∷ []) ≡ numbers_in rules ++ numbers_of made.items ∷ [] = map_push (λ (r : Vec ForeignNeed). numbers_of r.items) rules made in
    record {
      numbered =
          record {
            after = after ∙ ap (λ (v : Numbers). added v here) h.numbered.after ∙ sym (added_both first (in_one_list so_far) here)
                ∙ ap (added first) (sym (in_one_list-more so_far here)) ∙ ap (λ (l : List (List Asked)). added first (in_one_list l)) (sym more);
            each = ap (map (map (identity_at new.all))) numbers ∙ map_push (map (identity_at new.all)) (numbers_in rules) (numbers_of made.items)
                ∙ ap (λ (l : List (List (Option Identity))). l ++ map (identity_at new.all) (numbers_of made.items) ∷ []) old_each
                ∙ ap (λ (l : List (Option Identity)). map (map told) so_far ++ l ∷ []) each
                ∙ sym (map_push (map told) so_far here) ∙ ap (map (map told)) (sym more);
          };
      counted = λ text.
          counted old_counts text ∙ ap (λ (s : List (List ℕ)). count_of s text.items (before ++ rule.needs)) sets
          ∙ ap (count_of first.sets text.items)
          (ap (λ (l : List Needed). before ++ l) (sym (append-nil rule.needs)) ∙ sym (flat_map-append (λ (r : ReadRule). r.needs) within (rule ∷ []))
          ∙ ap (flat_map (λ (r : ReadRule). r.needs)) (sym (filter-in chain done rule e)));
      lengths = length-append rules (made ∷ []) ∙ ap (λ m. m + 1) h.lengths ∙ sym (length-append within (rule ∷ [])) ∙ ap length (sym (filter-in chain done rule e));
    }

-- Two have one number just where they are one.
at-number : (all : List Asked) (n : ℕ) (d id : Identity) → identity_at all n ≡ Some id → (n < length (identities all)) × (get_or (identities all) n d ≡ id)
at-number [] n d id e = absurd (cc)
at-number (x ∷ xs) zero d id e = let same : identity_of x ≡ id = (cc) in (omega arith, same)
at-number (x ∷ xs) (suc n) d id e = let (inside, is) = at-number xs n d id e in (omega arith, is)

numbers-apart : (all : List Asked) (m n : ℕ) (id : Identity) → AreApart all → identity_at all m ≡ Some id → identity_at all n ≡ Some id → m < n → ⊥
numbers-apart all m n id apart e f less =
    let (_, first) = at-number all m id id e in
    let (inside, second) = at-number all n id id f in
    let other : is_one (get_or (identities all) m id) (get_or (identities all) n id) ≡ false = apart_from_distinct is_one (identities all) m n id apart less inside in
    let same : is_one (get_or (identities all) m id) (get_or (identities all) n id) ≡ true = ap (λ (i : Identity). is_one i (get_or (identities all) n id)) first ∙ ap (is_one id) second ∙ one-itself id in
    cc

one_number : (all : List Asked) (m n : ℕ) (id : Identity) → AreApart all → identity_at all m ≡ Some id → identity_at all n ≡ Some id → m ≡ n
one_number all m n id apart e f = go (cases_order m n)
  where
    go : (m ≡ n) ⊎ ((m < n) ⊎ (n < m)) → m ≡ n
    go (inl same) = same
    go (inr (inl less)) = absurd (numbers-apart all m n id apart e f less)
    go (inr (inr more)) = absurd (numbers-apart all n m id apart f e more)

place-alike : (p q : Option Place) → AreOfOnePlace p q → option_map place_identity p ≡ option_map place_identity q
place-alike None None h = refl
place-alike None (Some q) h = absurd h
place-alike (Some p) None h = absurd h
place-alike (Some p) (Some q) h = ap (λ (c : List ℕ). Some (c, p.count)) h.0 ∙ ap (λ (n : ℕ). Some (q.chain, n)) h.1

alike-place : (p q : Option Place) → option_map place_identity p ≡ option_map place_identity q → AreOfOnePlace p q
alike-place None None e = tt
alike-place None (Some q) e = absurd (cc)
alike-place (Some p) None e = absurd (cc)
alike-place (Some p) (Some q) e =
    let pair : place_identity p ≡ place_identity q = (cc) in
    (ap (λ (x : List ℕ × ℕ). x.0) pair, ap (λ (x : List ℕ × ℕ). x.1) pair)

one_number_is_one_condition : OneNumberIsOneCondition
one_number_is_one_condition all a b m n apart at_m at_n = (one, same)
  where
    one : m ≡ n → (a.text ≡ b.text) × AreOfOnePlace a.place b.place
    one e =
        let ids : told a ≡ told b = sym at_m ∙ ap (identity_at all) e ∙ at_n in
        let id : identity_of a ≡ identity_of b = (cc) in
        (ap (λ (i : Identity). i.text) id, alike-place a.place b.place (ap (λ (i : Identity). i.place) id))

    same : (a.text ≡ b.text) × AreOfOnePlace a.place b.place → m ≡ n
    same h =
        let id : identity_of a ≡ identity_of b =
        ap (λ (t : List ℕ). let x : Identity = record { text = t; place = option_map place_identity a.place } in x) h.0
        ∙ ap (λ (p : Option (List ℕ × ℕ)). let x : Identity = record { text = b.text; place = p } in x) (place-alike a.place b.place h.1) in
        one_number all m n (identity_of b) apart (at_m ∙ ap (λ (i : Identity). Some i) id) at_n

get-more : (all more : List Asked) (n : ℕ) (one : Asked) → slice_get all n ≡ Some one → slice_get (all ++ more) n ≡ Some one
get-more [] more n one e = absurd (cc)
get-more (x ∷ xs) more zero one e = e
get-more (x ∷ xs) more (suc n) one e = get-more xs more n one e

get-with_one : (all : List Asked) (x : Asked) (n : ℕ) (one : Asked) → slice_get all n ≡ Some one → slice_get (with_one all x) n ≡ Some one
get-with_one all x n one e = go (has all (identity_of x))
  where
    go : (t : Bool) → slice_get (cond t all (all ++ x ∷ [])) n ≡ Some one
    go true = e
    go false = get-more all (x ∷ []) n one e

numbers_stay : NumbersStay
numbers_stay all [] n one e = e
numbers_stay all (x ∷ more) n one e = numbers_stay (with_one all x) more n one (get-with_one all x n one e)

-- and each that is asked gets one
there-or-more : (x : Asked) (xs : List Asked) (id : Identity) (t : Bool) → is_one id (identity_of x) ≡ t → (t || has xs id) ≡ true → (has xs id ≡ true → (n : ℕ) × (identity_at xs n ≡ Some id))
    → (n : ℕ) × (identity_at (x ∷ xs) n ≡ Some id)
there-or-more x xs id true f e more = (zero, ap (λ (i : Identity). Some i) (sym (is-one id (identity_of x) f)))
there-or-more x xs id false f e more = let (n, at) = more e in (suc n, at)

number-of : (all : List Asked) (id : Identity) → has all id ≡ true → (n : ℕ) × (identity_at all n ≡ Some id)
number-of [] id e = absurd (cc)
number-of (x ∷ xs) id e = there-or-more x xs id (is_one id (identity_of x)) refl e (λ h. number-of xs id h)

number-with_one : (all : List Asked) (x : Asked) → (n : ℕ) × (identity_at (with_one all x) n ≡ told x)
number-with_one all x = go (has all (identity_of x)) refl
  where
    go : (t : Bool) → has all (identity_of x) ≡ t → (n : ℕ) × (identity_at (cond t all (all ++ x ∷ [])) n ≡ told x)
    go true e = number-of all (identity_of x) e
    go false e = (length all, at-last all x)

each_has_number : EachHasNumber
each_has_number all [] = All-nil (λ (one : Asked). (number : ℕ) × (identity_at (with_all all []) number ≡ told one))
each_has_number all (x ∷ more) =
    let (n, at) = number-with_one all x in
    All-cons (λ (one : Asked). (number : ℕ) × (identity_at (with_all all (x ∷ more)) number ≡ told one)) x more
    (n, with_all-stays (with_one all x) more n (identity_of x) at) (each_has_number (with_one all x) more)

pub numbers_tell_conditions : NumbersTellConditions
numbers_tell_conditions = record { one = one_number_is_one_condition; stay = numbers_stay; each = each_has_number }

-- a step over the needs of a rule
taken-more : (needs : List NeededText) (i : ℕ) (need : NeededText) → i < length needs → need ≡ get_or needs i need
    → needs_in (take (i + 1) needs) ≡ needs_in (take i needs) ++ needed_in need ∷ []
taken-more needs i need inside is =
    ap needs_in (take_more needs i need inside) ∙ map_push needed_in (take i needs) (get_or needs i need)
    ∙ ap (λ (n : NeededText). needs_in (take i needs) ++ needed_in n ∷ []) (sym is)

pub needs_step : (chain : List ℕ) (rule : ℕ) (before : List Needed) (needs : List NeededText) (i : ℕ) (need : NeededText) (first mid new : Numbers) (made items : List ForeignNeed) (one : ForeignNeed)
    → i < length needs → need ≡ get_or needs i need → items ≡ made ++ one ∷ []
    → AreNeedsNumbered chain rule before (needs_in (take i needs)) first mid (numbers_of made)
    → AreNeedsNumbered chain rule (before ++ needs_in (take i needs)) (needed_in need ∷ []) mid new (one.condition ∷ [])
    → AreNeedsNumbered chain rule before (needs_in (take (i + 1) needs)) first new (numbers_of items)
needs_step chain rule before needs i need first mid new made items one inside is pushed h k =
    let numbers : numbers_of items ≡ numbers_of made ++ one.condition ∷ [] = ap numbers_of pushed ∙ map_push (λ (n : ForeignNeed). n.condition) made one in
    subst (λ (l : List Needed). AreNeedsNumbered chain rule before l first new (numbers_of items)) (sym (taken-more needs i need inside is))
    (subst (λ (l : List ℕ). AreNeedsNumbered chain rule before (needs_in (take i needs) ++ needed_in need ∷ []) first new l) (sym numbers)
    (needs_both chain rule before (needs_in (take i needs)) (needed_in need ∷ []) first mid new (numbers_of made) (one.condition ∷ []) h k))

pub counts_sets : (chain : List ℕ) (rule : ℕ) (before needs all : List Needed) (first mid : Numbers) (numbers : List ℕ) (counts : BTreeMap (Vec ℕ) ℕ)
    → AreNeedsNumbered chain rule before needs first mid numbers → AreCounts first.sets all counts → AreCounts mid.sets all counts
counts_sets chain rule before needs all first mid numbers counts h k text =
    k text ∙ ap (λ (s : List (List ℕ)). count_of s text.items all) (sym (sets-added first mid (asked_by_rule first.sets chain rule before needs) h.after))

pub counts_step : (chain : List ℕ) (rule : ℕ) (before : List Needed) (needs : List NeededText) (i : ℕ) (need : NeededText) (first mid : Numbers) (numbers : List ℕ) (counts : BTreeMap (Vec ℕ) ℕ)
    → i < length needs → need ≡ get_or needs i need → AreNeedsNumbered chain rule before (needs_in (take i needs)) first mid numbers
    → AreCounts mid.sets ((before ++ needs_in (take i needs)) ++ needed_in need ∷ []) counts → AreCounts first.sets (before ++ needs_in (take (i + 1) needs)) counts
counts_step chain rule before needs i need first mid numbers counts inside is h k text =
    let taken = needs_in (take i needs) in
    k text ∙ ap (λ (s : List (List ℕ)). count_of s text.items ((before ++ taken) ++ needed_in need ∷ [])) (sets-added first mid (asked_by_rule first.sets chain rule before taken) h.after)
    ∙ ap (count_of first.sets text.items) (append_assoc before taken (needed_in need ∷ []) ∙ ap (λ (l : List Needed). before ++ l) (sym (taken-more needs i need inside is)))

-- a step over the rules of a dump
pub done-more : (among : List ForeignRule) (i : ℕ) (rule : ForeignRule) → i < length among → rule ≡ get_or among i rule
    → map rule_in (take (i + 1) among) ≡ map rule_in (take i among) ++ rule_in rule ∷ []
done-more among i rule inside is =
    ap (map rule_in) (take_more among i rule inside) ∙ map_push rule_in (take i among) (get_or among i rule)
    ∙ ap (λ (r : ForeignRule). map rule_in (take i among) ++ rule_in r ∷ []) (sym is)

-- a step over the inversions of the needs of a rule
pub inversions_step : (needs : List NeededText) (i : ℕ) (need : NeededText) (made items : List ForeignNeed) (one : ForeignNeed)
    → i < length needs → need ≡ get_or needs i need → items ≡ made ++ one ∷ [] → one.inverted ≡ need.inverted
    → inversions_in made ++ inversions (needs_in (drop i needs)) ≡ inversions (needs_in needs)
    → inversions_in items ++ inversions (needs_in (drop (i + 1) needs)) ≡ inversions (needs_in needs)
inversions_step needs i need made items one inside is pushed same h =
    let rest = inversions (needs_in (drop (i + 1) needs)) in
    let first : drop i needs ≡ need ∷ drop (i + 1) needs = drop_more needs i need inside ∙ ap (λ (n : NeededText). n ∷ drop (i + 1) needs) (sym is) in
    ap (λ (l : List ForeignNeed). inversions_in l ++ rest) pushed ∙ ap (λ (l : List Bool). l ++ rest) (map_push (λ (n : ForeignNeed). n.inverted) made one)
    ∙ append_assoc (inversions_in made) (one.inverted ∷ []) rest ∙ ap (λ (b : Bool). inversions_in made ++ b ∷ rest) same
    ∙ ap (λ (l : List NeededText). inversions_in made ++ inversions (needs_in l)) (sym first) ∙ h

-- a step over those of the rules
inversions-first : (chain : List ℕ) (rule : ReadRule) (rules : List ReadRule) → inversions_of chain (rule ∷ rules) ≡ inversions_of chain (rule ∷ []) ++ inversions_of chain rules
inversions-first chain rule rules = go (is_in chain rule)
  where
    go : (t : Bool) → map (λ (r : ReadRule). inversions r.needs) (cond t (rule ∷ filter (is_in chain) rules) (filter (is_in chain) rules))
        ≡ map (λ (r : ReadRule). inversions r.needs) (cond t (rule ∷ []) []) ++ inversions_of chain rules
    go true = refl
    go false = refl

pub all_inversions_step : (chain : List ℕ) (among : List ForeignRule) (i : ℕ) (rule : ForeignRule) (made items : List (Vec ForeignNeed))
    → i < length among → rule ≡ get_or among i rule → all_inversions_in items ≡ all_inversions_in made ++ inversions_of chain (rule_in rule ∷ [])
    → all_inversions_in made ++ inversions_of chain (map rule_in (drop i among)) ≡ inversions_of chain (map rule_in among)
    → all_inversions_in items ++ inversions_of chain (map rule_in (drop (i + 1) among)) ≡ inversions_of chain (map rule_in among)
all_inversions_step chain among i rule made items inside is more h =
    let rest = map rule_in (drop (i + 1) among) in
    let first : drop i among ≡ rule ∷ drop (i + 1) among = drop_more among i rule inside ∙ ap (λ (r : ForeignRule). r ∷ drop (i + 1) among) (sym is) in
    ap (λ (l : List (List Bool)). l ++ inversions_of chain rest) more
    ∙ append_assoc (all_inversions_in made) (inversions_of chain (rule_in rule ∷ [])) (inversions_of chain rest)
    ∙ ap (λ (l : List (List Bool)). all_inversions_in made ++ l) (sym (inversions-first chain (rule_in rule) rest))
    ∙ ap (λ (l : List ForeignRule). all_inversions_in made ++ inversions_of chain (map rule_in l)) (sym first) ∙ h
