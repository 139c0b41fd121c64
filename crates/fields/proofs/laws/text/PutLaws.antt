-- Writes in a row, and texts written with a comma between two.
use Rattle.std.proofs.Common.{◌≡◌, ℕ, ◌+◌, ◌<◌, length, take, drop, get_or, flat_map, subst, take-append-drop, List, [], ◌++◌, Option, Result, Ok, Err, false, sym, ap, ◌∙◌, append_assoc, ◌==◌, Bool, true, cond, ◌∷◌, map, refl, append-nil}
use Rattle.std.specs.Prelude.{IsErr, filter}
use Rattle.std.proofs.KnownBytes.{Appends-nil, Appends-trans}
use Rattle.std.proofs.lemmas.List.{drop_more, take_more, map-append}
use Rattle.std.proofs.lemmas.Grind.{flat_map-append}
use Rattle.std.proofs.lemmas.Result.{MatchResult-from_err}
use Rattle.std.proofs.lemmas.Bool.{true≢false}
use Rattle.std.specs.Int.RustNames.{bit_and}
use Rattle.std.specs.List.{join_with_byte}
use Rattle.std.proofs.lemmas.List.Elements.{filter-append}
use Rattle.fields.specs.declared.text.tap.Tap.{Tap}
use Rattle.fields.specs.text.Tap.{has_failed, known, Wrote, Stopped, Puts}
use Rattle.fields.specs.values.NameList.{names_in}

-- ---- Writes in a row.

pub wrote-nothing : {T : Type 0} {contents : T → Option (List ℕ)} {a : Tap T} → has_failed a ≡ false → Wrote contents a a []
wrote-nothing {contents = contents} {a = a} fresh = record { ready = fresh; fresh = fresh; appends = Appends-nil (known contents a) }

pub wrote-then : {T : Type 0} {contents : T → Option (List ℕ)} {a b c : Tap T} {xs ys : List ℕ}
    → Wrote contents a b xs → Wrote contents b c ys → Wrote contents a c (xs ++ ys)
wrote-then {contents = contents} {a = a} {b = b} {c = c} {xs = xs} {ys = ys} p q =
    record { ready = p.ready; fresh = q.fresh; appends = Appends-trans (known contents a) (known contents b) (known contents c) xs ys p.appends q.appends }

pub stopped-then : {T : Type 0} {contents : T → Option (List ℕ)} {a b c : Tap T} {xs ys : List ℕ}
    → Wrote contents a b xs → Stopped contents b c ys → Stopped contents a c (xs ++ ys)
stopped-then {contents = contents} {a = a} {b = b} {c = c} {xs = xs} {ys = ys} p q =
    record {
      failed = q.failed;
      unmoved = λ had. absurd (true≢false (sym had ∙ p.ready));
      part = xs ++ q.part;
      begins = (q.begins.0, ap (λ l. xs ++ l) q.begins.1 ∙ sym (append_assoc xs q.part q.begins.0));
      appends = Appends-trans (known contents a) (known contents b) (known contents c) xs q.part p.appends q.appends;
    }

pub stopped-before : {T : Type 0} {contents : T → Option (List ℕ)} {a b : Tap T} {xs : List ℕ}
    → Stopped contents a b xs → (ys : List ℕ) → Stopped contents a b (xs ++ ys)
stopped-before {xs = xs} p ys =
    record {
      failed = p.failed;
      unmoved = p.unmoved;
      part = p.part;
      begins = (p.begins.0 ++ ys, ap (λ l. l ++ ys) p.begins.1 ∙ append_assoc p.part p.begins.0 ys);
      appends = p.appends;
    }

pub puts-then : {T X E : Type 0} (contents : T → Option (List ℕ)) (a b c : Tap T) (r : Result X E) (xs ys : List ℕ)
    → Wrote contents a b xs → Puts contents b c r ys → Puts contents a c r (xs ++ ys)
puts-then contents a b c (Ok x) xs ys p q = wrote-then p q
puts-then contents a b c (Err e) xs ys p q = stopped-then p q

-- the exit of a `?`
pub puts-stopped : {T X E : Type 0} (contents : T → Option (List ℕ)) (a b : Tap T) (r : Result X E) (bs : List ℕ) → IsErr r → Stopped contents a b bs → Puts contents a b r bs
puts-stopped contents a b r bs failed stopped = MatchResult-from_err r (λ _. Wrote contents a b bs) (λ _. Stopped contents a b bs) failed (λ _. stopped)

-- what a loop wrote before a place, and a beginning of what stands there
pub stopped-at : {T X : Type 0} {contents : T → Option (List ℕ)} {a b c : Tap T} (f : X → List ℕ) (xs : List X) (i : ℕ) (d : X) → i < length xs
    → Wrote contents a b (flat_map f (take i xs)) → Stopped contents b c (f (get_or xs i d)) → Stopped contents a c (flat_map f xs)
stopped-at {contents = contents} {a = a} {c = c} f xs i d within p q =
    let split : flat_map f xs ≡ flat_map f (take i xs) ++ (f (get_or xs i d) ++ flat_map f (drop (i + 1) xs)) =
    ap (flat_map f) (sym (take-append-drop i xs)) ∙ flat_map-append f (take i xs) (drop i xs) ∙ ap (λ l. flat_map f (take i xs) ++ flat_map f l) (drop_more xs i d within) in
    subst (Stopped contents a c) (sym split) (stopped-then p (stopped-before q (flat_map f (drop (i + 1) xs))))

-- what was written is a text's beginning, and the rest follows
module _ {T X E : Type 0} (contents : T → Option (List ℕ)) (r : Result X E) (whole : List ℕ) where
  pub puts-after : (a b c : Tap T) (xs rest : List ℕ) → whole ≡ xs ++ rest → Wrote contents a b xs → Puts contents b c r rest → Puts contents a c r whole
  puts-after a b c xs rest e p q = subst (λ (l : List ℕ). Puts contents a c r l) (sym e) (puts-then contents a b c r xs rest p q)

  pub stops-in : (a b : Tap T) (xs rest : List ℕ) → whole ≡ xs ++ rest → IsErr r → Stopped contents a b xs → Puts contents a b r whole
  stops-in a b xs rest e failed p = subst (λ (l : List ℕ). Puts contents a b r l) (sym e) (puts-stopped contents a b r (xs ++ rest) failed (stopped-before p rest))

-- the same as `stopped-at`, at an item that the loop read
pub stopped-item : {T X : Type 0} {contents : T → Option (List ℕ)} {a b c : Tap T} (f : X → List ℕ) (xs : List X) (i : ℕ) (x : X) → i < length xs → x ≡ get_or xs i x
    → Wrote contents a b (flat_map f (take i xs)) → Stopped contents b c (f x) → Stopped contents a c (flat_map f xs)
stopped-item {X = X} {contents = contents} {b = b} {c = c} f xs i x within is p q =
    stopped-at f xs i x within p (subst (λ (y : X). Stopped contents b c (f y)) is q)

-- ---- Texts in a row with a comma between two, as a loop writes them.

-- what stands before a text behind these
abbrev pub comma_after : List (List ℕ) → List ℕ
comma_after [] = []
comma_after (x ∷ xs) = 44 ∷ []

join-tail : (y : List ℕ) (ys : List (List ℕ)) → join_with_byte 44 (y ∷ ys) ≡ y ++ flat_map (λ z. 44 ∷ z) ys
join-tail y [] = sym (append-nil y)
join-tail y (z ∷ zs) = ap (λ l. y ++ 44 ∷ l) (join-tail z zs)

join-at : (xs : List (List ℕ)) (y : List ℕ) (ys : List (List ℕ)) → join_with_byte 44 (xs ++ y ∷ ys) ≡ join_with_byte 44 xs ++ ((comma_after xs ++ y) ++ flat_map (λ z. 44 ∷ z) ys)
join-at [] y ys = join-tail y ys
join-at (x ∷ []) y ys = ap (λ l. x ++ 44 ∷ l) (join-tail y ys)
join-at (x ∷ x' ∷ xs) y ys = ap (λ l. x ++ 44 ∷ l) (join-at (x' ∷ xs) y ys) ∙ sym (append_assoc x (44 ∷ join_with_byte 44 (x' ∷ xs)) ((44 ∷ y) ++ flat_map (λ z. 44 ∷ z) ys))

comma_after-append : (xs : List (List ℕ)) (y : List ℕ) → comma_after (xs ++ y ∷ []) ≡ 44 ∷ []
comma_after-append [] y = refl
comma_after-append (x ∷ xs) y = refl

-- the names of some items, of which each has a row of a table
module _ {X : Type 0} (row : X → List ℕ × ℕ) (set : ℕ) where
  abbrev has : List ℕ × ℕ → Bool
  has r = bit_and set r.1 == r.1

  abbrev pub names : List X → List (List ℕ)
  names xs = names_in (map row xs) set

  names-append : (xs ys : List X) → names (xs ++ ys) ≡ names xs ++ names ys
  names-append xs ys =
      ap (λ l. map (λ r. r.0) (filter has l)) (map-append row xs ys) ∙ ap (map (λ r. r.0)) (filter-append has (map row xs) (map row ys))
      ∙ map-append (λ r. r.0) (filter has (map row xs)) (filter has (map row ys))

  -- one more item, with a name of the set or without
  names-yes : (xs ys : List X) (x : X) → has (row x) ≡ true → names (xs ++ x ∷ ys) ≡ names xs ++ (row x).0 ∷ names ys
  names-yes xs ys x has_it = names-append xs (x ∷ ys) ∙ ap (λ t. names xs ++ map (λ r. r.0) (cond t (row x ∷ filter has (map row ys)) (filter has (map row ys)))) has_it

  names-no : (xs ys : List X) (x : X) → has (row x) ≡ false → names (xs ++ x ∷ ys) ≡ names xs ++ names ys
  names-no xs ys x lacks_it = names-append xs (x ∷ ys) ∙ ap (λ t. names xs ++ map (λ r. r.0) (cond t (row x ∷ filter has (map row ys)) (filter has (map row ys)))) lacks_it

  module _ (xs : List X) (i : ℕ) (x : X) (within : i < length xs) (is : x ≡ get_or xs i x) where
    next : take (i + 1) xs ≡ take i xs ++ x ∷ []
    next = take_more xs i x within ∙ ap (λ (y : X). take i xs ++ y ∷ []) (sym is)

    all : xs ≡ take i xs ++ x ∷ drop (i + 1) xs
    all = sym (take-append-drop i xs) ∙ ap (λ l. take i xs ++ l) (drop_more xs i x within ∙ ap (λ (y : X). y ∷ drop (i + 1) xs) (sym is))

    pub names-kept : has (row x) ≡ false → names (take (i + 1) xs) ≡ names (take i xs)
    names-kept lacks_it = ap names next ∙ names-no (take i xs) [] x lacks_it ∙ append-nil (names (take i xs))

    names-more : has (row x) ≡ true → names (take (i + 1) xs) ≡ names (take i xs) ++ (row x).0 ∷ []
    names-more has_it = ap names next ∙ names-yes (take i xs) [] x has_it

    pub comma_after-more : has (row x) ≡ true → comma_after (names (take (i + 1) xs)) ≡ 44 ∷ []
    comma_after-more has_it = ap comma_after (names-more has_it) ∙ comma_after-append (names (take i xs)) (row x).0

    module _ {T : Type 0} {contents : T → Option (List ℕ)} {a b c : Tap T} (wrote : Wrote contents a b (join_with_byte 44 (names (take i xs)))) (has_it : has (row x) ≡ true) where
      pub wrote-name : Wrote contents b c (comma_after (names (take i xs)) ++ (row x).0) → Wrote contents a c (join_with_byte 44 (names (take (i + 1) xs)))
      wrote-name more =
          let text = comma_after (names (take i xs)) ++ (row x).0 in
          let same : join_with_byte 44 (names (take (i + 1) xs)) ≡ join_with_byte 44 (names (take i xs)) ++ text =
          ap (join_with_byte 44) (names-more has_it) ∙ join-at (names (take i xs)) (row x).0 [] ∙ ap (λ l. join_with_byte 44 (names (take i xs)) ++ l) (append-nil text) in
          subst (λ (l : List ℕ). Wrote contents a c l) (sym same) (wrote-then wrote more)

      pub stopped-name : Stopped contents b c (comma_after (names (take i xs)) ++ (row x).0) → Stopped contents a c (join_with_byte 44 (names xs))
      stopped-name part =
          let rest = flat_map (λ z. 44 ∷ z) (names (drop (i + 1) xs)) in
          let same : join_with_byte 44 (names xs) ≡ join_with_byte 44 (names (take i xs)) ++ ((comma_after (names (take i xs)) ++ (row x).0) ++ rest) =
          ap (λ l. join_with_byte 44 (names l)) all ∙ ap (join_with_byte 44) (names-yes (take i xs) (drop (i + 1) xs) x has_it) ∙ join-at (names (take i xs)) (row x).0 (names (drop (i + 1) xs)) in
          subst (λ (l : List ℕ). Stopped contents a c l) (sym same) (stopped-then wrote (stopped-before part rest))

-- two texts with a byte between them
module _ {T X E : Type 0} (contents : T → Option (List ℕ)) (r : Result X E) (xs : List ℕ) (mark : ℕ) (ys : List ℕ) where
  pub stops-at_mark : (a b c : Tap T) → IsErr r → Wrote contents a b xs → Stopped contents b c (mark ∷ []) → Puts contents a c r (xs ++ mark ∷ ys)
  stops-at_mark a b c failed wrote stopped = puts-stopped contents a c r (xs ++ mark ∷ ys) failed (stopped-then wrote (stopped-before stopped ys))

  pub puts-behind_mark : (a b c d : Tap T) → Wrote contents a b xs → Wrote contents b c (mark ∷ []) → Puts contents c d r ys → Puts contents a d r (xs ++ mark ∷ ys)
  puts-behind_mark a b c d wrote marked puts =
      puts-after contents r (xs ++ mark ∷ ys) a c d (xs ++ mark ∷ []) ys (sym (append_assoc xs (mark ∷ []) ys)) (wrote-then wrote marked) puts
