-- The part that may stand next is the one that the function finds, so that a line is taken apart in one way.
use Prim.Native.Nat.{zero, suc}
use Rattle.std.proofs.Common.{◌≡◌, ◌≢◌, ℕ, ◌≤◌, Bool, true, false, ◌&&◌, cond, List, [], ◌∷◌, ◌++◌, length, take, drop, Option, None, Some, refl, sym, ap, subst, ◌∙◌, arith, ltb, le-ltb, ltb-false, take-append-drop, ◌⊎◌, inl, inr, append_assoc, append-nil}
use Rattle.std.specs.Prelude.{Result, Ok, Err, codes, flat_map}
use Rattle.std.specs.Str.{bytes_eq}
use Rattle.std.proofs.lemmas.Slice.Eq.{bytes_eq-Decides}
use Rattle.std.proofs.lemmas.List.{length-append, length-take-le}
use Rattle.std.proofs.Math.Seq.{take-append_seam, drop-append_seam}
use Rattle.std.proofs.lemmas.List.Concat.{flat_map-append}
use Rattle.dumps.specs.Options.{Row, Table, begins_or_names}
use Rattle.dumps.specs.Parts.{Part, Refusal, InversionNotAllowed, ValueMissing, spelled_words, part_words, first_of, option_after, refused_with, unless_refused, checked, with_values, with_row, after_bang, next_part, IsPart, AreParts, IsTakenApart, IsRefused, IsOneWay, IsNeverBoth, IsRefusedOneWay, HasOutcome}

-- ---- The part that may stand next is the one that the function finds.

-- what is read there
abbrev Read : Type 0
Read = Result (Part × List (List ℕ)) Refusal

-- the part of an option with so many of the words
abbrev pub the_part : Bool → List ℕ → Row → List (List ℕ) → Part
the_part inverted option row values = record { inverted = inverted; option = option; values = values; row = row }

-- the part and the rest of an answer
ok_part : Part → Read → Part
ok_part d (Ok q) = q.0
ok_part d (Err e) = d

ok_rest : Read → List (List ℕ)
ok_rest (Ok q) = q.1
ok_rest (Err e) = []

pub same_read : (p q : Part) (xs ys : List (List ℕ)) → ◌≡◌ {A = Read} (Ok (p, xs)) (Ok (q, ys)) → (p ≡ q) × (xs ≡ ys)
unfolding ok_part ok_rest
same_read p q xs ys h = (ap (ok_part p) h, ap ok_rest h)

-- how an option takes its words
pub record Takes (table : Table) (inverted : Bool) (option : List ℕ) (row : Row) (words : List (List ℕ)) (part : Part) (rest : List (List ℕ)) : Type 0 where
  pub part_is : the_part inverted option row (take row.values words) ≡ part
  pub rest_is : drop row.values words ≡ rest
  pub enough : row.values ≤ length words
  pub inverts : (inverted && begins_or_names row.role) ≡ false
  pub allowed : refused_with table row.role (first_of (take row.values words)) ≡ None

pub takes : (table : Table) (inverted : Bool) (option : List ℕ) (row : Row) (words : List (List ℕ)) (part : Part) (rest : List (List ℕ)) → with_values table inverted option row words ≡ Ok (part, rest) → Takes table inverted option row words part rest
takes table inverted option row words part rest h = go (inverted && begins_or_names row.role) refl h
  where
    one : Part
    one = the_part inverted option row (take row.values words)

    left : List (List ℕ)
    left = drop row.values words

    last : (b : Bool) → (inverted && begins_or_names row.role) ≡ false → row.values ≤ length words → (r : Option Refusal) → refused_with table row.role (first_of (take row.values words)) ≡ r
        → unless_refused one left r ≡ Ok (part, rest) → Takes table inverted option row words part rest
    last b inverts enough None e h =
        let (same_part, same_rest) = same_read one part left rest h in
        record { part_is = same_part; rest_is = same_rest; enough = enough; inverts = inverts; allowed = e }
    last b inverts enough (Some r) e h = absurd (cc)

    long : (b : Bool) → (inverted && begins_or_names row.role) ≡ false → ltb (length words) row.values ≡ b → cond {A = Read} b (Err (ValueMissing option)) (checked table one left) ≡ Ok (part, rest) → Takes table inverted option row words part rest
    long true inverts e h = absurd (cc)
    long false inverts e h = last false inverts (ltb-false (length words) row.values e) (refused_with table row.role (first_of (take row.values words))) refl h

    go : (b : Bool) → (inverted && begins_or_names row.role) ≡ b
        → cond {A = Read} b (Err (InversionNotAllowed option)) (cond (ltb (length words) row.values) (Err (ValueMissing option)) (checked table one left)) ≡ Ok (part, rest)
        → Takes table inverted option row words part rest
    go true e h = absurd (cc)
    go false e h = long (ltb (length words) row.values) e refl h

-- the words of an option, cut after some of its values
spelled-split : (inverted : Bool) (option : List ℕ) (xs ys : List (List ℕ)) → spelled_words inverted option (xs ++ ys) ≡ spelled_words inverted option xs ++ ys
spelled-split true option xs ys = refl
spelled-split false option xs ys = refl

second_false : (a b : Bool) → (a && b) ≡ false → a ≡ true → b ≡ false
second_false true b h e = h
second_false false b h e = absurd (cc)

-- a part that an option takes may stand there
stands : (table : Table) (before : List Part) (inverted : Bool) (option : List ℕ) (row : Row) (words : List (List ℕ)) (part : Part) (rest : List (List ℕ)) → option_after table before option ≡ Some row → (inverted ≡ false → option ≢ codes "!")
    → Takes table inverted option row words part rest → IsPart table before part × (spelled_words inverted option words ≡ part_words part ++ rest)
stands table before inverted option row words part rest found plain h =
    subst (λ (p : Part). IsPart table before p × (spelled_words inverted option words ≡ part_words p ++ rest)) h.part_is
    (subst (λ (r : List (List ℕ)). IsPart table before (the_part inverted option row (take row.values words)) × (spelled_words inverted option words ≡ spelled_words inverted option (take row.values words) ++ r)) h.rest_is (
      record {
        option = found;
        values = length-take-le row.values words h.enough;
        inverted = second_false inverted (begins_or_names row.role) h.inverts;
        plain = plain;
        allowed = h.allowed;
      },
      ap (spelled_words inverted option) (sym (take-append-drop row.values words)) ∙ spelled-split inverted option (take row.values words) (drop row.values words),
    ))

-- with its row
with_row-stands : (table : Table) (before : List Part) (inverted : Bool) (option : List ℕ) (row : Option Row) (words : List (List ℕ)) (part : Part) (rest : List (List ℕ)) → option_after table before option ≡ row → (inverted ≡ false → option ≢ codes "!")
    → with_row table inverted option row words ≡ Ok (part, rest) → IsPart table before part × (spelled_words inverted option words ≡ part_words part ++ rest)
with_row-stands table before inverted option None words part rest found plain h = absurd (cc)
with_row-stands table before inverted option (Some row) words part rest found plain h = stands table before inverted option row words part rest found plain (takes table inverted option row words part rest h)

after_bang-stands : (table : Table) (before : List Part) (words : List (List ℕ)) (part : Part) (rest : List (List ℕ)) → after_bang table before words ≡ Ok (part, rest) → IsPart table before part × (codes "!" ∷ words ≡ part_words part ++ rest)
after_bang-stands table before [] part rest h = absurd (cc)
after_bang-stands table before (option ∷ words) part rest h = with_row-stands table before true option (option_after table before option) words part rest refl (λ e. absurd (cc)) h

-- what is found may stand there
pub next-stands : (table : Table) (before : List Part) (word : List ℕ) (words : List (List ℕ)) (part : Part) (rest : List (List ℕ)) → next_part table before word words ≡ Ok (part, rest) → IsPart table before part × (word ∷ words ≡ part_words part ++ rest)
unfolding next_part
next-stands table before word words part rest h = go (bytes_eq word (codes "!")) refl h
  where
    other : bytes_eq word (codes "!") ≡ false → word ≢ codes "!"
    other e is = absurd (cc (e, (bytes_eq-Decides word (codes "!")).1 is))

    go : (b : Bool) → bytes_eq word (codes "!") ≡ b → cond {A = Read} b (after_bang table before words) (with_row table false word (option_after table before word) words) ≡ Ok (part, rest)
        → IsPart table before part × (word ∷ words ≡ part_words part ++ rest)
    go true e h =
        let (is, same) = after_bang-stands table before words part rest h in
        (is, ap (λ w. w ∷ words) ((bytes_eq-Decides word (codes "!")).0 e) ∙ same)
    go false e h = with_row-stands table before false word (option_after table before word) words part rest refl (λ x. other e) h

-- an option takes the values that its row wants
takes_values : (table : Table) (inverted : Bool) (option : List ℕ) (row : Row) (values rest : List (List ℕ)) → length values ≡ row.values → (inverted && begins_or_names row.role) ≡ false → refused_with table row.role (first_of values) ≡ None
    → with_values table inverted option row (values ++ rest) ≡ Ok (the_part inverted option row values, rest)
takes_values table inverted option row values rest e inverts allowed =
    let words = values ++ rest in
    let enough : ltb (length words) row.values ≡ false = le-ltb (length words) row.values (omega (arith, length-append values rest, e)) in
    ap (λ b. cond {A = Read} b (Err (InversionNotAllowed option)) (cond (ltb (length words) row.values) (Err (ValueMissing option)) (checked table (the_part inverted option row (take row.values words)) (drop row.values words)))) inverts
    ∙ ap (λ b. cond {A = Read} b (Err (ValueMissing option)) (checked table (the_part inverted option row (take row.values words)) (drop row.values words))) enough
    ∙ ap (λ n. checked table (the_part inverted option row (take n words)) (drop n words)) (sym e)
    ∙ ap (λ l. checked table (the_part inverted option row l) (drop (length values) words)) (take-append_seam values rest)
    ∙ ap (λ l. checked table (the_part inverted option row values) l) (drop-append_seam values rest)
    ∙ ap (unless_refused (the_part inverted option row values) rest) allowed

both_false : (a b : Bool) → (a ≡ true → b ≡ false) → (a && b) ≡ false
both_false true b h = h refl
both_false false b h = refl

-- the part at the front of some words
abbrev pub next_of : Table → List Part → List (List ℕ) → Read
next_of table before [] = Err (ValueMissing [])
next_of table before (word ∷ words) = next_part table before word words

spelled-next : (table : Table) (before : List Part) (inverted : Bool) (option : List ℕ) (row : Row) (values rest : List (List ℕ)) → IsPart table before (the_part inverted option row values)
    → next_of table before (spelled_words inverted option values ++ rest) ≡ Ok (the_part inverted option row values, rest)
unfolding next_part
spelled-next table before true option row values rest h =
    ap (λ (r : Option Row). with_row table true option r (values ++ rest)) h.option ∙ takes_values table true option row values rest h.values (h.inverted refl) h.allowed
spelled-next table before false option row values rest h =
    ap (λ b. cond {A = Read} b (after_bang table before (values ++ rest)) (with_row table false option (option_after table before option) (values ++ rest))) (not_bang (bytes_eq option (codes "!")) refl)
    ∙ ap (λ (r : Option Row). with_row table false option r (values ++ rest)) h.option ∙ takes_values table false option row values rest h.values refl h.allowed
  where
    not_bang : (b : Bool) → bytes_eq option (codes "!") ≡ b → b ≡ false
    not_bang true e = absurd (h.plain refl ((bytes_eq-Decides option (codes "!")).0 e))
    not_bang false e = refl

-- what may stand there is found
pub stands-next : (table : Table) (before : List Part) (part : Part) (rest : List (List ℕ)) → IsPart table before part → next_of table before (part_words part ++ rest) ≡ Ok (part, rest)
stands-next table before part rest h = spelled-next table before part.inverted part.option part.row part.values rest h

-- ---- A line is taken apart in one way.

-- one part more
pub parts-more : (table : Table) (before parts : List Part) (part : Part) → AreParts table before parts → IsPart table (before ++ parts) part → AreParts table before (parts ++ part ∷ [])
parts-more table before [] part h is = (subst (λ (l : List Part). IsPart table l part) (append-nil before) is, tt)
parts-more table before (p ∷ ps) part h is =
    (h.0, parts-more table (before ++ p ∷ []) ps part h.1 (subst (λ (l : List Part). IsPart table l part) (sym (append_assoc before (p ∷ []) ps)) is))

-- its words after those of the others
pub words-more : (parts : List Part) (part : Part) (rest : List (List ℕ)) → flat_map part_words parts ++ (part_words part ++ rest) ≡ flat_map part_words (parts ++ part ∷ []) ++ rest
words-more parts part rest =
    sym (append_assoc (flat_map part_words parts) (part_words part) rest)
    ∙ ap (λ l. (flat_map part_words parts ++ l) ++ rest) (sym (append-nil (part_words part)))
    ∙ ap (λ l. l ++ rest) (sym (flat_map-append part_words parts (part ∷ [])))

-- a part has words
no_words : (inverted : Bool) (option : List ℕ) (values rest : List (List ℕ)) → spelled_words inverted option values ++ rest ≢ []
no_words true option values rest e = cc
no_words false option values rest e = cc

-- where the words of some parts begin with another part, that is the first of them, and the rest are those of the others
first-same : (table : Table) (before : List Part) (p q : Part) (xs ys : List (List ℕ)) → IsPart table before p → IsPart table before q → part_words p ++ xs ≡ part_words q ++ ys → (p ≡ q) × (xs ≡ ys)
first-same table before p q xs ys a b e = same_read p q xs ys (sym (stands-next table before p xs a) ∙ ap (next_of table before) e ∙ stands-next table before q ys b)

pub parts-one : (table : Table) (before a b : List Part) → AreParts table before a → AreParts table before b → flat_map part_words a ≡ flat_map part_words b → a ≡ b
parts-one table before [] [] ha hb e = refl
parts-one table before [] (q ∷ qs) ha hb e = absurd (no_words q.inverted q.option q.values (flat_map part_words qs) (sym e))
parts-one table before (p ∷ ps) [] ha hb e = absurd (no_words p.inverted p.option p.values (flat_map part_words ps) e)
parts-one table before (p ∷ ps) (q ∷ qs) ha hb e =
    let (same, rest) = first-same table before p q (flat_map part_words ps) (flat_map part_words qs) ha.0 hb.0
    (sym (append_of p ps) ∙ e ∙ append_of q qs) in
    let others = parts-one table (before ++ p ∷ []) ps qs ha.1 (subst (λ (x : Part). AreParts table (before ++ x ∷ []) qs) (sym same) hb.1) rest in
    ap (λ (x : Part). x ∷ ps) same ∙ ap (λ (l : List Part). q ∷ l) others
  where
    append_of : (x : Part) (xs : List Part) → flat_map part_words (x ∷ xs) ≡ part_words x ++ flat_map part_words xs
    append_of x xs = refl

pub one_way : IsOneWay
one_way table words a b ha hb = parts-one table [] a b ha.each hb.each (sym ha.whole ∙ hb.whole)

-- where parts take all the words, no part is refused after the first of them
parts-whole : (table : Table) (before a b : List Part) (word : List ℕ) (rest : List (List ℕ)) (refusal : Refusal) → AreParts table before a → AreParts table before b
    → flat_map part_words a ≡ flat_map part_words b ++ word ∷ rest → next_part table (before ++ b) word rest ≢ Err refusal
parts-whole table before [] [] word rest refusal ha hb e h = cc
parts-whole table before [] (q ∷ qs) word rest refusal ha hb e h =
    no_words q.inverted q.option q.values (flat_map part_words qs ++ word ∷ rest) (sym (e ∙ append_assoc (part_words q) (flat_map part_words qs) (word ∷ rest)))
parts-whole table before (p ∷ ps) [] word rest refusal ha hb e h =
    let found = stands-next table before p (flat_map part_words ps) ha.0 in
    let here : next_part table before word rest ≡ Err refusal = subst (λ (l : List Part). next_part table l word rest ≡ Err refusal) (append-nil before) h in
    let same : next_of table before (part_words p ++ flat_map part_words ps) ≡ next_part table before word rest = ap (next_of table before) e in
    absurd (cc)
parts-whole table before (p ∷ ps) (q ∷ qs) word rest refusal ha hb e h =
    let (same, left) = first-same table before p q (flat_map part_words ps) (flat_map part_words qs ++ word ∷ rest) ha.0 hb.0
    (e ∙ append_assoc (part_words q) (flat_map part_words qs) (word ∷ rest)) in
    parts-whole table (before ++ q ∷ []) ps qs word rest refusal (subst (λ (x : Part). AreParts table (before ++ x ∷ []) ps) same ha.1) hb.1 left
    (subst (λ (l : List Part). next_part table l word rest ≡ Err refusal) (sym (append_assoc before (q ∷ []) qs)) h)

pub never_both : IsNeverBoth
never_both table words parts refusal h r = parts-whole table [] parts r.parts r.word r.rest refusal h.each r.each (sym h.whole ∙ r.whole) r.here

-- where some parts lead to what is refused, so do no others
parts-refused : (table : Table) (before a b : List Part) (v w : List ℕ) (xs ys : List (List ℕ)) (r s : Refusal) → AreParts table before a → AreParts table before b
    → flat_map part_words a ++ v ∷ xs ≡ flat_map part_words b ++ w ∷ ys → next_part table (before ++ a) v xs ≡ Err r → next_part table (before ++ b) w ys ≡ Err s → r ≡ s
parts-refused table before [] [] v w xs ys r s ha hb e hr hs =
    let same : next_part table (before ++ []) v xs ≡ next_part table (before ++ []) w ys = ap (next_of table (before ++ [])) e in
    cc
parts-refused table before [] (q ∷ qs) v w xs ys r s ha hb e hr hs =
    let found = stands-next table before q (flat_map part_words qs ++ w ∷ ys) hb.0 in
    let here : next_part table before v xs ≡ Err r = subst (λ (l : List Part). next_part table l v xs ≡ Err r) (append-nil before) hr in
    let same : next_part table before v xs ≡ next_of table before (part_words q ++ (flat_map part_words qs ++ w ∷ ys)) =
    ap (next_of table before) (e ∙ append_assoc (part_words q) (flat_map part_words qs) (w ∷ ys)) in
    absurd (cc)
parts-refused table before (p ∷ ps) [] v w xs ys r s ha hb e hr hs =
    let found = stands-next table before p (flat_map part_words ps ++ v ∷ xs) ha.0 in
    let here : next_part table before w ys ≡ Err s = subst (λ (l : List Part). next_part table l w ys ≡ Err s) (append-nil before) hs in
    let same : next_of table before (part_words p ++ (flat_map part_words ps ++ v ∷ xs)) ≡ next_part table before w ys =
    ap (next_of table before) (sym (append_assoc (part_words p) (flat_map part_words ps) (v ∷ xs)) ∙ e) in
    absurd (cc)
parts-refused table before (p ∷ ps) (q ∷ qs) v w xs ys r s ha hb e hr hs =
    let (same, left) = first-same table before p q (flat_map part_words ps ++ v ∷ xs) (flat_map part_words qs ++ w ∷ ys) ha.0 hb.0
    (sym (append_assoc (part_words p) (flat_map part_words ps) (v ∷ xs)) ∙ e ∙ append_assoc (part_words q) (flat_map part_words qs) (w ∷ ys)) in
    parts-refused table (before ++ q ∷ []) ps qs v w xs ys r s (subst (λ (x : Part). AreParts table (before ++ x ∷ []) ps) same ha.1) hb.1 left
    (subst (λ (l : List Part). next_part table l v xs ≡ Err r) (sym (append_assoc before (q ∷ []) ps))
    (subst (λ (x : Part). next_part table (before ++ x ∷ ps) v xs ≡ Err r) same hr))
    (subst (λ (l : List Part). next_part table l w ys ≡ Err s) (sym (append_assoc before (q ∷ []) qs)) hs)

pub refused_one_way : IsRefusedOneWay
refused_one_way table words a b ha hb = parts-refused table [] ha.parts hb.parts ha.word hb.word ha.rest hb.rest a b ha.each hb.each (sym ha.whole ∙ hb.whole) ha.here hb.here

-- no part more
pub taken-whole : (table : Table) (words : List (List ℕ)) (parts : List Part) → words ≡ flat_map part_words parts ++ [] → AreParts table [] parts → IsTakenApart table words parts
taken-whole table words parts e h = record { whole = e ∙ append-nil (flat_map part_words parts); each = h }

-- what was read, after one more part
pub record Stands (table : Table) (words : List (List ℕ)) (parts : List Part) (rest : List (List ℕ)) : Type 0 where
  pub whole : words ≡ flat_map part_words parts ++ rest
  pub each : AreParts table [] parts

pub one-more : (table : Table) (words : List (List ℕ)) (parts : List Part) (rest : List (List ℕ)) (word : List ℕ) (after : List (List ℕ)) (part : Part) (left : List (List ℕ)) → words ≡ flat_map part_words parts ++ rest → AreParts table [] parts
    → rest ≡ word ∷ after → next_part table parts word after ≡ Ok (part, left) → Stands table words (parts ++ part ∷ []) left
one-more table words parts rest word after part left whole each front found =
    let (is, same) = next-stands table parts word after part left found in
    record {
      whole = whole ∙ ap (λ l. flat_map part_words parts ++ l) (front ∙ same) ∙ words-more parts part left;
      each = parts-more table [] parts part each is;
    }

-- what was read may be read on, as far as the line goes or up to what is refused
outcome_from : (n : ℕ) (table : Table) (words : List (List ℕ)) (parts : List Part) (rest : List (List ℕ)) → length rest ≤ n → Stands table words parts rest
    → ((parts : List Part) × IsTakenApart table words parts) ⊎ ((refusal : Refusal) × IsRefused table words refusal)
outcome_from n table words parts [] within h = inl (parts, taken-whole table words parts h.whole h.each)
outcome_from zero table words parts (word ∷ after) within h = absurd (omega arith)
outcome_from (suc n) table words parts (word ∷ after) within h = go (λ ps us. outcome_from n table words ps us) (next_part table parts word after) refl
  where
    go : ((ps : List Part) (us : List (List ℕ)) → length us ≤ n → Stands table words ps us → ((ps : List Part) × IsTakenApart table words ps) ⊎ ((refusal : Refusal) × IsRefused table words refusal))
        → (r : Result (Part × List (List ℕ)) Refusal) → next_part table parts word after ≡ r → ((ps : List Part) × IsTakenApart table words ps) ⊎ ((refusal : Refusal) × IsRefused table words refusal)
    go more (Err refusal) e = inr (refusal, record { parts = parts; word = word; rest = after; whole = h.whole; each = h.each; here = e })
    go more (Ok q) e =
        let (is, same) = next-stands table parts word after q.0 q.1 e in
        let shorter : length q.1 ≤ length after = shorter-rest q.0.inverted q.0.option q.0.values q.1 word after same in
        more (parts ++ q.0 ∷ []) q.1 (omega arith) (one-more table words parts (word ∷ after) word after q.0 q.1 h.whole h.each refl e)
      where
        shorter-rest : (inverted : Bool) (option : List ℕ) (values rest : List (List ℕ)) (w : List ℕ) (ws : List (List ℕ)) → w ∷ ws ≡ spelled_words inverted option values ++ rest → length rest ≤ length ws
        shorter-rest true option values rest w ws e = omega (arith, ap length e, length-append values rest)
        shorter-rest false option values rest w ws e = omega (arith, ap length e, length-append values rest)

pub has_outcome : HasOutcome
has_outcome table words = outcome_from (length words) table words [] words (omega arith) (record { whole = refl; each = tt })
