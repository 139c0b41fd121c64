-- Each option of a match that the program doesn't read is asked.
use Rattle.std.proofs.Common.{◌≡◌, ◌≢◌, ◌⊎◌, inl, inr, ℕ, ◌==◌, Bool, true, false, cond, not, ◌&&◌, ◌||◌, List, [], ◌∷◌, ◌++◌, length, filter, refl, sym, ap, subst, ◌∙◌, arith, Option, None, Some, append_assoc, append-nil, ne_eqb, eqb-true}
use Rattle.std.specs.Prelude.{All, Contains, IfSome, find}
use Rattle.std.specs.List.{list_any}
use Rattle.std.specs.Option.{option_or}
use Rattle.std.specs.Str.{bytes_eq}
use Rattle.std.proofs.lemmas.Bool.{or_parts}
use Rattle.std.proofs.lemmas.Slice.Eq.{bytes_eq-Decides}
use Rattle.std.proofs.lemmas.List.Elements.{All-nil, All-cons, All-head, All-tail, All-weaker, All-contains_itself, Contains-append_left, Contains-append_right, filter-append}
use Rattle.dumps.specs.Options.{Row, Table, is_role, role_number, option_of}
use Rattle.dumps.specs.Parts.{Part, value_of, option_of_begun, begun_by, implied_by, newest, option_after, target_of, AreParts, IsTakenApart}
use Rattle.dumps.specs.Own.{is_read, is_of, begins, up_to_next}
use Rattle.dumps.specs.Conditions.{Condition, is_unread, asked_options, asked_by, is_there, protocol_condition, asked_first, conditions_after, taken_by, conditions, HasOwnStarts, MatchesAreAsked, ProtocolsAreAsked}
use Rattle.dumps.specs.Conditions as asking
use Rattle.dumps.specs.declared.options.row.Role.TheVariants as role

-- A part is asked: with the other options of its match, from some place up to where the match is begun again, and what these ask is among the conditions.
pub record IsAskedAmong (table : Table) (line : List Part) (part : Part) (all : List Condition) : Type 0 where
  pub before : List Part
  pub from : List Part
  pub split : line ≡ before ++ from
  pub has : Contains (asked_options table part.row.owner (up_to_next part.row.owner from)) part
  pub asked : All (Contains all) (asked_by table part.row.owner from)

-- what holds of each row of the table holds of the row that is found
found_one : (P : Row → Type 0) (test : Row → Bool) (rows : List Row) → All P rows → IfSome (find test rows) P
found_one P test [] h = tt
found_one P test (row ∷ rows) h = go (test row) (found_one P test rows (All-tail P row rows h))
  where
    go : (b : Bool) → IfSome (find test rows) P → IfSome (cond b (Some row) (find test rows)) P
    go true rest = All-head P row rows h
    go false rest = rest

pub either_one : (P : Row → Type 0) (a b : Option Row) → IfSome a P → IfSome b P → IfSome (option_or a b) P
either_one P None b ha hb = hb
either_one P (Some row) b ha hb = ha

begun_one : (P : Row → Type 0) (table : Table) (option : List ℕ) (name : Option (List ℕ)) → All P table.options → IfSome (option_of_begun table option name) P
begun_one P table option None h = tt
begun_one P table option (Some name) h = found_one P (λ (row : Row). bytes_eq row.owner name && list_any (bytes_eq option) row.names) table.options h

newest_one : (P : Row → Type 0) (table : Table) (begun : Part → Option (List ℕ)) (parts : List Part) (option : List ℕ) → All P table.options → IfSome (newest table begun parts option) P
newest_one P table begun [] option h = tt
newest_one P table begun (part ∷ parts) option h =
    either_one P (newest table begun parts option) (option_of_begun table option (begun part)) (newest_one P table begun parts option h) (begun_one P table option (begun part) h)

row_one : (P : Row → Type 0) (table : Table) (before : List Part) (option : List ℕ) → All P table.options → IfSome (option_after table before option) P
row_one P table before option h =
    either_one P (option_of table.options [] option) (option_or (newest table (begun_by table) before option) (newest table (implied_by table) before option))
    (found_one P (λ (row : Row). bytes_eq row.owner [] && list_any (bytes_eq option) row.names) table.options h)
    (either_one P (newest table (begun_by table) before option) (newest table (implied_by table) before option)
    (newest_one P table (begun_by table) before option h) (newest_one P table (implied_by table) before option h))

rows_one : (P : Row → Type 0) (table : Table) (before parts : List Part) → All P table.options → AreParts table before parts → All (λ (part : Part). P part.row) parts
rows_one P table before [] h are = All-nil (λ (part : Part). P part.row)
rows_one P table before (part ∷ parts) h are =
    All-cons (λ (q : Part). P q.row) part parts (subst (λ (r : Option Row). IfSome r P) are.0.option (row_one P table before part.option h))
    (rows_one P table (before ++ part ∷ []) parts h are.1)

-- the last place among some parts where a match is begun
record LastBegun (name : List ℕ) (parts : List Part) : Type 0 where
  before : List Part
  start : Part
  after : List Part
  split : parts ≡ before ++ start ∷ after
  begun : begins name start ≡ true
  free : list_any (begins name) after ≡ false

last_begun : (name : List ℕ) (parts : List Part) → (list_any (begins name) parts ≡ false) ⊎ LastBegun name parts
last_begun name [] = inl refl
last_begun name (p ∷ ps) = go (begins name p) refl (last_begun name ps)
  where
    go : (t : Bool) → begins name p ≡ t → (list_any (begins name) ps ≡ false) ⊎ LastBegun name ps → (list_any (begins name) (p ∷ ps) ≡ false) ⊎ LastBegun name (p ∷ ps)
    go t e (inr h) = inr (record { before = p ∷ h.before; start = h.start; after = h.after; split = ap (λ l. p ∷ l) h.split; begun = h.begun; free = h.free })
    go true e (inl f) = inr (record { before = []; start = p; after = ps; split = refl; begun = e; free = f })
    go false e (inl f) = inl (ap (λ t. t || list_any (begins name) ps) e ∙ f)

-- the first place where it is begun, or has an option
record FirstThere (name : List ℕ) (parts : List Part) : Type 0 where
  before : List Part
  start : Part
  after : List Part
  split : parts ≡ before ++ start ∷ after
  there : (begins name start || is_of name start) ≡ true
  none : is_there name before ≡ false

first_there : (name : List ℕ) (parts : List Part) → (is_there name parts ≡ false) ⊎ FirstThere name parts
first_there name [] = inl refl
first_there name (p ∷ ps) = go (begins name p || is_of name p) refl (first_there name ps)
  where
    go : (t : Bool) → (begins name p || is_of name p) ≡ t → (is_there name ps ≡ false) ⊎ FirstThere name ps → (is_there name (p ∷ ps) ≡ false) ⊎ FirstThere name (p ∷ ps)
    go true e h = inr (record { before = []; start = p; after = ps; split = refl; there = e; none = refl })
    go false e (inl n) = inl (ap (λ t. t || is_there name ps) e ∙ n)
    go false e (inr h) =
        inr (record { before = p ∷ h.before; start = h.start; after = h.after; split = ap (λ l. p ∷ l) h.split; there = h.there; none = ap (λ t. t || is_there name h.before) e ∙ h.none })

-- nothing ends the options of a match before a part
up_to-past : (name : List ℕ) (between : List Part) (part : Part) (after : List Part) → list_any (begins name) between ≡ false → begins name part ≡ false
    → up_to_next name (between ++ part ∷ after) ≡ between ++ part ∷ up_to_next name after
up_to-past name [] part after f e = ap (λ t. cond t [] (part ∷ up_to_next name after)) e
up_to-past name (p ∷ ps) part after f e =
    let (here, rest) = or_parts (begins name p) (list_any (begins name) ps) f in
    ap (λ t. cond t [] (p ∷ up_to_next name (ps ++ part ∷ after))) here ∙ ap (λ (l : List Part). p ∷ l) (up_to-past name ps part after rest e)

contains-first : {X : Type 0} (x : X) (xs : List X) → Contains (x ∷ xs) x
contains-first x xs = (0, omega arith, refl)

any-here : (test : Part → Bool) (xs : List Part) (x : Part) (ys : List Part) → test x ≡ true → list_any test (xs ++ x ∷ ys) ≡ true
any-here test [] x ys e = ap (λ t. t || list_any test ys) e
any-here test (z ∷ zs) x ys e = go (test z) (any-here test zs x ys e)
  where
    go : (t : Bool) → list_any test (zs ++ x ∷ ys) ≡ true → (t || list_any test (zs ++ x ∷ ys)) ≡ true
    go true r = refl
    go false r = r

in-asked : (table : Table) (name : List ℕ) (between : List Part) (part : Part) (after : List Part) → list_any (begins name) between ≡ false → begins name part ≡ false → is_of name part ≡ true → is_read table part ≡ false
    → Contains (asked_options table name (up_to_next name (between ++ part ∷ after))) part
in-asked table name between part after free e of unread_is =
    let test : Part → Bool = is_of name in
    let rest = up_to_next name after in
    let passes : is_unread table name part ≡ true = ap (λ t. t && not (is_read table part)) of ∙ ap not unread_is in
    let first : Contains (filter test (part ∷ rest)) part =
    subst (λ t. Contains (cond t (part ∷ filter test rest) (filter test rest)) part) (sym of) (contains-first part (filter test rest)) in
    let all : Contains (filter test (between ++ part ∷ rest)) part =
    subst (λ (l : List Part). Contains l part) (sym (filter-append test between (part ∷ rest))) (Contains-append_right (filter test between) (filter test (part ∷ rest)) part first) in
    subst (λ (l : List Part). Contains (asked_options table name l) part) (sym (up_to-past name between part after free e))
    (subst (λ t. Contains (cond t (filter test (between ++ part ∷ rest)) []) part) (sym (any-here (is_unread table name) between part rest passes)) all)

-- what is asked at a place is among the conditions
included : (table : Table) (seen before rest : List Part) → All (Contains (conditions_after table seen (before ++ rest))) (asked_first table (seen ++ before) rest)
included table seen [] [] = All-nil (Contains (conditions_after table seen []))
included table seen [] (p ∷ ps) =
    let here = asked_first table seen (p ∷ ps) in
    let further = conditions_after table (seen ++ p ∷ []) ps in
    subst (λ (l : List Part). All (Contains (here ++ further)) (asked_first table l (p ∷ ps))) (sym (append-nil seen))
    (All-weaker (Contains here) (Contains (here ++ further)) (λ x. Contains-append_left here further x) here (All-contains_itself here))
included table seen (p ∷ ps) rest =
    let here = asked_first table seen (p ∷ (ps ++ rest)) in
    let further = conditions_after table (seen ++ p ∷ []) (ps ++ rest) in
    subst (λ (l : List Part). All (Contains (here ++ further)) (asked_first table l rest)) (append_assoc seen (p ∷ []) ps)
    (All-weaker (Contains further) (Contains (here ++ further)) (λ x. Contains-append_right here further x) (asked_first table ((seen ++ p ∷ []) ++ ps) rest)
    (included table (seen ++ p ∷ []) ps rest))

-- and so among those of a line
included-line : (table : Table) (before rest : List Part) → All (Contains (conditions table (before ++ rest))) (asked_first table before rest)
included-line table before rest =
    let line = before ++ rest in
    let matches = conditions_after table [] line in
    let taken : List Condition = taken_by line (target_of table line) in
    All-weaker (Contains matches) (Contains (matches ++ taken)) (λ x. Contains-append_left matches taken x) (asked_first table before rest) (included table [] before rest)

-- a part of an owner begins no match, and is no protocol
abbrev IsNoStart : Row → Type 0
IsNoStart row = (is_role role.Match row.role || is_role role.Protocol row.role) ≡ true → row.owner ≡ []

no-start : (row : Row) → IsNoStart row → row.owner ≢ [] → (is_role role.Match row.role ≡ false) × (is_role role.Protocol row.role ≡ false)
no-start row h some = or_parts (is_role role.Match row.role) (is_role role.Protocol row.role) (go (is_role role.Match row.role || is_role role.Protocol row.role) refl)
  where
    go : (t : Bool) → (is_role role.Match row.role || is_role role.Protocol row.role) ≡ t → t ≡ false
    go true e = absurd (some (h e))
    go false e = refl

not-begins : (name : List ℕ) (part : Part) → is_role role.Match part.row.role ≡ false → begins name part ≡ false
not-begins name part e = ap (λ t. t && bytes_eq (value_of part) name) e

-- what is asked where `-m` begins the match
asked-begun : (table : Table) (name : List ℕ) (before : List Part) (start : Part) (after : List Part) → begins name start ≡ true → asked_first table before (start ∷ after) ≡ asked_by table name after
asked-begun table name before start after e = go (is_role role.Match start.row.role) refl
  where
    value : (t : Bool) → (t && bytes_eq (value_of start) name) ≡ true → (t ≡ true) × (value_of start ≡ name)
    value true h = (refl, (bytes_eq-Decides (value_of start) name).0 h)
    value false h = absurd (cc)

    other : List Condition
    other =
        cond (is_role role.Protocol start.row.role) (cond (is_read table start) [] (protocol_condition start ∷ []))
        (asking.implied_by table before start.row.owner (start ∷ after))

    go : (t : Bool) → is_role role.Match start.row.role ≡ t → cond t (asked_by table (value_of start) after) other ≡ asked_by table name after
    go true h = ap (λ (v : List ℕ). asked_by table v after) (value (is_role role.Match start.row.role) e).1
    go false h = let k = (value (is_role role.Match start.row.role) e).0 in absurd (cc)

-- what is asked where an option of it does
asked-implied : (table : Table) (name : List ℕ) (before : List Part) (start : Part) (after : List Part) → is_of name start ≡ true → name ≢ [] → is_there name before ≡ false → IsNoStart start.row
    → asked_first table before (start ∷ after) ≡ asked_by table name (start ∷ after)
asked-implied table name before start after of some none own =
    let owner : start.row.owner ≡ name = (bytes_eq-Decides start.row.owner name).0 of in
    let (no_match, no_protocol) = no-start start.row own (λ e. some (sym owner ∙ e)) in
    let implied = asking.implied_by table before start.row.owner (start ∷ after) in
    let protocol : List Condition = cond (is_read table start) [] (protocol_condition start ∷ []) in
    ap (λ t. cond t (asked_by table (value_of start) after) (cond (is_role role.Protocol start.row.role) protocol implied)) no_match
    ∙ ap (λ t. cond t protocol implied) no_protocol
    ∙ ap (λ (n : List ℕ). asking.implied_by table before n (start ∷ after)) owner
    ∙ ap (λ t. cond (t || is_there name before) [] (asked_by table name (start ∷ after))) (long name some)
    ∙ ap (λ t. cond t [] (asked_by table name (start ∷ after))) none
  where
    long : (n : List ℕ) → n ≢ [] → (length n == 0) ≡ false
    long [] h = absurd (h refl)
    long (b ∷ bs) h = ne_eqb (length (b ∷ bs)) 0 (λ e. omega (arith, e))

-- after the last `-m` of its match
lost-begun : (table : Table) (name : List ℕ) (before after : List Part) (part : Part) → part.row.owner ≡ name → begins name part ≡ false → is_of name part ≡ true → is_read table part ≡ false → LastBegun name before
    → IsAskedAmong table (before ++ part ∷ after) part (conditions table (before ++ part ∷ after))
lost-begun table name before after part owner no_start of unread_is h =
    let from = h.after ++ part ∷ after in
    let line : before ++ part ∷ after ≡ h.before ++ h.start ∷ from = ap (λ (l : List Part). l ++ part ∷ after) h.split ∙ append_assoc h.before (h.start ∷ h.after) (part ∷ after) in
    let has = in-asked table name h.after part after h.free no_start of unread_is in
    let asked : All (Contains (conditions table (before ++ part ∷ after))) (asked_by table name from) =
    subst (λ (l : List Part). All (Contains (conditions table l)) (asked_by table name from)) (sym line)
    (subst (λ (l : List Condition). All (Contains (conditions table (h.before ++ h.start ∷ from))) l) (asked-begun table name h.before h.start from h.begun)
    (included-line table h.before (h.start ∷ from))) in
    record {
      before = h.before ++ h.start ∷ [];
      from = from;
      split = line ∙ sym (append_assoc h.before (h.start ∷ []) from);
      has = subst (λ (n : List ℕ). Contains (asked_options table n (up_to_next n from)) part) (sym owner) has;
      asked = subst (λ (n : List ℕ). All (Contains (conditions table (before ++ part ∷ after))) (asked_by table n from)) (sym owner) asked;
    }

-- where no `-m` begins it: from its first option on
lost-implied : (table : Table) (name : List ℕ) (before : List Part) (start : Part) (between after : List Part) (part : Part) (line : List Part) → line ≡ before ++ start ∷ between → is_of name start ≡ true → name ≢ [] → is_there name before ≡ false
    → IsNoStart start.row → part.row.owner ≡ name → Contains (asked_options table name (up_to_next name (start ∷ between))) part → IsAskedAmong table line part (conditions table line)
lost-implied table name before start between after part line split of some none own owner has =
    let from = start ∷ between in
    let asked : All (Contains (conditions table line)) (asked_by table name from) =
    subst (λ (l : List Part). All (Contains (conditions table l)) (asked_by table name from)) (sym split)
    (subst (λ (l : List Condition). All (Contains (conditions table (before ++ from))) l) (asked-implied table name before start between of some none own)
    (included-line table before from)) in
    record {
      before = before;
      from = from;
      split = split;
      has = subst (λ (n : List ℕ). Contains (asked_options table n (up_to_next n from)) part) (sym owner) has;
      asked = subst (λ (n : List ℕ). All (Contains (conditions table line)) (asked_by table n from)) (sym owner) asked;
    }

at-split : {X : Type 0} (P : X → Type 0) (xs : List X) (x : X) (ys : List X) → All P (xs ++ x ∷ ys) → P x
at-split P [] x ys h = All-head P x ys h
at-split P (z ∷ zs) x ys h = at-split P zs x ys (All-tail P z (zs ++ x ∷ ys) h)

none-right : (test : Part → Bool) (xs ys : List Part) → list_any test (xs ++ ys) ≡ false → list_any test ys ≡ false
none-right test [] ys h = h
none-right test (x ∷ xs) ys h = none-right test xs ys (or_parts (test x) (list_any test (xs ++ ys)) h).1

second_true : (a b : Bool) → (a || b) ≡ true → a ≡ false → b ≡ true
second_true true b h e = absurd (cc)
second_true false b h e = h

-- before the part its match isn't begun by `-m`
lost-free : (table : Table) (name : List ℕ) (before after : List Part) (part : Part) → part.row.owner ≡ name → name ≢ [] → begins name part ≡ false → is_of name part ≡ true → is_read table part ≡ false
    → All (λ (p : Part). IsNoStart p.row) (before ++ part ∷ after) → list_any (begins name) before ≡ false → IsAskedAmong table (before ++ part ∷ after) part (conditions table (before ++ part ∷ after))
lost-free table name before after part owner some no_start of unread_is rows free = go (first_there name before)
  where
    line : List Part
    line = before ++ part ∷ after

    go : (is_there name before ≡ false) ⊎ FirstThere name before → IsAskedAmong table (before ++ part ∷ after) part (conditions table (before ++ part ∷ after))
    go (inl none) =
        lost-implied table name before part after after part (before ++ part ∷ after) refl of some none (at-split (λ (p : Part). IsNoStart p.row) before part after rows) owner
        (in-asked table name [] part after refl no_start of unread_is)
    go (inr f) =
        let between = f.after ++ part ∷ after in
        let split : before ++ part ∷ after ≡ f.before ++ f.start ∷ between = ap (λ (l : List Part). l ++ part ∷ after) f.split ∙ append_assoc f.before (f.start ∷ f.after) (part ∷ after) in
        let none : list_any (begins name) (f.start ∷ f.after) ≡ false =
        none-right (begins name) f.before (f.start ∷ f.after) (sym (ap (list_any (begins name)) f.split) ∙ free) in
        let (plain, rest) = or_parts (begins name f.start) (list_any (begins name) f.after) none in
        lost-implied table name f.before f.start between after part (before ++ part ∷ after) split (second_true (begins name f.start) (is_of name f.start) f.there plain) some f.none
        (at-split (λ (p : Part). IsNoStart p.row) f.before f.start between (subst (λ (l : List Part). All (λ (p : Part). IsNoStart p.row) l) split rows)) owner
        (in-asked table name (f.start ∷ f.after) part after none no_start of unread_is)

pub options_are_asked : (table : Table) (words : List (List ℕ)) (before after : List Part) (part : Part) → HasOwnStarts table
    → IsTakenApart table words (before ++ part ∷ after) → is_read table part ≡ false → part.row.owner ≢ []
    → IsAskedAmong table (before ++ part ∷ after) part (conditions table (before ++ part ∷ after))
options_are_asked table words before after part own apart unread_is some = go (last_begun name before)
  where
    name : List ℕ
    name = part.row.owner

    rows : All (λ (p : Part). IsNoStart p.row) (before ++ part ∷ after)
    rows = rows_one IsNoStart table [] (before ++ part ∷ after) own apart.each

    no_start : begins name part ≡ false
    no_start = not-begins name part (no-start part.row (at-split (λ (p : Part). IsNoStart p.row) before part after rows) some).0

    of : is_of name part ≡ true
    of = (bytes_eq-Decides part.row.owner name).1 refl

    go : (list_any (begins name) before ≡ false) ⊎ LastBegun name before → IsAskedAmong table (before ++ part ∷ after) part (conditions table (before ++ part ∷ after))
    go (inl free) = lost-free table name before after part refl some no_start of unread_is rows free
    go (inr h) = lost-begun table name before after part refl no_start of unread_is h

pub matches_are_asked : MatchesAreAsked
matches_are_asked table before after name start begun =
    subst (λ (l : List Condition). All (Contains (conditions table (before ++ start ∷ after))) l) (asked-begun table name before start after begun) (included-line table before (start ∷ after))

-- what is asked where a protocol stands
asked-protocol : (table : Table) (before : List Part) (part : Part) (after : List Part) → is_role role.Protocol part.row.role ≡ true → is_read table part ≡ false → asked_first table before (part ∷ after) ≡ protocol_condition part ∷ []
asked-protocol table before part after e unread_is =
    let is : role_number part.row.role ≡ 3 = eqb-true (role_number part.row.role) 3 e in
    let protocol : List Condition = cond (is_read table part) [] (protocol_condition part ∷ []) in
    let implied : List Condition = asking.implied_by table before part.row.owner (part ∷ after) in
    ap (λ k. cond (k == 4) (asked_by table (value_of part) after) (cond (k == 3) protocol implied)) is ∙ ap (λ t. cond t [] (protocol_condition part ∷ [])) unread_is

pub protocols_are_asked : ProtocolsAreAsked
protocols_are_asked table before after part e unread_is =
    let all : All (Contains (conditions table (before ++ part ∷ after))) (protocol_condition part ∷ []) =
    subst (λ (l : List Condition). All (Contains (conditions table (before ++ part ∷ after))) l) (asked-protocol table before part after e unread_is) (included-line table before (part ∷ after)) in
    All-head (Contains (conditions table (before ++ part ∷ after))) (protocol_condition part) [] all
