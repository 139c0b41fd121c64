-- No option that the program doesn't read is lost.
use Rattle.std.proofs.Common.{◌≡◌, ◌≢◌, ℕ, ◌==◌, Bool, true, false, cond, not, ◌&&◌, ◌||◌, List, [], ◌∷◌, ◌++◌, length, refl, sym, ap, subst, Option, None, Some, option_map, ◌<◌, arith, ne_eqb}
use Rattle.std.specs.Prelude.{All, Contains, IfSome, find}
use Rattle.std.specs.List.{list_any}
use Rattle.std.specs.Option.{option_or}
use Rattle.std.specs.Str.{bytes_eq}
use Rattle.std.proofs.lemmas.Slice.Eq.{bytes_eq-Decides}
use Rattle.std.proofs.lemmas.List.Elements.{All-nil, All-cons, All-head, All-tail, All-push}
use Rattle.dumps.specs.Options.{Row, Extension, Table, is_role, option_of, extension_of, is_match, has_kind, has_match, has_target, begun_by_protocol}
use Rattle.dumps.specs.Parts.{Part, value_of, UnknownMatch, option_of_begun, begun_by, implied_by, newest, option_after, refused_with, AreParts}
use Rattle.dumps.specs.Own.{up_to_next}
use Rattle.dumps.specs.Conditions.{Condition, condition_of, unless_always, asked_as, asked_of, always_hold, asked_options, conditions, lasting_of, IsAccounted, Asks, Holds, OfTarget, IsNotLost, OptionsAreKept, NothingIsLost}
use Rattle.dumps.specs.declared.options.row.Role.TheVariants as role
use Rattle.dumps.specs.declared.options.row.Kind.{Kind}
use Rattle.dumps.specs.declared.options.row.Kind.TheVariants as kind
use Rattle.dumps.specs.declared.options.row.Lasting.{Lasting}
use Rattle.dumps.specs.declared.options.row.Lasting.TheVariants as lasting
use Rattle.dumps.proofs.laws.AskedLaws.{IsAskedAmong, either_one, options_are_asked, matches_are_asked, protocols_are_asked}

-- the table has a match or target of this name
abbrev HasName : Table → List ℕ → Type 0
HasName table name = (e : Extension) × (extension_of table.extensions name ≡ Some e) × (e.name ≡ name)

-- what is found passes the test
found-passes : {X : Type 0} (test : X → Bool) (xs : List X) → IfSome (find test xs) (λ x. test x ≡ true)
found-passes test [] = tt
found-passes test (x ∷ xs) = go (test x) refl (found-passes test xs)
  where
    go : (t : Bool) → test x ≡ t → IfSome (find test xs) (λ y. test y ≡ true) → IfSome (cond t (Some x) (find test xs)) (λ y. test y ≡ true)
    go true e rest = e
    go false e rest = rest

named : (exts : List Extension) (name : List ℕ) (o : Option Extension) → o ≡ find (λ (row : Extension). bytes_eq row.name name) exts → IfSome o (λ e. bytes_eq e.name name ≡ true)
named exts name o is = subst (λ (x : Option Extension). IfSome x (λ e. bytes_eq e.name name ≡ true)) (sym is) (found-passes (λ (row : Extension). bytes_eq row.name name) exts)

has-name : (table : Table) (name : List ℕ) (o : Option Extension) (test : Kind → Bool) → o ≡ extension_of table.extensions name → has_kind test o ≡ true → HasName table name
has-name table name None test is e = absurd (cc)
has-name table name (Some x) test is e = (x, sym is, (bytes_eq-Decides x.name name).0 (named table.extensions name (Some x) is))

-- each part begins what the table has
begun-named : (table : Table) (part : Part) → refused_with table part.row.role (value_of part) ≡ None → IfSome (begun_by table part) (HasName table)
begun-named table part allowed = go (is_role role.Match part.row.role) (is_role role.Target part.row.role) (has_match table value) (has_target table value) refl refl allowed
  where
    value : List ℕ
    value = value_of part

    go : (m t h g : Bool) → has_match table value ≡ h → has_target table value ≡ g
        → cond (m && not h) (Some (UnknownMatch value)) None ≡ None
        → IfSome (cond (m || t && g) (Some value) None) (HasName table)
    go true t true g e f a = has-name table value (extension_of table.extensions value) is_match refl e
    go true t false g e f a = absurd (cc)
    go false true h true e f a = has-name table value (extension_of table.extensions value) (λ k. not (is_match k)) refl f
    go false true h false e f a = tt
    go false false h g e f a = tt

first-named : (exts : List Extension) (test : Extension → Bool) → IfSome (find test exts) (λ x. (e : Extension) × (extension_of exts x.name ≡ Some e))
first-named [] test = tt
first-named (y ∷ ys) test = go (test y) (first-named ys test)
  where
    itself : (t : Bool) → bytes_eq y.name y.name ≡ t → (e : Extension) × (cond t (Some y) (extension_of ys y.name) ≡ Some e)
    itself true e = (y, refl)
    itself false e = let yes = (bytes_eq-Decides y.name y.name).1 refl in absurd (cc)

    later : (x e : Extension) (t : Bool) → extension_of ys x.name ≡ Some e → (f : Extension) × (cond t (Some y) (extension_of ys x.name) ≡ Some f)
    later x e true h = (y, refl)
    later x e false h = (e, h)

    after : (o : Option Extension) → IfSome o (λ x. (e : Extension) × (extension_of ys x.name ≡ Some e)) → IfSome o (λ x. (e : Extension) × (extension_of (y ∷ ys) x.name ≡ Some e))
    after None h = tt
    after (Some x) h = later x h.0 (bytes_eq y.name x.name) h.1

    go : (t : Bool) → IfSome (find test ys) (λ x. (e : Extension) × (extension_of ys x.name ≡ Some e))
        → IfSome (cond t (Some y) (find test ys)) (λ x. (e : Extension) × (extension_of (y ∷ ys) x.name ≡ Some e))
    go true h = itself (bytes_eq y.name y.name) refl
    go false h = after (find test ys) h

implied-named : (table : Table) (part : Part) → IfSome (implied_by table part) (HasName table)
implied-named table part = go (is_role role.Protocol part.row.role && not part.inverted)
  where
    test : Extension → Bool
    test row = list_any (bytes_eq (value_of part)) row.protocols

    whole : (o : Option Extension) → IfSome o (λ x. (e : Extension) × (extension_of table.extensions x.name ≡ Some e)) → IfSome (option_map (λ (row : Extension). row.name) o) (HasName table)
    whole None h = tt
    whole (Some x) h = (h.0, h.1, (bytes_eq-Decides h.0.name x.name).0 (named table.extensions x.name (Some h.0) (sym h.1)))

    go : (t : Bool) → IfSome (cond t (begun_by_protocol table.extensions (value_of part)) None) (HasName table)
    go true = whole (find (λ (row : Extension). list_any (bytes_eq (value_of part)) row.protocols) table.extensions) (first-named table.extensions (λ (row : Extension). list_any (bytes_eq (value_of part)) row.protocols))
    go false = tt

-- the owner of an option is there, unless it is the rule's own
abbrev HasOwner : Table → Row → Type 0
HasOwner table row = row.owner ≢ [] → HasName table row.owner

both-true : (a b : Bool) → (a && b) ≡ true → a ≡ true
both-true true b e = refl
both-true false b e = absurd (cc)

owned : (table : Table) (name option : List ℕ) → IfSome (option_of table.options name option) (λ row. row.owner ≡ name)
owned table name option = go (option_of table.options name option) (found-passes (λ (row : Row). bytes_eq row.owner name && list_any (bytes_eq option) row.names) table.options)
  where
    go : (o : Option Row) → IfSome o (λ row. (bytes_eq row.owner name && list_any (bytes_eq option) row.names) ≡ true) → IfSome o (λ row. row.owner ≡ name)
    go None h = tt
    go (Some row) h = (bytes_eq-Decides row.owner name).0 (both-true (bytes_eq row.owner name) (list_any (bytes_eq option) row.names) h)

begun-owner : (table : Table) (option : List ℕ) (begun : Option (List ℕ)) → IfSome begun (HasName table) → IfSome (option_of_begun table option begun) (HasOwner table)
begun-owner table option None h = tt
begun-owner table option (Some name) h = go (option_of table.options name option) (owned table name option)
  where
    go : (o : Option Row) → IfSome o (λ row. row.owner ≡ name) → IfSome o (HasOwner table)
    go None e = tt
    go (Some row) e = λ _. subst (HasName table) (sym e) h

newest-owner : (table : Table) (begun : Part → Option (List ℕ)) (parts : List Part) (option : List ℕ) → All (λ (p : Part). IfSome (begun p) (HasName table)) parts
    → IfSome (newest table begun parts option) (HasOwner table)
newest-owner table begun [] option h = tt
newest-owner table begun (part ∷ parts) option h =
    either_one (HasOwner table) (newest table begun parts option) (option_of_begun table option (begun part))
    (newest-owner table begun parts option (All-tail (λ (p : Part). IfSome (begun p) (HasName table)) part parts h))
    (begun-owner table option (begun part) (All-head (λ (p : Part). IfSome (begun p) (HasName table)) part parts h))

own-owner : (table : Table) (option : List ℕ) → IfSome (option_of table.options [] option) (HasOwner table)
own-owner table option = go (option_of table.options [] option) (owned table [] option)
  where
    go : (o : Option Row) → IfSome o (λ row. row.owner ≡ []) → IfSome o (HasOwner table)
    go None e = tt
    go (Some row) e = λ some. absurd (some e)

implied-all : (table : Table) (parts : List Part) → All (λ (p : Part). IfSome (implied_by table p) (HasName table)) parts
implied-all table [] = All-nil (λ (p : Part). IfSome (implied_by table p) (HasName table))
implied-all table (part ∷ parts) = All-cons (λ (p : Part). IfSome (implied_by table p) (HasName table)) part parts (implied-named table part) (implied-all table parts)

after-owner : (table : Table) (before : List Part) (option : List ℕ) → All (λ (p : Part). IfSome (begun_by table p) (HasName table)) before → IfSome (option_after table before option) (HasOwner table)
after-owner table before option h =
    either_one (HasOwner table) (option_of table.options [] option) (option_or (newest table (begun_by table) before option) (newest table (implied_by table) before option)) (own-owner table option)
    (either_one (HasOwner table) (newest table (begun_by table) before option) (newest table (implied_by table) before option)
    (newest-owner table (begun_by table) before option h) (newest-owner table (implied_by table) before option (implied-all table before)))

owners : (table : Table) (before parts : List Part) → All (λ (p : Part). IfSome (begun_by table p) (HasName table)) before → AreParts table before parts → All (λ (p : Part). HasOwner table p.row) parts
owners table before [] h are = All-nil (λ (p : Part). HasOwner table p.row)
owners table before (part ∷ parts) h are =
    All-cons (λ (p : Part). HasOwner table p.row) part parts
    (subst (λ (r : Option Row). IfSome r (HasOwner table)) are.0.option (after-owner table before part.option h))
    (owners table (before ++ part ∷ []) parts (All-push (λ (p : Part). IfSome (begun_by table p) (HasName table)) before part h (begun-named table part are.0.allowed)) are.1)

at-split : {X : Type 0} (P : X → Type 0) (xs : List X) (x : X) (ys : List X) → All P (xs ++ x ∷ ys) → P x
at-split P [] x ys h = All-head P x ys h
at-split P (z ∷ zs) x ys h = at-split P zs x ys (All-tail P z (zs ++ x ∷ ys) h)

-- what some options ask is among the conditions, or always holds
kept-always : (table : Table) (all : List Condition) (owner : Extension) (parts : List Part) (lasts : Lasting) → lasting_of owner.kind ≡ Some lasts → is_match owner.kind ≡ true
    → All (Contains all) (unless_always owner.name lasts parts) → IsAccounted table all owner parts
kept-always table all owner parts lasts is match asked = go (always_hold parts) refl asked
  where
    go : (t : Bool) → always_hold parts ≡ t → All (Contains all) (cond t [] (condition_of owner.name lasts parts ∷ [])) → IsAccounted table all owner parts
    go true e h = Holds match e
    go false e h = Asks lasts is (All-head (Contains all) (condition_of owner.name lasts parts) [] h)

not-none : (parts : List Part) (part : Part) → Contains parts part → (length parts == 0) ≡ false
not-none [] part h = let inside : h.0 < 0 = h.1 in absurd (omega (arith, inside))
not-none (x ∷ xs) part h = ne_eqb (length (x ∷ xs)) 0 (λ e. omega (arith, e))

kept-as : (table : Table) (all : List Condition) (owner : Extension) (parts : List Part) (part : Part) (k : Kind) → owner.kind ≡ k → Contains parts part
    → All (Contains all) (asked_as owner.name parts k) → IsAccounted table all owner parts
kept-as table all owner parts part (kind.Known alone) is has asked =
    kept-always table all owner parts lasting.Place (ap lasting_of is) (ap is_match is)
    (subst (λ t. All (Contains all) (cond t [] (unless_always owner.name lasting.Place parts))) (not-none parts part has) asked)
kept-as table all owner parts part (kind.Foreign lasts) is has asked = kept-always table all owner parts lasts (ap lasting_of is) (ap is_match is) asked
kept-as table all owner parts part kind.Ends is has asked = OfTarget (ap is_match is)
kept-as table all owner parts part kind.Logs is has asked = OfTarget (ap is_match is)
kept-as table all owner parts part kind.Passes is has asked = OfTarget (ap is_match is)
kept-as table all owner parts part (kind.Decides every) is has asked = OfTarget (ap is_match is)

kept-by : (table : Table) (line : List Part) (part : Part) (all : List Condition) → HasName table part.row.owner → IsAskedAmong table line part all → IsNotLost table line part all
kept-by table line part all (owner, its, named) h =
    let parts = asked_options table part.row.owner (up_to_next part.row.owner h.from) in
    let same : asked_options table owner.name (up_to_next owner.name h.from) ≡ parts = ap (λ (n : List ℕ). asked_options table n (up_to_next n h.from)) named in
    let asked : All (Contains all) (asked_as owner.name parts owner.kind) =
    subst (λ (n : List ℕ). All (Contains all) (asked_as n parts owner.kind)) (sym named)
    (subst (λ (o : Option Extension). All (Contains all) (asked_of part.row.owner parts o)) its h.asked) in
    record {
      owner = owner;
      its = its;
      before = h.before;
      from = h.from;
      split = h.split;
      has = subst (λ (l : List Part). Contains l part) (sym same) h.has;
      accounted = subst (IsAccounted table all owner) (sym same) (kept-as table all owner parts part owner.kind refl h.has asked);
    }

options_are_kept : OptionsAreKept
options_are_kept table words before after part own apart unread_is some =
    kept-by table (before ++ part ∷ after) part (conditions table (before ++ part ∷ after))
    (at-split (λ (p : Part). HasOwner table p.row) before part after
    (owners table [] (before ++ part ∷ after) (All-nil (λ (p : Part). IfSome (begun_by table p) (HasName table))) apart.each) some)
    (options_are_asked table words before after part own apart unread_is some)

pub nothing_is_lost : NothingIsLost
nothing_is_lost = record { options = options_are_kept; matches = matches_are_asked; protocols = protocols_are_asked }
