-- The own words of a line without newlines have none.
use Rattle.std.proofs.Common.{◌≢◌, ◌<◌, ℕ, Bool, true, false, ◌&&◌, cond, List, [], ◌∷◌, ◌++◌, map, flat_map, subst, Option, Some, None, arith}
use Rattle.std.specs.Prelude.{All, IfSome, codes, find, option_map}
use Rattle.std.specs.Str.{bytes_eq}
use Rattle.std.proofs.lemmas.List.Elements.{All-nil, All-cons, All-head, All-tail, All-append, All-push}
use Rattle.fields.specs.text.Line.{IsOneLine, AreOneLine}
use Rattle.dumps.specs.Options.{Table, decides, number_of, is_role}
use Rattle.dumps.specs.Parts.{Part, spelled_words, part_words}
use Rattle.dumps.specs.Own.{number_or, numbered, is_separator, all_numbered, all_numbered_after, given_value, given_words, is_own, own_part_words, own_words, HasNumbersInOneLine, OwnLinesReadBack}
use Rattle.dumps.specs.declared.options.row.Role.{Role}
use Rattle.dumps.specs.declared.options.row.Role.TheVariants as role
use Rattle.dumps.proofs.laws.OwnLaws.{lines_read_back}

abbrev Rows : Type 0
Rows = List (List ℕ × List ℕ)

abbrev Numbers : Rows → Type 0
Numbers rows = All (λ (row : List ℕ × List ℕ). IsOneLine row.1) rows

pub left-all : {X : Type 0} (P : X → Type 0) (xs ys : List X) → All P (xs ++ ys) → All P xs
left-all P [] ys h = All-nil P
left-all P (x ∷ xs) ys h = All-cons P x xs (All-head P x (xs ++ ys) h) (left-all P xs ys (All-tail P x (xs ++ ys) h))

pub right-all : {X : Type 0} (P : X → Type 0) (xs ys : List X) → All P (xs ++ ys) → All P ys
right-all P [] ys h = h
right-all P (x ∷ xs) ys h = right-all P xs ys (All-tail P x (xs ++ ys) h)

number_one : (rows : Rows) → Numbers rows → (name : List ℕ) → IfSome (number_of rows name) IsOneLine
number_one [] h name = tt
number_one (row ∷ rows) h name = go (bytes_eq row.0 name) (number_one rows (All-tail (λ (r : List ℕ × List ℕ). IsOneLine r.1) row rows h) name)
  where
    go : (b : Bool) → IfSome (number_of rows name) IsOneLine
        → IfSome (option_map (λ (r : List ℕ × List ℕ). r.1) (cond b (Some row) (find (λ (r : List ℕ × List ℕ). bytes_eq r.0 name) rows))) IsOneLine
    go true rest = All-head (λ (r : List ℕ × List ℕ). IsOneLine r.1) row rows h
    go false rest = rest

numbered_one : (rows : Rows) → Numbers rows → (text : List ℕ) → IsOneLine text → IsOneLine (numbered rows text)
numbered_one rows h text one = go (number_of rows text) (number_one rows h text)
  where
    go : (n : Option (List ℕ)) → IfSome n IsOneLine → IsOneLine (number_or text n)
    go None k = one
    go (Some number) k = k

all_numbered_one : (rows : Rows) → Numbers rows → (piece value : List ℕ) → IsOneLine piece → IsOneLine value → IsOneLine (all_numbered_after rows piece value)
all_numbered_one rows h piece [] first rest = numbered_one rows h piece first
all_numbered_one rows h piece (byte ∷ bytes) first rest =
    let here : byte ≢ 10 = All-head (λ (b : ℕ). b ≢ 10) byte bytes rest in
    let further : IsOneLine bytes = All-tail (λ (b : ℕ). b ≢ 10) byte bytes rest in
    go (is_separator byte) here (all_numbered_one rows h [] bytes (All-nil (λ (b : ℕ). b ≢ 10)) further)
    (all_numbered_one rows h (piece ++ byte ∷ []) bytes (All-push (λ (b : ℕ). b ≢ 10) piece byte first here) further)
  where
    go : (b : Bool) → byte ≢ 10 → IsOneLine (all_numbered_after rows [] bytes) → IsOneLine (all_numbered_after rows (piece ++ byte ∷ []) bytes)
        → IsOneLine (cond b (numbered rows piece ++ byte ∷ all_numbered_after rows [] bytes) (all_numbered_after rows (piece ++ byte ∷ []) bytes))
    go true here anew on =
        All-append (λ (b : ℕ). b ≢ 10) (numbered rows piece) (byte ∷ all_numbered_after rows [] bytes) (numbered_one rows h piece first)
        (All-cons (λ (b : ℕ). b ≢ 10) byte (all_numbered_after rows [] bytes) here anew)
    go false here anew on = on

value_one : (table : Table) (r : Role) (value : List ℕ) → HasNumbersInOneLine table → IsOneLine value → IsOneLine (given_value table r value)
value_one table r value h one = go (is_role role.Ports r) (is_role role.IcmpType r) (is_role role.Target r && decides table value)
  where
    byte_one : (b : ℕ) → 10 < b → (bytes : List ℕ) → IsOneLine bytes → IsOneLine (b ∷ bytes)
    byte_one b after bytes rest = All-cons (λ (x : ℕ). x ≢ 10) b bytes (λ e. omega (arith, after, e)) rest

    drop_one : IsOneLine (codes "DROP")
    drop_one =
        byte_one 68 (omega arith) (82 ∷ (79 ∷ (80 ∷ []))) (byte_one 82 (omega arith) (79 ∷ (80 ∷ []))
        (byte_one 79 (omega arith) (80 ∷ []) (byte_one 80 (omega arith) [] (All-nil (λ (x : ℕ). x ≢ 10)))))

    go : (a b d : Bool) → IsOneLine (cond a (all_numbered table.ports value) (cond b (numbered table.icmp_types value) (cond d (codes "DROP") value)))
    go true b d = all_numbered_one table.ports h.0 [] value (All-nil (λ (b : ℕ). b ≢ 10)) one
    go false true d = numbered_one table.icmp_types h.1 value one
    go false false true = drop_one
    go false false false = one

values_one : (table : Table) (r : Role) (values : List (List ℕ)) → HasNumbersInOneLine table → AreOneLine values → AreOneLine (map (given_value table r) values)
values_one table r [] h one = All-nil IsOneLine
values_one table r (value ∷ values) h one =
    All-cons IsOneLine (given_value table r value) (map (given_value table r) values) (value_one table r value h (All-head IsOneLine value values one))
    (values_one table r values h (All-tail IsOneLine value values one))

plain_one : (table : Table) (r : Role) (option : List ℕ) (values : List (List ℕ)) → HasNumbersInOneLine table → AreOneLine (option ∷ values) → AreOneLine (option ∷ map (given_value table r) values)
plain_one table r option values h one =
    All-cons IsOneLine option (map (given_value table r) values) (All-head IsOneLine option values one) (values_one table r values h (All-tail IsOneLine option values one))

words_one : (table : Table) (r : Role) (inverted : Bool) (option : List ℕ) (values : List (List ℕ)) → HasNumbersInOneLine table → AreOneLine (spelled_words inverted option values)
    → AreOneLine (spelled_words inverted option (map (given_value table r) values))
words_one table r false option values h one = plain_one table r option values h one
words_one table r true option values h one =
    All-cons IsOneLine (codes "!") (option ∷ map (given_value table r) values) (All-head IsOneLine (codes "!") (option ∷ values) one)
    (plain_one table r option values h (All-tail IsOneLine (codes "!") (option ∷ values) one))

-- own words of words without newlines
pub own_one : (table : Table) (parts : List Part) → HasNumbersInOneLine table → AreOneLine (flat_map part_words parts) → AreOneLine (own_words table parts)
own_one table [] h one = All-nil IsOneLine
own_one table (part ∷ parts) h one =
    All-append IsOneLine (own_part_words table part parts) (own_words table parts) (go (is_own table part parts))
    (own_one table parts h (right-all IsOneLine (part_words part) (flat_map part_words parts) one))
  where
    go : (b : Bool) → AreOneLine (cond b (given_words table part) [])
    go true = words_one table part.row.role part.inverted part.option part.values h (left-all IsOneLine (part_words part) (flat_map part_words parts) one)
    go false = All-nil IsOneLine

pub own_lines_read_back : OwnLinesReadBack
own_lines_read_back table words parts h one apart = lines_read_back (own_words table parts) (own_one table parts h (subst AreOneLine apart.whole one))
