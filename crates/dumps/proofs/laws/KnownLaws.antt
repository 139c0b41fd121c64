-- Options and matches that are added to the table.
use Rattle.std.specs.Borrow.{Bor}
use Rattle.std.specs.Prelude.{All, Result, Ok, Err, OnOk}
use Rattle.dumps.specs.declared.options.row.Role.TheVariants as role
use Rattle.std.specs.List.{list_any}
use Rattle.std.proofs.lemmas.List.{take-append-le, map-append, length-take, drop-take}
use Rattle.std.proofs.Math.Seq.{drop-append_seam, take-length}
use Rattle.std.proofs.Math.ListN.{drop_of_length-le}
use Rattle.std.proofs.Math.Nat.{min-le_left}
use Rattle.std.proofs.lemmas.List.Elements.{All-weaker, All-push, All-head, All-tail}
use Rattle.std.proofs.Common.{◌≡◌, ◌≤◌, ◌<◌, ◌+◌, ◌-◌, ℕ, Bool, true, false, cond, List, [], ◌∷◌, ◌++◌, length, map, take, drop, Option, None, Some, is_some, option_map, find, IfSome, refl, ap, sym, subst, ◌∙◌, arith}
use Rattle.std.specs.Str.{bytes_eq}
use Rattle.dumps.specs.Kept.{AreWithin}
use Rattle.dumps.specs.Known.{words_at, added_match, with_match, kept_row, kept_extension, known_rows, is_spelled, own_owner, Written, written_by, kind_of, name_refusal, IsAddRefused, Name, There, IsMatchRefused, OfName}
use Rattle.dumps.specs.Options.{Row, Extension, extension_of}
use Rattle.dumps.specs.Views.{texts_in}
use Rattle.dumps.specs.declared.options.kept.Span.{Span}
use Rattle.dumps.specs.declared.options.kept.KeptOption.{KeptOption}
use Rattle.dumps.specs.declared.options.kept.KeptExtension.{KeptExtension}
use Rattle.dumps.specs.declared.options.kept.KnownOptions.{KnownOptions}
use Rattle.dumps.specs.declared.options.refusal.OptionRefusal.{OptionRefusal}
use Rattle.dumps.specs.declared.options.refusal.OptionRefusal.TheVariants as refusal

-- its name gets none
pub name_refused : (text : List ℕ) (old : KnownOptions) (row : Written) (r : OptionRefusal) (came : Option (OptionRefusal × List ℕ)) → written_by text ≡ Some row
    → name_refusal (kind_of old.extensions.items row.name) ≡ Some r → IfSome came (λ why. why ≡ (r, row.name)) → IfSome came (IsAddRefused text old)
name_refused text old row r None written refuses h = tt
name_refused text old row r (Some why) written refuses h = Name row r written refuses h

-- one is there
pub there_refused : (text : List ℕ) (old : KnownOptions) (row : Written) (came : Option (OptionRefusal × List ℕ)) → written_by text ≡ Some row
    → list_any (is_spelled row.name row.option) (known_rows old) ≡ true → IfSome came (λ why. why ≡ (refusal.OptionIsThere, row.option)) → IfSome came (IsAddRefused text old)
there_refused text old row None written there h = tt
there_refused text old row (Some why) written there h = There row written there h

-- spans stay within more words
pub within_more : (n m : ℕ) (options : List KeptOption) (extensions : List KeptExtension) → n ≤ m → AreWithin n options extensions → AreWithin m options extensions
within_more n m options extensions le h = record {
  names = All-weaker (λ (kept : KeptOption). kept.names.to ≤ n) (λ (kept : KeptOption). kept.names.to ≤ m) (λ kept w. omega (arith, w, le)) options h.names;
  protocols = All-weaker (λ (kept : KeptExtension). kept.protocols.to ≤ n) (λ (kept : KeptExtension). kept.protocols.to ≤ m) (λ kept w. omega (arith, w, le)) extensions h.protocols;
  sets = All-weaker (λ (kept : KeptExtension). kept.sets.to ≤ n) (λ (kept : KeptExtension). kept.sets.to ≤ m) (λ kept w. omega (arith, w, le)) extensions h.sets;
}

-- with one more option
pub within_option : (n : ℕ) (options : List KeptOption) (extensions : List KeptExtension) (kept : KeptOption) → kept.names.to ≤ n → AreWithin n options extensions
    → AreWithin n (options ++ kept ∷ []) extensions
within_option n options extensions kept le h = record {
  names = All-push (λ (k : KeptOption). k.names.to ≤ n) options kept h.names le;
  protocols = h.protocols;
  sets = h.sets;
}

-- with one more match or target
pub within_extension : (n : ℕ) (options : List KeptOption) (extensions : List KeptExtension) (kept : KeptExtension) → kept.protocols.to ≤ n → kept.sets.to ≤ n
    → AreWithin n options extensions → AreWithin n options (extensions ++ kept ∷ [])
within_extension n options extensions kept protocols sets h = record {
  names = h.names;
  protocols = All-push (λ (k : KeptExtension). k.protocols.to ≤ n) extensions kept h.protocols protocols;
  sets = All-push (λ (k : KeptExtension). k.sets.to ≤ n) extensions kept h.sets sets;
}

-- the same where it may have been refused
pub within_pushed : (n : ℕ) (options : List KeptOption) (extensions new : List KeptExtension) (kept : KeptExtension) (pushed : Bool) → kept.protocols.to ≤ n → kept.sets.to ≤ n
    → new ≡ cond pushed (extensions ++ kept ∷ []) extensions → AreWithin n options extensions → AreWithin n options new
within_pushed n options extensions new kept true protocols sets is h = subst (AreWithin n options) (sym is) (within_extension n options extensions kept protocols sets h)
within_pushed n options extensions new kept false protocols sets is h = subst (AreWithin n options) (sym is) h

-- a part of a list, by the two ways to take it
pub part_taken : {X : Type 0} (xs : List X) (a b : ℕ) → a ≤ b → take (b - a) (drop a xs) ≡ drop a (take b xs)
part_taken {X} xs a b le =
    let whole : a + (b - a) ≡ b = omega (arith, le) in
    sym (drop-take a (b - a) xs) ∙ ap (λ n. drop a (take n xs)) whole

pub nothing_taken : {X : Type 0} (xs : List X) (a b : ℕ) → b < a → [] ≡ drop a (take b xs)
nothing_taken {X} xs a b lt =
    let short : length (take b xs) ≤ a = omega (arith, lt, length-take b xs, min-le_left b (length xs)) in
    sym (drop_of_length-le (take b xs) short)

-- the words of a span stay where more words follow
pub words_stay : (words more : List (Bor (List ℕ))) (span : Span) → span.to ≤ length words → words_at (words ++ more) span ≡ words_at words span
words_stay words more span le = ap (λ (l : List (Bor (List ℕ))). texts_in (drop span.from l)) (take-append-le span.to words more le)

-- so options stay
pub options_stay : (words more : List (Bor (List ℕ))) (options : List KeptOption) → All (λ (kept : KeptOption). kept.names.to ≤ length words) options
    → map (kept_row (words ++ more)) options ≡ map (kept_row words) options
options_stay words more [] h = refl
options_stay words more (kept ∷ options) h =
    let P : KeptOption → Type 0 = λ k. k.names.to ≤ length words in
    let one : kept_row (words ++ more) kept ≡ kept_row words kept =
    ap (λ (names : List (List ℕ)). record { owner = own_owner kept.role kept.owner.now; names = names; values = kept.values; role = kept.role }) (words_stay words more kept.names (All-head P kept options h)) in
    ap (λ (row : Row). row ∷ map (kept_row (words ++ more)) options) one
    ∙ ap (λ (rows : List Row). kept_row words kept ∷ rows) (options_stay words more options (All-tail P kept options h))

-- and matches and targets
pub extensions_stay : (words more : List (Bor (List ℕ))) (extensions : List KeptExtension) → All (λ (kept : KeptExtension). kept.protocols.to ≤ length words) extensions
    → All (λ (kept : KeptExtension). kept.sets.to ≤ length words) extensions
    → map (kept_extension (words ++ more)) extensions ≡ map (kept_extension words) extensions
extensions_stay words more [] h k = refl
extensions_stay words more (kept ∷ extensions) h k =
    let P : KeptExtension → Type 0 = λ e. e.protocols.to ≤ length words in
    let Q : KeptExtension → Type 0 = λ e. e.sets.to ≤ length words in
    let one : kept_extension (words ++ more) kept ≡ kept_extension words kept =
    ap (λ (protocols : List (List ℕ)). record { name = kept.name.now; kind = kept.kind; protocols = protocols; sets = words_at (words ++ more) kept.sets })
    (words_stay words more kept.protocols (All-head P kept extensions h))
    ∙ ap (λ (sets : List (List ℕ)). record { name = kept.name.now; kind = kept.kind; protocols = words_at words kept.protocols; sets = sets })
    (words_stay words more kept.sets (All-head Q kept extensions k)) in
    ap (λ (row : Extension). row ∷ map (kept_extension (words ++ more)) extensions) one
    ∙ ap (λ (rows : List Extension). kept_extension words kept ∷ rows) (extensions_stay words more extensions (All-tail P kept extensions h) (All-tail Q kept extensions k))

-- a match is there by its row just if it is there by its kind
match_by_kind : (words : List (Bor (List ℕ))) (kept : List KeptExtension) (name : List ℕ) → is_some (extension_of (map (kept_extension words) kept) name) ≡ is_some (kind_of kept name)
match_by_kind words [] name = refl
match_by_kind words (e ∷ kept) name = go (bytes_eq e.name.now name) (match_by_kind words kept name)
  where
    go : (b : Bool) → is_some (extension_of (map (kept_extension words) kept) name) ≡ is_some (kind_of kept name)
        → is_some (cond b (Some (kept_extension words e)) (extension_of (map (kept_extension words) kept) name))
        ≡ is_some (option_map (λ (x : KeptExtension). x.kind) (cond b (Some e) (find (λ (x : KeptExtension). bytes_eq x.name.now name) kept)))
    go true rest = refl
    go false rest = rest

-- a match that is added is the last
pub match_pushed : (words : List (Bor (List ℕ))) (kept : List KeptExtension) (name : List ℕ) (e : KeptExtension) → is_some (kind_of kept name) ≡ false
    → kept_extension words e ≡ added_match name → map (kept_extension words) (kept ++ e ∷ []) ≡ with_match name (map (kept_extension words) kept)
match_pushed words kept name e none is =
    let rows = map (kept_extension words) kept in
    map-append (kept_extension words) kept (e ∷ [])
    ∙ ap (λ (row : Extension). rows ++ row ∷ []) is
    ∙ sym (ap (λ t. cond t rows (rows ++ added_match name ∷ [])) (match_by_kind words kept name ∙ none))

-- one that is there stays
pub match_stays_there : (words : List (Bor (List ℕ))) (kept : List KeptExtension) (name : List ℕ) → is_some (kind_of kept name) ≡ true
    → map (kept_extension words) kept ≡ with_match name (map (kept_extension words) kept)
match_stays_there words kept name there =
    let rows = map (kept_extension words) kept in
    sym (ap (λ t. cond t rows (rows ++ added_match name ∷ [])) (match_by_kind words kept name ∙ there))

-- the last word alone
pub last_word : (words : List (Bor (List ℕ))) (word : Bor (List ℕ)) → texts_in (drop (length words) (take (length (words ++ word ∷ [])) (words ++ word ∷ []))) ≡ word.now ∷ []
last_word words word =
    ap (λ (l : List (Bor (List ℕ))). texts_in (drop (length words) l)) (take-length (words ++ word ∷ []))
    ∙ ap texts_in (drop-append_seam words (word ∷ []))

-- an option whose only spelling is the last word is the last row
pub option_pushed : (words : List (Bor (List ℕ))) (word : Bor (List ℕ)) (options : List KeptOption) (owner : Bor (List ℕ)) (values from to : ℕ)
    → from ≡ length words → to ≡ length (words ++ word ∷ []) → All (λ (k : KeptOption). k.names.to ≤ length words) options
    → map (kept_row (words ++ word ∷ [])) (options ++ record { owner = owner; names = record { from = from; to = to }; values = values; role = role.Unopposed } ∷ [])
    ≡ map (kept_row words) options ++ record { owner = owner.now; names = word.now ∷ []; values = values; role = role.Unopposed } ∷ []
option_pushed words word options owner values from to begins ends within =
    let more = words ++ word ∷ [] in
    let kept : KeptOption = record { owner = owner; names = record { from = from; to = to }; values = values; role = role.Unopposed } in
    let at_last : List (List ℕ) → Row = λ names. record { owner = owner.now; names = names; values = values; role = role.Unopposed } in
    let names : texts_in (drop from (take to more)) ≡ word.now ∷ [] =
    ap (λ n. texts_in (drop n (take to more))) begins ∙ ap (λ n. texts_in (drop (length words) (take n more))) ends ∙ last_word words word in
    map-append (kept_row more) options (kept ∷ [])
    ∙ ap (λ (rows : List Row). rows ++ kept_row more kept ∷ []) (options_stay words (word ∷ []) options within)
    ∙ ap (λ (n : List (List ℕ)). map (kept_row words) options ++ at_last n ∷ []) names

-- what always holds
pub ok_always : {T E : Type 0} (r : Result T E) (P : Type 0) → P → OnOk r P
ok_always (Ok x) P p = p
ok_always (Err e) P p = tt

-- why a match isn't added
pub match_refused : (name : List ℕ) (old : KnownOptions) (r : OptionRefusal) (came : Option (OptionRefusal × List ℕ))
    → name_refusal (kind_of old.extensions.items name) ≡ Some r → IfSome came (λ why. why ≡ (r, name)) → IfSome came (IsMatchRefused name old)
match_refused name old r None refuses h = tt
match_refused name old r (Some why) refuses h = OfName r refuses h
