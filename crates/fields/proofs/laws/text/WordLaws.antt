-- The function that finds the words of a line finds exactly the words that the line is made of, also at lines that are computed.
use Rattle.std.proofs.Common.{◌≡◌, ◌≢◌, ◌==◌, ◌↔◌, inl, inr, ℕ, Bool, true, false, cond, not, ◌&&◌, List, [], ◌∷◌, ◌++◌, Option, Some, None, refl, sym, ap, subst, ◌∙◌, append_assoc, ne_eqb, eq-eqb, Result, Ok, Err}
use Rattle.std.specs.Prelude.{MatchResult, IfOk, IfErr, codes}
use Rattle.std.specs.List.{list_all}
use Rattle.std.specs.Option.{option_map}
use Rattle.std.proofs.lemmas.Bool.{and_parts, and_from, not-true, eqb-true}
use Rattle.fields.specs.text.Words.{is_blank, AreBlanks, is_bare, IsQuotedByte, IsQuotedText, IsSpelling, EndsWord, AreWords, State, Between, Bare, Quoted, Escaped, Closed, Skips, Joins, Ends, Breaks, joins, transition_of, in_front, acted, words_from, words_of, OnQuoting}
use Rattle.fields.specs.Refusals.{or_refused}
use Rattle.fields.specs.declared.text.words.WordFault.{WordFault}
use Rattle.fields.specs.declared.text.words.WordFault.TheVariants.{Quoting, NoMemory}

-- ---- The function that finds the words of a line finds exactly the words that the line is made of.

-- From the spellings to the words found.

-- blanks before the words change nothing
after-gap : (gap line : List ℕ) → AreBlanks gap → words_from Between (gap ++ line) ≡ words_from Between line
after-gap [] line blank = refl
after-gap (byte ∷ gap) line blank =
    let (first, others) = and_parts (is_blank byte) (list_all is_blank gap) blank in
    ap (λ t. acted (cond t (Skips Between) (cond (byte == 34) (Skips Quoted) (joins Bare byte))) byte (λ next. words_from next (gap ++ line))) first ∙ after-gap gap line others

-- nothing but blanks is no word
only-blanks : (line : List ℕ) → AreBlanks line → words_from Between line ≡ Some []
only-blanks [] blank = refl
only-blanks (byte ∷ line) blank =
    let (first, others) = and_parts (is_blank byte) (list_all is_blank line) blank in
    ap (λ t. acted (cond t (Skips Between) (cond (byte == 34) (Skips Quoted) (joins Bare byte))) byte (λ next. words_from next line)) first ∙ only-blanks line others

-- after an unquoted word
bare-end : (rest : List ℕ) (words : List (List ℕ)) → EndsWord rest → words_from Between rest ≡ Some words → words_from Bare rest ≡ Some ([] ∷ words)
bare-end [] words ends found = ap (option_map (λ further. [] ∷ further)) found
bare-end (byte ∷ rest) words ends found =
    ap (λ t. acted (cond t (Ends Between) (cond (byte == 34) Breaks (joins Bare byte))) byte (λ next. words_from next rest)) ends
    ∙ ap (option_map (λ further. [] ∷ further)) (ap (λ t. acted (cond t (Skips Between) (cond (byte == 34) (Skips Quoted) (joins Bare byte))) byte (λ next. words_from next rest)) (sym ends) ∙ found)

-- after a quoted word
closed-end : (rest : List ℕ) (words : List (List ℕ)) → EndsWord rest → words_from Between rest ≡ Some words → words_from Closed rest ≡ Some words
closed-end [] words ends found = found
closed-end (byte ∷ rest) words ends found =
    ap (λ t. acted (cond t (Skips Between) Breaks) byte (λ next. words_from next rest)) ends
    ∙ ap (λ t. acted (cond t (Skips Between) (cond (byte == 34) (Skips Quoted) (joins Bare byte))) byte (λ next. words_from next rest)) (sym ends) ∙ found

pub bare-joins : (byte : ℕ) → is_bare byte ≡ true → transition_of Bare byte ≡ Joins Bare
bare-joins byte bare =
    let (first, unbroken) = and_parts (not (is_blank byte) && not (byte == 34)) (not (byte == 10)) bare in
    let (unblank, unquoted) = and_parts (not (is_blank byte)) (not (byte == 34)) first in
    ap (λ t. cond t (Ends Between) (cond (byte == 34) Breaks (joins Bare byte))) (not-true (is_blank byte) unblank)
    ∙ ap (λ t. cond t Breaks (joins Bare byte)) (not-true (byte == 34) unquoted) ∙ ap (λ t. cond t Breaks (Joins Bare)) (not-true (byte == 10) unbroken)

pub first-joins : (byte : ℕ) → is_bare byte ≡ true → transition_of Between byte ≡ Joins Bare
first-joins byte bare =
    let (first, unbroken) = and_parts (not (is_blank byte) && not (byte == 34)) (not (byte == 10)) bare in
    let (unblank, unquoted) = and_parts (not (is_blank byte)) (not (byte == 34)) first in
    ap (λ t. cond t (Skips Between) (cond (byte == 34) (Skips Quoted) (joins Bare byte))) (not-true (is_blank byte) unblank)
    ∙ ap (λ t. cond t (Skips Quoted) (joins Bare byte)) (not-true (byte == 34) unquoted) ∙ ap (λ t. cond t Breaks (Joins Bare)) (not-true (byte == 10) unbroken)

-- the bytes of an unquoted word, from the second on
bare-run : (word rest : List ℕ) (words : List (List ℕ)) → list_all is_bare word ≡ true → words_from Bare rest ≡ Some ([] ∷ words) → words_from Bare (word ++ rest) ≡ Some (word ∷ words)
bare-run [] rest words bare found = found
bare-run (byte ∷ word) rest words bare found =
    let (first, others) = and_parts (is_bare byte) (list_all is_bare word) bare in
    ap (λ act. acted act byte (λ next. words_from next (word ++ rest))) (bare-joins byte first) ∙ ap (option_map (in_front byte)) (bare-run word rest words others found)

bare-word : (word rest : List ℕ) (words : List (List ℕ)) → word ≢ [] → list_all is_bare word ≡ true → words_from Bare rest ≡ Some ([] ∷ words) → words_from Between (word ++ rest) ≡ Some (word ∷ words)
bare-word [] rest words some bare found = absurd (some refl)
bare-word (byte ∷ word) rest words some bare found =
    let (first, others) = and_parts (is_bare byte) (list_all is_bare word) bare in
    ap (λ act. acted act byte (λ next. words_from next (word ++ rest))) (first-joins byte first) ∙ ap (option_map (in_front byte)) (bare-run word rest words others found)

-- the text of a quoted word, and its end
quoted-run : (text word rest : List ℕ) (words : List (List ℕ)) → IsQuotedText text word → words_from Closed rest ≡ Some words → words_from Quoted (text ++ 34 ∷ rest) ≡ Some (word ∷ words)
quoted-run text [] rest words spelled found = ap (λ t. words_from Quoted (t ++ 34 ∷ rest)) spelled ∙ ap (option_map (λ further. [] ∷ further)) found
quoted-run text (byte ∷ word) rest words (first, further, are, spelled, others) found =
    ap (λ t. words_from Quoted (t ++ 34 ∷ rest)) are ∙ ap (words_from Quoted) (append_assoc first further (34 ∷ rest))
    ∙ one spelled (further ++ 34 ∷ rest) ∙ ap (option_map (in_front byte)) (quoted-run further word rest words others found)
  where
    one : IsQuotedByte first byte → (line : List ℕ) → words_from Quoted (first ++ line) ≡ option_map (in_front byte) (words_from Quoted line)
    one (unbroken, inl (itself, quote, slash)) line =
        ap (λ l. words_from Quoted (l ++ line)) itself
        ∙ ap (λ t. acted (cond t (Ends Closed) (cond (byte == 92) (Skips Escaped) (joins Quoted byte))) byte (λ next. words_from next line)) (ne_eqb byte 34 quote)
        ∙ ap (λ t. acted (cond t (Skips Escaped) (joins Quoted byte)) byte (λ next. words_from next line)) (ne_eqb byte 92 slash)
        ∙ ap (λ t. acted (cond t Breaks (Joins Quoted)) byte (λ next. words_from next line)) (ne_eqb byte 10 unbroken)
    one (unbroken, inr after) line =
        ap (λ l. words_from Quoted (l ++ line)) after ∙ ap (λ t. acted (cond t Breaks (Joins Quoted)) byte (λ next. words_from next line)) (ne_eqb byte 10 unbroken)

spelled-word : (spelling word rest : List ℕ) (words : List (List ℕ)) → IsSpelling spelling word → EndsWord rest → words_from Between rest ≡ Some words → words_from Between (spelling ++ rest) ≡ Some (word ∷ words)
spelled-word spelling word rest words (inl (itself, some, bare)) ends found =
    ap (λ l. words_from Between (l ++ rest)) itself ∙ bare-word word rest words some bare (bare-end rest words ends found)
spelled-word spelling word rest words (inr (text, quoted, spelled)) ends found =
    ap (λ l. words_from Between (l ++ rest)) quoted ∙ ap (words_from Quoted) (append_assoc text (34 ∷ []) rest)
    ∙ quoted-run text word rest words spelled (closed-end rest words ends found)

-- the words that a line is made of are found
pub words_of-AreWords : (words : List (List ℕ)) (line : List ℕ) → AreWords words line → words_of line ≡ Some words
words_of-AreWords [] line are = only-blanks line are
words_of-AreWords (word ∷ words) line (gap, spelling, rest, is, blank, spelled, ends, others) =
    ap (words_from Between) is ∙ after-gap gap (spelling ++ rest) blank ∙ spelled-word spelling word rest words spelled ends (words_of-AreWords words rest others)

-- From the words found to the spellings.

-- what words found from a place on say of the line from there
abbrev Standing : State → List (List ℕ) → List ℕ → Type 0
Standing Between words line = AreWords words line
Standing Bare [] line = ⊥
Standing Bare (word ∷ words) line = (rest : List ℕ) × (line ≡ word ++ rest) × (list_all is_bare word ≡ true) × EndsWord rest × AreWords words rest
Standing Quoted [] line = ⊥
Standing Quoted (word ∷ words) line = (text rest : List ℕ) × (line ≡ text ++ 34 ∷ rest) × IsQuotedText text word × EndsWord rest × AreWords words rest
Standing Escaped [] line = ⊥
Standing Escaped ([] ∷ words) line = ⊥
Standing Escaped ((byte ∷ word) ∷ words) line =
    (text rest : List ℕ) × (line ≡ byte ∷ (text ++ 34 ∷ rest)) × (byte ≢ 10) × IsQuotedText text word × EndsWord rest × AreWords words rest
Standing Closed words line = EndsWord line × AreWords words line

abbrev Means : State → Option (List (List ℕ)) → List ℕ → Type 0
Means state None line = Unit {0}
Means state (Some words) line = Standing state words line

differs : (byte code : ℕ) → (byte == code) ≡ false → byte ≢ code
differs byte code off e = let on = eq-eqb byte code e in cc

blank-more : (byte : ℕ) (bytes : List ℕ) (found : Option (List (List ℕ))) → is_blank byte ≡ true → Means Between found bytes → Means Between found (byte ∷ bytes)
blank-more byte bytes None blank means = tt
blank-more byte bytes (Some []) blank means = and_from (is_blank byte) (list_all is_blank bytes) blank means
blank-more byte bytes (Some (word ∷ words)) blank (gap, spelling, rest, is, blanks, spelled, ends, others) =
    (byte ∷ gap, spelling, rest, ap (λ l. byte ∷ l) is, and_from (is_blank byte) (list_all is_blank gap) blank blanks, spelled, ends, others)

quote-opens : (byte : ℕ) (bytes : List ℕ) (found : Option (List (List ℕ))) → byte ≡ 34 → Means Quoted found bytes → Means Between found (byte ∷ bytes)
quote-opens byte bytes None quote means = tt
quote-opens byte bytes (Some []) quote means = absurd means
quote-opens byte bytes (Some (word ∷ words)) quote (text, rest, is, spelled, ends, others) =
    ([], 34 ∷ (text ++ 34 ∷ []), rest, ap (λ b. b ∷ bytes) quote ∙ ap (λ l. 34 ∷ l) (is ∙ sym (append_assoc text (34 ∷ []) rest)), refl, inr (text, refl, spelled), ends, others)

bare-opens : (byte : ℕ) (bytes : List ℕ) (found : Option (List (List ℕ))) → is_bare byte ≡ true → Means Bare found bytes → Means Between (option_map (in_front byte) found) (byte ∷ bytes)
bare-opens byte bytes None bare means = tt
bare-opens byte bytes (Some []) bare means = absurd means
bare-opens byte bytes (Some (word ∷ words)) bare (rest, is, all, ends, others) =
    ([], byte ∷ word, rest, ap (λ l. byte ∷ l) is, refl, inl (refl, λ e. cc, and_from (is_bare byte) (list_all is_bare word) bare all), ends, others)

bare-more : (byte : ℕ) (bytes : List ℕ) (found : Option (List (List ℕ))) → is_bare byte ≡ true → Means Bare found bytes → Means Bare (option_map (in_front byte) found) (byte ∷ bytes)
bare-more byte bytes None bare means = tt
bare-more byte bytes (Some []) bare means = absurd means
bare-more byte bytes (Some (word ∷ words)) bare (rest, is, all, ends, others) =
    (rest, ap (λ l. byte ∷ l) is, and_from (is_bare byte) (list_all is_bare word) bare all, ends, others)

bare-ends : (byte : ℕ) (bytes : List ℕ) (found : Option (List (List ℕ))) → is_blank byte ≡ true → Means Between found bytes → Means Bare (option_map (λ further. [] ∷ further) found) (byte ∷ bytes)
bare-ends byte bytes None blank means = tt
bare-ends byte bytes (Some words) blank means = (byte ∷ bytes, refl, refl, blank, blank-more byte bytes (Some words) blank means)

quote-closes : (byte : ℕ) (bytes : List ℕ) (found : Option (List (List ℕ))) → byte ≡ 34 → Means Closed found bytes → Means Quoted (option_map (λ further. [] ∷ further) found) (byte ∷ bytes)
quote-closes byte bytes None quote means = tt
quote-closes byte bytes (Some words) quote (ends, others) = ([], bytes, ap (λ b. b ∷ bytes) quote, refl, ends, others)

slash-escapes : (byte : ℕ) (bytes : List ℕ) (found : Option (List (List ℕ))) → byte ≡ 92 → Means Escaped found bytes → Means Quoted found (byte ∷ bytes)
slash-escapes byte bytes None slash means = tt
slash-escapes byte bytes (Some []) slash means = absurd means
slash-escapes byte bytes (Some ([] ∷ words)) slash means = absurd means
slash-escapes byte bytes (Some ((next ∷ word) ∷ words)) slash (text, rest, is, unbroken, spelled, ends, others) =
    (92 ∷ next ∷ text, rest, ap (λ b. b ∷ bytes) slash ∙ ap (λ l. 92 ∷ l) is, (92 ∷ next ∷ [], text, refl, (unbroken, inr refl), spelled), ends, others)

quoted-more : (byte : ℕ) (bytes : List ℕ) (found : Option (List (List ℕ))) → byte ≢ 34 → byte ≢ 92 → byte ≢ 10 → Means Quoted found bytes → Means Quoted (option_map (in_front byte) found) (byte ∷ bytes)
quoted-more byte bytes None quote slash unbroken means = tt
quoted-more byte bytes (Some []) quote slash unbroken means = absurd means
quoted-more byte bytes (Some (word ∷ words)) quote slash unbroken (text, rest, is, spelled, ends, others) =
    (byte ∷ text, rest, ap (λ l. byte ∷ l) is, (byte ∷ [], text, refl, (unbroken, inl (refl, quote, slash)), spelled), ends, others)

escaped-more : (byte : ℕ) (bytes : List ℕ) (found : Option (List (List ℕ))) → byte ≢ 10 → Means Quoted found bytes → Means Escaped (option_map (in_front byte) found) (byte ∷ bytes)
escaped-more byte bytes None unbroken means = tt
escaped-more byte bytes (Some []) unbroken means = absurd means
escaped-more byte bytes (Some (word ∷ words)) unbroken (text, rest, is, spelled, ends, others) = (text, rest, ap (λ l. byte ∷ l) is, unbroken, spelled, ends, others)

closed-ends : (byte : ℕ) (bytes : List ℕ) (found : Option (List (List ℕ))) → is_blank byte ≡ true → Means Between found bytes → Means Closed found (byte ∷ bytes)
closed-ends byte bytes None blank means = tt
closed-ends byte bytes (Some words) blank means = (blank, blank-more byte bytes (Some words) blank means)

is-bare : (byte : ℕ) → is_blank byte ≡ false → (byte == 34) ≡ false → (byte == 10) ≡ false → is_bare byte ≡ true
is-bare byte blank quote newline = ap (λ t. not t && not (byte == 34) && not (byte == 10)) blank ∙ ap (λ t. not t && not (byte == 10)) quote ∙ ap not newline

-- what the words found from the next byte on say, of each place that it may stand in
abbrev Further : List ℕ → Type 0
Further bytes = (state : State) → Means state (words_from state bytes) bytes

in-between : (byte : ℕ) (bytes : List ℕ) (blank quote newline : Bool) → is_blank byte ≡ blank → (byte == 34) ≡ quote → (byte == 10) ≡ newline → Further bytes
    → Means Between (acted (cond blank (Skips Between) (cond quote (Skips Quoted) (cond newline Breaks (Joins Bare)))) byte (λ next. words_from next bytes)) (byte ∷ bytes)
in-between byte bytes true quote newline is-blank is-quote is-newline further = blank-more byte bytes (words_from Between bytes) is-blank (further Between)
in-between byte bytes false true newline is-blank is-quote is-newline further = quote-opens byte bytes (words_from Quoted bytes) (eqb-true byte 34 is-quote) (further Quoted)
in-between byte bytes false false true is-blank is-quote is-newline further = tt
in-between byte bytes false false false is-blank is-quote is-newline further = bare-opens byte bytes (words_from Bare bytes) (is-bare byte is-blank is-quote is-newline) (further Bare)

in-bare : (byte : ℕ) (bytes : List ℕ) (blank quote newline : Bool) → is_blank byte ≡ blank → (byte == 34) ≡ quote → (byte == 10) ≡ newline → Further bytes
    → Means Bare (acted (cond blank (Ends Between) (cond quote Breaks (cond newline Breaks (Joins Bare)))) byte (λ next. words_from next bytes)) (byte ∷ bytes)
in-bare byte bytes true quote newline is-blank is-quote is-newline further = bare-ends byte bytes (words_from Between bytes) is-blank (further Between)
in-bare byte bytes false true newline is-blank is-quote is-newline further = tt
in-bare byte bytes false false true is-blank is-quote is-newline further = tt
in-bare byte bytes false false false is-blank is-quote is-newline further = bare-more byte bytes (words_from Bare bytes) (is-bare byte is-blank is-quote is-newline) (further Bare)

in-quotes : (byte : ℕ) (bytes : List ℕ) (quote slash newline : Bool) → (byte == 34) ≡ quote → (byte == 92) ≡ slash → (byte == 10) ≡ newline → Further bytes
    → Means Quoted (acted (cond quote (Ends Closed) (cond slash (Skips Escaped) (cond newline Breaks (Joins Quoted)))) byte (λ next. words_from next bytes)) (byte ∷ bytes)
in-quotes byte bytes true slash newline is-quote is-slash is-newline further = quote-closes byte bytes (words_from Closed bytes) (eqb-true byte 34 is-quote) (further Closed)
in-quotes byte bytes false true newline is-quote is-slash is-newline further = slash-escapes byte bytes (words_from Escaped bytes) (eqb-true byte 92 is-slash) (further Escaped)
in-quotes byte bytes false false true is-quote is-slash is-newline further = tt
in-quotes byte bytes false false false is-quote is-slash is-newline further =
    quoted-more byte bytes (words_from Quoted bytes) (differs byte 34 is-quote) (differs byte 92 is-slash) (differs byte 10 is-newline) (further Quoted)

in-escape : (byte : ℕ) (bytes : List ℕ) (newline : Bool) → (byte == 10) ≡ newline → Further bytes
    → Means Escaped (acted (cond newline Breaks (Joins Quoted)) byte (λ next. words_from next bytes)) (byte ∷ bytes)
in-escape byte bytes true is-newline further = tt
in-escape byte bytes false is-newline further = escaped-more byte bytes (words_from Quoted bytes) (differs byte 10 is-newline) (further Quoted)

in-closed : (byte : ℕ) (bytes : List ℕ) (blank : Bool) → is_blank byte ≡ blank → Further bytes
    → Means Closed (acted (cond blank (Skips Between) Breaks) byte (λ next. words_from next bytes)) (byte ∷ bytes)
in-closed byte bytes true is-blank further = closed-ends byte bytes (words_from Between bytes) is-blank (further Between)
in-closed byte bytes false is-blank further = tt

means-found : (bytes : List ℕ) (state : State) → Means state (words_from state bytes) bytes
means-found [] Between = refl
means-found [] Bare = ([], refl, refl, tt, refl)
means-found [] Quoted = tt
means-found [] Escaped = tt
means-found [] Closed = (tt, refl)
means-found (byte ∷ bytes) Between = in-between byte bytes (is_blank byte) (byte == 34) (byte == 10) refl refl refl (λ state. means-found bytes state)
means-found (byte ∷ bytes) Bare = in-bare byte bytes (is_blank byte) (byte == 34) (byte == 10) refl refl refl (λ state. means-found bytes state)
means-found (byte ∷ bytes) Quoted = in-quotes byte bytes (byte == 34) (byte == 92) (byte == 10) refl refl refl (λ state. means-found bytes state)
means-found (byte ∷ bytes) Escaped = in-escape byte bytes (byte == 10) refl (λ state. means-found bytes state)
means-found (byte ∷ bytes) Closed = in-closed byte bytes (is_blank byte) refl (λ state. means-found bytes state)

-- the words found are those that the line is made of
pub AreWords-words_of : (words : List (List ℕ)) (line : List ℕ) → words_of line ≡ Some words → AreWords words line
AreWords-words_of words line found = subst (λ (o : Option (List (List ℕ))). Means Between o line) found (means-found line Between)

-- words are found exactly where the line is made of them
pub words_of-law : (words : List (List ℕ)) (line : List ℕ) → (words_of line ≡ Some words) ↔ AreWords words line
words_of-law words line = (AreWords-words_of words line, words_of-AreWords words line)

-- ---- What is told of a line's words, by the function that finds them and by what the line is made of.

pub came : (wanted : Option (List (List ℕ))) (words : List (List ℕ)) → or_refused Quoting wanted ≡ Ok words → wanted ≡ Some words
came (Some found) words is = cc
came None words is = cc

abbrev pub IsExact : Result (List (List ℕ)) WordFault → List ℕ → Type 0
IsExact result line = MatchResult result (λ words. words_of line ≡ Some words) (λ fault. OnQuoting fault (words_of line ≡ None))

pub exact-found : (result : Result (List (List ℕ)) WordFault) (line : List ℕ) → IsExact result line → IfOk result (λ words. AreWords words line)
exact-found (Ok words) line exact = AreWords-words_of words line exact
exact-found (Err fault) line exact = tt

pub exact-only : (result : Result (List (List ℕ)) WordFault) (line : List ℕ) → IsExact result line
    → (words : List (List ℕ)) → AreWords words line → MatchResult result (λ found. found ≡ words) (λ fault. fault ≡ NoMemory)
exact-only (Ok found) line exact words are = let same = sym exact ∙ words_of-AreWords words line are in cc
exact-only (Err Quoting) line exact words are = let same = sym exact ∙ words_of-AreWords words line are in cc
exact-only (Err NoMemory) line exact words are = refl

pub exact-quoting : (result : Result (List (List ℕ)) WordFault) (line : List ℕ) → IsExact result line
    → IfErr result (λ fault. OnQuoting fault ((words : List (List ℕ)) → ¬ AreWords words line))
exact-quoting (Ok words) line exact = tt
exact-quoting (Err Quoting) line exact = λ words are. let same = sym exact ∙ words_of-AreWords words line are in cc
exact-quoting (Err NoMemory) line exact = tt

-- ---- Lines and their words, computed.

blank-line : words_of (codes " \t") ≡ Some []
blank-line = refl

blanks-and-tabs : words_of (codes " a\t b ") ≡ Some (codes "a" ∷ codes "b" ∷ [])
blanks-and-tabs = refl

ordinary-bytes : words_of (codes "a\\b 'c' \r") ≡ Some (codes "a\\b" ∷ codes "'c'" ∷ codes "\r" ∷ [])
ordinary-bytes = refl

quoted-word : words_of (codes "\"a b\" c") ≡ Some (codes "a b" ∷ codes "c" ∷ [])
quoted-word = refl

empty-word : words_of (codes "\"\"") ≡ Some ([] ∷ [])
empty-word = refl

escaped-bytes : words_of (codes "\"a\\\"b\\\\\"") ≡ Some (codes "a\"b\\" ∷ [])
escaped-bytes = refl

rule-words : words_of (codes "-A INPUT -m comment --comment \"a b\" -j ACCEPT")
    ≡ Some (codes "-A" ∷ codes "INPUT" ∷ codes "-m" ∷ codes "comment" ∷ codes "--comment" ∷ codes "a b" ∷ codes "-j" ∷ codes "ACCEPT" ∷ [])
rule-words = refl

open-quote : words_of (codes "\"") ≡ None
open-quote = refl

open-escape : words_of (codes "\"a\\") ≡ None
open-escape = refl

quote-in-a-word : words_of (codes "a\"b\"") ≡ None
quote-in-a-word = refl

word-behind-a-quote : words_of (codes "\"a\"b") ≡ None
word-behind-a-quote = refl

quote-behind-a-quote : words_of (codes "\"a\"\"b\"") ≡ None
quote-behind-a-quote = refl
