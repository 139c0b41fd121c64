-- The own line, part by part: its values, read up to a byte, and what its words are.
use Rattle.std.proofs.Common.{◌≡◌, ℕ, ◌+◌, ◌<◌, ◌≤◌, Bool, true, false, cond, ◌||◌, List, [], ◌∷◌, ◌++◌, length, take, drop, refl, sym, ap, ◌∙◌, arith, get_or, ◌-◌, ◌==◌, eqb-true, ◌≢◌, inl, inr, ◌⊎◌, Some, flat_map, suc, eq-eqb}
use Rattle.std.specs.Prelude.{nat_lt}
use Rattle.std.specs.Char.{is_ascii_alphabetic}
use Rattle.std.proofs.lemmas.List.{drop_more, take_more, take_rest, drop_all, length-drop, get_or-drop, at_drop_more}
use Rattle.std.proofs.lemmas.List.Folds.{list_any-append}
use Rattle.std.proofs.lemmas.Bool.{and_parts, or_parts, ltb-true}
use Rattle.std.proofs.lemmas.List.Concat.{flat_map-append}
use Rattle.std.specs.List.{list_all}
use Rattle.fields.specs.text.Line.{IsOneLine, AreOneLine}
use Rattle.fields.specs.text.Words.{is_bare, IsQuotedByte, IsQuotedText, IsSpelling, EndsWord, AreWords, words_of}
use Rattle.fields.proofs.laws.values.BareLaws.{some-bytes}
use Rattle.fields.proofs.laws.text.WordLaws.{words_of-AreWords}
use Rattle.dumps.specs.Own.{numbered, is_separator, all_numbered_after, has_letter, own_words, own_part_words, stands_bare, escaped, in_quotes, spelled, line_of, LinesReadBack}
use Rattle.dumps.specs.Options.{Table}
use Rattle.dumps.specs.Views.{part_in, parts_of}
use Rattle.dumps.specs.declared.apart.part.Part.{Part}

-- ---- A value, read up to a byte: the numbers of what stands before it, and what follows.

abbrev Rows : Type 0
Rows = List (List ℕ × List ℕ)

-- what stands since the last separator, up to a place
abbrev pub piece : List ℕ → ℕ → ℕ → List ℕ
piece value from i = take (i - from) (drop from value)

piece-more : (value : List ℕ) (from i d : ℕ) → from ≤ i → i < length value → piece value from (i + 1) ≡ piece value from i ++ get_or value i d ∷ []
piece-more value from i d within inside =
    let n = i - from in
    let left = drop from value in
    let more : (i + 1) - from ≡ n + 1 = omega arith in
    let place : from + n ≡ i = omega arith in
    ap (λ k. take k left) more ∙ take_more left n d (omega (arith, length-drop from value))
    ∙ ap (λ b. take n left ++ b ∷ []) (get_or-drop from value n d ∙ ap (λ k. get_or value k d) place)

nothing : (value : List ℕ) (i : ℕ) → piece value i i ≡ []
nothing value i = let none : i - i ≡ 0 = omega arith in ap (λ k. take k (drop i value)) none

-- after a separator nothing stands before the next byte
pub cut-here : (rows : Rows) (value : List ℕ) (from i d : ℕ) → i < length value → is_separator (get_or value i d) ≡ true
    → all_numbered_after rows (piece value from i) (drop i value) ≡ numbered rows (piece value from i) ++ get_or value i d ∷ all_numbered_after rows (piece value (i + 1) (i + 1)) (drop (i + 1) value)
cut-here rows value from i d inside e =
    let p = piece value from i in
    let b = get_or value i d in
    let rest = drop (i + 1) value in
    ap (all_numbered_after rows p) (drop_more value i d inside)
    ∙ ap (λ t. cond t (numbered rows p ++ b ∷ all_numbered_after rows [] rest) (all_numbered_after rows (p ++ b ∷ []) rest)) e
    ∙ ap (λ l. numbered rows p ++ b ∷ all_numbered_after rows l rest) (sym (nothing value (i + 1)))

-- another byte goes on
pub go-on : (rows : Rows) (value : List ℕ) (from i d : ℕ) → from ≤ i → i < length value → is_separator (get_or value i d) ≡ false
    → all_numbered_after rows (piece value from i) (drop i value) ≡ all_numbered_after rows (piece value from (i + 1)) (drop (i + 1) value)
go-on rows value from i d within inside e =
    let p = piece value from i in
    let b = get_or value i d in
    let rest = drop (i + 1) value in
    ap (all_numbered_after rows p) (drop_more value i d inside)
    ∙ ap (λ t. cond t (numbered rows p ++ b ∷ all_numbered_after rows [] rest) (all_numbered_after rows (p ++ b ∷ []) rest)) e
    ∙ ap (λ l. all_numbered_after rows l rest) (sym (piece-more value from i d within inside))

separator-is : (b : ℕ) → is_separator b ≡ true → is_ascii_alphabetic b ≡ false
separator-is b e = go (b == 44) refl e
  where
    go : (t : Bool) → (b == 44) ≡ t → (t || b == 58) ≡ true → is_ascii_alphabetic b ≡ false
    go true is h = ap is_ascii_alphabetic (eqb-true b 44 is)
    go false is h = ap is_ascii_alphabetic (eqb-true b 58 h)

pub letters-here : (rows : Rows) (value : List ℕ) (from i d : ℕ) → i < length value → is_separator (get_or value i d) ≡ true
    → has_letter (all_numbered_after rows (piece value from i) (drop i value))
    ≡ (has_letter (numbered rows (piece value from i)) || has_letter (all_numbered_after rows (piece value (i + 1) (i + 1)) (drop (i + 1) value)))
letters-here rows value from i d inside e =
    let b = get_or value i d in
    let n = numbered rows (piece value from i) in
    let rest = all_numbered_after rows (piece value (i + 1) (i + 1)) (drop (i + 1) value) in
    ap has_letter (cut-here rows value from i d inside e) ∙ list_any-append is_ascii_alphabetic n (b ∷ rest)
    ∙ ap (λ t. has_letter n || (t || has_letter rest)) (separator-is b e)

-- at the end of the value nothing follows
pub at-end : (rows : Rows) (value : List ℕ) (from i : ℕ) → from ≤ i → i ≡ length value → all_numbered_after rows (piece value from i) (drop i value) ≡ numbered rows (drop from value)
at-end rows value from i within e =
    ap (λ k. all_numbered_after rows (piece value from k) (drop k value)) e ∙ ap (all_numbered_after rows (piece value from (length value))) (drop_all (length value) value (omega arith))
    ∙ ap (numbered rows) (take_rest value from)

-- ---- The own line, part by part, and what its words are.

-- the own words of what is left, one part on
pub own-more : (table : Table) (parts : List Part) (i : ℕ) (d : Part) → i < length parts
    → line_of (own_words table (parts_of (drop i parts))) ≡ line_of (own_part_words table (part_in (get_or parts i d)) (parts_of (drop (i + 1) parts))) ++ line_of (own_words table (parts_of (drop (i + 1) parts)))
own-more table parts i d inside =
    at_drop_more (λ (l : List Part). line_of (own_words table (parts_of l))) parts i d inside
    ∙ flat_map-append (λ (word : List ℕ). 32 ∷ spelled word) (own_part_words table (part_in (get_or parts i d)) (parts_of (drop (i + 1) parts))) (own_words table (parts_of (drop (i + 1) parts)))

differs : (byte code : ℕ) → (byte == code) ≡ false → byte ≢ code
differs byte code off e = let on = eq-eqb byte code e in cc

-- a byte between quotes
escaped-spells : (byte : ℕ) → byte ≢ 10 → IsQuotedByte (escaped byte) byte
escaped-spells byte unbroken = (unbroken, go (byte == 34 || byte == 92) refl)
  where
    go : (t : Bool) → (byte == 34 || byte == 92) ≡ t
        → ((cond t (92 ∷ byte ∷ []) (byte ∷ []) ≡ byte ∷ []) × (byte ≢ 34) × (byte ≢ 92)) ⊎ (cond t (92 ∷ byte ∷ []) (byte ∷ []) ≡ 92 ∷ byte ∷ [])
    go true e = inr refl
    go false e =
        let (quote, slash) = or_parts (byte == 34) (byte == 92) e in
        inl (refl, differs byte 34 quote, differs byte 92 slash)

escaped-text : (word : List ℕ) → IsOneLine word → IsQuotedText (flat_map escaped word) word
escaped-text [] one = refl
escaped-text (byte ∷ word) one =
    (escaped byte, flat_map escaped word, refl, escaped-spells byte (one 0 byte (omega arith)), escaped-text word (λ k d within. one (suc k) d (omega arith)))

-- a word is spelled so
spelled-spells : (word : List ℕ) → IsOneLine word → IsSpelling (spelled word) word
spelled-spells word one = go (stands_bare word) refl
  where
    go : (t : Bool) → stands_bare word ≡ t → IsSpelling (cond t word (in_quotes word)) word
    go true bare =
        let (some, all) = and_parts (nat_lt 0 (length word)) (list_all is_bare word) bare in
        inl (refl, some-bytes word (ltb-true 0 (length word) some), all)
    go false bare = inr (flat_map escaped word, refl, escaped-text word one)

ends : (words : List (List ℕ)) → EndsWord (line_of words)
ends [] = tt
ends (word ∷ words) = refl

are-words : (words : List (List ℕ)) → AreOneLine words → AreWords words (line_of words)
are-words [] one = refl
are-words (word ∷ words) one =
    let rest : AreOneLine words = λ k d within. one (suc k) d (omega arith) in
    (32 ∷ [], spelled word, line_of words, refl, refl, spelled-spells word (one 0 word (omega arith)), ends words, are-words words rest)

pub lines_read_back : LinesReadBack
lines_read_back words one = words_of-AreWords words (line_of words) (are-words words one)

-- and those of one whose first word has no blank before it
pub line_reads_back : (word : List ℕ) (words : List (List ℕ)) → AreOneLine (word ∷ words) → words_of (spelled word ++ line_of words) ≡ Some (word ∷ words)
line_reads_back word words one =
    let rest : AreOneLine words = λ k d within. one (suc k) d (omega arith) in
    words_of-AreWords (word ∷ words) (spelled word ++ line_of words)
    ([], spelled word, line_of words, refl, refl, spelled-spells word (one 0 word (omega arith)), ends words, are-words words rest)
