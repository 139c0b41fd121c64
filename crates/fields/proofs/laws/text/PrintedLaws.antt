-- What is printed stands in one line and is read back word by word.
use Rattle.std.proofs.Common.{◌≡◌, ◌≢◌, ◌==◌, inl, inr, ℕ, zero, suc, Bool, true, false, not, List, [], ◌∷◌, ◌++◌, Some, refl, sym, ap, subst, arith, eq-eqb, cond, ◌&&◌, ◌||◌, ◌⊎◌, length, map, flat_map, ◌∙◌, append-nil, ne_eqb, ltb}
use Rattle.std.specs.List.{list_all}
use Rattle.std.proofs.lemmas.Bool.{and_parts, or_parts, ltb-true}
use Rattle.std.proofs.lemmas.List.Elements.{All-append, All-nil}
use Rattle.std.specs.Bool.{MatchBool}
use Rattle.fields.specs.text.Line.{IsOneLine, is_one_line, AreOneLine}
use Rattle.fields.specs.text.Words.{is_blank, is_bare, IsQuotedByte, IsQuotedText, IsSpelling, AreWords, words_of, EndsWord}
use Rattle.fields.specs.values.FreeText.{is_plain_byte, is_plain, escaped, in_quotes, quoted}
use Rattle.fields.specs.text.Printed.{Shown, spelling, spaced_all, IsBareWord, IsPrintable, ArePrintable, LinesReadBack}
use Rattle.fields.proofs.laws.text.WordLaws.{AreWords-words_of, words_of-AreWords}
use Rattle.fields.proofs.laws.values.BareLaws.{some-bytes}
use Rattle.fields.proofs.laws.ListLaws.{all-weaker}

-- ---- Words, and lines of them, have no newline.

-- one byte more
pub one_more : (byte : ℕ) (bytes : List ℕ) → byte ≢ 10 → IsOneLine bytes → IsOneLine (byte ∷ bytes)
one_more byte bytes first others zero d within = first
one_more byte bytes first others (suc k) d within = others k d (omega arith)

-- the test is the fact
pub one_line_is : (text : List ℕ) → is_one_line text ≡ true → IsOneLine text
one_line_is [] test = All-nil (λ b. b ≢ 10)
one_line_is (byte ∷ text) test =
    let (first, others) = and_parts (not (byte == 10)) (is_one_line text) test in
    one_more byte text (λ e. let on = eq-eqb byte 10 e in cc) (one_line_is text others)

-- a byte that passes a test which a newline fails
passes : (test : ℕ → Bool) → test 10 ≡ false → (text : List ℕ) → list_all test text ≡ true → IsOneLine text
passes test off [] all = All-nil (λ b. b ≢ 10)
passes test off (byte ∷ text) all =
    let (first, others) = and_parts (test byte) (list_all test text) all in
    one_more byte text (λ e. let same = ap test e in cc) (passes test off text others)

pub bare_one_line : (word : List ℕ) → list_all is_bare word ≡ true → IsOneLine word
bare_one_line word bare = passes is_bare refl word bare

quoted_word : (text word : List ℕ) → IsQuotedText text word → IsOneLine word
quoted_word text [] spelled = All-nil (λ b. b ≢ 10)
quoted_word text (byte ∷ word) (first, further, are, (unbroken, spelled), others) = one_more byte word unbroken (quoted_word further word others)

quoted_byte : (text : List ℕ) (byte : ℕ) → IsQuotedByte text byte → IsOneLine text
quoted_byte text byte (unbroken, inl (itself, quote, slash)) = subst IsOneLine (sym itself) (one_more byte [] unbroken (All-nil (λ b. b ≢ 10)))
quoted_byte text byte (unbroken, inr after) = subst IsOneLine (sym after) (one_more 92 (byte ∷ []) (λ e. cc) (one_more byte [] unbroken (All-nil (λ b. b ≢ 10))))

quoted_text : (text word : List ℕ) → IsQuotedText text word → IsOneLine text
quoted_text text [] spelled = subst IsOneLine (sym spelled) (All-nil (λ b. b ≢ 10))
quoted_text text (byte ∷ word) (first, further, are, spelled, others) =
    subst IsOneLine (sym are) (All-append (λ b. b ≢ 10) first further (quoted_byte first byte spelled) (quoted_text further word others))

-- a word has no newline, and no spelling of it has one
pub spelled_word : (spelling word : List ℕ) → IsSpelling spelling word → IsOneLine word
spelled_word spelling word (inl (itself, some, bare)) = bare_one_line word bare
spelled_word spelling word (inr (text, quoted, spelled)) = quoted_word text word spelled

pub spelling_one_line : (spelling word : List ℕ) → IsSpelling spelling word → IsOneLine spelling
spelling_one_line spelling word (inl (itself, some, bare)) = subst IsOneLine (sym itself) (bare_one_line word bare)
spelling_one_line spelling word (inr (text, quoted, spelled)) =
    subst IsOneLine (sym quoted) (one_more 34 (text ++ 34 ∷ []) (λ e. cc) (All-append (λ b. b ≢ 10) text (34 ∷ []) (quoted_text text word spelled) (one_more 34 [] (λ e. cc) (All-nil (λ b. b ≢ 10)))))

-- a line of words has no newline, and no word of it has one
pub line_of_words : (words : List (List ℕ)) (line : List ℕ) → AreWords words line → IsOneLine line
line_of_words [] line blanks = passes is_blank refl line blanks
line_of_words (word ∷ words) line (gap, spelling, rest, is, blank, spelled, ends, others) =
    subst IsOneLine (sym is) (All-append (λ b. b ≢ 10) gap (spelling ++ rest) (passes is_blank refl gap blank)
    (All-append (λ b. b ≢ 10) spelling rest (spelling_one_line spelling word spelled) (line_of_words words rest others)))

one_word_more : (word : List ℕ) (words : List (List ℕ)) → IsOneLine word → AreOneLine words → AreOneLine (word ∷ words)
one_word_more word words first others zero d within = first
one_word_more word words first others (suc k) d within = others k d (omega arith)

pub words_of_line : (words : List (List ℕ)) (line : List ℕ) → AreWords words line → AreOneLine words
words_of_line [] line are = All-nil IsOneLine
words_of_line (word ∷ words) line (gap, spelling, rest, is, blank, spelled, ends, others) = one_word_more word words (spelled_word spelling word spelled) (words_of_line words rest others)

-- the same of the words that are found
pub found_line : (words : List (List ℕ)) (line : List ℕ) → words_of line ≡ Some words → IsOneLine line
found_line words line found = line_of_words words line (AreWords-words_of words line found)

pub found_words : (words : List (List ℕ)) (line : List ℕ) → words_of line ≡ Some words → AreOneLine words
found_words words line found = words_of_line words line (AreWords-words_of words line found)

-- ---- What is printed is read back word by word.

differs : (byte code : ℕ) → (byte == code) ≡ false → byte ≢ code
differs byte code off e = let on = eq-eqb byte code e in cc

-- a byte between quotes
escaped-spells : (byte : ℕ) → byte ≢ 10 → IsQuotedByte (escaped byte) byte
escaped-spells byte unbroken = (unbroken, go (byte == 34 || byte == 92 || byte == 39) refl)
  where
    go : (t : Bool) → (byte == 34 || byte == 92 || byte == 39) ≡ t
        → ((cond t (92 ∷ byte ∷ []) (byte ∷ []) ≡ byte ∷ []) × (byte ≢ 34) × (byte ≢ 92)) ⊎ (cond t (92 ∷ byte ∷ []) (byte ∷ []) ≡ 92 ∷ byte ∷ [])
    go true e = inr refl
    go false e =
        let (both, last) = or_parts (byte == 34 || byte == 92) (byte == 39) e in
        let (quote, slash) = or_parts (byte == 34) (byte == 92) both in
        inl (refl, differs byte 34 quote, differs byte 92 slash)

escaped-text : (text : List ℕ) → IsOneLine text → IsQuotedText (flat_map escaped text) text
escaped-text [] one = refl
escaped-text (byte ∷ text) one =
    (escaped byte, flat_map escaped text, refl, escaped-spells byte (one 0 byte (omega arith)), escaped-text text (λ k d within. one (suc k) d (omega arith)))

-- a plain byte may stand without quotes
plain-byte : (byte : ℕ) → is_plain_byte byte ≡ true → is_bare byte ≡ true
plain-byte byte plain =
    ap (λ t. not (t || (byte == 9)) && not (byte == 34) && not (byte == 10)) (other 32 refl) ∙ ap (λ t. not t && not (byte == 34) && not (byte == 10)) (other 9 refl)
    ∙ ap (λ t. not t && not (byte == 10)) (other 34 refl) ∙ ap (λ t. not t) (other 10 refl)
  where
    other : (code : ℕ) → is_plain_byte code ≡ false → (byte == code) ≡ false
    other code off = ne_eqb byte code (λ e. let on = subst (λ n. is_plain_byte n ≡ true) e plain in cc)

plain-bytes : (text : List ℕ) → list_all is_plain_byte text ≡ true → list_all is_bare text ≡ true
plain-bytes text plain = all-weaker is_plain_byte is_bare text plain-byte plain

-- what is printed of a text spells it
pub quoted-spells : (text : List ℕ) → IsOneLine text → IsSpelling (quoted text) text
quoted-spells text one = go (is_plain text) refl
  where
    go : (t : Bool) → is_plain text ≡ t → IsSpelling (cond t text (in_quotes text)) text
    go true plain =
        let (some, all) = and_parts (ltb 0 (length text)) (list_all is_plain_byte text) plain in
        inl (refl, some-bytes text (ltb-true 0 (length text) some), plain-bytes text all)
    go false plain = inr (flat_map escaped text, refl, escaped-text text one)

-- a printed text is one word
pub words_of-quoted : (text : List ℕ) → IsOneLine text → words_of (quoted text) ≡ Some (text ∷ [])
words_of-quoted text one = words_of-AreWords (text ∷ []) (quoted text) ([], quoted text, [], sym (append-nil (quoted text)), refl, quoted-spells text one, tt, refl)

pub text_reads_back : (text : List ℕ) → IsOneLine text → words_of (quoted text) ≡ Some (text ∷ [])
text_reads_back text one = words_of-quoted text one

-- and has no newline
pub quoted_one_line : (text : List ℕ) → IsOneLine text → IsOneLine (quoted text)
quoted_one_line text one = spelling_one_line (quoted text) text (quoted-spells text one)

shown-spells : (shown : Shown) → IsPrintable shown → IsSpelling (spelling shown) shown.word
shown-spells shown printable = go shown.text printable
  where
    go : (t : Bool) → MatchBool t (IsOneLine shown.word) (IsBareWord shown.word) → IsSpelling (cond t (quoted shown.word) shown.word) shown.word
    go true one = quoted-spells shown.word one
    go false is = inl (refl, is.some, is.bytes)

ends : (line : List Shown) → EndsWord (spaced_all line)
ends [] = tt
ends (shown ∷ line) = refl

spaced-words : (line : List Shown) → ArePrintable line → AreWords (map (λ (shown : Shown). shown.word) line) (spaced_all line)
spaced-words [] are = refl
spaced-words (shown ∷ line) are =
    let rest : ArePrintable line = λ k d within. are (suc k) d (omega arith) in
    (32 ∷ [], spelling shown, spaced_all line, refl, refl, shown-spells shown (are 0 shown (omega arith)), ends line, spaced-words line rest)

-- words, each after a blank, are read back
pub words_of-spaced_all : LinesReadBack
words_of-spaced_all line are = words_of-AreWords (map (λ (shown : Shown). shown.word) line) (spaced_all line) (spaced-words line are)

pub lines_read_back : LinesReadBack
lines_read_back line are = words_of-spaced_all line are
