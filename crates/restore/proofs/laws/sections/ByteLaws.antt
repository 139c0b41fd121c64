-- Laws of a line's bytes: what stands between brackets, and the line `COMMIT`, which has one word.
use Rattle.std.proofs.Common.{◌≡◌, ℕ, zero, suc, ◌+◌, ◌-◌, ◌<◌, ◌≤◌, true, false, List, [], ◌∷◌, ◌++◌, length, get_or, take, drop, refl, sym, ◌∙◌, ap, arith, Option, Some, None, if◌then◌else◌, not, find, slice_get, ◌≢◌, inl, Bool, subst, codes, Ok, Err, IsTrue, ◌&&◌}
use Rattle.std.proofs.lemmas.Bool.{false_from_ne_true, false≢true}
use Rattle.std.proofs.Math.Seq.{get_or-append_seam}
use Rattle.std.proofs.lemmas.List.{take-append-drop, drop-take, length-append}
use Rattle.std.proofs.lemmas.Slice.Eq.{bytes_eq-Decides}
use Rattle.std.specs.Str.{bytes_eq}
use Rattle.std.specs.Borrow.{Bor}
use Rattle.std.specs.Option.{option_copied}
use Rattle.std.specs.List.{list_all}
use Rattle.fields.specs.text.Words.{is_blank, AreBlanks, EndsWord, words_of}
use Rattle.fields.proofs.laws.text.WordLaws.{words_of-AreWords}
use Rattle.table.specs.chains.Table.{Table}
use Rattle.restore.specs.sections.Restore.{after_blanks, Between, between, is_commit, opening}
use Rattle.restore.specs.sections.Section.{inside, in_brackets, is_comment_at, is_quiet, Quoting, NotAllowed}
use Rattle.restore.specs.Sequence.{◌>>=◌, or_refused}

-- ---- What stands between brackets.

-- a text in brackets
abbrev bracketed : List ℕ → List ℕ
bracketed ys = 91 ∷ (ys ++ 93 ∷ [])

length_bracketed : (ys : List ℕ) → length (bracketed ys) ≡ length ys + 2
length_bracketed ys = omega (arith, length-append ys (93 ∷ []))

last_bracketed : (ys : List ℕ) → get_or (bracketed ys) (length (bracketed ys) - 1) 0 ≡ 93
last_bracketed ys =
    let e : length (bracketed ys) - 1 ≡ length (91 ∷ ys) = omega (arith, length_bracketed ys) in
    ap (λ i. get_or (bracketed ys) i 0) e ∙ get_or-append_seam (91 ∷ ys) 93 [] 0

-- a text that isn't in brackets
not_bracketed : (text : List ℕ) → ((ys : List ℕ) → text ≡ bracketed ys → ⊥) → in_brackets text ≡ None
not_bracketed text never =
    ap (λ b. if b then Some (inside text) else None) (false_from_ne_true (bytes_eq text (bracketed (inside text))) (λ e. never (inside text) ((bytes_eq-Decides text (bracketed (inside text))).0 e)))

pub too_short : (text : List ℕ) → length text < 2 → in_brackets text ≡ None
too_short text lt = not_bracketed text (λ ys e. (let l : length text ≡ length (bracketed ys) = ap (λ (t : List ℕ). length t) e in omega (arith, lt, l, length_bracketed ys)))

pub not_opened : (text : List ℕ) → (get_or text 0 0 ≡ 91 → ⊥) → in_brackets text ≡ None
not_opened text never = not_bracketed text (λ ys e. never (ap (λ t. get_or t 0 0) e))

pub not_closed : (text : List ℕ) → (get_or text (length text - 1) 0 ≡ 93 → ⊥) → in_brackets text ≡ None
not_closed text never = not_bracketed text (λ ys e. never (ap (λ t. get_or t (length t - 1) 0) e ∙ last_bracketed ys))

-- the last one alone
last_alone : (xs : List ℕ) (n : ℕ) → length xs ≡ n + 1 → drop n xs ≡ get_or xs n 0 ∷ []
last_alone [] n e = absurd (omega (arith, e))
last_alone (x ∷ []) zero e = refl
last_alone (x ∷ (y ∷ xs)) zero e = absurd (omega (arith, e))
last_alone (x ∷ xs) (suc n) e = last_alone xs n (omega (arith, e))

first_alone : (xs : List ℕ) (n : ℕ) → 1 ≤ n → 1 ≤ length xs → take n xs ≡ get_or xs 0 0 ∷ drop 1 (take n xs)
first_alone [] n some one = absurd (omega (arith, one))
first_alone (x ∷ xs) zero some one = absurd (omega (arith, some))
first_alone (x ∷ xs) (suc n) some one = refl

pub opened_and_closed : (text : List ℕ) → 2 ≤ length text → get_or text 0 0 ≡ 91 → get_or text (length text - 1) 0 ≡ 93 → in_brackets text ≡ Some (take (length text - 1 - 1) (drop 1 text))
opened_and_closed text long first last =
    let n = length text - 1 in
    let e : length text ≡ n + 1 = omega (arith, long) in
    let whole : text ≡ bracketed (inside text) =
    sym (take-append-drop n text)
    ∙ ap (λ t. t ++ drop n text) (first_alone text n (omega (arith, long)) (omega (arith, long)))
    ∙ ap (λ b. b ∷ (inside text ++ drop n text)) first
    ∙ ap (λ t. 91 ∷ (inside text ++ t)) (last_alone text n e ∙ ap (λ b. b ∷ []) last) in
    let m : n ≡ 1 + (n - 1) = omega (arith, long) in
    ap (λ b. if b then Some (inside text) else None) ((bytes_eq-Decides text (bracketed (inside text))).1 whole)
    ∙ ap Some (ap (λ k. drop 1 (take k text)) m ∙ drop-take 1 (n - 1) text)

-- the first byte after the blanks
pub first_after_blanks : (line : List ℕ) → find (λ b. not (is_blank b)) line ≡ slice_get (after_blanks line) 0
first_after_blanks [] = refl
first_after_blanks (b ∷ bs) =
    elim (is_blank b) as (λ t. (if not t then Some b else find (λ b. not (is_blank b)) bs) ≡ slice_get (if t then after_blanks bs else b ∷ bs) 0) [ true ↦ first_after_blanks bs | false ↦ refl ]

-- what the first byte after the blanks says of the line
pub quiet_by : (line rest : List ℕ) (found first : Option (Bor ℕ)) → found ≡ first → option_copied found ≡ slice_get rest 0 → rest ≡ after_blanks line → is_comment_at (option_copied first) ≡ is_quiet line
quiet_by line rest found first is value after =
    ap is_comment_at (ap option_copied (sym is) ∙ value ∙ ap (λ (r : List ℕ). slice_get r 0) after ∙ sym (first_after_blanks line))

-- ---- The line `COMMIT`: it has one word.

-- the blanks before the rest of a line
abbrev gap : List ℕ → List ℕ
gap [] = []
gap (byte ∷ bytes) = if is_blank byte then byte ∷ gap bytes else []

gap_and_rest : (line : List ℕ) → line ≡ gap line ++ after_blanks line
gap_and_rest [] = refl
gap_and_rest (b ∷ bs) =
    elim (is_blank b) as (λ t. b ∷ bs ≡ (if t then b ∷ gap bs else []) ++ (if t then after_blanks bs else b ∷ bs)) [
      | true ↦ ap (λ (l : List ℕ). b ∷ l) (gap_and_rest bs)
      | false ↦ refl
    ]

gap_is_blank : (line : List ℕ) → AreBlanks (gap line)
gap_is_blank [] = refl
gap_is_blank (b ∷ bs) =
    elim (is_blank b) as (λ t. is_blank b ≡ t → AreBlanks (if t then b ∷ gap bs else [])) [
      | true ↦ λ e. subst (λ t. IsTrue (t && list_all is_blank (gap bs))) (sym e) (gap_is_blank bs)
      | false ↦ λ e. refl
    ] refl

-- blanks alone end a word
blanks_end : (rest : List ℕ) → AreBlanks rest → EndsWord rest
blanks_end [] blank = tt
blanks_end (b ∷ bs) blank = elim (is_blank b) as (λ t. IsTrue (t && list_all is_blank bs) → IsTrue t) [ true ↦ λ h. refl | false ↦ λ h. h ] blank

-- what a line `COMMIT` is made of
parts : (rest : List ℕ) → IsTrue (if bytes_eq (take 6 rest) (codes "COMMIT") then list_all is_blank (drop 6 rest) else false) → (take 6 rest ≡ codes "COMMIT") × AreBlanks (drop 6 rest)
parts rest =
    elim (bytes_eq (take 6 rest) (codes "COMMIT")) as (λ t. bytes_eq (take 6 rest) (codes "COMMIT") ≡ t → IsTrue (if t then list_all is_blank (drop 6 rest) else false) → (take 6 rest ≡ codes "COMMIT") × AreBlanks (drop 6 rest)) [
      | true ↦ λ e h. ((bytes_eq-Decides (take 6 rest) (codes "COMMIT")).0 e, h)
      | false ↦ λ e h. absurd (false≢true h)
    ] refl

filled : codes "COMMIT" ≢ []
filled e = let l : 6 ≡ 0 = ap (λ (w : List ℕ). length w) e in omega (arith, l)

word_of_commit : (line : List ℕ) → IsTrue (is_commit line) → words_of line ≡ Some (codes "COMMIT" ∷ [])
word_of_commit line is =
    let rest = after_blanks line in
    let p = parts rest is in
    words_of-AreWords (codes "COMMIT" ∷ []) line
    (gap line, codes "COMMIT", drop 6 rest, gap_and_rest line ∙ ap (λ (l : List ℕ). gap line ++ l) (sym (take-append-drop 6 rest) ∙ ap (λ (l : List ℕ). l ++ drop 6 rest) p.0), gap_is_blank line, inl (refl, filled, refl), blanks_end (drop 6 rest) p.1, p.1)

-- between sections it is not allowed
commit_not_allowed : (noflush : Bool) (t : Table) (line : List ℕ) → IsTrue (is_commit line) → (or_refused Quoting (words_of line) >>= λ words. opening noflush t words) ≡ Err NotAllowed
commit_not_allowed noflush t line is = ap (λ (w : Option (List (List ℕ))). or_refused Quoting w >>= λ words. opening noflush t words) (word_of_commit line is)

-- the same, of the place after the line
pub not_allowed : (noflush : Bool) (t : Table) (line : List ℕ) → is_quiet line ≡ false → IsTrue (is_commit line) → between noflush t line ≡ Err NotAllowed
not_allowed noflush t line loud is = ap (λ b. if b then Ok Between else (or_refused Quoting (words_of line) >>= λ words. opening noflush t words)) loud ∙ commit_not_allowed noflush t line is
