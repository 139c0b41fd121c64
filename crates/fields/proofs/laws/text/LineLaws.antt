-- Lines read off from the front of bytes, and what the steps of one line take, one after another.
use Rattle.std.proofs.Common.{◌≡◌, ◌≢◌, ℕ, ◌<◌, cond, List, [], ◌∷◌, ◌++◌, length, refl, ap, ◌∙◌, arith, ne_eqb, ◌+◌, ◌≤◌, Bool, Option, None, Some, IfSome, take, get_or, sym, subst, append_assoc, append-nil, length-append}
use Rattle.std.proofs.lemmas.List.Elements.{All-head, All-tail, All-append}
use Rattle.std.proofs.lemmas.List.{take_more}
use Rattle.std.specs.Io.KnownBytes.{Consumes, Keeps}
use Rattle.std.proofs.KnownBytes.{Consumes-trans}
use Rattle.fields.specs.text.Line.{IsOneLine, lines_of, ended_lines, onto_first, onto_ended, IsHeld, EndsAt}
use Rattle.fields.specs.steps.Cutting.{HoldsMore}

-- ---- Laws of `lines_of` and `ended_lines`: bytes are read off line by line from the front.

-- a line and its newline come first
pub lines_of-ended : (text rest : List ℕ) → IsOneLine text → lines_of ((text ++ 10 ∷ []) ++ rest) ≡ text ∷ lines_of rest
lines_of-ended [] rest one = refl
lines_of-ended (b ∷ bs) rest one =
    ap (λ t. cond t ([] ∷ lines_of ((bs ++ 10 ∷ []) ++ rest)) (onto_first b (lines_of ((bs ++ 10 ∷ []) ++ rest)))) (ne_eqb b 10 (All-head (λ y. y ≢ 10) b bs one))
    ∙ ap (onto_first b) (lines_of-ended bs rest (All-tail (λ y. y ≢ 10) b bs one))

-- the last line lacks its newline
pub lines_of-last : (text : List ℕ) → IsOneLine text → 0 < length text → lines_of text ≡ text ∷ []
lines_of-last [] one some = absurd (omega arith)
lines_of-last (b ∷ []) one some = ap (λ t. cond t ([] ∷ []) ((b ∷ []) ∷ [])) (ne_eqb b 10 (All-head (λ y. y ≢ 10) b [] one))
lines_of-last (b ∷ c ∷ bs) one some =
    ap (λ t. cond t ([] ∷ lines_of (c ∷ bs)) (onto_first b (lines_of (c ∷ bs)))) (ne_eqb b 10 (All-head (λ y. y ≢ 10) b (c ∷ bs) one))
    ∙ ap (onto_first b) (lines_of-last (c ∷ bs) (All-tail (λ y. y ≢ 10) b (c ∷ bs) one) (omega arith))

-- the same where only ended lines count
pub ended_lines-ended : (text rest : List ℕ) → IsOneLine text → ended_lines ((text ++ 10 ∷ []) ++ rest) ≡ text ∷ ended_lines rest
ended_lines-ended [] rest one = refl
ended_lines-ended (b ∷ bs) rest one =
    ap (λ t. cond t ([] ∷ ended_lines ((bs ++ 10 ∷ []) ++ rest)) (onto_ended b (ended_lines ((bs ++ 10 ∷ []) ++ rest)))) (ne_eqb b 10 (All-head (λ y. y ≢ 10) b bs one))
    ∙ ap (onto_ended b) (ended_lines-ended bs rest (All-tail (λ y. y ≢ 10) b bs one))

-- a part of a line has no line
pub ended_lines-part : (text : List ℕ) → IsOneLine text → ended_lines text ≡ []
ended_lines-part [] one = refl
ended_lines-part (b ∷ bs) one =
    ap (λ t. cond t ([] ∷ ended_lines bs) (onto_ended b (ended_lines bs))) (ne_eqb b 10 (All-head (λ y. y ≢ 10) b bs one))
    ∙ ap (onto_ended b) (ended_lines-part bs (All-tail (λ y. y ≢ 10) b bs one))

-- ---- What the steps of a line take, one after another.

-- a part more of the line
pub goes_on : (a b c : Option (List ℕ)) (max : ℕ) (i j : List ℕ) (p q : Bool) (turns left less : ℕ) → left ≡ less + 1
    → ((text : List ℕ) × IsOneLine text × IsHeld max text i p × Consumes a b text × (turns ≤ left + length text))
    → ((part : List ℕ) × IsOneLine part × HoldsMore max part i p j q × ((0 < length part) × Consumes b c part))
    → (text : List ℕ) × IsOneLine text × IsHeld max text j q × Consumes a c text × (turns ≤ less + length text)
goes_on a b c max i j p q turns left less e (text, one, held, taken, enough) (part, one', more, (some, taken')) = (
  text ++ part,
  All-append (λ b. b ≢ 10) text part one one',
  more text held,
  Consumes-trans a b c text part taken taken',
  omega (arith, e, enough, some, length-append text part),
)

-- the last part, and the newline
pub ends : (a b c : Option (List ℕ)) (max : ℕ) (i j : List ℕ) (p q : Bool) (turns left less : ℕ) → left ≡ less + 1
    → ((text : List ℕ) × IsOneLine text × IsHeld max text i p × Consumes a b text × (turns ≤ left + length text))
    → ((part : List ℕ) × IsOneLine part × HoldsMore max part i p j q × Consumes b c (part ++ 10 ∷ []))
    → (text : List ℕ) × IsOneLine text × (IsHeld max text j q × Consumes a c (text ++ 10 ∷ []) × (turns ≤ less + (length text + 1)))
ends a b c max i j p q turns left less e (text, one, held, taken, enough) (part, one', more, taken') = (
  text ++ part,
  All-append (λ b. b ≢ 10) text part one one',
  (
    more text held,
    subst (Consumes a c) (sym (append_assoc text part (10 ∷ []))) (Consumes-trans a b c text (part ++ 10 ∷ []) taken taken'),
    omega (arith, e, enough, length-append text part),
  ),
)

-- a step that shows nothing is at the end
pub shows_nothing : (a b : Option (List ℕ)) (shown : List ℕ) → IfSome a (λ xs. length shown ≡ 0 → xs ≡ []) → Keeps a b → length shown ≡ 0 → Consumes a b [] × EndsAt a b
shows_nothing None b shown end kept none = (tt, tt)
shows_nothing (Some x) None shown end kept none = absurd kept
shows_nothing (Some x) (Some y) shown end kept none = (sym kept, kept ∙ end none)

-- the end, after a part of the line
pub EndsAt-later : (a b c : Option (List ℕ)) (text : List ℕ) → Consumes a b text → EndsAt b c → EndsAt a c
EndsAt-later None b c text taken end = tt
EndsAt-later (Some x) None c text taken end = absurd taken
EndsAt-later (Some x) (Some y) c text taken end = end

pub holds_nothing : (max : ℕ) (i : List ℕ) (p : Bool) → HoldsMore max [] i p i p
holds_nothing max i p text held = subst (λ t. IsHeld max t i p) (sym (append-nil text)) held

-- up to a newline, and the newline
pub through : (shown : List ℕ) (n : ℕ) → n < length shown → get_or shown n 0 ≡ 10 → take (n + 1) shown ≡ take n shown ++ 10 ∷ []
through shown n within found = take_more shown n 0 within ∙ ap (λ b. take n shown ++ b ∷ []) found
