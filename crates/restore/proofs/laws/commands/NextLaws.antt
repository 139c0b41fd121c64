-- The words of a command, one after another: its name among the heads, what it takes, and a second command among them.
use Rattle.std.proofs.Common.{◌≡◌, ℕ, Bool, true, false, List, [], ◌∷◌, map, find, option_map, refl, sym, ◌∙◌, ap, Option, Some, if◌then◌else◌, inl, inr, suc, ◌+◌, ◌<◌, ◌≤◌, add-one, length, drop, slice_get, get_or, None, Result, Ok, Err, ◌-◌, max, arith, is_some}
use Rattle.std.proofs.Math.Seq.{drop-cons}
use Rattle.std.proofs.lemmas.List.{drop_all, drop-drop, length-drop}
use Rattle.std.proofs.lemmas.Option.{get_or_from_slice_get, slice_get_cases, slice_get_within}
use Rattle.std.proofs.lemmas.Bool.{cases_lt}
use Rattle.restore.specs.commands.CommandForms.{followed, is_name_of, Reader, Word, if_fits◌then◌else◌, is_digits, takes, is_command, word_at}
use Rattle.restore.specs.steps.Reading.{row_of, next_number, next_number_if_digits, next_or}
use Rattle.restore.specs.Sequence.{made_into}
use Rattle.restore.specs.commands.Command.{CommandFault, WordCount}
use Rattle.restore.specs.declared.command.name.TheConstants.CommandName.{ALL}
use Rattle.restore.specs.declared.command.name.CommandName as code

-- ---- The heads of the code, among the rows of the table of heads.

-- what is found among the values of a function
pub found : {A B : Type 0} (f : A → B) (p : B → Bool) (xs : List A) → find p (map f xs) ≡ option_map f (find (λ x. p (f x)) xs)
found f p [] = refl
found f p (x ∷ xs) =
    elim (p (f x)) as (λ b. (if b then Some (f x) else find p (map f xs)) ≡ option_map f (if b then Some x else find (λ x. p (f x)) xs)) [
      | true ↦ refl
      | false ↦ found f p xs
    ]

-- what follows the name of a head that is found among these, or is not
pub followed_by : (hs : List code.CommandName) (w : List ℕ) (o : Option code.CommandName) (end : ℕ) (rest : List (List ℕ))
    → o ≡ find (λ h. is_name_of w (row_of h)) hs
    → followed (find (is_name_of w) (map row_of hs)) end rest ≡ followed (option_map row_of o) end rest
followed_by hs w o end rest is =
    ap (λ f. followed f end rest) (found row_of (is_name_of w) hs ∙ ap (λ f. option_map row_of f) (sym is))

-- ---- The words of a command, one after another.

-- the words from the place of a word on
drop_next : (ws : List (List ℕ)) (n : ℕ) (w : List ℕ) → slice_get ws n ≡ Some w → drop n ws ≡ w ∷ drop (n + 1) ws
drop_next ws n w here =
    drop-cons ws n [] (slice_get_within ws n w here)
    ∙ ap (λ v. v ∷ drop (suc n) ws) (get_or_from_slice_get ws n w [] here)
    ∙ ap (λ k. w ∷ drop k ws) (sym (add-one n))

-- a word is next
pub one_next : (fault : CommandFault) (ws : List (List ℕ)) (n : ℕ) (w : List ℕ)
    → slice_get ws n ≡ Some w → Ok (w, drop (n + 1) ws) ≡ next_or fault (drop n ws)
one_next fault ws n w here = sym (ap (next_or fault) (drop_next ws n w here))

-- no word is next
none_next : (fault : CommandFault) (ws : List (List ℕ)) (n : ℕ) → length ws ≤ n → Err fault ≡ next_or fault (drop n ws)
none_next fault ws n beyond = sym (ap (next_or fault) (drop_all n ws beyond))

-- the word that is next
abbrev pub word_of : Result (List ℕ × List (List ℕ)) CommandFault → Option (List ℕ)
word_of (Ok p) = Some p.0
word_of (Err e) = None

-- the word at a place is the next one there
pub word_there : (fault : CommandFault) (ws : List (List ℕ)) (n : ℕ) → slice_get ws n ≡ word_of (next_or fault (drop n ws))
word_there fault ws n =
    elim (slice_get_cases ws n).1 [
      | inl here ↦ here.2 ∙ ap word_of (one_next fault ws n here.0 here.2)
      | inr beyond ↦ beyond.1 ∙ ap word_of (none_next fault ws n beyond.0)
    ]

-- a word is left
pub one_left : (end : ℕ) (ws : List (List ℕ)) (n : ℕ)
    → n < length ws → Err WordCount ≡ takes {A = Unit {0}} [] tt end (drop n ws)
one_left end ws n within = sym (ap (takes {A = Unit {0}} [] tt end) (drop-cons ws n [] within))

-- the last word, and the last word or none
abbrev last : Reader (List ℕ)
last = takes (Word ∷ []) (λ w. w)

abbrev last_if_any : Reader (Option (List ℕ))
last_if_any = if_fits Word ∷ [] then (λ w. Some w) else takes [] None

-- where a word is left, both read it
any_last : (end : ℕ) (w : List ℕ) (ws : List (List ℕ)) → last_if_any end (w ∷ ws) ≡ made_into (λ w. Some w) (last end (w ∷ ws))
any_last end w [] = refl
any_last end w (v ∷ ws) = refl

-- and both refuse more words
pub last_fails : (end : ℕ) (ws : List (List ℕ)) (n : ℕ) (e : CommandFault)
    → n < length ws → Err e ≡ last end (drop n ws) → Err e ≡ last_if_any end (drop n ws)
last_fails end ws n e within is =
    let front : drop n ws ≡ get_or ws n [] ∷ drop (suc n) ws = drop-cons ws n [] within in
    ap (λ r. made_into (λ w. Some w) r) (is ∙ ap (last end) front)
    ∙ sym (any_last end (get_or ws n []) (drop (suc n) ws))
    ∙ sym (ap (last_if_any end) front)

-- the next word as a number, where it is made of digits
abbrev by_digits : List ℕ → List (List ℕ) → Bool → Result (Option (ℕ × List (List ℕ))) CommandFault
by_digits w ws b = if b then made_into (λ p. Some p) (next_number (w ∷ ws)) else Ok None

-- a word that isn't made of digits
pub no_digits : (ws : List (List ℕ)) (n : ℕ) (w : List ℕ)
    → slice_get ws n ≡ Some w → is_digits w ≡ false → Ok None ≡ next_number_if_digits (drop n ws)
no_digits ws n w here is = sym (ap next_number_if_digits (drop_next ws n w here) ∙ ap (by_digits w (drop (n + 1) ws)) is)

-- a word of digits
pub digits_next : (ws : List (List ℕ)) (n : ℕ) (w : List ℕ) (r : Result (ℕ × List (List ℕ)) CommandFault)
    → slice_get ws n ≡ Some w → is_digits w ≡ true → r ≡ next_number (drop n ws)
    → made_into (λ p. Some p) r ≡ next_number_if_digits (drop n ws)
digits_next ws n w r here digits is =
    let front : drop n ws ≡ w ∷ drop (n + 1) ws = drop_next ws n w here in
    ap (λ r. made_into (λ p. Some p) r) (is ∙ ap next_number front)
    ∙ sym (ap next_number_if_digits front ∙ ap (by_digits w (drop (n + 1) ws)) digits)

-- ---- A second command among the words of a rule.

-- how far behind the front of the words that are left, which are the last of the line, a place of the line is
abbrev behind : List (List ℕ) → ℕ → ℕ → ℕ
behind ws from place = place - (length ws - length (drop from ws))

-- places counted from the front of the words that are left, and from that of the line
same_rest : (ws : List (List ℕ)) (from place : ℕ) → drop (behind ws from place) (drop from ws) ≡ drop (max from place) ws
same_rest ws from place =
    elim (cases_lt (length ws) from) [
      | inl beyond ↦
          (let e : drop from ws ≡ [] = drop_all from ws (omega (arith, beyond)) in
          let rest : length (drop from ws) ≤ behind ws from place = omega (arith, length-drop from ws, beyond) in
          drop_all (behind ws from place) (drop from ws) rest ∙ sym (drop_all (max from place) ws (omega (arith, beyond))))
      | inr within ↦
          (let e : from + behind ws from place ≡ max from place = omega (arith, length-drop from ws, within) in
          drop-drop (behind ws from place) from ws ∙ ap (λ n. drop n ws) e)
    ]

-- the word of the rule at a place of the line is the next one there
pub word_seen : (fault : CommandFault) (ws : List (List ℕ)) (from place at : ℕ) (r : Result (List ℕ × List (List ℕ)) CommandFault)
    → at ≡ max from place → r ≡ next_or fault (drop at ws) → word_of r ≡ word_at (length ws) (drop from ws) place
word_seen fault ws from place at r there is =
    ap word_of (is ∙ ap (λ n. next_or fault (drop n ws)) there)
    ∙ sym (word_there fault (drop from ws) (behind ws from place) ∙ ap (λ l. word_of (next_or fault l)) (same_rest ws from place))

is_some_later : {A B : Type 0} (f : A → B) (o : Option A) → is_some o ≡ is_some (option_map f o)
is_some_later f None = refl
is_some_later f (Some x) = refl

-- a word names a command where one of the heads is found
pub names_command : (w : List ℕ) (o : Option code.CommandName)
    → o ≡ find (λ h. is_name_of w (row_of h)) ALL → is_some o ≡ is_command (Some w)
names_command w o is =
    is_some_later row_of o ∙ ap is_some (ap (λ f. option_map row_of f) is ∙ sym (found row_of (is_name_of w) ALL))
