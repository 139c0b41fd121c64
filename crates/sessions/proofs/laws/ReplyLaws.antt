-- The texts of replies: the numbers of the rules that allow a piece, hexadecimal digits, and a walk by the steps of its trail.
use Rattle.std.proofs.Common.{◌≡◌, ℕ, zero, suc, ◌+◌, ◌*◌, ◌^◌, refl, ap, sym, ◌∙◌, arith, pow-suc, ◌<◌, ◌≤◌, Bool, true, false, cond, ltb, Option, Some, None, List, [], ◌∷◌, ◌++◌, length, drop, map, flat_map}
use Rattle.std.specs.Prelude.{decimal}
use Rattle.std.proofs.lemmas.Nat.{pow-add}
use Rattle.std.specs.List.{position_or_len, join_with_byte, position}
use Rattle.std.specs.Option.{option_map}
use Rattle.std.proofs.lemmas.Bool.{ltb-true, ltb-false}
use Rattle.std.proofs.lemmas.Option.{same_Some}
use Rattle.std.proofs.lemmas.List.{append-nil, drop-drop, length-drop}
use Rattle.std.proofs.lemmas.List.Quantifiers.{position-Some}
use Rattle.std.proofs.lemmas.Slice.Eq.{bytes_eq-Decides}
use Rattle.classify.specs.NextMatch.{next_match}
use Rattle.fields.specs.Packet.{PacketView as Packet}
use Rattle.table.specs.chains.Table.{Table, chain_at, empty_chain, is_named}
use Rattle.table.specs.declared.verdict.Verdict.{Verdict}
use Rattle.table.specs.declared.walk.trail.Step.{Step}
use Rattle.table.specs.declared.walk.trail.Trail.{Trail}
use Rattle.table.specs.walk.Walk.{Shows, shown, Entry, Walked, walk}
use Rattle.sessions.specs.Replies.{numbers_from, numbers_text, further_numbers, entry_at, steps_text, trail_text, entry_line, packet_reply, verdict_line, walked_text}

-- ---- Hexadecimal digits.

-- four bits make a digit
pub bits_of_digits : (k : ℕ) → 2 ^ (4 * k) ≡ 16 ^ k
bits_of_digits zero = refl
bits_of_digits (suc k) =
    let more : 4 * suc k ≡ 4 * k + 4 = omega arith in
    ap (λ n. 2 ^ n) more ∙ pow-add 2 (4 * k) 4 ∙ ap (λ n. n * 16) (bits_of_digits k) ∙ sym (pow-suc 16 k)

-- ---- The numbers of the rules that allow a piece, as a search of the row finds them.

-- how many answers stand before the first yes
abbrev before_yes : List Bool → ℕ
before_yes answers = position_or_len (λ b. b) answers

numbers_none : (n : ℕ) (answers : List Bool) → length answers ≤ before_yes answers → numbers_from n answers ≡ []
numbers_none n [] le = refl
numbers_none n (true ∷ answers) le = absurd (omega arith)
numbers_none n (false ∷ answers) le = numbers_none (n + 1) answers (omega arith)

numbers_some : (n i m : ℕ) (answers : List Bool) → before_yes answers ≡ i → i < length answers → n + i ≡ m
    → numbers_from n answers ≡ m ∷ numbers_from (m + 1) (drop (i + 1) answers)
numbers_some n i m [] at lt sum = absurd (omega arith)
numbers_some n i m (true ∷ answers) at lt sum =
    let here : n ≡ m = omega arith in
    let one : 1 ≡ i + 1 = omega arith in
    ap (λ k. k ∷ numbers_from (k + 1) answers) here ∙ ap (λ k. m ∷ numbers_from (m + 1) (drop k (true ∷ answers))) one
numbers_some n i m (false ∷ answers) at lt sum =
    let j = before_yes answers in
    let later : suc (j + 1) ≡ i + 1 = omega arith in
    numbers_some (n + 1) j m answers refl (omega arith) (omega arith)
    ∙ ap (λ k. m ∷ numbers_from (m + 1) (drop k (false ∷ answers))) later

-- the next yes, at or after a place

module _ (answers : List Bool) (from : ℕ) where
  abbrev rest : List Bool
  rest = drop from answers

  abbrev found : Bool → Option ℕ
  found b = option_map (λ (k : ℕ). from + k) (cond b (Some (before_yes rest)) None)

  none_by : (b : Bool) → ltb (before_yes rest) (length rest) ≡ b → found b ≡ None → numbers_from (from + 1) rest ≡ []
  none_by true is e = cc
  none_by false is e = numbers_none (from + 1) rest (ltb-false _ _ is)

  pub none_further : next_match (λ b. b) answers from ≡ None → numbers_from (from + 1) rest ≡ []
  none_further e = none_by (ltb (before_yes rest) (length rest)) refl e

  -- a number found: it is that of a rule, and the others come after it
  abbrev IsNext : ℕ → Type 0
  IsNext at = (at < length answers) × (numbers_from (from + 1) rest ≡ (at + 1) ∷ numbers_from (at + 1 + 1) (drop (at + 1) answers))

  some_by : (b : Bool) (at : ℕ) → ltb (before_yes rest) (length rest) ≡ b → found b ≡ Some at → IsNext at
  some_by false at is e = cc
  some_by true at is e =
      let i = before_yes rest in
      let here : from + i ≡ at = same_Some (from + i) at e in
      let within : i < length rest = ltb-true i (length rest) is in
      let after : from + (i + 1) ≡ at + 1 = omega arith in
      let later : drop (i + 1) rest ≡ drop (at + 1) answers = drop-drop (i + 1) from answers ∙ ap (λ k. drop k answers) after in (
        omega (arith, length-drop from answers),
        numbers_some (from + 1) i (at + 1) rest refl within (omega arith) ∙ ap (λ (more : List Bool). (at + 1) ∷ numbers_from (at + 1 + 1) more) later,
      )

  pub some_further : (at : ℕ) → next_match (λ b. b) answers from ≡ Some at → IsNext at
  some_further at e = some_by (ltb (before_yes rest) (length rest)) at refl e

-- the text of the numbers

further : (n : ℕ) (ns : List ℕ) → join_with_byte 44 (map decimal (n ∷ ns)) ≡ decimal n ++ flat_map (λ m. 44 ∷ decimal m) ns
further n [] = sym (append-nil (decimal n))
further n (m ∷ ns) = ap (λ (text : List ℕ). decimal n ++ 44 ∷ text) (further m ns)

-- no rule allows the piece
pub text_of_none : (answers : List Bool) → next_match (λ b. b) answers 0 ≡ None → numbers_text answers ≡ []
text_of_none answers e = ap (λ (ns : List ℕ). join_with_byte 44 (map decimal ns)) (none_further answers 0 e)

-- the first rule that allows the piece, and the others
pub text_of_first : (answers : List Bool) (at : ℕ) → next_match (λ b. b) answers 0 ≡ Some at
    → numbers_text answers ≡ decimal (at + 1) ++ further_numbers (at + 1 + 1) (drop (at + 1) answers)
text_of_first answers at e =
    let next = some_further answers 0 at e in
    ap (λ (ns : List ℕ). join_with_byte 44 (map decimal ns)) next.1 ∙ further (at + 1) (numbers_from (at + 1 + 1) (drop (at + 1) answers))

-- the next number, and the others
pub further_more : (answers : List Bool) (from at : ℕ) → next_match (λ b. b) answers from ≡ Some at
    → further_numbers (from + 1) (drop from answers) ≡ (44 ∷ decimal (at + 1)) ++ further_numbers (at + 1 + 1) (drop (at + 1) answers)
further_more answers from at e = ap (flat_map (λ m. 44 ∷ decimal m)) (some_further answers from at e).1

-- no further number
pub further_end : (answers : List Bool) (from : ℕ) → next_match (λ b. b) answers from ≡ None → further_numbers (from + 1) (drop from answers) ≡ []
further_end answers from e = ap (flat_map (λ m. 44 ∷ decimal m)) (none_further answers from e)

-- ---- The text of a walk, by the steps of the trail that shows it.

-- a step stands for the entry that it shows
step_by : (t : Table) (entry : Entry) (step : Step) (o : Option ℕ) → position (is_named entry.chain) t.chains ≡ o
    → option_map (λ (place : ℕ). let s : Step = record { chain = place; number = entry.number } in s) o ≡ Some step → entry_at t step ≡ entry
step_by t entry step None at e = cc
step_by t entry step (Some place) at e =
    let made : Step = record { chain = place; number = entry.number } in
    let same : made ≡ step = same_Some made step e in
    let found = position-Some (is_named entry.chain) t.chains place (empty_chain []) at in
    let named : (chain_at t place).name ≡ entry.chain = (bytes_eq-Decides (chain_at t place).name entry.chain).0 found.1 in
    ap (entry_at t) (sym same) ∙ ap (λ (name : List ℕ). let e : Entry = record { chain = name; number = entry.number } in e) named

step_entry : (t : Table) (entry : Entry) (step : Step) → shown t.chains entry ≡ Some step → entry_at t step ≡ entry
step_entry t entry step e = step_by t entry step (position (is_named entry.chain) t.chains) refl e

entries_text : (t : Table) (entries : List Entry) (steps : List Step) → map (shown t.chains) entries ≡ map Some steps → flat_map entry_line entries ≡ steps_text t steps
entries_text t [] [] e = refl
entries_text t [] (step ∷ steps) e = cc
entries_text t (entry ∷ entries) [] e = cc
entries_text t (entry ∷ entries) (step ∷ steps) e =
    let first : shown t.chains entry ≡ Some step = cc in
    let others : map (shown t.chains) entries ≡ map Some steps = cc in
    ap (λ (one : Entry). entry_line one ++ flat_map entry_line entries) (sym (step_entry t entry step first))
    ∙ ap (λ (text : List ℕ). entry_line (entry_at t step) ++ text) (entries_text t entries steps others)

-- the text of the walk that the trail shows
pub text_shown : (t : Table) (walked : Walked) (trail : Trail) → Shows t.chains walked trail
    → walked_text walked ≡ trail_text t trail
text_shown t walked trail shows =
    ap (λ (text : List ℕ). text ++ verdict_line walked.verdict walked.by_policy) (entries_text t walked.trail trail.steps.items shows.steps)
    ∙ ap (λ (v : Verdict). steps_text t trail.steps.items ++ verdict_line v walked.by_policy) (sym shows.verdict)
    ∙ ap (λ by_policy. steps_text t trail.steps.items ++ verdict_line trail.verdict by_policy) (sym shows.by_policy)

-- the same of a packet
pub reply_shown : (t : Table) (packet : Packet) (trail : Trail) → Shows t.chains (walk t packet) trail
    → packet_reply t packet ≡ trail_text t trail
unfolding packet_reply
reply_shown t packet trail shows = text_shown t (walk t packet) trail shows
