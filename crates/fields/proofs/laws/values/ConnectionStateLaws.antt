-- The text of a set of states gives it back, and the numbers of a packet's states.
use Rattle.std.proofs.Common.{◌≡◌, ◌==◌, ℕ, ◌≤◌, Bool, true, false, cond, ◌||◌, List, ◌∷◌, [], Option, None, Some, refl, ap, sym, ◌∙◌, arith, eq-eqb}
use Rattle.std.specs.Prelude.{nat_le, IfSome, find, option_map}
use Rattle.std.specs.Int.RustNames.{bit_and}
use Rattle.std.proofs.lemmas.Bool.{and_parts, eqb-true, leb-true}
use Rattle.fields.specs.Sequence.{◌>>=◌}
use Rattle.fields.specs.values.NameList.{is_just, set_listed, names_listed}
use Rattle.fields.specs.values.ConnectionState.{states, ctstate_of, untranslated, state_of, IsStates, states_text, packet_states, packet_state_of, marks_of}
use Rattle.fields.specs.steps.Tables.{StateRow, named_numbers, marks_in, all_marked}
use Rattle.fields.proofs.laws.values.NameListLaws.{all_below, all_below-at, is_just-same, set_listed-lt, set_listed-some, number_named-passes}

-- what is read is a set of some of the seven
pub are_states : (text : List ℕ) (n : ℕ) → ctstate_of text ≡ Some n → IsStates n
are_states text n e = record { some = set_listed-some states text n refl e; known = set_listed-lt 7 states text n refl e }

abbrev reads : ℕ → Bool
reads n = (n == 0) || is_just (ctstate_of (states_text n)) n

each_reads : all_below reads 128 ≡ true
unfolding set_listed names_listed
each_reads = refl

pub ctstate_reads_back : (n : ℕ) → IsStates n → ctstate_of (states_text n) ≡ Some n
ctstate_reads_back n is = go (n == 0) refl (all_below-at reads 128 n each_reads is.known)
  where
    go : (t : Bool) → (n == 0) ≡ t → (t || is_just (ctstate_of (states_text n)) n) ≡ true → ctstate_of (states_text n) ≡ Some n
    go true zero e = let some = is.some in absurd (omega (arith, eqb-true n 0 zero))
    go false more e = is_just-same (ctstate_of (states_text n)) n e

pub state_reads_back : (n : ℕ) → IsStates n → bit_and n 96 ≡ 0 → state_of (states_text n) ≡ Some n
state_reads_back n is plain = ap (λ o. o >>= untranslated) (ctstate_reads_back n is) ∙ ap (λ t. cond t (Some n) None) (eq-eqb (bit_and n 96) 0 plain)

-- the numbers of a packet's states
pub packet_state_within : (text : List ℕ) (r : Option ℕ) → r ≡ packet_state_of text → IfSome r (λ n. n ≤ 13)
packet_state_within text None e = tt
packet_state_within text (Some n) e = leb-true n 13 (number_named-passes (λ m. nat_le m 13) packet_states text n refl (sym e))

-- the sets beside the names are those that the names list
marks-rows : (number : ℕ) (rows : List StateRow) → all_marked rows ≡ true → marks_in number rows ≡ (find (λ row. row.1 == number) (named_numbers rows) >>= λ row. set_listed states row.0)
marks-rows number [] all = refl
marks-rows number (row ∷ rows) all =
    let (first, others) = and_parts (is_just (set_listed states row.0.now) row.2.0) (all_marked rows) all in
    go (row.1 == number) (sym (is_just-same (set_listed states row.0.now) row.2.0 first)) (marks-rows number rows others)
  where
    go : (t : Bool) → Some row.2.0 ≡ set_listed states row.0.now → marks_in number rows ≡ (find (λ r. r.1 == number) (named_numbers rows) >>= λ r. set_listed states r.0)
        → option_map (λ (r : StateRow). r.2.0) (cond t (Some row) (find (λ (r : StateRow). r.1 == number) rows))
        ≡ (cond t (Some (row.0.now, row.1)) (find (λ r. r.1 == number) (named_numbers rows)) >>= λ r. set_listed states r.0)
    go true here further = here
    go false here further = further

pub marks_in_rows : (number : ℕ) (rows : List StateRow) → named_numbers rows ≡ packet_states → all_marked rows ≡ true → marks_in number rows ≡ marks_of number
unfolding marks_of
marks_in_rows number rows names sets = marks-rows number rows sets ∙ ap (λ l. find (λ (r : List ℕ × ℕ). r.1 == number) l >>= λ r. set_listed states r.0) names
