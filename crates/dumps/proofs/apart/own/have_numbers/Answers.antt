use Rattle.std.proofs.Common.{◌≡◌, ℕ, Bool, List, ◌+◌, true, false, not, ◌||◌, drop, sym, ap, subst, ◌∙◌, arith}
use Rattle.dumps.specs.Own.{numbered, all_numbered, all_numbered_after, has_letter}
use Rattle.dumps.specs.Views.{names_in}
use Rattle.dumps.proofs.laws.OwnLaws.{piece, letters-here, go-on}
use Rattle.dumps.proofs.apart.own.have_numbers.Goals.{then-is_separator+else-has_letter_numbered, else-is_separator}
use Rattle.dumps.proofs.apart.own.have_numbers.Goals as goal

pub returns-then-has_letter_numbered : goal.returns-then-has_letter_numbered
returns-then-has_letter_numbered c =
    let rows = names_in c.args.rows.now in
    let value = c.args.value.now in
    let here = letters-here rows value c.loop-i.from c.loop-i.i 0 (omega arith) (sym c.is_separator.ensures ∙ c.if-is_separator.true) in
    let letter : has_letter (numbered rows (piece value c.loop-i.from c.loop-i.i)) ≡ true = sym c.has_letter_numbered.ensures ∙ c.if-has_letter_numbered.true in
    let rest = has_letter (all_numbered_after rows (piece value (c.loop-i.i + 1) (c.loop-i.i + 1)) (drop (c.loop-i.i + 1) value)) in
    ap not (sym (sym c.loop-i.invariant.letters ∙ here ∙ ap (λ t. t || rest) letter))

-- the letters from the next byte on, where the piece at hand begins at this place
letters-from : List (List ℕ × List ℕ) → List ℕ → ℕ → ℕ → Bool
letters-from rows value i from = has_letter (all_numbered_after rows (piece value from (i + 1)) (drop (i + 1) value))

pub loop-i-preserved : goal.loop-i-preserved
unfolding letters-from
loop-i-preserved c =
    let rows = names_in c.args.rows.now in
    let value = c.args.value.now in
    let i = c.loop-i.i in
    let all = has_letter (all_numbered rows value) in
    elim c.if-is_separator.branch [
      | then-is_separator+else-has_letter_numbered w ↦
          let here = letters-here rows value c.loop-i.from i 0 (omega arith) (sym c.is_separator.ensures ∙ w.if-is_separator.true) in
          let none : has_letter (numbered rows (piece value c.loop-i.from i)) ≡ false = sym w.has_letter_numbered.ensures ∙ w.if-has_letter_numbered.false in
          let rest : letters-from rows value i (i + 1) ≡ all = sym (ap (λ t. t || letters-from rows value i (i + 1)) none) ∙ sym here ∙ c.loop-i.invariant.letters in
          record { within = omega (arith, w.from-is); letters = subst (λ k. letters-from rows value i k ≡ all) (sym w.from-is) rest }
      | else-is_separator w ↦
          let on = go-on rows value c.loop-i.from i 0 c.loop-i.invariant.within (omega arith) (sym c.is_separator.ensures ∙ w.if-is_separator.false) in
          let rest : letters-from rows value i c.loop-i.from ≡ all = ap has_letter (sym on) ∙ c.loop-i.invariant.letters in
          record { within = omega (arith, w.from-is); letters = subst (λ k. letters-from rows value i k ≡ all) (sym w.from-is) rest }
    ]
