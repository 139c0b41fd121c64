use Rattle.std.proofs.Common.{◌≡◌, ℕ, List, ◌+◌, ◌++◌, ◌∷◌, [], drop, sym, ap, ◌∙◌, arith, append_assoc, get_or, subst₂, Vec, Global}
use Rattle.dumps.specs.Own.{numbered, all_numbered, all_numbered_after}
use Rattle.dumps.specs.Views.{names_in}
use Rattle.dumps.proofs.laws.OwnLaws.{piece, cut-here, go-on}
use Rattle.dumps.proofs.apart.own_line.all_numbered.Goals.{then-is_separator+in_ok-append_numbered+in_ok-push, else-is_separator}
use Rattle.dumps.proofs.apart.own_line.all_numbered.Goals as goal

-- what follows the next byte, where the piece at hand begins at this place
after-next : List (List ℕ × List ℕ) → List ℕ → ℕ → ℕ → List ℕ
after-next rows value i from = all_numbered_after rows (piece value from (i + 1)) (drop (i + 1) value)

pub loop-i-preserved : goal.loop-i-preserved
unfolding after-next
loop-i-preserved c =
    let rows = names_in c.args.rows.now in
    let value = c.args.value.now in
    let i = c.loop-i.i in
    let all = all_numbered rows value in
    elim c.if-is_separator.branch [
      | then-is_separator+in_ok-append_numbered+in_ok-push w ↦
          let n = numbered rows (piece value c.loop-i.from i) in
          let b = get_or value i 0 in
          let next = after-next rows value i (i + 1) in
          let here = cut-here rows value c.loop-i.from i 0 (omega arith) (sym c.is_separator.ensures ∙ w.if-is_separator.true) in
          let items : w.push.new.self.items ≡ (c.loop-i.text.items ++ n) ++ b ∷ [] = w.in_ok-push.ensures.items ∙ ap (λ l. l ++ b ∷ []) w.in_ok-append_numbered.ensures in
          let whole : w.push.new.self.items ++ next ≡ all =
          ap (λ l. l ++ next) items ∙ append_assoc (c.loop-i.text.items ++ n) (b ∷ []) next ∙ append_assoc c.loop-i.text.items n (b ∷ next)
          ∙ ap (λ l. c.loop-i.text.items ++ l) (sym here) ∙ c.loop-i.invariant.whole in
          record {
            within = omega (arith, w.from-is);
            whole = subst₂ (λ (v : Vec ℕ Global) (k : ℕ). v.items ++ after-next rows value i k ≡ all) (sym w.text-is) (sym w.from-is) whole;
          }
      | else-is_separator w ↦
          let on = go-on rows value c.loop-i.from i 0 c.loop-i.invariant.within (omega arith) (sym c.is_separator.ensures ∙ w.if-is_separator.false) in
          let whole : c.loop-i.text.items ++ after-next rows value i c.loop-i.from ≡ all = ap (λ l. c.loop-i.text.items ++ l) (sym on) ∙ c.loop-i.invariant.whole in
          record {
            within = omega (arith, w.from-is);
            whole = subst₂ (λ (v : Vec ℕ Global) (k : ℕ). v.items ++ after-next rows value i k ≡ all) (sym w.text-is) (sym w.from-is) whole;
          }
    ]
