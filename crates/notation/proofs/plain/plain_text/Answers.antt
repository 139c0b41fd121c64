use Rattle.std.proofs.Common.{◌≡◌, ◌++◌, ◌∷◌, List, ℕ, cond, ap, subst, sym, ◌∙◌}
use Rattle.notation.specs.IntervalText.{end_text, mark_of, one_text}
use Rattle.notation.proofs.IntervalTextLaws.{plain-reads}
use Rattle.notation.specs.SetText.{IsRangeText}
use Rattle.notation.proofs.plain.plain_text.Goals as goal
use Rattle.notation.proofs.plain.plain_text.Goals.{then-has_ranges+in_ok-put_ends, else-has_ranges+in_ok-put_one}

pub returns-clause-written : goal.returns-clause-written
returns-clause-written c =
    let f = c.args.field in
    let s = c.args.span.now in
    let ends = end_text f s.first ++ mark_of f ∷ end_text f s.last in
    elim c.if-has_ranges.branch [
      | then-has_ranges+in_ok-put_ends w ↦
          ap (λ v. v.items) w.text-is ∙ w.in_ok-put_ends.ensures ∙ ap (λ l. l ++ ends) c.new-text.ensures.items
          ∙ sym (ap (λ b. cond b ends (one_text f s)) (sym c.has_ranges.ensures ∙ w.if-has_ranges.true))
      | else-has_ranges+in_ok-put_one w ↦
          ap (λ v. v.items) w.text-is ∙ w.in_ok-put_one.ensures ∙ ap (λ l. l ++ one_text f s) c.new-text.ensures.items
          ∙ sym (ap (λ b. cond b ends (one_text f s)) (sym c.has_ranges.ensures ∙ w.if-has_ranges.false))
    ]

pub returns-clause-reads_back : goal.returns-clause-reads_back
returns-clause-reads_back c =
    let P : List ℕ → Type 0 = λ bytes. IsRangeText c.args.field bytes c.args.span.now in
    subst P (sym (returns-clause-written c)) (plain-reads c.args.field c.args.span.now c.requires)
