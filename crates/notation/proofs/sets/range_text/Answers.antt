use Rattle.std.proofs.Common.{◌∙◌, sym, subst, List, ℕ}
use Rattle.std.proofs.lemmas.Bool.{false≢true}
use Rattle.notation.specs.SetText.{IsRangeText}
use Rattle.notation.proofs.IntervalTextLaws.{usual-part, plain-part}
use Rattle.notation.proofs.sets.range_text.Goals as goal

pub returns-then-branch : goal.returns-then-branch
returns-then-branch c =
    let P : List ℕ → Type 0 = λ bytes. IsRangeText c.args.field bytes c.args.span.now in
    usual-part c.args.field c.args.span.now c.in_ok-usual.usual.items c.requires c.in_ok-usual.ensures
    (subst P c.as_slice.ensures.value (c.in_ok-is_range_text.ensures.0 c.if-branch.true))

pub returns : goal.returns
returns c =
    let P : List ℕ → Type 0 = λ bytes. IsRangeText c.args.field bytes c.args.span.now in
    plain-part c.args.field c.args.span.now c.in_ok-usual.usual.items c.in_ok-plain.plain.items c.requires c.in_ok-usual.ensures
    (λ back. absurd (false≢true (sym c.if-branch.false ∙ c.in_ok-is_range_text.ensures.1 (subst P (sym c.as_slice.ensures.value) back))))
    c.in_ok-plain.ensures.written c.in_ok-plain.ensures.reads_back
