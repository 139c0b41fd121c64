use Rattle.std.proofs.Common.{◌≡◌, ◌-◌, inl, inr, false, not, ap, length, sym, ◌∙◌, true≢false}
use Rattle.std.proofs.lemmas.Bool.{cases_Bool}
use Rattle.std.proofs.lemmas.Option.{get_or_from_slice_get, slice_get_within}
use Rattle.questions.proofs.asked.missing.is_newest_off.Goals as goal

pub returns-then-has : goal.returns-then-has
returns-then-has c = λ off.
    let found = c.args.found.now in
    let last = sym (c.in-Some.ensures.value) in
    let un : c.is_surely_on.result ≡ false = elim (cases_Bool c.is_surely_on.result) [ inl on ↦ absurd (true≢false (sym off ∙ ap not on)) | inr un ↦ un ] in (
      length found - 1,
      c.in-Some.leaf.now,
      slice_get_within found (length found - 1) c.in-Some.leaf.now last,
      get_or_from_slice_get found (length found - 1) c.in-Some.leaf.now c.in-Some.leaf.now last,
      (record { each = rw (← c.sets.ensures.value) (sym c.has.ensures ∙ c.if-has.true) }, rw c.at-needs.ensures at (c.is_surely_on.ensures.no un)),
    )
