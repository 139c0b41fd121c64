use Rattle.std.proofs.Common.{◌≡◌, ◌≤◌, ◌∙◌, ◌||◌, ℕ, List, true, ap, sym, subst, arith}
use Rattle.std.specs.Prelude.{All}
use Rattle.std.proofs.lemmas.Result.{IfOk-weaker}
use Rattle.fields.specs.declared.numbers.field.Field.TheVariants.{ConnectionState}
use Rattle.fields.specs.declared.numbers.spans.Interval.{Interval}
use Rattle.fields.specs.numbers.Spans.{has, in_span}
use Rattle.notation.specs.IntervalText.{IsPart, is_one}
use Rattle.notation.proofs.PartLaws.{one-more}
use Rattle.notation.proofs.SetTextLaws.{shared-has}
use Rattle.notation.proofs.sets.add_state.Goals as goal

pub returns-then-own-last-clause-parts : goal.returns-then-own-last-clause-parts
returns-then-own-last-clause-parts c = λ all.
    let own : Interval = record { first = c.max.result; last = c.min.result } in
    let P : ℕ → ℕ → Type 0 = λ a b. is_one ConnectionState (record { first = a; last = b }) ≡ true in
    let one : is_one ConnectionState own ≡ true = subst (λ (a : ℕ). P a c.min.result) (sym c.if-own-first.true) (subst (λ (b : ℕ). P c.args.first b) (sym c.if-own-last.true) c.requires.state) in
    let part : IsPart ConnectionState own = record { ordered = c.if-own.false; within = omega (arith, c.if-own-last.true, c.requires.within); one = one } in
    subst (λ (items : List Interval). All (IsPart ConnectionState) items) (sym c.in_ok-push.ensures.items) (one-more ConnectionState c.args.parts.now.items own all part)

pub returns-clause-members : goal.returns-clause-members
returns-clause-members c =
    IfOk-weaker c.add_each.result _ _ (λ done h x. h x ∙ ap (λ b. has c.args.parts.now.items x || b) (shared-has c.args.span.now c.args.first c.args.last c.max.result c.min.result x c.max.ensures c.min.ensures)) c.add_each.ensures.members
