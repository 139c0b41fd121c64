use Rattle.std.proofs.Common.{◌≡◌, ℕ, ◌&&◌, sym, ◌∙◌, ap, arith}
use Rattle.std.proofs.lemmas.Result.{IfOk-weaker}
use Rattle.fields.specs.numbers.Spans.{SpanSet, has, in_span}
use Rattle.questions.proofs.laws.PartLaws.{has_only}
use Rattle.questions.proofs.boxes.area.met.Goals as goal

pub shared-requires : goal.shared-requires
shared-requires c = let own = c.in-Some-Some.ensures in omega (arith, own.1, c.top.ensures)

pub returns-in-Some-Some-clause-members : goal.returns-in-Some-Some-clause-members
returns-in-Some-Some-clause-members c =
    let own = c.args.own.now in
    let other = c.args.other.now in
    let one = c.in-Some-Some.one in
    let two = c.in-Some-Some.two in
    let both : (x : ℕ) → (in_span x one && in_span x two) ≡ (has own.intervals x && has other.intervals x) =
    λ x. sym (ap (λ b. b && has other.intervals x) (has_only own one x c.in-Some-Some.ensures.0) ∙ ap (λ b. in_span x one && b) (has_only other two x c.in-Some-Some.ensures'.0)) in
    IfOk-weaker c.shared.result (λ (set : SpanSet). (x : ℕ) → has set.intervals x ≡ (in_span x one && in_span x two)) (λ (set : SpanSet). (x : ℕ) → has set.intervals x ≡ (has own.intervals x && has other.intervals x))
    (λ set h x. h x ∙ both x) c.shared.ensures.members
