use Rattle.std.proofs.Common.{◌≡◌, ◌∙◌, ap, sym, length, arith, List, ℕ}
use Rattle.std.proofs.lemmas.Bool.{true≢false}
use Rattle.fields.specs.declared.numbers.spans.Interval.{Interval}
use Rattle.fields.specs.numbers.Spans.{has}
use Rattle.classify.proofs.laws.classifier.WholeLaws.{all_between, one_interval}
use Rattle.classify.proofs.classifier.whole.is_everything.Goals as goal

pub returns-then-intervals-ne1 : goal.returns-then-intervals-ne1
returns-then-intervals-ne1 c = (
  λ on. absurd (true≢false (sym on)),
  λ all. absurd (c.if-intervals-ne1.true (ap (λ (ss : List Interval). length ss) c.intervals.ensures.value ∙ one_interval c.args.spans.now.top c.args.spans.now.intervals c.intervals.ensures.canonical all)),
)

pub returns-then-has : goal.returns-then-has
returns-then-has c =
    let spans : List Interval = c.args.spans.now.intervals in
    let last : c.has-then-has.result ≡ has spans c.args.spans.now.top = c.has-then-has.ensures ∙ ap (λ (x : ℕ). has spans x) c.top.ensures in (
      λ on. all_between c.args.spans.now.top spans c.intervals.ensures.canonical (sym (ap (λ (ss : List Interval). length ss) c.intervals.ensures.value) ∙ c.if-intervals-ne1.false) (sym c.has.ensures ∙ c.if-has.true) (sym last ∙ on),
      λ all. last ∙ all c.args.spans.now.top (omega arith),
    )
