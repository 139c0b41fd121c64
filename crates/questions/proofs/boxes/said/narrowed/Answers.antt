use Rattle.std.proofs.Common.{ap, sym, ◌∙◌}
use Rattle.std.proofs.lemmas.Result.{IfOk-weaker}
use Rattle.fields.specs.numbers.Spans.{SpanSet, has}
use Rattle.questions.specs.boxes.Boxes.{IsNarrowed}
use Rattle.questions.specs.steps.Saying.{IsSaidWith}
use Rattle.questions.proofs.laws.SaidLaws.{said_carried, said_free, said_none}
use Rattle.questions.proofs.boxes.said.narrowed.Goals as goal

pub returns-then-is_carried : goal.returns-then-is_carried
returns-then-is_carried c =
    let word = c.args.word.now in
    let set : SpanSet = c.in_ok-numbers.numbers in
    IfOk-weaker c.narrow.result (IsNarrowed word.field set c.args.area) (IsSaidWith c.args.transport c.args.hook word c.args.area)
    (λ after h. said_carried c.args.transport c.args.hook word c.args.area after set (sym c.is_carried.ensures ∙ c.if-is_carried.true) c.in_ok-numbers.ensures h) c.narrow.ensures

pub returns-then-word : goal.returns-then-word
returns-then-word c = said_free c.args.transport c.args.hook c.args.word.now c.args.area (sym c.is_carried.ensures ∙ c.if-is_carried.false) c.if-word.true

pub returns : goal.returns
returns c =
    let word = c.args.word.now in
    let none : SpanSet = c.none.result in
    IfOk-weaker c.narrow-3.result (IsNarrowed word.field none c.args.area) (IsSaidWith c.args.transport c.args.hook word c.args.area)
    (λ after h. said_none c.args.transport c.args.hook word c.args.area after none (sym c.is_carried.ensures ∙ c.if-is_carried.false) c.if-word.false (λ x. ap (λ (s : SpanSet). has s.intervals x) c.none.ensures) h)
    c.narrow-3.ensures
