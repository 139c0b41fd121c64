use Rattle.std.proofs.Common.{ap}
use Rattle.std.proofs.lemmas.Result.{IfOk-weaker}
use Rattle.fields.specs.numbers.Spans.{SpanSet, has}
use Rattle.questions.specs.boxes.Boxes.{IsNarrowed}
use Rattle.questions.specs.steps.Transports.{IsKept}
use Rattle.questions.proofs.laws.TransportLaws.{kept_all, kept_none}
use Rattle.questions.proofs.boxes.transport.kept.Goals as goal

pub returns-then-wanted : goal.returns-then-wanted
returns-then-wanted c = kept_all c.args.area c.args.wanted c.if-wanted.true

pub returns : goal.returns
returns c =
    let none : SpanSet = c.none-none.result in
    IfOk-weaker c.narrow.result (IsNarrowed c.args.field none c.args.area) (IsKept c.args.wanted c.args.area)
    (λ after h. kept_none c.args.field none c.args.area after c.args.wanted c.if-wanted.false (λ x. ap (λ (s : SpanSet). has s.intervals x) c.none-none.ensures) h) c.narrow.ensures
