use Rattle.std.proofs.Common.{sym, ap, ◌∙◌, arith}
use Rattle.fields.specs.numbers.Spans.{SpanSet}
use Rattle.questions.proofs.laws.AreaLaws.{nothing_shared, same_tops}
use Rattle.questions.proofs.laws.PartLaws.{met_next, met_on_all}
use Rattle.questions.proofs.boxes.meeting.meet.Goals as goal

pub share-requires : goal.share-requires
share-requires c =
    ap (λ (s : SpanSet). s.top) c.index-own-place.is ∙ same_tops c.args.own.now c.args.other.now c.loop-place.place c.index-own-place.result c.index-other-place.result c.requires.own c.requires.other (omega arith)
    ∙ sym (ap (λ (s : SpanSet). s.top) c.index-other-place.is)

pub loop-place-preserved : goal.loop-place-preserved
loop-place-preserved c =
    met_next c.args.own.now c.args.other.now c.loop-place.place c.index-own-place.result c.index-other-place.result c.requires.own c.requires.other (omega arith) c.index-own-place.is c.index-other-place.is (c.share.ensures.some c.if-not-share.false) c.loop-place.invariant

pub returns-then-not-share-clause-none : goal.returns-then-not-share-clause-none
returns-then-not-share-clause-none c =
    λ _ numbers. nothing_shared c.args.own.now c.args.other.now numbers c.loop-place.place c.index-own-place.result c.index-other-place.result c.requires.own c.requires.other (omega arith) c.index-own-place.is c.index-other-place.is (c.share.ensures.none c.if-not-share.true)

pub returns-clause-some : goal.returns-clause-some
returns-clause-some c = λ _. met_on_all c.args.own.now c.args.other.now c.loop-place.place c.requires.own (omega arith) c.loop-place.invariant
