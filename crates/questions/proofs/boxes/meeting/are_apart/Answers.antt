use Rattle.std.proofs.Common.{sym, ap, ◌∙◌, arith}
use Rattle.fields.specs.numbers.Spans.{SpanSet}
use Rattle.questions.proofs.laws.AreaLaws.{nothing_shared, same_tops}
use Rattle.questions.proofs.laws.PartLaws.{met_next, met_on_all, met_whole}
use Rattle.questions.specs.steps.Sides.{no_set}
use Rattle.questions.proofs.boxes.meeting.are_apart.Goals.{else-fields-place-via-else-fields-place, else-fields-place-via-then-fields-place+else-not-share}
use Rattle.questions.proofs.boxes.meeting.are_apart.Goals as goal

pub share-requires : goal.share-requires
share-requires c =
    ap (λ (s : SpanSet). s.top) c.index-own-place.is ∙ same_tops c.args.own.now c.args.other.now c.loop-place.place c.index-own-place.result c.index-other-place.result c.requires.own c.requires.other (omega arith)
    ∙ sym (ap (λ (s : SpanSet). s.top) c.index-other-place.is)

pub returns-then-not-share-clause-none : goal.returns-then-not-share-clause-none
returns-then-not-share-clause-none c =
    λ _ numbers. nothing_shared c.args.own.now c.args.other.now numbers c.loop-place.place c.index-own-place.result c.index-other-place.result c.requires.own c.requires.other (omega arith) c.index-own-place.is c.index-other-place.is (c.share.ensures.none c.if-not-share.true)

pub loop-place-preserved : goal.loop-place-preserved
loop-place-preserved c =
    let own = c.args.own.now in
    let other = c.args.other.now in
    let place = c.loop-place.place in
    λ some whole. elim c.else-fields-place.branch [
      | else-fields-place-via-then-fields-place+else-not-share w ↦ met_next own other place w.index-own-place.result w.index-other-place.result c.requires.own c.requires.other (omega arith) w.index-own-place.is w.index-other-place.is (w.share.ensures.some w.if-not-share.false) (c.loop-place.invariant some whole)
      | else-fields-place-via-else-fields-place w ↦ met_whole own other place c.requires.own c.requires.other (omega arith) some (whole place _ no_set (omega arith) w.if-fields-place.false) (c.loop-place.invariant some whole)
    ]

pub returns-clause-some : goal.returns-clause-some
returns-clause-some c = λ _ some whole. met_on_all c.args.own.now c.args.other.now c.loop-place.place c.requires.own (omega arith) (c.loop-place.invariant some whole)
