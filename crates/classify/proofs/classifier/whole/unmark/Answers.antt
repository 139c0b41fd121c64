use Rattle.std.proofs.Common.{◌<◌, ◌+◌, ◌∙◌, arith, length, List, Bool, sym, subst}
use Rattle.std.proofs.lemmas.Bool.{true≢false}
use Rattle.fields.specs.numbers.Spans.{SpanSet}
use Rattle.classify.specs.steps.Kept.{IsEverything}
use Rattle.classify.proofs.laws.classifier.WholeLaws.{AreLeft, mark_goes, mark_stays, marks_left}
use Rattle.classify.proofs.classifier.whole.unmark.Goals as goal
use Rattle.classify.proofs.classifier.whole.unmark.Goals.{then-not-is_everything, else-not-is_everything}

pub loop-k-preserved : goal.loop-k-preserved
loop-k-preserved c =
    let lt : c.loop-k.k < length c.args.spans.now = omega arith in
    let in' : c.loop-k.k < length c.loop-k.marks = omega arith in
    let P : List Bool → Type 0 = λ marks. AreLeft c.args.marks.now c.args.spans.now (c.loop-k.k + 1) marks in
    let Q : SpanSet → Type 0 = IsEverything in
    elim c.if-not-is_everything.branch [
      | then-not-is_everything w ↦ subst P (sym w.marks-is) (mark_goes c.args.marks.now c.loop-k.marks c.args.spans.now c.loop-k.k c.index-spans-k.result lt in' (λ all. true≢false (sym (c.is_everything.ensures.1 (subst Q (sym c.index-spans-k.is) all)) ∙ w.if-not-is_everything.true)) c.loop-k.invariant)
      | else-not-is_everything w ↦ subst P (sym w.marks-is) (mark_stays c.args.marks.now c.loop-k.marks c.args.spans.now c.loop-k.k c.index-spans-k.result lt (subst Q c.index-spans-k.is (c.is_everything.ensures.0 w.if-not-is_everything.false)) c.loop-k.invariant)
    ]

pub returns : goal.returns
returns c = marks_left c.args.marks.now c.loop-k.marks c.args.spans.now c.loop-k.k c.loop-k.auto.marks (omega arith) c.loop-k.invariant
