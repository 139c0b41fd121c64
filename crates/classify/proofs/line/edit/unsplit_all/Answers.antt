use Rattle.fields.specs.declared.numbers.spans.Interval.{Interval}
use Rattle.std.proofs.Common.{◌∙◌, arith, ap, subst, List, ℕ, get_or, length}
use Rattle.classify.specs.steps.Edits.{IsUnsplitAt, IsEndOf}
use Rattle.classify.proofs.laws.line.CutLaws.{IsEndBelow, no_span, unsplit_more, unsplit_done}
use Rattle.classify.proofs.line.edit.unsplit_all.Goals as goal

pub loop-interval-preserved : goal.loop-interval-preserved
loop-interval-preserved c =
    let items : List Interval = c.intervals-interval-items.result.now in
    let P : ℕ → Type 0 = λ top. IsUnsplitAt (IsEndOf (get_or items c.loop-interval.interval-index no_span)) top c.loop-interval.line.pieces c.unsplit_interval.new.line.pieces in
    record {
      unsplit = unsplit_more items c.args.spans.now.top c.loop-interval.interval-index _ _ _ c.loop-interval.invariant.unsplit (subst P c.top-top.ensures c.unsplit_interval.ensures.unsplit);
      room = c.unsplit_interval.ensures.room ∙ c.loop-interval.invariant.room;
    }

pub returns-clause-merge : goal.returns-clause-merge
returns-clause-merge c =
    let P : List Interval → Type 0 = λ ss. IsUnsplitAt (IsEndBelow ss c.loop-interval.interval-index) c.args.spans.now.top c.args.line.now.pieces c.loop-interval.line.pieces in
    unsplit_done c.args.spans.now.intervals c.args.spans.now.top c.loop-interval.interval-index _ _ (subst P c.intervals-interval-items.ensures.value c.loop-interval.invariant.unsplit)
    (omega (arith, ap length c.intervals-interval-items.ensures.value)) c.requires.apart
