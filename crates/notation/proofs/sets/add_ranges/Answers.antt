use Rattle.std.proofs.Common.{◌++◌, refl, take, arith}
use Rattle.notation.proofs.SetTextLaws.{further-text, still-some}
use Rattle.notation.proofs.sets.add_ranges.Goals as goal

pub loop-span-preserved : goal.loop-span-preserved
loop-span-preserved c = λ before some so_far.
    let done = take c.loop-span.span-index c.args.spans.now in
    further-text c.args.field before c.args.spans.now c.loop-span.span-index _ _ c.add_range.new.list.items (omega arith) refl
    (c.in_ok-add_range.ensures (before ++ done) (still-some before done some) (c.loop-span.invariant before some so_far))
