use Rattle.std.proofs.Common.{arith, ap, get_or}
use Rattle.classify.proofs.laws.line.LoopLaws.{edited_more}
use Rattle.classify.specs.steps.Kept.{PiecesAndRoom}
use Rattle.classify.proofs.classifier.lines.close_margins.Goals as goal

pub loop-k-preserved : goal.loop-k-preserved
loop-k-preserved c =
    let h = c.loop-k.invariant in
    edited_more _ _ c.loop-k.lines c.loop-k.k (get_or c.loop-k.lines c.loop-k.k c.index-lines-k.result) c.close_margin.new.self h (omega (arith, h.as_long))
    (ap (λ (d : PiecesAndRoom). get_or c.loop-k.lines c.loop-k.k d) c.index-lines-k.is) c.close_margin.ensures

pub returns : goal.returns
returns c k l lt = c.loop-k.invariant.done k l (omega arith)
