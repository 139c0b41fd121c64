use Rattle.std.proofs.Common.{arith, ap, get_or, ◌<◌, sym, subst, length}
use Rattle.classify.specs.steps.Fields.{HasPlace}
use Rattle.classify.proofs.laws.line.LoopLaws.{edited_more}
use Rattle.classify.specs.steps.Kept.{PiecesAndRoom}
use Rattle.classify.proofs.classifier.lines.remove_lines.Goals as goal

pub remove_box-requires : goal.remove_box-requires
remove_box-requires c =
    let h = c.loop-k.invariant in
    let lt : c.loop-k.k < length c.args.lines.now = omega (arith, h.as_long) in
    let P : PiecesAndRoom → Type 0 = λ p. HasPlace c.args.at p in
    let s : HasPlace c.args.at (get_or c.loop-k.lines c.loop-k.k c.index-lines-k.result) =
    subst P (sym (h.rest c.loop-k.k c.index-lines-k.result (omega arith))) (c.requires c.loop-k.k c.index-lines-k.result lt) in
    record { place = s.0; differ = s.1 }

pub loop-k-preserved : goal.loop-k-preserved
loop-k-preserved c =
    let h = c.loop-k.invariant in
    edited_more _ _ c.loop-k.lines c.loop-k.k (get_or c.loop-k.lines c.loop-k.k c.index-lines-k.result) c.remove_box.new.line h (omega (arith, h.as_long))
    (ap (λ (d : PiecesAndRoom). get_or c.loop-k.lines c.loop-k.k d) c.index-lines-k.is)
    (record { line = λ top sets. c.remove_box.ensures.line top sets; sound = λ top r. c.remove_box.ensures.sound top r; room = c.remove_box.ensures.room; margin = c.remove_box.ensures.margin })

pub returns : goal.returns
returns c k l lt = c.loop-k.invariant.done k l (omega arith)
