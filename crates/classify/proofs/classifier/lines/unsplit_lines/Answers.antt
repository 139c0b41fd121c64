use Rattle.std.proofs.Common.{arith, ap, length, get_or, ◌<◌, subst, ◌≡◌, ◌∙◌, sym}
use Rattle.std.proofs.lemmas.List.{get_or_default}
use Rattle.fields.specs.numbers.Spans.{SpanSet}
use Rattle.classify.specs.steps.Fields.{shown_line, HasSameRoom}
use Rattle.classify.specs.steps.Pieces.{IsRising, IsApart}
use Rattle.classify.specs.steps.Edits.{IsMergeOf}
use Rattle.classify.proofs.laws.line.LoopLaws.{edited_more}
use Rattle.classify.proofs.laws.classifier.ClassifierLaws.{no_set}
use Rattle.classify.specs.steps.Kept.{PiecesAndRoom}
use Rattle.classify.proofs.classifier.lines.unsplit_lines.Goals as goal

pub unsplit_all-requires : goal.unsplit_all-requires
unsplit_all-requires c =
    let h = c.loop-k.invariant in
    let lt : c.loop-k.k < length c.args.lines.now = omega (arith, h.as_long) in
    let same = sym (h.rest c.loop-k.k c.index-lines-k.result (omega arith)) in
    let P : PiecesAndRoom → Type 0 = λ p. IsRising c.index-spans-k.result.top (shown_line p) × IsApart c.index-spans-k.result.intervals (shown_line p) in
    let old : PiecesAndRoom = get_or c.args.lines.now c.loop-k.k c.index-lines-k.result in
    let Q : SpanSet → Type 0 = λ s. IsRising s.top (shown_line old) × IsApart s.intervals (shown_line old) in
    let both = subst P same (subst Q (sym c.index-spans-k.is) (c.requires.rising c.loop-k.k c.index-spans-k.result c.index-lines-k.result lt, c.requires.apart c.loop-k.k c.index-spans-k.result c.index-lines-k.result lt)) in
    record { rising = both.0; apart = both.1 }

pub loop-k-preserved : goal.loop-k-preserved
loop-k-preserved c =
    let h = c.loop-k.invariant in
    let lt : c.loop-k.k < length c.args.spans.now = omega (arith, h.as_long, c.requires.as_long) in
    edited_more _ _ c.loop-k.lines c.loop-k.k (get_or c.loop-k.lines c.loop-k.k c.index-lines-k.result) c.unsplit_all.new.line h (omega (arith, h.as_long))
    (ap (λ (d : PiecesAndRoom). get_or c.loop-k.lines c.loop-k.k d) c.index-lines-k.is)
    (λ s.
    (let e : c.index-spans-k.result ≡ get_or c.args.spans.now c.loop-k.k s = c.index-spans-k.is ∙ get_or_default c.args.spans.now c.loop-k.k c.index-spans-k.result s lt in
    let P : SpanSet → Type 0 = λ t. IsMergeOf t.top (shown_line (get_or c.loop-k.lines c.loop-k.k c.index-lines-k.result)) (shown_line c.unsplit_all.new.line)
    × HasSameRoom (get_or c.loop-k.lines c.loop-k.k c.index-lines-k.result) c.unsplit_all.new.line in
    subst P e (c.unsplit_all.ensures.merge, c.unsplit_all.ensures.room)))

pub returns-clause-joined : goal.returns-clause-joined
returns-clause-joined c k s l lt = (c.loop-k.invariant.done k l (omega arith) s).0

pub returns-clause-room : goal.returns-clause-room
returns-clause-room c k l lt = (c.loop-k.invariant.done k l (omega arith) no_set).1
