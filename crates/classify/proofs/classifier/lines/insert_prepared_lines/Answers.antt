use Rattle.std.proofs.Common.{arith, ap, length, get_or, ◌<◌, subst, ◌≡◌, ◌∙◌, sym, ◌≤◌}
use Rattle.std.proofs.lemmas.List.{get_or_default}
use Rattle.fields.specs.numbers.Spans.{SpanSet}
use Rattle.classify.specs.steps.Fields.{IsCutFor, HasRoomAfter, TakesIn}
use Rattle.classify.specs.steps.Pieces.{row_bits}
use Rattle.classify.proofs.laws.line.LoopLaws.{edited_more}
use Rattle.classify.specs.steps.Kept.{PiecesAndRoom}
use Rattle.classify.proofs.classifier.lines.insert_prepared_lines.Goals as goal

pub insert_prepared-requires : goal.insert_prepared-requires
insert_prepared-requires c =
    let h = c.loop-k.invariant in
    let lt : c.loop-k.k < length c.args.lines.now = omega (arith, h.as_long) in
    let own : PiecesAndRoom = get_or c.args.lines.now c.loop-k.k c.index-lines-k.result in
    let P : PiecesAndRoom → Type 0 = λ p. IsCutFor c.index-spans-k.result p × (c.args.at ≤ row_bits p.pieces) × (0 < p.room.places) × (0 < c.args.at → HasRoomAfter 1 p) in
    let Q : SpanSet → Type 0 = λ s. IsCutFor s own in
    let all = subst P (sym (h.rest c.loop-k.k c.index-lines-k.result (omega arith)))
    (subst Q (sym c.index-spans-k.is) (c.requires.cut c.loop-k.k c.index-spans-k.result c.index-lines-k.result lt), c.requires.place c.loop-k.k c.index-lines-k.result lt, c.requires.room c.loop-k.k c.index-lines-k.result lt, λ later. c.requires.after later c.loop-k.k c.index-lines-k.result lt) in
    record { cut = all.0; place = all.1; room = all.2; after = all.3 }

pub loop-k-preserved : goal.loop-k-preserved
loop-k-preserved c =
    let h = c.loop-k.invariant in
    let lt : c.loop-k.k < length c.args.spans.now = omega (arith, h.as_long, c.requires.as_long) in
    edited_more _ _ c.loop-k.lines c.loop-k.k (get_or c.loop-k.lines c.loop-k.k c.index-lines-k.result) c.insert_prepared.new.line h (omega (arith, h.as_long))
    (ap (λ (d : PiecesAndRoom). get_or c.loop-k.lines c.loop-k.k d) c.index-lines-k.is)
    (λ s.
    (let e : c.index-spans-k.result ≡ get_or c.args.spans.now c.loop-k.k s = c.index-spans-k.is ∙ get_or_default c.args.spans.now c.loop-k.k c.index-spans-k.result s lt in
    let P : SpanSet → Type 0 = λ t. TakesIn c.args.at t (get_or c.loop-k.lines c.loop-k.k c.index-lines-k.result) c.insert_prepared.new.line in
    subst P e (record { line = c.insert_prepared.ensures.line; sound = c.insert_prepared.ensures.sound; room = c.insert_prepared.ensures.room; margin = c.insert_prepared.ensures.margin })))

pub returns : goal.returns
returns c k s l lt = c.loop-k.invariant.done k l (omega arith) s
