use Rattle.std.proofs.Common.{◌<◌, ◌∙◌, sym, ap, arith, length, get_or, slice_set, refl, [], List, Bool}
use Rattle.std.proofs.lemmas.List.{length-set}
use Rattle.classify.specs.steps.Edits.{row_of}
use Rattle.bits.specs.MarginRows.{Room}
use Rattle.classify.specs.steps.Kept.{PiecesAndRoom}
use Rattle.classify.proofs.laws.line.PieceLaws.{kept_long, kept_row, kept_starts, kept_pieces, pieces_set}
use Rattle.classify.proofs.laws.line.KeptLaws.{row_long, set_line}
use Rattle.classify.proofs.line.owned.OwnedLine.set.Goals as goal

pub set-requires-clause-row : goal.set-requires-clause-row
set-requires-clause-row c = omega (arith, c.self.invariant, kept_long _ _ _ _ _ c.self.invariant c.self.view_is, c.requires.piece)

pub set-requires-clause-place : goal.set-requires-clause-place
set-requires-clause-place c =
    let lt : c.args.k < length c.self.inside.starts = omega (arith, kept_long _ _ _ _ _ c.self.invariant c.self.view_is, c.requires.piece) in
    omega (arith, c.requires.place, row_long c.args.self.now c.args.k c.requires.piece, ap (λ (row : List Bool). length row) (kept_row _ _ _ _ _ c.args.k c.self.invariant c.self.view_is lt))

pub invariant_of-self-inside : goal.invariant_of-self-inside
invariant_of-self-inside c =
    let lt : c.args.k < length c.self.inside.starts = omega (arith, kept_long _ _ _ _ _ c.self.invariant c.self.view_is, c.requires.piece) in
    let same = kept_row _ _ _ _ _ c.args.k c.self.invariant c.self.view_is lt in
    let pieces = pieces_set _ _ _ c.args.k _ (slice_set (get_or c.self.inside.rows.rows c.args.k []) c.args.at c.args.bit) _ c.self.invariant lt (kept_pieces _ _ _ _ _ c.self.view_is) (kept_starts _ _ _ _ _ c.self.invariant c.self.view_is) c.set.ensures.rows (ap (λ (bs : List Bool). slice_set bs c.args.at c.args.bit) (sym same)) in
    let long = length-set (row_of c.args.self.now.pieces c.args.k) c.args.at c.args.bit ∙ row_long c.args.self.now c.args.k c.requires.piece in
    ((set_line c.args.self.now c.args.k _ _ c.requires.piece long (omega (arith, ap (λ (r : Room). r.places) c.set.ensures.room, ap (λ (l : PiecesAndRoom). l.room.places) c.self.view_is)) _ pieces).0, tt)

pub returns-clause-pieces : goal.returns-clause-pieces
returns-clause-pieces c =
    let lt : c.args.k < length c.self.inside.starts = omega (arith, kept_long _ _ _ _ _ c.self.invariant c.self.view_is, c.requires.piece) in
    let same = kept_row _ _ _ _ _ c.args.k c.self.invariant c.self.view_is lt in
    let pieces = pieces_set _ _ _ c.args.k _ (slice_set (get_or c.self.inside.rows.rows c.args.k []) c.args.at c.args.bit) _ c.self.invariant lt (kept_pieces _ _ _ _ _ c.self.view_is) (kept_starts _ _ _ _ _ c.self.invariant c.self.view_is) c.set.ensures.rows (ap (λ (bs : List Bool). slice_set bs c.args.at c.args.bit) (sym same)) in
    pieces

pub returns-clause-long : goal.returns-clause-long
returns-clause-long c =
    let lt : c.args.k < length c.self.inside.starts = omega (arith, kept_long _ _ _ _ _ c.self.invariant c.self.view_is, c.requires.piece) in
    let same = kept_row _ _ _ _ _ c.args.k c.self.invariant c.self.view_is lt in
    let pieces = pieces_set _ _ _ c.args.k _ (slice_set (get_or c.self.inside.rows.rows c.args.k []) c.args.at c.args.bit) _ c.self.invariant lt (kept_pieces _ _ _ _ _ c.self.view_is) (kept_starts _ _ _ _ _ c.self.invariant c.self.view_is) c.set.ensures.rows (ap (λ (bs : List Bool). slice_set bs c.args.at c.args.bit) (sym same)) in
    let long = length-set (row_of c.args.self.now.pieces c.args.k) c.args.at c.args.bit ∙ row_long c.args.self.now c.args.k c.requires.piece in
    (set_line c.args.self.now c.args.k _ _ c.requires.piece long refl _ pieces).1
