use Rattle.std.proofs.Common.{◌<◌, ap, arith, length}
use Rattle.bits.specs.MarginRows.{Room}
use Rattle.classify.specs.steps.Kept.{PiecesAndRoom}
use Rattle.classify.proofs.laws.line.KeptLaws.{row_long}
use Rattle.classify.proofs.laws.line.PieceLaws.{each_row_kept, kept_long, kept_pieces, pieces_written, written_line}
use Rattle.classify.proofs.line.owned.OwnedLine.set_run.Goals as goal

pub set_run-requires-clause-within : goal.set_run-requires-clause-within
set_run-requires-clause-within c = omega (arith, c.self.invariant, kept_long _ _ _ _ _ c.self.invariant c.self.view_is, c.requires.within)

pub set_run-requires-clause-place : goal.set_run-requires-clause-place
set_run-requires-clause-place c =
    each_row_kept (λ row. c.args.at < length row) _ _ _ _ c.args.self.now c.self.invariant c.self.view_is (λ k lt. omega (arith, row_long c.args.self.now k lt, c.requires.place))

pub invariant_of-self-inside : goal.invariant_of-self-inside
invariant_of-self-inside c =
    let written = pieces_written _ _ _ _ _ _ _ _ c.self.invariant (kept_pieces _ _ _ _ _ c.self.view_is) c.requires.order (omega (arith, kept_long _ _ _ _ _ c.self.invariant c.self.view_is, c.requires.within)) c.set_run.ensures.rows in
    (written_line _ _ _ _ _ c.args.self.now _ (omega (arith, ap (λ (r : Room). r.places) c.set_run.ensures.room, ap (λ (l : PiecesAndRoom). l.room.places) c.self.view_is)) written, tt)

pub returns-clause-written : goal.returns-clause-written
returns-clause-written c =
    pieces_written _ _ _ _ _ _ _ _ c.self.invariant (kept_pieces _ _ _ _ _ c.self.view_is) c.requires.order (omega (arith, kept_long _ _ _ _ _ c.self.invariant c.self.view_is, c.requires.within)) c.set_run.ensures.rows
