use Rattle.std.proofs.Common.{◌<◌, ◌+◌, ℕ, arith, length}
use Rattle.std.specs.Prelude.{slice_index}
use Rattle.classify.specs.Line.{starts}
use Rattle.classify.proofs.laws.line.PieceLaws.{run_found}
use Rattle.classify.specs.steps.Kept.{most_start}
use Rattle.classify.proofs.line.put.run_in.Goals.{then-next-pieces-via-then-next-pieces, then-next-pieces-via-else-next-pieces+then-interval-start}
use Rattle.classify.proofs.line.put.run_in.Goals as goal

-- no later piece starts in the interval
pub returns-then-next-pieces : goal.returns-then-next-pieces
returns-then-next-pieces c =
    let from : ℕ = c.place_of-from.result in
    let later : from + 1 < length c.args.line.now.pieces → c.args.interval.last < slice_index (starts c.args.line.now.pieces) (from + 1) = λ lt. elim c.then-next-pieces.branch [
      | then-next-pieces-via-then-next-pieces w ↦ absurd (omega (arith, lt, w.if-next-pieces.true, c.len-pieces.ensures))
      | then-next-pieces-via-else-next-pieces+then-interval-start w ↦ omega (arith, w.if-interval-start.true, w.start.ensures)
    ] in
    run_found most_start c.args.interval from from c.args.line.now.pieces c.args.line.now.stands.rising c.requires.begins c.requires.some (record { within = c.place_of-from.ensures.within; high = c.place_of-from.ensures.high }) c.place_of-from.ensures.low
    (record { within = c.place_of-from.ensures.within; high = later }) (omega (arith, c.place_of-from.ensures.low, c.requires.some))

pub returns : goal.returns
returns c =
    run_found most_start c.args.interval c.place_of-from.result c.place_of.result c.args.line.now.pieces c.args.line.now.stands.rising c.requires.begins c.requires.some (record { within = c.place_of-from.ensures.within; high = c.place_of-from.ensures.high }) c.place_of-from.ensures.low
    (record { within = c.place_of.ensures.within; high = c.place_of.ensures.high }) c.place_of.ensures.low
