use Rattle.std.proofs.Common.{arith, ◌<◌, ◌≤◌, ◌*◌, ◌+◌}
use Rattle.classify.specs.steps.CommonPlaces.{HaveAll}
use Rattle.bits.proofs.laws.SummaryLaws.{word_found, word_empty}
use Rattle.classify.proofs.laws.search.SearchLaws.{whole_marks}
use Rattle.classify.proofs.search.first_of_four.Goals as goal

pub returns-then-word-ne0 : goal.returns-then-word-ne0
returns-then-word-ne0 c =
    let lane : c.loop-lane.lane < 4 = omega arith in
    let lt : c.args.place + c.loop-lane.lane < c.requires.0 = omega (arith, c.requires.2) in
    let le : 64 * c.args.place ≤ 64 * (c.args.place + c.loop-lane.lane) = omega arith in
    word_found (HaveAll c.args.rows.now) (64 * c.args.place) (64 * (c.args.place + 4)) (64 * (c.args.place + c.loop-lane.lane)) _
    (whole_marks c.args.rows.now (64 * c.args.place) c.requires.0 (c.args.place + c.loop-lane.lane) _ c.requires.1 lt (c.in_ok-all.ensures.each c.loop-lane.lane lane) le) c.if-word-ne0.true c.loop-lane-test.element_fits.fits c.loop-lane.invariant (omega arith)

pub loop-lane-preserved : goal.loop-lane-preserved
loop-lane-preserved c =
    let lane : c.loop-lane.lane < 4 = omega arith in
    let lt : c.args.place + c.loop-lane.lane < c.requires.0 = omega (arith, c.requires.2) in
    let le : 64 * c.args.place ≤ 64 * (c.args.place + c.loop-lane.lane) = omega arith in
    word_empty (HaveAll c.args.rows.now) (64 * c.args.place) (64 * (c.args.place + c.loop-lane.lane)) _ (64 * (c.args.place + (c.loop-lane.lane + 1)))
    (whole_marks c.args.rows.now (64 * c.args.place) c.requires.0 (c.args.place + c.loop-lane.lane) _ c.requires.1 lt (c.in_ok-all.ensures.each c.loop-lane.lane lane) le) c.if-word-ne0.false c.loop-lane.invariant (omega arith)
