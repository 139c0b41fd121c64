use Rattle.std.proofs.Common.{arith, ◌<◌, ◌≤◌, ◌*◌, ◌+◌}
use Rattle.classify.specs.steps.CommonPlaces.{HaveAll}
use Rattle.bits.proofs.laws.SummaryLaws.{word_found, word_empty}
use Rattle.classify.proofs.laws.search.SearchLaws.{whole_marks}
use Rattle.classify.proofs.search.scan.Goals as goal

pub returns-then-all-ne0 : goal.returns-then-all-ne0
returns-then-all-ne0 c =
    let lt : c.loop-place.place < c.requires.0 = omega (arith, c.requires.2) in
    let le : 64 * c.args.start ≤ 64 * c.loop-place.place = omega arith in
    word_found (HaveAll c.args.rows.now) (64 * c.args.start) (64 * c.args.end) (64 * c.loop-place.place) c.common_word-all.result
    (whole_marks c.args.rows.now (64 * c.args.start) c.requires.0 c.loop-place.place c.common_word-all.result c.requires.1 lt c.common_word-all.ensures le) c.if-all-ne0.true (omega arith) c.loop-place.invariant (omega arith)

pub loop-place-preserved : goal.loop-place-preserved
loop-place-preserved c =
    let lt : c.loop-place.place < c.requires.0 = omega (arith, c.requires.2) in
    let le : 64 * c.args.start ≤ 64 * c.loop-place.place = omega arith in
    word_empty (HaveAll c.args.rows.now) (64 * c.args.start) (64 * c.loop-place.place) c.common_word-all.result (64 * (c.loop-place.place + 1))
    (whole_marks c.args.rows.now (64 * c.args.start) c.requires.0 c.loop-place.place c.common_word-all.result c.requires.1 lt c.common_word-all.ensures le) c.if-all-ne0.false c.loop-place.invariant (omega arith)
