use Rattle.std.proofs.Common.{arith, ◌*◌, ◌+◌, ◌≤◌, None}
use Rattle.classify.specs.steps.CommonPlaces.{HaveAll}
use Rattle.classify.proofs.laws.search.SearchLaws.{first_later, nowhere_marked, nowhere_up_to}
use Rattle.classify.proofs.search.scan_fours.Goals as goal

pub loop-four-init : goal.loop-four-init
loop-four-init c =
    let next = c.next_marked.ensures in
    let four = c.group-four.ensures in
    record {
      low = omega (arith, next.low, four.high, four.aligned, c.requires.aligned);
      high = omega (arith, next.high, four.low);
      aligned = four.aligned;
      none = nowhere_up_to (HaveAll c.args.rows.now) (64 * c.args.start) (64 * c.next_marked.result) (64 * c.group-four.result) (omega (arith, four.low))
          (nowhere_marked c.args.rows.now c.args.summary c.args.words c.args.start c.next_marked.result next.high c.requires.summed next.none);
    }

pub loop-four-preserved : goal.loop-four-preserved
loop-four-preserved c =
    let h = c.loop-four.invariant in
    let next = c.next_marked-in-loop-four.ensures in
    let four = c.group-four-in-loop-four.ensures in
    let low : c.loop-four.four + 4 ≤ c.group-four-in-loop-four.result = omega (arith, next.low, four.high, four.aligned, h.aligned) in
    let clear = first_later (HaveAll c.args.rows.now) (64 * c.args.start) (64 * c.loop-four.four) (64 * (c.loop-four.four + 4)) None (omega (arith, h.low)) h.none c.in_default.ensures in
    let passed = nowhere_marked c.args.rows.now c.args.summary c.args.words (c.loop-four.four + 4) c.next_marked-in-loop-four.result next.high c.requires.summed next.none in
    record {
      low = omega (arith, h.low, low);
      high = omega (arith, next.high, four.low);
      aligned = four.aligned;
      none = first_later (HaveAll c.args.rows.now) (64 * c.args.start) (64 * (c.loop-four.four + 4)) (64 * c.group-four-in-loop-four.result) None (omega (arith, h.low)) clear
          (nowhere_up_to (HaveAll c.args.rows.now) (64 * (c.loop-four.four + 4)) (64 * c.next_marked-in-loop-four.result) (64 * c.group-four-in-loop-four.result) (omega (arith, four.low)) passed);
    }
