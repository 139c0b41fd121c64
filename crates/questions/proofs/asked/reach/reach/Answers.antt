use Rattle.questions.specs.steps.Exact.{AreExactIn}
use Rattle.questions.specs.steps.Groups.{AreGroups}
use Rattle.questions.proofs.laws.ReachLaws.{reach_of}
use Rattle.questions.proofs.asked.reach.reach.Goals as goal

pub returns-in_ok-grouped-in-Some : goal.returns-in_ok-grouped-in-Some
returns-in_ok-grouped-in-Some c =
    let t = c.args.boxed.now.table.table in
    let given = c.args.given.now in
    let exact = c.in-Some.exact.items in
    let walks : AreExactIn t given.hook given.boxes.items exact = rw c.in-Some.is at c.in_ok-exact_in_all.ensures in
    let groups : AreGroups c.args.field exact c.in_ok-grouped-in-Some.field-0.items = rw c.as_slice.ensures.value at c.in_ok-grouped-in-Some.ensures in
    reach_of t c.stands.ensures.sound given c.args.field exact c.in_ok-grouped-in-Some.field-0.items walks groups
