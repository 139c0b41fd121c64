use Rattle.std.proofs.Common.{Contains}
use Rattle.table.specs.chains.Table.{Table}
use Rattle.table.specs.walk.Walk.{walk}
use Rattle.questions.specs.Leaves.{entry_of}
use Rattle.questions.specs.Scopes.{table_of}
use Rattle.questions.proofs.laws.PlainLaws.{from_whole}
use Rattle.questions.proofs.laws.TrailLaws.{walks_over}
use Rattle.questions.proofs.seeking.seek.is_shown.Goals as goal

pub returns-then-are_none : goal.returns-then-are_none
returns-then-are_none c = λ on a agrees.
    let s = c.args.subject.now in
    let p = c.args.packet.now in
    let step = c.args.step in
    let own = table_of s in
    from_whole s (c.are_none.ensures.none c.if-are_none.true) (λ (t : Table). Contains (walk t p).trail (entry_of own.chains step)) a
    (walks_over own (walk own p) c.in_ok-trail.trail step c.in_ok-trail.ensures.walk (rw c.steps.ensures at (c.is_on.ensures.0 on)))
