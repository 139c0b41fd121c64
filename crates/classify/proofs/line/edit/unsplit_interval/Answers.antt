use Rattle.std.proofs.Common.{◌∙◌}
use Rattle.classify.proofs.laws.line.CutLaws.{ends_unsplit, end_unsplit}
use Rattle.classify.proofs.line.edit.unsplit_interval.Goals as goal

pub returns-then-interval-top-clause-unsplit : goal.returns-then-interval-top-clause-unsplit
returns-then-interval-top-clause-unsplit c =
    let first = c.unsplit.ensures.unsplit c.args.top c.requires in
    ends_unsplit c.args.top c.args.interval _ _ _ first (c.unsplit-then-interval-top.ensures.unsplit c.args.top first.rising)

pub returns-else-interval-top-clause-unsplit : goal.returns-else-interval-top-clause-unsplit
returns-else-interval-top-clause-unsplit c = end_unsplit c.args.top c.args.interval _ _ (c.unsplit.ensures.unsplit c.args.top c.requires) c.if-interval-top.false

pub returns-then-interval-top-clause-room : goal.returns-then-interval-top-clause-room
returns-then-interval-top-clause-room c = c.unsplit-then-interval-top.ensures.room ∙ c.unsplit.ensures.room
