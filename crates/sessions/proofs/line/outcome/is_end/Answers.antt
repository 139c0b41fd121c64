use Rattle.sessions.proofs.laws.line.LineLaws.{long_ends_nothing}
use Rattle.sessions.proofs.line.outcome.is_end.Goals as goal

pub returns-else-not-too_long : goal.returns-else-not-too_long
returns-else-not-too_long c text held =
    rw c.in-Some.is (long_ends_nothing c.in-Some.word text c.args.line.now c.args.too_long c.bytes-bytes.ensures.few held c.if-not-too_long.false)
