use Rattle.questions.proofs.laws.AnswerLaws.{contrary}
use Rattle.questions.proofs.foreign.need.are_contrary.Goals as goal

pub returns-then-is_held : goal.returns-then-is_held
returns-then-is_held c = λ both a.
    contrary a c.args.needs.now c.args.condition (c.is_among-is_held.ensures.0 c.if-is_held.true) (c.is_among-is_not_held.ensures.0 both)
