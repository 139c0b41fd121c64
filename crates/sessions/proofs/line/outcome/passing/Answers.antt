use Rattle.std.proofs.Common.{◌∙◌, sym}
use Rattle.sessions.proofs.laws.line.LineLaws.{passing_end, passing_on}
use Rattle.sessions.proofs.line.outcome.passing.Goals as goal

pub returns-then-is_end : goal.returns-then-is_end
returns-then-is_end c text held table =
    passing_end text c.args.word table c.answers.result (sym (c.is_end.ensures text held) ∙ c.if-is_end.true) c.answers.ensures.mode c.answers.ensures.reply

pub returns : goal.returns
returns c text held table =
    passing_on text c.args.word table c.answers-2.result (sym (c.is_end.ensures text held) ∙ c.if-is_end.false) c.answers-2.ensures.mode c.answers-2.ensures.reply
