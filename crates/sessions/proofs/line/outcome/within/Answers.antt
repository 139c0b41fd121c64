use Rattle.std.proofs.Common.{◌∙◌, Bool, subst, sym, rules}
use Rattle.std.proofs.lemmas.Bool.{false≢true}
use Rattle.table.specs.edits.Edits.{MakesBoxes}
use Rattle.table.proofs.laws.edits.EditLaws.{none_made}
use Rattle.sessions.specs.line.Boxes.{may_box}
use Rattle.sessions.specs.line.Outcome.{InRestore}
use Rattle.restore.specs.sections.Restore.{ended_at}
use Rattle.sessions.proofs.laws.line.LineLaws.{end_accepted, end_refused, read_long, within_accepted, within_end, within_long, within_refused}
use Rattle.sessions.proofs.laws.line.BoxLaws.{end_asks, on_answer, on_fault, section_asks}
use Rattle.sessions.proofs.line.outcome.within.Goals as goal

pub returns-in-Ok-clause-outcome : goal.returns-in-Ok-clause-outcome
returns-in-Ok-clause-outcome c text held =
    within_end text c.args.word c.args.restore c.args.table.now c.answers.result (sym (c.is_end.ensures text held) ∙ c.if-is_end.true)
    (end_accepted (ended_at c.args.restore.state) _ c.args.table.now c.answers.result c.in-Ok.ensures c.answers.ensures.mode c.answers.ensures.reply)

pub returns-in-Err-clause-outcome : goal.returns-in-Err-clause-outcome
returns-in-Err-clause-outcome c text held =
    within_end text c.args.word c.args.restore c.args.table.now c.fails.result (sym (c.is_end.ensures text held) ∙ c.if-is_end.true)
    (end_refused (ended_at c.args.restore.state) c.in-Err.fault c.args.table.now c.fails.result c.in-Err.ensures c.fails.ensures.mode (search rules))

pub returns-then-too_long-clause-outcome : goal.returns-then-too_long-clause-outcome
returns-then-too_long-clause-outcome c text held =
    within_long text c.args.word c.args.restore c.args.table.now c.fails-then-too_long.result (sym (c.is_end.ensures text held) ∙ c.if-is_end.false)
    (read_long c.args.line.now text c.args.too_long held c.if-too_long.true) c.fails-then-too_long.ensures.mode c.fails-then-too_long.ensures.reply

pub returns-in-Ok-line-clause-outcome : goal.returns-in-Ok-line-clause-outcome
returns-in-Ok-line-clause-outcome c text held =
    within_accepted text c.args.line.now c.args.too_long c.args.word c.args.restore c.in-Ok-line.next c.args.table.now c.line.new.table c.answers-in-Ok-line.result
    held c.if-too_long.false (sym (c.is_end.ensures text held) ∙ c.if-is_end.false) c.in-Ok-line.ensures.step c.answers-in-Ok-line.ensures.mode c.answers-in-Ok-line.ensures.reply

pub returns-in-Err-line-clause-outcome : goal.returns-in-Err-line-clause-outcome
returns-in-Err-line-clause-outcome c text held =
    within_refused text c.args.line.now c.args.too_long c.args.word c.args.restore c.in-Err-line.fault c.args.table.now c.line.new.table c.fails-in-Err-line.result
    held c.if-too_long.false (sym (c.is_end.ensures text held) ∙ c.if-is_end.false) c.in-Err-line.ensures.step c.fails-in-Err-line.ensures.mode (search rules)

pub returns-in-Ok-clause-work : goal.returns-in-Ok-clause-work
returns-in-Ok-clause-work c text held = none_made (may_box (InRestore c.args.word c.args.restore) text) c.args.work.now

pub returns-in-Ok-clause-boxed : goal.returns-in-Ok-clause-boxed
returns-in-Ok-clause-boxed c text held asks =
    absurd (false≢true (sym (end_asks text c.args.word c.args.restore (sym (c.is_end.ensures text held) ∙ c.if-is_end.true)) ∙ asks))

pub returns-in-Err-clause-work : goal.returns-in-Err-clause-work
returns-in-Err-clause-work c text held = none_made (may_box (InRestore c.args.word c.args.restore) text) c.args.work.now

pub returns-in-Err-clause-boxed : goal.returns-in-Err-clause-boxed
returns-in-Err-clause-boxed c text held asks = on_fault _ c.fails.result.reply _ c.fails.ensures.reply

pub returns-then-too_long-clause-work : goal.returns-then-too_long-clause-work
returns-then-too_long-clause-work c text held = none_made (may_box (InRestore c.args.word c.args.restore) text) c.args.work.now

pub returns-then-too_long-clause-boxed : goal.returns-then-too_long-clause-boxed
returns-then-too_long-clause-boxed c text held asks = on_fault _ c.fails-then-too_long.result.reply _ c.fails-then-too_long.ensures.reply

pub returns-in-Ok-line-clause-work : goal.returns-in-Ok-line-clause-work
returns-in-Ok-line-clause-work c text held =
    subst (λ (b : Bool). MakesBoxes b c.args.work.now c.line.new.work)
    (section_asks c.args.line.now text c.args.too_long held c.if-too_long.false c.args.word c.args.restore (sym (c.is_end.ensures text held) ∙ c.if-is_end.false))
    c.line.ensures.work

pub returns-in-Err-line-clause-work : goal.returns-in-Err-line-clause-work
returns-in-Err-line-clause-work c text held =
    subst (λ (b : Bool). MakesBoxes b c.args.work.now c.line.new.work)
    (section_asks c.args.line.now text c.args.too_long held c.if-too_long.false c.args.word c.args.restore (sym (c.is_end.ensures text held) ∙ c.if-is_end.false))
    c.line.ensures.work

pub returns-in-Ok-line-clause-boxed : goal.returns-in-Ok-line-clause-boxed
returns-in-Ok-line-clause-boxed c text held asks =
    on_answer _ c.answers-in-Ok-line.result.reply (c.in-Ok-line.ensures.boxed
    (section_asks c.args.line.now text c.args.too_long held c.if-too_long.false c.args.word c.args.restore (sym (c.is_end.ensures text held) ∙ c.if-is_end.false) ∙ asks))

pub returns-in-Err-line-clause-boxed : goal.returns-in-Err-line-clause-boxed
returns-in-Err-line-clause-boxed c text held asks = on_fault _ c.fails-in-Err-line.result.reply _ c.fails-in-Err-line.ensures.reply
