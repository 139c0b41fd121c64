use Rattle.std.proofs.Common.{◌∙◌, Bool, subst, sym}
use Rattle.std.proofs.lemmas.Bool.{false≢true}
use Rattle.table.specs.edits.Edits.{MakesBoxes}
use Rattle.table.proofs.laws.edits.EditLaws.{none_made}
use Rattle.sessions.specs.line.Boxes.{may_box}
use Rattle.sessions.specs.line.Outcome.{Outside}
use Rattle.sessions.proofs.laws.line.LineLaws.{outside_long, outside_memory, outside_quiet, outside_quoting, outside_words, read_as, read_long}
use Rattle.sessions.proofs.laws.line.BoxLaws.{on_fault, quiet_asks, words_ask}
use Rattle.sessions.proofs.line.outcome.outside.Goals as goal

pub returns-then-too_long-clause-outcome : goal.returns-then-too_long-clause-outcome
returns-then-too_long-clause-outcome c text held =
    outside_long text c.args.table.now c.fails.result (read_long c.args.line.now text c.args.too_long held c.if-too_long.true) c.fails.ensures.mode c.fails.ensures.reply

pub returns-then-is_quiet-clause-outcome : goal.returns-then-is_quiet-clause-outcome
returns-then-is_quiet-clause-outcome c text held =
    read_as c.args.line.now text c.args.too_long Outside c.args.table.now c.args.table.now c.answers.result held c.if-too_long.false
    (outside_quiet c.args.line.now c.args.table.now c.answers.result c.requires (sym c.is_quiet.ensures ∙ c.if-is_quiet.true) c.answers.ensures.mode c.answers.ensures.reply)

pub returns-in-Ok-clause-outcome : goal.returns-in-Ok-clause-outcome
returns-in-Ok-clause-outcome c text held =
    read_as c.args.line.now text c.args.too_long Outside c.args.table.now c.execute_words.new.table c.execute_words.result held c.if-too_long.false
    (outside_words c.args.line.now c.in-Ok.words c.args.table.now c.execute_words.new.table c.execute_words.result c.requires (sym c.is_quiet.ensures ∙ c.if-is_quiet.false)
    c.in-Ok.ensures.exact c.execute_words.ensures.comes)

pub returns-in-Err-Quoting-clause-outcome : goal.returns-in-Err-Quoting-clause-outcome
returns-in-Err-Quoting-clause-outcome c text held =
    read_as c.args.line.now text c.args.too_long Outside c.args.table.now c.args.table.now c.fails-in-Err-Quoting.result held c.if-too_long.false
    (outside_quoting c.args.line.now c.args.table.now c.fails-in-Err-Quoting.result c.requires (sym c.is_quiet.ensures ∙ c.if-is_quiet.false)
    (rw c.in-Err-Quoting.field-0-is at c.in-Err-Quoting.ensures.exact) c.fails-in-Err-Quoting.ensures.mode c.fails-in-Err-Quoting.ensures.reply)

pub returns-in-Err-NoMemory-clause-outcome : goal.returns-in-Err-NoMemory-clause-outcome
returns-in-Err-NoMemory-clause-outcome c text held =
    read_as c.args.line.now text c.args.too_long Outside c.args.table.now c.args.table.now c.fails-in-Err-NoMemory.result held c.if-too_long.false
    (outside_memory c.args.line.now c.args.table.now c.fails-in-Err-NoMemory.result c.requires (sym c.is_quiet.ensures ∙ c.if-is_quiet.false)
    c.fails-in-Err-NoMemory.ensures.mode c.fails-in-Err-NoMemory.ensures.reply)

pub returns-then-too_long-clause-work : goal.returns-then-too_long-clause-work
returns-then-too_long-clause-work c text held = none_made (may_box Outside text) c.args.work.now

pub returns-then-too_long-clause-boxed : goal.returns-then-too_long-clause-boxed
returns-then-too_long-clause-boxed c text held asks = on_fault _ c.fails.result.reply _ c.fails.ensures.reply

pub returns-then-is_quiet-clause-work : goal.returns-then-is_quiet-clause-work
returns-then-is_quiet-clause-work c text held = none_made (may_box Outside text) c.args.work.now

pub returns-then-is_quiet-clause-boxed : goal.returns-then-is_quiet-clause-boxed
returns-then-is_quiet-clause-boxed c text held asks =
    absurd (false≢true (sym (quiet_asks c.args.line.now text c.args.too_long held c.if-too_long.false c.requires (sym c.is_quiet.ensures ∙ c.if-is_quiet.true)) ∙ asks))

pub returns-in-Ok-clause-work : goal.returns-in-Ok-clause-work
returns-in-Ok-clause-work c text held =
    subst (λ (b : Bool). MakesBoxes b c.args.work.now c.execute_words.new.work)
    (words_ask c.args.line.now text c.args.too_long held c.if-too_long.false c.in-Ok.words c.requires (sym c.is_quiet.ensures ∙ c.if-is_quiet.false) c.in-Ok.ensures.exact)
    c.execute_words.ensures.work

pub returns-in-Ok-clause-boxed : goal.returns-in-Ok-clause-boxed
returns-in-Ok-clause-boxed c text held asks =
    c.execute_words.ensures.boxed
    (words_ask c.args.line.now text c.args.too_long held c.if-too_long.false c.in-Ok.words c.requires (sym c.is_quiet.ensures ∙ c.if-is_quiet.false) c.in-Ok.ensures.exact ∙ asks)

pub returns-in-Err-Quoting-clause-work : goal.returns-in-Err-Quoting-clause-work
returns-in-Err-Quoting-clause-work c text held = none_made (may_box Outside text) c.args.work.now

pub returns-in-Err-Quoting-clause-boxed : goal.returns-in-Err-Quoting-clause-boxed
returns-in-Err-Quoting-clause-boxed c text held asks = on_fault _ c.fails-in-Err-Quoting.result.reply _ c.fails-in-Err-Quoting.ensures.reply

pub returns-in-Err-NoMemory-clause-work : goal.returns-in-Err-NoMemory-clause-work
returns-in-Err-NoMemory-clause-work c text held = none_made (may_box Outside text) c.args.work.now

pub returns-in-Err-NoMemory-clause-boxed : goal.returns-in-Err-NoMemory-clause-boxed
returns-in-Err-NoMemory-clause-boxed c text held asks = on_fault _ c.fails-in-Err-NoMemory.result.reply _ c.fails-in-Err-NoMemory.ensures.reply
