use Rattle.std.proofs.Common.{◌∙◌, Bool, subst, sym}
use Rattle.std.proofs.lemmas.Bool.{false≢true}
use Rattle.table.specs.edits.Edits.{MakesBoxes}
use Rattle.table.proofs.laws.edits.EditLaws.{none_made}
use Rattle.restore.specs.sections.Lines.{asks_put}
use Rattle.restore.specs.sections.Section.{asked}
use Rattle.restore.proofs.laws.sections.BoxLaws.{quiet_asks, words_ask}
use Rattle.restore.proofs.section.Transaction.take.Goals as goal

pub returns-then-is_too_long-clause-work : goal.returns-then-is_too_long-clause-work
returns-then-is_too_long-clause-work c = none_made (asks_put (asked c.args.self.now c.args.line.now)) c.args.work.now

pub returns-then-is_quiet-clause-work : goal.returns-then-is_quiet-clause-work
returns-then-is_quiet-clause-work c = none_made (asks_put (asked c.args.self.now c.args.line.now)) c.args.work.now

pub returns-then-is_quiet-clause-boxed : goal.returns-then-is_quiet-clause-boxed
returns-then-is_quiet-clause-boxed c asks =
    absurd (false≢true (sym (quiet_asks c.args.self.now c.args.line.now (sym c.is_too_long.ensures ∙ c.if-is_too_long.false) (sym c.is_quiet.ensures ∙ c.if-is_quiet.true)) ∙ asks))

pub returns-in_err-words-clause-work : goal.returns-in_err-words-clause-work
returns-in_err-words-clause-work c = none_made (asks_put (asked c.args.self.now c.args.line.now)) c.args.work.now

pub returns-clause-work : goal.returns-clause-work
returns-clause-work c =
    subst (λ (b : Bool). MakesBoxes b c.args.work.now c.take_words.new.work)
    (words_ask c.args.self.now c.args.line.now c.in_ok-words.words (sym c.is_too_long.ensures ∙ c.if-is_too_long.false) (sym c.is_quiet.ensures ∙ c.if-is_quiet.false) c.in_ok-words.ensures)
    c.take_words.ensures.work

pub returns-clause-boxed : goal.returns-clause-boxed
returns-clause-boxed c asks =
    c.take_words.ensures.boxed
    (words_ask c.args.self.now c.args.line.now c.in_ok-words.words (sym c.is_too_long.ensures ∙ c.if-is_too_long.false) (sym c.is_quiet.ensures ∙ c.if-is_quiet.false) c.in_ok-words.ensures ∙ asks)
