use Rattle.std.proofs.Common.{◌∙◌, Bool, subst, sym}
use Rattle.std.proofs.lemmas.Bool.{false≢true}
use Rattle.table.specs.edits.Edits.{MakesBoxes}
use Rattle.table.proofs.laws.edits.EditLaws.{none_made}
use Rattle.restore.specs.sections.Lines.{asks_put}
use Rattle.restore.specs.sections.Section.{asked_by}
use Rattle.restore.proofs.laws.sections.BoxLaws.{chain_words_ask, no_words_ask, other_words_ask}
use Rattle.restore.proofs.section.Transaction.take_words.Goals as goal

pub returns-then-is_empty-clause-work : goal.returns-then-is_empty-clause-work
returns-then-is_empty-clause-work c = none_made (asks_put (asked_by c.args.self.now c.args.words.now)) c.args.work.now

pub returns-then-is_empty-clause-boxed : goal.returns-then-is_empty-clause-boxed
returns-then-is_empty-clause-boxed c asks = absurd (false≢true (sym (no_words_ask c.args.self.now c.args.words.now (c.is_empty.ensures.0 c.if-is_empty.true)) ∙ asks))

pub returns-then-begins_with-clause-work : goal.returns-then-begins_with-clause-work
returns-then-begins_with-clause-work c = none_made (asks_put (asked_by c.args.self.now c.args.words.now)) c.args.work.now

pub returns-then-begins_with-2-clause-work : goal.returns-then-begins_with-2-clause-work
returns-then-begins_with-2-clause-work c = none_made (asks_put (asked_by c.args.self.now c.args.words.now)) c.args.work.now

pub returns-then-begins_with-2-clause-boxed : goal.returns-then-begins_with-2-clause-boxed
returns-then-begins_with-2-clause-boxed c asks =
    absurd (false≢true (sym (chain_words_ask c.args.self.now c.args.words.now c.get-first.result.now c.get-first.ensures.value (sym c.begins_with.ensures ∙ c.if-begins_with.false) (sym c.begins_with-2.ensures ∙ c.if-begins_with-2.true)) ∙ asks))

pub returns-clause-work : goal.returns-clause-work
returns-clause-work c =
    subst (λ (b : Bool). MakesBoxes b c.args.work.now c.command.new.work)
    (other_words_ask c.args.self.now c.args.words.now c.get-first.result.now c.get-first.ensures.value (sym c.begins_with.ensures ∙ c.if-begins_with.false) (sym c.begins_with-2.ensures ∙ c.if-begins_with-2.false))
    c.command.ensures.work

pub returns-clause-boxed : goal.returns-clause-boxed
returns-clause-boxed c asks =
    c.command.ensures.boxed
    (other_words_ask c.args.self.now c.args.words.now c.get-first.result.now c.get-first.ensures.value (sym c.begins_with.ensures ∙ c.if-begins_with.false) (sym c.begins_with-2.ensures ∙ c.if-begins_with-2.false) ∙ asks)
