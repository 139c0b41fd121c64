use Rattle.std.proofs.Common.{◌≡◌, ◌∙◌, Bool, drop, sym, ap, subst}
use Rattle.table.specs.edits.Edits.{MakesBoxes, MakesOneBox}
use Rattle.table.proofs.laws.edits.EditLaws.{none_made}
use Rattle.restore.specs.commands.Command.{meaning}
use Rattle.restore.specs.sections.Lines.{asks_put}
use Rattle.restore.specs.sections.Section.{asked_of_command, without_counters}
use Rattle.restore.proofs.laws.sections.BoxLaws.{command_asks, on_accepted}
use Rattle.restore.proofs.laws.sections.CommandLaws.{after_counters, all_words, command_done}
use Rattle.restore.proofs.section.Transaction.command.Goals as goal
use Rattle.restore.proofs.section.Transaction.command.Goals.{then-is_counters, else-is_counters}

pub returns-in-Ok : goal.returns-in-Ok
returns-in-Ok c =
    let left : drop c.if-is_counters.from c.args.words.now ≡ without_counters c.args.words.now =
    elim c.if-is_counters.branch [
      | then-is_counters w ↦ ap (λ n. drop n c.args.words.now) w.from-is ∙ after_counters c.args.words.now c.get.result.now c.get.ensures.value (sym c.is_counters.ensures ∙ w.if-is_counters.true)
      | else-is_counters w ↦ ap (λ n. drop n c.args.words.now) w.from-is ∙ all_words c.args.words.now c.get.result.now c.get.ensures.value (sym c.is_counters.ensures ∙ w.if-is_counters.false)
    ] in
    let asks = command_asks c.args.words.now (drop c.if-is_counters.from c.args.words.now) (meaning c.in-Ok.command) left c.in-Ok.ensures.0 in
    record {
      step = command_done c.self.inside.table c.apply.new.table c.self.inside.named c.args.self.now c.args.words.now (drop c.if-is_counters.from c.args.words.now)
          (meaning c.in-Ok.command) c.apply.result c.as_restore.result c.self.view_is left c.in-Ok.ensures.0 c.apply.ensures.step c.as_restore.ensures;
      work = subst (λ (b : Bool). MakesBoxes b c.args.work.now c.apply.new.work) asks c.apply.ensures.work;
      boxed = λ put. on_accepted (MakesOneBox c.args.work.now c.apply.new.work) c.apply.result c.as_restore.result c.as_restore.ensures (c.apply.ensures.boxed (asks ∙ put));
    }

pub returns-in-Err-clause-work : goal.returns-in-Err-clause-work
returns-in-Err-clause-work c = none_made (asks_put (asked_of_command c.args.words.now)) c.args.work.now
