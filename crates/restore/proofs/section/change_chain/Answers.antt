use Rattle.std.proofs.Common.{◌∙◌, sym}
use Rattle.table.specs.edits.Edits.{NewChain}
use Rattle.restore.proofs.laws.sections.CommandLaws.{answer_of_room, done_new}
use Rattle.restore.proofs.section.change_chain.Goals as goal

pub returns : goal.returns
returns c =
    done_new c.args.table.now c.new_chain.new.self c.args.name.now c.args.policy.now c.as_restore-2.result
    (sym c.is_built_in.ensures ∙ c.if-is_built_in.false) (sym c.has_chain.ensures ∙ c.if-has_chain.false)
    (answer_of_room (NewChain c.args.name.now) c.args.table.now c.new_chain.new.self c.new_chain.result c.as_restore-2.result c.new_chain.ensures c.as_restore-2.ensures)
