use Rattle.std.proofs.Common.{sym, ◌∙◌, ap, Some}
use Rattle.table.specs.chains.Table.{chain_in}
use Rattle.questions.proofs.laws.LeadLaws.{naming}
use Rattle.questions.proofs.asked.leading.names_marked.Goals as goal

pub returns-in-Some-Jump : goal.returns-in-Some-Jump
returns-in-Some-Jump c =
    naming c.args.table.now.table.chains c.args.marks.now c.args.rule.now c.in-Some-Jump.name c.is_marked.result (ap chain_in (sym c.target.ensures ∙ c.in-Some-Jump.is ∙ ap Some c.in-Some-Jump.field-0-is)) (rw c.bytes.ensures.value at c.is_marked.ensures)

pub returns-in-Some-Goto : goal.returns-in-Some-Goto
returns-in-Some-Goto c =
    naming c.args.table.now.table.chains c.args.marks.now c.args.rule.now c.in-Some-Goto.name c.is_marked-in-Some-Goto.result (ap chain_in (sym c.target.ensures ∙ c.in-Some-Goto.is ∙ ap Some c.in-Some-Goto.field-0-is)) (rw c.bytes-in-Some-Goto.ensures.value at c.is_marked-in-Some-Goto.ensures)
