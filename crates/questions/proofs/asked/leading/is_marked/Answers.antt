use Rattle.std.proofs.Common.{sym, ◌∙◌}
use Rattle.questions.proofs.laws.LeadLaws.{marked_name, name_marked, no_name}
use Rattle.questions.proofs.asked.leading.is_marked.Goals as goal

pub returns-in-Some : goal.returns-in-Some
returns-in-Some c =
    let at = sym c.in-Some.is ∙ c.index_of.ensures in (
      name_marked c.args.table.now.table c.args.marks.now c.args.name.now c.in-Some.place at,
      marked_name c.args.table.now.table c.args.marks.now c.args.name.now c.in-Some.place c.stands.ensures.sound at,
    )

pub returns-in-None : goal.returns-in-None
returns-in-None c = (λ h. cc, λ w. absurd (no_name c.args.table.now.table c.args.marks.now c.args.name.now (sym c.in-None.is ∙ c.index_of.ensures) w))
