use Rattle.std.proofs.Common.{◌∙◌}
use Rattle.restore.proofs.laws.sections.NameLaws.{found}
use Rattle.restore.proofs.section.names.Names.contains.Goals as goal

pub returns : goal.returns
returns c = rw (← c.self.view_is) (c.contains.ensures ∙ found c.args.name.now c.self.inside.names.keys)
