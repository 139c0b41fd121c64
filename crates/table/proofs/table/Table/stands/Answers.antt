use Rattle.table.proofs.laws.edits.AnswerLaws.{classified_with}
use Rattle.table.proofs.laws.chains.SoundLaws.{leads_by_paths}
use Rattle.table.specs.steps.Kept.{table_of}
use Rattle.table.proofs.table.Table.stands.Goals as goal

pub returns-clause-sound : goal.returns-clause-sound
returns-clause-sound c = rw (← c.self.view_is) c.self.invariant.kept.stored.sound

pub returns-clause-classified : goal.returns-clause-classified
returns-clause-classified c = rw (← c.self.view_is) (classified_with c.self.inside.parts.chains.slots c.self.inside.parts.order.items c.self.invariant.kept.stored.classified)

pub returns-clause-loops : goal.returns-clause-loops
returns-clause-loops c = rw (← c.self.view_is) (leads_by_paths (table_of c.self.inside.parts).chains c.self.invariant.kept.stored.sound.no_loop)
