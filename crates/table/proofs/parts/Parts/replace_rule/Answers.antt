use Rattle.table.specs.steps.Kept.{name_in, table_of}
use Rattle.table.proofs.laws.edits.PutLaws.{over_is_sound}
use Rattle.table.proofs.parts.Parts.replace_rule.Goals as goal

pub replace-requires-clause-sound : goal.replace-requires-clause-sound
replace-requires-clause-sound c =
    over_is_sound (table_of c.args.self.now) (name_in c.args.self.now c.args.place) c.args.rule c.args.at c.reads_back.ensures.text c.requires.kept.stored.sound c.in-Ok.ensures.ok
