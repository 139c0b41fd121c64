use Rattle.std.proofs.Common.{◌∙◌, refl, inl, inr, [], ◌∷◌}
use Rattle.table.specs.edits.Edits.{full, rule_causes}
use Rattle.table.specs.steps.Kept.{name_in, table_of}
use Rattle.table.proofs.laws.edits.PutLaws.{fault_first, fault_later, full_there, none_put, put_is_sound}
use Rattle.table.proofs.laws.edits.AnswerLaws.{holds}
use Rattle.table.proofs.parts.Parts.insert_rule.Goals as goal

pub returns-in-Err-clause-answer : goal.returns-in-Err-clause-answer
returns-in-Err-clause-answer c =
    let t = table_of c.args.self.now in
    let name = name_in c.args.self.now c.args.place in
    (inl (fault_first (rule_causes t name c.args.rule) (full t name ∷ []) c.in-Err.fault c.in-Err.ensures.err), refl)

pub returns-then-count_at-ge-RULES_MAX-clause-answer : goal.returns-then-count_at-ge-RULES_MAX-clause-answer
returns-then-count_at-ge-RULES_MAX-clause-answer c =
    let t = table_of c.args.self.now in
    let name = name_in c.args.self.now c.args.place in
    let many = full_there c.args.self.now c.args.place c.count_at.result c.requires.kept.stored c.requires.place c.count_at.ensures.value c.if-count_at-ge-RULES_MAX.true in
    (inl (fault_later (rule_causes t name c.args.rule) (full t name ∷ []) c.in-Ok.ensures.ok ∙ holds (full t name) [] many), refl)

pub insert-requires-clause-sound : goal.insert-requires-clause-sound
insert-requires-clause-sound c =
    put_is_sound (table_of c.args.self.now) (name_in c.args.self.now c.args.place) c.args.rule c.args.at c.reads_back.ensures.text c.requires.kept.stored.sound
    (none_put c.args.self.now c.args.place c.count_at.result c.args.rule c.requires.kept.stored c.requires.place c.count_at.ensures.value c.if-count_at-ge-RULES_MAX.false c.in-Ok.ensures.ok)

pub returns-in-Ok-insert-clause-answer : goal.returns-in-Ok-insert-clause-answer
returns-in-Ok-insert-clause-answer c =
    (none_put c.args.self.now c.args.place c.count_at.result c.args.rule c.requires.kept.stored c.requires.place c.count_at.ensures.value c.if-count_at-ge-RULES_MAX.false c.in-Ok.ensures.ok, c.in-Ok-insert.ensures.ok)

pub returns-in-Err-insert-clause-answer : goal.returns-in-Err-insert-clause-answer
returns-in-Err-insert-clause-answer c =
    (inr (none_put c.args.self.now c.args.place c.count_at.result c.args.rule c.requires.kept.stored c.requires.place c.count_at.ensures.value c.if-count_at-ge-RULES_MAX.false c.in-Ok.ensures.ok, refl), c.in-Err-insert.ensures.err)
