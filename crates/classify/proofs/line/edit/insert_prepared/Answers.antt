use Rattle.fields.specs.declared.numbers.spans.Interval.{Interval}
use Rattle.std.proofs.Common.{sym, List, ℕ, ap, subst, insert, ◌∙◌}
use Rattle.classify.specs.Line.{row_at}
use Rattle.classify.specs.steps.Edits.{Says}
use Rattle.classify.specs.steps.Pieces.{IsRising, Differ, row_bits}
use Rattle.fields.specs.numbers.Spans.{has}
use Rattle.classify.proofs.laws.line.LineLaws.{line_from_steps}
use Rattle.classify.proofs.laws.line.BoxLaws.{answers_say, answers_rising, steps_of_line, longer, Cut}
use Rattle.classify.proofs.laws.line.ApartLaws.{answers_differ}
use Rattle.classify.proofs.line.edit.insert_prepared.Goals as goal

pub returns-clause-sound : goal.returns-clause-sound
returns-clause-sound c =
    let top : ℕ = c.args.spans.now.top in
    let spans : List Interval = c.args.spans.now.intervals in
    let old : List Cut = c.args.line.now.pieces in
    let P : List Cut → Type 0 = λ line. IsRising top line × Differ line in
    let made = subst P (sym c.put_answers.ensures.answers) (answers_rising top c.args.at spans old c.requires.cut.rising, answers_differ top (row_bits old) c.args.at spans old c.requires.cut.rising c.requires.cut.cuts c.requires.cut.apart c.args.line.now.stands.rows c.requires.place) in
    record { rising = made.0; differ = made.1; bits = ap row_bits c.put_answers.ensures.answers ∙ longer top c.args.at spans old c.requires.cut.rising c.requires.place }

pub returns-clause-line : goal.returns-clause-line
returns-clause-line c sets says =
    let top : ℕ = c.args.spans.now.top in
    let spans : List Interval = c.args.spans.now.intervals in
    let new : List Cut = c.put_answers.new.line.pieces in
    let sound = returns-clause-sound c in
    let P : List Cut → Type 0 = λ line. Says top (insert sets c.args.at spans) line in
    line_from_steps has top (insert sets c.args.at spans) new
    (steps_of_line (row_at has (insert sets c.args.at spans)) top new sound.rising sound.differ (subst P (sym c.put_answers.ensures.answers) (answers_say top c.args.at spans sets c.args.line.now.pieces c.requires.cut.rising c.requires.cut.cuts says)))
