use Rattle.fields.specs.declared.numbers.spans.Interval.{Interval}
use Rattle.std.proofs.Common.{List, ℕ, slice_set}
use Rattle.fields.specs.numbers.Spans.{has}
use Rattle.classify.specs.steps.Pieces.{row_bits}
use Rattle.classify.proofs.laws.line.BoxLaws.{written_say, written_rising, line_from_merge, sound_from_merge}
use Rattle.classify.proofs.laws.line.PieceLaws.{bits_as_long}
use Rattle.classify.proofs.laws.line.KeepApartLaws.{apart_written}
use Rattle.classify.proofs.line.edit.replace_box.Goals as goal

pub set_answers-requires-clause-keeps_apart : goal.set_answers-requires-clause-keeps_apart
set_answers-requires-clause-keeps_apart c = apart_written c.args.spans.now.top c.args.at c.args.spans.now.intervals c.args.line.now c.requires.cut.rising c.requires.cut.cuts c.requires.cut.apart c.requires.place

pub returns-clause-sound : goal.returns-clause-sound
returns-clause-sound c =
    let top : ℕ = c.args.spans.now.top in
    let spans : List Interval = c.args.spans.now.intervals in
    let r = written_rising top c.args.at spans _ c.requires.cut.rising in
    sound_from_merge (row_bits c.args.line.now.pieces) top _ _ r (bits_as_long c.args.at (has spans) _) (c.set_answers.ensures.merge top r)

pub returns-clause-line : goal.returns-clause-line
returns-clause-line c sets says =
    let top : ℕ = c.args.spans.now.top in
    let spans : List Interval = c.args.spans.now.intervals in
    line_from_merge top (slice_set sets c.args.at spans) _ _ (c.set_answers.ensures.merge top (written_rising top c.args.at spans _ c.requires.cut.rising))
    (written_say top c.args.at spans sets _ c.requires.cut.rising c.requires.cut.cuts says)
