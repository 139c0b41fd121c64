use Rattle.std.proofs.Common.{arith, remove, ◌-◌, sym, subst, List, map}
use Rattle.classify.specs.steps.Pieces.{IsRising, row_bits}
use Rattle.classify.specs.steps.Edits.{IsMergeOf, without_answer}
use Rattle.classify.proofs.laws.line.BoxLaws.{Cut, without_say, without_rising, line_from_merge, says_from_line, rising_from_line, shorter, sound_from_merge}
use Rattle.classify.proofs.line.edit.remove_box.Goals as goal

pub remove_column-requires : goal.remove_column-requires
remove_column-requires c = omega (arith, c.drop_cuts.ensures.long, c.requires.place)

-- the cuts gone that only the box made, and its place closed: as if its answers were taken out, and the pieces joined
merged : (c : goal.After-remove_column) (top : _) → IsRising top c.args.line.now.pieces → IsMergeOf top (map (without_answer c.args.at) c.args.line.now.pieces) c.remove_column.new.self.pieces
merged c top r =
    let P : List Cut → Type 0 = λ line. IsMergeOf top (map (without_answer c.args.at) c.args.line.now.pieces) line in
    subst P (sym c.remove_column.ensures.pieces) (c.drop_cuts.ensures.merge top (without_rising top c.args.at _ r))

pub returns-clause-sound : goal.returns-clause-sound
returns-clause-sound c top r =
    sound_from_merge (row_bits c.args.line.now.pieces - 1) top _ _ (without_rising top c.args.at _ r) (shorter c.args.at _ c.requires.place) (merged c top r)

pub returns-clause-line : goal.returns-clause-line
returns-clause-line c top sets line =
    let r : IsRising top c.args.line.now.pieces = rising_from_line top sets _ line in
    line_from_merge top (remove sets c.args.at) _ _ (merged c top r) (without_say top c.args.at sets _ r (says_from_line top sets _ line))
