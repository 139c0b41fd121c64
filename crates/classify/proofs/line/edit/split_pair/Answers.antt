use Rattle.std.proofs.Common.{arith}
use Rattle.classify.specs.steps.Kept.{most_start}
use Rattle.classify.proofs.laws.line.ApartLaws.{begins_at, begins_there}
use Rattle.classify.proofs.laws.line.LoopLaws.{split_twice}
use Rattle.classify.proofs.laws.line.CutLaws.{AreWithin, cut_twice_splits, cut_twice_starts, cut_twice_new}
use Rattle.classify.proofs.line.edit.split_pair.Goals.{Then-are_inside}
use Rattle.classify.proofs.line.edit.split_pair.Goals as goal

-- both cuts in one piece
within : (c : Then-are_inside) → AreWithin c.args.line.now.pieces c.place_of-place.result c.args.x c.args.y
within c = record {
  piece = c.place_of-place.ensures.within;
  above = c.are_inside.ensures.above c.if-are_inside.true;
  rising = c.are_inside.ensures.rising c.if-are_inside.true;
  below = c.are_inside.ensures.below c.if-are_inside.true;
}

pub returns-in_err-split_twice_at-clause-there : goal.returns-in_err-split_twice_at-clause-there
returns-in_err-split_twice_at-clause-there c a b =
    absurd (cut_twice_new _ _ _ _ most_start (within (goal.at.returns-in_err-split_twice_at-clause-there c).Then-are_inside) c.args.line.now.stands.rising a)

pub returns-then-are_inside-clause-split : goal.returns-then-are_inside-clause-split
returns-then-are_inside-clause-split c top spans lx ly a b r = cut_twice_splits _ _ _ _ _ top spans (within (goal.at.returns-then-are_inside-clause-split c).Then-are_inside) c.in_ok-split_twice_at.ensures.ok ly a b r

pub returns-then-are_inside-clause-ok : goal.returns-then-are_inside-clause-ok
returns-then-are_inside-clause-ok c =
    cut_twice_starts _ _ _ _ _ most_start (within (goal.at.returns-then-are_inside-clause-ok c).Then-are_inside) c.in_ok-split_twice_at.ensures.ok (omega arith) c.args.line.now.stands.rising

pub returns-then-are_inside-clause-kept : goal.returns-then-are_inside-clause-kept
returns-then-are_inside-clause-kept c a b = absurd (cut_twice_new _ _ _ _ most_start (within (goal.at.returns-then-are_inside-clause-kept c).Then-are_inside) c.args.line.now.stands.rising a)

pub returns-in_err-split-clause-split : goal.returns-in_err-split-clause-split
returns-in_err-split-clause-split c top spans lx ly a b r = c.split.ensures.split top spans lx a r

pub returns-in_err-split_at-clause-split : goal.returns-in_err-split_at-clause-split
returns-in_err-split_at-clause-split c top spans lx ly a b r =
    let g = c.split.ensures.split top spans lx a r in
    split_twice _ _ _ _ _ g (c.split_at.ensures.split top spans ly b g.rising)

pub returns-clause-split : goal.returns-clause-split
returns-clause-split c top spans lx ly a b r =
    let g = c.split.ensures.split top spans lx a r in
    split_twice _ _ _ _ _ g (c.split_at.ensures.split top spans ly b g.rising)

pub returns-clause-ok : goal.returns-clause-ok
returns-clause-ok c =
    let g = c.split.ensures.split most_start (begins_at c.args.x) (omega arith) (begins_there c.args.x) c.args.line.now.stands.rising in
    let h = c.split_at.ensures.split most_start (begins_at c.args.y) (omega arith) (begins_there c.args.y) g.rising in
    (h.keeps c.args.x c.in_ok-split.ensures.ok, c.in_ok-split_at.ensures.ok)
