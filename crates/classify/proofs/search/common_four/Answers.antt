use Rattle.std.proofs.Common.{ap₂, subst, sym, take, ◌+◌, ℕ, List}
use Rattle.std.specs.Prelude.{bit_and, bit_xor}
use lib.Lanes.{zip2}
use Rattle.classify.specs.steps.CommonPlaces.{AreAndsAt}
use Rattle.classify.proofs.laws.search.SearchLaws.{four_first, four_more, part_passed}
use Rattle.classify.proofs.search.common_four.Goals.{After-four-in-loop-row}
use Rattle.classify.proofs.search.common_four.Goals as goal

pub loop-row-init : goal.loop-row-init
loop-row-init c = four_first c.args.place

-- the words of one row more, turned
one_more : (c : After-four-in-loop-row) → AreAndsAt (zip2 bit_and c.loop-row.all (zip2 bit_xor c.four.result c.four-in-loop-row.result)) (take (c.loop-row.row-index + 1) c.args.rows.now) c.args.place
one_more c =
    let P : List ℕ → Type 0 = λ words. AreAndsAt (zip2 bit_and c.loop-row.all words) (take (c.loop-row.row-index + 1) c.args.rows.now) c.args.place in
    subst P (sym (ap₂ (zip2 bit_xor) c.four.ensures c.four-in-loop-row.ensures)) (four_more c.args.rows.now c.loop-row.row-index c.requires.0 c.args.place c.loop-row.all _ c.loop-row-test.true c.requires.1 c.requires.2 c.loop-row.invariant)

pub returns-then-all-eq0 : goal.returns-then-all-eq0
returns-then-all-eq0 c = part_passed c.args.rows.now (c.loop-row.row-index + 1) c.requires.0 c.args.place _ c.requires.1 c.requires.2 (one_more (goal.at.returns-then-all-eq0 c).After-four-in-loop-row) c.if-all-eq0.true

pub loop-row-preserved : goal.loop-row-preserved
loop-row-preserved c = one_more (goal.at.loop-row-preserved c).After-four-in-loop-row
