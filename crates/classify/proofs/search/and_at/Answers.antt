use Rattle.std.proofs.Common.{ap₂, arith, subst, sym, List, ◌≤◌, ◌+◌, length, take, ℕ}
use Rattle.std.specs.Prelude.{bit_and, bit_xor}
use Rattle.std.proofs.lemmas.List.{take_all}
use Rattle.bits.specs.declared.turned_rows.TurnedWords.{TurnedWords}
use Rattle.classify.specs.steps.CommonPlaces.{IsAndAt}
use Rattle.classify.proofs.laws.search.SearchLaws.{and_first, and_more, and_none}
use Rattle.classify.proofs.search.and_at.Goals.{After-word-in-loop-row}
use Rattle.classify.proofs.search.and_at.Goals as goal

pub loop-row-init : goal.loop-row-init
loop-row-init c = and_first c.args.place

-- the word of one row more, turned
one_more : (c : After-word-in-loop-row) → IsAndAt (bit_and c.loop-row.all (bit_xor c.word.result c.word-in-loop-row.result)) (take (c.loop-row.row-index + 1) c.args.rows.now) c.args.place
one_more c =
    let P : ℕ → Type 0 = λ word. IsAndAt (bit_and c.loop-row.all word) (take (c.loop-row.row-index + 1) c.args.rows.now) c.args.place in
    subst P (sym (ap₂ bit_xor c.word.ensures c.word-in-loop-row.ensures)) (and_more c.args.rows.now c.loop-row.row-index c.loop-row.all c.args.place _ c.loop-row-test.true c.loop-row.invariant)

-- what some of the rows lack all of them lack
pub returns-then-all-eq0 : goal.returns-then-all-eq0
returns-then-all-eq0 c =
    let P : ℕ → Type 0 = λ word. IsAndAt word (take (c.loop-row.row-index + 1) c.args.rows.now) c.args.place in
    and_none c.args.rows.now (c.loop-row.row-index + 1) c.args.place (subst P c.if-all-eq0.true (one_more (goal.at.returns-then-all-eq0 c).After-word-in-loop-row))

pub loop-row-preserved : goal.loop-row-preserved
loop-row-preserved c = one_more (goal.at.loop-row-preserved c).After-word-in-loop-row

pub returns : goal.returns
returns c =
    let le : length c.args.rows.now ≤ c.loop-row.row-index = omega arith in
    let P : List TurnedWords → Type 0 = λ rows. IsAndAt c.loop-row.all rows c.args.place in
    subst P (take_all c.loop-row.row-index c.args.rows.now le) c.loop-row.invariant
