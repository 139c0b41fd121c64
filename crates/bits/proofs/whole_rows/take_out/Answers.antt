use Rattle.std.proofs.Common.{◌≡◌, ◌∙◌, ◌+◌, ◌-◌, ◌*◌, ◌++◌, ap, arith, length, take, drop, List, ℕ}
use Rattle.bits.specs.steps.Held.{words_in}
use Rattle.bits.proofs.laws.RowsLaws.{IsMovedIn, last_moved_in}
use Rattle.bits.proofs.whole_rows.take_out.Goals.{After-truncate-2}
use Rattle.bits.proofs.whole_rows.take_out.Goals as goal

moved_in : (c : After-truncate-2) → IsMovedIn c.args.width (c.len-last.result - 1) c.args.i c.args.wholes.now.items (take ((c.len-last.result - 1) * c.args.width) c.copy_within.new.self.items)
moved_in c =
    let w : ℕ = c.args.width in
    let ws : List ℕ = c.args.wholes.now.items in
    let last : ℕ = c.len-last.result - 1 in
    let count : length c.args.owners.now.items ≡ last + 1 = omega arith in
    let e : last * w + w - last * w ≡ w = omega arith in
    last_moved_in w last c.args.i ws c.copy_within.new.self.items (c.requires.whole ∙ ap (λ k. k * w) count) (omega arith)
    (c.copy_within.ensures.items ∙ ap (λ k. take (c.args.i * w) ws ++ take k (drop (last * w) ws) ++ drop (c.args.i * w + k) ws) e)

pub returns-clause-moved : goal.returns-clause-moved
returns-clause-moved c = λ below.
    let e : c.len-last.result - 1 ≡ length c.args.owners.now.items - 1 = omega arith in
    ap (λ (us : List ℕ). words_in c.args.width us c.args.i) c.truncate-2.ensures.items ∙ (moved_in (goal.at.returns-clause-moved c).After-truncate-2).moved (omega arith) ∙ ap (λ k. words_in c.args.width c.args.wholes.now.items k) e

pub returns-clause-others : goal.returns-clause-others
returns-clause-others c = λ j below ne.
    ap (λ (us : List ℕ). words_in c.args.width us j) c.truncate-2.ensures.items ∙ (moved_in (goal.at.returns-clause-others c).After-truncate-2).others j (omega arith) ne
