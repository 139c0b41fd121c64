use Rattle.std.proofs.Common.{◌≡◌, ◌+◌, ◌<◌, ◌∙◌, ℕ, suc, ap, arith, subst, map, length, List, Bool, All}
use Rattle.std.specs.List.{remove}
use Rattle.bits.specs.MarginRows.{AreAfter}
use Rattle.bits.proofs.laws.MarginLaws.{shown_rows, still-after, shown-after, all-after, remove-after, run-given, reach-after}
use Rattle.bits.proofs.margin_rows.MarginRows.remove_column.Goals.{After-set_run}
use Rattle.bits.proofs.margin_rows.MarginRows.remove_column.Goals as goal

pub set_run-requires-clause-place : goal.set_run-requires-clause-place
set_run-requires-clause-place c = λ k d lt. omega (arith, reach-after c.self.inside.margin c.args.at c.args.self.now.rows c.self.inside.rows.rows (shown_rows _ _ _ _ c.self.invariant c.self.view_is) c.requires.place k d lt)

given : (c : After-set_run) → AreAfter (c.self.inside.margin + 1) (map (λ (row : List Bool). remove row 0) c.args.self.now.rows) c.set_run.new.self.rows
given c =
    let one : suc c.self.inside.margin ≡ c.self.inside.margin + 1 = omega arith in
    let some : All (λ (row : List Bool). 0 < length row) c.args.self.now.rows = λ k d lt. omega (arith, c.requires.place k d lt) in
    let P : ℕ → Type 0 = λ m. AreAfter m (map (λ (row : List Bool). remove row 0) c.args.self.now.rows) c.set_run.new.self.rows in
    subst P one (run-given c.self.inside.margin c.count.result c.args.self.now.rows c.self.inside.rows.rows c.set_run.new.self.rows some (shown_rows _ _ _ _ c.self.invariant c.self.view_is) (omega (arith, c.count.ensures)) c.set_run.ensures.rows)

pub invariant_of-self : goal.invariant_of-self
invariant_of-self c = still-after (c.self.inside.margin + 1) _ _ (given (goal.at.invariant_of-self c).After-set_run)

pub returns-then-at-eq0-clause-rows : goal.returns-then-at-eq0-clause-rows
returns-then-at-eq0-clause-rows c =
    let zero : 0 ≡ c.args.at = omega arith in
    shown-after (c.self.inside.margin + 1) _ _ (given (goal.at.returns-then-at-eq0-clause-rows c).After-set_run) ∙ ap (λ (at : ℕ). map (λ (row : List Bool). remove row at) c.args.self.now.rows) zero

pub remove_column-requires-clause-place : goal.remove_column-requires-clause-place
remove_column-requires-clause-place c = reach-after c.self.inside.margin c.args.at c.args.self.now.rows c.self.inside.rows.rows (shown_rows _ _ _ _ c.self.invariant c.self.view_is) c.requires.place

pub invariant_of-self-2 : goal.invariant_of-self-2
invariant_of-self-2 c =
    still-after c.self.inside.margin _ _ (c.remove_column.ensures.rows ∙ all-after (λ row. remove row (c.self.inside.margin + c.args.at)) (λ row. remove row c.args.at) c.self.inside.margin c.self.inside.margin c.args.self.now.rows c.self.inside.rows.rows (remove-after c.self.inside.margin c.args.at) (shown_rows _ _ _ _ c.self.invariant c.self.view_is))

pub returns-clause-rows : goal.returns-clause-rows
returns-clause-rows c =
    shown-after c.self.inside.margin _ _ (c.remove_column.ensures.rows ∙ all-after (λ row. remove row (c.self.inside.margin + c.args.at)) (λ row. remove row c.args.at) c.self.inside.margin c.self.inside.margin c.args.self.now.rows c.self.inside.rows.rows (remove-after c.self.inside.margin c.args.at) (shown_rows _ _ _ _ c.self.invariant c.self.view_is))
