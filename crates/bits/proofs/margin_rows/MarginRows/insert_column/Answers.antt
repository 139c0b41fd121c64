use Rattle.std.proofs.Common.{◌≡◌, ◌+◌, ◌-◌, ◌∙◌, ℕ, suc, ap, arith, subst, map, false, List, Bool}
use Rattle.std.specs.List.{insert}
use Rattle.bits.specs.MarginRows.{AreAfter}
use Rattle.bits.proofs.laws.MarginLaws.{shown_rows, still-after, shown-after, all-after, insert-after, all-taken, reach-up-to-after}
use Rattle.bits.proofs.margin_rows.MarginRows.insert_column.Goals as goal

pub invariant_of-self : goal.invariant_of-self
invariant_of-self c =
    let one : c.self.inside.margin ≡ suc (c.self.inside.margin - 1) = omega arith in
    let P : ℕ → Type 0 = λ m. AreAfter m c.args.self.now.rows c.self.inside.rows.rows in
    still-after (c.self.inside.margin - 1) _ _ (all-taken (c.self.inside.margin - 1) c.args.self.now.rows c.self.inside.rows.rows (subst P one (shown_rows _ _ _ _ c.self.invariant c.self.view_is)))

pub returns-then-self-gt0-clause-rows : goal.returns-then-self-gt0-clause-rows
returns-then-self-gt0-clause-rows c =
    let one : c.self.inside.margin ≡ suc (c.self.inside.margin - 1) = omega arith in
    let zero : 0 ≡ c.args.at = omega arith in
    let P : ℕ → Type 0 = λ m. AreAfter m c.args.self.now.rows c.self.inside.rows.rows in
    shown-after (c.self.inside.margin - 1) _ _ (all-taken (c.self.inside.margin - 1) c.args.self.now.rows c.self.inside.rows.rows (subst P one (shown_rows _ _ _ _ c.self.invariant c.self.view_is))) ∙ ap (λ (at : ℕ). map (λ (row : List Bool). insert row at false) c.args.self.now.rows) zero

pub insert_column-requires-clause-place : goal.insert_column-requires-clause-place
insert_column-requires-clause-place c = reach-up-to-after c.self.inside.margin c.args.at c.args.self.now.rows c.self.inside.rows.rows (shown_rows _ _ _ _ c.self.invariant c.self.view_is) c.requires.place

pub invariant_of-self-2 : goal.invariant_of-self-2
invariant_of-self-2 c =
    still-after c.self.inside.margin _ _ (c.insert_column.ensures.rows ∙ all-after (λ row. insert row (c.self.inside.margin + c.args.at) false) (λ row. insert row c.args.at false) c.self.inside.margin c.self.inside.margin c.args.self.now.rows c.self.inside.rows.rows (insert-after c.self.inside.margin c.args.at false) (shown_rows _ _ _ _ c.self.invariant c.self.view_is))

pub returns-clause-rows : goal.returns-clause-rows
returns-clause-rows c =
    shown-after c.self.inside.margin _ _ (c.insert_column.ensures.rows ∙ all-after (λ row. insert row (c.self.inside.margin + c.args.at) false) (λ row. insert row c.args.at false) c.self.inside.margin c.self.inside.margin c.args.self.now.rows c.self.inside.rows.rows (insert-after c.self.inside.margin c.args.at false) (shown_rows _ _ _ _ c.self.invariant c.self.view_is))
