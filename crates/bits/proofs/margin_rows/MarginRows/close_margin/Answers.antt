use Rattle.std.proofs.Common.{◌≡◌, ◌-◌, ◌∙◌, ℕ, suc, arith, subst}
use Rattle.bits.specs.MarginRows.{AreAfter}
use Rattle.bits.specs.Rows.{two_words}
use Rattle.bits.proofs.laws.MarginLaws.{shown_rows, still-after, shown-after, all-closed, some-after, all-dropped, long-enough-after}
use Rattle.bits.proofs.margin_rows.MarginRows.close_margin.Goals as goal

pub remove_column-requires-clause-place : goal.remove_column-requires-clause-place
remove_column-requires-clause-place c = some-after c.self.inside.margin c.args.self.now.rows c.self.inside.rows.rows (shown_rows _ _ _ _ c.self.invariant c.self.view_is) (omega arith)

pub invariant_of-self : goal.invariant_of-self
invariant_of-self c =
    let one : c.self.inside.margin ≡ suc (c.self.inside.margin - 1) = omega arith in
    let P : ℕ → Type 0 = λ m. AreAfter m c.args.self.now.rows c.self.inside.rows.rows in
    still-after (c.self.inside.margin - 1) _ _ (c.remove_column.ensures.rows ∙ all-closed (c.self.inside.margin - 1) c.args.self.now.rows c.self.inside.rows.rows (subst P one (shown_rows _ _ _ _ c.self.invariant c.self.view_is)))

pub returns-then-self-lt-TWO_WORDS-clause-rows : goal.returns-then-self-lt-TWO_WORDS-clause-rows
returns-then-self-lt-TWO_WORDS-clause-rows c =
    let one : c.self.inside.margin ≡ suc (c.self.inside.margin - 1) = omega arith in
    let P : ℕ → Type 0 = λ m. AreAfter m c.args.self.now.rows c.self.inside.rows.rows in
    shown-after (c.self.inside.margin - 1) _ _ (c.remove_column.ensures.rows ∙ all-closed (c.self.inside.margin - 1) c.args.self.now.rows c.self.inside.rows.rows (subst P one (shown_rows _ _ _ _ c.self.invariant c.self.view_is)))

pub remove_words-requires-clause-long : goal.remove_words-requires-clause-long
remove_words-requires-clause-long c = long-enough-after two_words c.self.inside.margin c.args.self.now.rows c.self.inside.rows.rows (shown_rows _ _ _ _ c.self.invariant c.self.view_is) (omega arith)

pub invariant_of-self-2 : goal.invariant_of-self-2
invariant_of-self-2 c =
    still-after (c.self.inside.margin - two_words) _ _ (c.remove_words.ensures.rows ∙ all-dropped two_words c.self.inside.margin c.args.self.now.rows c.self.inside.rows.rows (omega arith) (shown_rows _ _ _ _ c.self.invariant c.self.view_is))

pub returns-clause-rows : goal.returns-clause-rows
returns-clause-rows c =
    shown-after (c.self.inside.margin - two_words) _ _ (c.remove_words.ensures.rows ∙ all-dropped two_words c.self.inside.margin c.args.self.now.rows c.self.inside.rows.rows (omega arith) (shown_rows _ _ _ _ c.self.invariant c.self.view_is))
