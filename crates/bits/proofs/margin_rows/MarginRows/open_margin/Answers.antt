use Rattle.std.proofs.Common.{◌≡◌, ◌+◌, ◌∙◌, ap, arith, length, get_or, [], List, Bool}
use Rattle.bits.specs.Rows.{two_words}
use Rattle.bits.proofs.laws.MarginLaws.{shown_rows, still-after, shown-after, all-opened, at-after, length-after}
use Rattle.bits.proofs.margin_rows.MarginRows.open_margin.Goals as goal

pub overflow_add-self : goal.overflow_add-self
overflow_add-self c =
    let m = c.self.inside.margin + two_words in
    let opened = all-opened two_words c.self.inside.margin c.args.self.now.rows c.self.inside.rows.rows c.insert_words.new.self.rows c.insert_words.ensures.rows (shown_rows _ _ _ _ c.self.invariant c.self.view_is) in
    let first = at-after m 0 c.args.self.now.rows c.insert_words.new.self.rows opened c.requires.some in
    let long : length (get_or c.insert_words.new.self.rows 0 []) ≡ m + length (get_or c.args.self.now.rows 0 []) =
    ap (λ (row : List Bool). length row) first ∙ length-after m (get_or c.args.self.now.rows 0 []) in
    omega (arith, c.bits-bits.ensures, long)

pub invariant_of-self : goal.invariant_of-self
invariant_of-self c =
    still-after (c.self.inside.margin + two_words) _ _ (all-opened two_words c.self.inside.margin c.args.self.now.rows c.self.inside.rows.rows c.insert_words.new.self.rows c.insert_words.ensures.rows (shown_rows _ _ _ _ c.self.invariant c.self.view_is))

pub returns-clause-rows : goal.returns-clause-rows
returns-clause-rows c =
    shown-after (c.self.inside.margin + two_words) _ _ (all-opened two_words c.self.inside.margin c.args.self.now.rows c.self.inside.rows.rows c.insert_words.new.self.rows c.insert_words.ensures.rows (shown_rows _ _ _ _ c.self.invariant c.self.view_is))
