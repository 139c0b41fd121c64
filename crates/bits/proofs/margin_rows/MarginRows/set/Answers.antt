use Rattle.std.proofs.Common.{◌∙◌}
use Rattle.bits.proofs.laws.MarginLaws.{shown_rows, still-after, shown-after, written-after}
use Rattle.bits.proofs.margin_rows.MarginRows.set.Goals as goal

pub invariant_of-self : goal.invariant_of-self
invariant_of-self c = still-after c.self.inside.margin _ _ (c.set.ensures.rows ∙ written-after c.self.inside.margin c.args.row c.args.at c.args.bit c.args.self.now.rows c.self.inside.rows.rows (shown_rows _ _ _ _ c.self.invariant c.self.view_is) c.requires.row)

pub returns-clause-rows : goal.returns-clause-rows
returns-clause-rows c = shown-after c.self.inside.margin _ _ (c.set.ensures.rows ∙ written-after c.self.inside.margin c.args.row c.args.at c.args.bit c.args.self.now.rows c.self.inside.rows.rows (shown_rows _ _ _ _ c.self.invariant c.self.view_is) c.requires.row)
