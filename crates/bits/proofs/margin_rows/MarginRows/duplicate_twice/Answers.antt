use Rattle.std.proofs.Common.{◌∙◌}
use Rattle.std.proofs.lemmas.Result.{on_ok_weaker}
use Rattle.bits.proofs.laws.MarginLaws.{shown_rows, shown-after, either-after, twice-after}
use Rattle.bits.proofs.margin_rows.MarginRows.duplicate_twice.Goals as goal

pub invariant_of-self : goal.invariant_of-self
invariant_of-self c =
    let e = shown_rows _ _ _ _ c.self.invariant c.self.view_is in
    either-after c.duplicate_twice.result c.self.inside.margin _ c.args.self.now.rows c.self.inside.rows.rows _ c.duplicate_twice.new.self.rows (twice-after c.self.inside.margin c.args.row c.args.self.now.rows c.self.inside.rows.rows e c.requires) e c.duplicate_twice.ensures.ok c.duplicate_twice.ensures.err

pub returns-clause-ok : goal.returns-clause-ok
returns-clause-ok c =
    let e = shown_rows _ _ _ _ c.self.invariant c.self.view_is in
    on_ok_weaker c.duplicate_twice.result (λ is. shown-after c.self.inside.margin _ _ (is ∙ twice-after c.self.inside.margin c.args.row c.args.self.now.rows c.self.inside.rows.rows e c.requires)) c.duplicate_twice.ensures.ok
