use Rattle.std.proofs.Common.{◌∙◌}
use Rattle.std.proofs.lemmas.Result.{on_ok_weaker}
use Rattle.bits.proofs.laws.MarginLaws.{shown_rows, shown-after, either-after, doubled-after}
use Rattle.bits.proofs.margin_rows.MarginRows.duplicate.Goals as goal

pub invariant_of-self : goal.invariant_of-self
invariant_of-self c =
    let e = shown_rows _ _ _ _ c.self.invariant c.self.view_is in
    either-after c.duplicate.result c.self.inside.margin _ c.args.self.now.rows c.self.inside.rows.rows _ c.duplicate.new.self.rows (doubled-after c.self.inside.margin c.args.row c.args.self.now.rows c.self.inside.rows.rows e c.requires) e c.duplicate.ensures.ok c.duplicate.ensures.err

pub returns-clause-ok : goal.returns-clause-ok
returns-clause-ok c =
    let e = shown_rows _ _ _ _ c.self.invariant c.self.view_is in
    on_ok_weaker c.duplicate.result (λ is. shown-after c.self.inside.margin _ _ (is ∙ doubled-after c.self.inside.margin c.args.row c.args.self.now.rows c.self.inside.rows.rows e c.requires)) c.duplicate.ensures.ok
