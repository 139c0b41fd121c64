use Rattle.std.proofs.Common.{◌≡◌, ◌+◌, ◌∙◌, sym, ap, get_or, [], List, Bool}
use Rattle.std.specs.List.{remove}
use Rattle.bits.specs.MarginRows.{after_margin}
use Rattle.bits.proofs.laws.MarginLaws.{shown_rows, at-after, remove-after, same-after}
use Rattle.bits.proofs.margin_rows.MarginRows.same_beside.Goals as goal

pub returns : goal.returns
returns c =
    let e = shown_rows _ _ _ _ c.self.invariant c.self.view_is in
    let out : List Bool → List Bool = λ row. remove row (c.self.inside.margin + c.args.at) in
    let one : remove (get_or c.self.inside.rows.rows c.args.one []) (c.self.inside.margin + c.args.at) ≡ after_margin c.self.inside.margin (remove (get_or c.args.self.now.rows c.args.one []) c.args.at) =
    ap out (at-after c.self.inside.margin c.args.one c.args.self.now.rows c.self.inside.rows.rows e c.requires.one) ∙ remove-after c.self.inside.margin c.args.at (get_or c.args.self.now.rows c.args.one []) in
    let other : remove (get_or c.self.inside.rows.rows c.args.other []) (c.self.inside.margin + c.args.at) ≡ after_margin c.self.inside.margin (remove (get_or c.args.self.now.rows c.args.other []) c.args.at) =
    ap out (at-after c.self.inside.margin c.args.other c.args.self.now.rows c.self.inside.rows.rows e c.requires.other) ∙ remove-after c.self.inside.margin c.args.at (get_or c.args.self.now.rows c.args.other []) in
    (λ t. same-after c.self.inside.margin _ _ (sym one ∙ c.same_beside.ensures.0 t ∙ other), λ s. c.same_beside.ensures.1 (one ∙ ap (after_margin c.self.inside.margin) s ∙ sym other))
