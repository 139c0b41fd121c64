use Rattle.std.proofs.Common.{arith, ap, length, get_or, []}
use Rattle.bits.proofs.laws.MarginLaws.{shown_rows, at-after, length-after}
use Rattle.bits.proofs.margin_rows.MarginRows.bits.Goals as goal

pub overflow_sub-result : goal.overflow_sub-result
overflow_sub-result c =
    let e = shown_rows _ _ _ _ c.self.invariant c.self.view_is in
    omega (arith, c.bits.ensures, ap length (at-after c.self.inside.margin c.args.row c.args.self.now.rows c.self.inside.rows.rows e c.requires), length-after c.self.inside.margin (get_or c.args.self.now.rows c.args.row []))
