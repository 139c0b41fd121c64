use Rattle.std.proofs.Common.{◌≡◌, arith, length, rules, vec_len}
use Rattle.bits.proofs.laws.RowsLaws.{row_there, slot_below, slot_read}
use Rattle.bits.proofs.laws.SummaryLaws.{shown_summed}
use Rattle.bits.proofs.rows.Rows.summary.Goals as goal

pub index-requires : goal.index-requires
index-requires c =
    let held : vec_len c.self.inside.summaries ≡ length c.self.inside.summaries.items = search rules in
    let row = row_there _ _ _ _ c.args.self.now c.args.row c.self.view_is c.requires in
    let slot = slot_read _ c.args.row c.get.result row c.get.ensures in
    omega (arith, slot_below _ _ _ _ c.args.row c.get.result c.self.invariant.0 row slot, c.self.invariant.1.counted)

pub returns : goal.returns
returns c =
    let row = row_there _ _ _ _ c.args.self.now c.args.row c.self.view_is c.requires in
    let slot = slot_read _ c.args.row c.get.result row c.get.ensures in
    shown_summed _ _ _ _ c.args.self.now c.args.row c.get.result c.index.result.now c.self.inside.summaries.items c.self.invariant.0 c.self.view_is c.self.invariant.1 row slot c.index.ensures
