use Rattle.std.proofs.Common.{◌∙◌, sym, ap, arith, [], get_or, subst, take, ℕ, List}
use Rattle.bits.specs.Rows.{RowsAndRoom}
use Rattle.bits.specs.steps.Packing.{IsPacked, all_bits}
use Rattle.bits.specs.steps.StoredRows.{words_of}
use Rattle.bits.proofs.laws.RowsLaws.{row_there, lent_packed, lent_bits, row_size, slot_below, slot_read}
use Rattle.bits.proofs.rows.Rows.row.Goals as goal

pub row-requires-clause-slot : goal.row-requires-clause-slot
row-requires-clause-slot c =
    let row = row_there _ _ _ _ c.args.self.now c.args.row c.self.view_is c.requires in
    let slot = slot_read _ c.args.row c.get.result row c.get.ensures in
    omega (arith, slot_below _ _ _ _ c.args.row c.get.result c.self.invariant.0 row slot, c.self.invariant.2)

pub returns-clause-packed : goal.returns-clause-packed
returns-clause-packed c =
    let row = row_there _ _ _ _ c.args.self.now c.args.row c.self.view_is c.requires in
    let slot = slot_read _ c.args.row c.get.result row c.get.ensures in
    let P : ℕ → Type 0 = λ len. IsPacked (words_of c.row.result) len in
    let Q : List ℕ → Type 0 = λ ws. IsPacked ws c.self.inside.len in
    subst P (sym (row_size _ _ _ _ c.args.self.now c.args.row c.get.result c.self.invariant.0 c.self.view_is row slot))
    (subst Q (sym c.row.ensures) (lent_packed _ _ _ _ c.args.row c.get.result c.div_ceil.result c.self.invariant.0 row slot c.div_ceil.ensures))

pub returns-clause-bits : goal.returns-clause-bits
returns-clause-bits c =
    let row = row_there _ _ _ _ c.args.self.now c.args.row c.self.view_is c.requires in
    let slot = slot_read _ c.args.row c.get.result row c.get.ensures in
    ap (λ (n : ℕ). take n (all_bits (words_of c.row.result))) (row_size _ _ _ _ c.args.self.now c.args.row c.get.result c.self.invariant.0 c.self.view_is row slot)
    ∙ ap (λ (ws : List ℕ). take c.self.inside.len (all_bits ws)) c.row.ensures
    ∙ lent_bits _ _ _ _ c.args.row c.get.result c.div_ceil.result c.self.invariant.0 row slot c.div_ceil.ensures
    ∙ ap (λ (r : RowsAndRoom). get_or r.rows c.args.row []) c.self.view_is
