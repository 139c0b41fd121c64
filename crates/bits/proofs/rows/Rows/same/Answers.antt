use Rattle.std.proofs.Common.{◌≡◌, ◌∙◌, sym, ap, subst, ℕ, take, get_or, []}
use Rattle.bits.specs.steps.Packing.{IsPacked, all_bits}
use Rattle.bits.specs.steps.StoredRows.{words_of}
use Rattle.bits.proofs.laws.RowsLaws.{row_len}
use Rattle.bits.proofs.rows.Rows.same.Goals as goal

pub same_bits-requires : goal.same_bits-requires
same_bits-requires c =
    let one = row_len _ _ _ _ c.args.self.now c.args.one c.self.invariant.0 c.self.view_is c.requires.one in
    let other = row_len _ _ _ _ c.args.self.now c.args.other c.self.invariant.0 c.self.view_is c.requires.other in
    let P : ℕ → Type 0 = λ n. IsPacked (words_of c.row.result) n in
    let Q : ℕ → Type 0 = λ n. IsPacked (words_of c.row-2.result) n in
    (c.self.inside.len, subst P one c.row.ensures.packed, subst Q other c.row-2.ensures.packed)

pub returns : goal.returns
returns c =
    let one = row_len _ _ _ _ c.args.self.now c.args.one c.self.invariant.0 c.self.view_is c.requires.one in
    let other = row_len _ _ _ _ c.args.self.now c.args.other c.self.invariant.0 c.self.view_is c.requires.other in
    let P : ℕ → Type 0 = λ n. IsPacked (words_of c.row.result) n in
    let Q : ℕ → Type 0 = λ n. IsPacked (words_of c.row-2.result) n in
    let same = c.same_bits.ensures c.self.inside.len (subst P one c.row.ensures.packed) (subst Q other c.row-2.ensures.packed) in
    let left : take c.self.inside.len (all_bits (words_of c.row.result)) ≡ get_or c.args.self.now.rows c.args.one [] = ap (λ (n : ℕ). take n (all_bits (words_of c.row.result))) (sym one) ∙ c.row.ensures.bits in
    let right : take c.self.inside.len (all_bits (words_of c.row-2.result)) ≡ get_or c.args.self.now.rows c.args.other [] = ap (λ (n : ℕ). take n (all_bits (words_of c.row-2.result))) (sym other) ∙ c.row-2.ensures.bits in
    (λ t. sym left ∙ same.0 t ∙ right, λ e. same.1 (left ∙ e ∙ sym right))
