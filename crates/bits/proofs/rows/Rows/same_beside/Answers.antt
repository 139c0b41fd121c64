use Rattle.std.proofs.Common.{◌≡◌, ◌∙◌, sym, ap, subst, ℕ, List, Bool, take, get_or, []}
use Rattle.std.specs.List.{remove}
use Rattle.bits.specs.steps.Packing.{IsPacked, all_bits}
use Rattle.bits.specs.steps.StoredRows.{words_of}
use Rattle.bits.proofs.laws.RowsLaws.{row_len}
use Rattle.bits.proofs.laws.SameLaws.{same_size, packed_alike, alike_packed}
use Rattle.bits.proofs.rows.Rows.same_beside.Goals as goal

pub same_beside-requires : goal.same_beside-requires
same_beside-requires c =
    let one = row_len _ _ _ _ c.args.self.now c.args.one c.self.invariant.0 c.self.view_is c.requires.one in
    let other = row_len _ _ _ _ c.args.self.now c.args.other c.self.invariant.0 c.self.view_is c.requires.other in
    let P : ℕ → Type 0 = λ n. IsPacked (words_of c.row.result) n in
    let Q : ℕ → Type 0 = λ n. IsPacked (words_of c.row-2.result) n in
    same_size (words_of c.row.result) (words_of c.row-2.result) c.self.inside.len (subst P one c.row.ensures.packed) (subst Q other c.row-2.ensures.packed)

pub returns : goal.returns
returns c =
    let one = row_len _ _ _ _ c.args.self.now c.args.one c.self.invariant.0 c.self.view_is c.requires.one in
    let other = row_len _ _ _ _ c.args.self.now c.args.other c.self.invariant.0 c.self.view_is c.requires.other in
    let P : ℕ → Type 0 = λ n. IsPacked (words_of c.row.result) n in
    let Q : ℕ → Type 0 = λ n. IsPacked (words_of c.row-2.result) n in
    let g : IsPacked (words_of c.row.result) c.self.inside.len = subst P one c.row.ensures.packed in
    let h : IsPacked (words_of c.row-2.result) c.self.inside.len = subst Q other c.row-2.ensures.packed in
    let left : take c.self.inside.len (all_bits (words_of c.row.result)) ≡ get_or c.args.self.now.rows c.args.one [] = ap (λ (n : ℕ). take n (all_bits (words_of c.row.result))) (sym one) ∙ c.row.ensures.bits in
    let right : take c.self.inside.len (all_bits (words_of c.row-2.result)) ≡ get_or c.args.self.now.rows c.args.other [] = ap (λ (n : ℕ). take n (all_bits (words_of c.row-2.result))) (sym other) ∙ c.row-2.ensures.bits in
    let out : List Bool → List Bool = λ bits. remove bits c.args.at in (
      λ t. sym (ap out left) ∙ alike_packed c.args.at c.self.inside.len (words_of c.row.result) (words_of c.row-2.result) g h (c.same_beside.ensures.0 t) ∙ ap out right,
      λ e. c.same_beside.ensures.1 (packed_alike c.args.at c.self.inside.len (words_of c.row.result) (words_of c.row-2.result) g h (ap out left ∙ e ∙ sym (ap out right))),
    )
