use Rattle.std.proofs.Common.{[], map, sym, ap, ◌∙◌, slice_index_or, Bor, List, ℕ}
use Rattle.std.proofs.Math.ListN.{get_or-map}
use Rattle.notation.specs.Rows.{rows_of}
use Rattle.notation.proofs.values.state_name.Goals as goal

pub returns : goal.returns
returns c =
    let none : Bor (List ℕ) × ℕ = (record { ref_ptr = (0, 0); now = [] }, 0) in
    let rows = c.rows.result.now in
    let n = c.args.number in
    sym (ap (λ (row : List ℕ × ℕ). row.0) (get_or-map (λ (row : Bor (List ℕ) × ℕ). (row.0.now, row.1)) rows n none))
    ∙ sym (get_or-map (λ (row : List ℕ × ℕ). row.0) (rows_of rows) n ([], 0))
    ∙ ap (λ (table : List (List ℕ × ℕ)). slice_index_or (map (λ row. row.0) table) n []) c.rows.ensures
