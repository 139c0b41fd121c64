use Rattle.std.proofs.Common.{◌≡◌, ◌<◌, ◌+◌, ◌∙◌, sym, ap, arith, length, get_or, remove, [], List, Bool, ℕ}
use Rattle.std.specs.List.{zip}
use Rattle.std.specs.Prelude.{slice_index}
use Rattle.std.proofs.lemmas.List.Edits.{length-insert}
use Rattle.classify.specs.Line.{starts}
use Rattle.classify.proofs.laws.line.PlaceLaws.{above_at}
use Rattle.classify.proofs.laws.line.PieceLaws.{kept_long, kept_row, kept_pieces, kept_starts, pieces_inserted, remove-insert}
use Rattle.classify.proofs.laws.line.KeptLaws.{split_kept, same_kept}
use Rattle.bits.specs.MarginRows.{Room}
use Rattle.classify.specs.steps.Kept.{PiecesAndRoom}
use Rattle.classify.proofs.line.owned.OwnedLine.split_at.Goals as goal

pub duplicate-requires : goal.duplicate-requires
duplicate-requires c = omega (arith, c.self.invariant, kept_long _ _ _ _ _ c.self.invariant c.self.view_is, c.requires.piece)

pub overflow_add-k : goal.overflow_add-k
overflow_add-k c =
    let lt : c.args.k < length c.self.inside.rows.rows = omega (arith, c.self.invariant, kept_long _ _ _ _ _ c.self.invariant c.self.view_is, c.requires.piece) in
    omega (arith, c.in_ok-duplicate.ensures.few, ap length c.in_ok-duplicate.ensures.ok, length-insert c.self.inside.rows.rows (c.args.k + 1) (get_or c.self.inside.rows.rows c.args.k []) (omega arith), lt)

pub insert-requires-clause-place : goal.insert-requires-clause-place
insert-requires-clause-place c = omega (arith, kept_long _ _ _ _ _ c.self.invariant c.self.view_is, c.requires.piece)

pub insert-requires-clause-below : goal.insert-requires-clause-below
insert-requires-clause-below c lt =
    omega (arith, c.requires.below (omega (arith, kept_long _ _ _ _ _ c.self.invariant c.self.view_is)), ap (λ (ss : List ℕ). slice_index ss (c.args.k + 1)) (kept_starts _ _ _ _ _ c.self.invariant c.self.view_is))

pub insert-requires-clause-above : goal.insert-requires-clause-above
insert-requires-clause-above c later = above_at c.self.inside.starts (starts c.args.self.now.pieces) c.args.k c.args.x (kept_starts _ _ _ _ _ c.self.invariant c.self.view_is) c.requires.above

pub insert-requires-clause-few : goal.insert-requires-clause-few
insert-requires-clause-few c =
    let lt : c.args.k < length c.self.inside.rows.rows = omega (arith, c.self.invariant, kept_long _ _ _ _ _ c.self.invariant c.self.view_is, c.requires.piece) in
    omega (arith, c.in_ok-duplicate.ensures.few, ap length c.in_ok-duplicate.ensures.ok, length-insert c.self.inside.rows.rows (c.args.k + 1) (get_or c.self.inside.rows.rows c.args.k []) (omega arith), c.self.invariant)

pub overflow_add-k-in-Err : goal.overflow_add-k-in-Err
overflow_add-k-in-Err c =
    let lt : c.args.k < length c.self.inside.rows.rows = omega (arith, c.self.invariant, kept_long _ _ _ _ _ c.self.invariant c.self.view_is, c.requires.piece) in
    omega (arith, c.in_ok-duplicate.ensures.few, ap length c.in_ok-duplicate.ensures.ok, length-insert c.self.inside.rows.rows (c.args.k + 1) (get_or c.self.inside.rows.rows c.args.k []) (omega arith), lt)

pub remove-requires : goal.remove-requires
remove-requires c =
    let lt : c.args.k < length c.self.inside.rows.rows = omega (arith, c.self.invariant, kept_long _ _ _ _ _ c.self.invariant c.self.view_is, c.requires.piece) in
    omega (arith, ap length c.in_ok-duplicate.ensures.ok, length-insert c.self.inside.rows.rows (c.args.k + 1) (get_or c.self.inside.rows.rows c.args.k []) (omega arith), lt)

pub invariant_of-self-in-Ok : goal.invariant_of-self-in-Ok
invariant_of-self-in-Ok c =
    let lt : c.args.k < length c.self.inside.rows.rows = omega (arith, c.self.invariant, kept_long _ _ _ _ _ c.self.invariant c.self.view_is, c.requires.piece) in
    omega (
      arith,
      ap length c.in_ok-duplicate.ensures.ok,
      length-insert c.self.inside.rows.rows (c.args.k + 1) (get_or c.self.inside.rows.rows c.args.k []) (omega arith),
      ap length c.in-Ok.ensures.ok,
      length-insert c.self.inside.starts (c.args.k + 1) c.args.x (omega (arith, c.self.invariant)),
      c.self.invariant,
    )

pub invariant_of-self-in-Err : goal.invariant_of-self-in-Err
invariant_of-self-in-Err c =
    let row : List Bool = get_or c.self.inside.rows.rows c.args.k [] in
    let lt : c.args.k < length c.self.inside.rows.rows = omega (arith, c.self.invariant, kept_long _ _ _ _ _ c.self.invariant c.self.view_is, c.requires.piece) in
    let back : c.remove.new.self.rows ≡ c.self.inside.rows.rows = c.remove.ensures.rows ∙ ap (λ (rs : List (List Bool)). remove rs (c.args.k + 1)) c.in_ok-duplicate.ensures.ok ∙ remove-insert c.self.inside.rows.rows (c.args.k + 1) row (omega arith) in
    ap length back ∙ c.self.invariant ∙ sym (ap length c.in-Err.ensures.err)

pub invariant_of-self-inside-in-Ok : goal.invariant_of-self-inside-in-Ok
invariant_of-self-inside-in-Ok c =
    let lt : c.args.k < length c.self.inside.starts = omega (arith, kept_long _ _ _ _ _ c.self.invariant c.self.view_is, c.requires.piece) in (
      split_kept c.args.self.now c.args.k c.args.x _ c.requires.piece c.requires.above c.requires.below (omega (arith, c.ranges.x)) (omega (arith, ap (λ (r : Room). r.places) c.duplicate.ensures.room, ap (λ (l : PiecesAndRoom). l.room.places) c.self.view_is)) _
          (pieces_inserted _ _ _ _ (c.args.k + 1) c.args.x _ (get_or c.self.inside.rows.rows c.args.k []) _ c.self.invariant (omega arith) (kept_pieces _ _ _ _ _ c.self.view_is) c.in-Ok.ensures.ok c.in_ok-duplicate.ensures.ok (sym (kept_row _ _ _ _ _ c.args.k c.self.invariant c.self.view_is lt))),
      tt,
    )

pub invariant_of-self-inside-in-Err : goal.invariant_of-self-inside-in-Err
invariant_of-self-inside-in-Err c =
    let row : List Bool = get_or c.self.inside.rows.rows c.args.k [] in
    let lt : c.args.k < length c.self.inside.rows.rows = omega (arith, c.self.invariant, kept_long _ _ _ _ _ c.self.invariant c.self.view_is, c.requires.piece) in
    let back : c.remove.new.self.rows ≡ c.self.inside.rows.rows = c.remove.ensures.rows ∙ ap (λ (rs : List (List Bool)). remove rs (c.args.k + 1)) c.in_ok-duplicate.ensures.ok ∙ remove-insert c.self.inside.rows.rows (c.args.k + 1) row (omega arith) in
    (same_kept c.args.self.now _ (omega (arith, ap (λ (r : Room). r.places) c.remove.ensures.room, ap (λ (r : Room). r.places) c.duplicate.ensures.room, ap (λ (l : PiecesAndRoom). l.room.places) c.self.view_is)) _ ((λ i. zip (c.in-Err.ensures.err i) (back i)) ∙ kept_pieces _ _ _ _ _ c.self.view_is), tt)

pub returns-in-Ok-clause-ok : goal.returns-in-Ok-clause-ok
returns-in-Ok-clause-ok c =
    let lt : c.args.k < length c.self.inside.starts = omega (arith, kept_long _ _ _ _ _ c.self.invariant c.self.view_is, c.requires.piece) in
    pieces_inserted _ _ _ _ (c.args.k + 1) c.args.x _ (get_or c.self.inside.rows.rows c.args.k []) _ c.self.invariant (omega arith) (kept_pieces _ _ _ _ _ c.self.view_is) c.in-Ok.ensures.ok c.in_ok-duplicate.ensures.ok (sym (kept_row _ _ _ _ _ c.args.k c.self.invariant c.self.view_is lt))

pub returns-in-Err-clause-err : goal.returns-in-Err-clause-err
returns-in-Err-clause-err c =
    let row : List Bool = get_or c.self.inside.rows.rows c.args.k [] in
    let lt : c.args.k < length c.self.inside.rows.rows = omega (arith, c.self.invariant, kept_long _ _ _ _ _ c.self.invariant c.self.view_is, c.requires.piece) in
    let back : c.remove.new.self.rows ≡ c.self.inside.rows.rows = c.remove.ensures.rows ∙ ap (λ (rs : List (List Bool)). remove rs (c.args.k + 1)) c.in_ok-duplicate.ensures.ok ∙ remove-insert c.self.inside.rows.rows (c.args.k + 1) row (omega arith) in
    (λ i. zip (c.in-Err.ensures.err i) (back i)) ∙ kept_pieces _ _ _ _ _ c.self.view_is
