use Rattle.std.proofs.Common.{◌≡◌, ◌<◌, ◌+◌, ◌∙◌, sym, ap, arith, length, get_or, [], List, Bool, ℕ}
use Rattle.std.specs.List.{zip}
use Rattle.std.specs.Prelude.{slice_index}
use Rattle.std.proofs.lemmas.List.Edits.{length-remove}
use Rattle.classify.specs.Line.{starts}
use Rattle.classify.proofs.laws.line.PlaceLaws.{above_at}
use Rattle.classify.proofs.laws.line.PieceLaws.{kept_long, kept_row, kept_pieces, kept_starts}
use Rattle.classify.proofs.laws.line.KeptLaws.{same_kept}
use Rattle.classify.proofs.laws.line.CutLaws.{cut_twice_kept, long_twice, pieces_cut_twice, taken_back}
use Rattle.bits.specs.MarginRows.{Room}
use Rattle.classify.specs.steps.Kept.{PiecesAndRoom}
use Rattle.classify.proofs.line.owned.OwnedLine.split_twice_at.Goals as goal

pub duplicate_twice-requires : goal.duplicate_twice-requires
duplicate_twice-requires c = omega (arith, c.self.invariant, kept_long _ _ _ _ _ c.self.invariant c.self.view_is, c.requires.piece)

pub overflow_add-k : goal.overflow_add-k
overflow_add-k c =
    let lt : c.args.k < length c.self.inside.rows.rows = omega (arith, c.self.invariant, kept_long _ _ _ _ _ c.self.invariant c.self.view_is, c.requires.piece) in
    omega (arith, c.in_ok-duplicate_twice.ensures.few, long_twice c.self.inside.rows.rows c.duplicate_twice.new.self.rows c.args.k (get_or c.self.inside.rows.rows c.args.k []) (get_or c.self.inside.rows.rows c.args.k []) lt c.in_ok-duplicate_twice.ensures.ok)

pub insert_pair-requires-clause-place : goal.insert_pair-requires-clause-place
insert_pair-requires-clause-place c = omega (arith, kept_long _ _ _ _ _ c.self.invariant c.self.view_is, c.requires.piece)

pub insert_pair-requires-clause-below : goal.insert_pair-requires-clause-below
insert_pair-requires-clause-below c lt =
    omega (arith, c.requires.below (omega (arith, kept_long _ _ _ _ _ c.self.invariant c.self.view_is)), ap (λ (ss : List ℕ). slice_index ss (c.args.k + 1)) (kept_starts _ _ _ _ _ c.self.invariant c.self.view_is))

pub insert_pair-requires-clause-above : goal.insert_pair-requires-clause-above
insert_pair-requires-clause-above c later = above_at c.self.inside.starts (starts c.args.self.now.pieces) c.args.k c.args.x (kept_starts _ _ _ _ _ c.self.invariant c.self.view_is) c.requires.above

pub insert_pair-requires-clause-few : goal.insert_pair-requires-clause-few
insert_pair-requires-clause-few c =
    let lt : c.args.k < length c.self.inside.rows.rows = omega (arith, c.self.invariant, kept_long _ _ _ _ _ c.self.invariant c.self.view_is, c.requires.piece) in
    omega (arith, c.in_ok-duplicate_twice.ensures.few, long_twice c.self.inside.rows.rows c.duplicate_twice.new.self.rows c.args.k (get_or c.self.inside.rows.rows c.args.k []) (get_or c.self.inside.rows.rows c.args.k []) lt c.in_ok-duplicate_twice.ensures.ok, c.self.invariant)

pub invariant_of-self-in-Ok : goal.invariant_of-self-in-Ok
invariant_of-self-in-Ok c =
    let lt : c.args.k < length c.self.inside.rows.rows = omega (arith, c.self.invariant, kept_long _ _ _ _ _ c.self.invariant c.self.view_is, c.requires.piece) in
    let lt' : c.args.k < length c.self.inside.starts = omega (arith, c.self.invariant) in
    omega (arith, long_twice c.self.inside.rows.rows c.duplicate_twice.new.self.rows c.args.k (get_or c.self.inside.rows.rows c.args.k []) (get_or c.self.inside.rows.rows c.args.k []) lt c.in_ok-duplicate_twice.ensures.ok, long_twice c.self.inside.starts c.insert_pair.new.self c.args.k c.args.x c.args.y lt' c.in-Ok.ensures.ok, c.self.invariant)

pub invariant_of-self-inside-in-Ok : goal.invariant_of-self-inside-in-Ok
invariant_of-self-inside-in-Ok c =
    let lt : c.args.k < length c.self.inside.starts = omega (arith, kept_long _ _ _ _ _ c.self.invariant c.self.view_is, c.requires.piece) in (
      cut_twice_kept c.args.self.now c.args.k c.args.x c.args.y _ (record { piece = c.requires.piece; above = c.requires.above; rising = c.requires.rising; below = c.requires.below }) (omega (arith, c.ranges.y))
          (omega (arith, ap (λ (r : Room). r.places) c.duplicate_twice.ensures.room, ap (λ (l : PiecesAndRoom). l.room.places) c.self.view_is)) _
          (pieces_cut_twice _ _ _ _ c.args.k c.args.x c.args.y (get_or c.self.inside.rows.rows c.args.k []) _ c.self.invariant lt (kept_pieces _ _ _ _ _ c.self.view_is) c.in-Ok.ensures.ok c.in_ok-duplicate_twice.ensures.ok
          (sym (kept_row _ _ _ _ _ c.args.k c.self.invariant c.self.view_is lt))),
      tt,
    )

pub overflow_add-k-in-Err : goal.overflow_add-k-in-Err
overflow_add-k-in-Err c =
    let lt : c.args.k < length c.self.inside.rows.rows = omega (arith, c.self.invariant, kept_long _ _ _ _ _ c.self.invariant c.self.view_is, c.requires.piece) in
    omega (arith, c.in_ok-duplicate_twice.ensures.few, long_twice c.self.inside.rows.rows c.duplicate_twice.new.self.rows c.args.k (get_or c.self.inside.rows.rows c.args.k []) (get_or c.self.inside.rows.rows c.args.k []) lt c.in_ok-duplicate_twice.ensures.ok)

pub remove-requires : goal.remove-requires
remove-requires c =
    let lt : c.args.k < length c.self.inside.rows.rows = omega (arith, c.self.invariant, kept_long _ _ _ _ _ c.self.invariant c.self.view_is, c.requires.piece) in
    omega (arith, long_twice c.self.inside.rows.rows c.duplicate_twice.new.self.rows c.args.k (get_or c.self.inside.rows.rows c.args.k []) (get_or c.self.inside.rows.rows c.args.k []) lt c.in_ok-duplicate_twice.ensures.ok, lt)

pub overflow_add-k-in-Err-2 : goal.overflow_add-k-in-Err-2
overflow_add-k-in-Err-2 c =
    let lt : c.args.k < length c.self.inside.rows.rows = omega (arith, c.self.invariant, kept_long _ _ _ _ _ c.self.invariant c.self.view_is, c.requires.piece) in
    omega (arith, c.in_ok-duplicate_twice.ensures.few, long_twice c.self.inside.rows.rows c.duplicate_twice.new.self.rows c.args.k (get_or c.self.inside.rows.rows c.args.k []) (get_or c.self.inside.rows.rows c.args.k []) lt c.in_ok-duplicate_twice.ensures.ok)

pub remove-requires-in-Err : goal.remove-requires-in-Err
remove-requires-in-Err c =
    let lt : c.args.k < length c.self.inside.rows.rows = omega (arith, c.self.invariant, kept_long _ _ _ _ _ c.self.invariant c.self.view_is, c.requires.piece) in
    let two = long_twice c.self.inside.rows.rows c.duplicate_twice.new.self.rows c.args.k (get_or c.self.inside.rows.rows c.args.k []) (get_or c.self.inside.rows.rows c.args.k []) lt c.in_ok-duplicate_twice.ensures.ok in
    omega (arith, two, ap (λ (rs : List (List Bool)). length rs) c.remove.ensures.rows, length-remove c.duplicate_twice.new.self.rows (c.args.k + 1) (omega (arith, two, lt)), lt)

pub invariant_of-self-inside-in-Err : goal.invariant_of-self-inside-in-Err
invariant_of-self-inside-in-Err c =
    let lt : c.args.k < length c.self.inside.rows.rows = omega (arith, c.self.invariant, kept_long _ _ _ _ _ c.self.invariant c.self.view_is, c.requires.piece) in
    let row : List Bool = get_or c.self.inside.rows.rows c.args.k [] in
    let back : c.remove-in-Err.new.self.rows ≡ c.self.inside.rows.rows =
    c.remove-in-Err.ensures.rows ∙ taken_back c.self.inside.rows.rows c.duplicate_twice.new.self.rows c.remove.new.self.rows (c.args.k + 1) row row (omega arith) c.in_ok-duplicate_twice.ensures.ok c.remove.ensures.rows in
    (same_kept c.args.self.now _ (omega (arith, ap (λ (r : Room). r.places) c.remove-in-Err.ensures.room, ap (λ (r : Room). r.places) c.remove.ensures.room, ap (λ (r : Room). r.places) c.duplicate_twice.ensures.room, ap (λ (l : PiecesAndRoom). l.room.places) c.self.view_is)) _ ((λ i. zip (c.in-Err.ensures.err i) (back i)) ∙ kept_pieces _ _ _ _ _ c.self.view_is), tt)

pub invariant_of-self-in-Err : goal.invariant_of-self-in-Err
invariant_of-self-in-Err c =
    let lt : c.args.k < length c.self.inside.rows.rows = omega (arith, c.self.invariant, kept_long _ _ _ _ _ c.self.invariant c.self.view_is, c.requires.piece) in
    let row : List Bool = get_or c.self.inside.rows.rows c.args.k [] in
    let back : c.remove-in-Err.new.self.rows ≡ c.self.inside.rows.rows =
    c.remove-in-Err.ensures.rows ∙ taken_back c.self.inside.rows.rows c.duplicate_twice.new.self.rows c.remove.new.self.rows (c.args.k + 1) row row (omega arith) c.in_ok-duplicate_twice.ensures.ok c.remove.ensures.rows in
    ap length back ∙ c.self.invariant ∙ sym (ap length c.in-Err.ensures.err)

pub returns-in-Ok-clause-ok : goal.returns-in-Ok-clause-ok
returns-in-Ok-clause-ok c =
    let lt : c.args.k < length c.self.inside.starts = omega (arith, kept_long _ _ _ _ _ c.self.invariant c.self.view_is, c.requires.piece) in
    pieces_cut_twice _ _ _ _ c.args.k c.args.x c.args.y (get_or c.self.inside.rows.rows c.args.k []) _ c.self.invariant lt (kept_pieces _ _ _ _ _ c.self.view_is) c.in-Ok.ensures.ok c.in_ok-duplicate_twice.ensures.ok
    (sym (kept_row _ _ _ _ _ c.args.k c.self.invariant c.self.view_is lt))

pub returns-in-Err-clause-err : goal.returns-in-Err-clause-err
returns-in-Err-clause-err c =
    let lt : c.args.k < length c.self.inside.rows.rows = omega (arith, c.self.invariant, kept_long _ _ _ _ _ c.self.invariant c.self.view_is, c.requires.piece) in
    let row : List Bool = get_or c.self.inside.rows.rows c.args.k [] in
    let back : c.remove-in-Err.new.self.rows ≡ c.self.inside.rows.rows =
    c.remove-in-Err.ensures.rows ∙ taken_back c.self.inside.rows.rows c.duplicate_twice.new.self.rows c.remove.new.self.rows (c.args.k + 1) row row (omega arith) c.in_ok-duplicate_twice.ensures.ok c.remove.ensures.rows in
    (λ i. zip (c.in-Err.ensures.err i) (back i)) ∙ kept_pieces _ _ _ _ _ c.self.view_is
