use Rattle.std.specs.Borrow.{Bor}
use Rattle.std.proofs.Common.{◌≡◌, ℕ, List, map}
use Rattle.std.specs.List.{filter_map}
use Rattle.fields.specs.text.Cut.{cut_at}
use Rattle.dumps.specs.Views.{names_in}
use Rattle.dumps.proofs.services.name_rows.Given as goal

-- the rows so far are those of the lines so far
abbrev pub invariant-loop-line : goal.invariant-loop-line
invariant-loop-line l = names_in l.rows.items ≡ filter_map (cut_at 32) (map (λ (line : Bor (List ℕ)). line.now) l.yielded)
