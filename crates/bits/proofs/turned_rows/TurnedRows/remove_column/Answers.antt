use Rattle.std.proofs.Common.{◌∙◌, ◌<◌, ap, sym, subst}
use Rattle.bits.specs.TurnedRows.{turned_rows, AreAsLong}
use Rattle.bits.proofs.laws.TurnedRowsLaws.{seen_rows, each_long, closed_seen}
use Rattle.bits.proofs.turned_rows.TurnedRows.remove_column.Goals as goal

pub remove_column-requires-clause-place : goal.remove_column-requires-clause-place
remove_column-requires-clause-place c = each_long (λ n. c.args.at < n) _ _ (seen_rows _ _ c.self.invariant c.self.view_is) c.requires.some c.requires.place

pub invariant_of-self : goal.invariant_of-self
invariant_of-self c = subst AreAsLong (sym c.remove_column.ensures.rows) (closed_seen _ _ c.args.at (seen_rows _ _ c.self.invariant c.self.view_is)).alike

pub returns-clause-rows : goal.returns-clause-rows
returns-clause-rows c = ap turned_rows c.remove_column.ensures.rows ∙ (closed_seen _ _ c.args.at (seen_rows _ _ c.self.invariant c.self.view_is)).seen
