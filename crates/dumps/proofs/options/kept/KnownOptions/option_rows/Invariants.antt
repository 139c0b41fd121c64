use Rattle.std.proofs.Common.{◌≡◌, ◌++◌, drop, map}
use Rattle.dumps.specs.Conditions.{AreOwnStarts}
use Rattle.dumps.specs.Known.{kept_row}
use Rattle.dumps.specs.Views.{rows_in}
use Rattle.dumps.proofs.options.kept.KnownOptions.option_rows.Given as goal

abbrev pub invariant-loop-kept : goal.invariant-loop-kept
invariant-loop-kept l = record {
  starts : AreOwnStarts (rows_in l.rows.items);
  lent : rows_in l.rows.items ++ map (kept_row l.self.words.items) (drop l.kept-index l.kept-items) ≡ map (kept_row l.self.words.items) l.kept-items;
}
