use Rattle.std.proofs.Common.{◌≡◌, drop, map}
use Rattle.std.specs.List.{list_any}
use Rattle.dumps.specs.Known.{is_spelled, kept_row}
use Rattle.dumps.proofs.options.kept.KnownOptions.has_option.Given as goal

abbrev pub invariant-loop-kept : goal.invariant-loop-kept
invariant-loop-kept l =
    list_any (is_spelled l.name l.option) (map (kept_row l.self.words.items) (drop l.kept-index l.kept-items))
    ≡ list_any (is_spelled l.name l.option) (map (kept_row l.self.words.items) l.kept-items)
