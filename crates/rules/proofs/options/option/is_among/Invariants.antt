use Rattle.std.proofs.Common.{◌≡◌, drop}
use Rattle.std.specs.List.{list_any}
use Rattle.std.specs.Str.{bytes_eq}
use Rattle.rules.specs.steps.OptionRows.{names_now}
use Rattle.rules.proofs.options.option.is_among.Given as goal

abbrev pub invariant-loop-name : goal.invariant-loop-name
invariant-loop-name l = list_any (bytes_eq l.word) (names_now (drop l.name-index l.names)) ≡ list_any (bytes_eq l.word) (names_now l.names)
