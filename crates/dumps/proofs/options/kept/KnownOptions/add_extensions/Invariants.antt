use Rattle.std.proofs.Common.{◌≡◌}
use Rattle.std.specs.List.{AllZip}
use Rattle.dumps.specs.Known.{known_rows, known_extensions}
use Rattle.dumps.specs.TableLines.{IsExtensionLine}
use Rattle.dumps.specs.Views.{texts_in}
use Rattle.dumps.proofs.options.kept.KnownOptions.add_extensions.Given as goal

-- the matches and targets so far are those of the lines so far
abbrev pub invariant-loop-line : goal.invariant-loop-line
invariant-loop-line l = record {
  extensions : AllZip IsExtensionLine (texts_in l.yielded) (known_extensions l.self);
  same : known_rows l.self ≡ known_rows l.initial.self;
}
