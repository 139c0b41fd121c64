use Rattle.std.proofs.Common.{◌≡◌}
use Rattle.std.specs.List.{AllZip}
use Rattle.dumps.specs.Known.{known_rows, known_extensions}
use Rattle.dumps.specs.TableLines.{IsOptionLine}
use Rattle.dumps.specs.Views.{texts_in}
use Rattle.dumps.proofs.options.kept.KnownOptions.add_options.Given as goal

-- the options so far are those of the lines so far
abbrev pub invariant-loop-line : goal.invariant-loop-line
invariant-loop-line l = record {
  options : AllZip IsOptionLine (texts_in l.yielded) (known_rows l.self);
  same : known_extensions l.self ≡ known_extensions l.initial.self;
}
