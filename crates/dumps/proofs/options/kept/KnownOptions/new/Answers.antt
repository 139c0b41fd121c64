use Rattle.std.proofs.Common.{subst, sym}
use Rattle.dumps.specs.declared.options.rows.TheConstants.{OPTIONS}
use Rattle.dumps.specs.TableLines.{AreOptionLines}
use Rattle.dumps.proofs.options.kept.KnownOptions.new.Goals as goal

pub returns-clause-options : goal.returns-clause-options
returns-clause-options c = subst (AreOptionLines OPTIONS.now) (sym c.in_ok-add_extensions.ensures.same) c.in_ok-add_options.ensures.options
