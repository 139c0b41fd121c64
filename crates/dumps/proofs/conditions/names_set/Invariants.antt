use Rattle.std.proofs.Common.{◌≡◌, ◌++◌, drop}
use Rattle.std.specs.List.{flat_map}
use Rattle.dumps.specs.Foreign.{kept_names, sets_in}
use Rattle.dumps.proofs.conditions.names_set.Given as goal

abbrev pub invariant-loop-foreign : goal.invariant-loop-foreign
invariant-loop-foreign l = kept_names l.set.items ++ flat_map (λ dump. sets_in dump.now) (drop l.foreign-index l.dumps) ≡ flat_map (λ dump. sets_in dump.now) l.dumps
