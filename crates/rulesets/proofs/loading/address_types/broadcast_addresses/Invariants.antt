use Rattle.std.proofs.Common.{◌≡◌}
use Rattle.fields.specs.numbers.Field.{address_top}
use Rattle.rulesets.proofs.loading.address_types.broadcast_addresses.Given as goal

abbrev pub invariant-loop-word : goal.invariant-loop-word
invariant-loop-word l = l.set.top ≡ address_top
