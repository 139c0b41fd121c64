use Rattle.std.proofs.Common.{take}
use Rattle.std.specs.List.{list_all}
use Rattle.rules.specs.rule.Allows.{option_value_allows}
use Rattle.rules.specs.Boxed.{IsBox}
use Rattle.rules.specs.steps.Conditions.{Narrows}
use Rattle.rules.proofs.boxing.boxed.narrow_all.Given as goal

abbrev pub invariant-loop-option_value : goal.invariant-loop-option_value
invariant-loop-option_value l = record {
  boxed : IsBox l.spans;
  narrows : Narrows (λ f x. list_all (option_value_allows f x) (take l.option_value-index l.option_values)) l.initial.spans l.spans;
}
