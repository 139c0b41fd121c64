use Rattle.std.proofs.Common.{take}
use Rattle.std.specs.List.{list_all}
use Rattle.rules.specs.rule.Allows.{match_allows}
use Rattle.rules.specs.Boxed.{IsBox}
use Rattle.rules.specs.steps.Conditions.{Narrows}
use Rattle.rules.specs.steps.Views.{view_match}
use Rattle.rules.proofs.boxing.boxed.narrow_matches.Given as goal

abbrev pub invariant-loop-one : goal.invariant-loop-one
invariant-loop-one l = record {
  boxed : IsBox l.spans;
  narrows : Narrows (λ f x. list_all (λ m. match_allows f x (view_match m)) (take l.one-index l.matches)) l.initial.spans l.spans;
}
