use Rattle.std.proofs.Common.{◌≡◌, ◌≤◌, ℕ, length}
use Rattle.fields.specs.text.WordSlice.{words_in}
use Rattle.rules.specs.rule.Rules.{empty_rule}
use Rattle.rules.specs.reading.Steps.{steps_from}
use Rattle.rules.specs.steps.Views.{view_spec}
use Rattle.rules.proofs.reading.read_options.Given as goal

-- what is left to read, from the rule so far, gives what all words give
abbrev pub invariant-loop-rest : goal.invariant-loop-rest
invariant-loop-rest l = record {
  shorter : length (words_in l.rest) ≤ l.end;
  left : (n : ℕ) × (length (words_in l.rest) ≤ n)
      × (steps_from n l.end (view_spec l.spec) (words_in l.rest) ≡ steps_from (length (words_in l.words)) l.end empty_rule (words_in l.words));
}

abbrev pub decreases-loop-rest : goal.decreases-loop-rest
decreases-loop-rest l = length (words_in l.rest)
