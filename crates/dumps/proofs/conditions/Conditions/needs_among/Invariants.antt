use Rattle.std.proofs.Common.{◌≡◌, ◌++◌, take, drop, map}
use Rattle.dumps.specs.Foreign.{rule_in, inversions_of}
use Rattle.dumps.specs.Views.{all_inversions_in, AreNumberedSoFar}
use Rattle.dumps.proofs.conditions.Conditions.needs_among.Given as goal

-- the rules so far have numbers
abbrev pub invariant-loop-rule : goal.invariant-loop-rule
invariant-loop-rule l = record {
  inversions : all_inversions_in l.rules.items ++ inversions_of l.chain (map rule_in (drop l.rule-index l.among)) ≡ inversions_of l.chain (map rule_in l.among);
  numbered : AreNumberedSoFar l.chain (map rule_in (take l.rule-index l.among)) l.initial.self l.self l.rules.items l.counts;
}
