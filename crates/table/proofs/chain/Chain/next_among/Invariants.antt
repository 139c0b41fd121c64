use Rattle.std.proofs.Common.{◌≡◌, ◌-◌, length}
use Rattle.classify.specs.NextMatch.{next_match}
use Rattle.rules.specs.rule.Allows.{matches}
use Rattle.table.specs.steps.StoredChains.{rules_in}
use Rattle.table.proofs.chain.Chain.next_among.Given as goal

-- no rule from the first place up to where the search stands matches
abbrev pub invariant-loop-place : goal.invariant-loop-place
invariant-loop-place l = next_match (matches l.packet.values) (rules_in l.self) l.from ≡ next_match (matches l.packet.values) (rules_in l.self) l.start

abbrev pub decreases-loop-place : goal.decreases-loop-place
decreases-loop-place l = length l.self.entries - l.start
