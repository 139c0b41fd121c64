use Rattle.std.proofs.Common.{◌≡◌, ◌++◌, List, take, drop}
use Rattle.dumps.specs.Foreign.{Needed, needs_in, inversions}
use Rattle.dumps.specs.Views.{inversions_in, AreCounts, AreNeedsNumbered, numbers_of}
use Rattle.dumps.proofs.conditions.Conditions.needs_of_rule.Given as goal

-- the needs so far have numbers and are counted
abbrev pub invariant-loop-need : goal.invariant-loop-need
invariant-loop-need l = record {
  inversions : inversions_in l.numbered.items ++ inversions (needs_in (drop l.need-index l.needs)) ≡ inversions (needs_in l.needs);
  numbered : (before : List Needed) → AreCounts l.initial.self.sets before l.initial.counts
      → AreNeedsNumbered l.standing.chain.now l.standing.rule before (needs_in (take l.need-index l.needs)) l.initial.self l.self (numbers_of l.numbered.items);
  counted : (before : List Needed) → AreCounts l.initial.self.sets before l.initial.counts
      → AreCounts l.initial.self.sets (before ++ needs_in (take l.need-index l.needs)) l.counts;
}
