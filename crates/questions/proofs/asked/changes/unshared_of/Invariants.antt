use Rattle.questions.specs.asked.Changes.{IsThis}
use Rattle.questions.specs.steps.Shared.{unshared}
use Rattle.questions.proofs.laws.BoxesLaws.{AreAll, AreBefore}
use Rattle.questions.proofs.asked.changes.unshared_of.Given as goal

abbrev pub invariant-loop-place : goal.invariant-loop-place
invariant-loop-place l =
    let these = unshared l.fn.side l.old.table.chains l.pairs in
    record {
      before : AreBefore (IsThis l.table.table these) l.place l.found.items;
      only : AreAll (IsThis l.table.table these) l.found.items;
    }
