use Rattle.std.proofs.Common.{◌≡◌, length}
use Rattle.questions.specs.Scopes.{table_of}
use Rattle.questions.specs.steps.Ending.{listed}
use Rattle.questions.proofs.laws.IdleLaws.{AreSparedBelow}
use Rattle.questions.proofs.walking.idle.spared.Given as goal

abbrev pub invariant-loop-place : goal.invariant-loop-place
invariant-loop-place l = record {
  long : length l.chains.items ≡ l.place;
  each : AreSparedBelow (table_of l.subject) l.packet.values l.subject.needs.now (listed l.chains.items);
}
