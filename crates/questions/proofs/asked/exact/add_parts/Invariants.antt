use Rattle.std.proofs.Common.{All}
use Rattle.fields.specs.declared.packet.hook.Hook.{Hook}
use Rattle.fields.specs.Packet.{PacketView as Packet}
use Rattle.table.specs.chains.Table.{Table}
use Rattle.questions.specs.Scopes.{Known}
use Rattle.questions.specs.declared.walking.scope.Scope.{Scope}
use Rattle.questions.specs.steps.Exact.{IsExactUnder, IsInAny, IsShown}
use Rattle.questions.specs.steps.Transports.{AreByTransport}
use Rattle.questions.proofs.laws.ExactLaws.{AreSharedBelow}
use Rattle.questions.proofs.asked.exact.add_parts.Given as goal

abbrev pub invariant-loop-area : goal.invariant-loop-area
invariant-loop-area l = record {
  each : (t : Table) (known : Known) (hook : Hook) (scope : Scope) → AreByTransport scope.area l.possible → IsShown t known hook scope l.leaf → All (IsExactUnder t known hook scope) l.initial.exact.items
      → All (IsExactUnder t known hook scope) l.exact.items;
  kept : (known : Known) (p : Packet) → IsInAny known p l.initial.exact.items → IsInAny known p l.exact.items;
  shared : (known : Known) (scope : Scope) → AreByTransport scope.area l.possible → AreSharedBelow known scope l.leaf l.exact.items l.area-index;
}
