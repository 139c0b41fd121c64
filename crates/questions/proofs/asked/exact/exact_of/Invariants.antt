use Rattle.std.proofs.Common.{ℕ, ◌<◌, get_or, All}
use Rattle.fields.specs.declared.packet.hook.Hook.{Hook}
use Rattle.table.specs.chains.Table.{Table}
use Rattle.questions.specs.Scopes.{Known}
use Rattle.questions.specs.declared.walking.scope.Scope.{Scope}
use Rattle.questions.specs.declared.walking.task.Leaf.{Leaf}
use Rattle.questions.specs.steps.Exact.{IsCovered, IsExactUnder, IsShown}
use Rattle.questions.specs.steps.Transports.{AreByTransport}
use Rattle.questions.proofs.asked.exact.exact_of.Given as goal

abbrev pub invariant-loop-leaf : goal.invariant-loop-leaf
invariant-loop-leaf l =
    (t : Table) (known : Known) (hook : Hook) (scope : Scope) → AreByTransport scope.area l.possible → All (IsShown t known hook scope) l.found → record {
      each : All (IsExactUnder t known hook scope) l.exact.items;
      all : (k : ℕ) (d : Leaf) → k < l.leaf-index → IsCovered known scope l.exact.items (get_or l.found k d);
    }
