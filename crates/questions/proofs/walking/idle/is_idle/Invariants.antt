use Rattle.std.proofs.Common.{ℕ, ◌<◌, get_or}
use Rattle.rules.specs.rule.Rules.{Rule}
use Rattle.table.specs.chains.Table.{chain_at}
use Rattle.questions.specs.Scopes.{table_of}
use Rattle.questions.specs.asked.Idle.{IsIdle}
use Rattle.questions.proofs.walking.idle.is_idle.Given as goal

abbrev pub invariant-loop-passed : goal.invariant-loop-passed
invariant-loop-passed l = (k : ℕ) (d : Rule) → k < l.passed → IsIdle l.packet.values (get_or (chain_at (table_of l.subject) l.fn.place).rules k d)
