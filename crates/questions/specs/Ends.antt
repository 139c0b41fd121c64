-- Which rule decides the walk of a packet.
use Rattle.std.specs.Prelude.{◌≡◌, ◌-◌, ◌<◌, ◌≤◌, length, slice_get, slice_index_or, Option, None, Some, option_map, if◌then◌else◌}
use Rattle.fields.specs.Packet.{PacketView as Packet}
use Rattle.rules.specs.declared.rule.target.Target.{Target}
use Rattle.rules.specs.declared.rule.target.Target.TheVariants as target
use Rattle.rules.specs.rule.Rules.{Rule, empty_rule}
use Rattle.table.specs.chains.Table.{Table, chain_at}
use Rattle.table.specs.declared.verdict.Verdict.{Verdict}
use Rattle.table.specs.declared.verdict.Verdict.TheVariants as verdict
use Rattle.table.specs.declared.walk.trail.Step.{Step}
use Rattle.table.specs.walk.Walk.{Entry, Walked, walk}
use Rattle.questions.specs.Leaves.{entry_of}
use Rattle.questions.specs.declared.walking.task.Leaf.{Leaf}

-- the verdict that a target gives, if it gives one (iptables(8), TARGETS)
abbrev pub verdict_given : Option Target → Option Verdict
verdict_given None = None
verdict_given (Some target.Accept) = Some verdict.Accept
verdict_given (Some target.Drop) = Some verdict.Drop
verdict_given (Some (target.Reject kind)) = Some (verdict.Reject kind)
verdict_given (Some target.Return) = None
verdict_given (Some target.Log) = None
verdict_given (Some (target.Jump chain)) = None
verdict_given (Some (target.Goto chain)) = None

-- the rule that decides a walk: the last one that matches; none where the policy decides, or where too many rules match
abbrev pub decider_of : Walked → Option Entry
decider_of walked = if walked.by_policy then None else slice_get walked.trail (length walked.trail - 1)

-- the rule that decides the walk that a leaf shows
abbrev pub step_of : Leaf → Option Step
step_of leaf = if leaf.by_policy then None else slice_get leaf.trail.items (length leaf.trail.items - 1)

-- the table has this rule
pub record IsRule (t : Table) (step : Step) : Type 0 where
  pub chain : step.chain < length t.chains
  pub first : 0 < step.number
  pub last : step.number ≤ length (chain_at t step.chain).rules

-- the rule at a step of a trail
abbrev pub rule_at : Table → Step → Rule
rule_at t step = slice_index_or (chain_at t step.chain).rules (step.number - 1) empty_rule

-- the packet's walk ends with the verdict, decided by the rule or, where none is named, by the policy (or it is too long)
pub record EndsBy (t : Table) (p : Packet) (verdict : Verdict) (by : Option Step) : Type 0 where
  pub gives : (walk t p).verdict ≡ verdict
  pub decides : decider_of (walk t p) ≡ option_map (entry_of t.chains) by
