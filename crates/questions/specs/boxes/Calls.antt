-- Which rules name a chain (iptables(8), PARAMETERS, -j and -g).
use Rattle.std.specs.Prelude.{◌≡◌, ℕ, ◌==◌, ◌&&◌, Bool, List, Option, Some, All, IsTrue, position, option_and_then}
use Rattle.std.specs.List.{list_any}
use Rattle.rules.specs.declared.rule.target.Target.{Target}
use Rattle.rules.specs.rule.Actions.{target_of}
use Rattle.table.specs.chains.Table.{Chain, Table, chain_in, is_named}
use Rattle.table.specs.declared.walk.trail.Step.{Step}
use Rattle.questions.specs.Ends.{IsRule, rule_at}
use Rattle.questions.specs.declared.seeking.calls.Call.{Call}

-- the place of the chain that a target names
abbrev pub place_named : List Chain → Option Target → Option ℕ
place_named chains to = option_and_then (λ name. position (is_named name) chains) (chain_in to)

-- the call is by this rule, to the chain at this place
abbrev pub is_call : ℕ → Step → Call → Bool
is_call to by call = (call.to == to) && ((call.by.chain == by.chain) && (call.by.number == by.number))

-- if the rule is there and names the chain at a place, it is listed so
abbrev pub IsCalled : Table → List Call → Step → Type 0
IsCalled t calls by = (to : ℕ) → IsRule t by → place_named t.chains (target_of (rule_at t by)) ≡ Some to → IsTrue (list_any (is_call to by) calls)

-- the rule of a call is there, and names the chain at this place
pub record IsCall (t : Table) (call : Call) : Type 0 where
  pub there : IsRule t call.by
  pub names : place_named t.chains (target_of (rule_at t call.by)) ≡ Some call.to

-- the rules of the chain at a place are listed, too, that name a chain
pub record IsCalledIn (t : Table) (place : ℕ) (old new : List Call) : Type 0 where
  pub kept : (by : Step) → IsCalled t old by → IsCalled t new by
  pub added : (by : Step) → by.chain ≡ place → IsCalled t new by
  pub only : All (IsCall t) old → All (IsCall t) new

-- just those rules are listed that name a chain
pub record AreCalls (t : Table) (calls : List Call) : Type 0 where
  pub all : (by : Step) → IsCalled t calls by
  pub only : All (IsCall t) calls
