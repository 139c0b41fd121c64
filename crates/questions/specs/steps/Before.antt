-- Where a packet may be that hasn't come to a rule: in each chain at the first so many rules, and back from some chains. If all that it may meet there leaves it
-- there, it comes to the rule.
use Rattle.std.specs.Prelude.{◌≡◌, ◌⊎◌, ℕ, ◌+◌, ◌<◌, true, length, List, Option, Some, None, Contains, IsTrue, IsFalse, slice_index}
use Rattle.fields.specs.Packet.{PacketView as Packet}
use Rattle.rules.specs.declared.rule.target.Target.{Target}
use Rattle.rules.specs.declared.rule.target.Target.TheVariants as target
use Rattle.rules.specs.rule.Actions.{target_of}
use Rattle.rules.specs.rule.Allows.{matches}
use Rattle.rules.specs.rule.Rules.{Rule}
use Rattle.table.specs.chains.Table.{Chain, Table, chain_at}
use Rattle.table.specs.declared.verdict.Verdict.TheVariants.{TooLong}
use Rattle.table.specs.declared.walk.trail.Step.{Step}
use Rattle.table.specs.walk.Cases.{next_rule}
use Rattle.table.specs.walk.Walk.{Entry, Rest, walk}
use Rattle.questions.specs.Ends.{rule_at}
use Rattle.questions.specs.Foreign.{Agrees, Assignment, all_hold}
use Rattle.questions.specs.Scopes.{table_of}
use Rattle.questions.specs.declared.foreign.answers.Answer.{Answer}
use Rattle.questions.specs.declared.foreign.subject.Subject.{Subject}
use Rattle.questions.specs.steps.Lengths.{number_of}
use Rattle.questions.specs.steps.Takers.{needs_of}

-- A chain has two numbers. One says at how many of its rules the packet may be, from the first on; it is more than all where the packet may be at the chain's
-- end. The other isn't 0 where the packet may be back from the chain.

-- a rule that matches leaves the packet where it may be: at the next rule of its chain; or at the first of another, and at the next rule if it may be back
-- from there; or back from the chain, with `-g` if it may be back from the other (iptables(8), TARGETS and PARAMETERS, -g). It gives no verdict.
abbrev pub LeavesThere : (List ℕ → ℕ) → (List ℕ → ℕ) → ℕ → ℕ → ℕ → Option Target → Type 0
LeavesThere far back own own_back number None = number < own
LeavesThere far back own own_back number (Some target.Log) = number < own
LeavesThere far back own own_back number (Some target.Accept) = ⊥
LeavesThere far back own own_back number (Some target.Drop) = ⊥
LeavesThere far back own own_back number (Some (target.Reject kind)) = ⊥
LeavesThere far back own own_back number (Some target.Return) = 0 < own_back
LeavesThere far back own own_back number (Some (target.Jump chain)) = (0 < far chain) × (0 < back chain → number < own)
LeavesThere far back own own_back number (Some (target.Goto chain)) = (0 < far chain) × (0 < back chain → 0 < own_back)

-- from a place where it may be the packet comes to another one, unless the wanted rule matches there
pub record StaysThere (chains : List Chain) (values : List ℕ) (wanted : Rest) (far back : List ℕ → ℕ) (at : Rest) : Type 0 where
  pub ended : next_rule chains at ≡ None → 0 < back at.chain
  pub passed : (rule : Rule) → next_rule chains at ≡ Some rule → IsFalse (matches values rule) → at.passed + 1 < far at.chain
  pub matched : (rule : Rule) → next_rule chains at ≡ Some rule → IsTrue (matches values rule)
      → (at ≡ wanted) ⊎ LeavesThere far back (far at.chain) (back at.chain) (at.passed + 1) (target_of rule)

-- what is known of a rule where the packet may be, under each assignment that gives the answers
pub record IsMetThere (subject : Subject) (p : Packet) (answers : List Answer) (wanted : Step) (far back : List ℕ) (by : Step) : Type 0 where
  pub passed : (a : Assignment) → Agrees a answers → ((matches p.values (rule_at (table_of subject) by) ≡ true) × IsTrue (all_hold a (needs_of subject.needs.now by)) → ⊥)
      → by.number < slice_index far by.chain
  pub matched : (a : Assignment) → Agrees a answers → matches p.values (rule_at (table_of subject) by) ≡ true → IsTrue (all_hold a (needs_of subject.needs.now by))
      → (by ≡ wanted) ⊎ LeavesThere (number_of (table_of subject).chains far) (number_of (table_of subject).chains back)
      (slice_index far by.chain) (slice_index back by.chain) by.number (target_of (rule_at (table_of subject) by))

-- the rule at a place of the chain at a place, both from 0
abbrev pub step_at : ℕ → ℕ → Step
step_at place passed = record { chain = place; number = passed + 1 }

-- of each rule in the chain at a place where the packet may be, and of its end
pub record AreMetIn (subject : Subject) (p : Packet) (answers : List Answer) (wanted : Step) (far back : List ℕ) (place : ℕ) : Type 0 where
  pub rules : (passed : ℕ) → passed < slice_index far place → passed < length (chain_at (table_of subject) place).rules
      → IsMetThere subject p answers wanted far back (step_at place passed)
  pub end : length (chain_at (table_of subject) place).rules < slice_index far place → 0 < slice_index back place

-- of each chain
abbrev pub AreMetBefore : Subject → Packet → List Answer → Step → List ℕ → List ℕ → Type 0
AreMetBefore subject p answers wanted far back = (place : ℕ) → place < length (table_of subject).chains → AreMetIn subject p answers wanted far back place

-- the packet comes to the rule, or its walk is too long
abbrev pub IsSought : Table → Entry → Packet → Type 0
IsSought t entry p = Contains (walk t p).trail entry ⊎ ((walk t p).verdict ≡ TooLong)
