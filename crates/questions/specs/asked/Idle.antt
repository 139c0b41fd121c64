-- How the walk of one packet ends, and the jumps that make no difference to that.
use Rattle.std.specs.Prelude.{◌≡◌, ◌⊎◌, ◌<◌, ℕ, List, [], length, slice_index_or, Option, None, Some, All, Any, IsFalse, IsTrue}
use Rattle.fields.specs.Packet.{PacketView as Packet}
use Rattle.rules.specs.rule.Actions.{target_of}
use Rattle.rules.specs.rule.Allows.{matches}
use Rattle.rules.specs.rule.Rules.{Rule, empty_rule}
use Rattle.rules.specs.declared.rule.target.Target.{Target}
use Rattle.rules.specs.declared.rule.target.Target.TheVariants as target
use Rattle.table.specs.chains.Table.{Table, chain_at, rules_of}
use Rattle.questions.specs.Ends.{EndsBy}
use Rattle.questions.specs.Foreign.{Agrees, AreConsistent, Assignment, IsNeeded, all_hold, needs_at}
use Rattle.questions.specs.Scopes.{answered, table_of}
use Rattle.questions.specs.asked.Unclear.{IsUnended}
use Rattle.questions.specs.declared.asked.ends.End.{End}
use Rattle.questions.specs.declared.foreign.answers.Answer.{Answer}
use Rattle.questions.specs.declared.foreign.need.Need.{Need}
use Rattle.questions.specs.declared.foreign.subject.Subject.{Subject}
use Rattle.questions.specs.steps.Lengths.{IsBounded}

-- the packet's walk ends so under the assignment
abbrev pub HasEnd : Subject → Packet → Assignment → End → Type 0
HasEnd subject p a end = EndsBy (answered subject a) p end.verdict end.by

-- Under each assignment that gives the answers some end, whose answers it gives, too, is that of the packet's walk. Each end is that under each
-- assignment that gives its answers, which gives these, too; and no two answers of it are about one condition.
pub record AreEnds (subject : Subject) (p : Packet) (answers : List Answer) (ends : List End) : Type 0 where
  pub complete : (a : Assignment) → Agrees a answers → Any (λ (end : End). Agrees a end.answers × HasEnd subject p a end) ends
  pub exact : (a : Assignment) → All (λ (end : End). Agrees a end.answers → Agrees a answers × HasEnd subject p a end) ends
  pub given : All (λ (end : End). AreConsistent end.answers) ends

-- the target leaves a packet in its chain, or sends it back to where the chain was entered (iptables(8), TARGETS)
abbrev pub ComesBack : Option Target → Type 0
ComesBack None = Unit {0}
ComesBack (Some target.Log) = Unit {0}
ComesBack (Some target.Return) = Unit {0}
ComesBack (Some target.Accept) = ⊥
ComesBack (Some target.Drop) = ⊥
ComesBack (Some (target.Reject kind)) = ⊥
ComesBack (Some (target.Jump name)) = ⊥
ComesBack (Some (target.Goto name)) = ⊥

-- the rule does that, if it matches the packet
abbrev pub IsIdle : List ℕ → Rule → Type 0
IsIdle values rule = IsTrue (matches values rule) → ComesBack (target_of rule)

-- each of some rules does
abbrev pub AreIdle : List ℕ → List Rule → Type 0
AreIdle values rules = All (IsIdle values) rules

-- the rule jumps to a chain from which the packet comes back at once, whatever holds: it makes no difference to the end of the walk
abbrev pub IsIdleJump : Table → List ℕ → Rule → Type 0
IsIdleJump t values rule = (name : List ℕ) × (target_of rule ≡ Some (target.Jump name)) × AreIdle values (rules_of t.chains name)

-- some of the needs asks for a condition
abbrev pub AsksFor : ℕ → List Need → Type 0
AsksFor condition needs = Any (λ (need : Need). need.condition ≡ condition) needs

-- what a rule needs is as it was; but of a jump that is idle and needs something it is never met. No other condition is asked.
abbrev pub IsSpared : Table → List ℕ → Rule → List Need → List Need → Type 0
IsSpared t values rule needs others =
    ((others ≡ needs) × (IsIdleJump t values rule → needs ≡ []))
    ⊎ (IsIdleJump t values rule × ((a : Assignment) → IsFalse (all_hold a others)) × ((condition : ℕ) → AsksFor condition others → AsksFor condition needs))

-- that is so of each rule of a table
abbrev pub AreSpared : Table → List ℕ → List (List (List Need)) → List (List (List Need)) → Type 0
AreSpared t values needs others =
    (place passed : ℕ) → place < length t.chains → passed < length (chain_at t place).rules
    → IsSpared t values (slice_index_or (chain_at t place).rules passed empty_rule) (needs_at needs place passed) (needs_at others place passed)

-- no numbers for the chains rule out walks that are too long; or the walks of the packet, where no idle jump asks anything, aren't known to end within
-- the budget
abbrev pub MayNotEnd : Subject → ℕ → List Answer → Packet → Type 0
MayNotEnd subject budget answers p =
    (IsBounded (table_of subject) p.hook → ⊥)
    ⊎ ((others : List (List (List Need))) × AreSpared (table_of subject) p.values subject.needs.now others
    × ((condition : ℕ) → IsNeeded others condition → IsNeeded subject.needs.now condition)
    × IsUnended (record { table = table_of subject; needs = others }) p.hook budget answers p)
