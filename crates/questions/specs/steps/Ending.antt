-- The ends of the walks that leaves show, and the chains from which a packet comes back at once.
use Rattle.std.specs.Prelude.{◌≡◌, ◌<◌, ◌↔◌, ℕ, Bool, false, List, [], length, map, slice_index_or, All, Any, IsTrue, Vec}
use Rattle.std.specs.Global.{Global}
use Rattle.rules.specs.rule.Rules.{empty_rule}
use Rattle.table.specs.chains.Table.{Table, chain_at}
use Rattle.questions.specs.Ends.{step_of}
use Rattle.questions.specs.Foreign.{AreConsistent, needs_at}
use Rattle.questions.specs.asked.Idle.{AreIdle, IsSpared}
use Rattle.questions.specs.declared.asked.ends.End.{End}
use Rattle.questions.specs.declared.foreign.need.Need.{Need}
use Rattle.questions.specs.declared.walking.task.Leaf.{Leaf}

-- the end is that of the walk which the leaf shows, and no two answers are about one condition
pub record IsEndOf (leaf : Leaf) (end : End) : Type 0 where
  pub answers : end.answers ≡ leaf.answers
  pub verdict : end.verdict ≡ leaf.verdict
  pub by : end.by ≡ step_of leaf
  pub consistent : AreConsistent end.answers

-- each leaf has its end, and there are no others
pub record AreShown (leaves : List Leaf) (ends : List End) : Type 0 where
  pub all : All (λ leaf. Any (IsEndOf leaf) ends) leaves
  pub only : All (λ end. Any (λ leaf. IsEndOf leaf end) leaves) ends

-- a mark for each chain, just if all its rules are idle for the packet
pub record AreIdleMarks (t : Table) (values : List ℕ) (marks : List Bool) : Type 0 where
  pub long : length marks ≡ length t.chains
  pub each : (place : ℕ) → place < length t.chains → IsTrue (slice_index_or marks place false) ↔ AreIdle values (chain_at t place).rules

-- what a vector of needs has
abbrev pub items_in : Vec Need Global → List Need
items_in needs = needs.items

-- what vectors have, chain by chain
abbrev pub listed : List (Vec (Vec Need Global) Global) → List (List (List Need))
listed chains = map (λ (chain : Vec (Vec Need Global) Global). map items_in chain.items) chains

-- the needs of the rules of a chain, where no idle jump asks anything
pub record AreSparedIn (t : Table) (values : List ℕ) (needs : List (List (List Need))) (place : ℕ) (others : List (List Need)) : Type 0 where
  pub long : length others ≡ length (chain_at t place).rules
  pub each : (passed : ℕ) → passed < length others
      → IsSpared t values (slice_index_or (chain_at t place).rules passed empty_rule) (needs_at needs place passed) (slice_index_or others passed [])
