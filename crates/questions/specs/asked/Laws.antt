-- What the answers come to, and what is left of a table once it is known which conditions hold, whatever the code does.
use Rattle.std.specs.Prelude.{◌≡◌, ℕ, ◌<◌, Bool, List, [], length, slice_index_or, IsFalse, ◌≢◌, Ok}
use Rattle.rules.specs.rule.Allows.{matches}
use Rattle.rules.specs.rule.Rules.{Rule}
use Rattle.table.specs.chains.Sound.{IsSound}
use Rattle.table.specs.chains.Table.{Chain, Table, chain_at}
use Rattle.fields.specs.Packet.{PacketView as Packet, packet_of}
use Rattle.table.specs.declared.verdict.Verdict.TheVariants.{TooLong}
use Rattle.table.specs.edits.Headline.{steps}
use Rattle.table.specs.walk.Walk.{Entry, walk}
use Rattle.questions.specs.Foreign.{Agrees, AreConsistent, AreWithoutNeeds, Assignment, IsUnanswered, never, resolved, resolved_rule}
use Rattle.questions.specs.declared.foreign.need.Need.{Need}
use Rattle.questions.specs.declared.foreign.answers.Answer.{Answer}
use Rattle.questions.specs.asked.Rule.{IsDead, IsLive}
use Rattle.questions.specs.asked.Verdicts.{IsAlike, IsOther, IsSame}
use Rattle.questions.specs.asked.Without.{AreDead, deletions, needs_without, renumbered, without}
use Rattle.questions.specs.boxes.Boxes.{IsAtHook}

-- ---- What is left of a table once it is known which conditions hold, and which answers can be given, whatever the code does.

-- what is left of a table is a table like any other
abbrev pub ResolvedIsSound : Type 0
ResolvedIsSound = (needs : List (List (List Need))) (a : Assignment) (t : Table) → IsSound t → IsSound (resolved needs a t)

-- a chain has its name and as many rules, each at its place: itself where all holds that it needs, and else the one that matches no packet
pub record KeepsPlaces (a : Assignment) (needs : List (List Need)) (before after : Chain) : Type 0 where
  pub name : after.name ≡ before.name
  pub count : length after.rules ≡ length before.rules
  pub rules : (k : ℕ) (other : Rule) → k < length before.rules
      → slice_index_or after.rules k other ≡ resolved_rule a (slice_index_or needs k []) (slice_index_or before.rules k other)

-- so does each chain
abbrev pub ChainsKeepPlaces : Type 0
ChainsKeepPlaces =
    (needs : List (List (List Need))) (a : Assignment) (t : Table) (place : ℕ) → place < length t.chains
    → KeepsPlaces a (slice_index_or needs place []) (chain_at t place) (chain_at (resolved needs a t) place)

-- the rule that stands for one whose needs don't all hold matches no packet
abbrev pub NeverMatches : Type 0
NeverMatches = (numbers : List ℕ) → IsFalse (matches numbers never)

-- where no rule needs anything, the table is left as it is
abbrev pub NoNeedsChangeNothing : Type 0
NoNeedsChangeNothing = (needs : List (List (List Need))) (a : Assignment) (t : Table) → AreWithoutNeeds needs → resolved needs a t ≡ t

-- some assignment gives answers of which no two are about one condition
abbrev pub AnswersCanBeGiven : Type 0
AnswersCanBeGiven = (answers : List Answer) → AreConsistent answers → (a : Assignment) × Agrees a answers

-- and a condition that has no answer may hold, and may not
abbrev pub EitherCanBeGiven : Type 0
EitherCanBeGiven =
    (answers : List Answer) (condition : ℕ) (holds : Bool) → AreConsistent answers → IsUnanswered answers condition
    → (a : Assignment) × Agrees a answers × (a condition ≡ holds)

-- ---- What the answers come to, whatever the code does.

-- a packet line writes only packets that can be at their hook
abbrev pub LinesWritePacketsAtHooks : Type 0
LinesWritePacketsAtHooks = (words : List (List ℕ)) (p : Packet) → packet_of words ≡ Ok p → IsAtHook p

-- no rule is both dead and live
abbrev pub DeadIsNotLive : Type 0
DeadIsNotLive = (t : Table) (entry : Entry) (words : List (List ℕ)) → IsDead t entry → IsLive t entry words → ⊥

-- no two tables both are the same and differ
abbrev pub SameIsNotOther : Type 0
SameIsNotOther = (old new : Table) (words : List (List ℕ)) → IsSame old new → IsOther old new words → ⊥

-- without rules that are dead a table gives each packet the verdict that it gave, except where the walk was too long
abbrev pub DeadRulesCanGo : Type 0
DeadRulesCanGo =
    (t : Table) (goes : Entry → Bool) → AreDead t goes → (p : Packet) → IsAtHook p → (walk t p).verdict ≢ TooLong → IsAlike t (without goes t) p

-- so does a table whose rules need something, where some conditions hold and the rules that go are dead then; what a rule needs that stays is listed for
-- the place that it has then
abbrev pub DeadRulesCanGoUnder : Type 0
DeadRulesCanGoUnder =
    (needs : List (List (List Need))) (a : Assignment) (t : Table) (goes : Entry → Bool) → AreDead (resolved needs a t) goes
    → (p : Packet) → IsAtHook p → (walk (resolved needs a t) p).verdict ≢ TooLong
    → IsAlike (resolved needs a t) (resolved (needs_without goes t.chains needs) a (without goes t)) p

-- so it does where conditions have other numbers afterwards, as in a dump that is read anew without these rules; `number` says what each had before
abbrev pub DeadRulesCanGoRenumbered : Type 0
DeadRulesCanGoRenumbered =
    (needs after : List (List (List Need))) (number : ℕ → ℕ) (a : Assignment) (t : Table) (goes : Entry → Bool) → AreDead (resolved needs a t) goes
    → renumbered number after ≡ needs_without goes t.chains needs → (p : Packet) → IsAtHook p → (walk (resolved needs a t) p).verdict ≢ TooLong
    → IsAlike (resolved needs a t) (resolved after (λ condition. a (number condition)) (without goes t)) p

-- the commands `-D chain number` for some rules are all accepted, and leave the table without these rules (iptables(8), COMMANDS, -D)
abbrev pub DeletionsLeaveTheRest : Type 0
DeletionsLeaveTheRest = (t : Table) (goes : Entry → Bool) → IsSound t → steps (deletions goes t.chains) t ≡ Ok (without goes t)
