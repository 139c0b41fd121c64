-- How two tables differ: chains of one name aligned rule by rule, the rules that went and those that came (iptables(8), -A, -I, -D, -R).
use Rattle.std.specs.Prelude.{◌≡◌, ◌⊎◌, ◌≤◌, ℕ, zero, suc, Bool, false, IsTrue, List, [], length, ◌≢◌, ◌+◌, Some, slice_get, Contains, IsFalse}
use Rattle.table.specs.chains.Table.{chain_at, has_chain, Table, rules_of}
use Rattle.table.specs.walk.Walk.{Entry, end_verdict, walk}
use Rattle.fields.specs.Packet.{PacketView as Packet}
use Rattle.rules.specs.rule.Allows.{matches}
use Rattle.rules.specs.rule.Rules.{Rule}
use Rattle.table.specs.declared.verdict.Verdict.TheVariants.{TooLong}
use Rattle.table.specs.declared.walk.trail.Step.{Step}
use Rattle.questions.specs.Leaves.{name_at, entry_of}
use Rattle.questions.specs.Scopes.{Whole, left_under}
use Rattle.questions.specs.declared.asked.pairs.Next.{Next}
use Rattle.questions.specs.declared.asked.pairs.Pair.{Pair}
use Rattle.questions.specs.declared.asked.pairs.Places.{Places}
use Rattle.questions.specs.steps.Shared.{Adds, AreThere, HaveNext, IsNext, is_marked}
use Rattle.questions.specs.Ends.{IsRule}
use Rattle.questions.specs.Foreign.{Assignment}
use Rattle.questions.specs.asked.Verdicts.{IsAlike}
use Rattle.questions.specs.asked.Without.{goes_of, staying}
use Rattle.questions.specs.declared.asked.changes.Changes.{Changes}

-- ---- How chains of one name in two tables are aligned, rule by rule (iptables(8), -A, -I, -D, -R).

-- how many rules of each chain were passed: each has a mark
abbrev pub passed_by : Pair → Places
passed_by pair = record { old = length pair.went.items; new = length pair.came.items }

-- the marks after so many steps, each of which passes what stands next
abbrev pub AreMarks : Whole → Whole → Places → ℕ → Pair → Type 0
AreMarks old new chains zero pair = (pair.went.items ≡ []) × (pair.came.items ≡ [])
AreMarks old new chains (suc n) pair =
    (before : Pair) × (what : Next) × AreMarks old new chains n before × HaveNext old.table new.table chains (passed_by before)
    × IsNext old new chains (passed_by before) what × Adds what before pair

-- the marks when all rules of one of the chains are passed; what is left of the other one has none
pub record IsAligned (old new : Whole) (chains : Places) (pair : Pair) : Type 0 where
  pub steps : ℕ
  pub marks : AreMarks old new chains steps pair
  pub ended : (length (chain_at old.table chains.old).rules ≤ length pair.went.items)
      ⊎ (length (chain_at new.table chains.new).rules ≤ length pair.came.items)

-- the pair is of two chains of one name, aligned
pub record IsPairOf (old new : Whole) (pair : Pair) : Type 0 where
  pub chains : Places
  pub there : AreThere old.table new.table chains
  pub named : name_at new.table.chains chains.new ≡ name_at old.table.chains chains.old
  pub place : pair.place ≡ chains.old
  pub aligned : IsAligned old new chains pair

-- whether the rule of a number in the chain of a name is one of these
abbrev pub is_this : (Entry → Bool) → List ℕ → ℕ → Bool
is_this these name number = these (record { chain = name; number = number })

-- of two chains just the rules are taken that have a mark, or stand beyond the marks
pub record IsTakenBy (pair : Pair) (name : List ℕ) (went came : Entry → Bool) : Type 0 where
  pub first : (number : ℕ) → is_this went name number ≡ is_marked pair.went.items number
  pub second : (number : ℕ) → is_this came name number ≡ is_marked pair.came.items number

-- the rules that aren't paired: those that are marked when the chains of one name are aligned, and all rules of a chain that one table has alone
pub record AreUnpaired (old new : Whole) (went came : Entry → Bool) : Type 0 where
  pub both : (chains : Places) → AreThere old.table new.table chains → name_at new.table.chains chains.new ≡ name_at old.table.chains chains.old
      → (pair : Pair) × IsAligned old new chains pair × IsTakenBy pair (name_at old.table.chains chains.old) went came
  pub alone : (name : List ℕ) → has_chain new.table name ≡ false → (number : ℕ) → IsTrue (is_this went name number)
  pub added : (name : List ℕ) → has_chain old.table name ≡ false → (number : ℕ) → IsTrue (is_this came name number)

-- ---- Two tables that differ by some rules: those that went from the first one, and those that came in the second one (iptables(8), -A,
-- -I, -D, -R).

-- for each chain name the first table's rules without those that went are the second table's rules without those that came
abbrev pub ShareOthers : Table → (Entry → Bool) → Table → (Entry → Bool) → Type 0
ShareOthers old went new came =
    (name : List ℕ) → staying (goes_of went name) 0 (rules_of old.chains name) ≡ staying (goes_of came name) 0 (rules_of new.chains name)

-- a rule of the table, and one of these
abbrev pub IsThis : Table → (Entry → Bool) → Step → Type 0
IsThis t these step = IsRule t step × IsTrue (these (entry_of t.chains step))

-- just these rules of the table, by their places
pub record AreThese (t : Table) (these : Entry → Bool) (steps : List Step) : Type 0 where
  pub all : (step : Step) → IsThis t these step → Contains steps step
  pub only : (step : Step) → Contains steps step → IsThis t these step

-- the rules that went and those that came: without them the tables are the same, chain by chain
pub record AreChanges (old new : Table) (changes : Changes) : Type 0 where
  pub went : Entry → Bool
  pub came : Entry → Bool
  pub shared : ShareOthers old went new came
  pub first : AreThese old went changes.went.items
  pub second : AreThese new came changes.came.items

-- the rules that aren't paired where chains are aligned; whatever holds, without them what is left of the tables is the same, chain by chain
pub record AreChanged (old new : Whole) (went came : Entry → Bool) : Type 0 where
  pub shared : (a : Assignment) → ShareOthers (left_under old a) went (left_under new a) came
  pub unpaired : AreUnpaired old new went came

-- just these rules, by their places
pub record AreChangesUnder (old new : Whole) (changes : Changes) : Type 0 where
  pub went : Entry → Bool
  pub came : Entry → Bool
  pub changed : AreChanged old new went came
  pub first : AreThese old.table went changes.went.items
  pub second : AreThese new.table came changes.came.items

-- the packet matches none of these rules of the table
abbrev pub MatchesNone : Table → (Entry → Bool) → Packet → Type 0
MatchesNone t these p =
    (name : List ℕ) (place : ℕ) (rule : Rule) → slice_get (rules_of t.chains name) place ≡ Some rule
    → IsTrue (these (record { chain = name; number = place + 1 })) → IsFalse (matches p.values rule)

-- none of these rules of the table is on the packet's walk, which isn't too long
pub record AreOff (t : Table) (these : Entry → Bool) (p : Packet) : Type 0 where
  pub off : (entry : Entry) → IsTrue (these entry) → Contains (walk t p).trail entry → ⊥
  pub short : (walk t p).verdict ≢ TooLong

-- the packet matches none of them, or none is on its walk
abbrev pub IsUntouched : Table → (Entry → Bool) → Packet → Type 0
IsUntouched t these p = MatchesNone t these p ⊎ AreOff t these p

-- a packet that no rule that went or came touches gets the same verdict from both tables, if its hook has one policy in both
abbrev pub ChangesOffTheWalk : Type 0
ChangesOffTheWalk =
    (old new : Table) (went came : Entry → Bool) (p : Packet) → ShareOthers old went new came → end_verdict old p ≡ end_verdict new p
    → IsUntouched old went p → IsUntouched new came p → IsAlike old new p

-- a packet that matches no rule that went or came gets the same verdict from both tables, if its hook has one policy in both
abbrev pub ChangesElsewhere : Type 0
ChangesElsewhere =
    (old new : Table) (went came : Entry → Bool) (p : Packet) → ShareOthers old went new came → end_verdict old p ≡ end_verdict new p
    → MatchesNone old went p → MatchesNone new came p → IsAlike old new p
