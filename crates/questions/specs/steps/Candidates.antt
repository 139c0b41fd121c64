-- The rules of a table in the order of a listing, and those that may match packets of a box.
use Rattle.std.specs.Prelude.{◌≡◌, ◌⊎◌, ℕ, List, Contains, ◌+◌, ◌<◌, ◌≤◌, [], length, map, slice_index, slice_index_or}
use Rattle.table.specs.declared.walk.trail.Step.{Step}
use Rattle.fields.specs.numbers.Spans.{SpanSet}
use Rattle.rules.specs.rule.Rules.{Rule, empty_rule}
use Rattle.table.specs.chains.Table.{Table, chain_at}
use Rattle.classify.specs.Classifier.{IsPoint}
use Rattle.questions.specs.boxes.Boxes.{Has}
use Rattle.questions.specs.boxes.Cut.{IsApart}
use Rattle.questions.specs.declared.boxes.candidates.Candidates.{Candidates}

-- ---- Rules that are collected chain by chain, in the order of a listing.

-- to some rules just those of the chain at a place are added of which this holds
pub record AddsRules (Holds : Step → Type 0) (place : ℕ) (old new : List Step) : Type 0 where
  pub kept : (by : Step) → Contains old by → Contains new by
  pub added : (by : Step) → by.chain ≡ place → Holds by → Contains new by
  pub only : (by : Step) → Contains new by → Contains old by ⊎ ((by.chain ≡ place) × Holds by)

-- ---- The rules of a table that may match packets of a box.

-- of the rules of a chain none matches a packet of the box from the rule at a place up to the one that the list names for it; the list begins with
-- the last rule
abbrev pub AreNexts : List Rule → List SpanSet → List ℕ → Type 0
AreNexts rules box nexts =
    (back k : ℕ) → back < length nexts → length nexts ≤ k + 1 + back → k < slice_index nexts back → IsApart (slice_index_or rules k empty_rule) box

-- the list of the chain at a place
abbrev pub nexts_at : Candidates → ℕ → List ℕ
nexts_at candidates place = slice_index_or (map (λ nexts. nexts.items) candidates.chains.items) place []

-- no rule of the table that the lists pass over matches a packet of the box
abbrev pub AreCandidates : Table → List SpanSet → Candidates → Type 0
AreCandidates t box candidates = (place : ℕ) → AreNexts (chain_at t place).rules box (nexts_at candidates place)

-- the candidates' box has all packets of a box, and the rules that aren't candidates match none of them
pub record AreFor (t : Table) (box : List SpanSet) (candidates : Candidates) : Type 0 where
  pub within : (numbers : List ℕ) → IsPoint numbers → Has box numbers → Has candidates.start numbers
  pub others : AreCandidates t box candidates

-- what they were for, they still are for
abbrev pub AreKept : Table → Candidates → Candidates → Type 0
AreKept t old new = (box : List SpanSet) → AreFor t box old → AreFor t box new
