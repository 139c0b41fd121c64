-- Verdicts of targets' own (iptables-extensions(8), NFQUEUE), beside those that the program reads, and how they are read in its place.
use Rattle.std.specs.Prelude.{◌≡◌, ◌≢◌, ℕ, zero, suc, ◌-◌, Bool, true, false, List, [], ◌∷◌, Contains, Option, None, Some, if◌then◌else◌}
use Rattle.rules.specs.rule.Rules.{Rule}
use Rattle.rules.specs.declared.rule.action.Action.TheVariants as action
use Rattle.fields.specs.Packet.{PacketView as Packet}
use Rattle.table.specs.chains.Table.{Chain, Table, is_named, rules_of}
use Rattle.table.specs.declared.verdict.Verdict.{Verdict}
use Rattle.table.specs.declared.verdict.Verdict.TheVariants as verdict
use Rattle.table.specs.walk.Walk.{Entry, Walked, walk}

-- how such verdicts are read: whether a packet is accepted, by the words of the target
abbrev pub Reading : Type 0
Reading = List ℕ → Bool

-- the rule as it is read: with a verdict of its own it accepts or drops
abbrev pub read_rule : Reading → Option (List ℕ) → Rule → Rule
read_rule r None rule = rule
read_rule r (Some words) rule = record {
  option_values = rule.option_values;
  matches = rule.matches;
  action = Some (if r words then action.Accept else action.Drop);
  target_options = [];
}

-- the rules of a chain, each by the words of its verdict, if that is its own; one for which nothing is listed has none
abbrev pub read_rules : Reading → List (Option (List ℕ)) → List Rule → List Rule
read_rules r owned [] = []
read_rules r [] (rule ∷ rules) = rule ∷ rules
read_rules r (own ∷ owned) (rule ∷ rules) = read_rule r own rule ∷ read_rules r owned rules

-- the chains, each by those of its rules
abbrev pub read_chains : Reading → List (List (Option (List ℕ))) → List Chain → List Chain
read_chains r owned [] = []
read_chains r [] (chain ∷ chains) = chain ∷ chains
read_chains r (own ∷ owned) (chain ∷ chains) =
    record { name = chain.name; rules = read_rules r own chain.rules } ∷ read_chains r owned chains

-- the table
abbrev pub read_as : Reading → List (List (Option (List ℕ))) → Table → Table
read_as r owned t = record { policies = t.policies; chains = read_chains r owned t.chains }

-- the words of the rule at a place of a chain, if its verdict is its own
abbrev pub own_in : List (Option (List ℕ)) → List Rule → ℕ → Option (List ℕ)
own_in [] rules place = None
own_in (own ∷ owned) [] place = None
own_in (own ∷ owned) (rule ∷ rules) zero = own
own_in (own ∷ owned) (rule ∷ rules) (suc place) = own_in owned rules place

-- what is listed for the rules of the chain of a name
abbrev pub owned_of : List (List (Option (List ℕ))) → List Chain → List ℕ → List (Option (List ℕ))
owned_of [] chains name = []
owned_of (own ∷ owned) [] name = []
owned_of (own ∷ owned) (chain ∷ chains) name = if is_named name chain then own else owned_of owned chains name

-- the words of the rule of an entry of a trail
abbrev pub own_at : List (List (Option (List ℕ))) → List Chain → Entry → Option (List ℕ)
own_at owned chains entry = own_in (owned_of owned chains entry.chain) (rules_of chains entry.chain) (entry.number - 1)

-- what becomes of a packet
pub data Given : Type 0 where
  Read : Verdict → Given
  Own : List ℕ → Given

-- the last entry of a trail
abbrev pub last_of : List Entry → Option Entry
last_of [] = None
last_of (entry ∷ []) = Some entry
last_of (entry ∷ (next ∷ entries)) = last_of (next ∷ entries)

-- the verdict, or these words, if there are some
abbrev pub given_as : Verdict → Option (List ℕ) → Given
given_as v None = Read v
given_as v (Some words) = Own words

-- what the rule of an entry gives, if one decides
abbrev pub given_at : List (List (Option (List ℕ))) → List Chain → Verdict → Option Entry → Given
given_at owned chains v None = Read v
given_at owned chains v (Some entry) = given_as v (own_at owned chains entry)

-- what a walk gives: the words of the rule that decides, if its verdict is its own
abbrev pub given_by : List (List (Option (List ℕ))) → List Chain → Walked → Given
given_by owned chains walked = if walked.by_policy then Read walked.verdict else given_at owned chains walked.verdict (last_of walked.trail)

-- what becomes of a packet: where rules with verdicts of their own end its walk, here as DROP does
abbrev pub given : List (List (Option (List ℕ))) → Table → Packet → Given
given owned t p = given_by owned t.chains (walk (read_as (λ _. false) owned t) p)

-- what is read of it
abbrev pub as_read : Reading → Given → Verdict
as_read r (Read v) = v
as_read r (Own words) = if r words then verdict.Accept else verdict.Drop

-- in each reading a packet gets what is read of what becomes of it
abbrev pub ReadingsAreFaithful : Type 0
ReadingsAreFaithful =
    (r : Reading) (owned : List (List (Option (List ℕ)))) (t : Table) (p : Packet)
    → (walk (read_as r owned t) p).verdict ≡ as_read r (given owned t p)

-- some readings tell words apart: one accepts by each of them, and of two that differ one accepts by one and drops by the other
pub record AreTelling (words : List (List ℕ)) (rs : List Reading) : Type 0 where
  pub accepted : (w : List ℕ) → Contains words w → (r : Reading) × Contains rs r × (r w ≡ true)
  pub apart : (w v : List ℕ) → Contains words w → Contains words v → w ≢ v → (r : Reading) × Contains rs r × (r w ≢ r v)

-- if it is a target's own verdict, its words are among these
abbrev pub IsAmong : List (List ℕ) → Given → Type 0
IsAmong words (Read v) = Unit {0}
IsAmong words (Own w) = Contains words w

-- the packet gets the same verdict from both tables, in a reading
abbrev pub IsSameIn : List (List (Option (List ℕ))) → List (List (Option (List ℕ))) → Table → Table → Packet → Reading → Type 0
IsSameIn a b s t p r = (walk (read_as r a s) p).verdict ≡ (walk (read_as r b t) p).verdict

-- so the same becomes of a packet in two tables where it gets the same verdict from both where all such verdicts drop, and in readings that tell
-- their words apart
abbrev pub ReadingsTell : Type 0
ReadingsTell =
    (words : List (List ℕ)) (rs : List Reading) (a b : List (List (Option (List ℕ)))) (s t : Table) (p : Packet) → AreTelling words rs
    → IsAmong words (given a s p) → IsAmong words (given b t p) → IsSameIn a b s t p (λ _. false) → ((r : Reading) → Contains rs r → IsSameIn a b s t p r)
    → given a s p ≡ given b t p
