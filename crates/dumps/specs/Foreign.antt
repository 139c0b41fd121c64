-- What the rules of a dump need beyond what the program reads.
use Rattle.std.specs.Prelude.{ℕ, Bool, false, not, ◌&&◌, ◌||◌, codes, nat_lt, List, [], ◌∷◌, ◌++◌, length, map, filter, flat_map, if◌then◌else◌, Option, Some, None, is_some, option_map}
use Rattle.std.specs.Borrow.{Bor}
use Rattle.std.specs.Global.{Vec}
use Rattle.std.specs.List.{list_all, list_any}
use Rattle.std.specs.Str.{bytes_eq}
use Rattle.dumps.specs.Options.{Extension, Known, Table, is_role, is_deciding, is_ending, known_of}
use Rattle.dumps.specs.Parts.{Part, target_of, value_of}
use Rattle.dumps.specs.Conditions.{Condition, named_thing}
use Rattle.dumps.specs.Own.{given_words, is_of, line_of}
use Rattle.dumps.specs.declared.options.row.Lasting.{Lasting}
use Rattle.dumps.specs.declared.options.row.Role.TheVariants as role
use Rattle.dumps.specs.declared.reading.foreign.NeededText.{NeededText}
use Rattle.dumps.specs.declared.reading.foreign.ForeignRule.{ForeignRule}
use Rattle.dumps.specs.declared.reading.foreign.Foreign.{Foreign}

-- a condition by its text, what it asks, of which uses it is one, and whether the rule needs that it doesn't hold
pub record Needed : Type 0 where
  pub name : List ℕ
  pub asks : List ℕ
  pub text : List ℕ
  pub lasting : Lasting
  pub inverted : Bool

-- the text has the name and then the words, as a line has them
abbrev pub needed : Condition → Needed
needed condition =
    record {
      name = condition.name;
      asks = condition.asks;
      text = condition.name ++ line_of condition.words;
      lasting = condition.lasting;
      inverted = condition.inverted;
    }

-- the words for a need, if its condition is known: those that ask the condition, or its opposite
abbrev pub words_by : Bool → Option Known → List (List ℕ)
words_by inverted None = []
words_by inverted (Some known) = if inverted then known.fails else known.holds

-- the same, by the conditions that are known
abbrev pub words_for : List Known → Needed → List (List ℕ)
words_for known need = words_by need.inverted (known_of known need.text)

-- the words for all needs of which the conditions are known
abbrev pub known_words : List Known → List Needed → List (List ℕ)
known_words known needs = flat_map (words_for known) needs

-- the condition of a need isn't known
abbrev pub is_unknown : List Known → Needed → Bool
is_unknown known need = not (is_some (known_of known need.text))

-- the needs of which the conditions aren't known
abbrev pub unknown_needs : List Known → List Needed → List Needed
unknown_needs known needs = filter (is_unknown known) needs

-- a rule by its chain, what it needs, what its target sets, whether it ends the walk of each packet, and the verdict of its own that its target gives
pub record ReadRule : Type 0 where
  pub chain : List ℕ
  pub needs : List Needed
  pub sets : List (List ℕ)
  pub ends : Bool
  pub verdict : Option (List ℕ)

-- the rule is in a chain
abbrev pub is_in : List ℕ → ReadRule → Bool
is_in chain rule = bytes_eq rule.chain chain

-- the rule needs something, or its verdict is its own: the program doesn't read all of it
abbrev pub needs_some : ReadRule → Bool
needs_some rule = nat_lt 0 (length rule.needs) || is_some rule.verdict

-- of each need whether the rule needs that the condition doesn't hold
abbrev pub inversions : List Needed → List Bool
inversions needs = map (λ (need : Needed). need.inverted) needs

-- the same of each rule of a chain
abbrev pub inversions_of : List ℕ → List ReadRule → List (List Bool)
inversions_of chain rules = map (λ (rule : ReadRule). inversions rule.needs) (filter (is_in chain) rules)

-- the matches that ask what a target sets, if there is one
abbrev pub sets_of : Option Extension → List (List ℕ)
sets_of None = []
sets_of (Some row) = row.sets

-- the things that the parts of a line name which its target sets
abbrev pub set_things : List Part → List (List ℕ)
set_things [] = []
set_things (part ∷ parts) = if is_role role.Sets part.row.role then named_thing (value_of part) ∷ set_things parts else set_things parts

-- what the target of a line sets: what some matches ask, and things by their names
abbrev pub set_by : Table → List Part → List (List ℕ)
set_by table parts = sets_of (target_of table parts) ++ set_things parts

-- the part names a target, or is an option of this one
abbrev pub is_of_target : List ℕ → Part → Bool
is_of_target name part = is_role role.Target part.row.role || is_of name part

-- the parts of a line are those of its target, which gives each packet a verdict (iptables(8), TARGETS)
abbrev pub ends_by : List Part → Option Extension → Bool
ends_by parts None = false
ends_by parts (Some row) = is_ending row.kind && (not (bytes_eq row.name (codes "RETURN")) && list_all (is_of_target row.name) parts)

-- the rule ends the walk of each packet
abbrev pub ends_each : Table → List Part → Bool
ends_each table parts = ends_by parts (target_of table parts)

-- a verdict of its own that a target gives (iptables-extensions(8), NFQUEUE, SYNPROXY, CLUSTERIP): its name and its options, as a line has them
abbrev pub verdict_by : Table → List Part → Option Extension → Option (List ℕ)
verdict_by table parts None = None
verdict_by table parts (Some row) =
    if is_deciding row.kind then Some (row.name ++ line_of (flat_map (given_words table) (filter (is_of row.name) parts))) else None

-- the verdict of its own of the target of some parts
abbrev pub verdict_of : Table → List Part → Option (List ℕ)
verdict_of table parts = verdict_by table parts (target_of table parts)

-- those of the rules of a chain, rule by rule
abbrev pub verdicts_in : List ℕ → List ReadRule → List (Option (List ℕ))
verdicts_in chain rules = map (λ (rule : ReadRule). rule.verdict) (filter (is_in chain) rules)

-- the first of some rules that is in a chain ends the walk of each packet
abbrev pub is_ended : List ℕ → List ReadRule → Bool
is_ended chain [] = false
is_ended chain (rule ∷ rules) = if is_in chain rule then rule.ends else is_ended chain rules

-- What targets of some rules set while a packet walks: the next rule of the chain doesn't end its walk. What is set just before it ends, later packets
-- alone meet.
abbrev pub written : List ReadRule → List (List ℕ)
written [] = []
written (rule ∷ rules) = (if is_ended rule.chain rules then [] else rule.sets) ++ written rules

-- the name is among some
abbrev pub is_named : List (List ℕ) → List ℕ → Bool
is_named names name = list_any (bytes_eq name) names

-- How the code's values stand for these.
abbrev pub needed_in : NeededText → Needed
needed_in need =
    record { name = need.name.items; asks = need.asks.items; text = need.text.items; lasting = need.lasting; inverted = need.inverted }

-- the needs of a rule
abbrev pub needs_in : List NeededText → List Needed
needs_in needs = map needed_in needs

-- names that are kept
abbrev pub kept_names : List (Vec ℕ) → List (List ℕ)
kept_names names = map (λ (name : Vec ℕ). name.items) names

-- a verdict of its own that is kept
abbrev pub kept_verdict : Option (Vec ℕ) → Option (List ℕ)
kept_verdict verdict = option_map (λ (text : Vec ℕ). text.items) verdict

-- verdicts that are lent
abbrev pub lent_verdicts : List (Option (Bor (List ℕ))) → List (Option (List ℕ))
lent_verdicts all = map (λ (verdict : Option (Bor (List ℕ))). option_map (λ (text : Bor (List ℕ)). text.now) verdict) all

-- a rule, by the code's value
abbrev pub rule_in : ForeignRule → ReadRule
rule_in rule = record { chain = rule.chain.items; needs = needs_in rule.needs.items; sets = kept_names rule.sets.items; ends = rule.ends; verdict = kept_verdict rule.verdict }

-- the rules of a dump, in the order of its lines
abbrev pub rules_in : Foreign → List ReadRule
rules_in foreign = map rule_in foreign.rules.items

-- what targets of the rules set while a packet walks
abbrev pub sets_in : Foreign → List (List ℕ)
sets_in foreign = written (rules_in foreign)
