-- How the code's values stand for those of the definitions: rows, parts, conditions and their numbers, lines of a section, and the reading
-- of a dump.
use Rattle.std.specs.Prelude.{ℕ, Bool, ◌&&◌, List, map, Option, Some, None, Result, option_map, ◌≡◌, false, length, filter, MatchOption}
use Rattle.std.specs.Borrow.{Bor}
use Rattle.std.specs.Global.{Vec}
use Rattle.std.specs.List.{flat_map}
use Rattle.std.specs.Option.{option_cmp, unwrap_or}
use Rattle.std.specs.Cmp.Lexicographic.{slice_cmp}
use Rattle.std.specs.declared.cmp.Ordering.{Ordering}
use Rattle.std.specs.Ordering.{nat_cmp, ordering_then}
use Rattle.std.specs.BTreeMap.{BTreeMap, get}
use Rattle.fields.specs.Refusals.{GivesFor}
use Rattle.fields.specs.text.WordSlice.{words_in}
use Rattle.fields.specs.declared.text.word_slice.WordSlice.{WordSlice}
use Rattle.dumps.specs.declared.options.row.OptionRow.{OptionRow}
use Rattle.dumps.specs.declared.options.row.ExtensionRow.{ExtensionRow}
use Rattle.dumps.specs.declared.options.table.NameRow.{NameRow}
use Rattle.dumps.specs.declared.options.table.KnownCondition.{KnownCondition}
use Rattle.dumps.specs.declared.options.table.OptionTable.{OptionTable}
use Rattle.dumps.specs.declared.apart.part.Part.{Part}
use Rattle.dumps.specs.declared.apart.Apart.{Apart}
use Rattle.dumps.specs.declared.apart.condition.Condition.{Condition}
use Rattle.dumps.specs.declared.apart.condition.Test.{Test}
use Rattle.dumps.specs.declared.apart.taking.Beginning.{Beginning}
use Rattle.dumps.specs.declared.apart.fault.ApartFault.{ApartFault}
use Rattle.dumps.specs.declared.reading.line.RuleLine.{RuleLine}
use Rattle.dumps.specs.declared.reading.line.OtherLine.{OtherLine}
use Rattle.dumps.specs.declared.conditions.ForeignNeed.{ForeignNeed}
use Rattle.dumps.specs.Foreign.{Needed, ReadRule, is_in, rules_in}
use Rattle.dumps.specs.Numbers.{Place, Asked, Numbers, Identity, has, identity_at, told, added, asked_by_rule, count_of, AreNumbered, AreApart}
use Rattle.dumps.specs.declared.reading.foreign.NeededText.{NeededText}
use Rattle.dumps.specs.declared.conditions.ConditionPlace.{ConditionPlace}
use Rattle.dumps.specs.declared.conditions.Key.{Key}
use Rattle.dumps.specs.declared.conditions.Kept.{Kept}
use Rattle.dumps.specs.declared.conditions.KeptPlace.{KeptPlace}
use Rattle.dumps.specs.Reading.{Read, Refusal}
use Rattle.dumps.specs.declared.reading.dump.Reading.{Reading}
use Rattle.dumps.specs.declared.reading.fault.LineWord.{LineWord}
use Rattle.dumps.specs.declared.reading.fault.DumpFault.{DumpFault}
use Rattle.dumps.specs.Options as options
use Rattle.dumps.specs.Parts as parts
use Rattle.dumps.specs.Conditions as conditions
use Rattle.dumps.specs.declared.apart.condition.Test.TheVariants as test
use Rattle.dumps.specs.declared.apart.taking.Beginning.TheVariants as beginning
use Rattle.dumps.specs.declared.apart.fault.ApartFault.TheVariants as fault
use Rattle.dumps.specs.SectionLines as lines
use Rattle.dumps.specs.declared.reading.line.OtherLine.TheVariants as other
use Rattle.dumps.specs.declared.reading.fault.DumpFault.TheVariants as dump_fault

-- ---- How the code's values stand for those of the definitions.

-- texts that are lent
abbrev pub texts_in : List (Bor (List ℕ)) → List (List ℕ)
texts_in texts = map (λ (text : Bor (List ℕ)). text.now) texts

-- an option, as its row says
abbrev pub row_in : OptionRow → options.Row
row_in row = record { owner = row.owner.now; names = texts_in row.names.now; values = row.values; role = row.role }

-- all of them
abbrev pub rows_in : List OptionRow → List options.Row
rows_in rows = map row_in rows

-- a match or a target, as its row says
abbrev pub extension_in : ExtensionRow → options.Extension
extension_in row = record { name = row.name.now; kind = row.kind; protocols = texts_in row.protocols.now; sets = texts_in row.sets.now }

-- all of them
abbrev pub extensions_in : List ExtensionRow → List options.Extension
extensions_in rows = map extension_in rows

-- a name, with its number
abbrev pub name_in : NameRow → List ℕ × List ℕ
name_in row = (row.name.now, row.number.now)

-- all of them
abbrev pub names_in : List NameRow → List (List ℕ × List ℕ)
names_in rows = map name_in rows

-- a condition that is known, as its row says
abbrev pub known_in : KnownCondition → options.Known
known_in row = record { text = row.text.now; holds = texts_in row.holds.now; fails = texts_in row.fails.now }

-- all of them
abbrev pub all_known_in : List KnownCondition → List options.Known
all_known_in rows = map known_in rows

-- the table that is lent
abbrev pub table_in : OptionTable → options.Table
table_in table =
    record {
      options = rows_in table.options.now;
      extensions = extensions_in table.extensions.now;
      ports = names_in table.ports.now;
      icmp_types = names_in table.icmp_types.now;
      known = all_known_in table.known.now;
    }

-- a part, as it is lent
abbrev pub part_in : Part → parts.Part
part_in part = record { inverted = part.inverted; option = part.option.now; values = words_in part.values; row = row_in part.row }

-- all of them
abbrev pub parts_of : List Part → List parts.Part
parts_of parts = map part_in parts

-- the parts of a line that is taken apart
abbrev pub parts_in : Apart → List parts.Part
parts_in apart = parts_of apart.parts.items

-- the refusal that a fault stands for; that memory ran out is none
abbrev pub refusal_in : ApartFault → Option parts.Refusal
refusal_in fault.NoMemory = None
refusal_in (fault.UnknownOption word) = Some (parts.UnknownOption word.now)
refusal_in (fault.ValueMissing word) = Some (parts.ValueMissing word.now)
refusal_in (fault.UnknownMatch word) = Some (parts.UnknownMatch word.now)
refusal_in (fault.InversionNotAllowed word) = Some (parts.InversionNotAllowed word.now)

-- the same where there may be no fault
abbrev pub refusal_at : Option ApartFault → Option parts.Refusal
refusal_at None = None
refusal_at (Some fault) = refusal_in fault

-- a part and the words after it are what the definition gives
abbrev pub PartGives : Result (Part × WordSlice) ApartFault → Result (parts.Part × List (List ℕ)) parts.Refusal → Type 0
PartGives r given = GivesFor refusal_in (λ (x : Part × WordSlice). (part_in x.0, words_in x.1)) r given

-- what a condition asks, by the thing that is named, if one is, and its match
abbrev pub asks_in : Option (Bor (List ℕ)) → List ℕ → List ℕ
asks_in None name = name
asks_in (Some thing) name = conditions.named_thing thing.now

-- a condition, as it is lent
abbrev pub condition_in : Condition → conditions.Condition
condition_in condition =
    record {
      name = condition.name.now;
      asks = asks_in condition.thing condition.name.now;
      lasting = condition.lasting;
      words = texts_in condition.words.items;
      inverted = condition.inverted;
    }

-- all of them
abbrev pub conditions_in : List Condition → List conditions.Condition
conditions_in all = map condition_in all

-- a part is as a test asks
abbrev pub passes : Test → parts.Part → Bool
passes test.Asks part = conditions.asks part
passes test.AsksOpposite part = conditions.is_opposed part && part.inverted
passes test.Turns part = conditions.turns part
passes test.Holds part = conditions.holds part
passes test.Counts part = conditions.counts part

-- what a part begins by its name, or by its protocol
abbrev pub begun : Beginning → options.Table → parts.Part → Option (List ℕ)
begun beginning.Name table part = parts.begun_by table part
begun beginning.Protocol table part = parts.implied_by table part

-- ---- How the code's lines of a section stand for those of the definitions.

-- a line with a rule
abbrev pub rule_line_in : RuleLine → lines.RuleLine
rule_line_in line =
    record {
      counters = option_map (λ counters. counters.now) line.counters;
      command = line.command.now;
      chain = line.chain.now;
      words = words_in line.words;
    }

-- a line without one
abbrev pub other_line_in : OtherLine → lines.OtherLine
other_line_in other.Quiet = lines.Quiet
other_line_in (other.NewChain name) = lines.NewChain name.now
other_line_in (other.ChainLine name) = lines.ChainLine name.now
other_line_in (other.Renames name command) = lines.Renames name.now command.now
other_line_in (other.Moves command) = lines.Moves command.now

-- ---- How needs by the numbers of their conditions are seen.

-- of each need whether the rule needs that the condition doesn't hold
abbrev pub inversions_in : List ForeignNeed → List Bool
inversions_in needs = map (λ (need : ForeignNeed). need.inverted) needs

-- the same of each rule
abbrev pub all_inversions_in : List (Vec ForeignNeed) → List (List Bool)
all_inversions_in rules = map (λ (rule : Vec ForeignNeed). inversions_in rule.items) rules

-- ---- How the code's conditions stand for those of the definitions.

-- the rule at which a condition is asked
abbrev pub at_in : ConditionPlace → List ℕ × ℕ
at_in place = (place.chain.items, place.rule)

-- a place, with a count
abbrev pub place_in : KeptPlace → Place
place_in place = record { chain = place.at.chain.items; rule = place.at.rule; count = place.count }

-- a condition as it was asked first
abbrev pub kept_in : Kept → Asked
kept_in kept = record { name = kept.name.items; asks = kept.asks.items; text = kept.text.items; place = option_map place_in kept.place }

-- all of them
abbrev pub all_in : List Kept → List Asked
all_in all = map kept_in all

-- the condition of a need
abbrev pub asked_with : NeededText → Option KeptPlace → Asked
asked_with need place = record { name = need.name.items; asks = need.asks.items; text = need.text.items; place = option_map place_in place }

-- the place that a key has
abbrev pub key_place_in : Option (Vec ℕ × ℕ) → Option (List ℕ × ℕ)
key_place_in place = option_map (λ (p : Vec ℕ × ℕ). (p.0.items, p.1)) place

-- what a key tells
abbrev pub identity_in : Key → Identity
identity_in key = record { text = key.text.items; place = key_place_in key.place }

-- the order of texts
abbrev pub text_cmp : Vec ℕ → Vec ℕ → Ordering
text_cmp a b = slice_cmp nat_cmp a.items b.items

-- that of places
abbrev pub place_cmp : Vec ℕ × ℕ → Vec ℕ × ℕ → Ordering
place_cmp p q = ordering_then (text_cmp p.0 q.0) (nat_cmp p.1 q.1)

-- that of keys
abbrev pub key_cmp : Key → Key → Ordering
key_cmp a b = ordering_then (text_cmp a.text b.text) (option_cmp place_cmp a.place b.place)

-- the map has the number of each condition, and no other; and no condition has two
pub record IsIndex (numbers : BTreeMap Key ℕ) (all : List Asked) : Type 0 where
  pub found : (key : Key) → MatchOption (get key_cmp numbers key) (has all (identity_in key) ≡ false) (λ n. identity_at all n ≡ Some (identity_in key))
  pub apart : AreApart all

-- the numbers of the conditions of needs
abbrev pub numbers_of : List ForeignNeed → List ℕ
numbers_of needs = map (λ (need : ForeignNeed). need.condition) needs

-- the same of each rule
abbrev pub numbers_in : List (Vec ForeignNeed) → List (List ℕ)
numbers_in rules = map (λ (rule : Vec ForeignNeed). numbers_of rule.items) rules

-- the count of a text in a map of counts
abbrev pub count_in : BTreeMap (Vec ℕ) ℕ → Vec ℕ → ℕ
count_in counts text = unwrap_or (get text_cmp counts text) 0

-- a map counts those of some needs that are of a place, by their texts
abbrev pub AreCounts : List (List ℕ) → List Needed → BTreeMap (Vec ℕ) ℕ → Type 0
AreCounts sets before counts = (text : Vec ℕ) → count_in counts text ≡ count_of sets text.items before

-- the first needs of a rule have numbers
pub record AreNeedsNumbered (chain : List ℕ) (rule : ℕ) (before needs : List Needed) (old new : Numbers) (numbers : List ℕ) : Type 0 where
  pub after : new ≡ added old (asked_by_rule old.sets chain rule before needs)
  pub each : map (identity_at new.all) numbers ≡ map told (asked_by_rule old.sets chain rule before needs)

-- the needs of the rules that are in a chain
abbrev pub needs_within : List ℕ → List ReadRule → List Needed
needs_within chain rules = flat_map (λ (rule : ReadRule). rule.needs) (filter (is_in chain) rules)

-- the needs of the first rules have numbers, and are counted
pub record AreNumberedSoFar (chain : List ℕ) (done : List ReadRule) (old new : Numbers) (rules : List (Vec ForeignNeed)) (counts : BTreeMap (Vec ℕ) ℕ) : Type 0 where
  pub numbered : AreNumbered chain done old new (numbers_in rules)
  pub counted : AreCounts old.sets (needs_within chain done) counts
  pub lengths : length rules ≡ length (filter (is_in chain) done)

-- ---- How the code's reading of a dump stands for that of the definitions.

-- a word, by its bytes
abbrev pub word_in : LineWord → List ℕ
word_in word = word.bytes.items

-- what was read, by the code's value
abbrev pub read_in : Reading → Read
read_in reading =
    record {
      section = reading.section;
      text = reading.text.items;
      rules = rules_in reading.foreign;
      moved = option_map word_in reading.moved;
    }

-- why a line was refused, and for which word; that memory ran out is no refusal
abbrev pub refused_in : DumpFault → Option (Refusal × List ℕ)
refused_in dump_fault.NoMemory = None
refused_in (dump_fault.Refused refusal word) = Some (refusal, word_in word)
