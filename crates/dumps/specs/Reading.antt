-- The lines of a dump, read one after another (iptables-save(8)).
use Rattle.std.specs.Prelude.{◌≡◌, ℕ, nat_lt, Bool, true, false, List, [], ◌∷◌, ◌++◌, length, map, Option, Some, None, codes, if◌then◌else◌}
use Rattle.std.specs.List.{list_any}
use Rattle.std.specs.Str.{bytes_eq}
use Rattle.fields.specs.text.Words.{words_of}
use Rattle.std.specs.Option.{option_or}
use Rattle.dumps.specs.Options.{Table, Extension, extension_of}
use Rattle.dumps.specs.Parts.{Part, IsTakenApart, IsRefused}
use Rattle.dumps.specs.Parts as parts
use Rattle.dumps.specs.Own.{own_words, spelled, line_of}
use Rattle.dumps.specs.Conditions.{conditions}
use Rattle.dumps.specs.Foreign.{Needed, ReadRule, needed, needs_some, known_words, unknown_needs, ends_each, set_by, verdict_of}
use Rattle.dumps.specs.declared.options.row.Kind.{Kind}
use Rattle.dumps.specs.declared.options.row.Kind.TheVariants as kind
pub use Rattle.dumps.specs.declared.reading.fault.Refusal.{Refusal}
pub use Rattle.dumps.specs.declared.reading.fault.Refusal.TheVariants.{UnknownOption, ValueMissing, UnknownMatch, InversionNotAllowed, RulesMoved, ChainIsTarget}
use Rattle.dumps.specs.SectionLines.{RuleLine, OtherLine, begins_with, is_commit, rule_line, other_line, named, moving}
use Rattle.std.specs.Bool.{MatchBool}
pub use Rattle.dumps.specs.declared.reading.dump.Section.{Section}
pub use Rattle.dumps.specs.declared.reading.dump.Section.TheVariants.{Between, Other, Filter}

-- what was read of a dump: where the next line stands; the text so far; of the section `filter` the rules, and the word of the first line that may
-- have moved rules
pub record Read : Type 0 where
  pub section : Section
  pub text : List ℕ
  pub rules : List ReadRule
  pub moved : Option (List ℕ)

-- no line so far
abbrev pub nothing_read : Read
nothing_read = record { section = Between; text = []; rules = []; moved = None }

-- the line has more bytes than a restore takes
abbrev pub is_too_long : List ℕ → Bool
is_too_long line = nat_lt 10240 (length line)

-- a text and a newline (10) behind it
abbrev pub add_line : List ℕ → List ℕ → List ℕ
add_line text line = text ++ (line ++ 10 ∷ [])

-- the line stays as it stands
abbrev pub kept : List ℕ → Read → Read
kept line read = record { section = read.section; text = add_line read.text line; rules = read.rules; moved = read.moved }

-- the section has ended
abbrev pub closed : Read → Read
closed read = record { section = Between; text = read.text; rules = read.rules; moved = read.moved }

-- a section of a table is opened: with `*filter` the rules begin anew
abbrev pub opened : List ℕ → Read → Read
opened word read =
    if bytes_eq word (codes "*filter") then record { section = Filter; text = read.text; rules = []; moved = None }
    else record { section = Other; text = read.text; rules = read.rules; moved = read.moved }

-- between sections a line whose only word begins with `*` (42) opens one
abbrev pub opened_by : List (List ℕ) → Read → Read
opened_by [] read = read
opened_by (word ∷ []) read = if begins_with 42 word then opened word read else read
opened_by (word ∷ (more ∷ words)) read = read

-- the text of a rule: counters, the command, the chain, and the own words
abbrev pub counters_text : Option (List ℕ) → List ℕ
counters_text None = []
counters_text (Some counters) = spelled counters ++ 32 ∷ []

-- all of it before the own words
abbrev pub head_text : RuleLine → List ℕ
head_text line = counters_text line.counters ++ (spelled line.command ++ 32 ∷ spelled line.chain)

-- all of it
abbrev pub own_text : RuleLine → List (List ℕ) → List ℕ
own_text line own = head_text line ++ line_of own

-- what the conditions of a line need
abbrev pub needs_of : Table → List Part → List Needed
needs_of table parts = map needed (conditions table parts)

-- what the program is given of a line: its own words, and those for the conditions that are known
abbrev pub given_line : Table → RuleLine → List Part → List ℕ
given_line table line parts = own_text line (own_words table parts ++ known_words table.known (needs_of table parts))

-- a rule, with what it needs beyond that
abbrev pub read_rule : Table → RuleLine → List Part → ReadRule
read_rule table line parts =
    record {
      chain = line.chain;
      needs = unknown_needs table.known (needs_of table parts);
      sets = set_by table parts;
      ends = ends_each table parts;
      verdict = verdict_of table parts;
    }

-- a rule is the last one so far, with this text
abbrev pub with_rule : List ℕ → ReadRule → Read → Read
with_rule text rule read =
    record {
      section = read.section;
      text = add_line read.text text;
      rules = read.rules ++ rule ∷ [];
      moved = read.moved;
    }

-- A rule is taken: the words of its line are taken apart, what the program is given of them is its text, and it needs the conditions that
-- aren't known.
pub record IsRuleTaken (table : Table) (line : RuleLine) (old new : Read) : Type 0 where
  pub parts : List Part
  pub apart : IsTakenApart table line.words parts
  pub after : new ≡ with_rule (given_line table line parts) (read_rule table line parts) old

-- A line with a rule is read: the rule is taken, and no line before it may have moved rules if one needs something.
pub record IsRuleRead (table : Table) (line : RuleLine) (old new : Read) : Type 0 where
  pub taken : IsRuleTaken table line old new
  pub still : list_any needs_some new.rules ≡ true → old.moved ≡ None

-- a target passes, or has a verdict of its own: a chain of its name would be taken for it
abbrev pub is_hidden : Kind → Bool
is_hidden kind.Passes = true
is_hidden (kind.Decides all) = true
is_hidden kind.Ends = false
is_hidden kind.Logs = false
is_hidden (kind.Known alone) = false
is_hidden (kind.Foreign lasting) = false

-- such a target, if there is one
abbrev pub hides : Option Extension → Bool
hides None = false
hides (Some row) = is_hidden row.kind

-- a chain of this name would be taken for such a target
abbrev pub hides_target : Table → List ℕ → Bool
hides_target table name = hides (extension_of table.extensions name)

-- rules may have moved by a word, if there is one; the first such word stays
abbrev pub moved_by : Option (List ℕ) → Read → Read
moved_by word read = record { section = read.section; text = read.text; rules = read.rules; moved = option_or read.moved word }

-- a line without a rule is noted, by the word by which it may move rules
abbrev pub noted : OtherLine → Read → Read
noted line read = moved_by (moving read.rules line) read

-- a name that a target has which the program doesn't read is refused
abbrev pub refused_name : Table → Option (List ℕ) → Option (Refusal × List ℕ)
refused_name table None = None
refused_name table (Some name) = if hides_target table name then Some (ChainIsTarget, name) else None

-- rules may not be moved where one needs something
abbrev pub refused_move : List ReadRule → Option (List ℕ) → Option (Refusal × List ℕ)
refused_move rules None = None
refused_move rules (Some word) = if list_any needs_some rules then Some (RulesMoved, word) else None

-- why another line is refused, and for which word
abbrev pub other_refusal : Table → List ReadRule → OtherLine → Option (Refusal × List ℕ)
other_refusal table rules line = option_or (refused_name table (named line)) (refused_move rules (moving rules line))

-- another line of the section `filter` stays as it stands
pub record IsOtherRead (table : Table) (line : List ℕ) (words : List (List ℕ)) (old new : Read) : Type 0 where
  pub allowed : other_refusal table old.rules (other_line words) ≡ None
  pub after : new ≡ kept line (noted (other_line words) old)

-- a line of the section `filter` is read
abbrev pub IsFilterRead : Table → List ℕ → List (List ℕ) → Option RuleLine → Read → Read → Type 0
IsFilterRead table line words None old new = IsOtherRead table line words old new
IsFilterRead table line words (Some rule) old new = IsRuleRead table rule old new

-- the words of a line are read, by where it stands
abbrev pub IsReadAt : Section → Table → List ℕ → List (List ℕ) → Read → Read → Type 0
IsReadAt Between table line words old new = new ≡ kept line (opened_by words old)
IsReadAt Other table line words old new = new ≡ kept line (if is_commit line words then closed old else old)
IsReadAt Filter table line words old new =
    MatchBool (is_commit line words) (new ≡ kept line (closed old)) (IsFilterRead table line words (rule_line words) old new)

-- a line without words stays as it stands
abbrev pub AreWordsRead : Table → List ℕ → Option (List (List ℕ)) → Read → Read → Type 0
AreWordsRead table line None old new = new ≡ kept line old
AreWordsRead table line (Some words) old new = IsReadAt old.section table line words old new

-- a line is read. One that has no words, or is too long, stays as it stands
abbrev pub IsLineRead : Table → List ℕ → Read → Read → Type 0
IsLineRead table line old new = MatchBool (is_too_long line) (new ≡ kept line old) (AreWordsRead table line (words_of line) old new)

-- why a line isn't taken apart, and for which word
abbrev pub apart_refusal : parts.Refusal → Refusal × List ℕ
apart_refusal (parts.UnknownOption word) = (UnknownOption, word)
apart_refusal (parts.ValueMissing word) = (ValueMissing, word)
apart_refusal (parts.UnknownMatch word) = (UnknownMatch, word)
apart_refusal (parts.InversionNotAllowed word) = (InversionNotAllowed, word)

-- rules may have moved by a word, one needs something, and that is refused
pub record IsMovedWith (read : Read) (refusal : Refusal × List ℕ) : Type 0 where
  pub word : List ℕ
  pub moved : read.moved ≡ Some word
  pub needs : list_any needs_some read.rules ≡ true
  pub why : refusal ≡ (RulesMoved, word)

-- A line with a rule is refused because it isn't taken apart, or because rules may have moved and one needs something.
pub data IsRuleRefused (table : Table) (line : RuleLine) (old : Read) (refusal : Refusal × List ℕ) : Type 0 where
  Apart : (why : parts.Refusal) → IsRefused table line.words why → refusal ≡ apart_refusal why → IsRuleRefused table line old refusal
  Moved : (new : Read) → IsRuleTaken table line old new → IsMovedWith new refusal → IsRuleRefused table line old refusal

-- a line of the section `filter` is refused
abbrev pub IsFilterRefused : Table → List (List ℕ) → Option RuleLine → Read → Refusal × List ℕ → Type 0
IsFilterRefused table words None old refusal = other_refusal table old.rules (other_line words) ≡ Some refusal
IsFilterRefused table words (Some rule) old refusal = IsRuleRefused table rule old refusal

-- only lines of the section `filter` are refused
abbrev pub IsRefusedAt : Section → Table → List (List ℕ) → Read → Refusal × List ℕ → Type 0
IsRefusedAt Between table words old refusal = ⊥
IsRefusedAt Other table words old refusal = ⊥
IsRefusedAt Filter table words old refusal = IsFilterRefused table words (rule_line words) old refusal

-- a line without words is never refused
abbrev pub AreWordsRefused : Table → Option (List (List ℕ)) → Read → Refusal × List ℕ → Type 0
AreWordsRefused table None old refusal = ⊥
AreWordsRefused table (Some words) old refusal = IsRefusedAt old.section table words old refusal

-- a line is refused, for a word
abbrev pub IsLineRefused : Table → List ℕ → Read → Refusal × List ℕ → Type 0
IsLineRefused table line old refusal = MatchBool (is_too_long line) ⊥ (AreWordsRefused table (words_of line) old refusal)
