-- What a rule needs stands beside its text (iptables-save(8)).
use Rattle.std.specs.Prelude.{◌≡◌, ◌⊎◌, true, false, ℕ, List, [], ◌∷◌, ◌++◌, map, flat_map, All, Option, None, Some, option_map}
use Rattle.std.specs.List.{filter_map, list_any}
use Rattle.std.specs.Option.{option_and_then}
use Rattle.fields.specs.text.Line.{AreOneLine}
use Rattle.fields.specs.text.Words.{words_of}
use Rattle.dumps.specs.Foreign.{ReadRule, needs_some}
use Rattle.dumps.specs.Options.{Known, Table}
use Rattle.dumps.specs.Own.{HasNumbersInOneLine}
use Rattle.dumps.specs.Reading.{Read, Filter, is_too_long, add_line, IsLineRead}
use Rattle.dumps.specs.SectionLines.{RuleLine, moving, other_line, rule_line}

-- the chain of a line with a rule
abbrev pub chain_in : Option RuleLine → Option (List ℕ)
chain_in line = option_map (λ (rule : RuleLine). rule.chain) line

-- the chain in which a line puts a rule last, if it does: its words are counters or none, `-A` or `--append`, the chain, and others
abbrev pub chain_of : List ℕ → Option (List ℕ)
chain_of line = option_and_then (λ words. chain_in (rule_line words)) (words_of line)

-- no word that a table gives the program has a newline
pub record GivesOneLine (table : Table) : Type 0 where
  pub numbers : HasNumbersInOneLine table
  pub known : All (λ (known : Known). AreOneLine known.holds × AreOneLine known.fails) table.known

-- A line becomes one line of the text. That puts a rule last in a chain, and one rule of the same chain is added, with what it needs; or it
-- is the line itself, which puts none there, and no rule is added. A line that is too long puts none there: a restore refuses it.
pub data IsBeside (line : List ℕ) (old new : Read) : Type 0 where
  Rule : (given : List ℕ) (rule : ReadRule) → new.text ≡ add_line old.text given → chain_of given ≡ Some rule.chain → new.rules ≡ old.rules ++ rule ∷ []
      → IsBeside line old new
  NoRule : new.text ≡ add_line old.text line → (is_too_long line ≡ true) ⊎ (chain_of line ≡ None) → new.rules ≡ old.rules → IsBeside line old new

-- so a line of the section `filter` is read, where no word that the table gives has a newline
abbrev pub StandsBeside : Table → List ℕ → Read → Read → Type 0
StandsBeside table line old new = GivesOneLine table → old.section ≡ Filter → IsBeside line old new

-- what is read stands so
abbrev pub RulesStandBesideLines : Type 0
RulesStandBesideLines = (table : Table) (line : List ℕ) (old new : Read) → IsLineRead table line old new → StandsBeside table line old new

-- lines of a section, one after another
abbrev pub AreBeside : List (List ℕ) → Read → Read → Type 0
AreBeside [] old new = new ≡ old
AreBeside (line ∷ lines) old new = (mid : Read) × IsBeside line old mid × AreBeside lines mid new

-- no line is too long for a restore
abbrev pub AreShort : List (List ℕ) → Type 0
AreShort lines = All (λ (line : List ℕ). is_too_long line ≡ false) lines

-- some lines and rules came behind those of a text, and the lines that put a rule last in a chain are, one after another, in the chains of
-- these rules
pub record CameTogether (old new : Read) : Type 0 where
  pub lines : List (List ℕ)
  pub rules : List ReadRule
  pub text : new.text ≡ old.text ++ flat_map (λ (line : List ℕ). line ++ 10 ∷ []) lines
  pub behind : new.rules ≡ old.rules ++ rules
  pub chains : AreShort lines → filter_map chain_of lines ≡ map (λ (rule : ReadRule). rule.chain) rules

-- so the k-th line `-A` of a chain in the text of a section is the k-th rule of the chain
abbrev pub LinesComeWithRules : Type 0
LinesComeWithRules = (lines : List (List ℕ)) (old new : Read) → AreBeside lines old new → CameTogether old new

-- the words of a line put no rule last in a chain, and move none of those before it
abbrev pub MovesNone : List ReadRule → List (List ℕ) → Type 0
MovesNone rules words = (rule_line words ≡ None) × (moving rules (other_line words) ≡ None)

-- A line of a text puts a rule last in a chain, and one was read for that; or it is no such line, and moves no rule. A line that is too
-- long does neither: a restore refuses it.
pub data IsStill (old new : List ReadRule) (line : List ℕ) : Type 0 where
  Puts : (rule : ReadRule) → chain_of line ≡ Some rule.chain → new ≡ old ++ rule ∷ [] → IsStill old new line
  Keeps : new ≡ old → (is_too_long line ≡ true) ⊎ ((words : List (List ℕ)) → words_of line ≡ Some words → MovesNone old words) → IsStill old new line

-- the same of lines, one after another
abbrev pub AreStill : List ReadRule → List ReadRule → List (List ℕ) → Type 0
AreStill old new [] = new ≡ old
AreStill old new (line ∷ lines) = (mid : List ReadRule) × IsStill old mid line × AreStill mid new lines

-- a section `filter` is open, and none of its lines was read
pub record IsOpened (read : Read) : Type 0 where
  pub section : read.section ≡ Filter
  pub rules : read.rules ≡ []
  pub moved : read.moved ≡ None

-- lines of a section are read, one after another, and none of them ends it
abbrev pub AreRead : Table → List (List ℕ) → Read → Read → Type 0
AreRead table [] old new = new ≡ old
AreRead table (line ∷ lines) old new = (mid : Read) × IsLineRead table line old mid × (mid.section ≡ Filter) × AreRead table lines mid new

-- where a rule of a section needs something, no line of the section's text moves rules
abbrev pub NeededRulesStandStill : Type 0
NeededRulesStandStill =
    (table : Table) (lines : List (List ℕ)) (old new : Read) → GivesOneLine table → IsOpened old → AreRead table lines old new
    → list_any needs_some new.rules ≡ true
    → (texts : List (List ℕ)) × (new.text ≡ old.text ++ flat_map (λ (line : List ℕ). line ++ 10 ∷ []) texts) × AreStill [] new.rules texts
