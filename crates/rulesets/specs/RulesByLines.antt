-- The rules of a dump beside its lines: what was read for a rule stands beside the rule that a restore makes of its line
-- (iptables-restore(8)).
use Rattle.std.specs.Prelude.{◌≡◌, ℕ, false, List, [], filter, length, Option, Some, None, Result, Ok, Err, if◌then◌else◌}
use Rattle.std.specs.List.{filter_map}
use Rattle.std.specs.Option.{option_and_then}
use Rattle.std.specs.Str.{bytes_eq}
use Rattle.fields.specs.text.Words.{words_of}
use Rattle.rules.specs.reading.Steps.{rule_of}
use Rattle.rules.specs.rule.Rules.{Rule}
use Rattle.table.specs.chains.Table.{Table, rules_of}
use Rattle.restore.specs.sections.Section.{Section, begun, lines_in}
use Rattle.dumps.specs.Beside.{AreStill}
use Rattle.dumps.specs.Foreign.{ReadRule, is_in}
use Rattle.dumps.specs.SectionLines.{RuleLine, rule_line}

-- what was read, where reading didn't fail
abbrev pub if_read : {A E : Type 0} → Result A E → Option A
if_read (Ok x) = Some x
if_read (Err e) = None

-- the rule that these words put last in the chain of this name, if they do; the number is how many words the line has
abbrev pub rule_put : List ℕ → ℕ → Option RuleLine → Option Rule
rule_put name count None = None
rule_put name count (Some line) = if bytes_eq line.chain name then if_read (rule_of count line.words) else None

-- the same of a line
abbrev pub put_by : List ℕ → List ℕ → Option Rule
put_by name line = option_and_then (λ words. rule_put name (length words) (rule_line words)) (words_of line)

-- the chain of this name has the rules of its lines, in their order; and as many were read for it
pub record AreBesideNeeds (name : List ℕ) (texts : List (List ℕ)) (rules : List ReadRule) (after : Section) : Type 0 where
  pub lines : rules_of after.table.chains name ≡ filter_map (put_by name) texts
  pub needs : length (rules_of after.table.chains name) ≡ length (filter (is_in name) rules)

-- After lines of a section that move no rules, restored from policies alone, these hold of each chain: so its k-th line `-A` is its k-th
-- rule, and needs what was read for its k-th.
abbrev pub RulesStandBesideNeeds : Type 0
RulesStandBesideNeeds =
    (t : Table) (after : Section) (texts : List (List ℕ)) (rules : List ReadRule) → AreStill [] rules texts → lines_in (begun false t) texts ≡ Ok after
    → (name : List ℕ) → AreBesideNeeds name texts rules after
