-- How a rule is printed, and that the text that a listing has of a rule is read as the rule (iptables-save(8)).
use Rattle.std.specs.Prelude.{ℕ, Bool, true, false, List, [], ◌∷◌, ◌++◌, flat_map, Option, Some, None, codes, ◌≡◌, ◌≤◌, length, map, Ok, IsTrue}
use Rattle.fields.specs.values.ConnectionState.{states_text}
use Rattle.fields.specs.values.Icmp.{icmp_text}
use Rattle.fields.specs.values.IpRange.{ip_range_text}
use Rattle.fields.specs.values.LogLevel.{log_level_text}
use Rattle.fields.specs.values.PortList.{port_list_text}
use Rattle.fields.specs.values.PortRange.{ports_text}
use Rattle.fields.specs.values.Prefix.{prefix_text}
use Rattle.fields.specs.text.Printed.{Shown, bare, as_text, spaced_all}
use Rattle.fields.specs.values.Protocol.{protocol_text}
use Rattle.fields.specs.values.RejectType.{reject_text}
use Rattle.fields.specs.values.TcpFlags.{tcp_flags_text}
use Rattle.fields.specs.values.Ttl.{ttl_text}
use Rattle.fields.specs.text.Line.{IsOneLine}
use Rattle.fields.specs.text.Words.{words_of}
use Rattle.fields.specs.values.Name.{is_name}
use Rattle.rules.specs.options.Matches.{kind_name}
use Rattle.rules.specs.options.Options.{name_of}
use Rattle.rules.specs.options.OptionValues.{option_of_value}
use Rattle.rules.specs.rule.Rules.{Match, Rule}
use Rattle.rules.specs.declared.rule.action.Action.{Action}
use Rattle.rules.specs.declared.options.option_value.OptionValue.{OptionValue}
use Rattle.rules.specs.declared.options.value.Value.{Value}
use Rattle.rules.specs.rule.Actions.{with_chain_name}
use Rattle.rules.specs.reading.Steps.{rule_of}
use Rattle.rules.specs.declared.rule.action.Action.TheVariants as action
use Rattle.rules.specs.declared.options.value.Value.TheVariants as value

-- ---- How a rule is printed (iptables-save(8)).

-- one word, printed as it is
abbrev pub one : List ℕ → List Shown
one word = bare word ∷ []

-- the words of a value
abbrev pub shown_value : Value → List Shown
shown_value (value.Source x) = one (prefix_text x)
shown_value (value.Destination x) = one (prefix_text x)
shown_value (value.InInterface x) = one x
shown_value (value.OutInterface x) = one x
shown_value (value.Protocol x) = one (protocol_text x)
shown_value value.Fragment = []
shown_value (value.SourcePort x) = one (ports_text x)
shown_value (value.DestinationPort x) = one (ports_text x)
shown_value (value.TcpFlags x) = bare (tcp_flags_text x.mask) ∷ one (tcp_flags_text x.comp)
shown_value (value.IcmpType x) = one (icmp_text x)
shown_value (value.SourcePorts x) = one (port_list_text x)
shown_value (value.DestinationPorts x) = one (port_list_text x)
shown_value (value.Ports x) = one (port_list_text x)
shown_value (value.SourceRange x) = one (ip_range_text x)
shown_value (value.DestinationRange x) = one (ip_range_text x)
shown_value (value.Ctstate x) = one (states_text x)
shown_value (value.State x) = one (states_text x)
shown_value (value.Comment x) = as_text x ∷ []
shown_value (value.TtlEqual x) = one (ttl_text x)
shown_value (value.TtlGreater x) = one (ttl_text x)
shown_value (value.TtlLess x) = one (ttl_text x)
shown_value (value.RejectWith x) = one (reject_text x)
shown_value (value.LogPrefix x) = as_text x ∷ []
shown_value (value.LogLevel x) = one (log_level_text x)
shown_value value.LogTcpSequence = []
shown_value value.LogTcpOptions = []
shown_value value.LogIpOptions = []
shown_value value.LogUid = []

-- a `!` before an inverted option
abbrev pub shown_bang : Bool → List Shown
shown_bang true = bare (codes "!") ∷ []
shown_bang false = []

-- an option with its value, after a `!` where it is inverted
abbrev pub shown_option_value : OptionValue → List Shown
shown_option_value s = shown_bang s.inverted ++ (bare (name_of (option_of_value s.value)) ∷ shown_value s.value)

-- the words of some options, one after another
abbrev pub shown_option_values : List OptionValue → List Shown
shown_option_values ss = flat_map shown_option_value ss

-- the words of a match: `-m`, its name, its options
abbrev pub shown_match : Match → List Shown
shown_match m = bare (codes "-m") ∷ (bare (kind_name m.kind) ∷ shown_option_values m.option_values)

-- the words of a target: `-j` and its name, or `-g` and a chain
abbrev pub shown_given : Action → List Shown
shown_given action.Accept = bare (codes "-j") ∷ one (codes "ACCEPT")
shown_given action.Drop = bare (codes "-j") ∷ one (codes "DROP")
shown_given action.Return = bare (codes "-j") ∷ one (codes "RETURN")
shown_given action.Reject = bare (codes "-j") ∷ one (codes "REJECT")
shown_given action.Log = bare (codes "-j") ∷ one (codes "LOG")
shown_given (action.Jump name) = bare (codes "-j") ∷ one name
shown_given (action.Goto name) = bare (codes "-g") ∷ one name

-- those of a rule's target; none where it has no target
abbrev pub shown_action : Option Action → List Shown
shown_action None = []
shown_action (Some a) = shown_given a

-- the words of a rule: its own options, its matches, its target, the options of that
abbrev pub shown_rule : Rule → List Shown
shown_rule r = shown_option_values r.option_values ++ (flat_map shown_match r.matches ++ (shown_action r.action ++ shown_option_values r.target_options))

-- the text of a rule: its words, each after one blank
abbrev pub rule_text : Rule → List ℕ
rule_text r = spaced_all (shown_rule r)

-- ---- Rules read back: the text that a listing has of a rule is read as the rule (iptables-save(8)).

-- the words that are printed of a rule are read as the rule
abbrev pub ReadsItself : Rule → Type 0
ReadsItself r = rule_of 0 (map (λ (w : Shown). w.word) (shown_rule r)) ≡ Ok r

-- the text of a rule is cut into words that are read as the rule, wherever they stand in a line
abbrev pub TextReadsBack : Rule → Type 0
TextReadsBack r = (words : List (List ℕ)) × (words_of (rule_text r) ≡ Some words) × ((end : ℕ) → rule_of end words ≡ Ok r)

-- after `-A ` and the name of a chain, of at most 28 bytes, the text of the rule makes a line of at most 8,876 bytes
abbrev pub HasShortLine : Rule → Type 0
HasShortLine r = (name : List ℕ) → length name ≤ 28 → length (codes "-A " ++ (name ++ rule_text r)) ≤ 8876

-- no other rule that reads back has the same text
abbrev pub IsOnlyOne : Rule → Type 0
IsOnlyOne r = (other : Rule) → TextReadsBack other → rule_text other ≡ rule_text r → other ≡ r

-- a rule that reads back still does when its target is renamed to any chain's name (iptables(8), COMMANDS, -E)
abbrev pub RenamedReadsBack : Type 0
RenamedReadsBack = (r : Rule) (name : List ℕ) → IsTrue (is_name name) → TextReadsBack r → TextReadsBack (with_chain_name name r)

-- the line `-A`, a chain's name and the text of a rule, as a listing has it: its words are `-A`, the name and words that are read
-- as the rule, it has no newline, and at most 8,876 bytes
pub record IsListedLine (name : List ℕ) (r : Rule) : Type 0 where
  pub words : List (List ℕ)
  pub cut : words_of (codes "-A " ++ (name ++ rule_text r)) ≡ Some (codes "-A" ∷ name ∷ words)
  pub read : (end : ℕ) → rule_of end words ≡ Ok r
  pub one_line : IsOneLine (codes "-A " ++ (name ++ rule_text r))
  pub short : length (codes "-A " ++ (name ++ rule_text r)) ≤ 8876

-- the listed line of a rule whose text reads back does so, too, in a chain of any name
abbrev pub LinesOfRulesReadBack : Type 0
LinesOfRulesReadBack = (name : List ℕ) (r : Rule) → IsTrue (is_name name) → TextReadsBack r → IsListedLine name r
