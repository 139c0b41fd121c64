-- A rule's text part by part, as it is written.
use Rattle.std.specs.Prelude.{ℕ, Bool, nat_lt, List, [], ◌++◌, flat_map, Option, codes}
use Rattle.fields.specs.values.ConnectionState.{states_text}
use Rattle.fields.specs.values.TcpFlags.{flag_test_text}
use Rattle.fields.specs.values.Icmp.{icmp_text}
use Rattle.fields.specs.values.IpRange.{ip_range_text}
use Rattle.fields.specs.values.LogLevel.{log_level_text}
use Rattle.fields.specs.values.PortList.{port_list_text}
use Rattle.fields.specs.values.PortRange.{ports_text}
use Rattle.fields.specs.values.Prefix.{prefix_text}
use Rattle.fields.specs.text.Printed.{bare, spaced, spaced_all}
use Rattle.fields.specs.values.Protocol.{protocol_text}
use Rattle.fields.specs.values.RejectType.{reject_text}
use Rattle.fields.specs.values.FreeText.{quoted}
use Rattle.fields.specs.values.Ttl.{ttl_text}
use Rattle.rules.specs.options.Matches.{kind_name}
use Rattle.rules.specs.options.Options.{value_count}
use Rattle.rules.specs.options.OptionValues.{option_of_value}
use Rattle.rules.specs.rule.Rules.{Match}
use Rattle.rules.specs.Printing.{shown_option_value, shown_action}
use Rattle.rules.specs.declared.rule.action.Action.{Action}
use Rattle.rules.specs.declared.options.match_kind.MatchKind.{MatchKind}
use Rattle.rules.specs.declared.options.option_value.OptionValue.{OptionValue}
use Rattle.rules.specs.declared.options.value.Value.{Value}
use Rattle.rules.specs.declared.options.value.Value.TheVariants as value

-- the option has a value
abbrev pub has_words : Value → Bool
has_words v = nat_lt 0 (value_count (option_of_value v))

-- what is written of a value after the blank
abbrev pub value_text : Value → List ℕ
value_text (value.Source x) = prefix_text x
value_text (value.Destination x) = prefix_text x
value_text (value.InInterface x) = x
value_text (value.OutInterface x) = x
value_text (value.Protocol x) = protocol_text x
value_text (value.SourcePort x) = ports_text x
value_text (value.DestinationPort x) = ports_text x
value_text (value.TcpFlags x) = flag_test_text x
value_text (value.IcmpType x) = icmp_text x
value_text (value.SourcePorts x) = port_list_text x
value_text (value.DestinationPorts x) = port_list_text x
value_text (value.Ports x) = port_list_text x
value_text (value.SourceRange x) = ip_range_text x
value_text (value.DestinationRange x) = ip_range_text x
value_text (value.Ctstate x) = states_text x
value_text (value.State x) = states_text x
value_text (value.Comment x) = quoted x
value_text (value.TtlEqual x) = ttl_text x
value_text (value.TtlGreater x) = ttl_text x
value_text (value.TtlLess x) = ttl_text x
value_text (value.RejectWith x) = reject_text x
value_text (value.LogPrefix x) = quoted x
value_text (value.LogLevel x) = log_level_text x
value_text value.Fragment = []
value_text value.LogTcpSequence = []
value_text value.LogTcpOptions = []
value_text value.LogIpOptions = []
value_text value.LogUid = []

-- an option's text, each of its words after a blank
abbrev pub option_value_text : OptionValue → List ℕ
option_value_text s = spaced_all (shown_option_value s)

-- the text that starts a match
unfoldable pub start_text : MatchKind → List ℕ
start_text k = spaced (bare (codes "-m")) ++ spaced (bare (kind_name k))

-- a match's text
abbrev pub match_text : Match → List ℕ
match_text m = start_text m.kind ++ flat_map option_value_text m.option_values

-- a target's text without its options
abbrev pub action_text : Option Action → List ℕ
action_text a = spaced_all (shown_action a)
