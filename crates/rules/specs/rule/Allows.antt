-- Which numbers a rule allows on a field, and which packets it matches (iptables(8), PARAMETERS; iptables-extensions(8)).
use Rattle.std.specs.Prelude.{ℕ, ◌==◌, nat_lt, Bool, true, false, ◌&&◌, ◌||◌, not, List, Option, Some, None, if◌then◌else◌}
use Rattle.std.specs.List.{list_all, list_any}
use Rattle.fields.specs.values.ConnectionState.{states_pass}
use Rattle.fields.specs.numbers.Field.{all_fields, index, number_on}
use Rattle.fields.specs.values.TcpFlags.{flags_pass}
use Rattle.fields.specs.values.Icmp.{icmp_passes}
use Rattle.fields.specs.values.Interface.{interface_holds}
use Rattle.fields.specs.values.IpRange.{range_has}
use Rattle.fields.specs.values.PortList.{list_has_port}
use Rattle.fields.specs.values.PortRange.{has_port}
use Rattle.fields.specs.values.Prefix.{holds}
use Rattle.fields.specs.declared.numbers.field.Field.{Field}
use Rattle.fields.specs.declared.numbers.field.Field.TheVariants as field
use Rattle.rules.specs.options.Matches.{match_row}
use Rattle.rules.specs.rule.Crossing.{cross}
use Rattle.rules.specs.rule.Rules.{Match, Rule}
use Rattle.rules.specs.declared.options.match_kind.MatchKind.{MatchKind}
use Rattle.rules.specs.declared.options.option_value.OptionValue.{OptionValue}
use Rattle.rules.specs.declared.options.value.Value.{Value}
use Rattle.rules.specs.declared.options.value.Value.TheVariants as value

-- the one field on which a value puts a condition; none where it puts none, or one on both ports
abbrev pub field_of : Value → Option Field
field_of (value.Source x) = Some field.Source
field_of (value.Destination x) = Some field.Destination
field_of (value.InInterface x) = Some field.InIface
field_of (value.OutInterface x) = Some field.OutIface
field_of (value.Protocol x) = Some field.Protocol
field_of value.Fragment = Some field.Fragment
field_of (value.SourcePort x) = Some field.SourcePort
field_of (value.DestinationPort x) = Some field.DestinationPort
field_of (value.TcpFlags x) = Some field.TcpFlags
field_of (value.IcmpType x) = Some field.IcmpType
field_of (value.SourcePorts x) = Some field.SourcePort
field_of (value.DestinationPorts x) = Some field.DestinationPort
field_of (value.Ports x) = None
field_of (value.SourceRange x) = Some field.Source
field_of (value.DestinationRange x) = Some field.Destination
field_of (value.Ctstate x) = Some field.ConnectionState
field_of (value.State x) = Some field.ConnectionState
field_of (value.Comment x) = None
field_of (value.TtlEqual x) = Some field.TimeToLive
field_of (value.TtlGreater x) = Some field.TimeToLive
field_of (value.TtlLess x) = Some field.TimeToLive
field_of (value.RejectWith x) = None
field_of (value.LogPrefix x) = None
field_of (value.LogLevel x) = None
field_of value.LogTcpSequence = None
field_of value.LogTcpOptions = None
field_of value.LogIpOptions = None
field_of value.LogUid = None

-- whether a value's condition holds of a number on its field: `--ttl-eq`, `--ttl-gt` and `--ttl-lt`, for example, where the time to
-- live is equal, greater or less; a value without such a condition holds of every number
abbrev pub holds_of : Value → ℕ → Bool
holds_of (value.Source x) n = holds x n
holds_of (value.Destination x) n = holds x n
holds_of (value.InInterface x) n = interface_holds x n
holds_of (value.OutInterface x) n = interface_holds x n
holds_of (value.Protocol x) n = n == x
holds_of value.Fragment n = n == 1
holds_of (value.SourcePort x) n = has_port x n
holds_of (value.DestinationPort x) n = has_port x n
holds_of (value.TcpFlags x) n = flags_pass x n
holds_of (value.IcmpType x) n = icmp_passes x n
holds_of (value.SourcePorts x) n = list_has_port x n
holds_of (value.DestinationPorts x) n = list_has_port x n
holds_of (value.SourceRange x) n = range_has x n
holds_of (value.DestinationRange x) n = range_has x n
holds_of (value.Ctstate x) n = states_pass x n
holds_of (value.State x) n = states_pass x n
holds_of (value.TtlEqual x) n = n == x
holds_of (value.TtlGreater x) n = nat_lt x n
holds_of (value.TtlLess x) n = nat_lt n x
holds_of (value.Ports x) n = true
holds_of (value.Comment x) n = true
holds_of (value.RejectWith x) n = true
holds_of (value.LogPrefix x) n = true
holds_of (value.LogLevel x) n = true
holds_of value.LogTcpSequence n = true
holds_of value.LogTcpOptions n = true
holds_of value.LogIpOptions n = true
holds_of value.LogUid n = true

-- two fields are the same
abbrev pub same_field : Field → Field → Bool
same_field f g = index f == index g

-- there is a field, and it is this one
abbrev pub is_on : Field → Option Field → Bool
is_on f None = false
is_on f (Some g) = same_field f g

-- the condition holds, or doesn't where it is inverted
abbrev pub option_value_holds : OptionValue → ℕ → Bool
option_value_holds s n = if s.inverted then not (holds_of s.value n) else holds_of s.value n

-- the option allows the number on the field: its condition is on another field, or holds
abbrev pub option_value_allows : Field → ℕ → OptionValue → Bool
option_value_allows f n s = if is_on f (field_of s.value) then option_value_holds s n else true

-- a match that looks behind the IP header allows no further fragment
abbrev pub fragment_allows : Field → ℕ → MatchKind → Bool
fragment_allows f n k = not ((match_row k).asks_fragment && same_field f field.Fragment) || (n == 0)

-- the match allows the number on the field: it isn't a further fragment where that is excluded, and each of its options allows it
abbrev pub match_allows : Field → ℕ → Match → Bool
match_allows f n m = fragment_allows f n m.kind && list_all (option_value_allows f n) m.option_values

-- the rule allows the number on the field: each condition that it has on this field alone holds
unfoldable pub allows : Rule → Field → ℕ → Bool
allows r f n = list_all (option_value_allows f n) r.option_values && list_all (match_allows f n) r.matches

-- the rule allows each of these numbers, given one a field in the order of the fields
abbrev pub allows_each : List ℕ → Rule → Bool
allows_each numbers r = list_all (λ f. allows r f (number_on numbers f)) all_fields

-- the rule matches a packet with these numbers: it allows each on its field, and its conditions on several fields hold
-- (iptables(8), PARAMETERS, -m)
abbrev pub matches : List ℕ → Rule → Bool
matches numbers r = allows_each numbers r && cross numbers r

-- the option has a condition on the field
abbrev pub asks : Field → OptionValue → Bool
asks f s = is_on f (field_of s.value)

-- the rule has a condition on the field, of its own or in a match
abbrev pub asks_on : Field → Rule → Bool
asks_on f r = list_any (asks f) r.option_values || list_any (λ (m : Match). list_any (asks f) m.option_values) r.matches
