-- Options with their values: how words give a value, and which values say nothing (iptables(8), PARAMETERS;
-- iptables-extensions(8)).
use Rattle.std.specs.Prelude.{ℕ, ◌==◌, Bool, false, ◌||◌, ◌&&◌, not, nat_lt, List, [], ◌∷◌, length, codes, if◌then◌else◌, Option, Some, None, Result, Ok, Err}
use Rattle.std.specs.Str.{bytes_eq}
use Rattle.std.specs.List.{list_any}
use Rattle.fields.specs.values.ConnectionState.{ctstate_of, state_of}
use Rattle.fields.specs.values.TcpFlags.{flag_test_of, asks_nothing}
use Rattle.fields.specs.values.Icmp.{icmp_of}
use Rattle.fields.specs.values.Interface.{interface_of}
use Rattle.fields.specs.values.IpRange.{ip_range_of}
use Rattle.fields.specs.values.LogLevel.{level_number, log_level_of}
use Rattle.fields.specs.values.PortList.{port_list_of}
use Rattle.fields.specs.values.PortRange.{port_range_of}
use Rattle.fields.specs.values.Prefix.{prefix_of}
use Rattle.fields.specs.values.Protocol.{protocol_of}
use Rattle.fields.specs.values.RejectType.{reject_of}
use Rattle.fields.specs.values.FreeText.{text_of}
use Rattle.fields.specs.values.Ttl.{ttl_of}
use Rattle.rules.specs.Sequence.{◌>>=◌, or_refused}
use Rattle.rules.specs.options.Options.{slot, first_of}
use Rattle.rules.specs.options.Values.{protocol_in}
use Rattle.rules.specs.declared.reading.fault.Refusal.{Refusal}
use Rattle.rules.specs.declared.reading.fault.Refusal.TheVariants as refusal
use Rattle.rules.specs.declared.options.option.Opt.{Opt}
use Rattle.rules.specs.declared.options.option.Opt.TheVariants as opt
use Rattle.rules.specs.declared.options.option_value.OptionValue.{OptionValue}
use Rattle.rules.specs.declared.options.value.Value.{Value}
use Rattle.rules.specs.declared.options.value.Value.TheVariants as value

-- the option that has this value
abbrev pub option_of_value : Value → Opt
option_of_value (value.Source x) = opt.Source
option_of_value (value.Destination x) = opt.Destination
option_of_value (value.InInterface x) = opt.InInterface
option_of_value (value.OutInterface x) = opt.OutInterface
option_of_value (value.Protocol x) = opt.Protocol
option_of_value value.Fragment = opt.Fragment
option_of_value (value.SourcePort x) = opt.SourcePort
option_of_value (value.DestinationPort x) = opt.DestinationPort
option_of_value (value.TcpFlags x) = opt.TcpFlags
option_of_value (value.IcmpType x) = opt.IcmpType
option_of_value (value.SourcePorts x) = opt.SourcePorts
option_of_value (value.DestinationPorts x) = opt.DestinationPorts
option_of_value (value.Ports x) = opt.Ports
option_of_value (value.SourceRange x) = opt.SourceRange
option_of_value (value.DestinationRange x) = opt.DestinationRange
option_of_value (value.Ctstate x) = opt.Ctstate
option_of_value (value.State x) = opt.State
option_of_value (value.Comment x) = opt.Comment
option_of_value (value.TtlEqual x) = opt.TtlEqual
option_of_value (value.TtlGreater x) = opt.TtlGreater
option_of_value (value.TtlLess x) = opt.TtlLess
option_of_value (value.RejectWith x) = opt.RejectWith
option_of_value (value.LogPrefix x) = opt.LogPrefix
option_of_value (value.LogLevel x) = opt.LogLevel
option_of_value value.LogTcpSequence = opt.LogTcpSequence
option_of_value value.LogTcpOptions = opt.LogTcpOptions
option_of_value value.LogIpOptions = opt.LogIpOptions
option_of_value value.LogUid = opt.LogUid

-- the option's place among those of its owner
abbrev pub slot_of : OptionValue → ℕ
slot_of s = slot (option_of_value s.value)

-- there is a protocol, it is this one, and it isn't inverted
abbrev pub protocol_is : ℕ → Bool → Option ℕ → Bool
protocol_is n inverted None = false
protocol_is n inverted (Some m) = not inverted && (m == n)

-- the option gives this protocol, not inverted
abbrev pub is_protocol : ℕ → OptionValue → Bool
is_protocol n s = protocol_is n s.inverted (protocol_in s.value)

-- one of the options gives this protocol, not inverted
abbrev pub has_protocol : ℕ → List OptionValue → Bool
has_protocol n option_values = list_any (is_protocol n) option_values

-- the second word, or the empty one
abbrev pub second_of : List (List ℕ) → List ℕ
second_of [] = []
second_of (word ∷ words) = first_of words

-- the value that was read, or the refusal of a bad one
abbrev pub read_as : {X : Type 0} → (X → Value) → Option X → Result Value Refusal
read_as make x = or_refused refusal.BadValue x >>= λ y. Ok (make y)

-- a text of at most so many bytes; a longer one is refused as too long, whatever its bytes are
abbrev pub text_within : ℕ → List ℕ → Result (List ℕ) Refusal
text_within most bytes = if nat_lt most (length bytes) then Err refusal.TextTooLong else or_refused refusal.BadValue (text_of most bytes)

-- the value with a text that was read, or the text's refusal
abbrev pub text_as : (List ℕ → Value) → Result (List ℕ) Refusal → Result Value Refusal
text_as make x = x >>= λ y. Ok (make y)

-- the protocol, but `all` is refused after a `!`
abbrev pub with_opposite : Bool → Option ℕ → Option ℕ
with_opposite inverted None = None
with_opposite inverted (Some n) = if inverted && (n == 0) then None else Some n

-- the value that the words after an option give it, or their refusal
unfoldable pub value_of : Opt → Bool → List (List ℕ) → Result Value Refusal
value_of opt.Source inverted words = read_as value.Source (prefix_of (first_of words))
value_of opt.Destination inverted words = read_as value.Destination (prefix_of (first_of words))
value_of opt.InInterface inverted words = read_as value.InInterface (interface_of (first_of words))
value_of opt.OutInterface inverted words = read_as value.OutInterface (interface_of (first_of words))
value_of opt.Protocol inverted words = read_as value.Protocol (with_opposite inverted (protocol_of (first_of words)))
value_of opt.Fragment inverted words = Ok value.Fragment
value_of opt.SourcePort inverted words = read_as value.SourcePort (port_range_of (first_of words))
value_of opt.DestinationPort inverted words = read_as value.DestinationPort (port_range_of (first_of words))
value_of opt.TcpFlags inverted words = read_as value.TcpFlags (flag_test_of (first_of words) (second_of words))
value_of opt.Syn inverted words = read_as value.TcpFlags (flag_test_of (codes "SYN,RST,ACK,FIN") (codes "SYN"))
value_of opt.IcmpType inverted words = read_as value.IcmpType (icmp_of (first_of words))
value_of opt.SourcePorts inverted words = read_as value.SourcePorts (port_list_of (first_of words))
value_of opt.DestinationPorts inverted words = read_as value.DestinationPorts (port_list_of (first_of words))
value_of opt.Ports inverted words = read_as value.Ports (port_list_of (first_of words))
value_of opt.SourceRange inverted words = read_as value.SourceRange (ip_range_of (first_of words))
value_of opt.DestinationRange inverted words = read_as value.DestinationRange (ip_range_of (first_of words))
value_of opt.Ctstate inverted words = read_as value.Ctstate (ctstate_of (first_of words))
value_of opt.State inverted words = read_as value.State (state_of (first_of words))
value_of opt.Comment inverted words = text_as value.Comment (text_within 256 (first_of words))
value_of opt.TtlEqual inverted words = read_as value.TtlEqual (ttl_of (first_of words))
value_of opt.TtlGreater inverted words = read_as value.TtlGreater (ttl_of (first_of words))
value_of opt.TtlLess inverted words = read_as value.TtlLess (ttl_of (first_of words))
value_of opt.RejectWith inverted words = read_as value.RejectWith (reject_of (first_of words))
value_of opt.LogPrefix inverted words = text_as value.LogPrefix (text_within 29 (first_of words))
value_of opt.LogLevel inverted words = read_as value.LogLevel (log_level_of (first_of words))
value_of opt.LogTcpSequence inverted words = Ok value.LogTcpSequence
value_of opt.LogTcpOptions inverted words = Ok value.LogTcpOptions
value_of opt.LogIpOptions inverted words = Ok value.LogIpOptions
value_of opt.LogUid inverted words = Ok value.LogUid
value_of opt.Match inverted words = Err refusal.BadValue
value_of opt.Jump inverted words = Err refusal.BadValue
value_of opt.Goto inverted words = Err refusal.BadValue

-- a value that says nothing unless it is inverted: a condition that every packet meets, an empty log prefix, or the log level that
-- is the default (4)
abbrev pub is_trivial : Value → Bool
is_trivial (value.Source p) = p.length == 0
is_trivial (value.Destination p) = p.length == 0
is_trivial (value.InInterface x) = bytes_eq x (codes "+")
is_trivial (value.OutInterface x) = bytes_eq x (codes "+")
is_trivial (value.Protocol n) = n == 0
is_trivial value.Fragment = false
is_trivial (value.SourcePort r) = (r.from == 0) && (r.to == 65535)
is_trivial (value.DestinationPort r) = (r.from == 0) && (r.to == 65535)
is_trivial (value.TcpFlags test) = asks_nothing test
is_trivial (value.IcmpType x) = false
is_trivial (value.SourcePorts x) = false
is_trivial (value.DestinationPorts x) = false
is_trivial (value.Ports x) = false
is_trivial (value.SourceRange x) = false
is_trivial (value.DestinationRange x) = false
is_trivial (value.Ctstate x) = false
is_trivial (value.State x) = false
is_trivial (value.Comment x) = false
is_trivial (value.TtlEqual x) = false
is_trivial (value.TtlGreater x) = false
is_trivial (value.TtlLess x) = false
is_trivial (value.RejectWith x) = false
is_trivial (value.LogPrefix x) = length x == 0
is_trivial (value.LogLevel x) = level_number x == 4
is_trivial value.LogTcpSequence = false
is_trivial value.LogTcpOptions = false
is_trivial value.LogIpOptions = false
is_trivial value.LogUid = false

-- an option that says something; an inverted one always does
abbrev pub is_condition : OptionValue → Bool
is_condition s = s.inverted || not (is_trivial s.value)
