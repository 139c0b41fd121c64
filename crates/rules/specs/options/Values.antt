-- What some values contain: a protocol, a list for both ports, or an answer of REJECT (iptables-extensions(8), multiport and
-- REJECT).
use Rattle.std.specs.Prelude.{ℕ, List, Option, Some, None}
use Rattle.fields.specs.values.PortRange.{Ports}
use Rattle.fields.specs.declared.values.reject.RejectType.{RejectType}
use Rattle.rules.specs.declared.options.value.Value.{Value}
use Rattle.rules.specs.declared.options.value.Value.TheVariants as value

-- the protocol of a value of `-p`; other values contain none
abbrev pub protocol_in : Value → Option ℕ
protocol_in (value.Source x) = None
protocol_in (value.Destination x) = None
protocol_in (value.InInterface x) = None
protocol_in (value.OutInterface x) = None
protocol_in (value.Protocol n) = Some n
protocol_in value.Fragment = None
protocol_in (value.SourcePort x) = None
protocol_in (value.DestinationPort x) = None
protocol_in (value.TcpFlags x) = None
protocol_in (value.IcmpType x) = None
protocol_in (value.SourcePorts x) = None
protocol_in (value.DestinationPorts x) = None
protocol_in (value.Ports x) = None
protocol_in (value.SourceRange x) = None
protocol_in (value.DestinationRange x) = None
protocol_in (value.Ctstate x) = None
protocol_in (value.State x) = None
protocol_in (value.Comment x) = None
protocol_in (value.TtlEqual x) = None
protocol_in (value.TtlGreater x) = None
protocol_in (value.TtlLess x) = None
protocol_in (value.RejectWith x) = None
protocol_in (value.LogPrefix x) = None
protocol_in (value.LogLevel x) = None
protocol_in value.LogTcpSequence = None
protocol_in value.LogTcpOptions = None
protocol_in value.LogIpOptions = None
protocol_in value.LogUid = None

-- the ports of a value of `--ports`, which asks for the source or the destination port; other values contain none
abbrev pub both_ports_in : Value → Option (List Ports)
both_ports_in (value.Source x) = None
both_ports_in (value.Destination x) = None
both_ports_in (value.InInterface x) = None
both_ports_in (value.OutInterface x) = None
both_ports_in (value.Protocol x) = None
both_ports_in value.Fragment = None
both_ports_in (value.SourcePort x) = None
both_ports_in (value.DestinationPort x) = None
both_ports_in (value.TcpFlags x) = None
both_ports_in (value.IcmpType x) = None
both_ports_in (value.SourcePorts x) = None
both_ports_in (value.DestinationPorts x) = None
both_ports_in (value.Ports list) = Some list
both_ports_in (value.SourceRange x) = None
both_ports_in (value.DestinationRange x) = None
both_ports_in (value.Ctstate x) = None
both_ports_in (value.State x) = None
both_ports_in (value.Comment x) = None
both_ports_in (value.TtlEqual x) = None
both_ports_in (value.TtlGreater x) = None
both_ports_in (value.TtlLess x) = None
both_ports_in (value.RejectWith x) = None
both_ports_in (value.LogPrefix x) = None
both_ports_in (value.LogLevel x) = None
both_ports_in value.LogTcpSequence = None
both_ports_in value.LogTcpOptions = None
both_ports_in value.LogIpOptions = None
both_ports_in value.LogUid = None

-- the answer of a value of `--reject-with`; other values contain none
abbrev pub reject_type_in : Value → Option RejectType
reject_type_in (value.Source x) = None
reject_type_in (value.Destination x) = None
reject_type_in (value.InInterface x) = None
reject_type_in (value.OutInterface x) = None
reject_type_in (value.Protocol x) = None
reject_type_in value.Fragment = None
reject_type_in (value.SourcePort x) = None
reject_type_in (value.DestinationPort x) = None
reject_type_in (value.TcpFlags x) = None
reject_type_in (value.IcmpType x) = None
reject_type_in (value.SourcePorts x) = None
reject_type_in (value.DestinationPorts x) = None
reject_type_in (value.Ports x) = None
reject_type_in (value.SourceRange x) = None
reject_type_in (value.DestinationRange x) = None
reject_type_in (value.Ctstate x) = None
reject_type_in (value.State x) = None
reject_type_in (value.Comment x) = None
reject_type_in (value.TtlEqual x) = None
reject_type_in (value.TtlGreater x) = None
reject_type_in (value.TtlLess x) = None
reject_type_in (value.RejectWith answer) = Some answer
reject_type_in (value.LogPrefix x) = None
reject_type_in (value.LogLevel x) = None
reject_type_in value.LogTcpSequence = None
reject_type_in value.LogTcpOptions = None
reject_type_in value.LogIpOptions = None
reject_type_in value.LogUid = None
