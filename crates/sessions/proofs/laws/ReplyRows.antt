-- The lines of worked rules and the replies to packets, computed.
use Rattle.std.proofs.Common.{◌≡◌, ℕ, Bool, true, false, List, [], ◌∷◌, ◌++◌, Some, flat_map, refl, codes}
use Rattle.std.specs.Fmt.{digits}
use Rattle.fields.specs.declared.numbers.field.Field.{Field}
use Rattle.fields.specs.values.ConnectionState.{marks_of}
use Rattle.fields.specs.values.Interface.{interface_value}
use Rattle.fields.specs.values.NameList.{set_listed}
use Rattle.rules.specs.rule.Allows.{allows}
use Rattle.rules.specs.rule.Rules.{Match, Rule}
use Rattle.rules.specs.declared.options.match_kind.MatchKind.{MatchKind}
use Rattle.rules.specs.declared.options.option_value.OptionValue.{OptionValue}
use Rattle.rules.specs.declared.options.value.Value.{Value}
use Rattle.classify.specs.Line.{line_of}
use Rattle.fields.specs.Packet.{PacketView as Packet}
use Rattle.fields.specs.declared.packet.hook.Hook.TheVariants.{Input}
use Rattle.rules.specs.rule.Crossing.{cross}
use Rattle.rules.specs.declared.rule.action.Action.{Action}
use Rattle.table.specs.chains.Table.{Table, empty_table}
use Rattle.table.specs.edits.Edits.{Edit, Append, NewChain, SetPolicy}
use Rattle.table.specs.edits.Headline.{edited_by}
use Rattle.table.specs.walk.Walk.{too_long, walk_within}
use Rattle.fields.specs.declared.numbers.field.Field.TheVariants as field
use Rattle.rules.specs.declared.options.match_kind.MatchKind.TheVariants as kind
use Rattle.rules.specs.declared.options.value.Value.TheVariants as value
use Rattle.rules.specs.declared.rule.action.Action.TheVariants as action
use Rattle.fields.specs.declared.values.icmp.Asked.TheVariants as asked
use Rattle.fields.specs.declared.values.reject.RejectType.TheVariants as reject
use Rattle.sessions.specs.Replies.{field_line, hexadecimal, line_text, packet_reply, walked_text}

-- ---- The lines of worked rules. A line is computed from the rules by a look at each number of its field. Where these are too many, as of
-- addresses and interfaces, the pieces are given, and their text is computed.

-- a condition
abbrev pub asks : Value → List OptionValue
asks v = record { inverted = false; value = v } ∷ []

-- a match with one option
abbrev pub with_match : MatchKind → Value → List Match
with_match k v = record { kind = k; option_values = asks v } ∷ []

-- a rule that drops
abbrev pub drops : List OptionValue → List Match → Rule
drops option_values matches = record { option_values = option_values; matches = matches; action = Some action.Drop; target_options = [] }

-- `-s 10.0.0.0/8`, and `-p tcp --dport 22`
abbrev two_rules : List Rule
two_rules =
    drops (asks (value.Source (record { address = 167772160; length = 8 }))) []
    ∷ drops (asks (value.Protocol 6)) (with_match kind.Tcp (value.DestinationPort (record { from = 22; to = 22 }))) ∷ []

protocols : field_line two_rules field.Protocol ≡ codes "proto 0:{1} 6:{1,2} 7:{1}\n"
unfolding digits allows line_of
protocols = refl

fragments : field_line two_rules field.Fragment ≡ codes "frag 0:{1,2} 1:{1}\n"
unfolding digits allows line_of
fragments = refl

ports : field_line two_rules field.DestinationPort ≡ codes "dport 0:{1} 22:{1,2} 23:{1}\n"
unfolding digits allows line_of
ports = refl

no_flags_asked : field_line two_rules field.TcpFlags ≡ codes "flags 0:{1,2}\n"
unfolding digits allows line_of
no_flags_asked = refl

no_states_asked : field_line two_rules field.ConnectionState ≡ codes "ct 0:{1,2}\n"
unfolding digits allows line_of
no_states_asked = refl

-- `-p tcp --syn`
flags : field_line (drops (asks (value.Protocol 6)) (with_match kind.Tcp (value.TcpFlags (record { mask = 23; comp = 2 }))) ∷ []) field.TcpFlags
    ≡ codes "flags 0:{} 2:{1} 3:{} 10:{1} 11:{} 34:{1} 35:{} 42:{1} 43:{}\n"
unfolding digits allows line_of
flags = refl

-- `-p 6 -m state --state established,NEW`
states : field_line (drops (asks (value.Protocol 6)) (with_match kind.State (value.State 10)) ∷ []) field.ConnectionState ≡ codes "ct 0:{} 2:{1} 6:{} 10:{1}\n"
unfolding digits allows line_of marks_of set_listed
states = refl

-- the texts of pieces

abbrev first_alone : List Bool
first_alone = true ∷ false ∷ []

abbrev second_alone : List Bool
second_alone = false ∷ true ∷ []

abbrev both : List Bool
both = true ∷ true ∷ []

-- the reply for `two_rules`, of its pieces
abbrev pieces_of_two : List (Field × List (ℕ × List Bool))
pieces_of_two =
    (field.Source, (0, second_alone) ∷ (167772160, both) ∷ (184549376, second_alone) ∷ [])
    ∷ (field.Destination, (0, both) ∷ [])
    ∷ (field.InIface, (0, both) ∷ [])
    ∷ (field.OutIface, (0, both) ∷ [])
    ∷ (field.Protocol, (0, first_alone) ∷ (6, both) ∷ (7, first_alone) ∷ [])
    ∷ (field.Fragment, (0, both) ∷ (1, first_alone) ∷ [])
    ∷ (field.SourcePort, (0, both) ∷ [])
    ∷ (field.DestinationPort, (0, first_alone) ∷ (22, both) ∷ (23, first_alone) ∷ [])
    ∷ (field.TcpFlags, (0, both) ∷ [])
    ∷ (field.IcmpType, (0, both) ∷ [])
    ∷ (field.ConnectionState, (0, both) ∷ [])
    ∷ (field.TimeToLive, (0, both) ∷ [])
    ∷ []

whole_reply : flat_map (λ line. line_text line.0 line.1) pieces_of_two
    ≡ codes "src 0:{2} 167772160:{1,2} 184549376:{2}\ndst 0:{1,2}\nin 00000000000000000000000000000000:{1,2}\n"
    ++ (codes "out 00000000000000000000000000000000:{1,2}\nproto 0:{1} 6:{1,2} 7:{1}\nfrag 0:{1,2} 1:{1}\nsport 0:{1,2}\n"
    ++ codes "dport 0:{1} 22:{1,2} 23:{1}\nflags 0:{1,2}\nicmp 0:{1,2}\nct 0:{1,2}\nttl 0:{1,2}\n")
unfolding digits hexadecimal
whole_reply = refl

three_numbers : line_text field.Source ((0, true ∷ false ∷ true ∷ []) ∷ (167772160, true ∷ both) ∷ (184549376, true ∷ false ∷ true ∷ []) ∷ [])
    ≡ codes "src 0:{1,3} 167772160:{1,2,3} 184549376:{1,3}\n"
unfolding digits
three_numbers = refl

no_rule : line_text field.DestinationPort ((0, false ∷ false ∷ []) ∷ (22, both) ∷ (23, false ∷ false ∷ []) ∷ []) ≡ codes "dport 0:{} 22:{1,2} 23:{}\n"
unfolding digits
no_rule = refl

last_address : line_text field.Destination ((0, false ∷ []) ∷ (4294967295, true ∷ []) ∷ []) ≡ codes "dst 0:{} 4294967295:{1}\n"
unfolding digits
last_address = refl

-- `-i eth+`
interfaces : line_text field.InIface ((0, false ∷ []) ∷ (interface_value (codes "eth"), true ∷ []) ∷ (interface_value (codes "eti"), false ∷ []) ∷ [])
    ≡ codes "in 00000000000000000000000000000000:{} 65746800000000000000000000000000:{1} 65746900000000000000000000000000:{}\n"
unfolding digits hexadecimal interface_value
interfaces = refl

all_digits : hexadecimal 0x0123456789abcdeffedcba9876543210 ≡ codes "0123456789abcdeffedcba9876543210"
unfolding hexadecimal
all_digits = refl

echo_requests : line_text field.IcmpType ((0, false ∷ []) ∷ (2048, true ∷ []) ∷ (2304, false ∷ []) ∷ []) ≡ codes "icmp 0:{} 2048:{1} 2304:{}\n"
unfolding digits
echo_requests = refl

-- ---- The replies to packets, computed on worked rows.

-- a rule without conditions
abbrev does : Action → Rule
does act = record { option_values = []; matches = []; action = Some act; target_options = [] }

abbrev input : List ℕ
input = codes "INPUT"

-- the table after these edits of the first
abbrev made : List Edit → Table
made edits = edited_by empty_table edits

-- the table of one rule in INPUT
abbrev ruled : Rule → Table
ruled rule = made (Append input rule ∷ [])

-- from 1.1.1.1 to 2.2.2.2, with a protocol and its numbers for frag, sport, dport, flags and icmp
abbrev packet : ℕ → ℕ → ℕ → ℕ → ℕ → ℕ → Packet
packet protocol fragment source destination flags icmp =
    record { hook = Input; values = 16843009 ∷ 33686018 ∷ 0 ∷ 0 ∷ protocol ∷ fragment ∷ source ∷ destination ∷ flags ∷ icmp ∷ 0 ∷ 64 ∷ [] }

-- `-p tcp --syn -j DROP`
abbrev drops_syn : Table
drops_syn = ruled (drops (asks (value.Protocol 6)) (with_match kind.Tcp (value.TcpFlags (record { mask = 23; comp = 2 }))))

syn_passes_with_ack : packet_reply drops_syn (packet 6 0 1000 80 18 0) ≡ codes "verdict ACCEPT by policy\n"
unfolding packet_reply walk_within allows cross digits
syn_passes_with_ack = refl

syn_is_dropped : packet_reply drops_syn (packet 6 0 1000 80 2 0) ≡ codes "INPUT 1\nverdict DROP by rule\n"
unfolding packet_reply walk_within allows cross digits
syn_is_dropped = refl

-- `-p tcp ! --dport 80 -j DROP`
abbrev not_to_web : Match
not_to_web = record { kind = kind.Tcp; option_values = record { inverted = true; value = value.DestinationPort (record { from = 80; to = 80 }) } ∷ [] }

fragment_passes : packet_reply (ruled (drops (asks (value.Protocol 6)) (not_to_web ∷ []))) (packet 6 1 0 0 0 0) ≡ codes "verdict ACCEPT by policy\n"
unfolding packet_reply walk_within allows cross digits
fragment_passes = refl

-- INPUT jumps to a, which goes to b, which returns
returns : packet_reply
    (made (NewChain (codes "a") ∷ NewChain (codes "b") ∷ Append input (does (action.Jump (codes "a"))) ∷ Append input (does action.Drop)
    ∷ Append (codes "a") (does (action.Goto (codes "b"))) ∷ Append (codes "b") (does action.Return) ∷ []))
    (packet 47 0 0 0 0 0)
    ≡ codes "INPUT 1\na 1\nb 1\nINPUT 2\nverdict DROP by rule\n"
unfolding packet_reply walk_within allows cross digits
returns = refl

-- INPUT goes to b, which is empty
goes_to_the_end : packet_reply (made (NewChain (codes "b") ∷ Append input (does (action.Goto (codes "b"))) ∷ Append input (does action.Drop) ∷ [])) (packet 47 0 0 0 0 0)
    ≡ codes "INPUT 1\nverdict ACCEPT by policy\n"
unfolding packet_reply walk_within allows cross digits
goes_to_the_end = refl

-- the policies and ACCEPT
policy_drops : packet_reply (made (SetPolicy input (codes "DROP") ∷ [])) (packet 47 0 0 0 0 0) ≡ codes "verdict DROP by policy\n"
unfolding packet_reply walk_within allows cross digits
policy_drops = refl

rule_accepts : packet_reply (ruled (does action.Accept)) (packet 47 0 0 0 0 0) ≡ codes "INPUT 1\nverdict ACCEPT by rule\n"
unfolding packet_reply walk_within allows cross digits
rule_accepts = refl

-- `-p icmp --icmp-type ping -j REJECT`
abbrev rejects_ping : Rule
rejects_ping = record {
  option_values = asks (value.Protocol 1);
  matches = with_match kind.Icmp (value.IcmpType (asked.OfType 8));
  action = Some action.Reject;
  target_options = asks (value.RejectWith reject.PortUnreachable);
}

ping_is_rejected : packet_reply (ruled rejects_ping) (packet 1 0 0 0 0 2048) ≡ codes "INPUT 1\nverdict REJECT icmp-port-unreachable by rule\n"
unfolding packet_reply walk_within allows cross digits
ping_is_rejected = refl

-- a walk that is too long, whatever the table
too_many_match : walked_text too_long ≡ codes "verdict TOOLONG\n"
too_many_match = refl
