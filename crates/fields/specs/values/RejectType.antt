-- The answers that `--reject-with` names (iptables-extensions(8), REJECT).
use Rattle.std.specs.Prelude.{ℕ, List, [], ◌∷◌, Option, codes, find}
use Rattle.std.specs.Str.{bytes_eq}
use Rattle.fields.specs.declared.values.reject.RejectType.{RejectType}
use Rattle.fields.specs.declared.values.reject.RejectType.TheVariants.{NetUnreachable, HostUnreachable, PortUnreachable, ProtoUnreachable}
use Rattle.fields.specs.declared.values.reject.RejectType.TheVariants.{NetProhibited, HostProhibited, AdminProhibited, TcpReset}

-- the name of an answer
abbrev pub reject_text : RejectType → List ℕ
reject_text NetUnreachable = codes "icmp-net-unreachable"
reject_text HostUnreachable = codes "icmp-host-unreachable"
reject_text PortUnreachable = codes "icmp-port-unreachable"
reject_text ProtoUnreachable = codes "icmp-proto-unreachable"
reject_text NetProhibited = codes "icmp-net-prohibited"
reject_text HostProhibited = codes "icmp-host-prohibited"
reject_text AdminProhibited = codes "icmp-admin-prohibited"
reject_text TcpReset = codes "tcp-reset"

-- the first of some answers with this name
abbrev pub reject_named : List ℕ → List RejectType → Option RejectType
reject_named text answers = find (λ answer. bytes_eq (reject_text answer) text) answers

-- all answers
abbrev pub all_reject_types : List RejectType
all_reject_types =
    NetUnreachable ∷ HostUnreachable ∷ PortUnreachable ∷ ProtoUnreachable ∷ NetProhibited ∷ HostProhibited ∷ AdminProhibited
    ∷ TcpReset ∷ []

-- the answer of this name
abbrev pub reject_of : List ℕ → Option RejectType
reject_of text = reject_named text all_reject_types
