-- What a rule needs: the protocol and the option of each match, and tcp for a reset (iptables-extensions(8), each match; REJECT).
use Rattle.std.specs.Prelude.{ℕ, ◌==◌, Bool, true, false, ◌||◌, ◌&&◌, not, List, [], ◌∷◌, length, Option, Some, None, if◌then◌else◌}
use Rattle.std.specs.List.{list_any}
use Rattle.fields.specs.declared.values.reject.RejectType.{RejectType}
use Rattle.fields.specs.declared.values.reject.RejectType.TheVariants as reject
use Rattle.rules.specs.options.Matches.{match_row}
use Rattle.rules.specs.options.OptionValues.{has_protocol}
use Rattle.rules.specs.options.Values.{reject_type_in}
use Rattle.rules.specs.rule.Rules.{Match, Rule}
use Rattle.rules.specs.declared.reading.fault.Refusal.{Refusal}
use Rattle.rules.specs.declared.reading.fault.Refusal.TheVariants as refusal
use Rattle.rules.specs.declared.options.match_kind.MatchKind.{MatchKind}
use Rattle.rules.specs.declared.options.option_value.OptionValue.{OptionValue}

-- one of the protocols is the rule's, or none is asked for
abbrev pub is_met : List ℕ → List OptionValue → Bool
is_met protocols option_values = (length protocols == 0) || list_any (λ n. has_protocol n option_values) protocols

-- the rule has a protocol that the match needs
abbrev pub is_met_for : MatchKind → List OptionValue → Bool
is_met_for k option_values = is_met (match_row k).protocols option_values

-- what a match lacks: its protocol, or else an option
abbrev pub unmet_match : List OptionValue → Match → Option Refusal
unmet_match option_values m =
    if not (is_met_for m.kind option_values) then Some refusal.ProtocolNeeded
    else if (match_row m.kind).needs_option && (length m.option_values == 0) then Some refusal.MatchOptionMissing
    else None

-- the first refusal, or else the other
abbrev pub or_else : Option Refusal → Option Refusal → Option Refusal
or_else (Some e) other = Some e
or_else None other = other

-- what the first match lacks that lacks something
abbrev pub unmet_matches : List OptionValue → List Match → Option Refusal
unmet_matches option_values [] = None
unmet_matches option_values (m ∷ ms) = or_else (unmet_match option_values m) (unmet_matches option_values ms)

-- REJECT answers with a reset of the connection
abbrev pub answers_reset : Option RejectType → Bool
answers_reset None = false
answers_reset (Some reject.NetUnreachable) = false
answers_reset (Some reject.HostUnreachable) = false
answers_reset (Some reject.PortUnreachable) = false
answers_reset (Some reject.ProtoUnreachable) = false
answers_reset (Some reject.NetProhibited) = false
answers_reset (Some reject.HostProhibited) = false
answers_reset (Some reject.AdminProhibited) = false
answers_reset (Some reject.TcpReset) = true

-- the option says so
abbrev pub is_reset : OptionValue → Bool
is_reset s = answers_reset (reject_type_in s.value)

-- a reset is allowed for tcp (6) only
abbrev pub unmet_reset : List OptionValue → List OptionValue → Option Refusal
unmet_reset option_values target_options =
    if list_any is_reset target_options && not (has_protocol 6 option_values) then Some refusal.ProtocolNeeded else None

-- what a rule lacks after its last word: what one of its matches needs, in their order, or else tcp for a reset
abbrev pub unmet : Rule → Option Refusal
unmet r = or_else (unmet_matches r.option_values r.matches) (unmet_reset r.option_values r.target_options)
