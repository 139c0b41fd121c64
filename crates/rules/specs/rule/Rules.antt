-- Rules: what they consist of (iptables(8), SYNOPSIS, rule-specification), and the form in which they are kept.
use Rattle.std.specs.Prelude.{false, List, [], ◌∷◌, map, filter, Option, Some, None}
use Rattle.fields.specs.declared.values.icmp.Asked.TheVariants as asked
use Rattle.fields.specs.declared.values.reject.RejectType.TheVariants as reject
use Rattle.rules.specs.options.OptionValues.{is_condition}
use Rattle.rules.specs.declared.rule.action.Action.{Action}
use Rattle.rules.specs.declared.rule.action.Action.TheVariants as action
use Rattle.rules.specs.declared.options.match_kind.MatchKind.{MatchKind}
use Rattle.rules.specs.declared.options.match_kind.MatchKind.TheVariants as kind
use Rattle.rules.specs.declared.options.option_value.OptionValue.{OptionValue}
use Rattle.rules.specs.declared.options.value.Value.{Value}
use Rattle.rules.specs.declared.options.value.Value.TheVariants as value

-- a match with its options
pub record Match : Type 0 where
  pub kind : MatchKind
  pub option_values : List OptionValue

-- a rule: its own options, its matches in the order in which they were started, its target, and the options of that; options stand
-- in the order in which they are printed
pub record Rule : Type 0 where
  pub option_values : List OptionValue
  pub matches : List Match
  pub action : Option Action
  pub target_options : List OptionValue

-- the rule before any word of it was read
abbrev pub empty_rule : Rule
empty_rule = record { option_values = []; matches = []; action = None; target_options = [] }

-- what a match asks for where its option isn't given: icmp asks for any type
abbrev pub match_default : MatchKind → Option Value
match_default kind.Tcp = None
match_default kind.Udp = None
match_default kind.Icmp = Some (value.IcmpType asked.Any)
match_default kind.Multiport = None
match_default kind.Iprange = None
match_default kind.Conntrack = None
match_default kind.State = None
match_default kind.Comment = None
match_default kind.Ttl = None

-- what a target does where its option isn't given: REJECT answers with icmp-port-unreachable
abbrev pub action_default : Option Action → Option Value
action_default None = None
action_default (Some action.Accept) = None
action_default (Some action.Drop) = None
action_default (Some action.Return) = None
action_default (Some action.Reject) = Some (value.RejectWith reject.PortUnreachable)
action_default (Some action.Log) = None
action_default (Some (action.Jump name)) = None
action_default (Some (action.Goto name)) = None

-- the options or, where there are none, the default
abbrev pub or_default : Option Value → List OptionValue → List OptionValue
or_default (Some v) [] = record { inverted = false; value = v } ∷ []
or_default v option_values = option_values

-- a match without options that say nothing, and with its default written out
abbrev pub normal_match : Match → Match
normal_match m = record { kind = m.kind; option_values = or_default (match_default m.kind) (filter is_condition m.option_values) }

-- the form in which a rule is kept: options that say nothing are left out, and defaults are written out
abbrev pub normal_form : Rule → Rule
normal_form r = record {
  option_values = filter is_condition r.option_values;
  matches = map normal_match r.matches;
  action = r.action;
  target_options = or_default (action_default r.action) (filter is_condition r.target_options);
}
