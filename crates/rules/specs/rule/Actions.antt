-- Targets: what a rule does with a packet that it matches (iptables(8), TARGETS; iptables-extensions(8), REJECT and LOG).
use Rattle.std.specs.Prelude.{ℕ, Bool, true, false, List, [], ◌∷◌, Option, Some, None, option_map, unwrap_or, codes, if◌then◌else◌}
use Rattle.std.specs.Str.{bytes_eq}
use Rattle.fields.specs.values.Name.{name_of}
use Rattle.fields.specs.declared.values.reject.RejectType.{RejectType}
use Rattle.fields.specs.declared.values.reject.RejectType.TheVariants as reject
use Rattle.rules.specs.options.Options.{owner}
use Rattle.rules.specs.options.Values.{reject_type_in}
use Rattle.rules.specs.rule.Rules.{Rule}
use Rattle.rules.specs.declared.rule.action.Action.{Action}
use Rattle.rules.specs.declared.rule.action.Action.TheVariants as action
use Rattle.rules.specs.declared.options.option.Opt.{Opt}
use Rattle.rules.specs.declared.options.option.Owner.{Owner}
use Rattle.rules.specs.declared.options.option.Owner.TheVariants as owned
use Rattle.rules.specs.declared.options.option.Extended.{Extended}
use Rattle.rules.specs.declared.options.option.Extended.TheVariants as extended
use Rattle.rules.specs.declared.options.option_value.OptionValue.{OptionValue}
use Rattle.rules.specs.declared.rule.target.Target.{Target}
use Rattle.rules.specs.declared.rule.target.Target.TheVariants as target

-- a jump to a chain, if this is a chain's name
abbrev pub jump_to : Option (List ℕ) → Option Action
jump_to None = None
jump_to (Some name) = Some (action.Jump name)

-- the target that `-j` names: ACCEPT, DROP, RETURN, REJECT, LOG, or a chain
unfoldable pub action_of : List ℕ → Option Action
action_of text =
    if bytes_eq text (codes "ACCEPT") then Some action.Accept
    else if bytes_eq text (codes "DROP") then Some action.Drop
    else if bytes_eq text (codes "RETURN") then Some action.Return
    else if bytes_eq text (codes "REJECT") then Some action.Reject
    else if bytes_eq text (codes "LOG") then Some action.Log
    else jump_to (name_of text)

-- the target with options that this is, REJECT or LOG, if it is one
abbrev pub extended_by : Action → Option Extended
extended_by action.Accept = None
extended_by action.Drop = None
extended_by action.Return = None
extended_by action.Reject = Some extended.Reject
extended_by action.Log = Some extended.Log
extended_by (action.Jump name) = None
extended_by (action.Goto name) = None

-- an option with this owner belongs to the target
abbrev pub is_target_of : Option Extended → Owner → Bool
is_target_of None w = false
is_target_of (Some t) owned.Rule = false
is_target_of (Some t) owned.Start = false
is_target_of (Some t) owned.Jump = false
is_target_of (Some t) owned.Goto = false
is_target_of (Some t) (owned.Match ks) = false
is_target_of (Some extended.Reject) (owned.Target extended.Reject) = true
is_target_of (Some extended.Reject) (owned.Target extended.Log) = false
is_target_of (Some extended.Log) (owned.Target extended.Reject) = false
is_target_of (Some extended.Log) (owned.Target extended.Log) = true

-- the same, of any target
abbrev pub is_owned_by : Action → Owner → Bool
is_owned_by a w = is_target_of (extended_by a) w

-- the same, of the rule's target, if it has one
abbrev pub is_action_of : Option Action → Owner → Bool
is_action_of None w = false
is_action_of (Some a) w = is_owned_by a w

-- the option belongs to the rule's target
abbrev pub action_has : Option Action → Opt → Bool
action_has a o = is_action_of a (owner o)

-- the answer of REJECT among the options of the target; without one it is icmp-port-unreachable
abbrev pub reject_in : List OptionValue → RejectType
reject_in [] = reject.PortUnreachable
reject_in (s ∷ ss) = unwrap_or (reject_type_in s.value) (reject_in ss)

-- the target, with its answer where it is REJECT
abbrev pub target_with : Action → List OptionValue → Target
target_with action.Accept target_options = target.Accept
target_with action.Drop target_options = target.Drop
target_with action.Return target_options = target.Return
target_with action.Reject target_options = target.Reject (reject_in target_options)
target_with action.Log target_options = target.Log
target_with (action.Jump name) target_options = target.Jump name
target_with (action.Goto name) target_options = target.Goto name

-- the target of a rule, if it has one
abbrev pub target_of : Rule → Option Target
target_of r = option_map (λ a. target_with a r.target_options) r.action

-- the target is a chain, as it was read
abbrev pub leads_to_chain : Option Action → Bool
leads_to_chain None = false
leads_to_chain (Some action.Accept) = false
leads_to_chain (Some action.Drop) = false
leads_to_chain (Some action.Return) = false
leads_to_chain (Some action.Reject) = false
leads_to_chain (Some action.Log) = false
leads_to_chain (Some (action.Jump name)) = true
leads_to_chain (Some (action.Goto name)) = true

-- the target with another chain's name, if it names a chain
abbrev pub action_with_chain_name : List ℕ → Option Action → Option Action
action_with_chain_name name None = None
action_with_chain_name name (Some action.Accept) = Some action.Accept
action_with_chain_name name (Some action.Drop) = Some action.Drop
action_with_chain_name name (Some action.Return) = Some action.Return
action_with_chain_name name (Some action.Reject) = Some action.Reject
action_with_chain_name name (Some action.Log) = Some action.Log
action_with_chain_name name (Some (action.Jump old)) = Some (action.Jump name)
action_with_chain_name name (Some (action.Goto old)) = Some (action.Goto name)

-- the rule with another chain's name in its target, if it names a chain
abbrev pub with_chain_name : List ℕ → Rule → Rule
with_chain_name name r =
    record { option_values = r.option_values; matches = r.matches; action = action_with_chain_name name r.action; target_options = r.target_options }

-- the target is a chain
abbrev pub names_chain : Option Target → Bool
names_chain None = false
names_chain (Some target.Accept) = false
names_chain (Some target.Drop) = false
names_chain (Some target.Return) = false
names_chain (Some (target.Reject answer)) = false
names_chain (Some target.Log) = false
names_chain (Some (target.Jump name)) = true
names_chain (Some (target.Goto name)) = true
