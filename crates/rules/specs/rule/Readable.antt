-- What holds of every rule that was read, so that its text reads back as the same rule (iptables-save(8)).
use Rattle.std.specs.Prelude.{◌≡◌, ◌⊎◌, ◌≤◌, true, List, [], ◌∷◌, ◌++◌, length, map, flat_map, Option, Some, None, Ok}
use Rattle.std.specs.List.{All, Contains}
use Rattle.fields.specs.text.Printed.{Shown}
use Rattle.fields.specs.values.Name.{name_of}
use Rattle.rules.specs.options.Options.{may_be_inverted}
use Rattle.rules.specs.options.OptionValues.{option_of_value, value_of}
use Rattle.rules.specs.Printing.{shown_value}
use Rattle.rules.specs.rule.Needs.{unmet}
use Rattle.rules.specs.rule.Rules.{Match, Rule, normal_form}
use Rattle.rules.specs.declared.rule.action.Action.{Action}
use Rattle.rules.specs.declared.rule.action.Action.TheVariants as action
use Rattle.rules.specs.declared.options.match_kind.MatchKind.{MatchKind}
use Rattle.rules.specs.declared.options.match_kind.MatchKind.TheVariants as kind
use Rattle.rules.specs.declared.options.option.Opt.{Opt}
use Rattle.rules.specs.declared.options.option.Opt.TheVariants as opt
use Rattle.rules.specs.declared.options.option_value.OptionValue.{OptionValue}

-- a place in a listing at which only this option may stand
abbrev pub only : Opt → List Opt
only o = o ∷ []

-- the places of a rule's own options, in the order of a listing
abbrev pub rule_places : List (List Opt)
rule_places =
    only opt.Source ∷ only opt.Destination ∷ only opt.InInterface ∷ only opt.OutInterface ∷ only opt.Protocol ∷ only opt.Fragment ∷ []

-- the places of a match's options; multiport and ttl have a single place for all of their options
abbrev pub match_places : MatchKind → List (List Opt)
match_places kind.Tcp = only opt.SourcePort ∷ only opt.DestinationPort ∷ only opt.TcpFlags ∷ []
match_places kind.Udp = only opt.SourcePort ∷ only opt.DestinationPort ∷ []
match_places kind.Icmp = only opt.IcmpType ∷ []
match_places kind.Multiport = (opt.SourcePorts ∷ opt.DestinationPorts ∷ opt.Ports ∷ []) ∷ []
match_places kind.Iprange = only opt.SourceRange ∷ only opt.DestinationRange ∷ []
match_places kind.Conntrack = only opt.Ctstate ∷ []
match_places kind.State = only opt.State ∷ []
match_places kind.Comment = only opt.Comment ∷ []
match_places kind.Ttl = (opt.TtlEqual ∷ opt.TtlGreater ∷ opt.TtlLess ∷ []) ∷ []

-- the places of a target's options
abbrev pub target_places : Option Action → List (List Opt)
target_places None = []
target_places (Some action.Accept) = []
target_places (Some action.Drop) = []
target_places (Some action.Return) = []
target_places (Some action.Reject) = only opt.RejectWith ∷ []
target_places (Some action.Log) =
    only opt.LogPrefix ∷ only opt.LogLevel ∷ only opt.LogTcpSequence ∷ only opt.LogTcpOptions ∷ only opt.LogIpOptions ∷ only opt.LogUid ∷ []
target_places (Some (action.Jump name)) = []
target_places (Some (action.Goto name)) = []

-- the options stand at some of the places, in their order, and no two at one place
abbrev pub AreInOrder : List (List Opt) → List OptionValue → Type 0
AreInOrder places [] = Unit {0}
AreInOrder [] (s ∷ ss) = ⊥
AreInOrder (place ∷ places) (s ∷ ss) = (Contains place (option_of_value s.value) × AreInOrder places ss) ⊎ AreInOrder places (s ∷ ss)

-- a rule's own options, those of each match and those of the target stand in the order of a listing, with at most one option of
-- each multiport and of each ttl
pub record IsInOrder (r : Rule) : Type 0 where
  pub own : AreInOrder rule_places r.option_values
  pub matches : All (λ (m : Match). AreInOrder (match_places m.kind) m.option_values) r.matches
  pub target : AreInOrder (target_places r.action) r.target_options

-- all options of a rule
abbrev pub all_option_values : Rule → List OptionValue
all_option_values r = r.option_values ++ (flat_map (λ (m : Match). m.option_values) r.matches ++ r.target_options)

-- the words of the option's value are read as the value, and only an option that may be inverted is
pub record ValueReadsBack (s : OptionValue) : Type 0 where
  pub value : value_of (option_of_value s.value) s.inverted (map (λ (w : Shown). w.word) (shown_value s.value)) ≡ Ok s.value
  pub bang : s.inverted ≡ true → may_be_inverted (option_of_value s.value) ≡ true

-- a chain that the target names has a chain's name
abbrev pub NamesChain : Option Action → Type 0
NamesChain None = Unit {0}
NamesChain (Some action.Accept) = Unit {0}
NamesChain (Some action.Drop) = Unit {0}
NamesChain (Some action.Return) = Unit {0}
NamesChain (Some action.Reject) = Unit {0}
NamesChain (Some action.Log) = Unit {0}
NamesChain (Some (action.Jump name)) = name_of name ≡ Some name
NamesChain (Some (action.Goto name)) = name_of name ≡ Some name

-- the rule's options stand in order and their values read back, it has at most 16 matches, each option says something, defaults are
-- written out, and nothing that it needs is missing
pub record IsReadable (r : Rule) : Type 0 where
  pub ordered : IsInOrder r
  pub values : All ValueReadsBack (all_option_values r)
  pub few : length r.matches ≤ 16
  pub chain : NamesChain r.action
  pub normal : normal_form r ≡ r
  pub met : unmet r ≡ None
