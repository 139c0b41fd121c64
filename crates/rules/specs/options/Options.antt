-- The table of options: a row for each (iptables(8), PARAMETERS; iptables-extensions(8)).
use Rattle.std.specs.Prelude.{ℕ, Bool, true, false, ◌||◌, List, [], ◌∷◌, Option, find, codes}
use Rattle.std.specs.List.{list_any}
use Rattle.std.specs.Str.{bytes_eq}
use Rattle.rules.specs.declared.options.match_kind.MatchKind.{MatchKind}
use Rattle.rules.specs.declared.options.match_kind.MatchKind.TheVariants as kind
use Rattle.rules.specs.declared.options.option.MatchKinds.{MatchKinds}
use Rattle.rules.specs.declared.options.option.MatchKinds.TheVariants.{One, Either}
use Rattle.rules.specs.declared.options.option.Opt.{Opt}
use Rattle.rules.specs.declared.options.option.Opt.TheVariants as opt
use Rattle.rules.specs.declared.options.option.Owner.{Owner}
use Rattle.rules.specs.declared.options.option.Owner.TheVariants as owned
use Rattle.rules.specs.declared.options.option.Extended.TheVariants as extended
use Rattle.rules.specs.options.Matches.{same_kind}

-- an option's names, the first of which is printed, how many values follow it, whether `!` may stand before it, what it belongs to
-- (a rule, some matches, a target), and its place among the options of its owner; options with the same place exclude each other
pub record OptionSpec : Type 0 where
  pub names : List (List ℕ)
  pub values : ℕ
  pub inverts : Bool
  pub owner : Owner
  pub slot : ℕ

-- a row of these
abbrev pub option_row_with : List (List ℕ) → ℕ → Bool → Owner → ℕ → OptionSpec
option_row_with names values inverts owner slot = record { names = names; values = values; inverts = inverts; owner = owner; slot = slot }

-- an option with a short and a long name
abbrev pub or : List ℕ → List ℕ → List (List ℕ)
or short long = short ∷ long ∷ []

-- an option with one name
abbrev pub alone : List ℕ → List (List ℕ)
alone name = name ∷ []

-- it belongs to this match
abbrev pub of : MatchKind → Owner
of k = owned.Match (One k)

-- it belongs to the matches tcp and udp
abbrev pub of_ports : Owner
of_ports = owned.Match (Either kind.Tcp kind.Udp)

-- the table of options
abbrev pub option_row : Opt → OptionSpec
option_row opt.Source = option_row_with (codes "-s" ∷ codes "--source" ∷ codes "--src" ∷ []) 1 true owned.Rule 0
option_row opt.Destination = option_row_with (codes "-d" ∷ codes "--destination" ∷ codes "--dst" ∷ []) 1 true owned.Rule 1
option_row opt.InInterface = option_row_with (or (codes "-i") (codes "--in-interface")) 1 true owned.Rule 2
option_row opt.OutInterface = option_row_with (or (codes "-o") (codes "--out-interface")) 1 true owned.Rule 3
option_row opt.Protocol = option_row_with (or (codes "-p") (codes "--protocol")) 1 true owned.Rule 4
option_row opt.Fragment = option_row_with (or (codes "-f") (codes "--fragment")) 0 true owned.Rule 5
option_row opt.Match = option_row_with (or (codes "-m") (codes "--match")) 1 false owned.Start 0
option_row opt.Jump = option_row_with (or (codes "-j") (codes "--jump")) 1 false owned.Jump 0
option_row opt.Goto = option_row_with (or (codes "-g") (codes "--goto")) 1 false owned.Goto 0
option_row opt.SourcePort = option_row_with (or (codes "--sport") (codes "--source-port")) 1 true of_ports 0
option_row opt.DestinationPort = option_row_with (or (codes "--dport") (codes "--destination-port")) 1 true of_ports 1
option_row opt.TcpFlags = option_row_with (alone (codes "--tcp-flags")) 2 true (of kind.Tcp) 2
option_row opt.Syn = option_row_with (alone (codes "--syn")) 0 true (of kind.Tcp) 2
option_row opt.IcmpType = option_row_with (alone (codes "--icmp-type")) 1 true (of kind.Icmp) 0
option_row opt.SourcePorts = option_row_with (or (codes "--sports") (codes "--source-ports")) 1 true (of kind.Multiport) 0
option_row opt.DestinationPorts = option_row_with (or (codes "--dports") (codes "--destination-ports")) 1 true (of kind.Multiport) 0
option_row opt.Ports = option_row_with (alone (codes "--ports")) 1 true (of kind.Multiport) 0
option_row opt.SourceRange = option_row_with (alone (codes "--src-range")) 1 true (of kind.Iprange) 0
option_row opt.DestinationRange = option_row_with (alone (codes "--dst-range")) 1 true (of kind.Iprange) 1
option_row opt.Ctstate = option_row_with (alone (codes "--ctstate")) 1 true (of kind.Conntrack) 0
option_row opt.State = option_row_with (alone (codes "--state")) 1 true (of kind.State) 0
option_row opt.Comment = option_row_with (alone (codes "--comment")) 1 false (of kind.Comment) 0
option_row opt.TtlEqual = option_row_with (alone (codes "--ttl-eq")) 1 true (of kind.Ttl) 0
option_row opt.TtlGreater = option_row_with (alone (codes "--ttl-gt")) 1 false (of kind.Ttl) 0
option_row opt.TtlLess = option_row_with (alone (codes "--ttl-lt")) 1 false (of kind.Ttl) 0
option_row opt.RejectWith = option_row_with (alone (codes "--reject-with")) 1 false (owned.Target extended.Reject) 0
option_row opt.LogPrefix = option_row_with (alone (codes "--log-prefix")) 1 false (owned.Target extended.Log) 0
option_row opt.LogLevel = option_row_with (alone (codes "--log-level")) 1 false (owned.Target extended.Log) 1
option_row opt.LogTcpSequence = option_row_with (alone (codes "--log-tcp-sequence")) 0 false (owned.Target extended.Log) 2
option_row opt.LogTcpOptions = option_row_with (alone (codes "--log-tcp-options")) 0 false (owned.Target extended.Log) 3
option_row opt.LogIpOptions = option_row_with (alone (codes "--log-ip-options")) 0 false (owned.Target extended.Log) 4
option_row opt.LogUid = option_row_with (alone (codes "--log-uid")) 0 false (owned.Target extended.Log) 5

-- the first word, or the empty one
abbrev pub first_of : List (List ℕ) → List ℕ
first_of [] = []
first_of (word ∷ words) = word

-- the word is one of the option's names
abbrev pub spells : List ℕ → Opt → Bool
spells word o = list_any (bytes_eq word) (option_row o).names

-- all options
abbrev pub all_options : List Opt
all_options =
    opt.Source ∷ opt.Destination ∷ opt.InInterface ∷ opt.OutInterface ∷ opt.Protocol ∷ opt.Fragment ∷ opt.Match
    ∷ opt.Jump ∷ opt.Goto ∷ opt.SourcePort ∷ opt.DestinationPort ∷ opt.TcpFlags ∷ opt.Syn ∷ opt.IcmpType
    ∷ opt.SourcePorts ∷ opt.DestinationPorts ∷ opt.Ports ∷ opt.SourceRange ∷ opt.DestinationRange ∷ opt.Ctstate ∷ opt.State
    ∷ opt.Comment ∷ opt.TtlEqual ∷ opt.TtlGreater ∷ opt.TtlLess ∷ opt.RejectWith ∷ opt.LogPrefix ∷ opt.LogLevel ∷ opt.LogTcpSequence ∷ opt.LogTcpOptions
    ∷ opt.LogIpOptions ∷ opt.LogUid ∷ []

-- the option with this name
unfoldable pub option_of : List ℕ → Option Opt
option_of word = find (spells word) all_options

-- the name that is printed
abbrev pub name_of : Opt → List ℕ
name_of o = first_of (option_row o).names

-- how many values follow the option
abbrev pub value_count : Opt → ℕ
value_count o = (option_row o).values

-- `!` may stand before the option
abbrev pub may_be_inverted : Opt → Bool
may_be_inverted o = (option_row o).inverts

-- what the option belongs to
abbrev pub owner : Opt → Owner
owner o = (option_row o).owner

-- the option's place among those of its owner
abbrev pub slot : Opt → ℕ
slot o = (option_row o).slot

-- the match is one of these
abbrev pub is_one_of : MatchKinds → MatchKind → Bool
is_one_of (One k) m = same_kind k m
is_one_of (Either k l) m = same_kind k m || same_kind l m

-- an option with this owner belongs to the match
abbrev pub is_match_of : Owner → MatchKind → Bool
is_match_of owned.Rule m = false
is_match_of owned.Start m = false
is_match_of owned.Jump m = false
is_match_of owned.Goto m = false
is_match_of (owned.Match ks) m = is_one_of ks m
is_match_of (owned.Target t) m = false

-- the option belongs to the match
abbrev pub kind_has : MatchKind → Opt → Bool
kind_has m o = is_match_of (owner o) m
