-- Laws of the tables: each name spells its option or match, each option has so many values, and what holds along a table
-- holds of each row.
use Prim.Native.Nat.{zero, suc}
use Rattle.std.proofs.Common.{◌≡◌, ℕ, ◌<◌, Bool, true, false, List, [], ◌∷◌, length, map, get_or, Some, refl, arith, lit<}
use Rattle.std.specs.Prelude.{codes}
use Rattle.std.specs.List.{list_all}
use Rattle.std.specs.Str.{bytes_eq}
use Rattle.std.proofs.lemmas.Bool.{and_parts}
use Rattle.fields.specs.text.Printed.{Shown}
use Rattle.rules.specs.options.Matches.{all_kinds, kind_of, kind_name}
use Rattle.rules.specs.options.Options.{all_options, option_of, name_of, value_count}
use Rattle.rules.specs.options.OptionValues.{option_of_value}
use Rattle.rules.specs.Printing.{shown_value}
use Rattle.rules.specs.declared.options.match_kind.MatchKind.{MatchKind}
use Rattle.rules.specs.declared.options.match_kind.MatchKind.TheVariants as kind
use Rattle.rules.specs.declared.options.option.Opt.{Opt}
use Rattle.rules.specs.declared.options.option.Opt.TheVariants as opt
use Rattle.rules.specs.declared.options.value.Value.{Value}
use Rattle.rules.specs.declared.options.value.Value.TheVariants as value

-- words as they are read
abbrev pub plain : List Shown → List (List ℕ)
plain ss = map (λ (s : Shown). s.word) ss

pub option_of-name_of : (o : Opt) → option_of (name_of o) ≡ Some o
unfolding option_of
option_of-name_of opt.Source = refl
option_of-name_of opt.Destination = refl
option_of-name_of opt.InInterface = refl
option_of-name_of opt.OutInterface = refl
option_of-name_of opt.Protocol = refl
option_of-name_of opt.Fragment = refl
option_of-name_of opt.Match = refl
option_of-name_of opt.Jump = refl
option_of-name_of opt.Goto = refl
option_of-name_of opt.SourcePort = refl
option_of-name_of opt.DestinationPort = refl
option_of-name_of opt.TcpFlags = refl
option_of-name_of opt.Syn = refl
option_of-name_of opt.IcmpType = refl
option_of-name_of opt.SourcePorts = refl
option_of-name_of opt.DestinationPorts = refl
option_of-name_of opt.Ports = refl
option_of-name_of opt.SourceRange = refl
option_of-name_of opt.DestinationRange = refl
option_of-name_of opt.Ctstate = refl
option_of-name_of opt.State = refl
option_of-name_of opt.Comment = refl
option_of-name_of opt.TtlEqual = refl
option_of-name_of opt.TtlGreater = refl
option_of-name_of opt.TtlLess = refl
option_of-name_of opt.RejectWith = refl
option_of-name_of opt.LogPrefix = refl
option_of-name_of opt.LogLevel = refl
option_of-name_of opt.LogTcpSequence = refl
option_of-name_of opt.LogTcpOptions = refl
option_of-name_of opt.LogIpOptions = refl
option_of-name_of opt.LogUid = refl

pub name_of-bang : (o : Opt) → bytes_eq (name_of o) (codes "!") ≡ false
name_of-bang opt.Source = refl
name_of-bang opt.Destination = refl
name_of-bang opt.InInterface = refl
name_of-bang opt.OutInterface = refl
name_of-bang opt.Protocol = refl
name_of-bang opt.Fragment = refl
name_of-bang opt.Match = refl
name_of-bang opt.Jump = refl
name_of-bang opt.Goto = refl
name_of-bang opt.SourcePort = refl
name_of-bang opt.DestinationPort = refl
name_of-bang opt.TcpFlags = refl
name_of-bang opt.Syn = refl
name_of-bang opt.IcmpType = refl
name_of-bang opt.SourcePorts = refl
name_of-bang opt.DestinationPorts = refl
name_of-bang opt.Ports = refl
name_of-bang opt.SourceRange = refl
name_of-bang opt.DestinationRange = refl
name_of-bang opt.Ctstate = refl
name_of-bang opt.State = refl
name_of-bang opt.Comment = refl
name_of-bang opt.TtlEqual = refl
name_of-bang opt.TtlGreater = refl
name_of-bang opt.TtlLess = refl
name_of-bang opt.RejectWith = refl
name_of-bang opt.LogPrefix = refl
name_of-bang opt.LogLevel = refl
name_of-bang opt.LogTcpSequence = refl
name_of-bang opt.LogTcpOptions = refl
name_of-bang opt.LogIpOptions = refl
name_of-bang opt.LogUid = refl

pub value_count-is : (v : Value) → value_count (option_of_value v) ≡ length (plain (shown_value v))
value_count-is (value.Source x) = refl
value_count-is (value.Destination x) = refl
value_count-is (value.InInterface x) = refl
value_count-is (value.OutInterface x) = refl
value_count-is (value.Protocol x) = refl
value_count-is value.Fragment = refl
value_count-is (value.SourcePort x) = refl
value_count-is (value.DestinationPort x) = refl
value_count-is (value.TcpFlags x) = refl
value_count-is (value.IcmpType x) = refl
value_count-is (value.SourcePorts x) = refl
value_count-is (value.DestinationPorts x) = refl
value_count-is (value.Ports x) = refl
value_count-is (value.SourceRange x) = refl
value_count-is (value.DestinationRange x) = refl
value_count-is (value.Ctstate x) = refl
value_count-is (value.State x) = refl
value_count-is (value.Comment x) = refl
value_count-is (value.TtlEqual x) = refl
value_count-is (value.TtlGreater x) = refl
value_count-is (value.TtlLess x) = refl
value_count-is (value.RejectWith x) = refl
value_count-is (value.LogPrefix x) = refl
value_count-is (value.LogLevel x) = refl
value_count-is value.LogTcpSequence = refl
value_count-is value.LogTcpOptions = refl
value_count-is value.LogIpOptions = refl
value_count-is value.LogUid = refl

pub kind_of-kind_name : (k : MatchKind) → kind_of (kind_name k) ≡ Some k
unfolding kind_of
kind_of-kind_name kind.Tcp = refl
kind_of-kind_name kind.Udp = refl
kind_of-kind_name kind.Icmp = refl
kind_of-kind_name kind.Multiport = refl
kind_of-kind_name kind.Iprange = refl
kind_of-kind_name kind.Conntrack = refl
kind_of-kind_name kind.State = refl
kind_of-kind_name kind.Comment = refl
kind_of-kind_name kind.Ttl = refl

at : {X : Type 0} (test : X → Bool) (xs : List X) (n : ℕ) (d : X) → n < length xs → list_all test xs ≡ true → test (get_or xs n d) ≡ true
at test [] n d within all = absurd (omega arith)
at test (x ∷ xs) n d within all = go n within (and_parts (test x) (list_all test xs) all).0 (λ m inside. at test xs m d inside (and_parts (test x) (list_all test xs) all).1)
  where
    go : (n : ℕ) → n < length (x ∷ xs) → test x ≡ true → ((m : ℕ) → m < length xs → test (get_or xs m d) ≡ true) → test (get_or (x ∷ xs) n d) ≡ true
    go zero within first rest = first
    go (suc m) within first rest = rest m (omega arith)

-- what is tested along the table of options holds of each
pub each_option : (test : Opt → Bool) → list_all test all_options ≡ true → (o : Opt) → test o ≡ true
each_option test all opt.Source = at test all_options 0 opt.Source (lit< tt) all
each_option test all opt.Destination = at test all_options 1 opt.Source (lit< tt) all
each_option test all opt.InInterface = at test all_options 2 opt.Source (lit< tt) all
each_option test all opt.OutInterface = at test all_options 3 opt.Source (lit< tt) all
each_option test all opt.Protocol = at test all_options 4 opt.Source (lit< tt) all
each_option test all opt.Fragment = at test all_options 5 opt.Source (lit< tt) all
each_option test all opt.Match = at test all_options 6 opt.Source (lit< tt) all
each_option test all opt.Jump = at test all_options 7 opt.Source (lit< tt) all
each_option test all opt.Goto = at test all_options 8 opt.Source (lit< tt) all
each_option test all opt.SourcePort = at test all_options 9 opt.Source (lit< tt) all
each_option test all opt.DestinationPort = at test all_options 10 opt.Source (lit< tt) all
each_option test all opt.TcpFlags = at test all_options 11 opt.Source (lit< tt) all
each_option test all opt.Syn = at test all_options 12 opt.Source (lit< tt) all
each_option test all opt.IcmpType = at test all_options 13 opt.Source (lit< tt) all
each_option test all opt.SourcePorts = at test all_options 14 opt.Source (lit< tt) all
each_option test all opt.DestinationPorts = at test all_options 15 opt.Source (lit< tt) all
each_option test all opt.Ports = at test all_options 16 opt.Source (lit< tt) all
each_option test all opt.SourceRange = at test all_options 17 opt.Source (lit< tt) all
each_option test all opt.DestinationRange = at test all_options 18 opt.Source (lit< tt) all
each_option test all opt.Ctstate = at test all_options 19 opt.Source (lit< tt) all
each_option test all opt.State = at test all_options 20 opt.Source (lit< tt) all
each_option test all opt.Comment = at test all_options 21 opt.Source (lit< tt) all
each_option test all opt.TtlEqual = at test all_options 22 opt.Source (lit< tt) all
each_option test all opt.TtlGreater = at test all_options 23 opt.Source (lit< tt) all
each_option test all opt.TtlLess = at test all_options 24 opt.Source (lit< tt) all
each_option test all opt.RejectWith = at test all_options 25 opt.Source (lit< tt) all
each_option test all opt.LogPrefix = at test all_options 26 opt.Source (lit< tt) all
each_option test all opt.LogLevel = at test all_options 27 opt.Source (lit< tt) all
each_option test all opt.LogTcpSequence = at test all_options 28 opt.Source (lit< tt) all
each_option test all opt.LogTcpOptions = at test all_options 29 opt.Source (lit< tt) all
each_option test all opt.LogIpOptions = at test all_options 30 opt.Source (lit< tt) all
each_option test all opt.LogUid = at test all_options 31 opt.Source (lit< tt) all

-- and along the table of matches
pub each_kind : (test : MatchKind → Bool) → list_all test all_kinds ≡ true → (k : MatchKind) → test k ≡ true
each_kind test all kind.Tcp = at test all_kinds 0 kind.Tcp (lit< tt) all
each_kind test all kind.Udp = at test all_kinds 1 kind.Tcp (lit< tt) all
each_kind test all kind.Icmp = at test all_kinds 2 kind.Tcp (lit< tt) all
each_kind test all kind.Multiport = at test all_kinds 3 kind.Tcp (lit< tt) all
each_kind test all kind.Iprange = at test all_kinds 4 kind.Tcp (lit< tt) all
each_kind test all kind.Conntrack = at test all_kinds 5 kind.Tcp (lit< tt) all
each_kind test all kind.State = at test all_kinds 6 kind.Tcp (lit< tt) all
each_kind test all kind.Comment = at test all_kinds 7 kind.Tcp (lit< tt) all
each_kind test all kind.Ttl = at test all_kinds 8 kind.Tcp (lit< tt) all
