-- The table of matches: a row for each (iptables-extensions(8)).
use Rattle.std.specs.Prelude.{ℕ, Bool, true, false, ◌==◌, List, [], ◌∷◌, Option, find, codes}
use Rattle.std.specs.Str.{bytes_eq}
use Rattle.rules.specs.declared.options.match_kind.MatchKind.{MatchKind}
use Rattle.rules.specs.declared.options.match_kind.MatchKind.TheVariants as kind

-- a match's number, its name, the protocols one of which its rule has to name (an empty list: none is needed), whether it needs an
-- option, and whether it looks behind the IP header, and so never matches a further fragment
pub record MatchRow : Type 0 where
  pub number : ℕ
  pub name : List ℕ
  pub protocols : List ℕ
  pub needs_option : Bool
  pub asks_fragment : Bool

-- a row of these
abbrev pub match_row_with : ℕ → List ℕ → List ℕ → Bool → Bool → MatchRow
match_row_with number name protocols needs_option asks_fragment =
    record { number = number; name = name; protocols = protocols; needs_option = needs_option; asks_fragment = asks_fragment }

-- the table of matches; the protocols are tcp 6, udp 17, icmp 1, udplite 136, dccp 33 and sctp 132
abbrev pub match_row : MatchKind → MatchRow
match_row kind.Tcp = match_row_with 0 (codes "tcp") (6 ∷ []) false true
match_row kind.Udp = match_row_with 1 (codes "udp") (17 ∷ []) false true
match_row kind.Icmp = match_row_with 2 (codes "icmp") (1 ∷ []) false true
match_row kind.Multiport = match_row_with 3 (codes "multiport") (6 ∷ 17 ∷ 136 ∷ 33 ∷ 132 ∷ []) true true
match_row kind.Iprange = match_row_with 4 (codes "iprange") [] true false
match_row kind.Conntrack = match_row_with 5 (codes "conntrack") [] true false
match_row kind.State = match_row_with 6 (codes "state") [] true false
match_row kind.Comment = match_row_with 7 (codes "comment") [] true false
match_row kind.Ttl = match_row_with 8 (codes "ttl") [] true false

-- the name of a match
abbrev pub kind_name : MatchKind → List ℕ
kind_name k = (match_row k).name

-- two matches are the same
abbrev pub same_kind : MatchKind → MatchKind → Bool
same_kind k l = (match_row k).number == (match_row l).number

-- all matches
abbrev pub all_kinds : List MatchKind
all_kinds = kind.Tcp ∷ kind.Udp ∷ kind.Icmp ∷ kind.Multiport ∷ kind.Iprange ∷ kind.Conntrack ∷ kind.State ∷ kind.Comment ∷ kind.Ttl ∷ []

-- the matches that an option starts without `-m`, after `-p` with the protocol of the same name: tcp, udp and icmp
abbrev pub implied_kinds : List MatchKind
implied_kinds = kind.Tcp ∷ kind.Udp ∷ kind.Icmp ∷ []

-- the match of a name
unfoldable pub kind_of : List ℕ → Option MatchKind
kind_of name = find (λ k. bytes_eq (kind_name k) name) all_kinds
