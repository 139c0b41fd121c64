-- Sets of packets in words, as `src!=10.0.0.0/8 dport=22,80:90 ct=NEW,ESTABLISHED` (iptables(8), PARAMETERS; iptables-extensions(8)).
use Rattle.std.specs.Prelude.{◌≡◌, ◌≢◌, ℕ, ◌≤◌, ◌==◌, nat_le, ◌&&◌, ◌||◌, Bool, true, false, not, List, [], ◌∷◌, ◌++◌, map, Option, Some, None, is_some, codes, if◌then◌else◌}
use Rattle.std.specs.List.{list_all, list_any, slice_split}
use Rattle.std.specs.Option.{option_or}
use Rattle.std.specs.Str.{bytes_eq}
use Rattle.fields.specs.Packet.{PacketView as Packet, carries_key, point}
use Rattle.fields.specs.Sequence.{◌>>=◌}
use Rattle.fields.specs.declared.numbers.field.Field.{Field}
use Rattle.fields.specs.declared.numbers.field.Field.TheVariants as field
use Rattle.fields.specs.numbers.Field.{name, top}
use Rattle.fields.specs.numbers.Spans.{SpanSet, has}
use Rattle.fields.specs.values.ConnectionState.{ctstate_of, states_pass}
use Rattle.fields.specs.values.TcpFlags.{flag_test_of, flags_pass}
use Rattle.fields.specs.text.Cut.{cut_at}
use Rattle.notation.specs.Range.{range_in, with_commas}
use Rattle.notation.specs.declared.packet_word.PacketWord.{PacketWord}
use Rattle.notation.specs.declared.packet_word.PacketWordFault.{PacketWordFault}
use Rattle.notation.specs.declared.packet_word.PacketWordFault.TheVariants as fault

-- ---- Of which numbers a value holds.

-- the numbers from one to another
abbrev pub within : ℕ × ℕ → ℕ → Bool
within ends x = nat_le ends.0 x && nat_le x ends.1

-- those numbers, if they rise and the field has them
abbrev pub within_field : Field → ℕ × ℕ → Option (ℕ → Bool)
within_field f ends = if nat_le ends.0 ends.1 && nat_le ends.1 (top f) then Some (within ends) else None

-- the same of both ends, if there are any
abbrev pub ends_within : Field → Option (ℕ × ℕ) → Option (ℕ → Bool)
ends_within f ends = ends >>= within_field f

-- `SYN/SYN+ACK`: of the flags behind the slash (47) just those before it are set (iptables-extensions(8), tcp)
abbrev pub flags_tested : Option (List ℕ × List ℕ) → Option (ℕ → Bool)
flags_tested None = None
flags_tested (Some p) = flag_test_of (with_commas p.1) (with_commas p.0) >>= λ test. Some (flags_pass test)

-- `DNAT`: what `--ctstate` takes by that name (iptables-extensions(8), conntrack)
abbrev pub states_taken : List ℕ → Option (ℕ → Bool)
states_taken text = ctstate_of text >>= λ set. Some (states_pass set)

-- of which numbers a value holds that isn't a range
abbrev pub meaning_beside : Field → List ℕ → Option (ℕ → Bool)
meaning_beside field.Source text = None
meaning_beside field.Destination text = None
meaning_beside field.InIface text = None
meaning_beside field.OutIface text = None
meaning_beside field.Protocol text = None
meaning_beside field.Fragment text = None
meaning_beside field.SourcePort text = None
meaning_beside field.DestinationPort text = None
meaning_beside field.TcpFlags text = flags_tested (cut_at 47 text)
meaning_beside field.IcmpType text = None
meaning_beside field.ConnectionState text = states_taken text
meaning_beside field.TimeToLive text = None

-- of which numbers on a field a value holds: a range of them, or what else it says; nothing where it isn't one of the field
abbrev pub meaning : Field → List ℕ → Option (ℕ → Bool)
meaning f text = option_or (ends_within f (range_in f text)) (meaning_beside f text)

-- ---- Lists of values, and words.

-- the values of a list: what stands between its commas (44)
abbrev pub values_of : List ℕ → List (List ℕ)
values_of list = slice_split (λ byte. byte == 44) list

-- each of some values is one of the field
abbrev pub are_known : Field → List (List ℕ) → Bool
are_known f values = list_all (λ value. is_some (meaning f value)) values

-- a value that is known holds of a number
abbrev pub means : Option (ℕ → Bool) → ℕ → Bool
means None x = false
means (Some test) x = test x

-- one of some values holds of a number
abbrev pub one_means : Field → List (List ℕ) → ℕ → Bool
one_means f values x = list_any (λ value. means (meaning f value) x) values

-- the list is `any`
abbrev pub is_any : List ℕ → Bool
is_any list = bytes_eq list (codes "any")

-- the list is `any`, or each of its values is one of the field
abbrev pub is_list : Field → List ℕ → Bool
is_list f list = is_any list || are_known f (values_of list)

-- the numbers of a list: all of `any`, else those of which one of its values holds
abbrev pub is_listed : Field → List ℕ → ℕ → Bool
is_listed f list x = is_any list || one_means f (values_of list) x

-- a set up to the field's top has just the numbers of a list of the field
pub record IsList (f : Field) (list : List ℕ) (set : SpanSet) : Type 0 where
  pub known : is_list f list ≡ true
  pub greatest : set.top ≡ top f
  pub members : (x : ℕ) → x ≤ top f → has set.intervals x ≡ is_listed f list x

-- what stands between the key and the list
abbrev pub sign : Bool → List ℕ
sign denies = if denies then codes "!=" else codes "="

-- a word has this key, this sign and this list
abbrev pub IsWritten : List ℕ → Field → Bool → List ℕ → Type 0
IsWritten text f denies list = text ≡ name f ++ (sign denies ++ list)

-- a word is read: it is written so, with a list of the field
pub record IsRead (text : List ℕ) (word : PacketWord) : Type 0 where
  pub list : List ℕ
  pub written : IsWritten text word.field word.denies list
  pub numbers : IsList word.field list word.numbers

-- a word says of a number on its field that it is in the set: by a list that holds of just these numbers or, denied, of just the others
pub record SaysSet (f : Field) (set : SpanSet) (text : List ℕ) : Type 0 where
  pub denies : Bool
  pub list : List ℕ
  pub written : IsWritten text f denies list
  pub known : is_list f list ≡ true
  pub members : (x : ℕ) → x ≤ top f → has set.intervals x ≡ (if denies then not (is_listed f list x) else is_listed f list x)

-- a word is written with a list that isn't one of the field
pub record HasBadValue (text : List ℕ) : Type 0 where
  pub field : Field
  pub denies : Bool
  pub list : List ℕ
  pub written : IsWritten text field denies list
  pub bad : is_list field list ≡ false

-- Why a word is refused: it is written with no key; or with a list that isn't one of the field.
abbrev pub IsRefused : List ℕ → PacketWordFault → Type 0
IsRefused text fault.NoMemory = Unit {0}
IsRefused text fault.UnknownKey = (f : Field) (denies : Bool) (list : List ℕ) → ¬ (IsWritten text f denies list)
IsRefused text fault.BadValue = HasBadValue text

-- the packet carries the key, and its number is in the set
abbrev pub has_number : Field → SpanSet → Packet → Bool
has_number f set p = carries_key p f && has set.intervals (point p f)

-- What a word says of a packet. `k=L`: it carries k, and its number is in L. `k!=L`: it isn't so; packets without k are meant, too.
abbrev pub says : PacketWord → Packet → Bool
says word p = if word.denies then not (has_number word.field word.numbers p) else has_number word.field word.numbers p

-- some words say of a packet what each of them says
abbrev pub all_say : List PacketWord → Packet → Bool
all_say words p = list_all (λ word. says word p) words
