-- What values are once they are read: valid, with a text that is one short word.
use Prim.Native.Nat.{suc}
use Rattle.fields.proofs.laws.values.PortListLaws.{between-ports}
use Rattle.std.proofs.Common.{◌≡◌, ℕ, ◌+◌, ◌-◌, ◌*◌, ◌/◌, ◌%◌, ◌^◌, ◌<◌, ◌≤◌, ◌==◌, Bool, true, false, cond, not, ◌&&◌, ◌||◌, List, [], ◌∷◌, ◌++◌, length, flat_map, Option, None, Some, refl, sym, ap, subst, ◌∙◌, arith, length-append}
use Rattle.std.specs.Prelude.{decimal, codes, nat_lt, nat_le, sum_by, find, option_map, All}
use Rattle.std.specs.Int.RustNames.{bit_and}
use Rattle.std.specs.List.{list_all}
use Rattle.std.specs.Option.{option_or}
use Rattle.std.specs.Str.{bytes_eq}
use Rattle.std.proofs.Math.Nat.{mul-div_cancel, div-mul-le_self}
use Rattle.std.proofs.Math.Pow.{pow_pos}
use Rattle.std.proofs.lemmas.Bool.{and_parts, leb-true, ltb-true, eqb-true}
use Rattle.std.proofs.lemmas.Fmt.{length-decimal-le}
use Rattle.std.proofs.lemmas.List.Sums.{sum_by-cons}
use Rattle.fields.specs.Sequence.{◌>>=◌}
use Rattle.fields.specs.values.ConnectionState.{ctstate_of, state_of, untranslated, IsStates, states_text}
use Rattle.fields.specs.text.Cut.{cut_at}
use Rattle.fields.specs.values.Icmp.{IsAsked, icmp_text}
use Rattle.fields.specs.values.Interface.{interface_of}
use Rattle.fields.specs.values.IpRange.{Ends, AreEnds, ends_parted, ip_range_of, ip_range_text}
use Rattle.fields.specs.values.LogLevel.{log_level_text}
use Rattle.fields.specs.values.Name.{is_name, has_name_form, is_target_word, name_of}
use Rattle.fields.specs.values.NameList.{names_listed}
use Rattle.fields.specs.text.Number.{number_to}
use Rattle.fields.specs.values.PortList.{IsPortList, port_count, port_list_text}
use Rattle.fields.specs.values.PortRange.{Ports, ArePorts, ports_between, port_of, port_or, range_parted, port_range_of, ports_text}
use Rattle.fields.specs.values.Prefix.{Network, IsNetwork, IsPrefixText, alone, with_length, with_mask, block_size, network, address_of, prefix_of, address_text, prefix_text}
use Rattle.fields.specs.text.Line.{IsOneLine, is_one_line}
use Rattle.fields.proofs.laws.text.PrintedLaws.{one_line_is}
use Rattle.fields.specs.text.Printed.{IsBareWord}
use Rattle.fields.specs.values.Protocol.{protocols, number_in, protocol_number, protocol_name, one_protocol_of, protocol_of, named_or_decimal, protocol_text}
use Rattle.fields.specs.values.RejectType.{reject_text}
use Rattle.fields.specs.values.TcpFlags.{tcp_flags_text}
use Rattle.fields.specs.values.Ttl.{ttl_text}
use Rattle.fields.specs.values.FreeText.{text_of, is_plain, escaped, in_quotes, quoted}
use Rattle.fields.specs.declared.values.icmp.Asked.{Asked}
use Rattle.fields.specs.declared.values.icmp.Asked.TheVariants.{Any, OfType, OfCode}
use Rattle.fields.specs.declared.values.log_level.LogLevel.{LogLevel}
use Rattle.fields.specs.declared.values.log_level.LogLevel.TheVariants as level
use Rattle.fields.specs.declared.values.reject.RejectType.{RejectType}
use Rattle.fields.specs.declared.values.reject.RejectType.TheVariants as reject
use Rattle.fields.specs.text.Words.{is_bare}
use Rattle.fields.proofs.laws.values.BareLaws.{some-bytes, decimal-bare, joined, ports-bare, list_is_bare, is_bare_word, protocol_is_bare, interface_is_bare, name_is_bare}
use Rattle.fields.proofs.laws.values.NameListLaws.{all_below, all_below-at}
use Rattle.fields.proofs.laws.text.CutLaws.{step_before, same_some}
use Rattle.fields.proofs.laws.values.InterfaceLaws.{interface_of-form}
use Rattle.fields.proofs.laws.ListLaws.{find-passes}
use Rattle.fields.proofs.laws.text.NumberLaws.{number_to_sound}
use Rattle.fields.proofs.laws.values.PrefixLaws.{address_of_sound, prefix_of_sound}

-- a text that is one word without quotes, of so many bytes at most
pub record IsWord (most : ℕ) (text : List ℕ) : Type 0 where
  pub bare : IsBareWord text
  pub short : length text ≤ most

abbrev is_word : ℕ → List ℕ → Bool
is_word most text = is_bare_word text && nat_le (length text) most

word-from : (most : ℕ) (text : List ℕ) → is_word most text ≡ true → IsWord most text
word-from most text is =
    let (bare, short) = and_parts (is_bare_word text) (nat_le (length text) most) is in
    let (some, bytes) = and_parts (nat_lt 0 (length text)) (list_all is_bare text) bare in
    record {
      bare = record { some = some-bytes text (ltb-true 0 (length text) some); bytes = bytes };
      short = leb-true (length text) most short;
    }

decimal-word : (k n : ℕ) → 0 < k → n < 10 ^ k → n < 2 ^ 64 → IsWord k (decimal n)
decimal-word k n some small fits = record { bare = decimal-bare n fits; short = length-decimal-le k n some small fits }

joined-word : (j k byte : ℕ) (front back : List ℕ) → is_bare byte ≡ true → IsWord j front → IsWord k back → IsWord (j + (k + 1)) (front ++ byte ∷ back)
joined-word j k byte front back is before behind =
    let a = before.short in
    let b = behind.short in
    record { bare = joined byte front back is before.bare behind.bare; short = omega (arith, length-append front (byte ∷ back)) }

-- addresses
pub address-word : (a : ℕ) → a < 2 ^ 32 → IsWord 15 (address_text a)
address-word a small =
    joined-word 3 11 46 _ _ refl (byte (a / 16777216) (omega arith))
    (joined-word 3 7 46 _ _ refl (byte (a / 65536 % 256) (omega arith)) (joined-word 3 3 46 _ _ refl (byte (a / 256 % 256) (omega arith)) (byte (a % 256) (omega arith))))
  where
    byte : (n : ℕ) → n < 256 → IsWord 3 (decimal n)
    byte n h = decimal-word 3 n (omega arith) (omega arith) (omega arith)

network-valid : (a n : ℕ) → a < 2 ^ 32 → n ≤ 32 → IsNetwork (network a n)
network-valid a n small short =
    let within = div-mul-le_self a (block_size n) in
    record {
      small = omega (arith, within);
      short = short;
      clear = ap (λ q. q * block_size n) (mul-div_cancel (a / block_size n) (pow_pos (32 - n)));
    }

pub prefix-valid : (text : List ℕ) (p : Network) → prefix_of text ≡ Some p → IsNetwork p
prefix-valid text p e = go text p (prefix_of_sound text p e)
  where
    go : (text : List ℕ) (p : Network) → IsPrefixText text p → IsNetwork p
    go text p (alone a small) = network-valid a 32 small (omega arith)
    go text p (with_length a n small short) = network-valid a n small short
    go text p (with_mask a n small short) = network-valid a n small short

pub prefix-word : (p : Network) → IsNetwork p → IsWord 18 (prefix_text p)
prefix-word p is =
    let short = is.short in
    joined-word 15 2 47 _ _ refl (address-word p.address is.small) (decimal-word 2 p.length (omega arith) (omega arith) (omega arith))

pub interface-word : (x : List ℕ) → interface_of x ≡ Some x → IsWord 15 x
interface-word x reads = record { bare = interface_is_bare x reads; short = (interface_of-form x reads).few }

-- chain names
pub name-valid : (text x : List ℕ) → name_of text ≡ Some x → name_of x ≡ Some x
unfolding name_of
name-valid text x e = go (is_name text) refl e
  where
    go : (t : Bool) → is_name text ≡ t → cond t (Some text) None ≡ Some x → name_of x ≡ Some x
    go true on h = let same = same_some text x h in subst (λ y. name_of y ≡ Some y) same (ap (λ t. cond t (Some text) None) on)
    go false off h = absurd (cc)

pub name-form : (x : List ℕ) → name_of x ≡ Some x → (has_name_form x ≡ true) × (not (is_target_word x) ≡ true)
unfolding name_of
name-form x e = go (is_name x) refl e
  where
    go : (t : Bool) → is_name x ≡ t → cond t (Some x) None ≡ Some x → (has_name_form x ≡ true) × (not (is_target_word x) ≡ true)
    go true on h = and_parts (has_name_form x) (not (is_target_word x)) on
    go false off h = absurd (cc)

pub name-word : (x : List ℕ) → name_of x ≡ Some x → IsWord 28 x
name-word x e =
    let form = (name-form x e).0 in
    let a = (and_parts _ _ form).0 in
    let b = (and_parts _ _ a).0 in
    let c = (and_parts _ _ b).0 in
    record { bare = name_is_bare x e; short = leb-true (length x) 28 (and_parts (nat_lt 0 (length x)) (nat_le (length x) 28) c).1 }

-- protocols
small-number : (text : List ℕ) (n : ℕ) → number_in text protocols ≡ Some n → n < 256
small-number text n e = go (find (λ (entry : List ℕ × ℕ). bytes_eq entry.0 text) protocols) refl e
  where
    all-small : list_all (λ (entry : List ℕ × ℕ). nat_lt entry.1 256) protocols ≡ true
    all-small = refl

    go : (o : Option (List ℕ × ℕ)) → find (λ (entry : List ℕ × ℕ). bytes_eq entry.0 text) protocols ≡ o → option_map (λ (entry : List ℕ × ℕ). entry.1) o ≡ Some n → n < 256
    go None found h = absurd (cc)
    go (Some entry) found h =
        let is = ltb-true entry.1 256 (find-passes (λ (entry : List ℕ × ℕ). bytes_eq entry.0 text) (λ (entry : List ℕ × ℕ). nat_lt entry.1 256) protocols entry found all-small).1 in
        let same = same_some entry.1 n h in
        omega (arith, same)

pub protocol-valid : (text : List ℕ) (n : ℕ) → protocol_of text ≡ Some n → n < 256
unfolding protocol_of one_protocol_of protocol_number
protocol-valid text n e = go (bytes_eq text (codes "all")) e
  where
    one : (o : Option ℕ) → number_in text protocols ≡ o → option_or o (number_to 255 text) ≡ Some n → n < 256
    one (Some m) found h = small-number text n (found ∙ h)
    one None found h = let within = (number_to_sound 255 text n h).1 in omega arith

    go : (t : Bool) → cond t (Some 0) (option_or (number_in text protocols) (number_to 255 text)) ≡ Some n → n < 256
    go true h = let same = same_some 0 n h in omega (arith, same)
    go false h = one (number_in text protocols) refl h

pub protocol-word : (n : ℕ) → n < 256 → IsWord 9 (protocol_text n)
unfolding protocol_text protocol_name
protocol-word n small = record { bare = protocol_is_bare n small; short = go (find (λ (entry : List ℕ × ℕ). entry.1 == n) protocols) refl }
  where
    all-short : list_all (λ (entry : List ℕ × ℕ). nat_le (length entry.0) 9) protocols ≡ true
    all-short = refl

    go : (o : Option (List ℕ × ℕ)) → find (λ (entry : List ℕ × ℕ). entry.1 == n) protocols ≡ o → length (named_or_decimal n (option_map (λ entry. entry.0) o)) ≤ 9
    go None found = let short = length-decimal-le 3 n (omega arith) (omega arith) (omega arith) in omega arith
    go (Some entry) found = leb-true (length entry.0) 9 (find-passes (λ (e : List ℕ × ℕ). e.1 == n) (λ (e : List ℕ × ℕ). nat_le (length e.0) 9) protocols entry found all-short).1

port-small : (text : List ℕ) (n : ℕ) → port_of text ≡ Some n → n ≤ 65535
port-small text n e = (number_to_sound 65535 text n e).1

or-small : (text : List ℕ) (n : ℕ) → port_or 65535 text ≡ Some n → n ≤ 65535
or-small [] n e = let same = same_some 65535 n e in omega (arith, same)
or-small (b ∷ bs) n e = port-small (b ∷ bs) n e

pub ports-valid : (text : List ℕ) (p : Ports) → port_range_of text ≡ Some p → ArePorts p
unfolding port_range_of
ports-valid text p e = go (cut_at 58 text) e
  where
    go : (o : Option (List ℕ × List ℕ)) → range_parted text o ≡ Some p → ArePorts p
    go None h =
        let (port, read, is) = step_before (port_of text) (λ port. ports_between port port) p h in
        between-ports port port p (port-small text port read) is
    go (Some q) h =
        let (from, read, rest) = step_before (port_or 0 q.0) (λ from. port_or 65535 q.1 >>= λ to. ports_between from to) p h in
        let (to, read_to, is) = step_before (port_or 65535 q.1) (λ to. ports_between from to) p rest in
        between-ports from to p (or-small q.1 to read_to) is

-- an item of a list has at most five bytes, or eleven where it counts as two
item-short : (p : Ports) → ArePorts p → length (ports_text p) + 1 ≤ 6 * port_count p
item-short p are = go (p.from == p.to)
  where
    ordered : p.from ≤ p.to
    ordered = are.ordered

    within : p.to ≤ 65535
    within = are.within

    five : (n : ℕ) → n ≤ 65535 → length (decimal n) ≤ 5
    five n h = length-decimal-le 5 n (omega arith) (omega arith) (omega arith)

    go : (t : Bool) → length (cond t (decimal p.from) (decimal p.from ++ 58 ∷ decimal p.to)) + 1 ≤ 6 * cond t 1 2
    go true = let a = five p.from (omega (arith, ordered, within)) in omega arith
    go false =
        let a = five p.from (omega (arith, ordered, within)) in
        let b = five p.to within in
        omega (arith, length-append (decimal p.from) (58 ∷ decimal p.to))

pub ports-word : (p : Ports) → ArePorts p → IsWord 11 (ports_text p)
ports-word p are = record { bare = ports-bare p are; short = (let short = item-short p are in let count = at_most_two (p.from == p.to) in omega arith) }
  where
    at_most_two : (t : Bool) → cond t 1 2 ≤ 2
    at_most_two true = omega arith
    at_most_two false = omega arith

items-short : (item : Ports) (items : List Ports) → All ArePorts (item ∷ items) → length (port_list_text (item ∷ items)) + 1 ≤ 6 * sum_by port_count (item ∷ items)
items-short item [] are = let one = item-short item (are 0 item (omega arith)) in omega arith
items-short item (next ∷ items) are =
    let rest : All ArePorts (next ∷ items) = λ k d within. are (suc k) d (omega arith) in
    let one = item-short item (are 0 item (omega arith)) in
    let others = items-short next items rest in
    let counts : sum_by port_count (item ∷ next ∷ items) ≡ port_count item + sum_by port_count (next ∷ items) = sum_by-cons port_count item (next ∷ items) in
    let text : length (port_list_text (item ∷ next ∷ items)) ≡ length (ports_text item ++ 44 ∷ port_list_text (next ∷ items)) = refl in
    omega (arith, counts, text, length-append (ports_text item) (44 ∷ port_list_text (next ∷ items)))

pub list-word : (items : List Ports) → IsPortList items → IsWord 90 (port_list_text items)
list-word items is = record { bare = list_is_bare items is; short = go items is.some is.few is.ports }
  where
    go : (items : List Ports) → 0 < length items → sum_by port_count items ≤ 15 → All ArePorts items → length (port_list_text items) ≤ 90
    go [] some few are = absurd (omega arith)
    go (item ∷ items) some few are = let short = items-short item items are in omega arith

-- flags and states
flag-words : all_below (λ n. is_word 23 (tcp_flags_text n)) 64 ≡ true
unfolding tcp_flags_text names_listed
flag-words = refl

pub flags-word : (n : ℕ) → n < 64 → IsWord 23 (tcp_flags_text n)
flags-word n small = word-from 23 (tcp_flags_text n) (all_below-at (λ n. is_word 23 (tcp_flags_text n)) 64 n flag-words small)

state-words : all_below (λ n. (n == 0) || is_word 60 (states_text n)) 128 ≡ true
unfolding names_listed
state-words = refl

pub states-word : (n : ℕ) → IsStates n → IsWord 60 (states_text n)
states-word n is = go (n == 0) refl (all_below-at (λ n. (n == 0) || is_word 60 (states_text n)) 128 n state-words is.known)
  where
    go : (t : Bool) → (n == 0) ≡ t → (t || is_word 60 (states_text n)) ≡ true → IsWord 60 (states_text n)
    go true none h = let some = is.some in absurd (omega (arith, eqb-true n 0 none))
    go false some h = word-from 60 (states_text n) h

pub state-valid : (text : List ℕ) (n : ℕ) → state_of text ≡ Some n → (ctstate_of text ≡ Some n) × (bit_and n 96 ≡ 0)
state-valid text n e =
    let (m, read, is) = step_before (ctstate_of text) untranslated n e in
    go m read (bit_and m 96 == 0) refl is
  where
    go : (m : ℕ) → ctstate_of text ≡ Some m → (t : Bool) → (bit_and m 96 == 0) ≡ t → cond t (Some m) None ≡ Some n → (ctstate_of text ≡ Some n) × (bit_and n 96 ≡ 0)
    go m read true on h =
        let same = same_some m n h in
        (read ∙ ap Some same, ap (λ k. bit_and k 96) (sym same) ∙ eqb-true (bit_and m 96) 0 on)
    go m read false off h = absurd (cc)

-- ICMP types
pub icmp-word : (asked : Asked) → IsAsked asked → IsWord 7 (icmp_text asked)
icmp-word Any is = word-from 7 (codes "any") refl
icmp-word (OfType t) is =
    let word = decimal-word 3 t (omega arith) (omega arith) (omega arith) in
    let short = word.short in
    record { bare = word.bare; short = omega arith }
icmp-word (OfCode t c) is = joined-word 3 3 47 _ _ refl (decimal-word 3 t (omega arith) (omega arith) (omega arith)) (decimal-word 3 c (omega arith) (omega arith) (omega arith))

-- ranges of addresses
pub range-valid : (text : List ℕ) (e : Ends) → ip_range_of text ≡ Some e → AreEnds e
unfolding ip_range_of
range-valid text e h = go (cut_at 45 text) h
  where
    ends : (a b : ℕ) → a < 2 ^ 32 → b < 2 ^ 32 → Some (record { from = a; to = b }) ≡ Some e → AreEnds e
    ends a b small large h = let q : Ends = record { from = a; to = b } in subst AreEnds (same_some q e h) (record { from_small = small; to_small = large })

    go : (o : Option (List ℕ × List ℕ)) → ends_parted text o ≡ Some e → AreEnds e
    go None h =
        let (a, read, is) = step_before (address_of text) (λ a. Some (record { from = a; to = a })) e h in
        let small = (address_of_sound text a read).1 in
        ends a a small small is
    go (Some p) h =
        let (a, read, rest) = step_before (address_of p.0) (λ a. address_of p.1 >>= λ b. Some (record { from = a; to = b })) e h in
        let (b, read_b, is) = step_before (address_of p.1) (λ b. Some (record { from = a; to = b })) e rest in
        ends a b (address_of_sound p.0 a read).1 (address_of_sound p.1 b read_b).1 is

pub range-word : (e : Ends) → AreEnds e → IsWord 31 (ip_range_text e)
range-word e are = joined-word 15 15 45 _ _ refl (address-word e.from are.from_small) (address-word e.to are.to_small)

-- answers of REJECT, and levels of LOG
pub reject-word : (r : RejectType) → IsWord 22 (reject_text r)
reject-word reject.NetUnreachable = word-from 22 _ refl
reject-word reject.HostUnreachable = word-from 22 _ refl
reject-word reject.PortUnreachable = word-from 22 _ refl
reject-word reject.ProtoUnreachable = word-from 22 _ refl
reject-word reject.NetProhibited = word-from 22 _ refl
reject-word reject.HostProhibited = word-from 22 _ refl
reject-word reject.AdminProhibited = word-from 22 _ refl
reject-word reject.TcpReset = word-from 22 _ refl

digit : (n : ℕ) → n < 10 → IsWord 1 (decimal n)
digit n small = decimal-word 1 n (omega arith) (omega arith) (omega arith)

pub level-word : (l : LogLevel) → IsWord 1 (log_level_text l)
level-word level.Emerg = digit 0 (omega arith)
level-word level.Alert = digit 1 (omega arith)
level-word level.Crit = digit 2 (omega arith)
level-word level.Error = digit 3 (omega arith)
level-word level.Warning = digit 4 (omega arith)
level-word level.Notice = digit 5 (omega arith)
level-word level.Info = digit 6 (omega arith)
level-word level.Debug = digit 7 (omega arith)

-- times to live
pub ttl-word : (n : ℕ) → n < 256 → IsWord 3 (ttl_text n)
ttl-word n small = decimal-word 3 n (omega arith) (omega arith) (omega arith)

-- texts
pub text-valid : (most : ℕ) (text x : List ℕ) → text_of most text ≡ Some x → (length x ≤ most) × (text_of most x ≡ Some x) × IsOneLine x
unfolding text_of
text-valid most text x e = go (nat_le (length text) most && is_one_line text) refl e
  where
    go : (t : Bool) → (nat_le (length text) most && is_one_line text) ≡ t → cond t (Some text) None ≡ Some x → (length x ≤ most) × (text_of most x ≡ Some x) × IsOneLine x
    go false off h = absurd (cc)
    go true on h =
        let same = same_some text x h in
        let (few, one) = and_parts (nat_le (length text) most) (is_one_line text) on in
        subst (λ y. (length y ≤ most) × (text_of most y ≡ Some y) × IsOneLine y) same (leb-true (length text) most few, ap (λ t. cond t (Some text) None) on, one_line_is text one)

escaped-short : (text : List ℕ) → length (flat_map escaped text) ≤ 2 * length text
escaped-short [] = omega arith
escaped-short (b ∷ text) =
    let one = go (b == 34 || b == 92 || b == 39) in
    let rest = escaped-short text in
    omega (arith, length-append (escaped b) (flat_map escaped text))
  where
    go : (t : Bool) → length (cond t (92 ∷ b ∷ []) (b ∷ [])) ≤ 2
    go true = omega arith
    go false = omega arith

-- with its quotes a text has at most two bytes for each byte, and two more
pub quoted-short : (text : List ℕ) → length (quoted text) ≤ 2 * length text + 2
quoted-short text = go (is_plain text)
  where
    go : (t : Bool) → length (cond t text (in_quotes text)) ≤ 2 * length text + 2
    go true = omega arith
    go false =
        let short = escaped-short text in
        omega (arith, length-append (flat_map escaped text) (34 ∷ []))
