-- The text of a number on a field is read as the number, stands without quotes, and is joined name by name.
use Rattle.std.proofs.Common.{◌≡◌, ◌==◌, ℕ, ◌+◌, ◌<◌, true, false, cond, List, [], ◌∷◌, ◌++◌, map, length, take, get_or, refl, ap, sym, ◌∙◌, append_assoc, append-nil, zero, suc, ◌-◌, ◌*◌, ◌/◌, ◌%◌, ◌^◌, ◌≤◌, Bool, not, ◌&&◌, leb, Option, Some, subst, arith}
use Rattle.std.specs.Prelude.{filter, decimal, nat_eq, nat_lt, replicate, option_map}
use Rattle.std.specs.Borrow.{Bor}
use Rattle.std.specs.Int.RustNames.{bit_and}
use Rattle.std.specs.List.{join_with_byte, list_all, starts_with}
use Rattle.std.proofs.lemmas.List.{take_more, map-append, take_all}
use Rattle.std.proofs.lemmas.List.Elements.{filter-append}
use Rattle.std.specs.Int.{bytes_high_first, w128, to_be_bytes}
use Rattle.std.specs.Option.{option_or}
use Rattle.std.specs.Str.{all_ascii_digits, bytes_eq}
use Rattle.std.proofs.lemmas.Bool.{and_from, and_parts, eqb-true, le-leb, ltb-true}
use Rattle.std.proofs.lemmas.Fmt.{digits_decimal}
use Rattle.std.proofs.Math.Nat.{mod-eq_of_lt}
use Rattle.std.proofs.lemmas.Slice.Eq.{bytes_eq-Decides}
use Rattle.fields.specs.values.NameList.{names_in, is_just, set_listed, names_listed}
use Rattle.fields.proofs.laws.text.PutLaws.{comma_after}
use Rattle.fields.specs.Sequence.{◌>>=◌}
use Rattle.fields.specs.declared.numbers.field.Field.{Field}
use Rattle.fields.specs.Packet.{number_of_text}
use Rattle.fields.specs.text.Cut.{cut_at}
use Rattle.fields.specs.text.Number.{number_to}
use Rattle.fields.specs.text.Printed.{IsBareWord}
use Rattle.fields.specs.text.Words.{is_bare}
use Rattle.fields.specs.values.ConnectionState.{packet_state_of}
use Rattle.fields.specs.values.Interface.{filled, bytes_value, interface_of, interface_value, is_interface_byte}
use Rattle.fields.specs.values.Icmp.{packet_icmp_of}
use Rattle.fields.specs.values.Prefix.{address_text}
use Rattle.fields.specs.values.Protocol.{protocols, protocol_number, one_protocol_of}
use Rattle.fields.specs.values.TcpFlags.{tcp_flags_of, tcp_flags_text}
use Rattle.fields.proofs.laws.ListLaws.{find-none, all-weaker}
use Rattle.fields.proofs.laws.values.NameListLaws.{all_below, all_below-at, is_just-same}
use Rattle.fields.proofs.laws.text.CutLaws.{cut_at-at}
use Rattle.fields.proofs.laws.text.NumberLaws.{decimal-differs, numeral, number_to-decimal}
use Rattle.fields.proofs.laws.values.BareLaws.{decimal-bare, interface_is_bare, is_bare_word, joined, some-bytes}
use Rattle.fields.proofs.laws.values.InterfaceLaws.{bound, bound-is, bound-fits, filled-bytes, filled-filled, interface_of-form, interface-byte, is_byte, length-filled, within}
use Rattle.fields.proofs.laws.values.PrefixLaws.{address_of-address_text}
use Rattle.fields.proofs.laws.values.ProtocolLaws.{names-are-words}
use Rattle.fields.proofs.laws.values.TtlLaws.{reads_back as ttl_reads_back}
use Rattle.fields.specs.declared.numbers.field.Field.TheVariants as field
use Rattle.notation.specs.Rows.{rows_of}
use Rattle.notation.specs.ValueText.{HasName, HasText, IsValueText, icmp_text, interface_name, is_some_byte, state_name, value_text}

-- ---- One name more of a list of names.

-- its text
join-last : (xs : List (List ℕ)) (y : List ℕ) → join_with_byte 44 (xs ++ y ∷ []) ≡ join_with_byte 44 xs ++ (comma_after xs ++ y)
join-last [] y = refl
join-last (x ∷ []) y = refl
join-last (x ∷ x' ∷ xs) y = ap (λ l. x ++ 44 ∷ l) (join-last (x' ∷ xs) y) ∙ sym (append_assoc x (44 ∷ join_with_byte 44 (x' ∷ xs)) (44 ∷ y))

comma-last : (xs : List (List ℕ)) (y : List ℕ) → comma_after (xs ++ y ∷ []) ≡ 44 ∷ []
comma-last [] y = refl
comma-last (x ∷ xs) y = refl

-- of a table of flags the next row, with a name that the set has or without
module _ (set : ℕ) (rows : List (Bor (List ℕ) × ℕ)) (i : ℕ) (d : Bor (List ℕ) × ℕ) (within : i < length rows) where
  abbrev row : Bor (List ℕ) × ℕ
  row = get_or rows i d

  abbrev pub names_to : ℕ → List (List ℕ)
  names_to n = names_in (rows_of (take n rows)) set

  names-more : names_to (i + 1) ≡ names_to i ++ map (λ (r : List ℕ × ℕ). r.0) (cond (bit_and set row.1 == row.1) ((row.0.now, row.1) ∷ []) [])
  names-more =
      ap (λ l. names_in (rows_of l) set) (take_more rows i d within)
      ∙ ap (λ l. names_in l set) (map-append (λ (r : Bor (List ℕ) × ℕ). (r.0.now, r.1)) (take i rows) (row ∷ []))
      ∙ ap (map (λ r. r.0)) (filter-append (λ (r : List ℕ × ℕ). bit_and set r.1 == r.1) (rows_of (take i rows)) ((row.0.now, row.1) ∷ []))
      ∙ map-append (λ (r : List ℕ × ℕ). r.0) (filter (λ r. bit_and set r.1 == r.1) (rows_of (take i rows))) (filter (λ r. bit_and set r.1 == r.1) ((row.0.now, row.1) ∷ []))

  with_name : (bit_and set row.1 == row.1) ≡ true → names_to (i + 1) ≡ names_to i ++ row.0.now ∷ []
  with_name has = names-more ∙ ap (λ b. names_to i ++ map (λ (r : List ℕ × ℕ). r.0) (cond b ((row.0.now, row.1) ∷ []) [])) has

  pub names-no : (bit_and set row.1 == row.1) ≡ false → names_to (i + 1) ≡ names_to i
  names-no lacks = names-more ∙ ap (λ b. names_to i ++ map (λ (r : List ℕ × ℕ). r.0) (cond b ((row.0.now, row.1) ∷ []) [])) lacks ∙ append-nil (names_to i)

  pub names-yes : (bit_and set row.1 == row.1) ≡ true → join_with_byte 44 (names_to (i + 1)) ≡ join_with_byte 44 (names_to i) ++ (comma_after (names_to i) ++ row.0.now)
  names-yes has = ap (join_with_byte 44) (with_name has) ∙ join-last (names_to i) row.0.now

  pub comma-yes : (bit_and set row.1 == row.1) ≡ true → comma_after (names_to (i + 1)) ≡ 44 ∷ []
  comma-yes has = ap comma_after (with_name has) ∙ comma-last (names_to i) row.0.now

-- ---- The text of a number on a field is read as the number, and stands without quotes.

-- a text of digits is no name of a protocol
no-digits : (text : List ℕ) → all_ascii_digits text ≡ true → (name : List ℕ) → not (all_ascii_digits name) ≡ true → not (bytes_eq name text) ≡ true
no-digits text digits name off = go (bytes_eq name text) refl
  where
    go : (t : Bool) → bytes_eq name text ≡ t → not t ≡ true
    go false differs = refl
    go true same = let e = (bytes_eq-Decides name text).0 same in let on = subst (λ (l : List ℕ). not (all_ascii_digits l) ≡ true) e off in cc

protocol_reads : (n : ℕ) → n < 256 → one_protocol_of (decimal n) ≡ Some n
unfolding one_protocol_of protocol_number
protocol_reads n small =
    let digits = digits_decimal numeral n (omega arith) in
    let none = find-none (λ (entry : List ℕ × ℕ). bytes_eq entry.0 (decimal n)) protocols
    (all-weaker (λ (entry : List ℕ × ℕ). not (all_ascii_digits entry.0)) (λ (entry : List ℕ × ℕ). not (bytes_eq entry.0 (decimal n))) protocols (λ entry off. no-digits (decimal n) digits entry.0 off) names-are-words) in
    ap (λ (o : Option (List ℕ × ℕ)). option_or (option_map (λ entry. entry.1) o) (number_to 255 (decimal n))) none ∙ number_to-decimal 255 n (omega arith) (omega arith)

-- the 16 bytes of an interface's number are its name and zeros
pub length-bytes : (k n : ℕ) → length (bytes_high_first k n) ≡ k
length-bytes zero n = refl
length-bytes (suc k) n = let more = length-bytes k n in omega arith

bytes_are : (bytes : List ℕ) → length bytes ≡ 16 → list_all is_byte bytes ≡ true → (n : ℕ) → n < 256 ^ 16 → bound 0 16 bytes ≡ n → bound 255 16 bytes ≡ n
    → to_be_bytes w128 n ≡ bytes
bytes_are bytes len all n small low high =
    let begins : starts_with nat_eq (bytes_high_first 16 n) bytes ≡ (leb (bound 0 16 bytes) (n % 256 ^ 16) && leb (n % 256 ^ 16) (bound 255 16 bytes)) =
    within 16 n bytes (omega arith) all in
    let own : n % 256 ^ 16 ≡ n = mod-eq_of_lt small in
    let first : leb (bound 0 16 bytes) (n % 256 ^ 16) ≡ true = le-leb (bound 0 16 bytes) (n % 256 ^ 16) (omega arith) in
    let last : leb (n % 256 ^ 16) (bound 255 16 bytes) ≡ true = le-leb (n % 256 ^ 16) (bound 255 16 bytes) (omega arith) in
    let same = (bytes_eq-Decides bytes (take (length bytes) (bytes_high_first 16 n))).0 (begins ∙ and_from _ _ first last) in
    let whole : length (bytes_high_first 16 n) ≤ length bytes = omega (arith, length-bytes 16 n) in
    sym (same ∙ take_all (length bytes) (bytes_high_first 16 n) whole)

interface_bytes : (name : List ℕ) → interface_of name ≡ Some name → to_be_bytes w128 (interface_value name) ≡ filled 0 name
unfolding interface_value
interface_bytes name reads =
    let form = interface_of-form name reads in
    let few : length name ≤ 16 = (let h : length name ≤ 15 = form.few in omega arith) in
    let len : length (filled 0 name) ≡ 16 = length-filled 0 name few in
    let low : bound 0 16 (filled 0 name) ≡ bytes_value (filled 0 name) = bound-is 0 16 (filled 0 name) (omega arith) ∙ ap bytes_value (filled-filled 0 name few) in
    let high : bound 255 16 (filled 0 name) ≡ bytes_value (filled 0 name) = bound-is 255 16 (filled 0 name) (omega arith) ∙ ap bytes_value (filled-filled 255 name few) in
    let is : bound 0 16 name ≡ bytes_value (filled 0 name) = bound-is 0 16 name few in
    let fits : bound 0 16 name < 256 ^ 16 = bound-fits 0 16 name (omega arith) form.bytes in
    bytes_are (filled 0 name) len (filled-bytes name form.bytes) (bytes_value (filled 0 name)) (omega arith) low high

kept : (name : List ℕ) → list_all is_interface_byte name ≡ true → filter is_some_byte name ≡ name
kept [] all = refl
kept (b ∷ bs) all =
    let (here, others) = and_parts (is_interface_byte b) (list_all is_interface_byte bs) all in
    let (low, high) = interface-byte b here in
    go (b == 0) refl low (kept bs others)
  where
    go : (t : Bool) → (b == 0) ≡ t → 33 ≤ b → filter is_some_byte bs ≡ bs → cond (not t) (b ∷ filter is_some_byte bs) (filter is_some_byte bs) ≡ b ∷ bs
    go true is low rest = absurd (let h = eqb-true b 0 is in omega arith)
    go false is low rest = ap (λ l. b ∷ l) rest

no_zeros : (n : ℕ) → filter is_some_byte (replicate n 0) ≡ []
no_zeros zero = refl
no_zeros (suc n) = no_zeros n

name_is : (name : List ℕ) → interface_of name ≡ Some name → interface_name (interface_value name) ≡ name
unfolding interface_name
name_is name reads =
    let named = (interface_of-form name reads).named in
    ap (filter is_some_byte) (interface_bytes name reads) ∙ filter-append is_some_byte name (replicate (16 - length name) 0)
    ∙ ap (λ l. filter is_some_byte name ++ l) (no_zeros (16 - length name)) ∙ append-nil (filter is_some_byte name) ∙ kept name named

-- of the texts of all flags and states each is read as its number, and stands without quotes
abbrev flags_read : ℕ → Bool
flags_read n = is_just (tcp_flags_of (tcp_flags_text n)) n && is_bare_word (tcp_flags_text n)

each_flags : all_below flags_read 64 ≡ true
unfolding set_listed names_listed tcp_flags_text
each_flags = refl

abbrev state_reads : ℕ → Bool
state_reads n = is_just (packet_state_of (state_name n)) n && is_bare_word (state_name n)

each_state : all_below state_reads 14 ≡ true
each_state = refl

flags_are : (n : ℕ) → n < 64 → (is_just (tcp_flags_of (tcp_flags_text n)) n ≡ true) × (is_bare_word (tcp_flags_text n) ≡ true)
flags_are n small = and_parts _ _ (all_below-at flags_read 64 n each_flags small)

state_is : (n : ℕ) → n < 14 → (is_just (packet_state_of (state_name n)) n ≡ true) × (is_bare_word (state_name n) ≡ true)
state_is n small = and_parts _ _ (all_below-at state_reads 14 n each_state small)

pub icmp_reads : (n : ℕ) → n ≤ 65535 → packet_icmp_of (icmp_text n) ≡ Some n
unfolding packet_icmp_of
icmp_reads n small =
    let t = n / 256 in
    let c = n % 256 in
    let whole : t * 256 + c ≡ n = omega arith in
    let cut : cut_at 47 (decimal t ++ 47 ∷ decimal c) ≡ Some (decimal t, decimal c) = cut_at-at 47 (decimal t) (decimal c) (decimal-differs 47 t refl (omega arith)) in
    ap (λ o. o >>= λ p. number_to 255 p.0 >>= λ t'. number_to 255 p.1 >>= λ c'. Some (t' * 256 + c')) cut
    ∙ ap (λ o. o >>= λ t'. number_to 255 (decimal c) >>= λ c'. Some (t' * 256 + c')) (number_to-decimal 255 t (omega arith) (omega arith))
    ∙ ap (λ o. o >>= λ c'. Some (t * 256 + c')) (number_to-decimal 255 c (omega arith) (omega arith)) ∙ ap (λ m. Some m) whole

interface_reads : (n : ℕ) → HasName n → (interface_of (interface_name n) >>= λ name. Some (interface_value name)) ≡ Some n
interface_reads n (name, reads, is) =
    ap (λ m. interface_of (interface_name m) >>= λ text. Some (interface_value text)) is
    ∙ ap (λ text. interface_of text >>= λ found. Some (interface_value found)) (name_is name reads)
    ∙ ap (λ o. o >>= λ found. Some (interface_value found)) reads ∙ ap (λ m. Some m) (sym is)

pub reads_back : (f : Field) (n : ℕ) → HasText f n → number_of_text f (value_text f n) ≡ Some n
reads_back field.Source n has = address_of-address_text n (omega (arith, has))
reads_back field.Destination n has = address_of-address_text n (omega (arith, has))
reads_back field.InIface n has = interface_reads n has
reads_back field.OutIface n has = interface_reads n has
reads_back field.Protocol n has = protocol_reads n (omega (arith, has))
reads_back field.Fragment n has = number_to-decimal 1 n has (omega (arith, has))
reads_back field.SourcePort n has = number_to-decimal 65535 n has (omega (arith, has))
reads_back field.DestinationPort n has = number_to-decimal 65535 n has (omega (arith, has))
reads_back field.TcpFlags n has = is_just-same _ n (flags_are n (omega (arith, has))).0
reads_back field.IcmpType n has = icmp_reads n has
reads_back field.ConnectionState n has = is_just-same _ n (state_is n (omega (arith, has))).0
reads_back field.TimeToLive n has = ttl_reads_back n (omega (arith, has))

bare_if : (text : List ℕ) → is_bare_word text ≡ true → IsBareWord text
bare_if text is =
    let (some, bytes) = and_parts (nat_lt 0 (length text)) (list_all is_bare text) is in
    record { some = some-bytes text (ltb-true 0 (length text) some); bytes = bytes }

address_is_bare : (a : ℕ) → a < 2 ^ 32 → IsBareWord (address_text a)
address_is_bare a small =
    joined 46 _ _ refl (decimal-bare (a / 16777216) (omega arith)) (joined 46 _ _ refl (decimal-bare (a / 65536 % 256) (omega arith)) (joined 46 _ _ refl (decimal-bare (a / 256 % 256) (omega arith)) (decimal-bare (a % 256) (omega arith))))

name_is_bare : (n : ℕ) → HasName n → IsBareWord (interface_name n)
name_is_bare n (name, reads, is) =
    let same : interface_name n ≡ name = ap interface_name is ∙ name_is name reads in
    subst (λ (text : List ℕ). IsBareWord text) (sym same) (interface_is_bare name reads)

pub text_is_bare : (f : Field) (n : ℕ) → HasText f n → IsBareWord (value_text f n)
text_is_bare field.Source n has = address_is_bare n (omega (arith, has))
text_is_bare field.Destination n has = address_is_bare n (omega (arith, has))
text_is_bare field.InIface n has = name_is_bare n has
text_is_bare field.OutIface n has = name_is_bare n has
text_is_bare field.Protocol n has = decimal-bare n (omega (arith, has))
text_is_bare field.Fragment n has = decimal-bare n (omega (arith, has))
text_is_bare field.SourcePort n has = decimal-bare n (omega (arith, has))
text_is_bare field.DestinationPort n has = decimal-bare n (omega (arith, has))
text_is_bare field.TcpFlags n has = bare_if _ (flags_are n (omega (arith, has))).1
text_is_bare field.IcmpType n has = joined 47 _ _ refl (decimal-bare (n / 256) (omega (arith, has))) (decimal-bare (n % 256) (omega arith))
text_is_bare field.ConnectionState n has = bare_if _ (state_is n (omega (arith, has))).1
text_is_bare field.TimeToLive n has = decimal-bare n (omega (arith, has))

pub is_value_text : (f : Field) (n : ℕ) → HasText f n → IsValueText f (value_text f n) n
is_value_text f n has = record { reads_back = reads_back f n has; bare = text_is_bare f n has }
