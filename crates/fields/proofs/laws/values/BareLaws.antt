-- The texts of values may stand in a line without quotes.
use Rattle.std.proofs.Common.{◌≡◌, ◌≢◌, ◌==◌, ℕ, suc, ◌<◌, ◌≤◌, ◌^◌, Bool, true, false, cond, not, ◌&&◌, ◌||◌, List, [], ◌∷◌, ◌++◌, length, Option, None, Some, refl, ap, ◌∙◌, arith, ne_eqb}
use Rattle.std.specs.Prelude.{decimal, nat_lt, nat_le, slice_index, find, option_map, All}
use Rattle.std.specs.Char.{is_ascii_digit}
use Rattle.std.specs.List.{list_all}
use Rattle.std.specs.Str.{all_ascii_digits}
use Rattle.std.proofs.lemmas.Bool.{and_parts, and_from, leb-true, ltb-true}
use Rattle.std.proofs.lemmas.Fmt.{digits_decimal, decimal_nonempty}
use Rattle.std.proofs.lemmas.List.Folds.{list_all-append}
use Rattle.fields.specs.text.Words.{is_bare}
use Rattle.fields.specs.text.Printed.{IsBareWord}
use Rattle.fields.specs.values.Interface.{is_interface_byte, interface_of}
use Rattle.fields.specs.values.Name.{is_name_byte, has_name_form, is_target_word, is_name, name_of}
use Rattle.fields.specs.values.PortRange.{Ports, ArePorts, ports_text}
use Rattle.fields.specs.values.PortList.{IsPortList, port_list_text}
use Rattle.fields.specs.values.Protocol.{protocols, protocol_name, named_or_decimal, protocol_text}
use Rattle.fields.proofs.laws.ListLaws.{find-passes, all-weaker}
use Rattle.fields.proofs.laws.text.NumberLaws.{numeral}
use Rattle.fields.proofs.laws.values.InterfaceLaws.{interface-byte, interface_of-form}

pub some-bytes : (text : List ℕ) → 0 < length text → text ≢ []
some-bytes [] some e = absurd (omega arith)
some-bytes (byte ∷ text) some e = cc

-- a byte above the blank that is no `"`
bare-byte : (byte : ℕ) → 33 ≤ byte → not (byte == 34) ≡ true → is_bare byte ≡ true
bare-byte byte low quote =
    ap (λ t. not (t || (byte == 9)) && not (byte == 34) && not (byte == 10)) (ne_eqb byte 32 (λ e. omega arith))
    ∙ ap (λ t. not t && not (byte == 34) && not (byte == 10)) (ne_eqb byte 9 (λ e. omega arith)) ∙ ap (λ t. t && not (byte == 10)) quote
    ∙ ap (λ t. not t) (ne_eqb byte 10 (λ e. omega arith))

bare-interface : (byte : ℕ) → is_interface_byte byte ≡ true → is_bare byte ≡ true
bare-interface byte is = bare-byte byte (interface-byte byte is).0 (and_parts (nat_le 33 byte && nat_le byte 126 && not (byte == 47)) (not (byte == 34)) is).1

name-byte : (byte : ℕ) → is_name_byte byte ≡ true → is_bare byte ≡ true
name-byte byte is =
    let (sized, quote) = and_parts (nat_le 33 byte && nat_le byte 126) (not (byte == 34)) is in
    bare-byte byte (leb-true 33 byte (and_parts (nat_le 33 byte) (nat_le byte 126) sized).0) quote

pub interface_is_bare : (text : List ℕ) → interface_of text ≡ Some text → IsBareWord text
interface_is_bare text reads =
    let is = interface_of-form text reads in
    record { some = some-bytes text is.some; bytes = all-weaker is_interface_byte is_bare text bare-interface is.named }

pub name_is_bare : (text : List ℕ) → name_of text ≡ Some text → IsBareWord text
unfolding name_of
name_is_bare text reads = go (is_name text) refl reads
  where
    go : (t : Bool) → is_name text ≡ t → cond t (Some text) None ≡ Some text → IsBareWord text
    go false off h = absurd (cc)
    go true on h =
        let form = (and_parts (has_name_form text) (not (is_target_word text)) on).0 in
        let (front, bytes) = and_parts (nat_lt 0 (length text) && nat_le (length text) 28 && not (slice_index text 0 == 45) && not (slice_index text 0 == 33)) (list_all is_name_byte text) form in
        let dash = (and_parts (nat_lt 0 (length text) && nat_le (length text) 28 && not (slice_index text 0 == 45)) (not (slice_index text 0 == 33)) front).0 in
        let sized = (and_parts (nat_lt 0 (length text) && nat_le (length text) 28) (not (slice_index text 0 == 45)) dash).0 in
        let some = (and_parts (nat_lt 0 (length text)) (nat_le (length text) 28) sized).0 in
        record { some = some-bytes text (ltb-true 0 (length text) some); bytes = all-weaker is_name_byte is_bare text name-byte bytes }

-- numbers
digit-byte : (byte : ℕ) → is_ascii_digit byte ≡ true → is_bare byte ≡ true
digit-byte byte is = bare-byte byte (let low = leb-true 48 byte (and_parts (nat_le 48 byte) (nat_le byte 57) is).0 in omega arith) (ap not (ne_eqb byte 34 (λ e. let low = leb-true 48 byte (and_parts (nat_le 48 byte) (nat_le byte 57) is).0 in omega arith)))

digits-bare : (text : List ℕ) → all_ascii_digits text ≡ true → list_all is_bare text ≡ true
digits-bare text all = all-weaker is_ascii_digit is_bare text digit-byte all

pub decimal-bare : (n : ℕ) → n < 2 ^ 64 → IsBareWord (decimal n)
decimal-bare n small = record { some = some-bytes (decimal n) (decimal_nonempty n small); bytes = digits-bare (decimal n) (digits_decimal numeral n small) }

-- two words with a byte between them
pub joined : (byte : ℕ) (front back : List ℕ) → is_bare byte ≡ true → IsBareWord front → IsBareWord back → IsBareWord (front ++ byte ∷ back)
joined byte front back on before behind = record { some = go front; bytes = list_all-append is_bare front (byte ∷ back) ∙ and_from _ _ before.bytes (and_from _ _ on behind.bytes) }
  where
    go : (front : List ℕ) → front ++ byte ∷ back ≢ []
    go [] e = cc
    go (b ∷ bs) e = cc

pub ports-bare : (ports : Ports) → ArePorts ports → IsBareWord (ports_text ports)
ports-bare ports are = go (ports.from == ports.to)
  where
    ordered : ports.from ≤ ports.to
    ordered = are.ordered

    within : ports.to ≤ 65535
    within = are.within

    go : (t : Bool) → IsBareWord (cond t (decimal ports.from) (decimal ports.from ++ 58 ∷ decimal ports.to))
    go true = decimal-bare ports.from (omega (arith, ordered, within))
    go false = joined 58 (decimal ports.from) (decimal ports.to) refl (decimal-bare ports.from (omega (arith, ordered, within))) (decimal-bare ports.to (omega (arith, within)))

pub range_is_bare : (ports : Ports) → ports.from ≤ ports.to → ports.to ≤ 65535 → IsBareWord (ports_text ports)
range_is_bare ports ordered within = ports-bare ports (record { ordered = ordered; within = within })

items-bare : (item : Ports) (items : List Ports) → All ArePorts (item ∷ items) → IsBareWord (port_list_text (item ∷ items))
items-bare item [] are = ports-bare item (are 0 item (omega arith))
items-bare item (next ∷ items) are =
    let rest : All ArePorts (next ∷ items) = λ k d within. are (suc k) d (omega arith) in
    joined 44 (ports_text item) (port_list_text (next ∷ items)) refl (ports-bare item (are 0 item (omega arith))) (items-bare next items rest)

pub list_is_bare : (items : List Ports) → IsPortList items → IsBareWord (port_list_text items)
list_is_bare items is = go items is.some is.ports
  where
    go : (items : List Ports) → 0 < length items → All ArePorts items → IsBareWord (port_list_text items)
    go [] some are = absurd (omega arith)
    go (item ∷ items) some are = items-bare item items are

abbrev pub is_bare_word : List ℕ → Bool
is_bare_word text = nat_lt 0 (length text) && list_all is_bare text

names-bare : list_all (λ (entry : List ℕ × ℕ). is_bare_word entry.0) protocols ≡ true
names-bare = refl

pub protocol_is_bare : (n : ℕ) → n < 256 → IsBareWord (protocol_text n)
unfolding protocol_text protocol_name
protocol_is_bare n small = go (find (λ (entry : List ℕ × ℕ). entry.1 == n) protocols) refl
  where
    go : (o : Option (List ℕ × ℕ)) → find (λ (entry : List ℕ × ℕ). entry.1 == n) protocols ≡ o → IsBareWord (named_or_decimal n (option_map (λ entry. entry.0) o))
    go None found = decimal-bare n (omega arith)
    go (Some entry) found =
        let is = (find-passes (λ (e : List ℕ × ℕ). e.1 == n) (λ (e : List ℕ × ℕ). is_bare_word e.0) protocols entry found names-bare).1 in
        let (some, bytes) = and_parts (nat_lt 0 (length entry.0)) (list_all is_bare entry.0) is in
        record { some = some-bytes entry.0 (ltb-true 0 (length entry.0) some); bytes = bytes }

pub ttl_is_bare : (n : ℕ) → n < 256 → IsBareWord (decimal n)
ttl_is_bare n small = decimal-bare n (omega arith)
