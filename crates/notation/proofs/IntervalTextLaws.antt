-- The text of an interval: the usual one where it reads back, else the plain one, which always does.
use Rattle.std.proofs.Common.{◌≡◌, ◌==◌, ℕ, ◌/◌, ◌%◌, ◌^◌, ◌<◌, ◌≤◌, Bool, true, false, cond, not, ◌&&◌, ◌||◌, List, [], ◌∷◌, ◌++◌, length, Option, None, Some, codes, refl, ap, sym, ◌∙◌, arith, eq-eqb, append_assoc, length-append, ◌+◌, ◌-◌, subst}
use Rattle.std.specs.Prelude.{decimal, nat_lt, nat_le, option_map}
use Rattle.std.specs.Char.{is_ascii_digit}
use Rattle.std.specs.List.{list_all, list_any}
use Rattle.std.specs.Option.{option_or}
use Rattle.std.specs.Str.{bytes_eq}
use Rattle.std.proofs.lemmas.Bool.{and_from, and_parts, false≢true, le-leb, leb-true, eqb-true}
use Rattle.std.proofs.lemmas.Fmt.{decimal_nonempty}
use Rattle.std.proofs.lemmas.List.Folds.{Any-from_list_any, list_all-append}
use Rattle.std.proofs.lemmas.List.Sums.{AllPass-from_list_all}
use Rattle.std.proofs.lemmas.Slice.Eq.{bytes_eq-Decides}
use Rattle.std.specs.Int.{w32, leading_zeros}
use Rattle.std.specs.Int.Count.{leading_unique}
use Rattle.std.proofs.lemmas.Bool.Decides.{nat_tests}
use Rattle.std.proofs.lemmas.Nat.{leading_top, pow_pos}
use Rattle.std.proofs.Math.Pow.{pow_mono}
use Rattle.fields.specs.Sequence.{◌>>=◌}
use Rattle.fields.specs.declared.numbers.field.Field.{Field}
use Rattle.fields.specs.declared.numbers.spans.Interval.{Interval}
use Rattle.fields.specs.text.Cut.{cut_at}
use Rattle.fields.specs.text.Number.{number_to}
use Rattle.fields.specs.values.Interface.{interface_of, is_interface, is_interface_byte}
use Rattle.fields.specs.values.Icmp.{packet_icmp_of}
use Rattle.fields.specs.values.PortRange.{Ports, port_of, port_or, port_range_of, range_parted}
use Rattle.fields.specs.values.Prefix.{address_of, address_text, network, prefix_of, prefix_parted, block_size, cleared, with_length}
use Rattle.fields.specs.values.ConnectionState.{packet_state_of}
use Rattle.fields.specs.values.NameList.{is_just, names_listed, set_listed}
use Rattle.fields.specs.values.TcpFlags.{tcp_flags_of, tcp_flags_text}
use Rattle.fields.specs.values.Protocol.{one_protocol_of, protocol_number, protocols}
use Rattle.fields.proofs.laws.ListLaws.{all-weaker, find-none}
use Rattle.fields.proofs.laws.values.NameListLaws.{all_below, all_below-at, is_just-same}
use Rattle.fields.proofs.laws.text.CutLaws.{cut_at-at, cut_at-none, same_some}
use Rattle.fields.proofs.laws.text.NumberLaws.{decimal-differs, number_to-decimal, number_to_sound}
use Rattle.fields.proofs.laws.values.PortRangeLaws.{both-read, port_of-decimal}
use Rattle.fields.proofs.laws.values.PrefixLaws.{address_of-address_text, address_of_sound, prefix_of_complete}
use Rattle.fields.specs.numbers.Field.{top}
use Rattle.fields.specs.declared.numbers.field.Field.TheVariants as field
use Rattle.notation.specs.IntervalText.{IsPart, end_text, has_ranges, is_one, is_row, one_text, plain_mark, with_plus, hexadecimal_text, mark_of, plain_text, IsAddresses, address, prefix, IsInterfaces, missing, name, beginning, IsTypes, with_code, all_codes, IsUsual}
use Rattle.notation.specs.Range.{addresses_in, addresses_or, alone, between, ends_at, ends_of, flags_in, hexadecimal_of, if_any, state_ranges, states_in, states_or, with_commas, interfaces_in, interfaces_or, numbers_in, ports_in, protocols_in, protocols_or, types_in, types_or}
use Rattle.notation.specs.SetText.{IsRangeText, is_plain, IsPartText}
use Rattle.notation.specs.ValueText.{icmp_text, state_name, interface_name}
use Rattle.notation.specs.steps.UsualText.{addresses_text, interfaces_text, named_text, types_text, usual_text}
use Rattle.notation.proofs.HexadecimalLaws.{hexadecimal-differs, hexadecimal_of-hexadecimal_text, length-hexadecimal}
use Rattle.notation.proofs.ValueTextLaws.{icmp_reads}

-- ---- The plain text of an interval reads back as its numbers, and can stand in a list.

-- a text without a byte
abbrev is_without : ℕ → List ℕ → Bool
is_without b text = list_all (λ x. not (x == b)) text

joined : (b mark : ℕ) (front back : List ℕ) → not (mark == b) ≡ true → is_without b front ≡ true → is_without b back ≡ true → is_without b (front ++ mark ∷ back) ≡ true
joined b mark front back other before behind = list_all-append (λ x. not (x == b)) front (mark ∷ back) ∙ and_from _ _ before (and_from _ _ other behind)

has_mark : (b : ℕ) (front back : List ℕ) → is_without b (front ++ b ∷ back) ≡ true → ⊥
has_mark b front back none =
    let (before, rest) = and_parts (is_without b front) (is_without b (b ∷ back)) (sym (list_all-append (λ x. not (x == b)) front (b ∷ back)) ∙ none) in
    let (here, behind) = and_parts (not (b == b)) (is_without b back) rest in
    false≢true (sym (ap not (eq-eqb b b refl)) ∙ here)

-- two ends with a mark between them, each read alike
both : (mark : ℕ) (read : List ℕ → Option ℕ) (front back : List ℕ) (a b : ℕ) → is_without mark front ≡ true → read front ≡ Some a → read back ≡ Some b → a ≤ b
    → ends_at mark read (front ++ mark ∷ back) ≡ Some (a, b)
both mark read front back a b none first last ordered =
    ap (ends_of read (front ++ mark ∷ back)) (cut_at-at mark front back none)
    ∙ ap (λ o. o >>= λ x. read back >>= λ y. between x y) first ∙ ap (λ o. o >>= λ y. between a y) last ∙ ap (λ t. cond t (Some (a, b)) None) (le-leb a b ordered)

-- a text with a byte that is no digit is no number
no_number : (b top : ℕ) (front back : List ℕ) → is_ascii_digit b ≡ false → number_to top (front ++ b ∷ back) ≡ None
no_number b top front back off = go (number_to top (front ++ b ∷ back)) refl
  where
    go : (o : Option ℕ) → number_to top (front ++ b ∷ back) ≡ o → o ≡ None
    go None e = refl
    go (Some n) e =
        let is = (number_to_sound top (front ++ b ∷ back) n e).0 in
        let fits : n < 2 ^ 64 = omega (arith, is.1) in
        absurd (has_mark b front back (ap (is_without b) is.0 ∙ decimal-differs b n off fits))

-- addresses
address_without : (b a : ℕ) → is_ascii_digit b ≡ false → not (46 == b) ≡ true → a < 2 ^ 32 → is_without b (address_text a) ≡ true
address_without b a off other small =
    joined b 46 _ _ other (decimal-differs b (a / 16777216) off (omega arith)) (joined b 46 _ _ other (decimal-differs b (a / 65536 % 256) off (omega arith))
    (joined b 46 _ _ other (decimal-differs b (a / 256 % 256) off (omega arith)) (decimal-differs b (a % 256) off (omega arith))))

no_address : (front back : List ℕ) → address_of (front ++ 45 ∷ back) ≡ None
no_address front back = go (address_of (front ++ 45 ∷ back)) refl
  where
    go : (o : Option ℕ) → address_of (front ++ 45 ∷ back) ≡ o → o ≡ None
    go None e = refl
    go (Some a) e =
        let is = address_of_sound (front ++ 45 ∷ back) a e in
        absurd (has_mark 45 front back (ap (is_without 45) is.0 ∙ address_without 45 a refl refl is.1))

addresses_read : (a b : ℕ) → a ≤ b → b < 2 ^ 32 → addresses_in (address_text a ++ 45 ∷ address_text b) ≡ Some (a, b)
unfolding addresses_in prefix_of
addresses_read a b ordered small =
    let text = address_text a ++ 45 ∷ address_text b in
    let first : a < 2 ^ 32 = omega arith in
    let whole : cut_at 47 text ≡ None = cut_at-none 47 text (joined 47 45 (address_text a) (address_text b) refl (address_without 47 a refl refl first) (address_without 47 b refl refl small)) in
    ap (λ o. addresses_or text (prefix_parted text o)) whole
    ∙ ap (λ o. addresses_or text (o >>= λ n. Some (network n 32))) (no_address (address_text a) (address_text b))
    ∙ both 45 address_of (address_text a) (address_text b) a b (address_without 45 a refl refl first) (address_of-address_text a first) (address_of-address_text b small) ordered

-- numbers
numbers_read : (top a b : ℕ) → a ≤ b → b ≤ top → top < 1000000000 → numbers_in top (decimal a ++ 58 ∷ decimal b) ≡ Some (a, b)
unfolding numbers_in
numbers_read top a b ordered within small =
    both 58 (number_to top) (decimal a) (decimal b) a b (decimal-differs 58 a refl (omega arith)) (number_to-decimal top a (omega arith) (omega arith)) (number_to-decimal top b within (omega arith)) ordered

-- ports
port_or-decimal : (absent n : ℕ) → n ≤ 65535 → port_or absent (decimal n) ≡ Some n
port_or-decimal absent n small = go (decimal n) (decimal_nonempty n (omega arith)) (port_of-decimal n small)
  where
    go : (text : List ℕ) → 0 < length text → port_of text ≡ Some n → port_or absent text ≡ Some n
    go [] some e = absurd (omega arith)
    go (b ∷ bs) some e = e

ports_read : (a b : ℕ) → a ≤ b → b ≤ 65535 → ports_in (decimal a ++ 58 ∷ decimal b) ≡ Some (a, b)
unfolding ports_in port_range_of
ports_read a b ordered small =
    let text = decimal a ++ 58 ∷ decimal b in
    let ports : Ports = record { from = a; to = b } in
    ap (λ o. range_parted text o >>= λ p. Some (p.from, p.to)) (cut_at-at 58 (decimal a) (decimal b) (decimal-differs 58 a refl (omega arith)))
    ∙ ap (λ (o : Option Ports). o >>= λ p. Some (p.from, p.to))
    (both-read (port_or 0) (port_or 65535) ports (record { ordered = ordered; within = small }) (port_or-decimal 0 a (omega arith)) (port_or-decimal 65535 b small))

-- protocols
no_name : (front back text : List ℕ) → is_without 58 text ≡ true → not (bytes_eq text (front ++ 58 ∷ back)) ≡ true
no_name front back text without = go (bytes_eq text (front ++ 58 ∷ back)) refl
  where
    go : (t : Bool) → bytes_eq text (front ++ 58 ∷ back) ≡ t → not t ≡ true
    go false differs = refl
    go true same = absurd (has_mark 58 front back (ap (is_without 58) (sym ((bytes_eq-Decides text (front ++ 58 ∷ back)).0 same)) ∙ without))

names_without : list_all (λ (entry : List ℕ × ℕ). is_without 58 entry.0) protocols ≡ true
names_without = refl

no_protocol : (front back : List ℕ) → one_protocol_of (front ++ 58 ∷ back) ≡ None
unfolding one_protocol_of protocol_number
no_protocol front back =
    let text = front ++ 58 ∷ back in
    let none = find-none (λ (entry : List ℕ × ℕ). bytes_eq entry.0 text) protocols
    (all-weaker (λ (entry : List ℕ × ℕ). is_without 58 entry.0) (λ (entry : List ℕ × ℕ). not (bytes_eq entry.0 text)) protocols (λ entry without. no_name front back entry.0 without) names_without) in
    ap (λ (o : Option (List ℕ × ℕ)). option_or (option_map (λ entry. entry.1) o) (number_to 255 text)) none ∙ no_number 58 255 front back refl

protocols_read : (a b : ℕ) → a ≤ b → b ≤ 255 → protocols_in (decimal a ++ 58 ∷ decimal b) ≡ Some (a, b)
unfolding protocols_in
protocols_read a b ordered small =
    ap (protocols_or (decimal a ++ 58 ∷ decimal b)) (no_protocol (decimal a) (decimal b)) ∙ numbers_read 255 a b ordered small (omega arith)

-- ICMP types
icmp_without : (b n : ℕ) → is_ascii_digit b ≡ false → not (47 == b) ≡ true → n ≤ 65535 → is_without b (icmp_text n) ≡ true
icmp_without b n off other small = joined b 47 _ _ other (decimal-differs b (n / 256) off (omega arith)) (decimal-differs b (n % 256) off (omega arith))

types_read : (a b : ℕ) → a ≤ b → b ≤ 65535 → types_in (icmp_text a ++ 45 ∷ icmp_text b) ≡ Some (a, b)
unfolding types_in
types_read a b ordered small =
    let first : a ≤ 65535 = omega arith in
    ap (types_or (icmp_text a ++ 45 ∷ icmp_text b)) (no_number 45 255 (icmp_text a) (icmp_text b) refl)
    ∙ both 45 packet_icmp_of (icmp_text a) (icmp_text b) a b (icmp_without 45 a refl refl first) (icmp_reads a first) (icmp_reads b small) ordered

-- interfaces
long_other : (text other : List ℕ) → length other < length text → bytes_eq text other ≡ false
long_other text other long = go (bytes_eq text other) refl
  where
    go : (t : Bool) → bytes_eq text other ≡ t → t ≡ false
    go false e = refl
    go true e = let same : length text ≡ length other = ap length ((bytes_eq-Decides text other).0 e) in absurd (omega arith)

no_pattern : (text : List ℕ) → 15 < length text → interface_of text ≡ None
unfolding interface_of
no_pattern text long = go (is_interface text) refl
  where
    go : (t : Bool) → is_interface text ≡ t → cond t (Some text) None ≡ None
    go false e = refl
    go true e =
        let sized = (and_parts (nat_lt 0 (length text) && nat_le (length text) 15) (list_all is_interface_byte text) e).0 in
        let few = leb-true (length text) 15 (and_parts (nat_lt 0 (length text)) (nat_le (length text) 15) sized).1 in
        absurd (omega arith)

interfaces_read : (a b : ℕ) → a ≤ b → b < 2 ^ 128 → interfaces_in (hexadecimal_text a ++ 45 ∷ hexadecimal_text b) ≡ Some (a, b)
unfolding interfaces_in
interfaces_read a b ordered small =
    let text = hexadecimal_text a ++ 45 ∷ hexadecimal_text b in
    let whole : length text ≡ 65 = length-append (hexadecimal_text a) (45 ∷ hexadecimal_text b) ∙ omega (arith, length-hexadecimal a, length-hexadecimal b) in
    let none : bytes_eq text (codes "none") ≡ false = long_other text (codes "none") (omega (arith, whole)) in
    let first : a < 2 ^ 128 = omega arith in
    ap (λ t. cond t (alone 0) (interfaces_or text (interface_of text))) none ∙ ap (interfaces_or text) (no_pattern text (omega (arith, whole)))
    ∙ both 45 hexadecimal_of (hexadecimal_text a) (hexadecimal_text b) a b (hexadecimal-differs 45 a (omega arith)) (hexadecimal_of-hexadecimal_text a first) (hexadecimal_of-hexadecimal_text b small) ordered

-- flags and states
alone_read : (o : Option ℕ) (s : Interval) → o ≡ Some s.first → s.first ≡ s.last → if_any o ≡ Some (s.first, s.last)
alone_read o s is one = ap if_any is ∙ ap (λ n. Some (s.first, n)) one

-- without a comma, and not `any`
marked_plain : (mark : ℕ) (front back : List ℕ) → not (mark == 44) ≡ true → is_without mark (codes "any") ≡ true → is_without 44 front ≡ true → is_without 44 back ≡ true
    → is_plain (front ++ mark ∷ back) ≡ true
marked_plain mark front back other strange before behind = and_from _ _ (joined 44 mark front back other before behind) (go (bytes_eq (front ++ mark ∷ back) (codes "any")) refl)
  where
    go : (t : Bool) → bytes_eq (front ++ mark ∷ back) (codes "any") ≡ t → not t ≡ true
    go false e = refl
    go true e = absurd (has_mark mark front back (ap (is_without mark) ((bytes_eq-Decides (front ++ mark ∷ back) (codes "any")).0 e) ∙ strange))

addresses_plain : (a b : ℕ) → a ≤ b → b < 2 ^ 32 → is_plain (address_text a ++ 45 ∷ address_text b) ≡ true
addresses_plain a b ordered small = marked_plain 45 (address_text a) (address_text b) refl refl (address_without 44 a refl refl (omega arith)) (address_without 44 b refl refl small)

interfaces_plain : (a b : ℕ) → is_plain (hexadecimal_text a ++ 45 ∷ hexadecimal_text b) ≡ true
interfaces_plain a b = marked_plain 45 (hexadecimal_text a) (hexadecimal_text b) refl refl (hexadecimal-differs 44 a (omega arith)) (hexadecimal-differs 44 b (omega arith))

numbers_plain : (a b : ℕ) → a ≤ b → b ≤ 65535 → is_plain (decimal a ++ 58 ∷ decimal b) ≡ true
numbers_plain a b ordered small = marked_plain 58 (decimal a) (decimal b) refl refl (decimal-differs 44 a refl (omega arith)) (decimal-differs 44 b refl (omega arith))

types_plain : (a b : ℕ) → a ≤ b → b ≤ 65535 → is_plain (icmp_text a ++ 45 ∷ icmp_text b) ≡ true
types_plain a b ordered small = marked_plain 45 (icmp_text a) (icmp_text b) refl refl (icmp_without 44 a refl refl (omega arith)) (icmp_without 44 b refl refl small)

-- each set of flags, and each state
abbrev flags_read : ℕ → Bool
flags_read n = is_just (tcp_flags_of (with_commas (with_plus (tcp_flags_text n)))) n && is_plain (with_plus (tcp_flags_text n))

each_flags : all_below flags_read 64 ≡ true
unfolding set_listed names_listed tcp_flags_text
each_flags = refl

abbrev one_state : ℕ → List ℕ
one_state n = with_plus (state_name n) ++ plain_mark n

abbrev is_ends : Option (ℕ × ℕ) → ℕ → ℕ → Bool
is_ends None a b = false
is_ends (Some ends) a b = (ends.0 == a) && (ends.1 == b)

ends_are : (o : Option (ℕ × ℕ)) (a b : ℕ) → is_ends o a b ≡ true → o ≡ Some (a, b)
ends_are None a b e = absurd (false≢true e)
ends_are (Some ends) a b e =
    let two = and_parts (ends.0 == a) (ends.1 == b) e in
    ap (λ n. Some (n, ends.1)) (eqb-true ends.0 a two.0) ∙ ap (λ n. Some (a, n)) (eqb-true ends.1 b two.1)

abbrev state_reads : ℕ → Bool
state_reads n = is_ends (states_or (one_state n) (cut_at 43 (one_state n))) n n && is_plain (one_state n)

each_state : all_below state_reads 14 ≡ true
each_state = refl

-- a state with all its translations
abbrev row_reads : List ℕ × (ℕ × ℕ) → Bool
row_reads row = is_ends (states_or (state_name row.1.0) (cut_at 43 (state_name row.1.0))) row.1.0 row.1.1 && is_plain (state_name row.1.0)

each_row : list_all row_reads state_ranges ≡ true
each_row = refl

row_read : (s : Interval) → list_any (is_row s) state_ranges ≡ true → (is_ends (states_or (state_name s.first) (cut_at 43 (state_name s.first))) s.first s.last && is_plain (state_name s.first)) ≡ true
row_read s some =
    let (k, row, lt, at, is) = Any-from_list_any (is_row s) state_ranges some in
    let two = and_parts (s.first == row.1.0) (s.last == row.1.1) is in
    let P : ℕ → ℕ → Type 0 = λ a b. (is_ends (states_or (state_name a) (cut_at 43 (state_name a))) a b && is_plain (state_name a)) ≡ true in
    let here : row_reads row ≡ true = subst (λ (r : List ℕ × (ℕ × ℕ)). row_reads r ≡ true) at (AllPass-from_list_all row_reads state_ranges each_row k row lt) in
    subst (λ (a : ℕ). P a s.last) (sym (eqb-true s.first row.1.0 two.0)) (subst (λ (b : ℕ). P row.1.0 b) (sym (eqb-true s.last row.1.1 two.1)) here)

flags_part : (s : Interval) → s.first < 64 → (s.first == s.last) ≡ true → IsRangeText field.TcpFlags (plain_text field.TcpFlags s) s
unfolding flags_in
flags_part s small one =
    let text = with_plus (tcp_flags_text s.first) in
    let P : List ℕ → Type 0 = λ bytes. IsRangeText field.TcpFlags bytes s in
    let two = and_parts (is_just (tcp_flags_of (with_commas text)) s.first) (is_plain text) (all_below-at flags_read 64 s.first each_flags small) in
    let reads : IsRangeText field.TcpFlags text s = record {
      reads_back = alone_read (tcp_flags_of (with_commas text)) s (is_just-same (tcp_flags_of (with_commas text)) s.first two.0) (eqb-true s.first s.last one);
      plain = two.1;
    } in
    subst P (ap (λ b. cond b text (tcp_flags_text s.first)) (sym one)) reads

states_part : (s : Interval) → s.first < 14 → (s.first == s.last || list_any (is_row s) state_ranges) ≡ true → IsRangeText field.ConnectionState (plain_text field.ConnectionState s) s
unfolding states_in
states_part s small one = go (s.first == s.last) refl
  where
    P : List ℕ → Type 0
    P bytes = IsRangeText field.ConnectionState bytes s

    go : (b : Bool) → (s.first == s.last) ≡ b → P (plain_text field.ConnectionState s)
    go true e =
        let text = one_state s.first in
        let same = eqb-true s.first s.last e in
        let two = and_parts (is_ends (states_or text (cut_at 43 text)) s.first s.first) (is_plain text) (all_below-at state_reads 14 s.first each_state small) in
        let reads : P text = record { reads_back = ends_are (states_or text (cut_at 43 text)) s.first s.first two.0 ∙ ap (λ n. Some (s.first, n)) same; plain = two.1 } in
        subst P (ap (λ b. cond b text (state_name s.first)) (sym e)) reads
    go false e =
        let text = state_name s.first in
        let row : list_any (is_row s) state_ranges ≡ true = ap (λ b. b || list_any (is_row s) state_ranges) (sym e) ∙ one in
        let two = and_parts (is_ends (states_or text (cut_at 43 text)) s.first s.last) (is_plain text) (row_read s row) in
        let reads : P text = record { reads_back = ends_are (states_or text (cut_at 43 text)) s.first s.last two.0; plain = two.1 } in
        subst P (ap (λ b. cond b (one_state s.first) text) (sym e)) reads

-- on each field
pub plain-reads : (f : Field) (s : Interval) → IsPart f s → IsRangeText f (plain_text f s) s
plain-reads f s is = go f is.ordered is.within is.one
  where
    go : (f : Field) → s.first ≤ s.last → s.last ≤ top f → is_one f s ≡ true → IsRangeText f (plain_text f s) s
    go field.Source ordered within one =
        let small : s.last < 2 ^ 32 = omega (arith, within) in
        record { reads_back = addresses_read s.first s.last ordered small; plain = addresses_plain s.first s.last ordered small }
    go field.Destination ordered within one =
        let small : s.last < 2 ^ 32 = omega (arith, within) in
        record { reads_back = addresses_read s.first s.last ordered small; plain = addresses_plain s.first s.last ordered small }
    go field.InIface ordered within one = record { reads_back = interfaces_read s.first s.last ordered (omega (arith, within)); plain = interfaces_plain s.first s.last }
    go field.OutIface ordered within one = record { reads_back = interfaces_read s.first s.last ordered (omega (arith, within)); plain = interfaces_plain s.first s.last }
    go field.Protocol ordered within one = record { reads_back = protocols_read s.first s.last ordered within; plain = numbers_plain s.first s.last ordered (omega (arith, within)) }
    go field.Fragment ordered within one =
        record { reads_back = numbers_read 1 s.first s.last ordered within (omega arith); plain = numbers_plain s.first s.last ordered (omega (arith, within)) }
    go field.SourcePort ordered within one = record { reads_back = ports_read s.first s.last ordered within; plain = numbers_plain s.first s.last ordered within }
    go field.DestinationPort ordered within one = record { reads_back = ports_read s.first s.last ordered within; plain = numbers_plain s.first s.last ordered within }
    go field.TcpFlags ordered within one = flags_part s (omega (arith, ordered, within)) one
    go field.IcmpType ordered within one = record { reads_back = types_read s.first s.last ordered within; plain = types_plain s.first s.last ordered within }
    go field.ConnectionState ordered within one = states_part s (omega (arith, ordered, within)) one
    go field.TimeToLive ordered within one =
        record { reads_back = numbers_read 255 s.first s.last ordered within (omega arith); plain = numbers_plain s.first s.last ordered (omega (arith, within)) }

-- by its parts
pub put-together : (none one two three front back : List ℕ) (mark : ℕ) → none ≡ [] → one ≡ none ++ front → two ≡ one ++ mark ∷ [] → three ≡ two ++ back → three ≡ front ++ mark ∷ back
put-together none one two three front back mark empty first second third =
    third ∙ ap (λ l. l ++ back) (second ∙ ap (λ l. l ++ mark ∷ []) (first ∙ ap (λ l. l ++ front) empty)) ∙ append_assoc front (mark ∷ []) back

-- ---- The text of an interval: the usual one where it reads back, else the plain one.

-- two numbers
apart : (a b : ℕ) → a < b → (a == b) ≡ false
apart a b less = go (a == b) refl
  where
    go : (t : Bool) → (a == b) ≡ t → t ≡ false
    go false e = refl
    go true e = absurd (let h = eqb-true a b e in omega arith)

some_number : (n : ℕ) → 0 < n → (n == 0) ≡ false
some_number n some = grind (arith, nat_tests)

above_none : (n : ℕ) → (n == 0) ≡ false → 0 < n
above_none n some = grind (arith, nat_tests)

first_below : (a b : ℕ) → a ≤ b → (a == b) ≡ false → a < b
first_below a b ordered differ = grind (arith, nat_tests)

-- of several addresses the prefix has as many bits as their distance leaves at 0
length-is : (s : Interval) (n : ℕ) → s.first ≤ s.last → n < 32 → s.first + block_size n ≡ s.last + 1 → n ≡ leading_zeros w32 (s.last - s.first)
length-is s n ordered short is = leading_unique 32 (s.last - s.first) n (32 - n) (omega arith) (omega arith) (omega arith)

length-short : (s : Interval) → s.first < s.last → s.last < 2 ^ 32 → leading_zeros w32 (s.last - s.first) < 32
length-short s less within =
    let (j, whole, low, high) = leading_top 32 (s.last - s.first) (omega arith) (omega arith) in omega arith

prefix-reads : (a n : ℕ) → a < 2 ^ 32 → n ≤ 32 → addresses_in (address_text a ++ 47 ∷ decimal n) ≡ Some (cleared n a, cleared n a + (block_size n - 1))
unfolding addresses_in
prefix-reads a n small short =
    ap (addresses_or (address_text a ++ 47 ∷ decimal n)) (prefix_of_complete (address_text a ++ 47 ∷ decimal n) (network a n) (with_length a n small short))

addresses-only : (s : Interval) (text : List ℕ) → s.first ≤ s.last → IsAddresses s text → text ≡ addresses_text s
addresses-only s text ordered (address s' alone) =
    sym (ap (λ t. cond t (address_text s.first) (address_text s.first ++ 47 ∷ decimal (leading_zeros w32 (s.last - s.first)))) (eq-eqb s.first s.last alone))
addresses-only s text ordered (prefix s' n short is) =
    let few : 2 ^ 1 ≤ 2 ^ (32 - n) = pow_mono {i = 1} {j = 32 - n} (omega arith) in
    let less : s.first < s.last = omega arith in
    ap (λ m. address_text s.first ++ 47 ∷ decimal m) (length-is s n ordered short is)
    ∙ sym (ap (λ t. cond t (address_text s.first) (address_text s.first ++ 47 ∷ decimal (leading_zeros w32 (s.last - s.first)))) (apart s.first s.last less))

ends-are : (a b start n : ℕ) → (let ends : Option (ℕ × ℕ) = Some (a, b) in ends ≡ Some (start, start + (block_size n - 1))) → a + block_size n ≡ b + 1
ends-are a b start n is =
    let both = same_some (a, b) (start, start + (block_size n - 1)) is in
    let low : a ≡ start = ap (λ (ends : ℕ × ℕ). ends.0) both in
    let high : b ≡ start + (block_size n - 1) = ap (λ (ends : ℕ × ℕ). ends.1) both in
    let some = pow_pos (32 - n) in
    omega arith

addresses-are : (s : Interval) → s.first ≤ s.last → s.last < 2 ^ 32 → addresses_in (addresses_text s) ≡ Some (s.first, s.last) → IsAddresses s (addresses_text s)
addresses-are s ordered within reads = go (s.first == s.last) refl
  where
    alone : List ℕ
    alone = address_text s.first

    several : List ℕ
    several = address_text s.first ++ 47 ∷ decimal (leading_zeros w32 (s.last - s.first))

    go : (t : Bool) → (s.first == s.last) ≡ t → IsAddresses s (cond (s.first == s.last) alone several)
    go true e = subst (λ b. IsAddresses s (cond b alone several)) (sym e) (address s (eqb-true s.first s.last e))
    go false e =
        let n = leading_zeros w32 (s.last - s.first) in
        let less : s.first < s.last = first_below s.first s.last ordered e in
        let short : n < 32 = length-short s less within in
        let is = sym reads ∙ ap (λ b. addresses_in (cond b alone several)) e ∙ prefix-reads s.first n (omega arith) (omega arith) in
        subst (λ b. IsAddresses s (cond b alone several)) (sym e) (prefix s n short (ends-are s.first s.last (cleared n s.first) n is))

-- interfaces
interfaces-only : (s : Interval) (text : List ℕ) → s.first ≤ s.last → IsInterfaces s text → text ≡ interfaces_text s
interfaces-only s text ordered (missing s' none) = sym (ap (λ t. cond t (codes "none") (named_text s)) (eq-eqb s.last 0 none))
interfaces-only s text ordered (name s' some alone) =
    sym (ap (λ t. cond t (codes "none") (named_text s)) (some_number s.last some)
    ∙ ap (λ t. cond t (interface_name s.first) (interface_name s.first ++ 43 ∷ [])) (eq-eqb s.first s.last alone))
interfaces-only s text ordered (beginning s' less) =
    sym (ap (λ t. cond t (codes "none") (named_text s)) (some_number s.last (omega arith))
    ∙ ap (λ t. cond t (interface_name s.first) (interface_name s.first ++ 43 ∷ [])) (apart s.first s.last less))

interfaces-are : (s : Interval) → s.first ≤ s.last → IsInterfaces s (interfaces_text s)
interfaces-are s ordered = go (s.last == 0) refl
  where
    named : 0 < s.last → (t : Bool) → (s.first == s.last) ≡ t → IsInterfaces s (cond t (interface_name s.first) (interface_name s.first ++ 43 ∷ []))
    named some true e = name s some (eqb-true s.first s.last e)
    named some false e = beginning s (first_below s.first s.last ordered e)

    go : (t : Bool) → (s.last == 0) ≡ t → IsInterfaces s (cond (s.last == 0) (codes "none") (named_text s))
    go true e = subst (λ b. IsInterfaces s (cond b (codes "none") (named_text s))) (sym e) (missing s (eqb-true s.last 0 e))
    go false e = subst (λ b. IsInterfaces s (cond b (codes "none") (named_text s))) (sym e) (named (above_none s.last e) (s.first == s.last) refl)

-- types
types-only : (s : Interval) (text : List ℕ) → IsTypes s text → text ≡ types_text s
types-only s text (with_code s' alone) = sym (ap (λ t. cond t (icmp_text s.first) (decimal (s.first / 256))) (eq-eqb s.first s.last alone))
types-only s text (all_codes s' less) = sym (ap (λ t. cond t (icmp_text s.first) (decimal (s.first / 256))) (apart s.first s.last less))

types-are : (s : Interval) → s.first ≤ s.last → IsTypes s (types_text s)
types-are s ordered = go (s.first == s.last) refl
  where
    go : (t : Bool) → (s.first == s.last) ≡ t → IsTypes s (cond t (icmp_text s.first) (decimal (s.first / 256)))
    go true e = with_code s (eqb-true s.first s.last e)
    go false e = all_codes s (first_below s.first s.last ordered e)

-- on each field
usual-only : (f : Field) (s : Interval) (text : List ℕ) → s.first ≤ s.last → IsUsual f s text → text ≡ usual_text f s
unfolding usual_text
usual-only field.Source s text ordered is = addresses-only s text ordered is
usual-only field.Destination s text ordered is = addresses-only s text ordered is
usual-only field.InIface s text ordered is = interfaces-only s text ordered is
usual-only field.OutIface s text ordered is = interfaces-only s text ordered is
usual-only field.Protocol s text ordered is = is
usual-only field.Fragment s text ordered is = is
usual-only field.SourcePort s text ordered is = is
usual-only field.DestinationPort s text ordered is = is
usual-only field.TcpFlags s text ordered is = is
usual-only field.IcmpType s text ordered is = types-only s text is
usual-only field.ConnectionState s text ordered is = is
usual-only field.TimeToLive s text ordered is = is

usual-is : (f : Field) (s : Interval) → s.first ≤ s.last → s.last ≤ top f → IsRangeText f (usual_text f s) s → IsUsual f s (usual_text f s)
unfolding usual_text
usual-is field.Source s ordered within reads = addresses-are s ordered (omega (arith, within)) reads.reads_back
usual-is field.Destination s ordered within reads = addresses-are s ordered (omega (arith, within)) reads.reads_back
usual-is field.InIface s ordered within reads = interfaces-are s ordered
usual-is field.OutIface s ordered within reads = interfaces-are s ordered
usual-is field.Protocol s ordered within reads = refl
usual-is field.Fragment s ordered within reads = refl
usual-is field.SourcePort s ordered within reads = refl
usual-is field.DestinationPort s ordered within reads = refl
usual-is field.TcpFlags s ordered within reads = refl
usual-is field.IcmpType s ordered within reads = types-are s ordered
usual-is field.ConnectionState s ordered within reads = refl
usual-is field.TimeToLive s ordered within reads = refl

-- the usual text reads back
pub usual-part : (f : Field) (s : Interval) (text : List ℕ) → IsPart f s → text ≡ usual_text f s → IsRangeText f text s → IsPartText f text s
usual-part f s text is written reads =
    let P : List ℕ → Type 0 = λ bytes. IsRangeText f bytes s in
    let Q : List ℕ → Type 0 = λ bytes. IsUsual f s bytes in
    record {
      reads = reads;
      usual = λ other so back. written ∙ sym (usual-only f s other is.ordered so);
      plain = λ none. absurd (none text (subst Q (sym written) (usual-is f s is.ordered is.within (subst P written reads))) reads);
    }

-- it doesn't
pub plain-part : (f : Field) (s : Interval) (first text : List ℕ) → IsPart f s → first ≡ usual_text f s → (IsRangeText f first s → ⊥) → text ≡ plain_text f s
    → IsRangeText f text s → IsPartText f text s
plain-part f s first text is tried off written reads =
    let P : List ℕ → Type 0 = λ bytes. IsRangeText f bytes s in
    record {
      reads = reads;
      usual = λ other so back. absurd (off (subst P (usual-only f s other is.ordered so ∙ sym tried) back));
      plain = λ none. written;
    }
