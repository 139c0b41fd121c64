-- Laws of the words of a packet line and of the numbers that they give, and the definition at a few lines.
use Rattle.std.proofs.Common.{◌≡◌, ℕ, ◌+◌, ◌*◌, ◌<◌, ◌≤◌, find, option_map, leb-true, List, [], length, map, drop, Option, None, Some, Err, Bool, true, false, cond, lit≤, refl, sym, subst, ap, ◌∙◌, arith, not, ◌&&◌, ◌||◌, eqb, ◌∷◌, ◌++◌, get_or, take, length-take, set, Result, Ok, is_some, is_none, eq-eqb}
use Rattle.std.specs.Prelude.{slice_get, slice_index, unwrap_or, nat_le, if◌then◌else◌, codes}
use Rattle.std.specs.Str.{bytes_eq}
use Rattle.std.specs.List.{list_all, list_any}
use Rattle.std.specs.Option.{option_or}
use Rattle.std.proofs.lemmas.List.{drop_more, take_more, drop-append-le, length-set, get_or-set_other}
use Rattle.std.proofs.lemmas.Option.{get_or_from_slice_get, slice_get_within}
use Rattle.std.proofs.lemmas.Bool.{eqb-true, false≢true}
use Rattle.std.proofs.lemmas.Grind.{get_or-set_at}
use Rattle.std.proofs.lemmas.Slice.Eq.{bytes_eq-Decides}
use Rattle.fields.specs.Sequence.{◌>>=◌}
use Rattle.fields.specs.numbers.Field.{index, top, all_fields, name}
use Rattle.fields.specs.Hook.{hook_of}
use Rattle.fields.specs.Packet.{key_of, value_of, carries, IsPacket, number_of_text, leftmost_fault, checked, packet_at, packet_of, PacketView, has_key, field_of, part_of, text_in, text_of, fault_of_part, word_fault}
use Rattle.fields.specs.text.Number.{number_to, number_of}
use Rattle.fields.specs.steps.GivenNumbers.{number_in, AllFit, value_in, IsGiven, fault_in, with_part, checked_in}
use Rattle.fields.specs.declared.numbers.field.Field.{Field}
use Rattle.fields.specs.declared.numbers.field.TheConstants.Field.{ALL}
use Rattle.fields.specs.declared.packet.hook.Hook.{Hook}
use Rattle.fields.specs.declared.packet.keys.ValueKind.{ValueKind}
use Rattle.fields.specs.declared.packet.PacketFault.TheVariants.{UnknownKey, KeyMissing, BadValue, NotCarried}
use Rattle.fields.specs.text.Cut.{cut_at}
use Rattle.fields.specs.values.Interface.{is_interface, interface_of, interface_value}
use Rattle.fields.specs.values.Icmp.{packet_icmp_of}
use Rattle.fields.specs.values.Protocol.{protocols, protocol_number, one_protocol_of}
use Rattle.fields.specs.declared.packet.keys.Shape.{Shape}
use Rattle.fields.specs.declared.packet.PacketFault.{PacketFault}
use Rattle.fields.specs.values.NameList.{set_listed}
use Rattle.fields.specs.values.Prefix.{address_of}
use Rattle.fields.specs.declared.packet.hook.Hook.TheVariants.{Input}
use Rattle.fields.specs.declared.numbers.field.Field.TheVariants as fields
use Rattle.fields.specs.declared.packet.keys.ValueKind.TheVariants as value
use Rattle.fields.proofs.laws.values.ConnectionStateLaws.{packet_state_within}
use Rattle.fields.proofs.laws.values.InterfaceLaws.{bound-is, bound-fits, interface_of-form}
use Rattle.fields.proofs.laws.ListLaws.{find-passes, find-is}
use Rattle.fields.proofs.laws.values.TcpFlagsLaws.{known as flags_known}
use Rattle.fields.proofs.laws.values.TtlLaws.{within as ttl_within}
use Rattle.fields.proofs.laws.text.CutLaws.{step_before, same_some}
use Rattle.fields.proofs.laws.text.NumberLaws.{number_to_sound}
use Rattle.fields.proofs.laws.values.PrefixLaws.{address_of_sound}

-- ---- Laws of the words of a packet line.

-- the hook, and the words behind it
pub packet_of_first : (words : List (List ℕ)) (from : ℕ) (word : List ℕ) → from < length words → slice_get words from ≡ Some word
    → packet_of (drop from words) ≡ packet_at (hook_of word) (drop (from + 1) words)
packet_of_first words from word within is =
    ap packet_of (drop_more words from [] within) ∙ ap (λ w. packet_at (hook_of w) (drop (from + 1) words)) (get_or_from_slice_get words from word [] is)

pub packet_of_unknown : (words : List (List ℕ)) (from : ℕ) (word : List ℕ) → from < length words → slice_get words from ≡ Some word → None ≡ hook_of word
    → packet_of (drop from words) ≡ Err UnknownKey
packet_of_unknown words from word within is none = packet_of_first words from word within is ∙ ap (λ h. packet_at h (drop (from + 1) words)) (sym none)

pub packet_of_hook : (words : List (List ℕ)) (from : ℕ) (word : List ℕ) (hook : Hook) → from < length words → slice_get words from ≡ Some word → Some hook ≡ hook_of word
    → packet_of (drop from words) ≡ checked hook (drop (from + 1) words) (leftmost_fault [] (drop (from + 1) words))
packet_of_hook words from word hook within is some = packet_of_first words from word within is ∙ ap (λ h. packet_at h (drop (from + 1) words)) (sym some)

-- the greatest number of each kind of value
abbrev greatest : ValueKind → ℕ
greatest value.Address = 4294967295
greatest value.Interface = 340282366920938463463374607431768211455
greatest value.Protocol = 255
greatest value.Bit = 1
greatest value.Port = 65535
greatest value.Flags = 63
greatest value.Icmp = 65535
greatest value.State = 13
greatest value.Ttl = 255

-- an accepted text of an interface is the interface itself
pub interface_is_text : (text name : List ℕ) → interface_of text ≡ Some name → interface_of name ≡ Some name
unfolding interface_of
interface_is_text text name reads = go (is_interface text) refl reads
  where
    go : (t : Bool) → is_interface text ≡ t → cond t (Some text) None ≡ Some name → cond (is_interface name) (Some name) None ≡ Some name
    go false is e = absurd (cc)
    go true is e = let same = same_some text name e in ap (λ b. cond b (Some name) None) (ap is_interface (sym same) ∙ is)

interface_fits : (name : List ℕ) → interface_of name ≡ Some name → interface_value name ≤ 340282366920938463463374607431768211455
unfolding interface_value
interface_fits name reads =
    let form = interface_of-form name reads in
    let few = form.few in
    let number = bound-is 0 16 name (omega arith) in
    let fits = bound-fits 0 16 name (omega arith) form.bytes in
    omega arith

abbrev is_small : List ℕ × ℕ → Bool
is_small entry = nat_le entry.1 255

numbers_small : list_all is_small protocols ≡ true
numbers_small = refl

protocol_fits : (text : List ℕ) (n : ℕ) → one_protocol_of text ≡ Some n → n ≤ 255
unfolding one_protocol_of protocol_number
protocol_fits text n e = go (find (λ (entry : List ℕ × ℕ). bytes_eq entry.0 text) protocols) refl e
  where
    go : (o : Option (List ℕ × ℕ)) → find (λ (entry : List ℕ × ℕ). bytes_eq entry.0 text) protocols ≡ o
        → option_or (option_map (λ entry. entry.1) o) (number_to 255 text) ≡ Some n → n ≤ 255
    go None found is = let (number, small) = number_to_sound 255 text n is in small
    go (Some entry) found is =
        let small = leb-true entry.1 255 (find-passes (λ (e : List ℕ × ℕ). bytes_eq e.0 text) is_small protocols entry found numbers_small).1 in
        let same = same_some entry.1 n is in
        omega arith

icmp_fits : (text : List ℕ) (n : ℕ) → packet_icmp_of text ≡ Some n → n ≤ 65535
unfolding packet_icmp_of
icmp_fits text n e =
    let (p, cut, behind) = step_before (cut_at 47 text) (λ p. number_to 255 p.0 >>= λ t. number_to 255 p.1 >>= λ c. Some (t * 256 + c)) n e in
    let (t, first, further) = step_before (number_to 255 p.0) (λ t. number_to 255 p.1 >>= λ c. Some (t * 256 + c)) n behind in
    let (c, second, last) = step_before (number_to 255 p.1) (λ c. Some (t * 256 + c)) n further in
    let high = (number_to_sound 255 p.0 t first).1 in
    let low = (number_to_sound 255 p.1 c second).1 in
    let same = same_some (t * 256 + c) n last in
    omega arith

value_of_fits : (kind : ValueKind) (text : List ℕ) (n : ℕ) → value_of kind text ≡ Some n → n ≤ greatest kind
value_of_fits value.Address text n e = let (is, small) = address_of_sound text n e in omega arith
value_of_fits value.Interface text n e =
    let (name, reads, is) = step_before (interface_of text) (λ name. Some (interface_value name)) n e in
    let fits = interface_fits name (interface_is_text text name reads) in
    let same = same_some (interface_value name) n is in
    omega arith
value_of_fits value.Protocol text n e = protocol_fits text n e
value_of_fits value.Bit text n e = let (number, small) = number_to_sound 1 text n e in small
value_of_fits value.Port text n e = let (number, small) = number_to_sound 65535 text n e in small
value_of_fits value.Flags text n e = let small = flags_known text n e in omega arith
value_of_fits value.Icmp text n e = icmp_fits text n e
value_of_fits value.State text n e = packet_state_within text (Some n) (sym e)
value_of_fits value.Ttl text n e = let small = ttl_within text n e in omega arith

-- is within the top of each field whose key has the kind
greatest_fits : (field : Field) → greatest (key_of field).value ≤ top field
greatest_fits fields.Source = lit≤ tt
greatest_fits _ = lit≤ tt

-- what a field has where no word gives its number is within its top
absent_fits : (field : Field) → (key_of field).absent ≤ top field
absent_fits fields.Source = lit≤ tt
absent_fits _ = lit≤ tt

pub number_on_fits : (field : Field) (text : List ℕ) (n : ℕ) → number_of_text field text ≡ Some n → n ≤ top field
number_on_fits field text n e = let kind = value_of_fits (key_of field).value text n e in let whole = greatest_fits field in omega (arith, kind, whole)

value_in_fits : (given : List (Option ℕ)) → AllFit given → (field : Field) → value_in given field ≤ top field
value_in_fits given fit field = go (number_in given field) (fit field)
  where
    go : (o : Option ℕ) → ((n : ℕ) → o ≡ Some n → n ≤ top field) → unwrap_or o (key_of field).absent ≤ top field
    go None small = absent_fits field
    go (Some n) small = small n refl

-- a list of one value a field has each at the field's index
at_index : (f : Field → ℕ) (field : Field) → slice_index (map f ALL) (index field) ≡ f field
at_index f fields.Source = refl
at_index f _ = refl

pub values_fit : (hook : Hook) (given : List (Option ℕ)) (values : List ℕ) → AllFit given → values ≡ map (value_in given) ALL → IsPacket (record { hook = hook; values = values })
values_fit hook given values fit are =
    subst
    (λ (vs : List ℕ). IsPacket (record { hook = hook; values = vs }))
    (sym are)
    (record {
      whole = refl;
      within = λ field. subst (λ n. n ≤ top field) (sym (at_index (value_in given) field)) (value_in_fits given fit field);
    })

-- ---- Laws of the numbers that the words of a packet line give.

-- each field is that of its name, and stands at its index
own_key : (field : Field) → field_of (name field) ≡ Some field
own_key fields.Source = refl
own_key _ = refl

own_place : (field : Field) → slice_get all_fields (index field) ≡ Some field
own_place fields.Source = refl
own_place _ = refl

pub same_field : (f g : Field) → index f ≡ index g → f ≡ g
same_field f g e = same_some f g (sym (own_place f) ∙ ap (slice_get all_fields) e ∙ own_place g)

-- of all names, a key is that of its field alone
key_test : (g f : Field) (key : List ℕ) → field_of key ≡ Some f → bytes_eq (name g) key ≡ eqb (index g) (index f)
key_test g f key found = go (eqb (index g) (index f)) refl (bytes_eq (name g) key) refl
  where
    go : (t : Bool) → eqb (index g) (index f) ≡ t → (u : Bool) → bytes_eq (name g) key ≡ u → u ≡ t
    go true same true on = refl
    go false other false off = refl
    go true same false off =
        let is = same_field g f (eqb-true (index g) (index f) same) in
        absurd (false≢true (sym off ∙ ap (λ x. bytes_eq (name x) key) is ∙ find-is (has_key key) all_fields f found))
    go false other true on =
        let named = (bytes_eq-Decides (name g) key).0 on in
        let is = same_some g f (sym (own_key g) ∙ ap field_of named ∙ found) in
        absurd (false≢true (sym other ∙ eq-eqb (index g) (index f) (ap index is)))

-- a word gives its text to the field of its key, and to no other
text_in-part : (g f : Field) (text word : List ℕ) → part_of word ≡ Some (f, text) → text_in g word ≡ cond (eqb (index g) (index f)) (Some text) None
text_in-part g f text word is =
    let (p, cut, further) = step_before (cut_at 61 word) (λ p. field_of p.0 >>= λ field. Some (field, p.1)) (f, text) is in
    let (h, key, last) = step_before (field_of p.0) (λ field. Some (field, p.1)) (f, text) further in
    let both = same_some (h, p.1) (f, text) last in
    let found : field_of p.0 ≡ Some f = key ∙ ap (λ (q : Field × List ℕ). Some (q.0)) both in
    ap (λ (o : Option (List ℕ × List ℕ)). o >>= λ q. if bytes_eq (name g) q.0 then Some q.1 else None) cut
    ∙ ap (λ t. cond t (Some p.1) None) (key_test g f p.0 found)
    ∙ ap (λ (q : Field × List ℕ). cond (eqb (index g) (index f)) (Some q.1) None) both

or_none : (o : Option (List ℕ)) → option_or o None ≡ o
or_none None = refl
or_none (Some x) = refl

or_further : (a b c : Option (List ℕ)) → option_or a (option_or b c) ≡ option_or (option_or a b) c
or_further None b c = refl
or_further (Some x) b c = refl

-- the text that words give with one more behind them
text_of-push : (field : Field) (before : List (List ℕ)) (word : List ℕ) → text_of field (before ++ word ∷ []) ≡ option_or (text_of field before) (text_in field word)
text_of-push field [] word = or_none (text_in field word)
text_of-push field (w ∷ ws) word = ap (option_or (text_in field w)) (text_of-push field ws word) ∙ or_further (text_in field w) (text_of field ws) (text_in field word)

-- the numbers with one of them put in its place
number_in-set : (given : List (Option ℕ)) (f g : Field) (n : Option ℕ) → length given ≡ length all_fields
    → number_in (set given (index f) n) g ≡ cond (eqb (index g) (index f)) n (number_in given g)
number_in-set given f g n whole = go (eqb (index g) (index f)) refl
  where
    go : (t : Bool) → eqb (index g) (index f) ≡ t → number_in (set given (index f) n) g ≡ cond t n (number_in given g)
    go true same =
        let low = slice_get_within all_fields (index f) f (own_place f) in
        get_or-set_at given (index f) (index g) n None (eqb-true (index g) (index f) same) (omega arith)
    go false other = get_or-set_other given (index f) (index g) n None (λ e. false≢true (sym other ∙ eq-eqb (index g) (index f) e))

pub is_none-of : {A : Type 0} (o : Option A) → is_some o ≡ false → o ≡ None
is_none-of None e = refl
is_none-of (Some x) e = absurd (false≢true (sym e))

is_some-of : {A : Type 0} (o : Option A) → is_none o ≡ false → is_some o ≡ true
is_some-of None e = absurd (false≢true (sym e))
is_some-of (Some x) e = refl

-- one more word whose key was not given yet, and whose value is one
module _ (given : List (Option ℕ)) (before : List (List ℕ)) (word : List ℕ) (f : Field) (text : List ℕ) (are : IsGiven given before) (is : part_of word ≡ Some (f, text)) (free : is_some (number_in given f) ≡ false) (good : is_none (number_of_text f text) ≡ false) where
  text_with : (g : Field) → text_of g (before ++ word ∷ []) ≡ option_or (text_of g before) (cond (eqb (index g) (index f)) (Some text) None)
  text_with g = text_of-push g before word ∙ ap (option_or (text_of g before)) (text_in-part g f text word is)

  none_before : (g : Field) → g ≡ f → text_of g before ≡ None
  none_before g same = is_none-of (text_of g before) (sym (are.filled g) ∙ ap (λ x. is_some (number_in given x)) same ∙ free)

  number_with : (g : Field) (t : Bool) → eqb (index g) (index f) ≡ t
      → cond t (number_of_text f text) (number_in given g) ≡ (option_or (text_of g before) (cond t (Some text) None) >>= λ w. number_of_text g w)
  number_with g true same =
      let is_f = same_field g f (eqb-true (index g) (index f) same) in
      ap (λ x. number_of_text x text) (sym is_f) ∙ ap (λ o. option_or o (Some text) >>= λ w. number_of_text g w) (sym (none_before g is_f))
  number_with g false other = are.number g ∙ ap (λ o. o >>= λ w. number_of_text g w) (sym (or_none (text_of g before)))

  filled_with : (g : Field) (t : Bool) → eqb (index g) (index f) ≡ t
      → is_some (cond t (number_of_text f text) (number_in given g)) ≡ is_some (option_or (text_of g before) (cond t (Some text) None))
  filled_with g true same =
      let is_f = same_field g f (eqb-true (index g) (index f) same) in
      is_some-of (number_of_text f text) good ∙ ap (λ o. is_some (option_or o (Some text))) (sym (none_before g is_f))
  filled_with g false other = are.filled g ∙ ap is_some (sym (or_none (text_of g before)))

  given_with : IsGiven (set given (index f) (number_of_text f text)) (before ++ word ∷ [])
  given_with = record {
    whole = length-set given (index f) (number_of_text f text) ∙ are.whole;
    number = λ g.
        number_in-set given f g (number_of_text f text) are.whole
        ∙ number_with g (eqb (index g) (index f)) refl
        ∙ ap (λ o. o >>= λ w. number_of_text g w) (sym (text_with g));
    filled = λ g. ap is_some (number_in-set given f g (number_of_text f text) are.whole) ∙ filled_with g (eqb (index g) (index f)) refl ∙ ap is_some (sym (text_with g));
  }

neither : (b c : Bool) → (if b || c then Some BadValue else None) ≡ None → (b ≡ false) × (c ≡ false)
neither true c e = absurd (cc)
neither false true e = absurd (cc)
neither false false e = (refl, refl)

given_more : (given : List (Option ℕ)) (before : List (List ℕ)) (word : List ℕ) → IsGiven given before → fault_in given (part_of word) ≡ None → IsGiven (with_part given (part_of word)) (before ++ word ∷ [])
given_more given before word are = go (part_of word) refl
  where
    go : (part : Option (Field × List ℕ)) → part_of word ≡ part → fault_in given part ≡ None → IsGiven (with_part given part) (before ++ word ∷ [])
    go None is none = absurd (cc)
    go (Some part) is none =
        let (free, good) = neither (is_some (number_in given part.0)) (is_none (number_of_text part.0 part.1)) none in
        given_with given before word part.0 part.1 are is free good

-- the fault of a word after words is that after their numbers
fault_after : (given : List (Option ℕ)) (before : List (List ℕ)) (word : List ℕ) → IsGiven given before → word_fault before word ≡ fault_in given (part_of word)
fault_after given before word are = go (part_of word)
  where
    go : (part : Option (Field × List ℕ)) → fault_of_part before part ≡ fault_in given part
    go None = refl
    go (Some part) = ap (λ b. if b || is_none (number_of_text part.0 part.1) then Some BadValue else None) (sym (are.filled part.0))

-- the word at a place, behind those from the first on
module _ (words : List (List ℕ)) (first place : ℕ) (word : List ℕ) (given : List (Option ℕ)) (ordered : first ≤ place) (within : place < length words) (is : slice_get words place ≡ Some word) (are : IsGiven given (drop first (take place words))) where
  before_more : drop first (take (place + 1) words) ≡ drop first (take place words) ++ word ∷ []
  before_more =
      let inside : first ≤ length (take place words) = grind (arith, length-take {A = List ℕ}) in
      ap (drop first) (take_more words place [] within)
      ∙ drop-append-le first (take place words) (get_or words place [] ∷ []) inside
      ∙ ap (λ w. drop first (take place words) ++ w ∷ []) (get_or_from_slice_get words place word [] is)

  pub fault_first : leftmost_fault (drop first (take place words)) (drop place words)
      ≡ option_or (fault_in given (part_of word)) (leftmost_fault (drop first (take (place + 1) words)) (drop (place + 1) words))
  fault_first =
      let before = drop first (take place words) in
      let rest = drop (place + 1) words in
      ap (leftmost_fault before) (drop_more words place [] within ∙ ap (λ w. w ∷ rest) (get_or_from_slice_get words place word [] is))
      ∙ ap (λ f. option_or f (leftmost_fault (before ++ word ∷ []) rest)) (fault_after given before word are)
      ∙ ap (λ l. option_or (fault_in given (part_of word)) (leftmost_fault l rest)) (sym before_more)

  pub given_first : fault_in given (part_of word) ≡ None → IsGiven (with_part given (part_of word)) (drop first (take (place + 1) words))
  given_first none = subst (λ (l : List (List ℕ)). IsGiven (with_part given (part_of word)) l) (sym before_more) (given_more given (drop first (take place words)) word are none)

-- the numbers of words fit
pub given_fit : (given : List (Option ℕ)) (words : List (List ℕ)) → IsGiven given words → AllFit given
given_fit given words are field n e =
    let (text, gives, reads) = step_before (text_of field words) (λ w. number_of_text field w) n (sym (are.number field) ∙ e) in
    number_on_fits field text n reads

is_none-same : {A B : Type 0} (o : Option A) (p : Option B) → is_some o ≡ is_some p → is_none o ≡ is_none p
is_none-same None None e = refl
is_none-same None (Some y) e = absurd (false≢true e)
is_none-same (Some x) None e = absurd (false≢true (sym e))
is_none-same (Some x) (Some y) e = refl

-- the packet of a hook, by the number of each field and by which fields have one
abbrev checked_by : Hook → (Field → Option ℕ) → (Field → Bool) → (Field → Bool) → Result PacketView PacketFault
checked_by hook number filled empty =
    let value : Field → ℕ = λ field. unwrap_or (number field) (key_of field).absent in
    let shape : Shape = record { hook = hook; protocol = number fields.Protocol; fragment = value fields.Fragment } in
    if list_any (λ field. filled field && not (carries shape (key_of field).carrier)) all_fields then Err NotCarried
    else if list_any (λ field. (key_of field).is_required && carries shape (key_of field).carrier && empty field) all_fields then Err KeyMissing
    else Ok (record { hook = hook; values = map value all_fields })

pub checked_same : (hook : Hook) (given : List (Option ℕ)) (words : List (List ℕ)) → IsGiven given words → checked_in hook given ≡ checked hook words None
checked_same hook given words are =
    λ i. checked_by hook (λ field. are.number field i) (λ field. are.filled field i) (λ field. is_none-same (number_in given field) (text_of field words) (are.filled field) i)

-- ---- The definition at a few packet lines.

whole_line : packet_of (codes "INPUT" ∷ codes "src=10.9.9.9" ∷ codes "dst=2.2.2.2" ∷ codes "proto=47" ∷ [])
    ≡ Ok (record { hook = Input; values = 168364297 ∷ 33686018 ∷ 0 ∷ 0 ∷ 47 ∷ 0 ∷ 0 ∷ 0 ∷ 0 ∷ 0 ∷ 0 ∷ 64 ∷ [] })
unfolding number_of number_to address_of one_protocol_of protocol_number
whole_line = refl

-- a bad value stands left of an unknown key
leftmost_first : packet_of (codes "INPUT" ∷ codes "src=10.9.9" ∷ codes "lo" ∷ []) ≡ Err BadValue
unfolding number_of number_to address_of one_protocol_of protocol_number
leftmost_first = refl

key_twice : packet_of (codes "INPUT" ∷ codes "proto=47" ∷ codes "proto=47" ∷ codes "lo" ∷ []) ≡ Err BadValue
unfolding number_of number_to address_of one_protocol_of protocol_number
key_twice = refl

-- a word at fault goes before a missing key
missing_last : packet_of (codes "INPUT" ∷ codes "proto=47" ∷ codes "src" ∷ []) ≡ Err UnknownKey
unfolding number_of number_to address_of one_protocol_of protocol_number
missing_last = refl

missing_key : packet_of (codes "INPUT" ∷ codes "proto=47" ∷ codes "src=1.1.1.1" ∷ []) ≡ Err KeyMissing
unfolding number_of number_to address_of one_protocol_of protocol_number
missing_key = refl

-- a segment with its ports and flags, on an interface
tcp_segment : packet_of (codes "INPUT" ∷ codes "src=1.1.1.1" ∷ codes "dst=2.2.2.2" ∷ codes "proto=tcp" ∷ codes "sport=1000" ∷ codes "dport=80" ∷ codes "flags=SYN,ack" ∷ codes "in=eth0" ∷ codes "ct=new,SNAT" ∷ [])
    ≡ Ok (record { hook = Input; values = 16843009 ∷ 33686018 ∷ 134856447183417123626606345666747695104 ∷ 0 ∷ 6 ∷ 0 ∷ 1000 ∷ 80 ∷ 18 ∷ 0 ∷ 3 ∷ 64 ∷ [] })
unfolding number_of number_to address_of one_protocol_of protocol_number interface_of interface_value set_listed
tcp_segment = refl

-- a further fragment has no ports, and a packet without a protocol none either
fragment_with_ports : packet_of (codes "INPUT" ∷ codes "src=1.1.1.1" ∷ codes "dst=2.2.2.2" ∷ codes "proto=udp" ∷ codes "sport=1" ∷ codes "frag=1" ∷ []) ≡ Err NotCarried
unfolding number_of number_to address_of one_protocol_of protocol_number
fragment_with_ports = refl

ports_alone : packet_of (codes "INPUT" ∷ codes "sport=1" ∷ []) ≡ Err NotCarried
unfolding number_of number_to address_of one_protocol_of protocol_number
ports_alone = refl

port_missing : packet_of (codes "INPUT" ∷ codes "src=1.1.1.1" ∷ codes "dst=2.2.2.2" ∷ codes "proto=udp" ∷ codes "sport=1" ∷ []) ≡ Err KeyMissing
unfolding number_of number_to address_of one_protocol_of protocol_number
port_missing = refl
