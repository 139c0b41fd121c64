-- The line of a packet writes it, word by word.
use Rattle.std.proofs.Common.{◌≡◌, ℕ, ◌+◌, ◌<◌, Bool, true, false, cond, List, [], ◌∷◌, ◌++◌, length, take, get_or, flat_map, ap, ◌∙◌, append-nil, ◌≢◌, ◌==◌, zero, suc, ◌≤◌, not, ◌&&◌, ◌||◌, eqb, map, Option, None, Some, Result, Ok, Err, is_some, is_none, refl, sym, subst, inl, inr, arith, eq-eqb, filter, unwrap_or, ext_get_or, eqb-true, true≢false}
use Rattle.classify.proofs.laws.classifier.ClassifierLaws.{field_at}
use Rattle.std.proofs.lemmas.List.{take_more, map-append}
use Rattle.std.proofs.lemmas.List.Concat.{flat_map-append}
use Rattle.std.proofs.lemmas.List.Elements.{filter-append}
use Rattle.std.specs.List.{list_any}
use Rattle.std.specs.Option.{option_or}
use Rattle.std.specs.Str.{bytes_eq}
use Rattle.std.proofs.lemmas.Bool.{and_parts, false≢true}
use Rattle.std.proofs.lemmas.Slice.Eq.{bytes_eq-Decides}
use Rattle.fields.specs.declared.numbers.field.Field.{Field}
use Rattle.fields.specs.Packet.{PacketView as Packet, carries_key, checked, fault_of_part, field_of, lacks, leftmost_fault, number_of_text, packet_at, packet_of, packet_shape, part_of, point, shape_of, strays, text_in, text_of, value_on, word_fault, carries, key_of}
use Rattle.fields.specs.Sequence.{◌>>=◌}
use Rattle.fields.specs.declared.packet.PacketFault.{PacketFault}
use Rattle.fields.specs.declared.packet.PacketFault.TheVariants.{BadValue, KeyMissing, NotCarried}
use Rattle.fields.specs.declared.packet.hook.Hook.{Hook}
use Rattle.fields.specs.numbers.Field.{all_fields, index, name, top}
use Rattle.fields.specs.Hook.{hook_of, name as hook_name}
use Rattle.fields.specs.text.Cut.{cut_at}
use Rattle.fields.specs.text.Printed.{ArePrintable, IsBareWord, IsPrintable, Shown, bare, spaced_all}
use Rattle.fields.specs.text.Words.{words_of}
use Rattle.fields.specs.values.Interface.{interface_value}
use Rattle.fields.proofs.laws.PacketLaws.{same_field}
use Rattle.fields.proofs.laws.text.CutLaws.{same_some}
use Rattle.fields.proofs.laws.text.PrintedLaws.{lines_read_back}
use Rattle.fields.proofs.laws.values.BareLaws.{joined}
use Rattle.notation.specs.ValueText.{HasName, HasText, value_text}
use Rattle.notation.proofs.ValueTextLaws.{reads_back, text_is_bare}
use Rattle.fields.specs.declared.numbers.field.Field.TheVariants as field
use Rattle.fields.specs.declared.packet.hook.Hook.TheVariants as hook
use Rattle.questions.specs.steps.Sampled.{is_written, spaced_word, spaced_words, packet_line, word_of, written_among, CanBeWritten, IsInterfaceNumber, Writes}

-- ---- One word more of what a line writes.

-- one item more of those that pass a test
module _ {A : Type 0} (test : A → Bool) (xs : List A) (i : ℕ) (d : A) (within : i < length xs) where
  filtered-more : filter test (take (i + 1) xs) ≡ filter test (take i xs) ++ cond (test (get_or xs i d)) (get_or xs i d ∷ []) []
  filtered-more = ap (filter test) (take_more xs i d within) ∙ filter-append test (take i xs) (get_or xs i d ∷ [])

  pub filtered-yes : test (get_or xs i d) ≡ true → filter test (take (i + 1) xs) ≡ filter test (take i xs) ++ get_or xs i d ∷ []
  filtered-yes passes = filtered-more ∙ ap (λ b. filter test (take i xs) ++ cond b (get_or xs i d ∷ []) []) passes

  pub filtered-no : test (get_or xs i d) ≡ false → filter test (take (i + 1) xs) ≡ filter test (take i xs)
  filtered-no fails = filtered-more ∙ ap (λ b. filter test (take i xs) ++ cond b (get_or xs i d ∷ []) []) fails ∙ append-nil (filter test (take i xs))

-- one word more, or none
module _ (p : Packet) (fields : List Field) (i : ℕ) (d : Field) (within : i < length fields) where
  pub spaced-yes : is_written p (get_or fields i d) ≡ true → spaced_words p (take (i + 1) fields) ≡ spaced_words p (take i fields) ++ spaced_word p (get_or fields i d)
  spaced-yes written =
      ap (flat_map (spaced_word p)) (filtered-yes (is_written p) fields i d within written)
      ∙ flat_map-append (spaced_word p) (filter (is_written p) (take i fields)) (get_or fields i d ∷ [])
      ∙ ap (λ l. spaced_words p (take i fields) ++ l) (append-nil (spaced_word p (get_or fields i d)))

  pub spaced-no : is_written p (get_or fields i d) ≡ false → spaced_words p (take (i + 1) fields) ≡ spaced_words p (take i fields)
  spaced-no left_out = ap (flat_map (spaced_word p)) (filtered-no (is_written p) fields i d within left_out)

-- ---- The line of a packet writes it.

-- what the word of a field is, with any text
cut_word : (f : Field) (text : List ℕ) → cut_at 61 (name f ++ 61 ∷ text) ≡ Some (name f, text)
cut_word field.Source text = refl
cut_word _ text = refl

part_of_word : (f : Field) (text : List ℕ) → part_of (name f ++ 61 ∷ text) ≡ Some (f, text)
part_of_word field.Source text = refl
part_of_word _ text = refl

own_key : (f : Field) → field_of (name f) ≡ Some f
own_key field.Source = refl
own_key _ = refl

names_differ : (g f : Field) → bytes_eq (name g) (name f) ≡ eqb (index g) (index f)
names_differ g f = go (eqb (index g) (index f)) refl (bytes_eq (name g) (name f)) refl
  where
    go : (e : Bool) → eqb (index g) (index f) ≡ e → (n : Bool) → bytes_eq (name g) (name f) ≡ n → n ≡ e
    go true same true named = refl
    go false other false unlike = refl
    go true same false unlike =
        let is = same_field g f (eqb-true (index g) (index f) same) in
        absurd (false≢true (sym unlike ∙ (bytes_eq-Decides (name g) (name f)).1 (ap name is)))
    go false other true named =
        let is = same_some g f (sym (own_key g) ∙ ap field_of ((bytes_eq-Decides (name g) (name f)).0 named) ∙ own_key f) in
        absurd (false≢true (sym other ∙ eq-eqb (index g) (index f) (ap index is)))

text_in_word : (g f : Field) (text : List ℕ) → text_in g (name f ++ 61 ∷ text) ≡ cond (eqb (index g) (index f)) (Some text) None
text_in_word g f text =
    ap (λ (o : Option (List ℕ × List ℕ)). o >>= λ p. cond (bytes_eq (name g) p.0) (Some p.1) None) (cut_word f text)
    ∙ ap (λ b. cond b (Some text) None) (names_differ g f)

key_is_bare : (f : Field) → IsBareWord (name f)
key_is_bare field.Source = record { some = λ e. cc; bytes = refl }
key_is_bare _ = record { some = λ e. cc; bytes = refl }

hook_is_bare : (h : Hook) → IsBareWord (hook_name h)
hook_is_bare hook.Input = record { some = λ e. cc; bytes = refl }
hook_is_bare hook.Forward = record { some = λ e. cc; bytes = refl }
hook_is_bare hook.Output = record { some = λ e. cc; bytes = refl }

hook_of_name : (h : Hook) → hook_of (hook_name h) ≡ Some h
hook_of_name hook.Input = refl
hook_of_name hook.Forward = refl
hook_of_name hook.Output = refl

-- whether a field is among some
abbrev is_among : Field → List Field → Bool
is_among g fields = list_any (λ f. eqb (index g) (index f)) fields

each_among : (g : Field) → is_among g all_fields ≡ true
each_among field.Source = refl
each_among _ = refl

-- none of the fields is among those before it
abbrev are_fresh : List Field → List Field → Bool
are_fresh before [] = true
are_fresh before (f ∷ fields) = not (is_among f before) && are_fresh (before ++ f ∷ []) fields

-- a number that isn't 0, by its test
some_number : (n : ℕ) → not (n == 0) ≡ true → n ≢ 0
some_number n off is = false≢true (subst (λ m. not (m == 0) ≡ true) is off)

no_number : (n : ℕ) → not (n == 0) ≡ false → n ≡ 0
no_number n off = go (n == 0) refl off
  where
    go : (t : Bool) → (n == 0) ≡ t → not t ≡ false → n ≡ 0
    go true is e = eqb-true n 0 is
    go false is e = absurd (true≢false e)

-- the number of an interface that is there has a name
interface_has_text : (n : ℕ) → IsInterfaceNumber n → n ≢ 0 → HasName n
unfolding interface_value
interface_has_text n (name, inl none, is) some = absurd (some (is ∙ ap interface_value none))
interface_has_text n (name, inr reads, is) some = (name, reads, is)

-- the fault of a word, by the text that its field has before, and by its number
abbrev fault_by : Option (List ℕ) → Option ℕ → Option PacketFault
fault_by text number = cond (is_some text || is_none number) (Some BadValue) None

-- the answer by whether a key strays, and whether one lacks
abbrev answer : Hook → Bool → Bool → List ℕ → Result Packet PacketFault
answer place stray lack values = cond stray (Err NotCarried) (cond lack (Err KeyMissing) (Ok (record { hook = place; values = values })))

-- a packet that can be written
module _ (p : Packet) (can : CanBeWritten p) where
  within : (f : Field) → point p f ≤ top f
  within f = can.at_hook.packet.within f

  unless_carried : (f : Field) → not (point p f == 0) ≡ true → carries_key p f ≡ true
  unless_carried f some = go (carries_key p f) refl
    where
      go : (t : Bool) → carries_key p f ≡ t → t ≡ true
      go true is = refl
      go false is = absurd (some_number (point p f) some (can.at_hook.carried f is))

  -- only what is carried is written
  written_carried : (f : Field) → is_written p f ≡ true → carries_key p f ≡ true
  written_carried field.InIface is = unless_carried field.InIface is
  written_carried field.OutIface is = unless_carried field.OutIface is
  written_carried field.Fragment is = unless_carried field.Fragment is
  written_carried field.TcpFlags is = unless_carried field.TcpFlags is
  written_carried field.ConnectionState is = unless_carried field.ConnectionState is
  written_carried _ is = is

  -- what isn't written is what it is where no word gives it
  unwritten : (f : Field) → is_written p f ≡ false → (key_of f).absent ≡ point p f
  unwritten field.InIface is = sym (no_number (point p field.InIface) is)
  unwritten field.OutIface is = sym (no_number (point p field.OutIface) is)
  unwritten field.Fragment is = sym (no_number (point p field.Fragment) is)
  unwritten field.TcpFlags is = sym (no_number (point p field.TcpFlags) is)
  unwritten field.ConnectionState is = sym (no_number (point p field.ConnectionState) is)
  unwritten field.SourcePort is = sym (can.at_hook.carried field.SourcePort is)
  unwritten field.DestinationPort is = sym (can.at_hook.carried field.DestinationPort is)
  unwritten field.IcmpType is = sym (can.at_hook.carried field.IcmpType is)
  unwritten _ is = absurd (true≢false is)

  -- what has to be given is written where it is carried
  required_written : (f : Field) → (key_of f).is_required ≡ true → carries_key p f ≡ true → is_written p f ≡ true
  required_written field.InIface wanted is = absurd (false≢true wanted)
  required_written field.OutIface wanted is = absurd (false≢true wanted)
  required_written field.Fragment wanted is = absurd (false≢true wanted)
  required_written field.TcpFlags wanted is = absurd (false≢true wanted)
  required_written field.ConnectionState wanted is = absurd (false≢true wanted)
  required_written _ wanted is = is

  has_text : (f : Field) → is_written p f ≡ true → HasText f (point p f)
  has_text field.InIface is = interface_has_text (point p field.InIface) can.came (some_number (point p field.InIface) is)
  has_text field.OutIface is = interface_has_text (point p field.OutIface) can.goes (some_number (point p field.OutIface) is)
  has_text f is = within f

  abbrev text : Field → List ℕ
  text f = value_text f (point p f)

  abbrev word : Field → List ℕ
  word f = word_of f (point p f)

  number_reads : (f : Field) → is_written p f ≡ true → number_of_text f (text f) ≡ Some (point p f)
  number_reads f is = reads_back f (point p f) (has_text f is)

  word_is_bare : (f : Field) → is_written p f ≡ true → IsBareWord (word f)
  word_is_bare f is = joined 61 (name f) (text f) refl (key_is_bare f) (text_is_bare f (point p f) (has_text f is))

  -- the words of the written ones of some fields
  abbrev words : List Field → List (List ℕ)
  words fields = map word (written_among p fields)

  words-append : (xs ys : List Field) → words (xs ++ ys) ≡ words xs ++ words ys
  words-append xs ys = ap (map word) (filter-append (is_written p) xs ys) ∙ map-append word (written_among p xs) (written_among p ys)

  and_none : (b : Bool) (x : Option (List ℕ)) → cond (b && false) x None ≡ None
  and_none true x = refl
  and_none false x = refl

  -- they give each of them its own text
  text_of-words : (g : Field) (fields : List Field) → text_of g (words fields) ≡ cond (is_among g fields && is_written p g) (Some (text g)) None
  text_of-words g [] = refl
  text_of-words g (f ∷ fields) = go (text_of-words g fields) (is_written p f) refl (eqb (index g) (index f)) refl
    where
      go : text_of g (words fields) ≡ cond (is_among g fields && is_written p g) (Some (text g)) None
          → (w : Bool) → is_written p f ≡ w → (e : Bool) → eqb (index g) (index f) ≡ e
          → text_of g (map word (cond w (f ∷ written_among p fields) (written_among p fields))) ≡ cond ((e || is_among g fields) && is_written p g) (Some (text g)) None
      go further true on true same =
          let is = same_field g f (eqb-true (index g) (index f) same) in
          ap (λ o. option_or o (text_of g (words fields))) (text_in_word g f (text f) ∙ ap (λ b. cond b (Some (text f)) None) same)
          ∙ ap (λ x. Some (text x)) (sym is) ∙ ap (λ b. cond b (Some (text g)) None) (sym (ap (is_written p) is ∙ on))
      go further true on false other = ap (λ o. option_or o (text_of g (words fields))) (text_in_word g f (text f) ∙ ap (λ b. cond b (Some (text f)) None) other) ∙ further
      go further false off true same =
          let is = same_field g f (eqb-true (index g) (index f) same) in
          let none : is_written p g ≡ false = ap (is_written p) is ∙ off in
          further ∙ ap (λ b. cond (is_among g fields && b) (Some (text g)) None) none ∙ and_none (is_among g fields) (Some (text g)) ∙ ap (λ b. cond b (Some (text g)) None) (sym none)
      go further false off false other = further

  -- the words of a field's own and of those before it
  with_own : (before : List Field) (f : Field) (w : Bool) → is_written p f ≡ w → words (before ++ f ∷ []) ≡ words before ++ map word (cond w (f ∷ []) [])
  with_own before f w is = words-append before (f ∷ []) ∙ ap (λ b. words before ++ map word (cond b (f ∷ []) [])) is

  -- a word of a field that isn't among those before it is without fault
  first_of_field : (before : List Field) (f : Field) → is_among f before ≡ false → is_written p f ≡ true → word_fault (words before) (word f) ≡ None
  first_of_field before f new on =
      let free : text_of f (words before) ≡ None = text_of-words f before ∙ ap (λ b. cond (b && is_written p f) (Some (text f)) None) new in
      ap (fault_of_part (words before)) (part_of_word f (text f)) ∙ (λ i. fault_by (free i) (number_reads f on i))

  -- no word is at fault
  no_fault : (before fields : List Field) → are_fresh before fields ≡ true → leftmost_fault (words before) (words fields) ≡ None
  no_fault before [] fresh = refl
  no_fault before (f ∷ fields) fresh =
      let (apart, others) = and_parts (not (is_among f before)) (are_fresh (before ++ f ∷ []) fields) fresh in
      go (turned (is_among f before) apart) (no_fault (before ++ f ∷ []) fields others) (is_written p f) refl
    where
      turned : (b : Bool) → not b ≡ true → b ≡ false
      turned true e = absurd (false≢true e)
      turned false e = refl

      go : is_among f before ≡ false → leftmost_fault (words (before ++ f ∷ [])) (words fields) ≡ None
          → (w : Bool) → is_written p f ≡ w → leftmost_fault (words before) (map word (cond w (f ∷ written_among p fields) (written_among p fields))) ≡ None
      go new further true on =
          ap (λ o. option_or o (leftmost_fault (words before ++ word f ∷ []) (words fields))) (first_of_field before f new on)
          ∙ ap (λ l. leftmost_fault l (words fields)) (sym (with_own before f true on)) ∙ further
      go new further false off = ap (λ l. leftmost_fault l (words fields)) (sym (with_own before f false off ∙ append-nil (words before))) ∙ further

  abbrev own : List (List ℕ)
  own = words all_fields

  own_text : (f : Field) → text_of f own ≡ cond (is_written p f) (Some (text f)) None
  own_text f = text_of-words f all_fields ∙ ap (λ b. cond (b && is_written p f) (Some (text f)) None) (each_among f)

  value_is : (f : Field) → value_on own f ≡ point p f
  value_is f = ap (λ o. unwrap_or (o >>= λ t. number_of_text f t) (key_of f).absent) (own_text f) ∙ go (is_written p f) refl
    where
      go : (w : Bool) → is_written p f ≡ w → unwrap_or (cond w (Some (text f)) None >>= λ t. number_of_text f t) (key_of f).absent ≡ point p f
      go true on = ap (λ o. unwrap_or o (key_of f).absent) (number_reads f on)
      go false off = unwritten f off

  protocol_is : (text_of field.Protocol own >>= λ t. number_of_text field.Protocol t) ≡ Some (point p field.Protocol)
  protocol_is = ap (λ o. o >>= λ t. number_of_text field.Protocol t) (own_text field.Protocol) ∙ number_reads field.Protocol refl

  shape_is : shape_of p.hook own ≡ packet_shape p
  shape_is = λ i. record { hook = p.hook; protocol = protocol_is i; fragment = value_is field.Fragment i }

  strays_none : (f : Field) → strays (shape_of p.hook own) own f ≡ false
  strays_none f = (λ i. is_some (own_text f i) && not (carries (shape_is i) (key_of f).carrier)) ∙ go (is_written p f) refl
    where
      go : (w : Bool) → is_written p f ≡ w → (is_some (cond w (Some (text f)) None) && not (carries_key p f)) ≡ false
      go true on = ap not (written_carried f on)
      go false off = refl

  lacks_none : (f : Field) → lacks (shape_of p.hook own) own f ≡ false
  lacks_none f =
      (λ i. (key_of f).is_required && carries (shape_is i) (key_of f).carrier && is_none (own_text f i))
      ∙ go (key_of f).is_required refl (carries_key p f) refl
    where
      go : (r : Bool) → (key_of f).is_required ≡ r → (c : Bool) → carries_key p f ≡ c → (r && c && is_none (cond (is_written p f) (Some (text f)) None)) ≡ false
      go true wanted true there = ap (λ w. is_none (cond w (Some (text f)) None)) (required_written f wanted there)
      go true wanted false away = refl
      go false free c is = refl

  each_value : map (point p) all_fields ≡ p.values
  each_value = ext_get_or 0 (map (point p) all_fields) p.values (sym can.at_hook.packet.whole) (λ i lt. (let (f, is) = field_at i lt in subst At is (own_value f)))
    where
      At : ℕ → Type 0
      At i = get_or (map (point p) all_fields) i 0 ≡ get_or p.values i 0

      own_value : (f : Field) → At (index f)
      own_value field.Source = refl
      own_value _ = refl

  -- the words are read as the packet
  own_packet : packet_of (hook_name p.hook ∷ own) ≡ Ok p
  own_packet =
      ap (λ o. packet_at o own) (hook_of_name p.hook) ∙ ap (checked p.hook own) (no_fault [] all_fields refl)
      ∙ (λ i. answer p.hook (list_any (λ f. strays_none f i) all_fields) (list_any (λ f. lacks_none f i) all_fields) (map (λ f. value_is f i) all_fields))
      ∙ ap (λ (vs : List ℕ). Ok (record { hook = p.hook; values = vs })) each_value

  -- the words as they are printed
  abbrev shown : List Field → List Shown
  shown fields = map (λ f. bare (word f)) fields

  shown_words : (fields : List Field) → map (λ (s : Shown). s.word) (shown fields) ≡ map word fields
  shown_words [] = refl
  shown_words (f ∷ fields) = ap (λ l. word f ∷ l) (shown_words fields)

  shown_text : (fields : List Field) → spaced_all (shown fields) ≡ flat_map (λ f. 32 ∷ word f) fields
  shown_text [] = refl
  shown_text (f ∷ fields) = ap (λ l. (32 ∷ word f) ++ l) (shown_text fields)

  printable-cons : (s : Shown) (line : List Shown) → IsPrintable s → ArePrintable line → ArePrintable (s ∷ line)
  printable-cons s line here others zero d h = here
  printable-cons s line here others (suc k) d h = others k d (omega arith)

  are_printable : (fields : List Field) → ArePrintable (shown (written_among p fields))
  are_printable [] = λ k d h. absurd (omega arith)
  are_printable (f ∷ fields) = go (are_printable fields) (is_written p f) refl
    where
      go : ArePrintable (shown (written_among p fields)) → (w : Bool) → is_written p f ≡ w → ArePrintable (shown (cond w (f ∷ written_among p fields) (written_among p fields)))
      go others true on = printable-cons (bare (word f)) (shown (written_among p fields)) (word_is_bare f on) others
      go others false off = others

  own_words : words_of (packet_line p) ≡ Some (hook_name p.hook ∷ own)
  own_words =
      let line = bare (hook_name p.hook) ∷ shown (written_among p all_fields) in
      ap (λ l. words_of (hook_name p.hook ++ l)) (sym (shown_text (written_among p all_fields)))
      ∙ lines_read_back line (printable-cons (bare (hook_name p.hook)) (shown (written_among p all_fields)) (hook_is_bare p.hook) (are_printable all_fields))
      ∙ ap (λ l. Some (hook_name p.hook ∷ l)) (shown_words (written_among p all_fields))

  pub line_writes : Writes (packet_line p) p
  line_writes = (hook_name p.hook ∷ own, own_words, own_packet)
