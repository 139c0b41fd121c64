-- A packet that a line writes can be at its hook, and each number up to a field's top is that of a packet that can be.
use Rattle.std.proofs.Common.{◌≡◌, ◌≤◌, ℕ, length, Bool, true, false, cond, ◌&&◌, not, ◌==◌, List, [], ◌∷◌, map, refl, sym, ◌∙◌, ap, subst, Option, Some, None, is_some, unwrap_or, lit≤, inl, inr, get_or, arith, Result, Ok, Err, slice_index, true≢false, eq-eqb, eqb-true}
use Rattle.std.proofs.lemmas.Bool.{cases_Bool, cond-false, cond_both}
use Rattle.std.proofs.lemmas.List.{get_or_default, same_lists}
use Rattle.std.proofs.lemmas.List.Folds.{list_any_at}
use Rattle.std.proofs.Math.Dec.{eqb}
use Rattle.fields.specs.Sequence.{◌>>=◌}
use Rattle.fields.specs.declared.numbers.field.Field.{Field}
use Rattle.fields.specs.declared.packet.PacketFault.{PacketFault}
use Rattle.fields.specs.declared.packet.PacketFault.TheVariants.{NotCarried, KeyMissing}
use Rattle.fields.specs.declared.packet.hook.Hook.{Hook}
use Rattle.fields.specs.numbers.Field.{all_fields, index, top}
use Rattle.fields.specs.Hook.{hook_of}
use Rattle.fields.specs.Packet.{carries, is_first_of, key_of, PacketView as Packet, IsPacket, carries_key, checked, lacks_key, leftmost_fault, number_of_text, packet_at, shape_of, strays, strays_key, text_of, value_on, point}
use Rattle.fields.specs.values.Protocol.{carries_ports}
use Rattle.fields.proofs.laws.PacketLaws.{number_on_fits}
use Rattle.classify.proofs.laws.classifier.ClassifierLaws.{field_at}
use Rattle.rules.proofs.laws.BoxLaws.{here_is, index-lt}
use Rattle.fields.specs.numbers.Spans.{SpanSet, has}
use Rattle.rules.specs.Boxed.{IsBoxOf, set_on}
use Rattle.rules.specs.rule.Allows.{allows}
use Rattle.rules.specs.rule.Rules.{Rule}
use Rattle.fields.specs.declared.numbers.field.Field.TheVariants as field
use Rattle.fields.specs.declared.packet.hook.Hook.TheVariants as hook
use Rattle.questions.specs.asked.Laws.{LinesWritePacketsAtHooks}
use Rattle.questions.specs.boxes.Boxes.{IsAtHook, HasNumbers}
use Rattle.questions.specs.asked.Reason.{IsPossible}
use Rattle.questions.specs.steps.Sides.{HasOne}

-- ---- A packet that a line writes can be at its hook.

absent_fits : (f : Field) → (key_of f).absent ≤ top f
absent_fits field.Source = lit≤ tt
absent_fits _ = lit≤ tt

-- what words give a field is within its top
value_fits : (words : List (List ℕ)) (f : Field) → value_on words f ≤ top f
value_fits words f = by_text (text_of f words)
  where
    by_number : (text : List ℕ) (o : Option ℕ) → number_of_text f text ≡ o → unwrap_or o (key_of f).absent ≤ top f
    by_number text None e = absent_fits f
    by_number text (Some n) e = number_on_fits f text n e

    by_text : (o : Option (List ℕ)) → unwrap_or (o >>= λ text. number_of_text f text) (key_of f).absent ≤ top f
    by_text None = absent_fits f
    by_text (Some text) = by_number text (number_of_text f text) refl

pub at_index : (f : Field → ℕ) (g : Field) → slice_index (map f all_fields) (index g) ≡ f g
at_index f field.Source = refl
at_index f _ = refl

-- the numbers that words write at a hook
abbrev numbers : Hook → List (List ℕ) → Packet
numbers hook words = record { hook = hook; values = map (value_on words) all_fields }

-- where no protocol is given it is 0, whose packets carry no more than those of which none is known
by_protocol : (has : ℕ → Bool) (frag : ℕ) → has 0 ≡ false → (o : Option ℕ) → is_first_of has frag (Some (unwrap_or o 0)) ≡ is_first_of has frag o
by_protocol has frag none None = ap (λ b. b && (frag == 0)) none
by_protocol has frag none (Some n) = refl

-- the numbers that words write carry what the words carry
carries_alike : (hook : Hook) (words : List (List ℕ)) (f : Field) → carries_key (numbers hook words) f ≡ carries (shape_of hook words) (key_of f).carrier
carries_alike hook words field.SourcePort = by_protocol carries_ports (value_on words field.Fragment) refl (text_of field.Protocol words >>= λ text. number_of_text field.Protocol text)
carries_alike hook words field.DestinationPort = by_protocol carries_ports (value_on words field.Fragment) refl (text_of field.Protocol words >>= λ text. number_of_text field.Protocol text)
carries_alike hook words field.TcpFlags = by_protocol (λ n. n == 6) (value_on words field.Fragment) refl (text_of field.Protocol words >>= λ text. number_of_text field.Protocol text)
carries_alike hook words field.IcmpType = by_protocol (λ n. n == 1) (value_on words field.Fragment) refl (text_of field.Protocol words >>= λ text. number_of_text field.Protocol text)
carries_alike hook words _ = refl

-- a field that isn't carried, and of which no key strays, is what it is where no word gives it
not_given : (hook : Hook) (words : List (List ℕ)) (f : Field) → strays_key (shape_of hook words) words ≡ false → carries (shape_of hook words) (key_of f).carrier ≡ false → value_on words f ≡ (key_of f).absent
not_given hook words f none un = by_text (text_of f words) refl
  where
    by_text : (o : Option (List ℕ)) → text_of f words ≡ o → unwrap_or (o >>= λ text. number_of_text f text) (key_of f).absent ≡ (key_of f).absent
    by_text None e = refl
    by_text (Some text) e =
        let one : strays (shape_of hook words) words f ≡ true = ap (λ (o : Option (List ℕ)). is_some o && not (carries (shape_of hook words) (key_of f).carrier)) e ∙ ap not un in
        absurd (true≢false (sym (list_any_at (strays (shape_of hook words) words) all_fields (index f) f (index-lt f) (ap (strays (shape_of hook words) words) (here_is f f) ∙ one)) ∙ none))

-- what each packet carries is never missing; all else that is missing is 0
absent_is : (hook : Hook) (words : List (List ℕ)) (f : Field) → carries (shape_of hook words) (key_of f).carrier ≡ false → (key_of f).absent ≡ 0
absent_is hook words field.TimeToLive un = absurd (true≢false un)
absent_is hook words _ un = refl

at_hook : (hook : Hook) (words : List (List ℕ)) → strays_key (shape_of hook words) words ≡ false → IsAtHook (numbers hook words)
at_hook hook words none = record {
  packet = record { whole = refl; within = λ f. (let P : ℕ → Type 0 = λ n. n ≤ top f in subst P (sym (at_index (value_on words) f)) (value_fits words f)) };
  carried = λ f un. (
      let not_there : carries (shape_of hook words) (key_of f).carrier ≡ false = sym (carries_alike hook words f) ∙ un in
      at_index (value_on words) f ∙ not_given hook words f none not_there ∙ absent_is hook words f not_there);
}

-- by what was found of the words
by_checks : (hook : Hook) (words : List (List ℕ)) (p : Packet) (stray lack : Bool) → strays_key (shape_of hook words) words ≡ stray
    → ◌≡◌ {A = Result Packet PacketFault} (cond stray (Err NotCarried) (cond lack (Err KeyMissing) (Ok (numbers hook words)))) (Ok p) → IsAtHook p
by_checks hook words p true lack none e = absurd (cc)
by_checks hook words p false true none e = absurd (cc)
by_checks hook words p false false none e =
    let is : numbers hook words ≡ p = cc in
    rw is at (at_hook hook words none)

by_fault : (hook : Hook) (words : List (List ℕ)) (p : Packet) (o : Option PacketFault) → checked hook words o ≡ Ok p → IsAtHook p
by_fault hook words p (Some fault) e = absurd (cc)
by_fault hook words p None e = by_checks hook words p (strays_key (shape_of hook words) words) (lacks_key (shape_of hook words) words) refl e

by_hook : (o : Option Hook) (words : List (List ℕ)) (p : Packet) → packet_at o words ≡ Ok p → IsAtHook p
by_hook None words p e = absurd (cc)
by_hook (Some hook) words p e = by_fault hook words p (leftmost_fault [] words) e

pub written_at_hooks : LinesWritePacketsAtHooks
written_at_hooks [] p e = absurd (cc)
written_at_hooks (word ∷ words) p e = by_hook (hook_of word) words p e

-- packets at one hook with one number on each field are one packet
pub one_packet : (p q : Packet) → IsPacket p → IsPacket q → q.hook ≡ p.hook → ((f : Field) → point q f ≡ point p f) → q ≡ p
one_packet p q own other there each =
    let long : length q.values ≡ length p.values = other.whole ∙ sym own.whole in
    let same : q.values ≡ p.values = same_lists q.values p.values long (λ k d lt.
    let (f, at) = field_at k (omega (arith, lt, other.whole)) in
    get_or_default q.values k d 0 lt ∙ (rw (at) at (each f)) ∙ get_or_default p.values k 0 d (omega (arith, lt, long))) in
    let make : Hook → List ℕ → Packet = λ h values. record { hook = h; values = values } in
    ap (λ h. make h q.values) there ∙ ap (make p.hook) same

-- ---- Numbers that packets can have: each number up to a field's top is that of a packet that can be at a hook.

-- a box has a number on the field
abbrev pub HasNumberOn : List SpanSet → Field → Type 0
HasNumberOn box f = (x : ℕ) × (x ≤ top f) × (has (set_on f box) x ≡ true)

pub number_of_set : (box : List SpanSet) (f : Field) (set : SpanSet) → set.intervals ≡ set_on f box → set.top ≡ top f → HasOne set → HasNumberOn box f
number_of_set box f set same tops one =
    (one.0, rw tops at one.1, ap (λ is. has is one.0) (sym same) ∙ one.2)

-- a protocol whose packets carry the field
abbrev protocol_with : Field → ℕ
protocol_with field.SourcePort = 6
protocol_with field.DestinationPort = 6
protocol_with field.TcpFlags = 6
protocol_with field.IcmpType = 1
protocol_with field.Source = 0
protocol_with field.Destination = 0
protocol_with field.InIface = 0
protocol_with field.OutIface = 0
protocol_with field.Protocol = 0
protocol_with field.Fragment = 0
protocol_with field.ConnectionState = 0
protocol_with field.TimeToLive = 0

protocol_fits : (f : Field) → protocol_with f ≤ top field.Protocol
protocol_fits field.Source = lit≤ tt
protocol_fits _ = lit≤ tt

-- its number on a field: the one that is wanted, its protocol, and else 0
abbrev number_with : Field → ℕ → Field → ℕ
number_with f x g = cond (eqb (index g) (index f)) x (cond (eqb (index g) (index field.Protocol)) (protocol_with f) 0)

-- a packet with this number on the field
abbrev packet_having : Field → ℕ → Packet
packet_having f x = record { hook = hook.Forward; values = map (number_with f x) all_fields }

carries_it : (f : Field) (x : ℕ) → carries_key (packet_having f x) f ≡ true
carries_it field.Source x = refl
carries_it _ x = refl

carries_protocol : (p : Packet) → carries_key p field.Protocol ≡ true
carries_protocol p = refl

same_index : (f g : Field) → eqb (index g) (index f) ≡ true → f ≡ g
same_index f g e = sym (here_is f f) ∙ ap (λ k. get_or all_fields k f) (sym (eqb-true (index g) (index f) e)) ∙ here_is g f

can_have : (f : Field) (x : ℕ) → x ≤ top f → IsAtHook (packet_having f x)
can_have f x le = record { packet = record { whole = refl; within = within }; carried = carried }
  where
    within : (g : Field) → point (packet_having f x) g ≤ top g
    within g =
        let P : ℕ → Type 0 = λ n. n ≤ top g in
        let Q : Field → Type 0 = λ h. x ≤ top h in
        let R : Field → Type 0 = λ h. protocol_with f ≤ top h in
        subst P (sym (at_index (number_with f x) g))
        (cond_both (eqb (index g) (index f)) x (cond (eqb (index g) (index field.Protocol)) (protocol_with f) 0) P (λ e. subst Q (same_index f g e) le)
        (λ e. cond_both (eqb (index g) (index field.Protocol)) (protocol_with f) 0 P (λ i. subst R (same_index field.Protocol g i) (protocol_fits f)) (λ i. omega arith)))

    carried : (g : Field) → carries_key (packet_having f x) g ≡ false → point (packet_having f x) g ≡ 0
    carried g off =
        let Off : Field → Type 0 = λ h. carries_key (packet_having f x) h ≡ false in
        elim (cases_Bool (eqb (index g) (index f))) [
          | inl same ↦ absurd (true≢false (sym (carries_it f x) ∙ subst Off (sym (same_index f g same)) off))
          | inr apart ↦ elim (cases_Bool (eqb (index g) (index field.Protocol))) [
            | inl same ↦ absurd (true≢false (sym (carries_protocol (packet_having f x)) ∙ subst Off (sym (same_index field.Protocol g same)) off))
            | inr more ↦ at_index (number_with f x) g ∙ cond-false (eqb (index g) (index f)) x _ apart ∙ cond-false (eqb (index g) (index field.Protocol)) (protocol_with f) 0 more
          ]
        ]

-- a rule whose box has a number on each field allows one there that a packet can have
pub possible_of : (rule : Rule) (box : List SpanSet) → IsBoxOf rule box → HasNumbers box → IsPossible rule
possible_of rule box boxed some f impossible =
    let n = some f in
    let p : Packet = packet_having f n.0 in
    true≢false (sym n.2 ∙ boxed f n.0 n.1 ∙ ap (λ y. allows rule f y) (sym (at_index (number_with f n.0) f ∙ ap (λ b. cond b n.0 (cond (eqb (index f) (index field.Protocol)) (protocol_with f) 0)) (eq-eqb (index f) (index f) refl))) ∙ impossible p (can_have f n.0 n.1))
